-- The cues of a sheet, as a walk over its lines finds them.
use Prim.Native.Nat.{ℕ, ◌≤◌, ◌<◌}
use native.Mathlib.Omega.{arith}
use mathlib.Core.Path.{◌≡◌, refl, ap, ◌∙◌}
use mathlib.Core.List.{List, [], ◌∷◌}
use Rattle.cue_sheet.specs.Answer.{Told, says, refused}
use Rattle.cue_sheet.specs.declared.line.Strike.{Strike}
use Rattle.cue_sheet.specs.CueLine.{read_cue}
use Rattle.cue_sheet.specs.Sheet.{on_told, next, strikes_from, strikes}
use Rattle.cue_sheet.specs.declared.Head.{Head}
use Rattle.cue_sheet.specs.declared.line.Walk.{Walk}
use Rattle.cue_sheet.specs.Knobs.{KnobsOf}
use Rattle.cue_sheet.proofs.Questions.{cue-passed}
use Rattle.cue_sheet.proofs.Walks.{next_head, least_kept, least_raised}
use Rattle.track.specs.Track.{until}

-- from a place on they do not fall, none is past the sheet's end, and their knobs have passed their questions
unfoldable pub CuesIn : ℕ → ℕ → List Strike → Type 0
CuesIn length from [] = from ≤ length
CuesIn length from (s ∷ ss) = (from ≤ s.start) × KnobsOf s.cue × CuesIn length s.start ss

pub until_in : (length from : ℕ) (ss : List Strike) → CuesIn length from ss → (from ≤ until length ss) × (until length ss ≤ length)
unfolding CuesIn until
until_in length from [] cues = (cues, omega arith)
until_in length from (s ∷ ss) cues = (cues.0, let b = until_in length s.start ss cues.2 in omega (arith, b.0, b.1))

pub earlier : (length from to : ℕ) (ss : List Strike) → from ≤ to → CuesIn length to ss → CuesIn length from ss
unfolding CuesIn
earlier length from to [] h cues = omega arith
earlier length from to (s ∷ ss) h cues = (omega arith, cues.1, cues.2)

pub cues_from : (length : ℕ) (w : Walk) (ls : List (List ℕ)) → w.head.length ≡ length → w.least_start ≤ length → CuesIn length w.least_start (strikes_from w ls)
unfolding strikes_from on_told CuesIn
cues_from length w [] same h = h
cues_from length w (line ∷ ls) same h = go (read_cue w line) refl (cues_from length (next w line) ls (ap (λ (k : Head). k.length) (next_head w line) ∙ same))
  where
    go : (x : Told Strike) → read_cue w line ≡ x
        → ((next w line).least_start ≤ length → CuesIn length (next w line).least_start (strikes_from (next w line) ls))
        → CuesIn length w.least_start (on_told x (λ _ strikes. strikes) ◌∷◌ (strikes_from (next w line) ls))
    go (refused n) e ih =
        let kept = least_kept w line e in
        earlier length w.least_start (next w line).least_start (strikes_from (next w line) ls) (omega (arith, kept)) (ih (omega (arith, kept)))
    go (says s) e ih =
        let q = cue-passed w line e in
        let raised = least_raised w line e in
        let below : s.start < length = rw same at q.inside in
        (q.least, q.knobs, earlier length s.start (next w line).least_start (strikes_from (next w line) ls) (omega (arith, raised)) (ih (omega (arith, raised))))

pub cues_of : (head : Head) (sheet : List ℕ) → CuesIn head.length 0 (strikes head sheet)
unfolding strikes
cues_of head sheet = cues_from head.length _ _ refl (omega arith)
