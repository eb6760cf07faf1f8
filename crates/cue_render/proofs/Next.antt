-- The voice's next cue: a line that is none of its own adds nothing to its cues, and at the sheet's end none is left.
use Rattle.std.proofs.Common.{◌≡◌, sym, ap, ◌∙◌, ℕ, suc, List, [], ◌∷◌, length, drop}
use Rattle.std.specs.Prelude.{Option, Result, Ok, Err, Some, None, MatchOption, IsTrue}
use Rattle.std.specs.Iterator.{Yields, YieldsThen, FindsMapped}
use Rattle.std.specs.Iterator.Runs.{Run, SomeRun, CallKeepsClosure, AllItemsGive}
use Rattle.std.proofs.iter.runs.Lists.{none-some, Everywhere, steady}
use Rattle.std.proofs.iter.runs.Made.{took, each_of}
use denote.Param.Members.{Mut, Called}
use Rattle.text.specs.Read.{first_line}
use Rattle.cue_sheet.specs.Walks.{Walked, walks}
use Rattle.cue_sheet.specs.Sheet.{begin, on_told, strikes_from, strikes}
use Rattle.cue_sheet.specs.declared.Head.{Head}
use Rattle.cue_sheet.specs.declared.line.Strike.{Strike}
use Rattle.cue_sheet.specs.declared.walk.CueLines.{CueLines}
use Rattle.cue_sheet.specs.declared.walk.RefusedAt.{RefusedAt}
use Rattle.cue_sheet.proofs.Walks.{rest, over, struck}
use Rattle.track.specs.Track.{Calls, Player}
use Rattle.track.specs.Own.{Own, on_own, owns}
use Rattle.cue_render.specs.declared.own_track.OwnCue.{OwnCue}
use Rattle.cue_render.specs.Run.{left, from_next}

-- the lines after the first are all that a sheet's cues are read from
pub all_lines : (head : Head) (sheet : List ℕ) (first : CueLines) → first.rest.now ≡ drop (length (first_line sheet)) sheet → first.walk ≡ begin head
    → left first ≡ strikes head sheet
unfolding strikes
all_lines head sheet first behind walk = rw (behind, walk, rest sheet)

module _ {Voice Sets : Type 0} (p : Player Voice) (calls : Sets → Calls Voice) where
  -- a line's own cue, if it says one, and those after it; the same of the closure's answer
  abbrev of_line : Result Strike RefusedAt → List (Own Voice) → List (Own Voice)
  of_line (Ok s) os = on_own s.start (p.calls s.cue) os
  of_line (Err e) os = os

  abbrev of_answer : Option (OwnCue Sets) → List (Own Voice) → List (Own Voice)
  of_answer None os = os
  of_answer (Some c) os = record { start = c.start; calls = calls c.sets } ∷ os

  passed : {s t : CueLines} (line : Result Strike RefusedAt) → Walked s line t → owns p (left s) ≡ of_line line (owns p (left t))
  unfolding owns on_told
  passed (Ok s) step = ap (owns p) (struck step)
  passed (Err e) step = ap (owns p) (struck step)

  over_all : (s : CueLines) → length s.rest.now ≡ 0 → owns p (left s) ≡ []
  unfolding owns strikes_from
  over_all s e = rw (over s.rest.now e)

  -- `find_map` by a closure that answers with a line's own cue, and stays as it was: `ran` says which lines came before an answer, and `runs` that without an
  -- answer all lines came
  module _ {F : Type 0} (g : Mut F (Result Strike RefusedAt × Unit {0}) (Option (OwnCue Sets))) (f : F) (keeps : CallKeepsClosure g f)
      (answers : (e : F) (line : Result Strike RefusedAt) (r : Option (OwnCue Sets)) (e' : F) → Called g e (line, tt) r e' → (os : List (Own Voice)) → of_line line os ≡ of_answer r os) where
    skipped : (lines : List (Result Strike RefusedAt)) (s t : CueLines) → Yields walks s lines t → Everywhere lines (λ line. Called g f (line, tt) None f)
        → owns p (left s) ≡ owns p (left t)
    skipped [] s t same none = ap (λ (c : CueLines). owns p (left c)) same
    skipped (line ∷ lines) s t gave none = passed line gave.1 ∙ answers f line None f (none 0) _ ∙ skipped lines gave.0 t gave.2 (λ k. none (suc k))

    pub found : (Q : Run walks → OwnCue Sets → Type 0) (s t : CueLines) (r : Option (OwnCue Sets)) → FindsMapped walks g s f r t
        → SomeRun walks s (λ u. MatchOption r (IsTrue u.whole × AllItemsGive u g f None) (Q u)) → owns p (left s) ≡ from_next calls r (owns p (left t))
    found Q s t None ran runs =
        let d = took runs.0 in
        ap (λ (c : CueLines). owns p (left c)) (sym runs.1)
        ∙ skipped runs.0.items runs.0.from d.0 d.1 (each_of runs.0 _ (runs.2.1 keeps))
        ∙ over_all d.0 (d.2 runs.2.0).1.0
    found Q s t (Some c) ran runs = go ran.1 ran.3 ran.5
      where
        go : (o : Option (Result Strike RefusedAt)) → YieldsThen walks s ran.0 o t → MatchOption o (Some c ≡ None) (λ line. (e : F) × Called g ran.2 (line, tt) (Some c) e)
            → owns p (left s) ≡ from_next calls (Some c) (owns p (left t))
        go None gave stopped = absurd (none-some c (sym stopped))
        go (Some line) gave stopped =
            skipped ran.0 s gave.0 gave.1 (steady _ f (λ x e k. keeps (x, tt) None e k) ran.0 ran.2 ran.4).1
            ∙ passed line gave.2
            ∙ answers ran.2 line (Some c) stopped.0 stopped.1 _
