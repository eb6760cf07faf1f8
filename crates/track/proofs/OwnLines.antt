-- Equal cue lines of a voice give it equal cues, and its cues alone make its track: so two sheets that agree on them, on rate and on length give it the same.
use Prim.Native.Nat.{ℕ}
use native.Mathlib.Omega.{arith}
use mathlib.Core.Path.{◌≡◌, refl, sym, ap, ap₂, ◌∙◌}
use mathlib.Core.Bool.{Bool, cond}
use mathlib.Core.List.{List, [], ◌∷◌}
use mathlib.Core.Option.{Option, none, some}
use Rattle.std.specs.Prelude.{Some}
use Rattle.std.specs.Option.{option_map_or}
use lib.Dec.{eqb}
use Rattle.std.proofs.lemmas.Bool.Decides.{nat_tests}
use Rattle.text.specs.Read.{body, field}
use Rattle.cue_sheet.specs.Answer.{Told, says, refused}
use Rattle.cue_sheet.specs.Fields.{voice_of, letter, read_fields}
use Rattle.cue_sheet.specs.CueLine.{cue, cue_of, read_cue}
use Rattle.cue_sheet.specs.declared.line.Strike.{Strike}
use Rattle.cue_sheet.specs.Sheet.{accepted, refused_at, on_told, next, judge_from, judge, strikes_from, strikes}
use Rattle.cue_sheet.specs.declared.Head.{Head}
use Rattle.cue_sheet.specs.declared.line.Walk.{Walk}
use Rattle.cue_sheet.specs.declared.voice.Voice.{Voice as CueVoice}
use Rattle.cue_sheet.specs.declared.voice.Voice.TheVariants.{Bass, Snare, SyntheticSnare, Hihat}
use Rattle.cue_sheet.proofs.Fields.{voice-read}
use Rattle.cue_sheet.proofs.Questions.{cue-passed}
use Rattle.cue_sheet.proofs.FirstLines.{accepted_head, accepted-lines}
use Rattle.track.specs.Track.{Calls, Player, started, track}
use Rattle.track.specs.Letters.{letter_of}
use Rattle.track.specs.OwnLines.{lines_of, cue_lines, OwnLinesOnly}
use Rattle.track.specs.Lawful.{is_own, Lawful}
use Rattle.track.proofs.Cues.{cues_of}
use Rattle.track.proofs.Accepts.{sheet-rate}
use Rattle.track.specs.Own.{Own, on_own, owns, solo}
use Rattle.track.proofs.Alone.{alone}

-- ---- a line's letter is that of its cue's voice
letter-read : (line : List ℕ) {f : _} → read_fields line ≡ Some f → letter_of (cue_of f) ≡ letter (field 1 (body line))
unfolding cue_of voice_of
letter-read line {f} e = go (letter (field 1 (body line))) f.voice (voice-read line e)
  where
    go : (x : ℕ) (v : CueVoice) → voice_of x ≡ Some v → letter_of (cue v f.accent f.f0 f.a f.decay f.c) ≡ x
    go x Bass h = grind (arith, nat_tests)
    go x Snare h = grind (arith, nat_tests)
    go x SyntheticSnare h = grind (arith, nat_tests)
    go x Hihat h = grind (arith, nat_tests)

-- ---- the cues that a voice's lines stand for, each line read by itself
owns_of : {Voice : Type 0} → Player Voice → List (List ℕ) → List (Own Voice)
owns_of p [] = []
owns_of p (line ∷ ls) = let os = owns_of p ls in option_map_or (λ f. on_own f.start (p.calls (cue_of f)) os) (read_fields line) os

module _ {Voice : Type 0} (p : Player Voice) (laws : Lawful p) where
  -- a line of another voice is no cue of this one
  line_owns : (line : List ℕ) {f : _} → read_fields line ≡ Some f → (ls : List (List ℕ))
      → on_own f.start (p.calls (cue_of f)) (owns_of p (lines_of p.letter ls)) ≡ owns_of p (lines_of p.letter (line ∷ ls))
  unfolding lines_of owns_of on_own is_own
  line_owns line {f} formed ls =
      go (p.calls (cue_of f)) refl
      ∙ ap (λ (own : Bool). owns_of p (cond own (line ∷ lines_of p.letter ls) (lines_of p.letter ls)))
      (laws.own (cue_of f) ∙ ap (λ (x : ℕ). eqb x p.letter) (letter-read line formed))
    where
      go : (o : Option (Calls Voice)) → p.calls (cue_of f) ≡ o
          → on_own f.start o (owns_of p (lines_of p.letter ls)) ≡ owns_of p (cond (is_own o) (line ∷ lines_of p.letter ls) (lines_of p.letter ls))
      go none e = refl
      go (some calls) e = rw (formed, e)

  -- the cues of an accepted sheet's lines
  lines_own : (w : Walk) (ls : List (List ℕ)) {head : Head} {cues : ℕ} → judge_from w ls ≡ accepted head cues → owns p (strikes_from w ls) ≡ owns_of p (lines_of p.letter ls)
  unfolding judge_from strikes_from on_told owns owns_of lines_of
  lines_own w [] h = refl
  lines_own w (line ∷ ls) {head} {cues} h = go (read_cue w line) refl h (lines_own (next w line) ls)
    where
      go : (x : Told Strike) → read_cue w line ≡ x → on_told x (λ n. refused_at n w.line) (λ _. judge_from (next w line) ls) ≡ accepted head cues
          → (judge_from (next w line) ls ≡ accepted head cues → owns p (strikes_from (next w line) ls) ≡ owns_of p (lines_of p.letter ls))
          → owns p (on_told x (λ _ strikes. strikes) ◌∷◌ (strikes_from (next w line) ls)) ≡ owns_of p (lines_of p.letter (line ∷ ls))
      go (says s) e h ih =
          let q = cue-passed w line e in
          ap₂ (λ (t : Strike) (os : List (Own Voice)). on_own t.start (p.calls t.cue) os) q.read (ih h) ∙ line_owns line q.formed ls
      go (refused n) e h ih = let z : ◌≡◌ {A = ℕ} 0 1 = cc in absurd (omega arith)

  -- ---- the theorem
  sheet_owns : (sheet : List ℕ) {head : Head} {cues : ℕ} → judge sheet ≡ accepted head cues → owns p (strikes head sheet) ≡ owns_of p (cue_lines p.letter sheet)
  unfolding strikes
  sheet_owns sheet h = lines_own _ _ (accepted-lines sheet h)

  pub own_lines_only : OwnLinesOnly p
  unfolding track
  own_lines_only sheet sheet' head cues cues' h h' same =
      let rate = sheet-rate head (accepted_head sheet h) in
      let short = (accepted_head sheet h).longest in
      let ready = laws.init_ready _ rate in
      alone p laws head.length short (strikes head sheet) (cues_of head sheet) _ ready
      ∙ ap (solo head.length (started p head).state) (sheet_owns sheet h ∙ rw same (sym (sheet_owns sheet' h')))
      ∙ sym (alone p laws head.length short (strikes head sheet') (cues_of head sheet') _ ready)
