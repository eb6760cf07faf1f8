-- The walk over the lines of a sheet, of whoever judges it and of whoever goes over its cues.
use Rattle.std.proofs.Common.{◌≡◌, ℕ, ◌+◌, ◌<◌, false, List, [], ◌∷◌, length, drop, sym, refl, arith, length-drop}
use Rattle.std.specs.Prelude.{Result, ◌==◌}
use borrow.Author.Tests.{eqb-false}
use Rattle.text.specs.Read.{lines, first_line}
use Rattle.text.proofs.Lines.{line_next}
use Rattle.cue_sheet.specs.Answer.{says, refused}
use Rattle.cue_sheet.specs.declared.line.Strike.{Strike}
use Rattle.cue_sheet.specs.CueLine.{read_cue}
use Rattle.cue_sheet.specs.Sheet.{refused_at, on_told, next, judge_from, strikes_from}
use Rattle.cue_sheet.specs.Walks.{told_at, Walked}
use Rattle.cue_sheet.specs.declared.line.Walk.{Walk}
use Rattle.cue_sheet.specs.declared.walk.RefusedAt.{RefusedAt}
use Rattle.cue_sheet.specs.declared.walk.CueLines.{CueLines}

-- the lines after the first
pub rest : (sheet : List ℕ) → drop 1 (lines sheet) ≡ lines (drop (length (first_line sheet)) sheet)
unfolding lines first_line
rest [] = refl
rest (x ∷ xs) = rw (line_next (x ∷ xs) (omega arith)).1

pub over : (s : List ℕ) → length s ≡ 0 → lines s ≡ []
unfolding lines first_line
over [] h = refl
over (x ∷ xs) h = absurd (omega arith)

pub some : (s : List ℕ) → false ≡ (length s == 0) → 0 < length s
some s e = let other = eqb-false (length s) 0 (sym e) in omega (arith, other)

-- less is left after a line
pub less : (s : List ℕ) → 0 < length s → length (drop (length (first_line s)) s) < length s
less s more = omega (arith, length-drop (length (first_line s)) s, (line_next s more).0)

-- ---- one line after the other
module _ (w : Walk) (line : List ℕ) where
  pub next_head : (next w line).head ≡ w.head
  unfolding next
  next_head = refl

  -- a cue is counted
  pub counted : {s : Strike} → read_cue w line ≡ says s → (next w line).cues ≡ w.cues + 1
  unfolding next on_told
  counted e = rw e

  -- the least start is kept, or is one above the cue's
  pub least_kept : {n : ℕ} → read_cue w line ≡ refused n → (next w line).least_start ≡ w.least_start
  unfolding next on_told
  least_kept e = rw e

  pub least_raised : {s : Strike} → read_cue w line ≡ says s → (next w line).least_start ≡ s.start + 1
  unfolding next on_told
  least_raised e = rw e

-- a step of the walk: the judgment from there on, and the cues, that of the line first, if it is one
module _ {s t : CueLines} {line : Result Strike RefusedAt} (step : Walked s line t) where
  pub judged : judge_from s.walk (lines s.rest.now) ≡ on_told (told_at line) (λ n. refused_at n s.walk.line) λ _. judge_from t.walk (lines t.rest.now)
  unfolding judge_from
  judged = rw ((line_next s.rest.now step.more).1, step.told, step.walk, step.rest)

  pub struck : strikes_from s.walk (lines s.rest.now) ≡ on_told (told_at line) (λ _ strikes. strikes) ◌∷◌ (strikes_from t.walk (lines t.rest.now))
  unfolding strikes_from
  struck = rw ((line_next s.rest.now step.more).1, step.told, step.walk, step.rest)
