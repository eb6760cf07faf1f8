-- The first line that is left, by what it says; a cue leaves room to count on.
use Rattle.std.proofs.Common.{sym, refl, arith}
use Rattle.cue_sheet.specs.Sheet.{next, on_told}
use Rattle.cue_sheet.proofs.Questions.{cue-passed}
use Rattle.cue_sheet.proofs.Walks.{some, less}
use Rattle.cue_sheet.proofs.walk.CueLinesIterator.next.Goals as goal

pub overflow_add-self : goal.overflow_add-self
overflow_add-self c = omega (arith, (cue-passed _ _ (sym c.in-Ok.ensures)).few)

pub overflow_add-self-in-Ok : goal.overflow_add-self-in-Ok
overflow_add-self-in-Ok c = let p = cue-passed _ _ (sym c.in-Ok.ensures) in omega (arith, p.inside)

pub returns-in-Ok-clause-steps : goal.returns-in-Ok-clause-steps
unfolding next on_told
returns-in-Ok-clause-steps c =
    let known = rw c.split_line.ensures.first at c.in-Ok.ensures in
    record { more = some _ c.if-is_empty.ensures; told = known; place = tt; walk = rw (← known); rest = c.split_line.ensures.rest }

pub returns-in-Ok-clause-goes : goal.returns-in-Ok-clause-goes
returns-in-Ok-clause-goes c = record {
  on = λ _. (tt, tt, rw c.split_line.ensures.rest (less _ (some _ c.if-is_empty.ensures)));
  keeps = tt;
  rests = λ _. tt;
}

pub returns-in-Err-clause-steps : goal.returns-in-Err-clause-steps
unfolding next on_told
returns-in-Err-clause-steps c =
    let known = rw c.split_line.ensures.first at c.in-Err.ensures in
    record { more = some _ c.if-is_empty.ensures; told = known; place = refl; walk = rw (← known); rest = c.split_line.ensures.rest }

pub returns-in-Err-clause-goes : goal.returns-in-Err-clause-goes
returns-in-Err-clause-goes c = record {
  on = λ _. (tt, tt, rw c.split_line.ensures.rest (less _ (some _ c.if-is_empty.ensures)));
  keeps = tt;
  rests = λ _. tt;
}
