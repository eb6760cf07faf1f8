-- The walk over the lines: the judgment is that of the lines that are left.
use Rattle.std.proofs.Common.{◌≡◌, None, Some, refl, sym, ◌∙◌, arith}
use Rattle.std.proofs.lemmas.Result.{err_from_is_err_and}
use Rattle.cue_sheet.specs.Sheet.{on_told, judge_from, judge}
use Rattle.cue_sheet.specs.declared.answer.SheetRefusal.TheVariants.{FirstLine}
use Rattle.cue_sheet.proofs.Questions.{cue-passed}
use Rattle.cue_sheet.proofs.Walks.{rest, over, next_head, counted, judged}
use Rattle.cue_sheet.proofs.judge.Goals as goal

pub returns-in_err-head : goal.returns-in_err-head
unfolding judge on_told
returns-in_err-head c =
    let e = err_from_is_err_and c.from_residual.result c.from_residual.ensures.1 in
    let v = c.in_err-head.ensures.value in
    let none : c.read_first_line.result ≡ None = grind arith in
    let same : c.in_err-head.field-0.0 ≡ record { refusal = FirstLine; line = 1 } = grind arith in
    rw (e.1, e.2, same, ← c.split_line.ensures.first, ← c.read_first_line.ensures, none)

pub loop-line-init : goal.loop-line-init
unfolding judge on_told
loop-line-init c =
    let v = c.in_ok-head.ensures.value in
    let some : c.read_first_line.result ≡ Some c.in_ok-head.head = grind arith in
    let known = rw (c.split_line.ensures.first, some) at c.read_first_line.ensures in
    rw (c.into_iter-line-iterator.ensures.into_iter_gives, c.begin-line-items.ensures.walk, c.begin-line-items.ensures.rest)
    record { judged = rw (← known, rest); head = refl; cues = refl }

pub overflow_add-cues : goal.overflow_add-cues
overflow_add-cues c =
    let told = rw c.in_ok-line.was at c.in-Some.ensures.steps.told in
    omega (arith, (cue-passed _ _ (sym told)).few, c.loop-line.invariant.cues)

pub loop-line-preserved : goal.loop-line-preserved
unfolding on_told
loop-line-preserved c =
    let step = c.in-Some.ensures.steps in
    let told = rw c.in_ok-line.was at step.told in
    record {
      judged = c.loop-line.invariant.judged ∙ rw c.in_ok-line.was at (judged step);
      head = rw (step.walk, next_head) c.loop-line.invariant.head;
      cues = rw (step.walk, counted _ _ (sym told), c.loop-line.invariant.cues);
    }

pub returns-in_err-line : goal.returns-in_err-line
unfolding on_told
returns-in_err-line c =
    let e = err_from_is_err_and c.from_residual-in_err-line.result c.from_residual-in_err-line.ensures.1 in
    let place = rw c.in_err-line.was at c.in-Some.ensures.steps.place in
    rw (e.1, e.2, place) (sym (c.loop-line.invariant.judged ∙ rw c.in_err-line.was at (judged c.in-Some.ensures.steps)))

pub returns : goal.returns
unfolding judge_from
returns c =
    let known = c.loop-line.invariant in
    rw (← known.head, ← known.cues) (sym (known.judged ∙ rw (over _ c.in-None.ensures.steps.0)))
