use Rattle.std.proofs.Common.{◌≡◌}
use Rattle.text.specs.Read.{lines}
use Rattle.cue_sheet.specs.Sheet.{judge_from, judge}
use Rattle.cue_sheet.proofs.judge.Given as goal

abbrev pub invariant-loop-line : goal.invariant-loop-line
invariant-loop-line l = record {
  judged : judge l.sheet ≡ judge_from l.line-iterator.walk (lines l.line-iterator.rest.now);
  head : l.line-iterator.walk.head ≡ l.head;
  cues : l.line-iterator.walk.cues ≡ l.cues;
}
