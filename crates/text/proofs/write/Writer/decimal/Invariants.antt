use Rattle.std.proofs.Common.{◌≡◌, ◌^◌, ◌<◌, ◌≤◌, ◌++◌, length, drop}
use Rattle.text.specs.Write.{decimal}
use Rattle.text.proofs.write.Writer.decimal.Given as goal

abbrev pub invariant-loop-left : goal.invariant-loop-left
invariant-loop-left l = record {
  long : length l.digits ≡ 20;
  within : l.first ≤ 20;
  room : l.left < 10 ^ l.first;
  digits : decimal l.left ++ drop l.first l.digits ≡ decimal l.n;
}

abbrev pub decreases-loop-left : goal.decreases-loop-left
decreases-loop-left l = l.left
