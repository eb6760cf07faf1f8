use Rattle.std.proofs.Common.{◌≡◌, ◌≤◌, ◌/◌, ◌^◌, take}
use Rattle.std.specs.List.{sum_by}
use Rattle.hihat.proofs.square_noise.count_high.Given as goal

abbrev pub invariant-loop-p : goal.invariant-loop-p
invariant-loop-p l = (l.noise ≡ sum_by (λ p. p / 2 ^ 31) (take l.p-index l.p-items)) × (l.noise ≤ l.p-index)
