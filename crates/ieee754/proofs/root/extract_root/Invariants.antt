use Prim.Native.Nat.{suc, ◌*◌, ◌^◌, ◌<◌}
use Rattle.ieee754.proofs.root.extract_root.Given as goal

abbrev pub invariant-loop-root : goal.invariant-loop-root
invariant-loop-root l = (l.root < 2 ^ 27) × (l.n < suc l.root * suc l.root)

abbrev pub decreases-loop-root : goal.decreases-loop-root
decreases-loop-root l = l.root
