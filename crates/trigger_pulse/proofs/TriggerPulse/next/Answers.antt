-- The arms are the definition's: none remains, the last one does, or more.
use borrow.Author.Tests.{ne_eqb}
use mathlib.Core.Path.{◌≡◌}
use Prim.Native.Nat.{suc}
use native.Mathlib.Omega.{arith}
use lib.Ieee.{round, of_bits}
use Rattle.trigger_pulse.specs.TriggerPulse.{next}
use Rattle.trigger_pulse.proofs.TriggerPulse.next.Goals as goal

pub returns-in-None : goal.returns-in-None
unfolding next round of_bits
returns-in-None c =
    let h = c.in-None.ensures in
    let none : c.args.self.remaining_samples ≡ 0 = omega arith in
    rw none

pub returns-in-Some-eq0 : goal.returns-in-Some-eq0
unfolding next round of_bits
returns-in-Some-eq0 c =
    let h = c.in-Some-eq0.ensures in
    let last : c.args.self.remaining_samples ≡ 1 = omega arith in
    rw last

pub returns-in-Some : goal.returns-in-Some
unfolding next round of_bits
returns-in-Some c =
    let n = c.in-Some.remaining_samples in
    let h = c.in-Some.ensures in
    let more : c.args.self.remaining_samples ≡ suc n = omega arith in
    rw (more, ne_eqb n 0 c.in-Some.remaining_samples-test.1)
