-- A key is the count, and where there is none it is 6.
use Rattle.std.proofs.Common.{◌≡◌, arith}
use lib.Ieee.{round, of_bits, of_int}
use Rattle.hihat.specs.SquareNoise.{level}
use Rattle.hihat.proofs.square_noise.SquareNoise.level.Goals as goal

pub returns-in-0 : goal.returns-in-0
unfolding level round of_bits of_int
returns-in-0 c = rw (← c.count_high.ensures.value, c.in-0.is)

pub returns-in-1 : goal.returns-in-1
unfolding level round of_bits of_int
returns-in-1 c = rw (← c.count_high.ensures.value, c.in-1.is)

pub returns-in-2 : goal.returns-in-2
unfolding level round of_bits of_int
returns-in-2 c = rw (← c.count_high.ensures.value, c.in-2.is)

pub returns-in-3 : goal.returns-in-3
unfolding level round of_bits of_int
returns-in-3 c = rw (← c.count_high.ensures.value, c.in-3.is)

pub returns-in-4 : goal.returns-in-4
unfolding level round of_bits of_int
returns-in-4 c = rw (← c.count_high.ensures.value, c.in-4.is)

pub returns-in-5 : goal.returns-in-5
unfolding level round of_bits of_int
returns-in-5 c = rw (← c.count_high.ensures.value, c.in-5.is)

pub returns-in_default : goal.returns-in_default
unfolding level round of_bits of_int
returns-in_default c = let six : c.count_high.result ≡ 6 = omega arith in rw (← c.count_high.ensures.value, six)
