-- In each arm the approximation is known; the products of constants, which the compiler folds, agree by computing.
use lib.Ieee.{round, of_bits, mul}
use Rattle.filter.specs.OnePole.{tan}
use Rattle.filter.proofs.OnePole.tan.Goals as goal

pub returns-in-Dirty : goal.returns-in-Dirty
unfolding tan round of_bits mul
returns-in-Dirty c = rw c.in-Dirty.is

pub returns-in-Fast : goal.returns-in-Fast
unfolding tan round of_bits mul
returns-in-Fast c = rw c.in-Fast.is

pub returns-in-Accurate : goal.returns-in-Accurate
unfolding tan round of_bits mul
returns-in-Accurate c = rw c.in-Accurate.is
