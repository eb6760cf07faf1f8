-- A pattern that fits is read back as the value.
use borrow.Author.Tests.{eqb-true, eq-eqb}
use mathlib.Core.Path.{ap}
use lib.Ieee.{binary32, to_bits}
use Rattle.ieee754.proofs.Fields.{one_value}
use Rattle.ieee754.proofs.operations.is_same.Goals as goal

pub returns : goal.returns
returns c = let g = c.well_formed in rw (c.to_bits.ensures, c.to_bits-2.ensures)
    (λ h. one_value binary32 _ _ (rw g.0.1 tt) (rw g.1.0.1 tt) (eqb-true _ _ h), λ h. eq-eqb _ _ (ap (to_bits binary32) h))
