-- One comparison decides as the Rust's does.
use mathlib.Core.Path.{sym, ◌∙◌}
use lib.Ieee.{round, of_bits}
use Rattle.synthetic_snare_drum.proofs.Folding.{folds}
use Rattle.synthetic_snare_drum.proofs.folded.Goals as goal

pub returns-then-phase-rest : goal.returns-then-phase-rest
unfolding round of_bits
returns-then-phase-rest c = rw (sym (folds c.args.phase) ∙ c.if-phase-rest.true)

pub returns-else-phase-rest : goal.returns-else-phase-rest
unfolding round of_bits
returns-else-phase-rest c = rw (sym (folds c.args.phase) ∙ c.if-phase-rest.false)
