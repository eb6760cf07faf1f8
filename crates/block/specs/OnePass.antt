-- THE PORT'S OWN, which private contracts alone cite: stages in one pass, each sample through all of them in turn. Definitions only.
use Rattle.std.specs.Prelude.{Float}
use Rattle.block.specs.declared.Turn.{Turn}

-- a sample through the first stage, and what that makes of it through the second
abbrev pub then : {S : Type 0} → (S → Float → Turn S) → (S → Float → Turn S) → S → Float → Turn S
then f g s x = g (f s x).next (f s x).sample
