-- What a block's length answers to its question. Definitions only.
use Rattle.std.specs.Prelude.{ℕ, ◌≡◌, true, false, Result, IfOk, IfErr}
use Rattle.refusal.specs.declared.BlockLength.{BlockLength as Length}
use Rattle.refusal.specs.declared.Refusal.{Refusal}
use Rattle.refusal.specs.declared.Refusal.TheVariants.{BlockLength}
use Rattle.refusal.specs.Refusal.{is_block_length}

abbrev pub LengthAsked : ℕ → Result Length Refusal → Type 0
LengthAsked samples r = IfOk r (λ n. (is_block_length samples ≡ true) × (n ≡ samples)) × IfErr r (λ e. (is_block_length samples ≡ false) × (e ≡ BlockLength))
