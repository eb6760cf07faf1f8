-- Any audio block length: an accepted block is a block over its first samples and then blocks over the others, each given what is left of n. For every record,
-- its noise state in it, whether calls reach it or not, and every n. Definitions only.
use Rattle.std.specs.Prelude.{ℕ, ◌≡◌, ◌-◌, length, Float}
use mathlib.Core.List.{List, ◌++◌}
use Rattle.refusal.specs.Refusal.{Call, unless_refused}
use Rattle.refusal.specs.Rows.{both}
use Rattle.synthetic_bass_drum.specs.Transient.{render}
use Rattle.synthetic_bass_drum.specs.declared.SyntheticBassDrumTransient.{SyntheticBassDrumTransient}

-- a block of a + b samples with n is a block of a with n, and then one of b with n - a, which is 0 where n is below a
abbrev pub AnyBlockLength : Type 0
AnyBlockLength = (t : SyntheticBassDrumTransient) (n : ℕ) (a b : List Float) → (render t n (a ++ b)).number ≡ 0
    → render t n (a ++ b) ≡ both (render t n a) (render (render t n a).state (n - length a) b)

-- the block form with n beside the record: an accepted block leaves n less its length, or 0. The theorem of any number of blocks is InRows counted
abbrev pub counted : SyntheticBassDrumTransient × ℕ → List Float → Call (SyntheticBassDrumTransient × ℕ)
counted s out =
    let c = render s.0 s.1 out in
    record { number = c.number; state = (c.state, unless_refused c.number (s.1 - length out) s.1); out = c.out }
