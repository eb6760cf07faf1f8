-- Past the tables' end a longer decay changes nothing: from 3fcccccc (1.5999999) on a run is that with 3fcccccb, the last decay whose pitch has a place
-- in them and the last for which the Rust does not panic. Definitions only.
use Rattle.std.specs.Prelude.{ℕ, ◌+◌, ◌≡◌, List, T, Float}
use Rattle.std.specs.Float.{binary32}
use Rattle.std.specs.Float.Ieee.{of_bits, le}
use Rattle.ieee754.specs.Single.{◌⊗◌, decimal}
use Rattle.refusal.specs.Refusal.{within}
use Rattle.units.specs.Units.{pitch_of}
use Rattle.units.specs.Accuracy.{InTables}
use Rattle.analog_bass_drum.specs.AnalogBassDrum.{run}
use Rattle.analog_bass_drum.specs.declared.AnalogBassDrum.{AnalogBassDrum}
use Rattle.analog_bass_drum.specs.declared.Knobs.{Knobs}

abbrev pub last_pattern : ℕ
last_pattern = 0x3fcccccb

-- neighbours: no decay lies between the two
abbrev pub last_in_tables : Float
last_in_tables = of_bits binary32 last_pattern

abbrev pub first_past : Float
first_past = of_bits binary32 (last_pattern + 1)

-- the knobs with another decay
abbrev pub with_decay : Float → Knobs → Knobs
with_decay decay k = record {
  f0 = k.f0;
  tone = k.tone;
  decay = decay;
  attack_fm_amount = k.attack_fm_amount;
  self_fm_amount = k.self_fm_amount;
}

-- the pitch at which `semitones_to_ratio(decay * 80.0)` reads the tables
abbrev pub decay_pitch : Float → Float
decay_pitch decay = pitch_of (decay ⊗ decimal 80 0)

abbrev pub IsPast : Float → Type 0
IsPast decay = T (within first_past (decimal 2 0) decay)

-- last_in_tables has a place in the tables; first_past and every longer decay have none, and a run with one of them is the run with last_in_tables
pub record HeldDecay : Type 0 where
  pub last : InTables (decay_pitch last_in_tables)
  pub past : (decay : Float) → IsPast decay → T (le (decimal 256 0) (decay_pitch decay))
  pub same : (v : AnalogBassDrum) (k : Knobs) (out : List Float) → IsPast k.decay → run v k out ≡ run v (with_decay last_in_tables k) out
