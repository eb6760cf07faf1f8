-- Refusals of a voice's call, their numbers, what a call gives, and the questions. Definitions only.
use Rattle.std.specs.Prelude.{ℕ, zero, suc, ◌^◌, Bool, true, false, ◌&&◌, List, leb, Float, Result, Ok, Err}
use Rattle.std.specs.Float.{binary32}
use Rattle.std.specs.Float.Ieee.{le, round}
use Rattle.ieee754.specs.Single.{decimal}
use Rattle.refusal.specs.declared.Refusal.{Refusal}
use Rattle.refusal.specs.declared.Refusal.TheVariants.{SampleRate, BlockLength, Frequency, Accent, Knob}
use Rattle.refusal.specs.declared.Refused.{Refused}

-- the number that a user sees; 6, once a pitch past the tables, is retired and never given to another question, and those from 7 on are the sheet's
abbrev pub number : Refusal → ℕ
number SampleRate = 1
number BlockLength = 2
number Frequency = 3
number Accent = 4
number Knob = 5

-- the number of an answer, 0 where no question refuses
abbrev pub answer_number : {A : Type 0} → Result A Refusal → ℕ
answer_number (Ok x) = 0
answer_number (Err r) = number r

-- what a call hands back: the number, 0 where it is accepted, and the voice
abbrev pub call_number : {V : Type 0} → Result V (Refused V) → ℕ
call_number (Ok v) = 0
call_number (Err e) = number e.refusal

abbrev pub call_voice : {V : Type 0} → Result V (Refused V) → V
call_voice (Ok v) = v
call_voice (Err e) = e.voice

-- a question with its number, and the number that the questions after it give: the first that is not passed decides, and 0 says that all are
abbrev pub ask : Bool → ℕ → ℕ → ℕ
ask true n next = next
ask false n next = n

-- what a call of this number leaves: the new value where it is accepted, and the value as it was where it is refused
abbrev pub unless_refused : {A : Type 0} → ℕ → A → A → A
unless_refused zero new old = new
unless_refused (suc n) new old = old

-- ---- a call of a voice

-- what a call gives: its number, the voice after it and the lent buffer after it; `out` is empty where none is lent
pub record Call (State : Type 0) : Type 0 where
  pub number : ℕ
  pub state : State
  pub out : List Float

-- a call of the number n that makes a new state and a new buffer of the old ones: a refusal leaves both as they were
abbrev pub call : {State : Type 0} → ℕ → State → List Float → State → List Float → Call State
call n new_state new_out state out = record { number = n; state = unless_refused n new_state state; out = unless_refused n new_out out }

-- ---- the questions

-- a number from low to high: no comparison with a NaN holds
unfoldable pub within : Float → Float → Float → Bool
within low high x = le low x && le x high

-- 1: a number from 16000.0 to 96000.0
unfoldable pub is_sample_rate : Float → Bool
is_sample_rate x = within (decimal 16000 0) (decimal 96000 0) x

-- 2: at most 16,384 samples
abbrev pub is_block_length : ℕ → Bool
is_block_length samples = leb samples 16384

-- 3: a number from 2^-20 to 0.5
unfoldable pub is_frequency : Float → Bool
is_frequency f0 = within (round binary32 false 1 (2 ^ 20)) (decimal 5 1) f0

-- 4 and 5: a number from 0.0 to 1.0; -0.0 equals 0.0 and is one
unfoldable pub is_unit : Float → Bool
is_unit x = within (decimal 0 0) (decimal 1 0) x

-- 5, of the bass's decay alone: a number from 0.0 to 2.0
unfoldable pub is_bass_decay : Float → Bool
is_bass_decay x = within (decimal 0 0) (decimal 2 0) x

-- ---- the questions of a strike of the synthetic snare and of the hi-hat: those of their runs but for what is asked of the block, the pitch and the other knobs

unfoldable pub strike_refusal : Float → Float → Float → ℕ
strike_refusal sample_rate_hz accent decay =
    ask (is_sample_rate sample_rate_hz) 1
    (ask (is_unit accent) 4
    (ask (is_unit decay) 5 0))
