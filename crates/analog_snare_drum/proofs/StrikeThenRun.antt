-- `render` asks what the two calls ask, and where all is passed the block is the same.
use mathlib.Core.Path.{◌≡◌, refl}
use mathlib.Core.Bool.{true}
use Prim.Native.Nat.{ℕ}
use lib.ListN.{length}
use lib.Ieee.{Float}
use Rattle.refusal.specs.Refusal.{ask, is_block_length, is_frequency, is_unit}
use Rattle.refusal.proofs.Rows.{accepted}
use Rattle.refusal.proofs.StrikeAndRun.{asked_in_two, last_counts}
use Rattle.analog_snare_drum.specs.AnalogSnareDrum.{triggered, knobs_refusal, run_refusal, render_refusal}
use Rattle.analog_snare_drum.specs.StrikeThenRun.{StrikeThenRun, LastStrikeCounts}
use Rattle.analog_snare_drum.specs.declared.Knobs.{Knobs}

questions : (accent : Float) (k : Knobs) (n : ℕ)
    → let parts = (ask (is_unit accent) 4 0 ≡ 0) × (run_refusal k n ≡ 0) in
    (render_refusal accent k n ≡ 0 → parts) × (parts → render_refusal accent k n ≡ 0)
unfolding knobs_refusal render_refusal run_refusal
questions accent k n = asked_in_two (is_block_length n) (is_frequency k.f0) (is_unit accent) _

-- where the accent passes its question, `render` asks what a run asks: the two have one number, 0 or that of a refusal
pub same_questions : (accent : Float) (k : Knobs) (n : ℕ) → is_unit accent ≡ true → render_refusal accent k n ≡ run_refusal k n
unfolding knobs_refusal render_refusal run_refusal
same_questions accent k n h = rw h

pub strike_then_run : StrikeThenRun
strike_then_run v accent k = record {
  triggered = λ out h. let p = (questions accent k (length out)).0 h in rw (h, p.0, p.1);
  accepted = λ out h. (questions accent k (length out)).1 (accepted _ _ h);
  untriggered = λ out h. rw (h, ((questions accent k (length out)).0 h).1);
  stands = λ out n h. rw h;
}

pub last_strike_counts : LastStrikeCounts
unfolding triggered
last_strike_counts = last_counts (λ v accent. ask (is_unit accent) 4 0) triggered (λ v first last. refl) (λ v first last. refl)
