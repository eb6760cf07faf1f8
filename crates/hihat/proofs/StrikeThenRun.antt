-- A run asks what `render` asks, a strike a part of it, and a struck voice has the settings of the one before: where all is passed the block is the same.
use Rattle.std.proofs.Common.{◌≡◌, ℕ, length, refl}
use lib.Ieee.{Float}
use Rattle.refusal.specs.Refusal.{is_sample_rate, is_block_length, is_frequency, is_unit, strike_refusal}
use Rattle.refusal.proofs.Rows.{accepted}
use Rattle.refusal.proofs.StrikeAndRun.{asked_again, last_counts}
use Rattle.hihat.specs.Hihat.{triggered, strike, settings, run_refusal}
use Rattle.hihat.specs.StrikeThenRun.{StrikeThenRun, LastStrikeCounts}
use Rattle.hihat.specs.declared.Knobs.{Knobs}
use Rattle.hihat.proofs.Rate.{strike_keeps_rate}

again : (hz : Float) (k : Knobs) (n : ℕ) → run_refusal hz k n ≡ 0 → strike_refusal hz k.accent k.decay ≡ 0
unfolding strike_refusal run_refusal
again hz k n = asked_again (is_sample_rate hz) (is_block_length n) (is_frequency k.f0) (is_unit k.accent) (is_unit k.tone) (is_unit k.decay) _

pub strike_then_run : StrikeThenRun
unfolding triggered settings
strike_then_run v kind k = record {
  triggered = λ out h. rw (again _ k (length out) h, h);
  accepted = λ out h. rw (← strike_keeps_rate v k.accent k.decay) (accepted (strike v k.accent k.decay).number _ h).1;
  untriggered = λ out h. refl;
  stands = λ out n h. rw h;
}

pub last_strike_counts : LastStrikeCounts
unfolding triggered
last_strike_counts =
    last_counts (λ v taken. strike_refusal v.sample_rate taken.0 taken.1) (λ v taken. triggered v taken.0 taken.1)
    (λ v first last. refl) (λ v first last. refl)
