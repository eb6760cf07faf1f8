-- No call that a sheet makes of a voice is refused: a voice that is ready accepts each, and stays so.
use Prim.Native.Nat.{ℕ, ◌-◌, ◌^◌, ◌≤◌}
use native.Mathlib.Omega.{arith}
use mathlib.Core.Path.{◌≡◌}
use mathlib.Core.Bool.{true, false}
use mathlib.Core.List.{List, [], ◌∷◌}
use mathlib.Core.Option.{Option, none, some, Option-elim}
use lib.IntN.{pos}
use lib.Ieee.{binary32, le, round, of_int}
use lib.Ieee.Back.{round_whole}
use lib.Ieee.Order.{le_of_values}
use lib.Ieee.Bits.{is_true}
use Rattle.refusal.specs.Refusal.{is_sample_rate, within}
use Rattle.cue_sheet.specs.declared.line.Strike.{Strike}
use Rattle.cue_sheet.specs.declared.Head.{Head}
use Rattle.cue_sheet.proofs.FirstLines.{HeadIn}
use Rattle.track.specs.Mix.{silence}
use Rattle.track.specs.Track.{Calls, Player, until, latest, struck, ran, left, segments_from, NotRefused, Accepted, NoneRefused}
use Rattle.track.proofs.Mixed.{silence-length}
use Rattle.track.specs.Lawful.{PlaysAt, Lawful}
use Rattle.track.proofs.Cues.{CuesIn, until_in}

-- ---- a sheet's rate is a sample rate
whole_le : (m n : ℕ) → m ≤ n → n ≤ 2 ^ 24 → le (round binary32 false m 1) (round binary32 false n 1) ≡ true
whole_le m n h small =
    is_true _ (le_of_values _ _ m 1 n 1 (omega arith) (omega arith) (round_whole binary32 false m (omega arith)) (round_whole binary32 false n small) (omega arith))

pub sheet-rate : (head : Head) → HeadIn head → is_sample_rate (of_int binary32 (pos head.rate)) ≡ true
unfolding is_sample_rate within of_int
sheet-rate head h = rw (whole_le 16000 head.rate h.lowest (omega (arith, h.highest)), whole_le head.rate 96000 h.highest (omega arith))

-- ---- the calls
module _ {Voice : Type 0} (p : Player Voice) (laws : Lawful p) (length : ℕ) (short : length ≤ 16384) where
  latest_plays : (own before : Option (Calls Voice)) → PlaysAt laws.Ready own → PlaysAt laws.Ready before → PlaysAt laws.Ready (latest own before)
  unfolding latest
  latest_plays none before h g = g
  latest_plays (some calls) before h g = h

  strike_accepted : (own : Option (Calls Voice)) → PlaysAt laws.Ready own → (v : Voice) → laws.Ready v → NotRefused (struck own v) × laws.Ready (left v (struck own v))
  unfolding struck left Option-elim
  strike_accepted none plays v ready = (tt, ready)
  strike_accepted (some calls) plays v ready = (plays.strikes v ready, plays.struck v ready)

  run_accepted : (knobs : Option (Calls Voice)) → PlaysAt laws.Ready knobs → (v : Voice) → laws.Ready v → (n : ℕ) → n ≤ 16384
      → NotRefused (ran knobs v n) × laws.Ready (left v (ran knobs v n))
  unfolding ran left Option-elim
  run_accepted none plays v ready n h = (tt, ready)
  run_accepted (some calls) plays v ready n h = (plays.runs v ready (silence n) (rw silence-length h), plays.stays v ready (silence n))

  accepted_from : (from : ℕ) (ss : List Strike) → CuesIn length from ss → (before : Option (Calls Voice)) → PlaysAt laws.Ready before
      → (v : Voice) → laws.Ready v → Accepted (segments_from p length before v ss)
  unfolding CuesIn segments_from Accepted
  accepted_from from [] cues before plays v ready = tt
  accepted_from from (s ∷ ss) cues before plays v ready =
      let own = p.calls s.cue in
      let own_plays = laws.plays s.cue cues.1 in
      let bounds = until_in length s.start ss cues.2 in
      let strike = strike_accepted own own_plays v ready in
      let knobs = latest_plays own before own_plays plays in
      let run = run_accepted (latest own before) knobs (left v (struck own v)) strike.1 (until length ss - s.start) (omega (arith, bounds.1)) in
      (strike.0, run.0, accepted_from s.start ss cues.2 (latest own before) knobs _ run.1)

pub none_refused : {Voice : Type 0} (p : Player Voice) → Lawful p → (head : Head) → is_sample_rate (of_int binary32 (pos head.rate)) ≡ true → head.length ≤ 16384
    → (ss : List Strike) → CuesIn head.length 0 ss → NoneRefused p head ss
unfolding Accepted Option-elim
none_refused p laws head rate short ss cues = record {
  init = laws.init-accepted _ rate;
  calls = (tt, tt, accepted_from p laws head.length short 0 ss cues none tt _ (laws.init_ready _ rate));
}
