-- A voice's track is the one that its own cues alone make: the cues of others cut its runs, and a run in parts is the whole run.
use Prim.Native.Nat.{ℕ, ◌+◌, ◌-◌, ◌≤◌}
use native.Mathlib.Omega.{arith}
use mathlib.Core.Path.{◌≡◌, sym, ap, ap₂, ◌∙◌}
use mathlib.Core.List.{List, [], ◌∷◌, ◌++◌, map, flatten, append_assoc, map-append}
use mathlib.Core.Option.{Option, none, some}
use lib.ListN.{replicate, replicate-append-replicate}
use lib.Ieee.{Float}
use Rattle.refusal.specs.Refusal.{Call}
use Rattle.cue_sheet.specs.declared.line.Strike.{Strike}
use Rattle.track.specs.Mix.{silence}
use Rattle.track.specs.Track.{Calls, Player, until, latest, struck, ran, left, segments_from, segments, given, track_of}
use Rattle.track.specs.Own.{Own, on_own, ends, solo_from, solo, owns}
use Rattle.track.proofs.Mixed.{silence-length, silence-add}
use Rattle.track.specs.Lawful.{Plays, PlaysAt, Lawful}
use Rattle.track.proofs.Cues.{CuesIn, until_in}

module _ {Voice : Type 0} (p : Player Voice) where
  pub ends_in : (length from : ℕ) (ss : List Strike) → CuesIn length from ss → (until length ss ≤ ends length (owns p ss)) × (ends length (owns p ss) ≤ length)
  unfolding CuesIn until ends owns on_own
  ends_in length from [] cues = (omega arith, omega arith)
  ends_in length from (s ∷ ss) cues = go (p.calls s.cue) (ends_in length s.start ss cues.2) (until_in length s.start ss cues.2)
    where
      go : (o : Option (Calls Voice)) → (until length ss ≤ ends length (owns p ss)) × (ends length (owns p ss) ≤ length) → (s.start ≤ until length ss) × (until length ss ≤ length)
          → (s.start ≤ ends length (on_own s.start o (owns p ss))) × (ends length (on_own s.start o (owns p ss)) ≤ length)
      go none ih b = omega (arith, ih.0, ih.1, b.0)
      go (some calls) ih b = omega (arith, b.0, b.1)

  module _ (laws : Lawful p) (length : ℕ) (short : length ≤ 16384) where
    abbrev track_from : Option (Calls Voice) → Voice → List Strike → List (Option Float)
    track_from before v ss = track_of (segments_from p length before v ss)

    -- ---- a voice that has run over a samples
    abbrev runs : Calls Voice → Voice → ℕ → Call Voice
    runs c v a = c.run v (silence a)

    -- a run goes on over a cut: two calls over the parts of a block are one over the whole
    goes_on : (c : Calls Voice) → Plays laws.Ready c → (v : Voice) → laws.Ready v → (a n : ℕ) → a + n ≤ 16384
        → (map some (runs c v a).out ++ map some (runs c (runs c v a).state n).out ≡ map some (runs c v (a + n)).out)
        × ((runs c (runs c v a).state n).state ≡ (runs c v (a + n)).state)
    goes_on c plays v ready a n h =
        let whole = plays.runs v ready (silence a ++ silence n) (rw (← silence-add a n, silence-length) h) in
        let two = plays.in_two v (silence a) (silence n) whole in
        let same : runs c v (a + n) ≡ c.run v (silence a ++ silence n) = ap (c.run v) (silence-add a n) in (
          sym (map-append some (runs c v a).out (runs c (runs c v a).state n).out) ∙ ap (λ (x : Call Voice). map some x.out) (sym (same ∙ two)),
          ap (λ (x : Call Voice). x.state) (sym (same ∙ two)),
        )

    -- what is left of a run that has come to the next of all cues, and what comes after it: n samples, and the voice alone from its own next cue on
    abbrev alone_after : Calls Voice → Voice → ℕ → List (Own Voice) → List (Option Float)
    alone_after c v n os = map some (runs c v n).out ++ solo_from length (runs c v n).state os

    abbrev OnFrom : List Strike → Type 0
    OnFrom ss =
        (c : Calls Voice) → Plays laws.Ready c → (v : Voice) → laws.Ready v → (a : ℕ) → a ≤ until length ss
        → map some (runs c v a).out ++ track_from (some c) (runs c v a).state ss ≡ alone_after c v (a + (ends length (owns p ss) - until length ss)) (owns p ss)

    runs_on : (from : ℕ) (ss : List Strike) → CuesIn length from ss → OnFrom ss
    unfolding CuesIn segments_from until ends owns on_own solo_from flatten struck ran left latest given
    runs_on from [] cues c plays v ready a h =
        let e : a + (length - length) ≡ a = omega arith in
        rw e
    runs_on from (s ∷ ss) cues c plays v ready a h = go (p.calls s.cue) (laws.plays s.cue cues.1) (runs_on s.start ss cues.2)
      where
        go : (o : Option (Calls Voice)) → PlaysAt laws.Ready o → OnFrom ss
            → let n = until length ss - s.start in
            let w = left (runs c v a).state (struck o (runs c v a).state) in
            let run = ran (latest o (some c)) w n in
            map some (runs c v a).out ++ (given n run ++ track_from (latest o (some c)) (left w run) ss)
            ≡ alone_after c v (a + (ends length (on_own s.start o (owns p ss)) - s.start)) (on_own s.start o (owns p ss))
        go none plays-at ih =
            let n = until length ss - s.start in
            let bounds = until_in length s.start ss cues.2 in
            let more = ends_in length s.start ss cues.2 in
            let second = runs c (runs c v a).state n in
            let on = goes_on c plays v ready a n (omega (arith, bounds.0, bounds.1)) in
            let e : a + n + (ends length (owns p ss) - until length ss) ≡ a + (ends length (owns p ss) - s.start) = omega (arith, bounds.0, more.0) in
            sym (append_assoc (map some (runs c v a).out) (map some second.out) (track_from (some c) second.state ss))
            ∙ ap₂ (λ (xs : List (Option Float)) (w : Voice). xs ++ track_from (some c) w ss) on.0 on.1
            ∙ ih c plays v ready (a + n) (omega (arith, bounds.0))
            ∙ ap (λ (k : ℕ). alone_after c v k (owns p ss)) e
        go (some c') plays-at ih =
            let n = until length ss - s.start in
            let bounds = until_in length s.start ss cues.2 in
            let more = ends_in length s.start ss cues.2 in
            let e : n + (ends length (owns p ss) - until length ss) ≡ ends length (owns p ss) - s.start = omega (arith, bounds.0, more.0) in
            let none_left : a + (s.start - s.start) ≡ a = omega arith in
            let w = (c'.strike (runs c v a).state).state in
            let struck_ready = plays-at.struck (runs c v a).state (plays.stays v ready (silence a)) in
            rw none_left
            (ap (λ (l : List (Option Float)). map some (runs c v a).out ++ l)
            (ih c' plays-at w struck_ready n (omega arith) ∙ ap (λ (k : ℕ). alone_after c' w k (owns p ss)) e))

    -- ---- a voice that is not struck so far
    unstruck_on : (from : ℕ) (ss : List Strike) → CuesIn length from ss → (v : Voice) → laws.Ready v
        → track_from none v ss ≡ replicate (ends length (owns p ss) - until length ss) none ++ solo_from length v (owns p ss)
    unfolding CuesIn segments_from until ends owns on_own solo_from flatten struck ran left latest given
    unstruck_on from [] cues v ready =
        let e : length - length ≡ 0 = omega arith in
        rw e
    unstruck_on from (s ∷ ss) cues v ready = go (p.calls s.cue) (laws.plays s.cue cues.1) (unstruck_on s.start ss cues.2 v ready)
      where
        go : (o : Option (Calls Voice)) → PlaysAt laws.Ready o
            → track_from none v ss ≡ replicate (ends length (owns p ss) - until length ss) none ++ solo_from length v (owns p ss)
            → let n = until length ss - s.start in
            let w = left v (struck o v) in
            let run = ran (latest o none) w n in
            given n run ++ track_from (latest o none) (left w run) ss
            ≡ replicate (ends length (on_own s.start o (owns p ss)) - s.start) none ++ solo_from length v (on_own s.start o (owns p ss))
        go none plays-at ih =
            let bounds = until_in length s.start ss cues.2 in
            let more = ends_in length s.start ss cues.2 in
            let e : (until length ss - s.start) + (ends length (owns p ss) - until length ss) ≡ ends length (owns p ss) - s.start = omega (arith, bounds.0, more.0) in
            rw (ih, ← e, ← replicate-append-replicate, append_assoc)
        go (some c) plays-at ih =
            let bounds = until_in length s.start ss cues.2 in
            let more = ends_in length s.start ss cues.2 in
            let n = until length ss - s.start in
            let e : n + (ends length (owns p ss) - until length ss) ≡ ends length (owns p ss) - s.start = omega (arith, bounds.0, more.0) in
            let none_left : s.start - s.start ≡ 0 = omega arith in
            let w = (c.strike v).state in
            rw none_left (runs_on s.start ss cues.2 c plays-at w (plays-at.struck v ready) n (omega arith) ∙ ap (λ (k : ℕ). alone_after c w k (owns p ss)) e)

    -- ---- the theorem
    pub alone : (ss : List Strike) → CuesIn length 0 ss → (v : Voice) → laws.Ready v → track_of (segments p length v ss) ≡ solo length v (owns p ss)
    unfolding solo flatten given
    alone ss cues v ready =
        let more = ends_in length 0 ss cues in
        let e : until length ss + (ends length (owns p ss) - until length ss) ≡ ends length (owns p ss) = omega (arith, more.0) in
        rw (unstruck_on 0 ss cues v ready, ← append_assoc, replicate-append-replicate, e)
