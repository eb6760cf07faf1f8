-- One voice's walk over a sheet, from cue to cue of its own: the run of each is added, and what is left to add is what the cues behind it make.
use Prim.Native.Nat.{ℕ, ◌-◌, ◌≤◌, ◌<◌}
use native.Mathlib.Omega.{arith}
use mathlib.Core.Path.{◌≡◌, refl, sym, ap, ◌∙◌}
use mathlib.Core.List.{List, [], ◌∷◌, ◌++◌, map, append-nil}
use mathlib.Core.Option.{Option, none, some}
use lib.ListN as List
use lib.ListN.{take, drop, replicate, length-append, length-drop, length-map}
use lib.Seq.{length-take-le}
use lib.Ieee.{Float}
use Rattle.std.specs.Prelude as Rust
use Rattle.std.specs.Prelude.{Some, None}
use Rattle.refusal.specs.Refusal.{Call}
use Rattle.cue_sheet.specs.declared.line.Strike.{Strike}
use Rattle.cue_sheet.specs.Sheet.{strikes}
use Rattle.cue_sheet.specs.declared.Head.{Head}
use Rattle.cue_sheet.specs.declared.walk.CueLines.{CueLines}
use Rattle.track.specs.Mix.{silence, mixed}
use Rattle.track.specs.Track.{Calls, Player, started, track}
use Rattle.track.proofs.Mixed.{silence-length, mixed-length, mixed_none, part_length, mixed_part}
use Rattle.track.proofs.Cues.{CuesIn, cues_of}
use Rattle.track.specs.Lawful.{Plays, PlaysAt, Lawful}
use Rattle.track.specs.Own.{Own, on_own, ends, solo_from, solo, owns}
use Rattle.track.proofs.Alone.{alone}
use Rattle.cue_render.specs.declared.own_track.OwnCue.{OwnCue}
use Rattle.cue_render.specs.Run.{left, from_next, end_of, Playable}

-- the places of a run lie in the buffer, and the scratch has as many
pub record Fits (from to : ℕ) (out scratch : List Float) : Type 0 where
  pub rising : from ≤ to
  pub inside : to ≤ List.length out
  pub room : to - from ≤ List.length scratch
  pub block : List.length (take (to - from) scratch) ≡ to - from

module _ {Voice : Type 0} (p : Player Voice) (laws : Lawful p) where
  -- ---- the voice's own cues: from a place on their starts do not fall, none is past the sheet's end, and each plays
  pub OwnIn : ℕ → ℕ → List (Own Voice) → Type 0
  OwnIn length from [] = from ≤ length
  OwnIn length from (o ∷ os) = (from ≤ o.start) × Plays laws.Ready o.calls × OwnIn length o.start os

  earlier : (length from to : ℕ) (os : List (Own Voice)) → from ≤ to → OwnIn length to os → OwnIn length from os
  unfolding OwnIn
  earlier length from to [] h own = omega arith
  earlier length from to (o ∷ os) h own = (omega arith, own.1, own.2)

  own_in : (length from : ℕ) (ss : List Strike) → CuesIn length from ss → OwnIn length from (owns p ss)
  unfolding OwnIn CuesIn owns on_own
  own_in length from [] cues = cues
  own_in length from (s ∷ ss) cues = go (p.calls s.cue) (laws.plays s.cue cues.1) (own_in length s.start ss cues.2)
    where
      go : (o : Option (Calls Voice)) → PlaysAt laws.Ready o → OwnIn length s.start (owns p ss) → OwnIn length from (on_own s.start o (owns p ss))
      go none plays ih = earlier length from s.start (owns p ss) cues.0 ih
      go (some c) plays ih = (cues.0, plays, ih)

  -- where the run before them ends
  ends_in : (length from : ℕ) (os : List (Own Voice)) → OwnIn length from os → (from ≤ ends length os) × (ends length os ≤ length)
  unfolding OwnIn ends
  ends_in length from [] own = (own, omega arith)
  ends_in length from (o ∷ os) own = let b = ends_in length o.start os own.2 in omega (arith, own.0, b.0, b.1)

  -- a run that is rendered into a scratch block and added in place
  own_turn : (c : Calls Voice) → Plays laws.Ready c → (v : Voice) → laws.Ready v → (length from to : ℕ) (os : List (Own Voice))
      → to ≡ ends length os → from ≤ to → to ≤ length → length ≤ 16384
      → (out scratch : List Float) → List.length out ≡ length → List.length scratch ≡ to - from
      → let run = c.run (c.strike v).state scratch in
      mixed (take from out ++ (mixed (take (to - from) (drop from out)) (map some run.out) ++ drop to out)) (solo length run.state os)
      ≡ mixed out (solo length v (record { start = from; calls = c } ∷ os))
  unfolding solo solo_from ends
  own_turn c plays v ready length from to os to_is above below short out scratch room size =
      let n = ends length os - from in
      let w = (c.strike v).state in
      let run = c.run w scratch in
      let whole = mixed (take (to - from) (drop from out)) (map some run.out) in
      let rest = solo_from length run.state os in
      let accepted = plays.runs w (plays.struck v ready) scratch (omega (arith, size)) in
      let sized : List.length scratch ≡ List.length (silence n) = size ∙ ap (λ (k : ℕ). k - from) to_is ∙ sym (silence-length n) in
      let long = length-map run.out some ∙ plays.long w scratch accepted ∙ size in
      ap (λ (k : ℕ). mixed (take from out ++ (whole ++ drop to out)) (replicate k none ++ rest)) (sym to_is)
      ∙ mixed_part out (map some run.out) rest from to above (omega (arith, room)) long
      ∙ ap (λ (call : Call Voice). mixed out (replicate from none ++ (map some call.out ++ solo_from length call.state os)))
      (plays.fills w scratch (silence n) sized accepted)

  module _ {Sets : Type 0} (calls : Sets → Calls Voice) where
    -- the voice's cues that are left, from the next one on, with the lines after it
    abbrev from_here : Rust.Option (OwnCue Sets) → CueLines → List (Own Voice)
    from_here next lines = from_next calls next (owns p (left lines))

    end_is : (length : ℕ) (next : Rust.Option (OwnCue Sets)) (lines : CueLines) → end_of length next ≡ ends length (from_here next lines)
    unfolding ends
    end_is length None lines = refl
    end_is length (Some c) lines = refl

    -- out holds what the cues before `next` have added, and v is ready for those that are left
    pub record Passing (sheet : List ℕ) (head : Head) (out₀ : List Float) (v : Voice) (next : Rust.Option (OwnCue Sets)) (lines : CueLines) (out : List Float) : Type 0 where
      pub own : OwnIn head.length 0 (from_here next lines)
      pub short : head.length ≤ 16384
      pub room : List.length out ≡ head.length
      pub ready : laws.Ready v
      pub to_add : mixed out (solo head.length v (from_here next lines)) ≡ mixed out₀ (track p head (strikes head sheet))

    module _ (sheet : List ℕ) where
      pub begins : (head : Head) (out scratch : List Float) → Playable head out scratch → (first : CueLines) {next : Rust.Option (OwnCue Sets)} {lines : CueLines}
          → left first ≡ strikes head sheet → owns p (left first) ≡ from_here next lines → Passing sheet head out (started p head).state next lines out
      unfolding track
      begins head out scratch q first {next} {lines} all next-is =
          let ready = laws.init_ready _ q.rate in
          let here : owns p (strikes head sheet) ≡ from_here next lines = rw (← all) next-is in
          record {
            own = rw here at (own_in head.length 0 (strikes head sheet) (cues_of head sheet));
            short = q.short;
            room = q.room;
            ready = ready;
            to_add =
                ap (mixed out)
                (ap (solo head.length (started p head).state) (sym here)
                ∙ sym (alone p laws head.length q.short (strikes head sheet) (cues_of head sheet) _ ready));
          }

      pub ends_here : {head : Head} {out₀ : List Float} {v : Voice} {next : Rust.Option (OwnCue Sets)} {lines : CueLines} {out : List Float}
          → Passing sheet head out₀ v next lines out → next ≡ None → out ≡ mixed out₀ (track p head (strikes head sheet))
      unfolding solo solo_from ends
      ends_here {head = head} {lines = lines} {out = out} g none_left = sym (mixed_none head.length out) ∙ rw append-nil at (rw none_left at g.to_add)

      -- ---- a turn: the cue's run, up to the next one
      module _ {head : Head} {out₀ : List Float} {v : Voice} {c : OwnCue Sets} {lines : CueLines} {out : List Float} (g : Passing sheet head out₀ v (Some c) lines out)
          (next : Rust.Option (OwnCue Sets)) (lines' : CueLines) (next-is : owns p (left lines) ≡ from_here next lines')
          {to : ℕ} (to-is : to ≡ end_of head.length next) where
        abbrev from : ℕ
        from = c.start

        to_is : to ≡ ends head.length (from_here next lines')
        to_is = to-is ∙ end_is head.length next lines'

        plays : Plays laws.Ready (calls c.sets)
        unfolding OwnIn
        plays = g.own.1

        behind : OwnIn head.length from (from_here next lines')
        unfolding OwnIn
        behind = rw next-is at g.own.2

        bounds : (from ≤ to) × (to ≤ head.length)
        bounds = let b = ends_in head.length from (from_here next lines') behind in omega (arith, to_is, b.0, b.1)

        pub fewer : List.length (from_here next lines') < List.length (from_here (Some c) lines)
        fewer = rw next-is (omega arith)

        pub fits : (scratch : List Float) → List.length scratch ≡ 16384 → Fits from to out scratch
        fits scratch enough =
            let b = bounds in
            record {
              rising = b.0;
              inside = omega (arith, b.1, g.room);
              room = omega (arith, b.1, g.short, enough);
              block = length-take-le (to - from) scratch (omega (arith, b.1, g.short, enough));
            }

        -- the cue's strike, and its run over a block
        abbrev struck : Voice
        struck = ((calls c.sets).strike v).state

        abbrev ran : List Float → Call Voice
        ran scratch = (calls c.sets).run struck scratch

        pub turn : (scratch : List Float) → List.length scratch ≡ to - from → {v' : Voice} {part out' : List Float}
            → v' ≡ (ran scratch).state
            → part ≡ mixed (take (to - from) (drop from out)) (map some (ran scratch).out)
            → out' ≡ take from out ++ (part ++ drop to out) → Passing sheet head out₀ v' next lines' out'
        turn scratch size {v'} {part} {out'} after added written =
            let b = bounds in
            record {
              own = earlier head.length 0 from (from_here next lines') (omega arith) behind;
              short = g.short;
              room =
                  let part-long = ap List.length added ∙ mixed-length _ _ ∙ part_length out from to b.0 (omega (arith, b.1, g.room)) in
                  rw (written, length-append, length-append, length-drop, length-take-le from out (omega (arith, b.0, b.1, g.room)), part-long)
                  (omega (arith, b.0, b.1, g.room));
              ready = rw after (plays.stays struck (plays.struck v g.ready) scratch);
              to_add =
                  rw (written, added, after)
                  (own_turn (calls c.sets) plays v g.ready head.length from to (from_here next lines') to_is b.0 b.1 g.short out scratch g.room size
                  ∙ rw next-is at g.to_add);
            }
