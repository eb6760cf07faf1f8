use Rattle.std.proofs.Common.{◌≡◌, length}
use Rattle.track.specs.Own.{owns}
use Rattle.track.specs.Lawful.{Tested}
use Rattle.track.proofs.Laws.{lawful}
use Rattle.cue_render.specs.Run.{left, from_next}
use Rattle.cue_render.proofs.Pass.{Passing}
use Rattle.cue_render.proofs.own_track.add_track.Given as goal

abbrev pub invariant-loop-next : goal.invariant-loop-next
invariant-loop-next g l =
    ((laws : Tested g.D.Drum.player) → Passing g.D.Drum.player (lawful laws) g.D.Drum.calls l.sheet l.head l.initial.out l.voice l.next l.lines l.out) × (length l.scratch ≡ 16384)

abbrev pub decreases-loop-next : goal.decreases-loop-next
decreases-loop-next g l = length (from_next g.D.Drum.calls l.next (owns g.D.Drum.player (left l.lines)))
