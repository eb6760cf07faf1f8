use mathlib.Core.List.{map}
use mathlib.Core.Option.{some}
use Rattle.track.specs.Mix.{mixed}
use Rattle.cue_render.proofs.Fill.{Filling}
use Rattle.cue_render.proofs.mix.add_to.Given as goal

abbrev pub invariant-loop-i : goal.invariant-loop-i
invariant-loop-i l = Filling (mixed l.initial.out (map some l.block)) l.initial.out l.out l.i
