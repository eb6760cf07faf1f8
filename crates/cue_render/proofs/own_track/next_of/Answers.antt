-- The closure answers with a line's own cue, if it is one.
use Rattle.std.proofs.Common.{rules}
use Rattle.track.specs.Own.{on_own}
use Rattle.cue_render.proofs.Next.{found}
use Rattle.cue_render.proofs.own_track.next_of.Goals as goal

pub returns : goal.returns
unfolding on_own
returns g c = found g.D.Drum.player g.D.Drum.calls _ _ (λ a r e k. search rules) (λ e line r e' k os. search rules) _ _ _ _ c.find_map.ensures.ran c.find_map.ensures.runs
