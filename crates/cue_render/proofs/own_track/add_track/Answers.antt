-- From cue to cue of the voice, by the law of its walk.
use Rattle.std.proofs.Common.{rules, arith, length-append, length-drop}
use borrow.Rule.Slice.PartMut.{Post-is}
use Rattle.track.proofs.Laws.{lawful}
use Rattle.cue_render.proofs.Next.{all_lines}
use Rattle.cue_render.proofs.Pass.{begins, fewer, fits, turn, ends_here}
use Rattle.cue_render.proofs.own_track.add_track.Goals as goal

pub loop-next-init : goal.loop-next-init
loop-next-init g c =
    let pre = c.requires.playable in
    let first = c.begin-lines.ensures in (
      λ laws.
          rw (c.begin-voice.ensures, c.nearest_f32.ensures)
          (begins _ (lawful laws) _ _ _ _ _ pre c.begin-lines.result (all_lines c.args.head c.args.sheet.now c.begin-lines.result first.rest first.walk) c.next_of-next.ensures),
      pre.enough,
    )

pub prove-unreachable-requires : goal.prove-unreachable-requires
prove-unreachable-requires g c =
    let laws = c.requires.lawful in
    let f = fits _ (lawful laws) _ _ (rw c.in-Some.is at (c.loop-next.invariant.0 laws)) _ c.next_of-next-in-Some.new.lines c.next_of-next-in-Some.ensures c.end_of-to.ensures _ c.loop-next.invariant.1 in
    search rules

pub loop-next-smaller : goal.loop-next-smaller
loop-next-smaller g c =
    let laws = c.requires.lawful in
    rw c.in-Some.is (fewer _ (lawful laws) _ _ (rw c.in-Some.is at (c.loop-next.invariant.0 laws)) _ c.next_of-next-in-Some.new.lines c.next_of-next-in-Some.ensures c.end_of-to.ensures)

pub loop-next-preserved : goal.loop-next-preserved
loop-next-preserved g c =
    let cue = c.next_of-next-in-Some.ensures in
    let inv = c.loop-next.invariant in
    let f = fits _ (lawful c.requires.lawful) _ _ (rw c.in-Some.is at (inv.0 c.requires.lawful)) _ c.next_of-next-in-Some.new.lines cue c.end_of-to.ensures _ inv.1 in (
      λ laws.
          turn _ (lawful laws) _ _ (rw c.in-Some.is at (inv.0 laws)) _ c.next_of-next-in-Some.new.lines cue c.end_of-to.ensures _ f.block c.play-voice.ensures.voice (rw c.play-voice.ensures.out at c.add_to.ensures)
          (rw (Post-is _ _ _ f.rising)),
      simp (length-append, length-drop) (omega (arith, c.play-voice.auto.out, f.block, f.room, inv.1)),
    )

pub returns : goal.returns
returns g c = ends_here _ (lawful c.requires.lawful) _ _ (c.loop-next.invariant.0 c.requires.lawful) c.in_default.is
