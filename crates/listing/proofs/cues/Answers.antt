-- The samples are those of the sheet, and the text fits into the buffer.
use native.Mathlib.Omega.{arith}
use mathlib.Core.Path.{refl, sym, ap, ◌∙◌}
use lib.Seq.{length-take-le}
use Rattle.cue_sheet.specs.Sheet as Sheet
use Rattle.text.proofs.Written.{then}
use Rattle.listing.proofs.SheetListing.{longest, listed, refused_line}
use Rattle.listing.proofs.cues.Goals as goal
use Rattle.listing.proofs.cues.Goals.{in-Ok, in-Err}

pub slice_bounds-samples-end : goal.slice_bounds-samples-end
slice_bounds-samples-end c = omega (arith, longest _ _ refl (sym c.render.ensures.answer ∙ ap Sheet.answer c.in-Ok.is), c.render.auto.out)

pub slice_bounds-put_samples-end : goal.slice_bounds-put_samples-end
slice_bounds-put_samples-end c =
    sym
    (length-take-le _ _ (omega (arith, longest _ _ refl (sym c.render.ensures.answer ∙ ap Sheet.answer c.in-Ok.is), c.render.auto.out)))

pub returns : goal.returns
returns c =
    elim c.match-render.branch [
      | in-Ok w ↦
          let known = sym c.render.ensures.answer ∙ ap Sheet.answer w.in-Ok.is in
          rw w.writer-is (listed _ _ refl known _ c.render.ensures.out c.render.auto.out (omega arith) (then w.bytes.ensures w.put_samples.ensures).written)
      | in-Err w ↦
          let known = sym c.render.ensures.answer ∙ ap Sheet.answer w.in-Err.is in
          rw w.writer-is (refused_line _ _ refl w.in-Err.refused.refusal known (omega arith) (omega arith) (rw w.into.ensures at w.refused.ensures).written)
    ]
