-- Each arm is one of the three answers to a sheet and a buffer, with what it leaves in the buffer.
use Rattle.std.proofs.Common.{rules, ◌≡◌, Err, refl, sym, ap, ◌∙◌}
use lib.Seq.{length-take-le}
use borrow.Author.Tests.{le-leb, lt-leb}
use Rattle.cue_sheet.specs.Sheet as Sheet
use Rattle.cue_sheet.proofs.FirstLines.{accepted_head}
use Rattle.track.proofs.Accepts.{sheet-rate}
use Rattle.cue_render.specs.Render.{in_buffer, answer, filled, render}
use Rattle.cue_render.proofs.NeverRefused.{never_refused}
use Rattle.cue_render.proofs.render.Goals as goal

pub returns-then-out-length : goal.returns-then-out-length
unfolding answer in_buffer render filled
returns-then-out-length c = let known = sym c.judge.ensures ∙ ap Sheet.answer c.in_ok-accepted.was in
    record {
      answer = rw (known, lt-leb _ _ c.if-out-length.true) refl;
      out = rw (known, lt-leb _ _ c.if-out-length.true) refl;
      calls = never_refused _;
    }

pub returns-in_err-accepted : goal.returns-in_err-accepted
unfolding answer in_buffer render filled
returns-in_err-accepted c = let known = sym c.judge.ensures ∙ ap Sheet.answer c.in_err-accepted.was in
    let refused : Sheet.answer c.from_residual.result ≡ Sheet.answer (Err c.in_err-accepted.field-0.0) = search rules in
    record { answer = refused ∙ rw known refl; out = rw known refl; calls = never_refused _ }

pub returns : goal.returns
unfolding answer in_buffer render filled
returns c = let known = sym c.judge.ensures ∙ ap Sheet.answer c.in_ok-accepted.was in
    record {
      answer = rw (known, le-leb _ _ c.if-out-length.false) refl;
      out = rw (known, le-leb _ _ c.if-out-length.false) (rw c.render_voices.ensures);
      calls = never_refused _;
    }

pub render_voices-requires : goal.render_voices-requires
render_voices-requires c =
    let known = accepted_head _ (sym c.judge.ensures ∙ ap Sheet.answer c.in_ok-accepted.was) in
    record { rate = sheet-rate _ known; short = known.longest; room = length-take-le _ _ c.if-out-length.false; enough = refl }
