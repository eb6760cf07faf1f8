-- Where a comma is missing there are fewer than seven fields; else each field is read, or is malformed.
use Rattle.std.proofs.Common.{ap, length, arith}
use Rattle.cue_sheet.specs.Fields.{fields_of, read_fields}
use Rattle.cue_sheet.proofs.Fields.{few, all}
use Rattle.cue_sheet.proofs.line.read_fields.Goals as goal

pub returns-in_err-without_end : goal.returns-in_err-without_end
unfolding read_fields
returns-in_err-without_end c = rw (c.from_residual.ensures, c.in_err-without_end.ensures)

pub returns-in_err-start : goal.returns-in_err-start
returns-in_err-start c =
    rw (c.from_residual-in_err-start.ensures, few _ c.in_ok-without_end.ensures (λ seven. omega (arith, ap length c.in_err-start.ensures)))

pub returns-in_err-voice : goal.returns-in_err-voice
returns-in_err-voice c =
    rw (c.from_residual-in_err-voice.ensures, few _ c.in_ok-without_end.ensures (λ seven. omega (arith, ap length c.in_ok-start.ensures, ap length c.in_err-voice.ensures)))

pub returns-in_err-accent : goal.returns-in_err-accent
returns-in_err-accent c =
    rw (c.from_residual-in_err-accent.ensures, few _ c.in_ok-without_end.ensures (λ seven. omega (arith, ap length c.in_ok-start.ensures, ap length c.in_ok-voice.ensures, ap length c.in_err-accent.ensures)))

pub returns-in_err-f0 : goal.returns-in_err-f0
returns-in_err-f0 c =
    rw (c.from_residual-in_err-f0.ensures, few _ c.in_ok-without_end.ensures (λ seven. omega (arith, ap length c.in_ok-start.ensures, ap length c.in_ok-voice.ensures, ap length c.in_ok-accent.ensures, ap length c.in_err-f0.ensures)))

pub returns-in_err-a : goal.returns-in_err-a
returns-in_err-a c =
    rw (c.from_residual-in_err-a.ensures, few _ c.in_ok-without_end.ensures (λ seven. omega (arith, ap length c.in_ok-start.ensures, ap length c.in_ok-voice.ensures, ap length c.in_ok-accent.ensures, ap length c.in_ok-f0.ensures, ap length c.in_err-a.ensures)))

pub returns-in_err-decay : goal.returns-in_err-decay
returns-in_err-decay c =
    rw (c.from_residual-in_err-decay.ensures, few _ c.in_ok-without_end.ensures (λ seven. omega (arith, ap length c.in_ok-start.ensures, ap length c.in_ok-voice.ensures, ap length c.in_ok-accent.ensures, ap length c.in_ok-f0.ensures, ap length c.in_ok-a.ensures, ap length c.in_err-decay.ensures)))

pub returns-in_err-decimal : goal.returns-in_err-decimal
unfolding fields_of
returns-in_err-decimal c =
    rw (c.from_residual-in_err-decimal.ensures, all _ c.in_ok-without_end.ensures _ _ _ _ _ _ c.in_ok-start.ensures c.in_ok-voice.ensures c.in_ok-accent.ensures c.in_ok-f0.ensures c.in_ok-a.ensures c.in_ok-decay.ensures)
    (rw (← c.in_err-decimal.ensures))

pub returns-in_err-read : goal.returns-in_err-read
unfolding fields_of
returns-in_err-read c =
    rw (c.from_residual-in_err-read.ensures, all _ c.in_ok-without_end.ensures _ _ _ _ _ _ c.in_ok-start.ensures c.in_ok-voice.ensures c.in_ok-accent.ensures c.in_ok-f0.ensures c.in_ok-a.ensures c.in_ok-decay.ensures)
    (rw (← c.in_ok-decimal.ensures, ← c.in_err-read.ensures))

pub returns-in_err-read_knob : goal.returns-in_err-read_knob
unfolding fields_of
returns-in_err-read_knob c =
    rw (c.from_residual-in_err-read_knob.ensures, all _ c.in_ok-without_end.ensures _ _ _ _ _ _ c.in_ok-start.ensures c.in_ok-voice.ensures c.in_ok-accent.ensures c.in_ok-f0.ensures c.in_ok-a.ensures c.in_ok-decay.ensures)
    (rw (← c.in_ok-decimal.ensures, ← c.in_ok-read.ensures, ← c.in_err-read_knob.ensures))

pub returns-in_err-read_knob-2 : goal.returns-in_err-read_knob-2
unfolding fields_of
returns-in_err-read_knob-2 c =
    rw (c.from_residual-in_err-read_knob-2.ensures, all _ c.in_ok-without_end.ensures _ _ _ _ _ _ c.in_ok-start.ensures c.in_ok-voice.ensures c.in_ok-accent.ensures c.in_ok-f0.ensures c.in_ok-a.ensures c.in_ok-decay.ensures)
    (rw (← c.in_ok-decimal.ensures, ← c.in_ok-read.ensures, ← c.in_ok-read_knob.ensures, ← c.in_err-read_knob-2.ensures))

pub returns-in_err-read_knob-3 : goal.returns-in_err-read_knob-3
unfolding fields_of
returns-in_err-read_knob-3 c =
    rw (c.from_residual-in_err-read_knob-3.ensures, all _ c.in_ok-without_end.ensures _ _ _ _ _ _ c.in_ok-start.ensures c.in_ok-voice.ensures c.in_ok-accent.ensures c.in_ok-f0.ensures c.in_ok-a.ensures c.in_ok-decay.ensures)
    (rw (← c.in_ok-decimal.ensures, ← c.in_ok-read.ensures, ← c.in_ok-read_knob.ensures, ← c.in_ok-read_knob-2.ensures, ← c.in_err-read_knob-3.ensures))

pub returns-in_err-read_knob-4 : goal.returns-in_err-read_knob-4
unfolding fields_of
returns-in_err-read_knob-4 c =
    rw (c.from_residual-in_err-read_knob-4.ensures, all _ c.in_ok-without_end.ensures _ _ _ _ _ _ c.in_ok-start.ensures c.in_ok-voice.ensures c.in_ok-accent.ensures c.in_ok-f0.ensures c.in_ok-a.ensures c.in_ok-decay.ensures)
    (rw (← c.in_ok-decimal.ensures, ← c.in_ok-read.ensures, ← c.in_ok-read_knob.ensures, ← c.in_ok-read_knob-2.ensures, ← c.in_ok-read_knob-3.ensures, ← c.in_err-read_knob-4.ensures))

pub returns-in_err-read_knob-5 : goal.returns-in_err-read_knob-5
unfolding fields_of
returns-in_err-read_knob-5 c =
    rw (c.from_residual-in_err-read_knob-5.ensures, all _ c.in_ok-without_end.ensures _ _ _ _ _ _ c.in_ok-start.ensures c.in_ok-voice.ensures c.in_ok-accent.ensures c.in_ok-f0.ensures c.in_ok-a.ensures c.in_ok-decay.ensures)
    (rw (← c.in_ok-decimal.ensures, ← c.in_ok-read.ensures, ← c.in_ok-read_knob.ensures, ← c.in_ok-read_knob-2.ensures, ← c.in_ok-read_knob-3.ensures, ← c.in_ok-read_knob-4.ensures, ← c.in_err-read_knob-5.ensures))

pub returns : goal.returns
unfolding fields_of
returns c =
    rw (all _ c.in_ok-without_end.ensures _ _ _ _ _ _ c.in_ok-start.ensures c.in_ok-voice.ensures c.in_ok-accent.ensures c.in_ok-f0.ensures c.in_ok-a.ensures c.in_ok-decay.ensures)
    (rw (← c.in_ok-decimal.ensures, ← c.in_ok-read.ensures, ← c.in_ok-read_knob.ensures, ← c.in_ok-read_knob-2.ensures, ← c.in_ok-read_knob-3.ensures, ← c.in_ok-read_knob-4.ensures, ← c.in_ok-read_knob-5.ensures))
