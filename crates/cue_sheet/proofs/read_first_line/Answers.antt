-- Where the comma is missing there are not two fields; else each field is read, or is malformed.
use Rattle.std.proofs.Common.{le-leb}
use borrow.Author.Tests.{lt-leb}
use Rattle.cue_sheet.specs.Sheet.{head_of, read_first_line}
use Rattle.cue_sheet.proofs.FirstLines.{one_field, two_fields}
use Rattle.cue_sheet.proofs.read_first_line.Goals as goal

pub returns-in_err-without_end : goal.returns-in_err-without_end
unfolding read_first_line
returns-in_err-without_end c = rw (c.from_residual.ensures, c.in_err-without_end.ensures)

pub returns-in_err-rate : goal.returns-in_err-rate
returns-in_err-rate c = rw (c.from_residual-in_err-rate.ensures, one_field _ c.in_ok-without_end.ensures c.in_err-rate.ensures)

pub returns-in_err-rate-2 : goal.returns-in_err-rate-2
unfolding head_of
returns-in_err-rate-2 c =
    rw (c.from_residual-in_err-rate-2.ensures, two_fields _ c.in_ok-without_end.ensures _ _ c.in_ok-rate.ensures, ← c.in_err-rate-2.ensures)

pub returns-in_err-length : goal.returns-in_err-length
unfolding head_of
returns-in_err-length c =
    rw (c.from_residual-in_err-length.ensures, two_fields _ c.in_ok-without_end.ensures _ _ c.in_ok-rate.ensures)
    (rw (← c.in_ok-rate-2.ensures, ← c.in_err-length.ensures))

pub returns-then-rate-lt16000 : goal.returns-then-rate-lt16000
unfolding head_of
returns-then-rate-lt16000 c =
    rw (two_fields _ c.in_ok-without_end.ensures _ _ c.in_ok-rate.ensures)
    (rw (← c.in_ok-rate-2.ensures, ← c.in_ok-length.ensures, lt-leb _ _ c.if-rate-lt16000.true))

pub returns : goal.returns
unfolding head_of
returns c =
    rw (two_fields _ c.in_ok-without_end.ensures _ _ c.in_ok-rate.ensures)
    (rw (← c.in_ok-rate-2.ensures, ← c.in_ok-length.ensures, le-leb _ _ c.if-rate-lt16000.false))
