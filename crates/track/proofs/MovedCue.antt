-- The case that was reported: a trainer moves one s cue, from sample 4000 to 4800, and the wheel hiss, whose two cues stay, keeps its samples.
use Prim.Native.Nat.{ℕ}
use Prim.Native.Char.{code}
use Prim.Native.String.{String}
use mathlib.Core.Path.{◌≡◌, refl}
use mathlib.Core.List.{List, ◌++◌}
use lib.Ieee.{round, of_bits, le, lt, eq}
use Rattle.refusal.specs.Refusal.{within, is_frequency, is_unit}
use Rattle.text.specs.Write.{ascii}
use Rattle.text.specs.Read as Read
use Rattle.cue_sheet.specs.Fields.{voice_of, fields_of, read_fields}
use Rattle.cue_sheet.specs.CueLine.{is_decay, cue_of, read_cue}
use Rattle.cue_sheet.specs.Sheet.{accepted, head_of, read_first_line, on_told, next, judge_from, judge, strikes}
use Rattle.cue_sheet.specs.declared.Head.{Head}
use Rattle.track.specs.Track.{Player, track}
use Rattle.track.specs.OwnLines.{lines_of, cue_lines}
use Rattle.track.specs.Lawful.{Lawful}
use Rattle.track.proofs.OwnLines.{own_lines_only}

pub head : Head
head = record { rate = 48000; length = 12000 }

pub sheet : String → List ℕ
sheet start =
    ascii "48000,12000\n0,h,3f333333,3c0d4fdf,3f19999a,3f4ccccd,3f000000\n"
    ++ (ascii start ++ ascii ",s,3f0a3d71,3b8f5c29,3e4ccccd,3e19999a,3f59999a\n8000,h,3f666666,3c19999a,3f333333,3f666666,3f333333\n")

-- both sheets are accepted, and agree on the lines of h
accepted_at : (judge (sheet "4000") ≡ accepted head 3) × (judge (sheet "4800") ≡ accepted head 3)
unfolding sheet head judge judge_from read_first_line head_of read_cue read_fields fields_of voice_of cue_of on_told next is_decay within is_frequency is_unit Read.ended Read.body Read.lines Read.first_line Read.fields Read.field Read.digit Read.numeral Read.up_to Read.well_formed Read.decimal Read.pattern round of_bits le lt eq
accepted_at = (refl, refl)

same_lines : cue_lines (code "h") (sheet "4000") ≡ cue_lines (code "h") (sheet "4800")
unfolding sheet lines_of Read.body Read.lines Read.fields Read.field
same_lines = refl

-- the hi-hat, or any voice of its letter
pub moved_cue : {Voice : Type 0} (p : Player Voice) → Lawful p → p.letter ≡ code "h"
    → track p head (strikes head (sheet "4000")) ≡ track p head (strikes head (sheet "4800"))
moved_cue p laws e = own_lines_only p laws (sheet "4000") (sheet "4800") head 3 3 accepted_at.0 accepted_at.1 (rw e same_lines)
