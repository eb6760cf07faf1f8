-- A sheet rendered into 16384 places: no accepted sheet is longer, and the first places are the sheet's samples.
use Prim.Native.Nat.{ℕ, suc, ◌+◌, ◌*◌, ◌≤◌, ◌<◌}
use native.Mathlib.Omega.{arith}
use mathlib.Core.Path.{◌≡◌, refl, sym, ap, ◌∙◌}
use mathlib.Core.List.{List, [], ◌∷◌, ◌++◌}
use lib.ListN as List
use lib.ListN.{take, drop, length-append, length-drop}
use lib.Seq.{take_at}
use lib.Ieee.{Float, binary32, to_bits}
use borrow.Author.Tests.{le-leb}
use Rattle.cue_sheet.specs.Sheet.{SheetAnswer, accepted, refused_at, judge, strikes}
use Rattle.cue_sheet.specs.Answer.{number}
use Rattle.cue_sheet.specs.declared.answer.SheetRefusal.{SheetRefusal}
use Rattle.cue_sheet.specs.declared.Head.{Head}
use Rattle.cue_sheet.proofs.FirstLines.{accepted_head}
use Rattle.cue_sheet.proofs.Questions.{numbered}
use Rattle.cue_render.specs.Render.{samples, in_buffer, filled}
use Rattle.cue_render.specs.Render as Render
use Rattle.text.proofs.Digits.{pattern-length, decimal-length}
use Rattle.text.specs.Write.{Written, Whole, ascii, refused}
use Rattle.text.proofs.Written.{whole}
use Rattle.listing.specs.Cues.{row, rows, answer, text}

row-length : (n : ℕ) (x : Float) → n < 100000 → List.length (row n x) ≤ 15
unfolding row
row-length n x h = simp length-append (omega (arith, decimal-length 4 n h, pattern-length (to_bits binary32 x)))

rows-length : (n : ℕ) (xs : List Float) → n + List.length xs ≤ 100000 → List.length (rows n xs) ≤ 15 * List.length xs
unfolding rows
rows-length n [] h = omega arith
rows-length n (x ∷ xs) h = simp length-append (omega (arith, row-length n x (omega arith), rows-length (suc n) xs (omega arith)))

module _ (sheet : List ℕ) (buffer : List Float) (size : List.length buffer ≡ 16384) where
  -- 11 is never the answer
  same_answer : Render.answer sheet buffer ≡ judge sheet
  unfolding Render.answer in_buffer
  same_answer = go (judge sheet) refl
    where
      go : (a : SheetAnswer) → judge sheet ≡ a → in_buffer (List.length buffer) a ≡ a
      go (accepted head cues) e = rw (le-leb head.length (List.length buffer) (omega (arith, (accepted_head sheet e).longest)))
      go (refused_at number line) e = refl

  module _ {head : Head} {cues : ℕ} (known : Render.answer sheet buffer ≡ accepted head cues) where
    judged : judge sheet ≡ accepted head cues
    judged = sym same_answer ∙ known

    pub longest : head.length ≤ 16384
    longest = (accepted_head sheet judged).longest

    module _ (exit : List Float) (rendered : exit ≡ Render.render sheet buffer) (kept : List.length exit ≡ List.length buffer) where
      filled_is : exit ≡ samples head (strikes head sheet) ++ drop head.length buffer
      unfolding Render.render filled
      filled_is = rw known at rendered

      samples-length : List.length (samples head (strikes head sheet)) ≡ head.length
      samples-length =
          let lengths = ap List.length filled_is in
          omega (arith, longest, simp (length-append, length-drop) at lengths)

      samples_are : take head.length exit ≡ samples head (strikes head sheet)
      samples_are = rw filled_is (take_at (samples head (strikes head sheet)) (drop head.length buffer) head.length samples-length)

      pub listed : {out out' : List ℕ} {end : ℕ} → List.length out ≡ 245772 → Written out 0 (ascii "sample,bits\n" ++ rows 0 (take head.length exit)) end out'
          → Whole out (text sheet) end out'
      unfolding text answer
      listed {out = out} room w =
          let all = samples head (strikes head sheet) in
          let long = rows-length 0 all (omega (arith, longest, samples-length)) in
          let fits : List.length (ascii "sample,bits\n" ++ rows 0 all) ≤ List.length out = simp length-append (omega (arith, longest, samples-length, long)) in
          rw judged (whole (rw samples_are at w) fits)

  pub refused_line : (refusal : SheetRefusal) {line : ℕ} → Render.answer sheet buffer ≡ refused_at (number refusal) line → line < 10000000000
      → {out out' : List ℕ} {end : ℕ} → List.length out ≡ 245772 → Written out 0 (refused (number refusal) line) end out' → Whole out (text sheet) end out'
  unfolding text answer refused
  refused_line refusal {line = line} known below {out = out} room w =
      let fits : List.length (refused (number refusal) line) ≤ List.length out =
      simp length-append (omega (arith, decimal-length 1 (number refusal) (omega (arith, (numbered refusal).1)), decimal-length 9 line below)) in
      rw (sym same_answer ∙ known) (whole w fits)
