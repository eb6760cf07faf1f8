-- The digits behind `first` are the last ones of n, and those of `left` stand before them.
use Rattle.std.proofs.Common.{◌≡◌, ℕ, zero, suc, ◌-◌, ◌*◌, ◌/◌, ◌%◌, ◌^◌, ◌<◌, ◌≤◌, List, [], ◌∷◌, ◌++◌, length, drop, take, rules, arith, append_assoc, add-one, length-drop, take_all}
use Rattle.std.proofs.lemmas.List.{drop-set}
use native.Mathlib.Nat.{pow-suc}
use lib.ListN.{set}
use Rattle.text.specs.Write.{digit, decimal}
use Rattle.text.proofs.Digits.{one_digit, last-digit}
use Rattle.text.proofs.Written.{then}
use Rattle.text.proofs.write.Writer.decimal.Goals as goal

-- one digit fewer
below : (left first : ℕ) → 10 ≤ left → left < 10 ^ first → left / 10 < 10 ^ (first - 1)
below left zero many room = absurd (omega arith)
below left (suc first) many room =
    let same : suc first - 1 ≡ first = omega arith in
    let less : left < 10 ^ first * 10 = rw pow-suc at room in
    rw same (omega arith)

-- the last digit of `left` goes before those behind `first`
one_more : (left first d : ℕ) (digits text : List ℕ) → first ≤ length digits → 10 ≤ left → left < 10 ^ first → d ≡ digit (left % 10)
    → decimal left ++ drop first digits ≡ text → decimal (left / 10) ++ drop (first - 1) (set digits (first - 1) d) ≡ text
one_more left zero d digits text within many room e h = absurd (omega arith)
one_more left (suc first) d digits text within many room e h =
    let same : suc first - 1 ≡ first = omega arith in
    let inside : first < length digits = omega arith in
    rw
    (same, drop-set digits first d inside, add-one first, e, ← append_assoc (decimal (left / 10)) (digit (left % 10) ∷ []) (drop (suc first) digits), ← last-digit left many)
    h

-- where one digit is left, it is the first
all_of : (left first : ℕ) (digits text : List ℕ) → length digits ≡ 20 → left < 10 → decimal left ++ drop first digits ≡ text
    → digit left ∷ take (20 - first) (drop first digits) ≡ text
all_of left first digits text long few h =
    let all : length (drop first digits) ≤ 20 - first = omega (arith, length-drop first digits) in
    rw (take_all (20 - first) (drop first digits) all) (rw (one_digit left few) at h)

pub loop-left-preserved : goal.loop-left-preserved
loop-left-preserved c =
    let l = c.loop-left in
    record {
      long = search rules;
      within = omega arith;
      room = below _ _ c.loop-left-test.true l.invariant.room;
      digits = one_more _ _ _ _ _ (omega arith) c.loop-left-test.true l.invariant.room c.digit.ensures l.invariant.digits;
    }

pub returns : goal.returns
returns c =
    let l = c.loop-left in
    rw (← all_of _ _ _ _ l.invariant.long c.loop-left-test.false l.invariant.digits, ← c.digit-2.ensures) (then c.byte.ensures c.bytes.ensures)
