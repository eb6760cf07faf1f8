-- The first line as the code cuts it; the rate and the length of an accepted sheet lie between their bounds, and its lines after the first are
-- accepted from there.
use Rattle.std.proofs.Common.{◌≡◌, ◌⊎◌, inl, inr, ℕ, suc, ◌≤◌, Bool, true, false, ◌&&◌, cond, leb, List, [], ◌∷◌, length as count, drop, Some, None, sym, refl, ap, ◌∙◌, arith, leb-true, ne_eqb}
use Rattle.std.proofs.lemmas.Option.{cond_some, option_and_then_some}
use Rattle.text.specs.Read.{ended, body, fields, field, has_fields, decimal, lines, first_line}
use Rattle.text.proofs.Lines.{last_field}
use Rattle.text.proofs.Numeral.{decimal_read, plain_decimal}
use Rattle.cue_sheet.specs.Answer.{Told, says, refused, ask_for}
use Rattle.cue_sheet.specs.CueLine.{read_cue}
use Rattle.cue_sheet.specs.Sheet.{SheetAnswer, accepted, refused_at, begin, on_told, head_of, read_first_line, next, judge_from, judge}
use Rattle.cue_sheet.specs.declared.Head.{Head}
use Rattle.cue_sheet.specs.declared.line.Walk.{Walk}
use Rattle.cue_sheet.proofs.Fields.{none_after}
use Rattle.cue_sheet.proofs.Questions.{asked_for}
use Rattle.cue_sheet.proofs.Walks.{next_head}

-- ---- the two fields of a line
module _ (line : List ℕ) {b : List ℕ} (end : (ended line ≡ true) × (b ≡ body line)) where
  pub one_field : fields b ≡ b ∷ [] → read_first_line line ≡ None
  unfolding read_first_line
  one_field one = rw (end.0, ← end.1, one)

  pub two_fields : (rate length : List ℕ) → fields b ≡ rate ∷ fields length → read_first_line line ≡ head_of rate length
  unfolding read_first_line field head_of
  two_fields rate length cut = go (last_field (decimal 16384) (plain_decimal 16384) length)
    where
      go : (fields length ≡ length ∷ []) ⊎ ((decimal 16384 length ≡ None) × (count (fields length) ≡ 1 → ⊥)) → read_first_line line ≡ head_of rate length
      go (inl one) = rw (end.0, ← end.1, cut, one)
      go (inr more) = rw (end.0, ← end.1, cut, ne_eqb (suc (count (fields length))) 2 (λ two. more.1 (omega arith)))
          (sym (none_after (decimal 96000 rate) _ (λ _. rw more.0)))

-- ---- their bounds
pub record HeadIn (head : Head) : Type 0 where
  pub lowest : 16000 ≤ head.rate
  pub highest : head.rate ≤ 96000
  pub longest : head.length ≤ 16384

head_in : (line : List ℕ) {head : Head} → read_first_line line ≡ Some head → HeadIn head
unfolding read_first_line head_of
head_in line {head} h = go (ended line && has_fields 2 (body line)) h
  where
    rate : List ℕ
    rate = field 0 (body line)

    length : List ℕ
    length = field 1 (body line)

    go : (t : Bool) → cond t (head_of rate length) None ≡ Some head → HeadIn head
    go true h =
        option_and_then_some _ (decimal 96000 rate) head h (λ r er h.
        option_and_then_some _ (decimal 16384 length) head h (λ l el h.
        let test = cond_some (leb 16000 r) (record { rate = r; length = l }) head h in
        rw (← test.1) record {
          lowest = leb-true 16000 r test.0;
          highest = (decimal_read 96000 r rate er).most;
          longest = (decimal_read 16384 l length el).most;
        }))
    go false h = let z : ◌≡◌ {A = ℕ} 0 1 = cc in absurd (omega arith)

-- what an accepted answer goes on from
module _ {A : Type 0} (head : Head) (cues line : ℕ) (f : A → SheetAnswer) where
  record From (t : Told A) : Type 0 where
    it : A
    said : t ≡ says it
    goes : f it ≡ accepted head cues

  from : (t : Told A) → on_told t (λ n. refused_at n line) f ≡ accepted head cues → From t
  unfolding on_told
  from (says x) h = record { it = x; said = refl; goes = h }
  from (refused n) h = let z : ◌≡◌ {A = ℕ} 0 1 = cc in absurd (omega arith)

-- the walk keeps what the first line says
same_head : (w : Walk) (ls : List (List ℕ)) {head : Head} {cues : ℕ} → judge_from w ls ≡ accepted head cues → w.head ≡ head
unfolding judge_from
same_head w [] h = cc
same_head w (line ∷ ls) h = sym (next_head w line) ∙ same_head (next w line) ls (from _ _ _ _ (read_cue w line) h).goes

pub accepted_head : (sheet : List ℕ) {head : Head} {cues : ℕ} → judge sheet ≡ accepted head cues → HeadIn head
unfolding judge
accepted_head sheet h =
    let first = from _ _ _ _ (ask_for (read_first_line (first_line sheet)) 7) h in
    rw (← same_head _ _ first.goes) (head_in _ (asked_for _ 7 first.said))

-- its lines after the first pass their questions, in the walk that this head begins
pub accepted-lines : (sheet : List ℕ) {head : Head} {cues : ℕ} → judge sheet ≡ accepted head cues
    → judge_from (begin head) (drop 1 (lines sheet)) ≡ accepted head cues
unfolding judge
accepted-lines sheet {head} {cues} h =
    let first = from _ _ _ _ (ask_for (read_first_line (first_line sheet)) 7) h in
    let goes : judge_from (begin first.it) (drop 1 (lines sheet)) ≡ accepted head cues = first.goes in
    ap (λ (k : Head). judge_from (begin k) (drop 1 (lines sheet))) (sym (same_head _ _ goes)) ∙ goes
