-- What a read gives follows what was read before it.
use Rattle.std.proofs.Common.{◌≡◌, ℕ, ◌+◌, ◌≤◌, List, ◌++◌, rules, length, take, sym, subst, le_refl, drop_at, length-take-le}
use Rattle.std.proofs.lemmas.Slice.{take-put_mid_below}
use Rattle.std.specs.Io.KnownBytes.{Consumes}
use Rattle.std.proofs.KnownBytes.{Consumes-trans}
use borrow.Rule.Slice.PartMut.{put_mid, post_of}
use lib.Seq.{take-add, take-append-le}
use Rattle.input.proofs.read_full.Goals as goal

-- n bytes more of a buffer, of which the part from place a on holds ys now
take_more_put_mid : (a k n : ℕ) (xs ys : List ℕ) → a ≤ length xs → n ≤ length ys → take (a + n) (put_mid a k xs ys) ≡ take a xs ++ take n ys
take_more_put_mid a k n xs ys within fits =
    rw
    (take-add a n (put_mid a k xs ys), take-put_mid_below a k xs ys a (le_refl a) within, drop_at (take a xs) (ys ++ post_of a k xs) a (length-take-le a xs within), take-append-le n ys (post_of a k xs) fits)

pub loop-filled-preserved : goal.loop-filled-preserved
loop-filled-preserved g c =
    let l = c.loop-filled in
    record {
      within = search rules;
      bytes =
          subst
          (Consumes _ _)
          (sym (take_more_put_mid _ _ _ _ _ l.invariant.within c.in_ok-n.ensures.bound.0))
          (Consumes-trans _ _ _ _ _ l.invariant.bytes c.in_ok-n.ensures.bytes.0);
    }
