-- Passes over a buffer, one after the other, are one pass, where no stage changes what another reads; and what no pass touches may be set before them.
use mathlib.Core.Path.{◌≡◌, refl, sym, ap, ap₂, ◌∙◌}
use mathlib.Core.List.{List, [], ◌∷◌}
use lib.Ieee.{Float}
use Rattle.block.specs.declared.Turn.{Turn}
use Rattle.block.specs.Block.{scan, scanned, source, Passed, filled, pass, setting}
use Rattle.block.specs.OnePass.{then}
use Rattle.block.proofs.Blocks.{scan_source, scanned-source}

-- the stage f does not see whether the state was set, and does not undo it
pub record Unseen {S : Type 0} (set : S → S) (f : S → Float → Turn S) : Type 0 where
  pub next : (s : S) (x : Float) → (f (set s) x).next ≡ set (f s x).next
  pub sample : (s : S) (x : Float) → (f (set s) x).sample ≡ (f s x).sample

-- neither of two stages sees what the other did
pub record Apart {S : Type 0} (f g : S → Float → Turn S) : Type 0 where
  pub unseen : (y : Float) → Unseen (λ s. (g s y).next) f
  pub sample : (s : S) (x y : Float) → (g (f s x).next y).sample ≡ (g s y).sample

module _ {S : Type 0} (set : S → S) (f : S → Float → Turn S) (u : Unseen set f) where
  scanned-set : (s : S) (xs : List Float) → scanned f (set s) xs ≡ set (scanned f s xs)
  unfolding scanned
  scanned-set s [] = refl
  scanned-set s (x ∷ xs) = rw (u.next s x) (scanned-set (f s x).next xs)

  scan-set : (s : S) (xs : List Float) → scan f (set s) xs ≡ scan f s xs
  unfolding scan
  scan-set s [] = refl
  scan-set s (x ∷ xs) = rw (u.next s x, u.sample s x) (ap (λ (l : List Float). (f s x).sample ∷ l) (scan-set (f s x).next xs))

  -- what a pass does not see may be set before it
  pub set_before : (p : Passed S) → setting set (pass f p) ≡ pass f (setting set p)
  set_before p = rw (scanned-set p.state p.out, scan-set p.state p.out)

module _ {S : Type 0} (f g : S → Float → Turn S) (a : Apart f g) where
  sample-past : (s : S) (xs : List Float) (y : Float) → (g (scanned f s xs) y).sample ≡ (g s y).sample
  unfolding scanned
  sample-past s [] y = refl
  sample-past s (x ∷ xs) y = sample-past (f s x).next xs y ∙ a.sample s x y

  scan-both : (s : S) (xs : List Float) → scan g (scanned f s xs) (scan f s xs) ≡ scan (then f g) s xs
  unfolding scan scanned
  scan-both s [] = refl
  scan-both s (x ∷ xs) =
      let t = (f s x).next in
      let y = (f s x).sample in
      rw (sample-past t xs y, ← scanned-set (λ s. (g s y).next) f (a.unseen y) t xs, ← scan-set (λ s. (g s y).next) f (a.unseen y) t xs)
      (ap (λ (l : List Float). (g t y).sample ∷ l) (scan-both (g t y).next xs))

  scanned-both : (s : S) (xs : List Float) → scanned g (scanned f s xs) (scan f s xs) ≡ scanned (then f g) s xs
  unfolding scan scanned
  scanned-both s [] = refl
  scanned-both s (x ∷ xs) =
      let t = (f s x).next in
      let y = (f s x).sample in
      let u = a.unseen y in
      ap₂ (scanned g) (sym (scanned-set (λ s. (g s y).next) f u t xs)) (sym (scan-set (λ s. (g s y).next) f u t xs)) ∙ scanned-both (g t y).next xs

  -- two passes are one
  pub one_pass : (p : Passed S) → pass g (pass f p) ≡ pass (then f g) p
  one_pass p = rw (scan-both p.state p.out, scanned-both p.state p.out)

-- a source's pass is a stage's that does not read the buffer
pub filled-pass : {S : Type 0} (step : S → Turn S) (p : Passed S) → filled step p ≡ pass (source step) p
filled-pass step p = rw (scan_source step p.state p.out, scanned-source step p.state p.out)
