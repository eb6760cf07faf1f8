-- The five passes over a block are one pass, with both filters set before it: no pass sees what another changes, nor the other filter.
use Rattle.std.proofs.Common.{◌≡◌, refl, ap, ◌∙◌}
use lib.Ieee.{Float}
use Rattle.block.specs.declared.Turn.{Turn}
use Rattle.block.specs.Block.{Passed, source, pass, setting}
use Rattle.block.specs.OnePass.{then}
use Rattle.block.proofs.Passes.{Unseen, Apart, set_before, one_pass, filled-pass}
use Rattle.hihat.specs.declared.Hihat.{Hihat}
use Rattle.hihat.specs.declared.Settings.{Settings}
use Rattle.hihat.specs.Hihat.{metallic, set_coloration, colored, clocked, amplified, set_hpf, high_passed, passes}
use Rattle.hihat.specs.OnePass.{tuned, step}

module _ (b : Settings) where
  -- the first passes in one
  abbrev pub two : Hihat → Float → Turn Hihat
  two = then (source (metallic b)) colored

  abbrev pub three : Hihat → Float → Turn Hihat
  three = then two (clocked b)

  abbrev pub four : Hihat → Float → Turn Hihat
  four = then three (amplified b)

  coloration_unseen : Unseen (set_coloration b) (source (metallic b))
  unfolding metallic set_coloration
  coloration_unseen = record { next = λ s x. refl; sample = λ s x. refl }

  hpf_unseen : Unseen (set_hpf b) four
  unfolding metallic colored clocked amplified set_hpf
  hpf_unseen = record { next = λ s x. refl; sample = λ s x. refl }

  apart : Apart (source (metallic b)) colored × Apart two (clocked b) × Apart three (amplified b) × Apart four high_passed
  unfolding metallic colored clocked amplified high_passed
  apart = (
    record { unseen = λ y. record { next = λ s x. refl; sample = λ s x. refl }; sample = λ s x y. refl },
    record { unseen = λ y. record { next = λ s x. refl; sample = λ s x. refl }; sample = λ s x y. refl },
    record { unseen = λ y. record { next = λ s x. refl; sample = λ s x. refl }; sample = λ s x y. refl },
    record { unseen = λ y. record { next = λ s x. refl; sample = λ s x. refl }; sample = λ s x y. refl },
  )

  pub five_passes : (p : Passed Hihat) → passes b p ≡ pass (step b) (setting (tuned b) p)
  unfolding passes step
  five_passes p =
      let p₁ = setting (set_coloration b) p in
      let first = ap (setting (set_coloration b)) (filled-pass (metallic b) p) ∙ set_before _ _ coloration_unseen p in
      let second = ap (pass colored) first ∙ one_pass _ _ apart.0 p₁ in
      let third = ap (pass (clocked b)) second ∙ one_pass _ _ apart.1 p₁ in
      let fourth = ap (pass (amplified b)) third ∙ one_pass _ _ apart.2 p₁ in
      let set = ap (setting (set_hpf b)) fourth ∙ set_before _ _ hpf_unseen p₁ in
      ap (pass high_passed) set ∙ one_pass _ _ apart.3 (setting (set_hpf b) p₁)
