-- A sum at each of the six places.
use Rattle.std.proofs.Common.{rules, ap, List, ℕ, ◌+◌, ◌%◌, ◌^◌, slice_index}
use Rattle.hihat.specs.SquareNoise.{advanced}
use Rattle.hihat.proofs.Six.{by_place}
use Rattle.hihat.proofs.square_noise.SquareNoise.advanced.Goals as goal

pub returns : goal.returns
unfolding advanced
returns c = ap (λ (phase : List ℕ). record { phase = phase })
    (by_place 0 (λ k. (slice_index c.args.self.phase k + slice_index c.args.increment k) % 2 ^ 32) _ c.from_fn-phase.ensures.items.long
    (λ k h. let at = c.from_fn-phase.ensures.items.at k 0 h in search rules))
