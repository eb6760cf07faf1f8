-- An increment at each of the six places; the ratios are those of the definition.
use Rattle.std.proofs.Common.{rules, slice_index_or}
use lib.Ieee.{round, of_bits, nan}
use Rattle.hihat.specs.SquareNoise.{increment, increments, ratios}
use Rattle.hihat.proofs.Six.{by_place}
use Rattle.hihat.proofs.square_noise.increments.Goals as goal

pub returns : goal.returns
unfolding increments ratios round of_bits
returns c = by_place 0 (λ k. increment c.args.f0 (slice_index_or ratios k nan)) _ c.map.ensures.items.long
    (λ k h. let at = c.map.ensures.items.at k nan 0 h in search rules)
