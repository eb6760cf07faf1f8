-- The definition, of the word drawn; the literal agrees by computing.
use lib.Ieee.{round, of_bits}
use Rattle.random.specs.Random.{get_float}
use Rattle.random.proofs.get_float.Goals as goal

pub returns : goal.returns
unfolding get_float round of_bits
returns c = rw (c.nearest_f32.ensures, c.get_word-word.ensures)
