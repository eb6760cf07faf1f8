-- Examples at the edges, each computed from the definitions that the contracts cite.
use mathlib.Core.Path.{◌≡◌, refl}
use mathlib.Core.Bool.{false}
use Prim.Native.Nat.{ℕ}
use lib.ListN.{get_or}
use lib.Ieee.{nan, inf, binary32, of_bits, to_bits, of_int, round, add, sub, mul, div, neg, le, lt, eq, is_nan, to_unsigned}
use Rattle.ieee754.specs.Single.{◌⊖◌, decimal}
use Rattle.ieee754.specs.Operations.{precedes, choose, the_number, minimum_number}
use Rattle.ieee754.specs.Root.{sqrt}
use Rattle.block.specs.Block.{after}
use Rattle.random.specs.Random.{get_word, get_float}
use Rattle.units.specs.Tables.{LUT_PITCH_RATIO_HIGH, LUT_PITCH_RATIO_LOW}
use Rattle.units.specs.Units.{pitch_of, ratio}
use Rattle.utils.specs.Utils.{soft_limit, soft_clip}
use Rattle.hihat.specs.SquareNoise.{ratios, increment, increments, advanced, count_high}
use Rattle.hihat.specs.SquareNoise as SquareNoise
use Rattle.text.specs.Read as Read
use Rattle.text.specs.Write as Write
use Rattle.text.specs.Write.{ascii}
use Rattle.draw_request.specs.Requests as Requests
use Rattle.listing.specs.Draws as Draws

-- the listing of `draws` for the input `33,2` and its line end
draws_33_2 : Draws.text (ascii "33,2\n") ≡ ascii "draw,word,bits\n1,1068833548,3e7ed46c\n2,1167334139,3e8b2836\n"
unfolding Draws.text Draws.answer Draws.rows Draws.row Requests.read_request Requests.read_line Requests.both Read.ended Read.body Read.fields Read.field Read.decimal Read.well_formed Read.numeral Read.up_to Read.digit Write.decimal Write.decimal_within Write.pattern get_word get_float to_bits of_int div round
draws_33_2 = refl

-- words as floats, each from the state that draws it
word_4294967167 : get_float 3066647712 ≡ record { word = 4294967167; value = of_bits binary32 0x3f7fffff }
unfolding get_float get_word of_int div round of_bits
word_4294967167 = refl

word_4294967168 : get_float 3047796069 ≡ record { word = 4294967168; value = decimal 1 0 }
unfolding get_float get_word of_int div round
word_4294967168 = refl

-- pitches; 3a214518 is the first entry of the upper table
semitones_0 : ratio (decimal 0 0) ≡ of_bits binary32 0x3f800000
unfolding ratio LUT_PITCH_RATIO_HIGH LUT_PITCH_RATIO_LOW round of_bits add sub mul le of_int to_unsigned
semitones_0 = refl

semitones_12 : ratio (decimal 12 0) ≡ of_bits binary32 0x40000000
unfolding ratio LUT_PITCH_RATIO_HIGH LUT_PITCH_RATIO_LOW round of_bits add sub mul le of_int to_unsigned
semitones_12 = refl

first_entry : get_or LUT_PITCH_RATIO_HIGH 0 nan ≡ of_bits binary32 0x3a214518
unfolding LUT_PITCH_RATIO_HIGH round of_bits
first_entry = refl

semitones_minus_128 : ratio (neg (decimal 128 0)) ≡ of_bits binary32 0x3a214518
unfolding ratio LUT_PITCH_RATIO_HIGH LUT_PITCH_RATIO_LOW round of_bits add sub mul neg le of_int to_unsigned
semitones_minus_128 = refl

semitones_minus_129 : ratio (neg (decimal 129 0)) ≡ of_bits binary32 0x3a214518
unfolding ratio LUT_PITCH_RATIO_HIGH LUT_PITCH_RATIO_LOW round of_bits add sub mul neg le of_int to_unsigned
semitones_minus_129 = refl

semitones_nan : ratio nan ≡ of_bits binary32 0x3a214518
unfolding ratio LUT_PITCH_RATIO_HIGH LUT_PITCH_RATIO_LOW round of_bits add sub mul le of_int to_unsigned
semitones_nan = refl

-- 128 - 2^-16, whose pitch is the last below 256, and 128 - 2^-17, whose sum with 128 rounds to 256 (43800000): the ratio is held
semitones_last : ratio (decimal 128 0 ⊖ decimal 152587890625 16) ≡ of_bits binary32 0x44cb243a
unfolding ratio LUT_PITCH_RATIO_HIGH LUT_PITCH_RATIO_LOW round of_bits add sub mul le of_int to_unsigned
semitones_last = refl

pitch_held : pitch_of (decimal 128 0 ⊖ decimal 762939453125 17) ≡ of_bits binary32 0x43800000
unfolding round of_bits add sub
pitch_held = refl

semitones_held : ratio (decimal 128 0 ⊖ decimal 762939453125 17) ≡ of_bits binary32 0x44cb243a
unfolding ratio LUT_PITCH_RATIO_HIGH LUT_PITCH_RATIO_LOW round of_bits add sub mul le of_int to_unsigned
semitones_held = refl

semitones_infinite : ratio (inf false) ≡ of_bits binary32 0x44cb243a
unfolding ratio LUT_PITCH_RATIO_HIGH LUT_PITCH_RATIO_LOW round of_bits add mul le
semitones_infinite = refl

root_2 : sqrt binary32 (decimal 2 0) ≡ of_bits binary32 0x3fb504f3
unfolding sqrt round of_bits
root_2 = refl

root_minus_0 : sqrt binary32 (neg (decimal 0 0)) ≡ neg (decimal 0 0)
unfolding sqrt round neg
root_minus_0 = refl

soft_clip_3 : soft_clip (decimal 3 0) ≡ decimal 1 0
unfolding soft_clip soft_limit round add mul div neg lt
soft_clip_3 = refl

minimum_nan : minimum_number nan (decimal 5 1) ≡ decimal 5 1
unfolding minimum_number choose the_number precedes lt eq is_nan round
minimum_nan = refl

-- square noise from phases of 0 at f0 = 0.25: how many phases are high after one, two and three samples
abbrev high_after : ℕ → ℕ
high_after n = count_high (after (SquareNoise.turn (increments (decimal 25 2))) n SquareNoise.init).phase

square_noise_1 : high_after 1 ≡ 0
unfolding after advanced increments increment ratios round mul le to_unsigned
square_noise_1 = refl

square_noise_2 : high_after 2 ≡ 6
unfolding after advanced increments increment ratios round mul le to_unsigned
square_noise_2 = refl

square_noise_3 : high_after 3 ≡ 2
unfolding after advanced increments increment ratios round mul le to_unsigned
square_noise_3 = refl
