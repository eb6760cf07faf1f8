-- The fields of a cue line, `start,voice,accent,f0,a,decay,c`, if they are well formed. Definitions only.
use Rattle.std.specs.Prelude.{ℕ, cond, ◌&&◌, List, ◌==◌, Option, Some, None, option_map, option_and_then, from_bits, slice_index, Float}
use Prim.Native.Char.{code}
use Rattle.std.specs.Float.{binary32}
use Rattle.std.proofs.Math.ListN as List
use Rattle.text.specs.Read.{ended, body, field, has_fields, decimal, pattern}
use Rattle.cue_sheet.specs.declared.voice.Voice.{Voice}
use Rattle.cue_sheet.specs.declared.voice.Voice.TheVariants.{Bass, Snare, SyntheticSnare, Hihat}
use Rattle.cue_sheet.specs.declared.line.Fields.{Fields}

infixl 10 ◌>>=◌
-- what is read next, where something was read
abbrev pub ◌>>=◌ : {A B : Type 0} → Option A → (A → Option B) → Option B
o >>= f = option_and_then f o

-- ---- the voice of a letter

unfoldable pub voice_of : ℕ → Option Voice
voice_of x =
    cond (x == (code "b")) (Some Bass)
    (cond (x == (code "s")) (Some Snare)
    (cond (x == (code "y")) (Some SyntheticSnare)
    (cond (x == (code "h")) (Some Hihat)
    None)))

-- the one byte of a field; 0, which is no voice's letter, where it has not one
abbrev pub letter : List ℕ → ℕ
letter field = cond (List.length field == 1) (slice_index field 0) 0

-- ---- the fields

-- a knob is the bit pattern of a float
abbrev pub knob : List ℕ → Option Float
knob field = option_map (from_bits binary32) (pattern field)

-- a start has one to five digits
unfoldable pub fields_of : List ℕ → List ℕ → List ℕ → List ℕ → List ℕ → List ℕ → List ℕ → Option Fields
fields_of start voice accent f0 a decay c = do
  start ← decimal 99999 start
  voice ← voice_of (letter voice)
  accent ← knob accent
  f0 ← knob f0
  a ← knob a
  decay ← knob decay
  c ← knob c
  Some (record { start = start; voice = voice; accent = accent; f0 = f0; a = a; decay = decay; c = c })

-- well formed are a line end and seven fields that are
unfoldable pub read_fields : List ℕ → Option Fields
read_fields line =
    let k = λ (i : ℕ). field i (body line) in
    cond (ended line && has_fields 7 (body line)) (fields_of (k 0) (k 1) (k 2) (k 3) (k 4) (k 5) (k 6)) None
