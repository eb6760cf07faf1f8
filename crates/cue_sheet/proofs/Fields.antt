-- The fields of a cue line as the code cuts them, and what they say of its voice.
use Rattle.std.proofs.Common.{◌≡◌, ◌⊎◌, inl, inr, ℕ, Bool, true, false, ◌&&◌, cond, List, [], ◌∷◌, length, Option, Some, None, option_map, option_and_then, refl, sym, ap, ◌∙◌, arith, ne_eqb, Float}
use Rattle.std.specs.Prelude.{from_bits}
use Rattle.std.specs.Float.{binary32}
use Rattle.std.proofs.lemmas.Option.{option_and_then_some}
use Rattle.text.specs.Read.{ended, body, fields, field, has_fields, decimal, pattern}
use Rattle.text.proofs.Lines.{last_field}
use Rattle.text.proofs.Numeral.{plain_pattern}
use Rattle.cue_sheet.specs.Fields.{voice_of, letter, knob, fields_of, read_fields}
use Rattle.cue_sheet.specs.declared.line.Fields.{Fields}

-- no comma is in a knob
plain_knob : (text : List ℕ) (x : Float) → knob text ≡ Some x → fields text ≡ text ∷ []
plain_knob text x h = go (pattern text) refl h
  where
    go : (o : Option ℕ) → pattern text ≡ o → option_map (from_bits binary32) o ≡ Some x → fields text ≡ text ∷ []
    go (Some n) e h = plain_pattern text n e
    go None e h = let z : ◌≡◌ {A = ℕ} 0 1 = cc in absurd (omega arith)

pub none_after : {A B : Type 0} (o : Option A) (f : A → Option B) → ((x : A) → f x ≡ None) → option_and_then f o ≡ None
none_after (Some x) f h = h x
none_after None f h = refl

no_last : (start voice accent f0 a decay c : List ℕ) → knob c ≡ None → fields_of start voice accent f0 a decay c ≡ None
unfolding fields_of
no_last start voice accent f0 a decay c e =
    none_after (decimal 99999 start) _
    (λ _. none_after (voice_of (letter voice)) _
    (λ _. none_after (knob accent) _ (λ _. none_after (knob f0) _ (λ _. none_after (knob a) _ (λ _. none_after (knob decay) _ (λ _. rw e))))))

module _ (line : List ℕ) {b : List ℕ} (end : (ended line ≡ true) × (b ≡ body line)) where
  pub few : (length (fields b) ≡ 7 → ⊥) → read_fields line ≡ None
  unfolding read_fields
  few other = rw (end.0, ← end.1, ne_eqb (length (fields b)) 7 other)

  seven : {start voice accent f0 a decay : List ℕ} (c : List ℕ) → fields b ≡ start ∷ voice ∷ accent ∷ f0 ∷ a ∷ decay ∷ fields c
      → read_fields line ≡ fields_of start voice accent f0 a decay c
  unfolding read_fields field
  seven {start} {voice} {accent} {f0} {a} {decay} c cut = go (last_field knob plain_knob c)
    where
      go : (fields c ≡ c ∷ []) ⊎ ((knob c ≡ None) × (length (fields c) ≡ 1 → ⊥)) → read_fields line ≡ fields_of start voice accent f0 a decay c
      go (inl one) = rw (end.0, ← end.1, cut, one)
      go (inr more) = few (λ e. more.1 (omega (arith, ap length cut))) ∙ sym (no_last start voice accent f0 a decay c more.0)

  pub all : {start voice accent f0 a decay : List ℕ} (r1 r2 r3 r4 r5 c : List ℕ)
      → fields b ≡ start ∷ fields r1 → fields r1 ≡ voice ∷ fields r2 → fields r2 ≡ accent ∷ fields r3 → fields r3 ≡ f0 ∷ fields r4 → fields r4 ≡ a ∷ fields r5
      → fields r5 ≡ decay ∷ fields c → read_fields line ≡ fields_of start voice accent f0 a decay c
  all r1 r2 r3 r4 r5 c e1 e2 e3 e4 e5 e6 = seven c (e1 ∙ rw (e2, e3, e4, e5, e6))

-- ---- the voice that is read is that of the second field's letter
pub voice-read : (line : List ℕ) {f : Fields} → read_fields line ≡ Some f → voice_of (letter (field 1 (body line))) ≡ Some f.voice
unfolding read_fields fields_of
voice-read line {f} h = go (ended line && has_fields 7 (body line)) h
  where
    k : ℕ → List ℕ
    k i = field i (body line)

    go : (t : Bool) → cond t (fields_of (k 0) (k 1) (k 2) (k 3) (k 4) (k 5) (k 6)) None ≡ Some f → voice_of (letter (k 1)) ≡ Some f.voice
    go true h =
        option_and_then_some _ (decimal 99999 (k 0)) f h (λ _ _ h.
        option_and_then_some _ (voice_of (letter (k 1))) f h (λ voice read h.
        option_and_then_some _ (knob (k 2)) f h (λ _ _ h.
        option_and_then_some _ (knob (k 3)) f h (λ _ _ h.
        option_and_then_some _ (knob (k 4)) f h (λ _ _ h.
        option_and_then_some _ (knob (k 5)) f h (λ _ _ h.
        option_and_then_some _ (knob (k 6)) f h (λ _ _ h.
        let same : voice ≡ f.voice = cc in
        rw (← same) read)))))))
    go false h = let z : ◌≡◌ {A = ℕ} 0 1 = cc in absurd (omega arith)
