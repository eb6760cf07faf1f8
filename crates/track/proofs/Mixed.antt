-- What a voice gives is added part by part; where it gives nothing, nothing changes.
use Prim.Native.Nat.{ℕ, zero, suc, ◌+◌, ◌-◌, ◌≤◌}
use native.Mathlib.Omega.{arith}
use mathlib.Core.Path.{◌≡◌, refl, sym, ap, ◌∙◌}
use mathlib.Core.List.{List, [], ◌∷◌, ◌++◌, append_assoc}
use mathlib.Core.Option.{Option, none, some}
use lib.ListN.{length, take, drop, replicate, length-replicate, length-drop, take-append-drop, replicate-append-replicate}
use lib.Seq.{length-take-le, drop-drop}
use lib.Ieee.{Float}
use Rattle.track.specs.Mix.{silence, mixed}

pub silence-length : (n : ℕ) → length (silence n) ≡ n
unfolding silence
silence-length n = length-replicate n _

pub silence-add : (m n : ℕ) → silence (m + n) ≡ silence m ++ silence n
unfolding silence
silence-add m n = sym (replicate-append-replicate m n _)

pub mixed-length : (xs : List Float) (ts : List (Option Float)) → length (mixed xs ts) ≡ length xs
unfolding mixed
mixed-length [] ts = refl
mixed-length (x ∷ xs) [] = refl
mixed-length (x ∷ xs) (none ∷ ts) = ap suc (mixed-length xs ts)
mixed-length (x ∷ xs) (some y ∷ ts) = ap suc (mixed-length xs ts)

mixed_nil : (xs : List Float) → mixed xs [] ≡ xs
unfolding mixed
mixed_nil [] = refl
mixed_nil (x ∷ xs) = refl

pub mixed_none : (n : ℕ) (xs : List Float) → mixed xs (replicate n none) ≡ xs
unfolding mixed
mixed_none zero xs = mixed_nil xs
mixed_none (suc n) [] = refl
mixed_none (suc n) (x ∷ xs) = ap (λ (l : List Float). x ∷ l) (mixed_none n xs)

pub mixed-append : (xs ys : List Float) (ts us : List (Option Float)) → length ts ≡ length xs → mixed (xs ++ ys) (ts ++ us) ≡ mixed xs ts ++ mixed ys us
unfolding mixed
mixed-append [] ys [] us e = refl
mixed-append [] ys (t ∷ ts) us e = absurd (omega arith)
mixed-append (x ∷ xs) ys [] us e = absurd (omega arith)
mixed-append (x ∷ xs) ys (none ∷ ts) us e = rw (mixed-append xs ys ts us (omega arith))
mixed-append (x ∷ xs) ys (some y ∷ ts) us e = rw (mixed-append xs ys ts us (omega arith))

-- ---- the places from one of the buffer to another
pub part_length : (out : List Float) (from to : ℕ) → from ≤ to → to ≤ length out → length (take (to - from) (drop from out)) ≡ to - from
part_length out from to h within = length-take-le (to - from) (drop from out) (omega (arith, length-drop from out))

-- ---- a run is added in place: what is left to add then begins behind it
module _ (out : List Float) (run rest : List (Option Float)) (from to : ℕ) (h : from ≤ to) (within : to ≤ length out) (long : length run ≡ to - from) where
  abbrev front : List Float
  front = take from out

  abbrev part : List Float
  part = take (to - from) (drop from out)

  in_parts : out ≡ front ++ (part ++ drop to out)
  in_parts =
      let e : from + (to - from) ≡ to = omega arith in
      let behind : drop (to - from) (drop from out) ≡ drop to out = drop-drop (to - from) from out ∙ ap (λ (k : ℕ). drop k out) e in
      sym (take-append-drop from out) ∙ ap (λ (l : List Float). front ++ l) (sym (take-append-drop (to - from) (drop from out)) ∙ rw behind)

  nones : length (replicate {A = Option Float} from none) ≡ length front
  nones = length-replicate from none ∙ sym (length-take-le from out (omega arith))

  pub mixed_part : mixed (front ++ (mixed part run ++ drop to out)) (replicate to none ++ rest) ≡ mixed out (replicate from none ++ (run ++ rest))
  mixed_part =
      let size = part_length out from to h within in
      let e : from + (to - from) ≡ to = omega arith in
      let split : replicate {A = Option Float} to none ≡ replicate from none ++ replicate (to - from) none =
      ap (λ (k : ℕ). replicate k none) (sym e) ∙ sym (replicate-append-replicate from (to - from) none) in
      rw (split, append_assoc)
      (mixed-append front (mixed part run ++ drop to out) (replicate from none) (replicate (to - from) none ++ rest) nones
      ∙ ap (λ (l : List Float). mixed front (replicate from none) ++ l)
      (mixed-append (mixed part run) (drop to out) (replicate (to - from) none) rest (length-replicate (to - from) none ∙ sym (mixed-length part run ∙ size))
      ∙ ap (λ (l : List Float). l ++ mixed (drop to out) rest) (mixed_none (to - from) (mixed part run))
      ∙ sym (mixed-append part (drop to out) run rest (long ∙ sym size)))
      ∙ sym (mixed-append front (part ++ drop to out) (replicate from none) (run ++ rest) nones)
      ∙ ap (λ (l : List Float). mixed l (replicate from none ++ (run ++ rest))) (sym in_parts))
