-- A translation goes on from the left: by a symbol, by a run of n, by all that are left. Assumes nothing.
use mathlib.Core.Path.{◌≡◌, refl, sym, ◌∙◌}
use mathlib.Core.List.{List, [], ◌∷◌, map}
use Prim.Native.Nat.{ℕ, suc, ◌+◌, ◌*◌, ◌≤◌, ◌<◌}
use native.Mathlib.Numerals.{add-one}
use native.Mathlib.Nat.{suc-mul}
use native.Mathlib.Omega.{arith}
use borrow.Rule.Slice.PartMut.{put_mid}
use lib.ListN.{length, get_or, set, take, drop, length-map, length-drop, take-append-drop}
use lib.Seq.{take-suc}
use Rattle.std.proofs.lemmas.List.{append-nil, drop_all, ext_get_or, get_or-map, map-append, take_more_set}
use Rattle.std.proofs.lemmas.Slice.{take-put_mid}
use Rattle.marks.proofs.Chunks.{past_chunk}

-- a list of n numbers that f gives one by one
pub maps : (f : ℕ → ℕ) {n : ℕ} (s : List ℕ) {numbers : List ℕ} → length numbers ≡ n → length s ≡ n → ((k : ℕ) → k < n → get_or numbers k 0 ≡ f (get_or s k 0))
    → numbers ≡ map f s
maps f {n} s {numbers} p q h =
    ext_get_or 0 numbers (map f s) (omega (arith, p, q, length-map s f))
    (λ k l. h k (omega (arith, p)) ∙ sym (get_or-map f s k 0 0 (omega (arith, p, q))))

module _ (f : ℕ → ℕ) (s out : List ℕ) (room : length out ≡ length s) (i : ℕ) where
  -- the number x of the symbol at place i goes out
  pub one_more : {x : ℕ} → i < length s → x ≡ f (get_or s i 0) → take i out ≡ map f (take i s)
      → take (i + 1) (set out i x) ≡ map f (take (i + 1) s)
  one_more {x} l e h =
      take_more_set out i x (omega (arith, room))
      ∙ rw (add-one i, take-suc s i 0 l, map-append f (take i s) (get_or s i 0 ∷ []), h, e) refl

  -- the numbers of the run i of n symbols, which begins at place j
  pub run_more : (n j k : ℕ) {numbers : List ℕ} → j ≡ i * n → j + n ≤ length s → length numbers ≡ n
      → numbers ≡ map f (take n (drop (i * n) s)) → take (i * n) out ≡ map f (take (i * n) s)
      → take ((i + 1) * n) (put_mid j k out numbers) ≡ map f (take ((i + 1) * n) s)
  run_more n j k {numbers} p r t e h =
      let step : (i + 1) * n ≡ j + length numbers = let m : suc i * n ≡ i * n + n = suc-mul i n in omega (arith, m, p, t) in
      take-put_mid j k out numbers ((i + 1) * n) step (omega (arith, room))
      ∙ rw (past_chunk n i s, map-append f (take (i * n) s) (take n (drop (i * n) s)), p, h, e) refl

  -- the numbers of all that are left, from place j on
  pub rest_more : (j k : ℕ) {numbers : List ℕ} → j ≡ i → length out ≤ j + k → numbers ≡ map f (drop i s) → take i out ≡ map f (take i s)
      → put_mid j k out numbers ≡ map f s
  rest_more j k {numbers} p r e h =
      let none : drop k (drop j out) ≡ [] = drop_all k (drop j out) (omega (arith, length-drop j out)) in
      rw (none, append-nil numbers, p, h, e, ← map-append f (take i s) (drop i s), take-append-drop i s) refl
