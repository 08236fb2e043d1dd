-- Who has a claim to win: the right ones whose higher digits are all 0. Assumes nothing.
use mathlib.Core.Path.{◌≡◌, refl, ◌∙◌}
use mathlib.Core.List.{List, [], ◌∷◌}
use mathlib.Core.Logic.{◌⊎◌, inl, inr, ⊎_elim}
use Prim.Native.Nat.{ℕ, suc, ◌+◌, ◌*◌, ◌^◌, ◌≤◌, ◌<◌, min, max}
use native.Mathlib.Omega.{arith}
use native.Mathlib.Nat.{lt_of_le_of_lt}
use lib.ListN.{length, get_or, drop}
use lib.Seq.{drop-cons}
use Rattle.std.proofs.lemmas.List.{drop_all}
use lib.Bits.{bit_and, bit_or, bit_xor, xor_lt, and_le_l}
use Rattle.verdicts.specs.Inner.Told.{digit}
use Rattle.verdicts.specs.Inner.Planes.{low_at, Claims}
use Rattle.verdicts.proofs.Digits.{digit_le, digit_cases, digit_and, digit_or, digit_xor, apart}

or_max : (m a b : ℕ) → m ≡ max a b → (m ≤ a + b) × (a ≤ m) × (b ≤ m)
or_max m a b e = (omega arith, omega arith, omega arith)

pub either : (a b j : ℕ) → (digit (bit_or a b) j ≤ digit a j + digit b j) × (digit a j ≤ digit (bit_or a b) j) × (digit b j ≤ digit (bit_or a b) j)
either a b j = or_max (digit (bit_or a b) j) (digit a j) (digit b j) (digit_or a b j)

-- a without the digits of b
abbrev pub without : ℕ → ℕ → ℕ
without a b = bit_xor a (bit_and a b)

without_lt : (m a b : ℕ) → a < 2 ^ m → without a b < 2 ^ m
without_lt m a b l = xor_lt m a (bit_and a b) l (lt_of_le_of_lt (and_le_l a b) l)

left_over : (a b k n : ℕ) → k ≡ min a b → n ≡ apart a k → n + k ≡ a
left_over a b k n e f = omega arith

cut : (a b k n : ℕ) → a ≤ 1 → k ≡ min a b → n + k ≡ a → (b ≡ 0 → n ≡ a) × (b ≡ 1 → n ≡ 0) × (n ≤ a)
cut a b k n l e f = (λ z. omega arith, λ z. omega arith, omega arith)

pub cuts : (a b j : ℕ) →
    (digit b j ≡ 0 → digit (without a b) j ≡ digit a j) × (digit b j ≡ 1 → digit (without a b) j ≡ 0) × (digit (without a b) j ≤ digit a j)
cuts a b j =
    cut (digit a j) (digit b j) (digit (bit_and a b) j) (digit (without a b) j) (digit_le a j) (digit_and a b j)
    (left_over (digit a j) (digit b j) (digit (bit_and a b) j) (digit (without a b) j) (digit_and a b j) (digit_xor a (bit_and a b) j))

-- the digits of the planes and of n, together
unfoldable pub ors : ℕ → List ℕ → ℕ
ors n [] = n
ors n (p ∷ ps) = ors (bit_or n p) ps

pub ors_step : (n : ℕ) (q : List ℕ) (k : ℕ) → k < length q → ors n (drop k q) ≡ ors (bit_or n (get_or q k 0)) (drop (suc k) q)
unfolding ors
ors_step n q k l = rw (drop-cons q k 0 l) refl

pub ors_end : (n : ℕ) (q : List ℕ) (k : ℕ) → length q ≤ k → ors n (drop k q) ≡ n
unfolding ors
ors_end n q k l = let past : drop k q ≡ [] = drop_all k q l in rw past refl

-- a digit there is 1 just where one of them has a 1
ors_le : (j : ℕ) (ps : List ℕ) (n : ℕ) → digit (ors n ps) j ≤ low_at ps j + digit n j
unfolding ors low_at
ors_le j [] n = omega arith
ors_le j (p ∷ ps) n = omega (arith, ors_le j ps (bit_or n p), (either n p j).0)

⊎_of : (d : ℕ) → d ≤ 1 → 0 + d ≡ 0 ⊎ 1 ≤ d
⊎_of d l = digit_cases d l (λ z. inl (omega arith)) (λ o. inr (omega arith))

ors_ge : (j : ℕ) (ps : List ℕ) (n : ℕ) → (digit n j ≤ digit (ors n ps) j) × (low_at ps j + digit n j ≡ 0 ⊎ 1 ≤ digit (ors n ps) j)
unfolding ors low_at
ors_ge j [] n = (omega arith, ⊎_of (digit n j) (digit_le n j))
ors_ge j (p ∷ ps) n =
    let E = either n p j in
    let R = ors_ge j ps (bit_or n p) in
    (omega (arith, E, R.0), ⊎_elim (λ z. digit_cases (digit p j) (digit_le p j) (λ o. digit_cases (digit n j) (digit_le n j) (λ i. inl (omega arith)) (λ i. inr (omega (arith, E, R.0)))) (λ o. inr (omega (arith, E, R.0)))) (λ o. inr o) R.1)

module _ (p : ℕ) (ps : List ℕ) (far rights : ℕ) where
  abbrev high : ℕ
  high = ors far ps

  abbrev near : ℕ
  near = without rights high

  abbrev first : ℕ
  first = without near p

  none_high : (a l f h k : ℕ) → h ≤ l + f → f ≤ k → a + 2 * l + k ≤ 1 → a + 2 * l + k ≡ 0 ⊎ 2 * f ≤ k → h ≡ 0
  none_high a l f h k b e g d = ⊎_elim (λ u. omega arith) (λ u. omega arith) d

  some_high : (j : ℕ) → 0 < low_at ps j + digit far j → digit high j ≡ 1
  some_high j e = ⊎_elim (λ z. absurd (omega arith)) (λ o. omega (arith, digit_le high j)) (ors_ge j ps far).1

  pub claimed : Claims (p ∷ ps) far rights (record { first = first; near = near })
  unfolding low_at
  claimed =
      record {
        first_is = λ j e. (cuts near p j).0 (omega arith)
            ∙ (cuts rights high j).0 (none_high (digit p j) (low_at ps j) (digit far j) _ (digit far j) (ors_le j ps far) (omega arith) (omega arith) (inl e));
        first_not = λ j e. digit_cases (digit p j) (digit_le p j)
            (λ z. omega (arith, (cuts near p j).2, (cuts rights high j).1 (some_high j (omega arith))))
            (λ z. (cuts near p j).1 z);
        near_is = λ j e. (cuts rights high j).0
            (none_high (digit p j) (low_at ps j) (digit far j) _ (64 * digit far j) (ors_le j ps far) (omega arith) e (inr (omega arith)));
        near_not = λ j e. (cuts rights high j).1 (some_high j (omega (arith, digit_le p j)));
        small = λ m l. (without_lt m near p (without_lt m rights high l), without_lt m rights high l);
      }
