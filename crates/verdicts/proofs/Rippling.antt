-- Adding and taking away through the planes: each plane passes on what it cannot hold, digit by digit. Assumes nothing.
use mathlib.Core.Path.{◌≡◌, refl, sym, ap, ◌∙◌}
use mathlib.Core.List.{List, [], ◌∷◌, ◌++◌, append_assoc, append-nil}
use Prim.Native.Nat.{ℕ, suc, ◌+◌, ◌*◌, ◌^◌, ◌≤◌, ◌<◌, min}
use native.Mathlib.Omega.{arith}
use native.Mathlib.Nat.{pow-suc, mul_comm, mul_assoc}
use native.Mathlib.Numerals.{add-one}
use lib.Bits.{bit_and, bit_xor}
use lib.ListN.{length, get_or, set, take, drop, length-set}
use Rattle.std.proofs.lemmas.List.{drop_all, drop-set-lt}
use lib.Seq.{drop-cons, take-suc-set, take_all}
use Rattle.verdicts.specs.Inner.Told.{digit}
use Rattle.verdicts.specs.Inner.Planes.{low_at, Ripples}
use Rattle.verdicts.proofs.Digits.{digit_le, digit_and, digit_xor, apart}

-- what a plane passes on
abbrev pub passed : ℕ → ℕ → ℕ → ℕ
passed p c x = bit_and c (bit_xor p x)

adding : (p c n o y : ℕ) → p ≤ 1 → c ≤ 1 → n ≡ apart p c → o ≡ min c y → y ≡ p → p + c ≡ n + 2 * o
adding p c n o y hp hc hn ho hy = omega arith

taking : (p c n o y : ℕ) → p ≤ 1 → c ≤ 1 → n ≡ apart p c → o ≡ min c y → y + p ≡ 1 → p + 2 * o ≡ n + c
taking p c n o y hp hc hn ho hy = omega arith

same_digit : (p x y : ℕ) → x ≡ 0 → y ≡ apart p x → y ≡ p
same_digit p x y e f = omega arith

other_digit : (p x y : ℕ) → p ≤ 1 → x ≡ 1 → y ≡ apart p x → y + p ≡ 1
other_digit p x y l e f = omega arith

module _ (p c x j : ℕ) where
  pub plane_adds : digit x j ≡ 0 → digit p j + digit c j ≡ digit (bit_xor p c) j + 2 * digit (passed p c x) j
  plane_adds e =
      adding (digit p j) (digit c j) _ _ (digit (bit_xor p x) j) (digit_le p j) (digit_le c j) (digit_xor p c j) (digit_and c (bit_xor p x) j)
      (same_digit (digit p j) (digit x j) (digit (bit_xor p x) j) e (digit_xor p x j))

  pub plane_takes : digit x j ≡ 1 → digit p j + 2 * digit (passed p c x) j ≡ digit (bit_xor p c) j + digit c j
  plane_takes e =
      taking (digit p j) (digit c j) _ _ (digit (bit_xor p x) j) (digit_le p j) (digit_le c j) (digit_xor p c j) (digit_and c (bit_xor p x) j)
      (other_digit (digit p j) (digit x j) (digit (bit_xor p x) j) (digit_le p j) e (digit_xor p x j))

-- two of the next plane's units are one of this one's
double : (n d : ℕ) → 2 ^ suc n * d ≡ 2 * (2 ^ n * d)
double n d = rw (pow-suc 2 n, mul_comm (2 ^ n) 2, mul_assoc 2 (2 ^ n) d) refl

on_add : (p c n o a b x : ℕ) → p + c ≡ n + 2 * o → a + o ≡ b + x → p + 2 * a + c ≡ n + 2 * b + 2 * x
on_add p c n o a b x e f = omega arith

on_take : (p c n o a b x : ℕ) → p + 2 * o ≡ n + c → a + x ≡ b + o → p + 2 * a + 2 * x ≡ n + 2 * b + c
on_take p c n o a b x e f = omega arith

-- the planes after c went through them, and what is left over
unfoldable pub rippled : List ℕ → ℕ → ℕ → List ℕ
rippled [] c x = []
rippled (p ∷ ps) c x = bit_xor p c ∷ rippled ps (passed p c x) x

unfoldable pub carried : List ℕ → ℕ → ℕ → ℕ
carried [] c x = c
carried (p ∷ ps) c x = carried ps (passed p c x) x

module _ (x j : ℕ) where
  adds : (q : List ℕ) (c : ℕ) → digit x j ≡ 0 → low_at q j + digit c j ≡ low_at (rippled q c x) j + 2 ^ length q * digit (carried q c x) j
  unfolding low_at rippled carried
  adds [] c e = omega arith
  adds (p ∷ ps) c e =
      rw (double (length ps))
      (on_add (digit p j) (digit c j) _ (digit (passed p c x) j) (low_at ps j) _ _ (plane_adds p c x j e) (adds ps (passed p c x) e))

  takes : (q : List ℕ) (c : ℕ) → digit x j ≡ 1 → low_at q j + 2 ^ length q * digit (carried q c x) j ≡ low_at (rippled q c x) j + digit c j
  unfolding low_at rippled carried
  takes [] c e = omega arith
  takes (p ∷ ps) c e =
      rw (double (length ps))
      (on_take (digit p j) (digit c j) _ (digit (passed p c x) j) (low_at ps j) _ _ (plane_takes p c x j e) (takes ps (passed p c x) e))

pub ripples : (q : List ℕ) (c x : ℕ) → length q ≡ 6 → Ripples q c x (rippled q c x) (carried q c x)
ripples q c x six = record { adds = λ j e. rw six at (adds x j q c e); takes = λ j e. rw six at (takes x j q c e) }

-- k planes are past
pub record Rippling (q₀ : List ℕ) (c x : ℕ) (q : List ℕ) (carry k : ℕ) : Type 0 where
  pub many : length q ≡ length q₀
  pub planes_are : take k q ++ rippled (drop k q) carry x ≡ rippled q₀ c x
  pub carry_is : carried (drop k q) carry x ≡ carried q₀ c x

pub rippling_none : (q : List ℕ) (c x : ℕ) → Rippling q c x q c 0
rippling_none q c x = record { many = refl; planes_are = refl; carry_is = refl }

module _ {q₀ : List ℕ} {c x : ℕ} {q : List ℕ} {carry k : ℕ} (R : Rippling q₀ c x q carry k) where
  pub rippling_step : k < length q → Rippling q₀ c x (set q k (bit_xor (get_or q k 0) carry)) (bit_and carry (bit_xor (get_or q k 0) x)) (k + 1)
  unfolding rippled carried
  rippling_step l =
      let p = get_or q k 0 in
      let ahead : drop k q ≡ p ∷ drop (suc k) q = drop-cons q k 0 l in
      let done : take (suc k) (set q k (bit_xor p carry)) ≡ take k q ++ (bit_xor p carry ∷ []) = take-suc-set q k (bit_xor p carry) l in
      let rest : drop (suc k) (set q k (bit_xor p carry)) ≡ drop (suc k) q = drop-set-lt (suc k) q k (bit_xor p carry) (omega arith) in
      let planes : take (suc k) (set q k (bit_xor p carry)) ++ rippled (drop (suc k) (set q k (bit_xor p carry))) (passed p carry x) x ≡ rippled q₀ c x =
      rw (done, rest) (append_assoc (take k q) (bit_xor p carry ∷ []) (rippled (drop (suc k) q) (passed p carry x) x) ∙ rw ahead at R.planes_are) in
      let left : carried (drop (suc k) (set q k (bit_xor p carry))) (passed p carry x) x ≡ carried q₀ c x = rw rest (rw ahead at R.carry_is) in
      rw (add-one k) (record { many = length-set q k (bit_xor p carry) ∙ R.many; planes_are = planes; carry_is = left })

  pub rippling_ends : length q ≤ k → (q ≡ rippled q₀ c x) × (carry ≡ carried q₀ c x)
  unfolding rippled carried
  rippling_ends l =
      let past : drop k q ≡ [] = drop_all k q l in
      (sym (append-nil q) ∙ sym (ap (λ (t : List ℕ). t ++ []) (take_all k q l)) ∙ rw past at R.planes_are, rw past at R.carry_is)
