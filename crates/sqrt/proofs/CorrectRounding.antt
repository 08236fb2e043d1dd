-- `sqrt_of` is the square root rounded correctly. The patterns below that of the infinity are those of the doubles from 0 up, in order; `value_of`
-- says what number `units_of` is.
-- `correctly_rounded`: the root of a positive double is r smallest doubles, and for any other double, of a smallest doubles, the exact root √N is on
-- r's side of the midpoint of r and a.
-- So no double is as near to the exact root as r, ties never occur, and r is the only such number. Everything is squared: √N < (r + a) / 2 is 4 * N <
-- (r + a) * (r + a). Assumes nothing.
use mathlib.Core.Path.{◌≡◌, refl, sym, ap, ◌∙◌, subst}
use mathlib.Core.Logic.{◌⊎◌, inl, inr}
use Prim.Native.Nat.{ℕ, suc, ◌+◌, ◌-◌, ◌*◌, ◌/◌, ◌%◌, ◌^◌, ◌≤◌, ◌<◌}
use native.Mathlib.Nat.{le_antisymm, le_of_suc-le-suc, add_comm, le_trans, le_of_eq, lt_of_lt_of_le, lt_of_le_of_lt, lt_of_not-le}
use native.Mathlib.Nat.{lt_irrefl, le_of_lt, eq-or-lt_of_le, mul_assoc, mul-one, add-mul, mul-pos, mul-le-mul, mul-le-mul_right}
use native.Mathlib.Nat.{mul-lt-mul_of_pos_right, lt_of_mul-lt-mul_right, pow-succ'}
use native.Mathlib.Omega.{arith}
use mathlib.Core.Bool.{Bool, true, false, not, cond}
use lib.Dec.{T, eqb, eqb→eq, eqb-suc-zero, ltb, ltb→lt, nltb→le}
use lib.Pow.{pow-add, pow_pos, pow_mono}
use lib.Ieee.{Float, binary64, of_bits, size}
use lib.Ieee.Exact.{HasValue, units_val}
use Rattle.sqrt.specs.Root.{root}
use Rattle.sqrt.proofs.Roots.{root_is, sq_suc, sq_dbl, sq_mul, sq_lt, four_pow}
use Rattle.sqrt.specs.Sqrt.{rounded, sqrt_of}
use Rattle.sqrt.specs.Inner.Steps.{units_of}
use Rattle.sqrt.proofs.Powers.{one_or_two, split_pow, joined, high_side}
use Rattle.sqrt.proofs.Shift.{shifted}
use Rattle.sqrt.proofs.Rounded.{root_54, sig_in, rounded_is, below_top, four_kept}
use Rattle.sqrt.proofs.Special.{root_of_pattern}

-- ---- squares

over : (u p v s : ℕ) → 0 < p → v < u * u → u * p ≤ s → v * (p * p) < s * s
over u p v s P h l = lt_of_lt_of_le (mul-lt-mul_of_pos_right h (mul-pos P P)) (le_trans (le_of_eq (sym (sq_mul u p))) (mul-le-mul l l))

under : (u p v s : ℕ) → 0 < p → u * u < v → s ≤ u * p → s * s < v * (p * p)
under u p v s P h l = lt_of_le_of_lt (le_trans (mul-le-mul l l) (le_of_eq (sq_mul u p))) (mul-lt-mul_of_pos_right h (mul-pos P P))

strictly_under : (u p v s : ℕ) → u * u ≤ v → s < u * p → s * s < v * (p * p)
strictly_under u p v s h l = lt_of_lt_of_le (sq_lt s (u * p) l) (le_trans (le_of_eq (sq_mul u p)) (mul-le-mul_right (p * p) h))

-- ---- q is the whole number nearest to half of √v, for v = m * 2 ^ 54 with the root R

module _ (m R : ℕ) (lo : R * R ≤ m * 2 ^ 54) (hi : m * 2 ^ 54 < (R + 1) * (R + 1)) where
  half_up : m * 2 ^ 54 < (2 * ((R + 1) / 2) + 1) * (2 * ((R + 1) / 2) + 1)
  half_up = let l : R + 1 ≤ 2 * ((R + 1) / 2) + 1 = omega arith in lt_of_lt_of_le hi (mul-le-mul l l)

  half_down : 0 < R → (2 * ((R + 1) / 2) - 1) * (2 * ((R + 1) / 2) - 1) < m * 2 ^ 54
  half_down P = go (eqb (R % 2) 0) (eqb→eq (R % 2) 0) (odd_of (R % 2))
    where
      odd_of : (n : ℕ) → T (not (eqb n 0)) → n ≡ 0 → ⊥
      odd_of n h e = subst (λ (x : ℕ). T (not (eqb x 0))) e h

      odd_sq : (w : ℕ) → (2 * w + 1) * (2 * w + 1) ≡ 4 * (w * w) + 4 * w + 1
      odd_sq w = omega (arith, sq_suc (2 * w), sq_dbl w)

      no_tie : (a w v : ℕ) → a ≡ 4 * w + 1 → a ≤ v * 2 ^ 54 → a < v * 2 ^ 54
      no_tie a w v e h = omega arith

      go : (b : Bool) → (T b → R % 2 ≡ 0) → (T (not b) → R % 2 ≡ 0 → ⊥) → (2 * ((R + 1) / 2) - 1) * (2 * ((R + 1) / 2) - 1) < m * 2 ^ 54
      go true e n = let z = e tt in let l : 2 * ((R + 1) / 2) - 1 < R = omega arith in lt_of_lt_of_le (sq_lt (2 * ((R + 1) / 2) - 1) R l) lo
      go false e n =
          let z = n tt in
          let p : 2 * ((R + 1) / 2) - 1 ≡ R = omega arith in
          let w = R / 2 in
          let o : R ≡ 2 * w + 1 = omega arith in
          let s : R * R ≡ 4 * (w * w + w) + 1 = ap (λ (x : ℕ). x * x) o ∙ odd_sq w ∙ regroup w in
          subst (λ (x : ℕ). x * x < m * 2 ^ 54) (sym p) (no_tie (R * R) (w * w + w) m s lo)
        where
          regroup : (w : ℕ) → 4 * (w * w) + 4 * w + 1 ≡ 4 * (w * w + w) + 1
          regroup w = omega arith

-- ---- where the other doubles lie

pow_lt_back : (i p : ℕ) → 2 ^ i < 2 ^ p → i < p
pow_lt_back i p h = lt_of_not-le (λ (g : p ≤ i). lt_irrefl (2 ^ i) (lt_of_lt_of_le h (pow_mono g)))

-- a number of at most 53 digits, p * 2 ^ j, that is more than q * 2 ^ k is (q + 1) * 2 ^ k at least
module _ (q k p j : ℕ) (lo : 2 ^ 52 ≤ q) (few : p < 2 ^ 53) where
  shared : k ≤ j → p * 2 ^ j ≡ p * 2 ^ (j - k) * 2 ^ k
  shared h = let e : j - k + k ≡ j = omega arith in sym (joined p (j - k) k j e)

  far : q * 2 ^ k < p * 2 ^ j → k ≤ j
  far h =
      let a : 2 ^ 52 * 2 ^ k < 2 ^ 53 * 2 ^ j = lt_of_le_of_lt (mul-le-mul_right (2 ^ k) lo) (lt_of_lt_of_le h (mul-le-mul_right (2 ^ j) (le_of_lt few))) in
      let b : 52 + k < 53 + j =
      pow_lt_back (52 + k) (53 + j) (lt_of_le_of_lt (le_of_eq (pow-add 2 52 k)) (lt_of_lt_of_le a (le_of_eq (sym (pow-add 2 53 j))))) in
      omega arith

  next_up : q * 2 ^ k < p * 2 ^ j → (q + 1) * 2 ^ k ≤ p * 2 ^ j
  next_up h =
      let l = far h in
      let e = shared l in
      let c : q < p * 2 ^ (j - k) = lt_of_mul-lt-mul_right (2 ^ k) (lt_of_lt_of_le h (le_of_eq e)) in
      le_trans (mul-le-mul_right (2 ^ k) (more q (p * 2 ^ (j - k)) c)) (le_of_eq (sym e))
    where
      more : (a b : ℕ) → a < b → a + 1 ≤ b
      more a b h = omega arith

  -- and one that is less is (q - 1) * 2 ^ k at most, or is below 2 ^ 52 * 2 ^ k
  next_down : p * 2 ^ j < q * 2 ^ k → (p * 2 ^ j ≤ (q - 1) * 2 ^ k) ⊎ (p * 2 ^ j < 2 ^ 52 * 2 ^ k)
  next_down h = go (ltb j k) (ltb→lt j k) (nltb→le j k)
    where
      fewer : (a b : ℕ) → a < b → a ≤ b - 1
      fewer a b h = omega arith

      go : (b : Bool) → (T b → j < k) → (T (not b) → k ≤ j) → (p * 2 ^ j ≤ (q - 1) * 2 ^ k) ⊎ (p * 2 ^ j < 2 ^ 52 * 2 ^ k)
      go true y n =
          let l = y tt in
          let s : 53 + j ≤ 52 + k = omega arith in
          inr (lt_of_lt_of_le (mul-lt-mul_of_pos_right few (pow_pos j))
          (le_trans (le_of_eq (sym (pow-add 2 53 j))) (le_trans (pow_mono s) (le_of_eq (pow-add 2 52 k)))))
      go false y n =
          let e = shared (n tt) in
          let c : p * 2 ^ (j - k) < q = lt_of_mul-lt-mul_right (2 ^ k) (lt_of_le_of_lt (le_of_eq (sym e)) h) in
          inl (le_trans (le_of_eq e) (mul-le-mul_right (2 ^ k) (fewer (p * 2 ^ (j - k)) q c)))

-- ---- together: N is m * 4 ^ (26 + k), and r is q * 2 ^ k

abbrev pub Nearer : ℕ → ℕ → ℕ → Type 0
Nearer n r a = (r < a → 4 * n < (r + a) * (r + a)) × (a < r → (r + a) * (r + a) < 4 * n)

module _ (m k p j : ℕ) (lo : 2 ^ 52 ≤ m) (hi : m < 2 ^ 54) (few : p < 2 ^ 53) where
  nearer : Nearer (m * 4 ^ (26 + k)) ((root (m * 2 ^ 54) + 1) / 2 * 2 ^ k) (p * 2 ^ j)
  nearer =
      let R = root (m * 2 ^ 54) in
      let q = (R + 1) / 2 in
      let i = root_is (m * 2 ^ 54) in
      let s = sig_in m lo hi in
      let r54 = root_54 m lo hi in
      let P : 0 < R = lt_of_lt_of_le (pow_pos 53) r54.0 in
      let e : 4 * (m * 4 ^ (26 + k)) ≡ m * 2 ^ 54 * (2 ^ k * 2 ^ k) = four_kept m lo hi k ∙ ap (λ (x : ℕ). m * 2 ^ 54 * x) (four_pow k) in
      let Q : 1 ≤ q = le_trans (pow_mono {i = 0} {j = 52} (omega arith)) s.0 in (
        λ h. lt_of_le_of_lt (le_of_eq e)
            (over (2 * q + 1) (2 ^ k) (m * 2 ^ 54) (q * 2 ^ k + p * 2 ^ j) (pow_pos k) (half_up m R i.0 i.1)
            (sum_up q (2 ^ k) (p * 2 ^ j) (next_up q k p j s.0 few h))),
        λ h. lt_of_lt_of_le
            (below q (2 ^ k) (p * 2 ^ j) (m * 2 ^ 54) Q (pow_pos k) s.0 (half_down m R i.0 i.1 P)
            (le_trans (mul-le-mul r54.0 r54.0) i.0) (next_down q k p j s.0 few h)) (le_of_eq (sym e)),
      )
    where
      twice : (q t : ℕ) → (2 * q + 1) * t ≡ q * t + (q + 1) * t
      twice q t = let a = add-mul (2 * q) 1 t in let b = add-mul q 1 t in let c = mul_assoc 2 q t in omega arith

      sum_up : (q t a : ℕ) → (q + 1) * t ≤ a → (2 * q + 1) * t ≤ q * t + a
      sum_up q t a h = omega (arith, twice q t)

      down_sum : (q t a : ℕ) → 1 ≤ q → a ≤ (q - 1) * t → q * t + a ≤ (2 * q - 1) * t
      down_sum q t a Q h =
          let z : q - 1 + 1 ≡ q = omega arith in
          let y : 2 * q - 1 ≡ 2 * (q - 1) + 1 = omega arith in
          let w : q * t ≡ (q - 1) * t + 1 * t = ap (λ (x : ℕ). x * t) (sym z) ∙ add-mul (q - 1) 1 t in
          let v : (2 * q - 1) * t ≡ (q - 1) * t + (q - 1 + 1) * t = ap (λ (x : ℕ). x * t) y ∙ twice (q - 1) t in
          let u : (q - 1 + 1) * t ≡ q * t = ap (λ (x : ℕ). x * t) z in
          omega arith

      -- the gap below a power of two is half as wide: there the root itself is at least the power
      below : (q t a v : ℕ) → 1 ≤ q → 0 < t → 2 ^ 52 ≤ q → (2 * q - 1) * (2 * q - 1) < v → 2 ^ 53 * 2 ^ 53 ≤ v →
          (a ≤ (q - 1) * t) ⊎ (a < 2 ^ 52 * t) → (q * t + a) * (q * t + a) < v * (t * t)
      below q t a v Q P l d b (inl h) = under (2 * q - 1) t v (q * t + a) P d (down_sum q t a Q h)
      below q t a v Q P l d b (inr h) = go (ltb (2 ^ 52) q) (ltb→lt (2 ^ 52) q) (nltb→le (2 ^ 52) q)
        where
          go : (c : Bool) → (T c → 2 ^ 52 < q) → (T (not c) → q ≤ 2 ^ 52) → (q * t + a) * (q * t + a) < v * (t * t)
          go true y n =
              let x = y tt in
              let f : 2 ^ 52 ≤ q - 1 = omega arith in
              under (2 * q - 1) t v (q * t + a) P d (down_sum q t a Q (le_trans (le_of_lt h) (mul-le-mul_right t f)))
          go false y n =
              let x = n tt in
              let f : q * t ≤ 2 ^ 52 * t = mul-le-mul_right t x in
              strictly_under (2 ^ 53) t v (q * t + a) b (omega arith)

-- ---- of patterns

-- a double from 0 up has at most 53 digits
few_digits : (c : ℕ) → (p : ℕ) × (j : ℕ) × (units_of c ≡ p * 2 ^ j) × (p < 2 ^ 53)
few_digits c = go (eqb (c / 2 ^ 52) 0)
  where
    low_lt : (c : ℕ) → c % 2 ^ 52 < 2 ^ 53
    low_lt c = omega arith

    high_lt : (c : ℕ) → c % 2 ^ 52 + 2 ^ 52 < 2 ^ 53
    high_lt c = omega arith

    go : (b : Bool) → (p : ℕ) × (j : ℕ) × (cond b (c % 2 ^ 52) ((c % 2 ^ 52 + 2 ^ 52) * 2 ^ (c / 2 ^ 52 - 1)) ≡ p * 2 ^ j) × (p < 2 ^ 53)
    go true = (c % 2 ^ 52, 0, sym (mul-one (c % 2 ^ 52)), low_lt c)
    go false = (c % 2 ^ 52 + 2 ^ 52, c / 2 ^ 52 - 1, refl, high_lt c)

-- q * 2 ^ k smallest doubles, for a q of 53 digits or the next power of two, are a double
double_of : (q k : ℕ) → 2 ^ 52 ≤ q → q ≤ 2 ^ 53 → k ≤ 2000 → (c : ℕ) × (c < 0x7ff0_0000_0000_0000) × (units_of c ≡ q * 2 ^ k)
double_of q k lo hi l = go (eq-or-lt_of_le hi)
  where
    at : (f t : ℕ) → t < 2 ^ 52 → units_of (suc f * 2 ^ 52 + t) ≡ (t + 2 ^ 52) * 2 ^ f
    at f t h =
        let a : (suc f * 2 ^ 52 + t) / 2 ^ 52 ≡ suc f = omega arith in
        let b : (suc f * 2 ^ 52 + t) % 2 ^ 52 ≡ t = omega arith in
        (λ i. cond (eqb (a i) 0) (b i) ((b i + 2 ^ 52) * 2 ^ (a i - 1)))
        ∙ ap (λ (s : Bool). cond s t ((t + 2 ^ 52) * 2 ^ (suc f - 1))) (eqb-suc-zero f)
        ∙ ap (λ (x : ℕ). (t + 2 ^ 52) * 2 ^ x) (less f)
      where
        less : (f : ℕ) → suc f - 1 ≡ f
        less f = omega arith

    go : (q ≡ 2 ^ 53) ⊎ (q < 2 ^ 53) → (c : ℕ) × (c < 0x7ff0_0000_0000_0000) × (units_of c ≡ q * 2 ^ k)
    go (inr h) =
        let z : q - 2 ^ 52 + 2 ^ 52 ≡ q = omega arith in
        (suc k * 2 ^ 52 + (q - 2 ^ 52), omega arith, at k (q - 2 ^ 52) (omega arith) ∙ ap (λ (x : ℕ). x * 2 ^ k) z)
    go (inl e) = (
      suc (suc k) * 2 ^ 52 + 0,
      omega arith,
      at (suc k) 0 (omega arith) ∙ ap (λ (x : ℕ). 2 ^ 52 * x) (pow-succ' 2 k) ∙ sym (mul_assoc (2 ^ 52) 2 (2 ^ k)) ∙ ap (λ (x : ℕ). x * 2 ^ k) (sym e),
    )

-- a positive double's `units_of`, times 2 ^ 1074, as m * 4 ^ (26 + k)
abbrev Even : ℕ → Type 0
Even n = (m : ℕ) × (k : ℕ) × (n ≡ m * 4 ^ (26 + k)) × (2 ^ 52 ≤ m) × (m < 2 ^ 54) × (k ≤ 2000)

even_of : (q e : ℕ) → 2 ^ 52 ≤ q → q < 2 ^ 53 → 52 ≤ e → e ≤ 4000 → Even (q * 2 ^ e)
even_of q e a b c d =
    let m = q * (1 + e % 2) in
    let w = one_or_two q e in
    let z : 26 + (e / 2 - 26) ≡ e / 2 = omega arith in
    (m, e / 2 - 26, sym (split_pow q e) ∙ ap (λ (x : ℕ). m * 4 ^ x) (sym z), omega arith, omega arith, omega arith)

even_pattern : (b : ℕ) → 0 < b → b < 0x7ff0_0000_0000_0000 → Even (units_of b * 2 ^ 1074)
even_pattern b P l = go (eqb (b / 2 ^ 52) 0) (eqb→eq (b / 2 ^ 52) 0) (λ t z. subst (λ (x : ℕ). T (not (eqb x 0))) z t)
  where
    go : (s : Bool) → (T s → b / 2 ^ 52 ≡ 0) → (T (not s) → b / 2 ^ 52 ≡ 0 → ⊥) →
        Even (cond s (b % 2 ^ 52) ((b % 2 ^ 52 + 2 ^ 52) * 2 ^ (b / 2 ^ 52 - 1)) * 2 ^ 1074)
    go true y n =
        let z = y tt in
        let t = b % 2 ^ 52 in
        let s = 53 - size t in
        let w = shifted t (omega arith) (omega arith) in
        let i : s + (1074 - s) ≡ 1074 = omega arith in
        subst Even (joined t s (1074 - s) 1074 i) (even_of (t * 2 ^ s) (1074 - s) w.1 w.2 (omega arith) (omega arith))
    go false y n =
        let z = n tt in
        let t = b % 2 ^ 52 + 2 ^ 52 in
        let f = b / 2 ^ 52 in
        subst Even (high_side t f z) (even_of t (f + 1073) (omega arith) (omega arith) (omega arith) (omega arith))

-- the root of a double above zero is r smallest doubles, and r is nearer to the exact root than any other double
pub correctly_rounded : (b : ℕ) → 0 < b → b < 0x7ff0_0000_0000_0000
    → (r : ℕ) × HasValue (sqrt_of binary64 (of_bits binary64 b)) false r (2 ^ 1074) × ((c : ℕ) → Nearer (units_of b * 2 ^ 1074) r (units_of c)) ×
    ((c : ℕ) × (c < 0x7ff0_0000_0000_0000) × (units_of c ≡ r))
correctly_rounded b P l =
    let e = even_pattern b P l in
    let m = e.0 in
    let k = e.1 in
    let q = (root (m * 2 ^ 54) + 1) / 2 in
    let s = sig_in m e.3 e.4 in (
      q * 2 ^ k,
      subst (λ (x : Float). HasValue x false (q * 2 ^ k) (2 ^ 1074))
          (sym (root_of_pattern b P l ∙ ap (rounded binary64) e.2 ∙ rounded_is m e.3 e.4 k))
          (units_val binary64 false q k (below_top q k s.1 e.5)),
      (λ c.
          let f = few_digits c in
          subst (λ (n : ℕ). Nearer n (q * 2 ^ k) (units_of c)) (sym e.2)
          (subst (λ (a : ℕ). Nearer (m * 4 ^ (26 + k)) (q * 2 ^ k) a) (sym f.2) (nearer m k f.0 f.1 e.3 e.4 f.3))),
      double_of q k s.0 s.1 e.5,
    )

-- ties never occur: the exact root is no midpoint of r and another double
pub no_tie : (n r a : ℕ) → Nearer n r a → (r + a) * (r + a) ≡ 4 * n → r ≡ a
no_tie n r a h e =
    le_antisymm (le_of_suc-le-suc (lt_of_not-le (λ (g : a < r). lt_irrefl (4 * n) (lt_of_le_of_lt (le_of_eq (sym e)) (h.1 g)))))
    (le_of_suc-le-suc (lt_of_not-le (λ (g : r < a). lt_irrefl (4 * n) (lt_of_lt_of_le (h.0 g) (le_of_eq e)))))

-- of two numbers only one can be nearer than the other
nearer_only : (n r s : ℕ) → Nearer n r s → Nearer n s r → r ≡ s
nearer_only n r s a b = le_antisymm (not_above r s a b) (not_above s r b a)
  where
    not_above : (r s : ℕ) → Nearer n r s → Nearer n s r → r ≤ s
    not_above r s a b =
        le_of_suc-le-suc
        (lt_of_not-le
        (λ (h : s < r). lt_irrefl (4 * n) (lt_of_lt_of_le (b.0 h) (le_trans (le_of_eq (ap (λ (x : ℕ). x * x) (add_comm s r))) (le_of_lt (a.1 h))))))

-- the result is unique: a double that is nearer to the exact root than any other is the root
pub unique : (b : ℕ) → 0 < b → b < 0x7ff0_0000_0000_0000 → (a : ℕ) →
    ((c : ℕ) → c < 0x7ff0_0000_0000_0000 → Nearer (units_of b * 2 ^ 1074) (units_of a) (units_of c))
    → HasValue (sqrt_of binary64 (of_bits binary64 b)) false (units_of a) (2 ^ 1074)
unique b P l a h =
    let w = correctly_rounded b P l in
    let own = w.3 in
    subst (λ (x : ℕ). HasValue (sqrt_of binary64 (of_bits binary64 b)) false x (2 ^ 1074))
    (nearer_only (units_of b * 2 ^ 1074) w.0 (units_of a) (w.2 a)
    (subst (λ (x : ℕ). Nearer (units_of b * 2 ^ 1074) (units_of a) x) own.2 (h own.0 own.1)))
    w.1
