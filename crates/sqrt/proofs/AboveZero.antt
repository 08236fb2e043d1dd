-- What the tests against 0 tell of a double: which are zeros, and which are below zero. Of the doubles, those that are no NaN, no zero and not below
-- zero, and not infinite, are finite and above zero: their patterns lie between
-- that of 0 and that of the infinity. Assumes nothing.
use mathlib.Core.Path.{◌≡◌, refl, sym, ap, ◌∙◌, subst}
use Prim.Native.Nat.{ℕ, zero, suc, ◌+◌, ◌-◌, ◌*◌, ◌/◌, ◌%◌, ◌^◌, ◌≤◌, ◌<◌}
use mathlib.Core.Logic.{◌⊎◌, inl, inr}
use native.Mathlib.Nat.{lt_irrefl, mul-pos, mul-le-mul_right, mul-lt-mul_of_pos_right, le_trans, le_of_eq, lt_of_lt_of_le}
use native.Mathlib.Nat.{le-div_iff_mul-le, div-lt_iff_lt-mul, zero-add, zero-lt-suc, mul_right_comm, zero-mul, one-mul}
use native.Mathlib.Omega.{arith}
use mathlib.Core.Bool.{Bool, true, false, ◌&&◌, ◌||◌, beq, true≢false, false≢true}
use lib.IntN.{ℤ, pos}
use lib.Dec.{T, ltb, eqb, leb, leb→le, ltb→lt, lt→ltb, eqb→eq}
use lib.Pow.{pow-add, pow_pos}
use lib.Ieee.{Float, nan, inf, fin, binary64, up, down, size, of_bits, to_bits, fits, eq, lt}
use lib.Ieee.Bits.{is_true}
use Rattle.std.specs.Float.{float_is_finite}
use lib.Ieee.Digits.{size-le}
use lib.Ieee.Fits.{up_pos, down_pos, and_l, and_r, kept-lt}

-- ---- what the tests rule out

abbrev pub naught : Float
naught = fin false 0 (pos 0)

-- the code's 0.0
pub naught_is : of_bits binary64 0 ≡ naught
unfolding of_bits
naught_is = refl

not_zero : (s : Bool) (m : ℕ) (e : ℤ) → eq (fin s (suc m) e) naught ≡ true → ⊥
unfolding eq
not_zero s m e h =
    let a = suc m * up e * 1 in
    let z : a ≡ 0 * down e = eqb→eq a (0 * down e) (and_l (eqb a (0 * down e)) (beq s false || eqb a 0) (subst T (sym h) tt)) in
    lt_irrefl 0 (subst (λ (n : ℕ). 0 < n) (z ∙ zero-mul (down e)) (mul-pos (mul-pos (zero-lt-suc m) (up_pos e)) (zero-lt-suc 0)))

-- only a zero equals 0
pub zero_only : (x : Float) → eq x naught ≡ true → (s : Bool) × (e : ℤ) × (x ≡ fin s zero e)
zero_only nan h = absurd (false≢true (sym nan_equals_none ∙ h))
  where
    nan_equals_none : eq nan naught ≡ false
    nan_equals_none = unfold eq in refl
zero_only (inf s) h = absurd (false≢true (sym (infinite_equals_none s) ∙ h))
  where
    infinite_equals_none : (s : Bool) → eq (inf s) naught ≡ false
    infinite_equals_none s = unfold eq in refl
zero_only (fin s zero e) h = (s, e, refl)
zero_only (fin s (suc m) e) h = absurd (not_zero s m e h)

-- what is below 0 is minus infinity, or finite
pub negative_only : (x : Float) → lt x naught ≡ true → (x ≡ inf true) ⊎ ((m : ℕ) × (e : ℤ) × (x ≡ fin true (suc m) e))
unfolding lt
negative_only nan h = absurd (false≢true h)
negative_only (inf true) h = inl refl
negative_only (inf false) h = absurd (false≢true h)
negative_only (fin true zero e) h =
    absurd (lt_irrefl 0 (ltb→lt 0 0 (subst (λ (n : ℕ). T (ltb 0 n)) (λ i. zero-mul (up e) i * 1 + zero-mul (down e) i) (subst T (sym h) tt))))
negative_only (fin true (suc m) e) h = inr (m, e, refl)
negative_only (fin false m e) h = absurd (none (m * up e * 1) (0 * down e) (zero-mul (down e)) (ltb→lt (m * up e * 1) (0 * down e) (subst T (sym h) tt)))
  where
    none : (a b : ℕ) → b ≡ 0 → a < b → ⊥
    none a b e h = omega arith

zero_equals : (s : Bool) (e : ℤ) → eq (fin s zero e) naught ≡ true
unfolding eq
zero_equals s e =
    (λ i. eqb (ap (λ (n : ℕ). n * 1) (zero-mul (up e)) i) (zero-mul (down e) i)
    && (beq s false || eqb (ap (λ (n : ℕ). n * 1) (zero-mul (up e)) i) 0)) ∙ go s
  where
    go : (s : Bool) → beq s false || true ≡ true
    go true = refl
    go false = refl

negative_below : (m : ℕ) (e : ℤ) → lt (fin true (suc m) e) naught ≡ true
unfolding lt
negative_below m e =
    is_true (ltb 0 (suc m * up e * 1 + 0 * down e))
    (lt→ltb 0 (suc m * up e * 1 + 0 * down e) (more (suc m * up e * 1) (0 * down e) (mul-pos (mul-pos (zero-lt-suc m) (up_pos e)) (zero-lt-suc 0))))
  where
    more : (a b : ℕ) → 0 < a → 0 < a + b
    more a b h = omega arith

minus_infinity_below : lt (inf true) naught ≡ true
unfolding lt
minus_infinity_below = refl

-- ---- a number n of smallest doubles: the field and the digits that its pattern has

abbrev pattern : ℕ → ℕ
pattern n = (size n - 53) * 2 ^ 52 + n / 2 ^ (size n - 53)

pattern_pos : (n : ℕ) → 0 < n → 0 < pattern n
pattern_pos n h = go (size n - 53) refl
  where
    field : (k a : ℕ) → 0 < suc k * 2 ^ 52 + a
    field k a = omega arith

    none : (n : ℕ) → 0 < n → 0 < 0 * 2 ^ 52 + n / 2 ^ 0
    none n h = omega arith

    go : (k : ℕ) → size n - 53 ≡ k → 0 < (size n - 53) * 2 ^ 52 + n / 2 ^ (size n - 53)
    go zero e = subst (λ (k : ℕ). 0 < k * 2 ^ 52 + n / 2 ^ k) (sym e) (none n h)
    go (suc k) e = subst (λ (k : ℕ). 0 < k * 2 ^ 52 + n / 2 ^ k) (sym e) (field k (n / 2 ^ suc k))

pattern_lt : (n : ℕ) → n < 2 ^ 2098 → pattern n < 0x7ff0_0000_0000_0000
pattern_lt n h = fit (size n) (n / 2 ^ (size n - 53)) (size-le n 2098 h) (kept-lt 53 n)
  where
    fit : (z a : ℕ) → z ≤ 2098 → a < 2 ^ 53 → (z - 53) * 2 ^ 52 + a < 0x7ff0_0000_0000_0000
    fit z a h l = omega arith

-- ---- of a double

abbrev pub Between : ℕ → Type 0
Between b = (0 < b) × (b < 0x7ff0_0000_0000_0000)

count_pos : (a d : ℕ) → 0 < a → 0 < d → d ≤ 2 ^ 1074 → 0 < a * 2 ^ 1074 / d
count_pos a d A D h =
    (le-div_iff_mul-le D).1 (le_trans (le_of_eq (one-mul d)) (le_trans h (le_trans (le_of_eq (sym (one-mul (2 ^ 1074)))) (mul-le-mul_right (2 ^ 1074) A))))

count_lt : (a d : ℕ) → 0 < d → a < 2 ^ 1024 * d → a * 2 ^ 1074 / d < 2 ^ 2098
count_lt a d D h =
    (div-lt_iff_lt-mul D).1
    (lt_of_lt_of_le (mul-lt-mul_of_pos_right h (pow_pos 1074))
    (le_of_eq (mul_right_comm (2 ^ 1024) d (2 ^ 1074) ∙ ap (λ (x : ℕ). x * d) (sym (pow-add 2 1024 1074)))))

-- the pattern of a finite double above zero
pub finite_pattern : (m : ℕ) (e : ℤ) → T (fits binary64 (fin false (suc m) e)) → Between (to_bits binary64 (fin false (suc m) e))
unfolding fits to_bits
finite_pattern m e h =
    let one = eqb (suc m % 2) 1 && ltb (suc m) (2 ^ 53) in
    let deep = leb (down e) (2 ^ 1074) in
    let large = ltb (suc m * up e) (2 ^ 1024 * down e) in
    let a = leb→le (down e) (2 ^ 1074) (and_r one deep (and_l (one && deep) large h)) in
    let b = ltb→lt (suc m * up e) (2 ^ 1024 * down e) (and_r (one && deep) large h) in
    let n = suc m * up e * 2 ^ 1074 / down e in
    let z : 0 + (size n - 53) * 2 ^ 52 + n / 2 ^ (size n - 53) ≡ pattern n = ap (λ (x : ℕ). x + n / 2 ^ (size n - 53)) (zero-add ((size n - 53) * 2 ^ 52)) in
    subst Between (sym z) (
      pattern_pos n (count_pos (suc m * up e) (down e) (mul-pos (zero-lt-suc m) (up_pos e)) (down_pos e) a),
      pattern_lt n (count_lt (suc m * up e) (down e) (down_pos e) b),
    )

-- z is the code's 0.0
pub positive_pattern : (x z : Float) → T (fits binary64 x) → z ≡ naught → lt x z ≡ false → eq x z ≡ false → float_is_finite x ≡ true
    → Between (to_bits binary64 x)
unfolding float_is_finite
positive_pattern nan z h o c b a = absurd (false≢true a)
positive_pattern (inf s) z h o c b a = absurd (false≢true a)
positive_pattern (fin s zero e) z h o c b a = absurd (true≢false (sym (zero_equals s e) ∙ ap (eq (fin s zero e)) (sym o) ∙ b))
positive_pattern (fin true (suc m) e) z h o c b a = absurd (true≢false (sym (negative_below m e) ∙ ap (lt (fin true (suc m) e)) (sym o) ∙ c))
positive_pattern (fin false (suc m) e) z h o c b a = finite_pattern m e h

-- what is not finite and not below zero is a NaN or plus infinity
pub infinite_only : (x z : Float) → z ≡ naught → lt x z ≡ false → float_is_finite x ≡ false → (x ≡ nan) ⊎ (x ≡ inf false)
unfolding float_is_finite
infinite_only nan z o c d = inl refl
infinite_only (inf true) z o c d = absurd (true≢false (sym minus_infinity_below ∙ ap (lt (inf true)) (sym o) ∙ c))
infinite_only (inf false) z o c d = inr refl
infinite_only (fin s m e) z o c d = absurd (true≢false d)

-- a value of n units, n above 0, is no zero
pub some_units : (e : ℤ) (n c : ℕ) → 0 < n → zero * up e * c ≡ n * down e → ⊥
some_units e n c h k = lt_irrefl 0 (subst (λ (x : ℕ). 0 < x) (sym k ∙ ap (λ (y : ℕ). y * c) (zero-mul (up e)) ∙ zero-mul c) (mul-pos h (down_pos e)))
