-- The root's 52 digits are near the exact n-th root of 1/100: the last fraction that passed the test is not above it, and the one after, which
-- failed, is not below it, but for the
-- roundings of the power. Those are 2 n factors of 1 + 2 ^ -53 at most, two for each factor of the power, so they move the root by two units of 2 ^
-- -52 at most. Assumes nothing.
use Rattle.std.proofs.Common.{◌≡◌, ℕ, zero, suc, ◌+◌, ◌-◌, ◌*◌, ◌^◌, ◌<◌, ◌≤◌, Bool, true, false, cond, not, T, leb, ◌⊎◌, sym, ap, ◌∙◌, subst, inl, inr, zero-le, le_trans, le_of_eq, le_of_lt, add-le-add, mul-le-mul_right, zero-lt-suc, mul_comm, eq-zero-or-pos, mul-le-mul_left, pow-suc, mul-zero, zero-mul, not-le_of_lt, le_of_mul-le-mul_right, arith, lit≤, leb→le, pow_pos}
use native.Mathlib.Nat.{mul-sub}
use native.Mathlib.Nat.{pow-le-pow_left}
use lib.Dec.{nleb→lt}
use lib.Ieee.{Float, binary64, prec, le}
use lib.Ieee.Positive.{num, den, den_pos}
use Rattle.rounding.proofs.Powers.{mul_pow, pow_mul, pow_one, pow_above}
use Rattle.rounding.proofs.Factors.{Under, under_le, under_one, under_trans, under_more, under_end}
use Rattle.rounding.proofs.Compare.{le_true, le_false}
use Rattle.power.specs.Power.{power_of}
use Rattle.power.proofs.Error.{Near, power_near}
use Rattle.zero_count.specs.ZeroCount.{hundredth, fraction, low_enough, root_digits, WithinBillionth}
use Rattle.zero_count.proofs.Fractions.{part_value}
use Rattle.zero_count.specs.Inner.Bounds.{Encloses, NearRoot}
use Rattle.zero_count.proofs.Digits.{digits_enclosed}

-- ---- two roundings to each factor are two units: b (1 + 1/K) ^ 2 ≤ b + 2 for b ≤ K / 2
square : (k : ℕ) → k ^ 2 ≡ k * k
square k = pow-suc k 1 ∙ ap (λ (z : ℕ). z * k) (pow_one k)

two_roundings : (b K : ℕ) → b + b ≤ K → 0 < K → b * suc K ^ 2 ≤ (b + 2) * K ^ 2
two_roundings b K h k = rw (square (suc K), square K) (last (mul-le-mul_right K h) (mul-le-mul_right K k))
  where
    last : (b + b) * K ≤ K * K → 1 * K ≤ K * K → b * (suc K * suc K) ≤ (b + 2) * (K * K)
    last g l = omega arith

-- from the powers to the n-th power's factors
factors : (u v w z n : ℕ) → u * w ≤ v * z → u ^ n * w ^ n ≤ v ^ n * z ^ n
factors u v w z n h = le_trans (le_of_eq (sym (mul_pow u w n))) (le_trans (pow-le-pow_left h n) (le_of_eq (mul_pow v z n)))

cancel_low : (K W m n : ℕ) → m ^ n * 100 * K ^ (2 * n) ≤ 1 * W ^ n * suc K ^ (2 * n) → (m - 2) * suc K ^ 2 ≤ m * K ^ 2 → 100 * (m - 2) ^ n ≤ W ^ n
cancel_low K W m n h g =
    le_of_mul-le-mul_right
    (go ((m - 2) ^ n) (m ^ n) (W ^ n) (K ^ (2 * n)) (suc K ^ (2 * n)) h
    (subst (λ (z : ℕ). (m - 2) ^ n * z ≤ m ^ n * K ^ (2 * n)) (sym (pow_mul (suc K) 2 n))
    (subst (λ (z : ℕ). (m - 2) ^ n * (suc K ^ 2) ^ n ≤ m ^ n * z) (sym (pow_mul K 2 n)) (factors (m - 2) m (suc K ^ 2) (K ^ 2) n g))))
    (pow_above (2 * n) (zero-lt-suc K))
  where
    go : (x y w P Q : ℕ) → y * 100 * P ≤ 1 * w * Q → x * Q ≤ y * P → 100 * x * Q ≤ w * Q
    go x y w P Q h g = omega arith

cancel_high : (K W m n : ℕ) → 0 < K → 1 * W ^ n * K ^ (2 * n) ≤ suc m ^ n * 100 * suc K ^ (2 * n) → suc m * suc K ^ 2 ≤ (m + 3) * K ^ 2 →
    W ^ n ≤ 100 * (m + 3) ^ n
cancel_high K W m n k h g =
    le_of_mul-le-mul_right
    (go (suc m ^ n) ((m + 3) ^ n) (W ^ n) (K ^ (2 * n)) (suc K ^ (2 * n)) h
    (subst (λ (z : ℕ). suc m ^ n * z ≤ (m + 3) ^ n * K ^ (2 * n)) (sym (pow_mul (suc K) 2 n))
    (subst (λ (z : ℕ). suc m ^ n * (suc K ^ 2) ^ n ≤ (m + 3) ^ n * z) (sym (pow_mul K 2 n)) (factors (suc m) (m + 3) (suc K ^ 2) (K ^ 2) n g))))
    (pow_above (2 * n) k)
  where
    go : (x y w P Q : ℕ) → 1 * w * P ≤ x * 100 * Q → x * Q ≤ y * P → w * P ≤ 100 * y * P
    go x y w P Q h g = omega arith

-- for m below 2 there is nothing left of m - 2
low_factor : (m K : ℕ) → m + m ≤ K → 0 < K → (m - 2) * suc K ^ 2 ≤ m * K ^ 2
low_factor m K h k = go (leb 2 m) (leb→le 2 m) (nleb→lt 2 m)
  where
    fewer : (m K : ℕ) → m + m ≤ K → m - 2 + (m - 2) ≤ K
    fewer m K h = omega arith

    back : (m : ℕ) → 2 ≤ m → m - 2 + 2 ≤ m
    back m h = omega arith

    none : (m z : ℕ) → m < 2 → (m - 2) * z ≤ 0
    none m z h = le_of_eq (ap (λ (k : ℕ). k * z) (gone m h) ∙ zero-mul z)
      where
        gone : (m : ℕ) → m < 2 → m - 2 ≡ 0
        gone m h = omega arith

    go : (b : Bool) → (T b → 2 ≤ m) → (T (not b) → m < 2) → (m - 2) * suc K ^ 2 ≤ m * K ^ 2
    go true g l = le_trans (two_roundings (m - 2) K (fewer m K h) k) (mul-le-mul_right (K ^ 2) (back m (g tt)))
    go false g l = le_trans (none m (suc K ^ 2) (l tt)) zero-le

-- ---- against 0.01 as a double, which is 1/100 but for one rounding, and not below it
hundredth_low : Under (2 ^ prec binary64) 1 (num hundredth) (den hundredth) 1 100
hundredth_low = under_one (2 ^ prec binary64) (num hundredth) (den hundredth) 1 100 (lit≤ tt)

hundredth_high : Under (2 ^ prec binary64) 0 1 100 (num hundredth) (den hundredth)
hundredth_high = under_le (2 ^ prec binary64) 1 100 (num hundredth) (den hundredth) (lit≤ tt)

-- n roundings and one more
more : (K E n x y r s : ℕ) → 0 < n → E ≡ n + 1 → Under K E x y r s → Under K (2 * n) x y r s
more K E n x y r s N e u = subst (λ (k : ℕ). Under K k x y r s) (back n N) (under_more K (n + 1) (n - 1) x y r s (subst (λ (k : ℕ). Under K k x y r s) e u))
  where
    back : (n : ℕ) → 0 < n → n + 1 + (n - 1) ≡ 2 * n
    back n h = omega arith

module _ (n : ℕ) (N : 0 < n) (bound : n + n ≤ 2 ^ prec binary64) where
  abbrev K : ℕ
  K = 2 ^ prec binary64

  abbrev W : ℕ
  W = 2 ^ 52

  twice : (m : ℕ) → m ≤ W → m + m ≤ K
  twice m h = omega arith

  -- ---- a fraction that passes
  module _ (m : ℕ) (M : 0 < m) (l : m ≤ W) where
    abbrev P : Float
    P = power_of (fraction 52 m) n

    near : Near (fraction 52 m) m W M (pow_pos 52) (part_value m l) l P n n
    near = power_near (fraction 52 m) m W M (pow_pos 52) (part_value m l) l n

    -- a power of 1/128 at least
    pass_large : le P hundredth ≡ true → W ^ n ≤ 128 * m ^ n → 100 * (m - 2) ^ n ≤ W ^ n
    pass_large e g =
        let v : Under K 0 (num P) (den P) (num hundredth) (den hundredth) =
        under_le K (num P) (den P) (num hundredth) (den hundredth) (le_true P hundredth near.in_unit.finite tt e) in
        let w : Under K (n + 0 + 1) (m ^ n) (W ^ n) 1 100 =
        under_trans K (n + 0) 1 (m ^ n) (W ^ n) (num hundredth) (den hundredth) 1 100 (den_pos hundredth)
        (under_trans K n 0 (m ^ n) (W ^ n) (num P) (den P) (num hundredth) (den hundredth) (den_pos P) (near.below bound g) v) hundredth_low in
        cancel_low K W m n (more K (n + 0 + 1) n (m ^ n) (W ^ n) 1 100 N (omega arith) w) (low_factor m K (twice m l) (pow_pos (prec binary64)))

    pass : le P hundredth ≡ true → 100 * (m - 2) ^ n ≤ W ^ n
    pass e = go (leb (W ^ n) (128 * m ^ n)) (leb→le (W ^ n) (128 * m ^ n)) (nleb→lt (W ^ n) (128 * m ^ n))
      where
        shrink : (m : ℕ) → m - 2 ≤ m
        shrink m = omega arith

        last : (x y w : ℕ) → x ≤ y → 128 * y < w → 100 * x ≤ w
        last x y w h g = omega arith

        go : (b : Bool) → (T b → W ^ n ≤ 128 * m ^ n) → (T (not b) → 128 * m ^ n < W ^ n) → 100 * (m - 2) ^ n ≤ W ^ n
        go true h g = pass_large e (h tt)
        go false h g = last ((m - 2) ^ n) (m ^ n) (W ^ n) (pow-le-pow_left (shrink m) n) (g tt)

  -- ---- a fraction that fails
  module _ (m : ℕ) (l : suc m ≤ W) where
    abbrev P' : Float
    P' = power_of (fraction 52 (suc m)) n

    near' : Near (fraction 52 (suc m)) (suc m) W (zero-lt-suc m) (pow_pos 52) (part_value (suc m) l) l P' n n
    near' = power_near (fraction 52 (suc m)) (suc m) W (zero-lt-suc m) (pow_pos 52) (part_value (suc m) l) l n

    abbrev Above : ℕ → ℕ → Type 0
    Above r s = Under K n (num P') (den P') r s

    over : le P' hundredth ≡ false → num hundredth * den P' < num P' * den hundredth
    over e = le_false P' hundredth near'.in_unit.finite tt e

    fail_large : le P' hundredth ≡ false → Above (suc m ^ n) (W ^ n) → W ^ n ≤ 100 * (m + 3) ^ n
    fail_large e u =
        let v : Under K 0 (num hundredth) (den hundredth) (num P') (den P') =
        under_le K (num hundredth) (den hundredth) (num P') (den P') (le_of_lt (over e)) in
        let w : Under K (0 + 0 + n) 1 100 (suc m ^ n) (W ^ n) =
        under_trans K (0 + 0) n 1 100 (num P') (den P') (suc m ^ n) (W ^ n) (den_pos P')
        (under_trans K 0 0 1 100 (num hundredth) (den hundredth) (num P') (den P') (den_pos hundredth) hundredth_high v) u in
        cancel_high K W m n (pow_pos (prec binary64))
        (more K (0 + 0 + n + 1) n 1 100 (suc m ^ n) (W ^ n) N (omega arith) (under_more K (0 + 0 + n) 1 1 100 (suc m ^ n) (W ^ n) w))
        (le_trans (two_roundings (suc m) K (twice (suc m) l) (pow_pos (prec binary64))) (mul-le-mul_right (K ^ 2) (le_of_eq (again m))))
      where
        again : (m : ℕ) → suc m + 2 ≡ m + 3
        again m = omega arith

    -- a power below 1/256 passes
    fail_small : le P' hundredth ≡ false → Above 1 256 → ⊥
    fail_small e u =
        clash (num hundredth) (den hundredth) (num P') (den P') (over e) (under_end K n (num P') (den P') 1 256 (pow_pos (prec binary64)) bound u) (lit≤ tt)
      where
        clash : (h k n d : ℕ) → h * d < n * k → n * 256 ≤ 2 * (1 * d) → k ≤ h * 128 → ⊥
        clash h k n d a b c = not-le_of_lt a (omega (arith, mul-le-mul_left n c, mul-le-mul_left h b))

    fail : le P' hundredth ≡ false → W ^ n ≤ 100 * (m + 3) ^ n
    fail e = go (leb (W ^ n) (256 * suc m ^ n)) (near'.above bound)
      where
        go : (b : Bool) → Above (cond b (suc m ^ n) 1) (cond b (W ^ n) 256) → W ^ n ≤ 100 * (m + 3) ^ n
        go true u = fail_large e u
        go false u = absurd (fail_small e u)

  -- ---- the digits of the root
  zero_power : (n : ℕ) → 0 < n → 0 ^ n ≡ 0
  zero_power zero h = absurd (not-le_of_lt h zero-le)
  zero_power (suc n) h = pow-suc 0 n ∙ mul-zero (0 ^ n)

  none_over : (m : ℕ) → m ≡ 0 → 100 * (m - 2) ^ n ≤ W ^ n
  none_over m e = subst (λ (k : ℕ). 100 * (k - 2) ^ n ≤ W ^ n) (sym e) (le_trans (le_of_eq (ap (λ (z : ℕ). 100 * z) (zero_power n N))) zero-le)

  not_over_of : (m : ℕ) → m ≤ W → (m ≡ 0) ⊎ (low_enough 52 n m ≡ true) → 100 * (m - 2) ^ n ≤ W ^ n
  not_over_of m l (inl e) = none_over m e
  not_over_of m l (inr h) = elim (eq-zero-or-pos m) [ inl e ↦ none_over m e | inr M ↦ pass m M l h ]

  not_under_of : (m : ℕ) → suc m ≤ W → (suc m ≡ W) ⊎ (low_enough 52 n (suc m) ≡ false) → W ^ n ≤ 100 * (m + 3) ^ n
  not_under_of m l (inl e) = le_trans (pow-le-pow_left (le_trans (le_of_eq (sym e)) (more m)) n) (many ((m + 3) ^ n))
    where
      more : (m : ℕ) → suc m ≤ m + 3
      more m = omega arith

      many : (x : ℕ) → x ≤ 100 * x
      many x = omega arith
  not_under_of m l (inr h) = fail m l h

  near_in : NearRoot n (root_digits 52 n)
  near_in =
      let m = root_digits 52 n in
      let b : Encloses 52 n m (suc m) = digits_enclosed 52 n in
      record { not_over = not_over_of m (weak b.within) b.from; not_under = not_under_of m b.within b.to }
    where
      weak : {a b : ℕ} → a < b → a ≤ b
      weak h = omega arith

-- ---- and so with d = 10 ^ -9, which is more than three units
wider_low : (D W m n : ℕ) → 2 * D ≤ W → 100 * (m - 2) ^ n ≤ W ^ n → 100 * (m * D - W) ^ n ≤ (W * D) ^ n
wider_low D W m n h g =
    le_trans (mul-le-mul_left 100 (le_trans (pow-le-pow_left (less D W m h) n) (le_of_eq (mul_pow (m - 2) D n))))
    (le_trans (le_of_eq (turn ((m - 2) ^ n) (D ^ n))) (le_trans (mul-le-mul_right (D ^ n) g) (le_of_eq (sym (mul_pow W D n)))))
  where
    turn : (x y : ℕ) → 100 * (x * y) ≡ 100 * x * y
    turn x y = omega arith

    less : (D W m : ℕ) → 2 * D ≤ W → m * D - W ≤ (m - 2) * D
    less D W m h =
        le_trans (shrink (m * D) W (2 * D) h)
        (le_of_eq (sym (mul_comm (m - 2) D ∙ mul-sub D m 2 ∙ ap (λ (z : ℕ). z - D * 2) (mul_comm D m) ∙ ap (λ (z : ℕ). m * D - z) (mul_comm D 2))))
      where
        shrink : (x w d : ℕ) → d ≤ w → x - w ≤ x - d
        shrink x w d h = omega arith

wider_high : (D W m n : ℕ) → 3 * D ≤ W → W ^ n ≤ 100 * (m + 3) ^ n → (W * D) ^ n ≤ 100 * (m * D + W) ^ n
wider_high D W m n h g =
    le_trans (le_of_eq (mul_pow W D n))
    (le_trans (mul-le-mul_right (D ^ n) g)
    (le_trans (le_of_eq (turn ((m + 3) ^ n) (D ^ n)))
    (mul-le-mul_left 100 (le_trans (le_of_eq (sym (mul_pow (m + 3) D n))) (pow-le-pow_left (more D W m h) n)))))
  where
    turn : (x y : ℕ) → 100 * x * y ≡ 100 * (x * y)
    turn x y = omega arith

    more : (D W m : ℕ) → 3 * D ≤ W → (m + 3) * D ≤ m * D + W
    more D W m h = omega arith

-- ---- the two laws, for every n that document 01 allows, and beyond
few_enough : (n : ℕ) → n ≤ 2 ^ 50 → n + n ≤ 2 ^ prec binary64
few_enough n h = le_trans (add-le-add h h) (lit≤ tt)

pub near_root : (n : ℕ) → 0 < n → n ≤ 2 ^ 50 → NearRoot n (root_digits 52 n)
near_root n N h = near_in n N (few_enough n h)

pub within_billionth : (n : ℕ) → 0 < n → n ≤ 2 ^ 50 → WithinBillionth n (root_digits 52 n)
within_billionth n N h =
    let r : NearRoot n (root_digits 52 n) = near_root n N h in
    record {
      not_over = wider_low (10 ^ 9) (2 ^ 52) (root_digits 52 n) n (lit≤ tt) r.not_over;
      not_under = wider_high (10 ^ 9) (2 ^ 52) (root_digits 52 n) n (lit≤ tt) r.not_under;
    }
