-- Squaring a float from 1 to 2 over and over, and halving it where it reaches 2: after i squarings x is near the 2 ^ i-th power of the first value,
-- less the halvings that the digits count.
-- Each squaring is one rounding; a halving is exact. Assumes nothing.
use mathlib.Core.Path.{◌≡◌, refl, sym, ap, ◌∙◌, subst}
use Prim.Native.Nat.{ℕ, zero, suc, ◌+◌, ◌-◌, ◌*◌, ◌^◌, ◌≤◌, ◌<◌}
use native.Mathlib.Nat.{le_trans, le_of_eq, lt_of_lt_of_le, zero-lt-suc, add_comm, one-mul, mul_comm, mul-le-mul, mul-le-mul_right}
use native.Mathlib.Nat.{le_of_mul-le-mul_right, mul-pos, pow-suc}
use native.Mathlib.Omega.{arith}
use mathlib.Core.Bool.{Bool, true, false}
use lib.IntN.{pos}
use lib.Dec.{T, lit≤}
use lib.Pow.{pow-add, pow_pos, pow_mono}
use lib.Ieee.{Float, fin, Format, binary32, binary64, prec, emax, low, round, mul, fits, le}
use lib.Ieee.Fits.{mul-fits}
use lib.Ieee.Exact.{HasValue}
use lib.Ieee.Positive.{num, den, positive, den_pos, own_value, value→cross, positive_of_value}
use Rattle.rounding.proofs.Powers.{pow_one, pow_above}
use Rattle.rounding.proofs.Factors.{Under, under_refl, under_one, under_trans, under_square, under_half, under_left, under_right, under_end}
use Rattle.rounding.proofs.FromZero.{nonneg_of_positive, cross_of_le}
use Rattle.rounding.proofs.Compare.{le_true, le_false}
use Rattle.rounding.proofs.Operations.{mul_is}
use Rattle.rounding.proofs.RelativeError.{Rounded, mul_near}
use Rattle.rounding.proofs.Exact.{scale_down}
use Rattle.rounding.proofs.Monotone.{round_from, round_to}
use Rattle.rounding.specs.Doubles.{one, two, half}
use Rattle.entropy.specs.Entropy.{squared_times, log_digits}
use Rattle.entropy.proofs.Rounds.{once_high, once_low, digit_high, digit_low}

-- ---- of a format: 1 and 4 are its values, and the range 1 to 4 lies far from its smallest values and its top
abbrev four : Float
four = fin false 1 (pos 2)

one_fits : (f : Format) → T (fits f one)
unfolding fits
one_fits binary32 = tt
one_fits binary64 = tt

four_fits : (f : Format) → T (fits f four)
unfolding fits
four_fits binary32 = tt
four_fits binary64 = tt

four_top : (f : Format) → 4 ≤ 2 ^ emax f
four_top binary32 = lit≤ tt
four_top binary64 = lit≤ tt

fine : (f : Format) → prec f - 1 + 1 ≤ low f
fine binary32 = lit≤ tt
fine binary64 = lit≤ tt

fine' : (f : Format) → prec f - 1 ≤ low f
fine' binary32 = lit≤ tt
fine' binary64 = lit≤ tt

-- ---- the square of x, for an x from 1 to 2, is from 1 to 4 rounded too
pub record Squared (f : Format) (x z : Float) : Type 0 where
  pub near : Rounded f z (num x * num x) (den x * den x)
  pub from_one : den z ≤ num z
  pub to_four : num z ≤ 4 * den z

four_squares : (n d : ℕ) → n ≤ 2 * d → n * n ≤ 4 * (d * d)
four_squares n d h = omega (arith, mul-le-mul h h)

pub squared : (f : Format) (x : Float) → T (positive x) → den x ≤ num x → num x ≤ 2 * den x → Squared f x (mul f x x)
squared f x p a b =
    let n = num x in
    let d = den x in
    let D : 0 < d * d = mul-pos (den_pos x) (den_pos x) in
    let one_up : d * d ≤ n * n = mul-le-mul a a in
    let to-4 : n * n ≤ 4 * (d * d) = four_squares n d b in
    let r : Rounded f (mul f x x) (n * n) (d * d) = mul_near f x x p p
    (le_trans (mul-le-mul (pow_mono (fine' f)) one_up) (le_of_eq (mul_comm (2 ^ low f) (n * n))))
    (le_trans to-4 (mul-le-mul_right (d * d) (four_top f))) in
    let x' = nonneg_of_positive x p in
    let z' = nonneg_of_positive (mul f x x) r.above_zero in
    let e : mul f x x ≡ round f false (n * n) (d * d) = mul_is f x x x' x' in
    let lo : T (le one (mul f x x)) =
    subst (λ (z : Float). T (le one z)) (sym e) (round_from f (n * n) (d * d) 1 1 one D (zero-lt-suc 0) (one_fits f) (refl, refl) (omega arith)) in
    let hi : T (le (mul f x x) four) =
    subst (λ (z : Float). T (le z four)) (sym e) (round_to f (n * n) (d * d) 4 1 four D (zero-lt-suc 0) (four_fits f) (refl, refl) (omega arith)) in
    record {
      near = r;
      from_one = omega (arith, cross_of_le one (mul f x x) tt z' lo);
      to_four = omega (arith, cross_of_le (mul f x x) four z' tt hi);
    }

-- ---- half of z, for a z from 1 to 4, is exact
pub halved : (f : Format) (z : Float) → T (positive z) → T (fits f z) → den z ≤ num z → num z ≤ 4 * den z → HasValue (mul f z half) false (num z) (den z * 2)
halved f z p t a b =
    scale_down f z half (num z) (den z) 1 (den_pos z) t (own_value z p) (refl, refl)
    (le_trans (le_of_eq (turn (2 ^ (prec f - 1)) (den z) ∙ ap (λ (k : ℕ). k * den z) (sym (pow-add 2 (prec f - 1) 1))))
    (le_trans (mul-le-mul (pow_mono (fine f)) a) (le_of_eq (mul_comm (2 ^ low f) (num z)))))
    (subst (λ (k : ℕ). num z < k * (den z * 2)) (sym (pow-suc 2 (emax f)))
    (room (num z) (den z) (2 ^ emax f) b (mul-le-mul_right (den z) (four_top f)) (den_pos z)))
  where
    turn : (u d : ℕ) → u * (d * 2) ≡ u * 2 * d
    turn u d = omega arith

    room : (n d t : ℕ) → n ≤ 4 * d → 4 * d ≤ t * d → 0 < d → n < t * 2 * (d * 2)
    room n d t h g k = omega arith

-- ---- x, after i squarings from A / C and the halvings that B counts, is (A / C) ^ (2 ^ i) / 2 ^ B but for a factor (1 + 2 ^ -prec) ^ (2 ^ i - 1) either way
pub record Tracks (f : Format) (A C : ℕ) (x : Float) (i B : ℕ) : Type 0 where
  pub above_zero : T (positive x)
  pub held : T (fits f x)
  pub from_one : den x ≤ num x
  pub to_two : num x ≤ 2 * den x
  pub over : Under (2 ^ prec f) (2 ^ i - 1) (num x) (den x) (A ^ (2 ^ i)) (2 ^ B * C ^ (2 ^ i))
  pub under : Under (2 ^ prec f) (2 ^ i - 1) (A ^ (2 ^ i)) (2 ^ B * C ^ (2 ^ i)) (num x) (den x)

two_times : (i : ℕ) → 2 ^ (i + 1) ≡ 2 ^ i + 2 ^ i
two_times i = pow-add 2 i 1 ∙ twice (2 ^ i)
  where
    twice : (a : ℕ) → a * 2 ≡ a + a
    twice a = omega arith

ones_twice : (i : ℕ) → 1 + ((2 ^ i - 1) + (2 ^ i - 1)) ≡ 2 ^ (i + 1) - 1
ones_twice i = go (2 ^ i) (2 ^ (i + 1)) (pow_pos i) (two_times i)
  where
    go : (a b : ℕ) → 0 < a → b ≡ a + a → 1 + ((a - 1) + (a - 1)) ≡ b - 1
    go a b p e = omega arith

power_twice : (A i : ℕ) → A ^ (2 ^ i) * A ^ (2 ^ i) ≡ A ^ (2 ^ (i + 1))
power_twice A i = sym (ap (λ (z : ℕ). A ^ z) (two_times i) ∙ pow-add A (2 ^ i) (2 ^ i))

below_twice : (C i B : ℕ) → (2 ^ B * C ^ (2 ^ i)) * (2 ^ B * C ^ (2 ^ i)) ≡ 2 ^ (B * 2) * C ^ (2 ^ (i + 1))
below_twice C i B =
    turn (2 ^ B) (C ^ (2 ^ i)) ∙ ap (λ (z : ℕ). 2 ^ B * 2 ^ B * z) (power_twice C i)
    ∙ ap (λ (z : ℕ). z * C ^ (2 ^ (i + 1))) (sym (ap (λ (z : ℕ). 2 ^ z) (twice B) ∙ pow-add 2 B B))
  where
    turn : (a c : ℕ) → (a * c) * (a * c) ≡ a * a * (c * c)
    turn a c = omega arith

    twice : (a : ℕ) → a * 2 ≡ a + a
    twice a = omega arith

below_twice_more : (C i B : ℕ) → 2 ^ (B * 2) * C ^ (2 ^ (i + 1)) * 2 ≡ 2 ^ (B * 2 + 1) * C ^ (2 ^ (i + 1))
below_twice_more C i B = turn (2 ^ (B * 2)) (C ^ (2 ^ (i + 1))) ∙ ap (λ (z : ℕ). z * C ^ (2 ^ (i + 1))) (sym (pow-add 2 (B * 2) 1))
  where
    turn : (a c : ℕ) → a * c * 2 ≡ a * 2 * c
    turn a c = omega arith

module _ (f : Format) (A C : ℕ) (cp : 0 < C) (x : Float) (i B : ℕ) (t : Tracks f A C x i B) where
  sq : Squared f x (mul f x x)
  sq = squared f x t.above_zero t.from_one t.to_two

  sq_over : Under (2 ^ prec f) (2 ^ (i + 1) - 1) (num (mul f x x)) (den (mul f x x)) (A ^ (2 ^ (i + 1))) (2 ^ (B * 2) * C ^ (2 ^ (i + 1)))
  sq_over =
      let K = 2 ^ prec f in
      let E = 2 ^ i - 1 in
      let z = mul f x x in
      let n = num x in
      let d = den x in
      let R = A ^ (2 ^ i) in
      let S = 2 ^ B * C ^ (2 ^ i) in
      rw (← ones_twice i, ← power_twice A i, ← below_twice C i B)
      (under_trans K 1 (E + E) (num z) (den z) (n * n) (d * d) (R * R) (S * S) (mul-pos (den_pos x) (den_pos x))
      (under_one K (num z) (den z) (n * n) (d * d) sq.near.up_to) (under_square K E n d R S t.over))

  S_pos : 0 < 2 ^ B * C ^ (2 ^ i)
  S_pos = mul-pos (pow_pos B) (pow_above (2 ^ i) cp)

  sq_under : Under (2 ^ prec f) (2 ^ (i + 1) - 1) (A ^ (2 ^ (i + 1))) (2 ^ (B * 2) * C ^ (2 ^ (i + 1))) (num (mul f x x)) (den (mul f x x))
  sq_under =
      let K = 2 ^ prec f in
      let E = 2 ^ i - 1 in
      let z = mul f x x in
      let n = num x in
      let d = den x in
      let R = A ^ (2 ^ i) in
      let S = 2 ^ B * C ^ (2 ^ i) in
      rw (← ones_twice i, ← power_twice A i, ← below_twice C i B)
      (subst (λ (e : ℕ). Under K e (R * R) (S * S) (num z) (den z)) (add_comm (E + E) 1)
      (under_trans K (E + E) 1 (R * R) (S * S) (n * n) (d * d) (num z) (den z) (mul-pos (den_pos x) (den_pos x))
      (under_square K E R S n d t.under) (under_one K (n * n) (d * d) (num z) (den z) sq.near.down_to)))

  -- the square is below 2, and stays
  stays : num (mul f x x) ≤ 2 * den (mul f x x) → Tracks f A C (mul f x x) (i + 1) (B * 2)
  stays h = record { above_zero = sq.near.above_zero; held = mul-fits f x x; from_one = sq.from_one; to_two = h; over = sq_over; under = sq_under }

  -- it is 2 at least, and is halved
  halves : 2 * den (mul f x x) ≤ num (mul f x x) → Tracks f A C (mul f (mul f x x) half) (i + 1) (B * 2 + 1)
  halves h =
      let K = 2 ^ prec f in
      let E = 2 ^ (i + 1) - 1 in
      let z = mul f x x in
      let y = mul f z half in
      let R = A ^ (2 ^ (i + 1)) in
      let S = 2 ^ (B * 2) * C ^ (2 ^ (i + 1)) in
      let v : HasValue y false (num z) (den z * 2) = halved f z sq.near.above_zero (mul-fits f x x) sq.from_one sq.to_four in
      let e : num y * (den z * 2) ≡ num z * den y = value→cross y (num z) (den z * 2) v in
      let D : 0 < den z * 2 = mul-pos (den_pos z) (zero-lt-suc 1) in
      record {
        above_zero = positive_of_value y (num z) (den z * 2) v (lt_of_lt_of_le (den_pos z) sq.from_one);
        held = mul-fits f z half;
        from_one = le_of_mul-le-mul_right (lo (num y) (den y) (num z) (den z) e h) D;
        to_two = le_of_mul-le-mul_right (hi (num y) (den y) (num z) (den z) e sq.to_four) D;
        over = subst (λ (s : ℕ). Under K E (num y) (den y) R s) (below_twice_more C i B)
            (under_left K E (num z) (den z * 2) (num y) (den y) R (S * 2) D (sym e) (under_half K E (num z) (den z) R S sq_over));
        under = subst (λ (s : ℕ). Under K E R s (num y) (den y)) (below_twice_more C i B)
            (under_right K E R (S * 2) (num z) (den z * 2) (num y) (den y) D (sym e) (under_half K E R S (num z) (den z) sq_under));
      }
    where
      lo : (n d m b : ℕ) → n * (b * 2) ≡ m * d → 2 * b ≤ m → d * (b * 2) ≤ n * (b * 2)
      lo n d m b e h = omega (arith, mul-le-mul_right d h)

      hi : (n d m b : ℕ) → n * (b * 2) ≡ m * d → m ≤ 4 * b → n * (b * 2) ≤ 2 * d * (b * 2)
      hi n d m b e h = omega (arith, mul-le-mul_right d h)

  -- as the tests have it
  pub next_0 : le two (mul f x x) ≡ false → Tracks f A C (mul f x x) (i + 1) (B * 2)
  next_0 e = stays (omega (arith, le_false two (mul f x x) tt (nonneg_of_positive (mul f x x) sq.near.above_zero) e))

  pub next_1 : le two (mul f x x) ≡ true → Tracks f A C (mul f (mul f x x) half) (i + 1) (B * 2 + 1)
  next_1 e = halves (omega (arith, le_true two (mul f x x) tt (nonneg_of_positive (mul f x x) sq.near.above_zero) e))

-- ---- the start, and the end
pub tracks_first : (f : Format) (x : Float) → T (positive x) → T (fits f x) → den x ≤ num x → num x ≤ 2 * den x → Tracks f (num x) (den x) x 0 0
tracks_first f x p t a b =
    let e : 2 ^ 0 * den x ^ 1 ≡ den x = ap (λ (z : ℕ). 1 * z) (pow_one (den x)) ∙ one-mul (den x) in
    record {
      above_zero = p;
      held = t;
      from_one = a;
      to_two = b;
      over = rw (e, pow_one (num x)) (under_refl (2 ^ prec f) (num x) (den x));
      under = rw (e, pow_one (num x)) (under_refl (2 ^ prec f) (num x) (den x));
    }

few : (f : Format) (i : ℕ) → i + 1 ≤ prec f → (2 ^ i - 1) + (2 ^ i - 1) ≤ 2 ^ prec f
few f i h = le_trans (go (2 ^ i) (2 ^ (i + 1)) (two_times i)) (pow_mono h)
  where
    go : (a b : ℕ) → b ≡ a + a → (a - 1) + (a - 1) ≤ b
    go a b e = omega arith

pub tracks_low : (f : Format) (A C : ℕ) (x : Float) (i B : ℕ) → i + 1 ≤ prec f → Tracks f A C x i B → 2 ^ B * C ^ (2 ^ i) ≤ 2 * A ^ (2 ^ i)
tracks_low f A C x i B h t =
    le_of_mul-le-mul_right
    (go (num x) (den x) (A ^ (2 ^ i)) (2 ^ B * C ^ (2 ^ i)) (mul-le-mul_right (2 ^ B * C ^ (2 ^ i)) t.from_one)
    (under_end (2 ^ prec f) (2 ^ i - 1) (num x) (den x) (A ^ (2 ^ i)) (2 ^ B * C ^ (2 ^ i)) (pow_pos (prec f)) (few f i h) t.over))
    (den_pos x)
  where
    go : (n d r s : ℕ) → d * s ≤ n * s → n * s ≤ 2 * (r * d) → s * d ≤ 2 * r * d
    go n d r s h g = omega arith

pub tracks_high : (f : Format) (A C : ℕ) (x : Float) (i B : ℕ) → i + 1 ≤ prec f → Tracks f A C x i B → A ^ (2 ^ i) ≤ 4 * (2 ^ B * C ^ (2 ^ i))
tracks_high f A C x i B h t =
    le_of_mul-le-mul_right
    (go (num x) (den x) (A ^ (2 ^ i)) (2 ^ B * C ^ (2 ^ i)) (mul-le-mul_right (2 ^ B * C ^ (2 ^ i)) t.to_two)
    (under_end (2 ^ prec f) (2 ^ i - 1) (A ^ (2 ^ i)) (2 ^ B * C ^ (2 ^ i)) (num x) (den x) (pow_pos (prec f)) (few f i h) t.under))
    (den_pos x)
  where
    go : (n d r s : ℕ) → n * s ≤ 2 * d * s → r * d ≤ 2 * (n * s) → r * d ≤ 4 * s * d
    go n d r s h g = omega arith

-- ---- the definition's squarings
abbrev Followed : ℕ → Float → Type 0
Followed i x = Tracks binary64 (num x) (den x) (squared_times i x) i (log_digits i x)

module _ (x : Float) where
  once : (i : ℕ) → Followed i x → (b : Bool) → le two (mul binary64 (squared_times i x) (squared_times i x)) ≡ b → Followed (suc i) x
  unfolding squared_times log_digits
  once i t true e =
      let y = squared_times i x in
      rw (once_high y e, digit_high y e)
      (subst (λ (k : ℕ). Tracks binary64 (num x) (den x) (mul binary64 (mul binary64 y y) half) k (log_digits i x * 2 + 1)) (one_more i)
      (next_1 binary64 (num x) (den x) (den_pos x) y i (log_digits i x) t e))
    where
      one_more : (i : ℕ) → i + 1 ≡ suc i
      one_more i = omega arith
  once i t false e =
      let y = squared_times i x in
      rw (once_low y e, digit_low y e)
      (subst (λ (k : ℕ). Tracks binary64 (num x) (den x) (mul binary64 y y) k (log_digits i x * 2 + 0)) (one_more i)
      (subst (λ (k : ℕ). Tracks binary64 (num x) (den x) (mul binary64 y y) (i + 1) k) (none (log_digits i x * 2))
      (next_0 binary64 (num x) (den x) (den_pos x) y i (log_digits i x) t e)))
    where
      one_more : (i : ℕ) → i + 1 ≡ suc i
      one_more i = omega arith

      none : (n : ℕ) → n ≡ n + 0
      none n = omega arith

  pub followed : T (positive x) → T (fits binary64 x) → den x ≤ num x → num x ≤ 2 * den x → (i : ℕ) → Followed i x
  unfolding squared_times log_digits
  followed p t a b zero = tracks_first binary64 x p t a b
  followed p t a b (suc i) = once i (followed p t a b i) (le two (mul binary64 (squared_times i x) (squared_times i x))) refl
