-- The relative error of a rounding, for either format: in the normal range and below overflow a sum, difference, product or quotient is within 1 part
-- in 2 ^ prec of the exact value.
-- `Rounded` says so symmetrically, either is at most (1 + 2 ^ -prec) times the other, which is what composes (Factors); `within` gives |x - a / c| ≤
-- (a / c) * 2 ^ -prec.
-- No real numbers: each bound is multiplied out. Assumes nothing.
use mathlib.Core.Path.{◌≡◌, sym, ap, ◌∙◌, subst}
use Prim.Native.Nat.{ℕ, zero, suc, ◌+◌, ◌-◌, ◌*◌, ◌/◌, ◌%◌, ◌^◌, ◌≤◌, ◌<◌, compare}
use native.Mathlib.Nat.{le_trans, le_of_eq, lt_of_lt_of_le, mul_comm, mul_assoc, mul-le-mul_right, mul-le-mul_left, le_of_mul-le-mul_right}
use native.Mathlib.Nat.{lt_of_mul-lt-mul_right, mul-pos, pow-suc, le-div_iff_mul-le}
use native.Mathlib.Omega.{arith}
use mathlib.Core.Bool.{Bool, true, false, not}
use lib.Dec.{T, leb, leb→le, nleb→lt}
use lib.Pow.{pow-add, pow_pos, pow_mono, pow-lt}
use lib.Ieee.{Float, Format, prec, emax, low, size, round, mul, add, sub, div, le}
use lib.Ieee.Digits.{size_reaches}
use lib.Ieee.Fits.{two, two-le_pos}
use lib.Ieee.Exact.{HasValue}
use lib.Ieee.Nearest.{nearest-ge}
use lib.Ieee.Order.{drop, kept}
use lib.Ieee.Scale.{grid, overflow, round_val, normal_of_fraction}
use lib.Ieee.Positive.{num, den, positive, den_pos, own_value, value→cross, positive_of_value, value_pos}
use Rattle.rounding.proofs.FromZero.{nonneg, nonneg_of_positive}
use Rattle.rounding.proofs.Operations.{mul_is, add_is, sub_is, div_is}
use Rattle.rounding.proofs.HalfUnit.{HalfAway, closest_half}

-- ---- x is a / c rounded in the normal range: either is at most (1 + 2 ^ -prec) times the other
pub record Rounded (f : Format) (x : Float) (a c : ℕ) : Type 0 where
  pub above_zero : T (positive x)
  pub up_to : num x * c * 2 ^ prec f ≤ a * den x * suc (2 ^ prec f)
  pub down_to : a * den x * 2 ^ prec f ≤ num x * c * suc (2 ^ prec f)

-- what is kept, q, of n / u, for a K that is 2 * H, with H units in n / u at least
up_units : (q n u H : ℕ) → q * u * 2 ≤ n * 2 + u → H * u ≤ n → q * u * (2 * H) ≤ n * suc (2 * H)
up_units q n u H h g = omega (arith, mul-le-mul_right H h)

down_units : (q n u H : ℕ) → n * 2 ≤ q * u * 2 + u → H * u ≤ q * u → n * (2 * H) ≤ q * u * suc (2 * H)
down_units q n u H h g = omega (arith, mul-le-mul_right H h)

-- from units, l of which are 1, to the value x / d
up_value : (x d G l c a K J : ℕ) → 0 < l → x * l ≡ G * d → G * c * K ≤ a * l * J → x * c * K ≤ a * d * J
up_value x d G l c a K J L e h = le_of_mul-le-mul_right {k = l} (omega (arith, mul-le-mul_right d h, ap (λ (z : ℕ). z * (c * K)) e)) L

down_value : (x d G l c a K J : ℕ) → 0 < l → x * l ≡ G * d → a * l * K ≤ G * c * J → a * d * K ≤ x * c * J
down_value x d G l c a K J L e h = le_of_mul-le-mul_right {k = l} (omega (arith, mul-le-mul_right d h, ap (λ (z : ℕ). z * (c * J)) e)) L

all_in_use : (z p : ℕ) → 0 < p → p ≤ z → p - 1 + (z - p) < z
all_in_use z p P h = omega arith

below_top : (G K M : ℕ) → 1 < K → 0 < M → G * K ≤ M * suc K → G < 2 * M
below_top G K M k m h = lt_of_mul-lt-mul_right K (strict (mul-le-mul_left M k) h)
  where
    strict : M * 2 ≤ M * K → G * K ≤ M * suc K → G * K < 2 * M * K
    strict a b = omega arith

twice : (p : ℕ) → 0 < p → 2 ^ p ≡ 2 * 2 ^ (p - 1)
twice zero P = absurd (omega arith)
twice (suc p) P = subst (λ (z : ℕ). 2 ^ suc p ≡ 2 * 2 ^ z) (sym (sub_suc_one p)) (pow-suc 2 p ∙ mul_comm (2 ^ p) 2)
  where
    sub_suc_one : (n : ℕ) → suc n - 1 ≡ n
    sub_suc_one n = omega arith

-- the rounded value in units, and the bounds there
grid_near : (f : Format) (a c : ℕ) → 0 < c → 2 ^ (prec f - 1) * c ≤ a * 2 ^ low f
    → (0 < grid f a c) × (grid f a c * c * 2 ^ prec f ≤ a * 2 ^ low f * suc (2 ^ prec f)) × (a * 2 ^ low f * 2 ^ prec f ≤ grid f a c * c * suc (2 ^ prec f))
grid_near f a c C N =
    let p = prec f in
    let P : 0 < p = two-le_pos p (two f) in
    let n = a * 2 ^ low f in
    let k = drop p n c in
    let u = c * 2 ^ k in
    let U : 0 < u = mul-pos C (pow_pos k) in
    let q = kept p n c in
    let H = 2 ^ (p - 1) in
    let z : p ≤ size (n / c) = normal_of_fraction f a c C N in
    let r : H * 2 ^ k ≤ n / c = le_trans (le_of_eq (sym (pow-add 2 (p - 1) k))) (size_reaches (n / c) (p - 1 + k) (all_in_use (size (n / c)) p P z)) in
    let g : H * u ≤ n = le_trans (le_of_eq (ap (λ (x : ℕ). H * x) (mul_comm c (2 ^ k)) ∙ sym (mul_assoc H (2 ^ k) c))) ((le-div_iff_mul-le C).0 r) in
    let h : H ≤ q = le_trans ((le-div_iff_mul-le U).1 g) (nearest-ge (n / u) (compare (n % u * 2) u)) in
    let w : HalfAway q n u = closest_half n u U in
    let e : q * 2 ^ k * c ≡ q * u = mul_assoc q (2 ^ k) c ∙ ap (λ (x : ℕ). q * x) (mul_comm (2 ^ k) c) in
    let t : 2 ^ p ≡ 2 * H = twice p P in (
      mul-pos (lt_of_lt_of_le (pow_pos (p - 1)) h) (pow_pos k),
      rw (e, t) (up_units q n u H w.0 g),
      rw (e, t) (down_units q n u H w.1 (mul-le-mul_right u h)),
    )

one_lt_pow : (p : ℕ) → 2 ≤ p → 1 < 2 ^ p
one_lt_pow p h = pow-lt (two-le_pos p h)

pub round_near : (f : Format) (a c : ℕ) → 0 < c → 2 ^ (prec f - 1) * c ≤ a * 2 ^ low f → a ≤ 2 ^ emax f * c → Rounded f (round f false a c) a c
round_near f a c C N O =
    let l = 2 ^ low f in
    let K = 2 ^ prec f in
    let G = grid f a c in
    let M = 2 ^ emax f * l in
    let x = round f false a c in
    let b = grid_near f a c C N in
    let small : G * K ≤ M * suc K = le_of_mul-le-mul_right (capped G c K a l (2 ^ emax f) b.1 O) C in
    let room : overflow f ≡ 2 * M = pow-add 2 (low f) (suc (emax f)) ∙ ap (λ (z : ℕ). l * z) (pow-suc 2 (emax f)) ∙ turn l (2 ^ emax f) in
    let v : HasValue x false G l =
    round_val f a c
    (subst (λ (z : ℕ). G < z) (sym room) (below_top G K M (one_lt_pow (prec f) (two f)) (mul-pos (pow_pos (emax f)) (pow_pos (low f))) small)) in
    let e : num x * l ≡ G * den x = value→cross x G l v in
    record {
      above_zero = positive_of_value x G l v b.0;
      up_to = up_value (num x) (den x) G l c a K (suc K) (pow_pos (low f)) e b.1;
      down_to = down_value (num x) (den x) G l c a K (suc K) (pow_pos (low f)) e b.2;
    }
  where
    capped : (G c K a l m : ℕ) → G * c * K ≤ a * l * suc K → a ≤ m * c → G * K * c ≤ m * l * suc K * c
    capped G c K a l m h o = omega (arith, mul-le-mul_right (l * suc K) o)

    turn : (l m : ℕ) → l * (m * 2) ≡ 2 * (m * l)
    turn l m = omega arith

-- a / c is in the normal range if it is 2 ^ -k at least, for a k up to low - (prec - 1): 1022 for doubles
pub normal_from : (f : Format) (a c k : ℕ) → c ≤ a * 2 ^ k → prec f - 1 + k ≤ low f → 2 ^ (prec f - 1) * c ≤ a * 2 ^ low f
normal_from f a c k h g =
    le_trans (mul-le-mul_left (2 ^ (prec f - 1)) h)
    (le_trans (le_of_eq (turn (2 ^ (prec f - 1)) a (2 ^ k) ∙ ap (λ (z : ℕ). a * z) (sym (pow-add 2 (prec f - 1) k)))) (mul-le-mul_left a (pow_mono g)))
  where
    turn : (u a v : ℕ) → u * (a * v) ≡ a * (u * v)
    turn u a v = omega arith

-- ---- the four operations
module _ (f : Format) (x y : Float) (p : T (positive x)) (q : T (positive y)) where
  p' : T (nonneg x)
  p' = nonneg_of_positive x p

  q' : T (nonneg y)
  q' = nonneg_of_positive y q

  D : 0 < den x * den y
  D = mul-pos (den_pos x) (den_pos y)

  pub mul_near : 2 ^ (prec f - 1) * (den x * den y) ≤ num x * num y * 2 ^ low f → num x * num y ≤ 2 ^ emax f * (den x * den y)
      → Rounded f (mul f x y) (num x * num y) (den x * den y)
  mul_near N O =
      subst (λ (z : Float). Rounded f z (num x * num y) (den x * den y)) (sym (mul_is f x y p' q')) (round_near f (num x * num y) (den x * den y) D N O)

  pub add_near : 2 ^ (prec f - 1) * (den x * den y) ≤ (num x * den y + num y * den x) * 2 ^ low f → num x * den y + num y * den x ≤ 2 ^ emax f * (den x * den y)
      → Rounded f (add f x y) (num x * den y + num y * den x) (den x * den y)
  add_near N O =
      subst (λ (z : Float). Rounded f z (num x * den y + num y * den x) (den x * den y)) (sym (add_is f x y p' q'))
      (round_near f (num x * den y + num y * den x) (den x * den y) D N O)

  -- x - y for y ≤ x; a difference of 0 is exact, and not in the normal range
  pub sub_near : T (le y x) → 2 ^ (prec f - 1) * (den x * den y) ≤ (num x * den y - num y * den x) * 2 ^ low f →
      num x * den y - num y * den x ≤ 2 ^ emax f * (den x * den y)
      → Rounded f (sub f x y) (num x * den y - num y * den x) (den x * den y)
  sub_near h N O =
      subst (λ (z : Float). Rounded f z (num x * den y - num y * den x) (den x * den y)) (sym (sub_is f x y p' q' h))
      (round_near f (num x * den y - num y * den x) (den x * den y) D N O)

  pub div_near : 2 ^ (prec f - 1) * (num y * den x) ≤ num x * den y * 2 ^ low f → num x * den y ≤ 2 ^ emax f * (num y * den x)
      → Rounded f (div f x y) (num x * den y) (num y * den x)
  div_near N O =
      subst (λ (z : Float). Rounded f z (num x * den y) (num y * den x)) (sym (div_is f x y p' q))
      (round_near f (num x * den y) (num y * den x) (mul-pos (value_pos y (num y) (den y) q (den_pos y) (own_value y q)) (den_pos x)) N O)

-- ---- the distance from the exact value, as a part of the exact value: |x - a / c| ≤ (a / c) * 2 ^ -prec
pub record Within (f : Format) (x : Float) (a c : ℕ) : Type 0 where
  pub above : num x * c * 2 ^ prec f ≤ a * den x * 2 ^ prec f + a * den x
  pub below : a * den x * 2 ^ prec f ≤ num x * c * 2 ^ prec f + a * den x

pub within : (f : Format) (x : Float) (a c : ℕ) → Rounded f x a c → Within f x a c
within f x a c r = record { above = omega (arith, r.up_to); below = low_side (a * den x) (num x * c) (2 ^ prec f) r.down_to }
  where
    low_side : (r v K : ℕ) → r * K ≤ v * suc K → r * K ≤ v * K + r
    low_side r v K h = go (leb r v) (leb→le r v) (nleb→lt r v)
      where
        go : (b : Bool) → (T b → r ≤ v) → (T (not b) → v < r) → r * K ≤ v * K + r
        go true g k = omega (arith, mul-le-mul_right K (g tt))
        go false g k = omega (arith, k tt)
