-- A rounded value is at most half a unit in the last place from the exact one, subnormal values included. A value is counted in units of the format's
-- smallest one, 2 ^ -low:
-- it is `grid` of them, a multiple of 2 ^ `drop`, which is its unit in the last place. Assumes nothing.
use mathlib.Core.Path.{◌≡◌}
use Prim.Native.Nat.{ℕ, ◌+◌, ◌*◌, ◌/◌, ◌%◌, ◌^◌, ◌≤◌, ◌<◌, compare, Ordering}
use native.Mathlib.Nat.{le_trans, le_of_eq, one-mul, mul-le-mul_right, mul-pos, add-mul, div-add-mod', mod-lt}
use native.Mathlib.Omega.{arith}
use mathlib.Core.Bool.{false, not}
use lib.Dec.{T, is_le, compare_is_eq, leb→le, nleb→lt, eqb→eq}
use lib.Pow.{pow_pos}
use lib.Ieee.{Float, Format, prec, low, nearest, round}
use lib.Ieee.Exact.{HasValue}
use lib.Ieee.Nearest.{closest}
use lib.Ieee.Order.{drop, kept}
use lib.Ieee.Scale.{grid, overflow, round_val}

-- ---- a / b to the nearest whole number
abbrev Cmp : Ordering → ℕ → ℕ → Type 0
Cmp Ordering.lt a b = a ≤ b
Cmp Ordering.eq a b = a ≡ b
Cmp Ordering.gt a b = b ≤ a

cmp : (a b : ℕ) → Cmp (compare a b) a b
cmp a b = go (compare a b) (leb→le a b) (nleb→lt a b) (eqb→eq a b)
  where
    go : (o : Ordering) → (T (is_le o) → a ≤ b) → (T (not (is_le o)) → b < a) → (T (compare_is_eq o) → a ≡ b) → Cmp o a b
    go Ordering.lt h k e = h tt
    go Ordering.eq h k e = e tt
    go Ordering.gt h k e = weak (k tt)
      where
        weak : b < a → b ≤ a
        weak h = omega arith

-- q is at most a half from a / b
abbrev pub HalfAway : ℕ → ℕ → ℕ → Type 0
HalfAway q a b = (q * b * 2 ≤ a * 2 + b) × (a * 2 ≤ q * b * 2 + b)

bit_mul : (w b : ℕ) → w % 2 * b ≤ b
bit_mul w b = le_trans (mul-le-mul_right b (small w)) (le_of_eq (one-mul b))
  where
    small : (x : ℕ) → x % 2 ≤ 1
    small x = omega arith

half_away : (w r a b : ℕ) (o : Ordering) → w * b + r ≡ a → r < b → Cmp o (r * 2) b → HalfAway (nearest w o) a b
half_away w r a b Ordering.lt e l c = (omega arith, omega arith)
half_away w r a b Ordering.eq e l c =
    let t : (w + w % 2) * b ≡ w * b + w % 2 * b = add-mul w (w % 2) b in
    let s : w % 2 * b ≤ b = bit_mul w b in
    tie (w * b) (w % 2 * b) ((w + w % 2) * b) r a b t s e l c
  where
    tie : (W t q r a b : ℕ) → q ≡ W + t → t ≤ b → W + r ≡ a → r < b → r * 2 ≡ b → (q * 2 ≤ a * 2 + b) × (a * 2 ≤ q * 2 + b)
    tie W t q r a b p s e l c = (omega arith, omega arith)
half_away w r a b Ordering.gt e l c = (omega arith, omega arith)

pub closest_half : (a b : ℕ) → 0 < b → HalfAway (closest a b) a b
closest_half a b B = half_away (a / b) (a % b) a b (compare (a % b * 2) b) (div-add-mod' a b) (mod-lt a B) (cmp (a % b * 2) b)

-- ---- a / c rounded, for any a / c that does not overflow: twice the distance is at most one unit in the last place
pub record HalfUnit (f : Format) (x : Float) (a c : ℕ) : Type 0 where
  pub value : HasValue x false (grid f a c) (2 ^ low f)
  pub above : grid f a c * c * 2 ≤ a * 2 ^ low f * 2 + c * 2 ^ drop (prec f) (a * 2 ^ low f) c
  pub below : a * 2 ^ low f * 2 ≤ grid f a c * c * 2 + c * 2 ^ drop (prec f) (a * 2 ^ low f) c

pub round_half : (f : Format) (a c : ℕ) → 0 < c → grid f a c < overflow f → HalfUnit f (round f false a c) a c
round_half f a c C h =
    let n = a * 2 ^ low f in
    let k = drop (prec f) n c in
    let q = kept (prec f) n c in
    let w : HalfAway q n (c * 2 ^ k) = closest_half n (c * 2 ^ k) (mul-pos C (pow_pos k)) in
    record {
      value = round_val f a c h;
      above = up n c (2 ^ k) q w.0;
      below = down n c (2 ^ k) q w.1;
    }
  where
    up : (n c u q : ℕ) → q * (c * u) * 2 ≤ n * 2 + c * u → q * u * c * 2 ≤ n * 2 + c * u
    up n c u q h = omega arith

    down : (n c u q : ℕ) → n * 2 ≤ q * (c * u) * 2 + c * u → n * 2 ≤ q * u * c * 2 + c * u
    down n c u q h = omega arith
