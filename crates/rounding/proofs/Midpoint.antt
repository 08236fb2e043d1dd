-- The midpoint (a + b) / 2 of a ≤ b lies from a to b, whatever is rounded: the doubles of a and b are values of the format, so the sum does not pass
-- them, and the half does not pass a and b.
-- Assumes nothing.
use mathlib.Core.Path.{◌≡◌, refl, sym, subst}
use Prim.Native.Nat.{ℕ, suc, ◌+◌, ◌*◌, ◌^◌, ◌≤◌, ◌<◌}
use native.Mathlib.Nat.{zero-lt-suc, mul-pos, mul-lt-mul_of_pos_right, lt_of_mul-lt-mul_right, mul-le-mul_right}
use native.Mathlib.Omega.{arith}
use mathlib.Core.Bool.{false}
use lib.IntN.{pos}
use lib.Dec.{T}
use lib.Ieee.{Float, fin, Format, emax, round, add, div, fits, le}
use lib.Ieee.Fits.{round-fits}
use lib.Ieee.Exact.{HasValue}
use lib.Ieee.Positive.{num, den, den_pos}
use Rattle.rounding.proofs.FromZero.{nonneg, value_of, cross_of_le, fractions_of_le}
use Rattle.rounding.proofs.Operations.{add_is, div_at}
use Rattle.rounding.proofs.Exact.{held_of_fits, held_up, round_held}
use Rattle.rounding.proofs.Monotone.{round_to, round_from, round_finite}
use Rattle.rounding.proofs.Ranges.{Between}

abbrev pub two : Float
two = fin false 1 (pos 1)

-- twice x is a value of the format
double : (f : Format) (x : Float) → T (nonneg x) → T (fits f x) → num x * 2 < 2 ^ suc (emax f) * den x →
    HasValue (round f false (num x * 2) (den x)) false (num x * 2) (den x)
double f x p t O = round_held f (num x * 2) (den x) (den_pos x) (held_up f (num x) (den x) 1 (held_of_fits f x p t)) O

module _ (f : Format) (a b : Float) (p : T (nonneg a)) (q : T (nonneg b)) (t : T (fits f a)) (u : T (fits f b)) (h : T (le a b))
    (top : num b * 2 < 2 ^ suc (emax f) * den b) where
  abbrev n : ℕ
  n = num a * den b + num b * den a

  abbrev d : ℕ
  d = den a * den b

  D : 0 < d
  D = mul-pos (den_pos a) (den_pos b)

  cross : num a * den b ≤ num b * den a
  cross = cross_of_le a b p q h

  top_a : num a * 2 < 2 ^ suc (emax f) * den a
  top_a = lt_of_mul-lt-mul_right (den b) (go (num a) (den a) (num b) (den b) (2 ^ suc (emax f)) cross (mul-lt-mul_of_pos_right top (den_pos a)))
    where
      go : (n d m e w : ℕ) → n * e ≤ m * d → m * 2 * d < w * e * d → n * 2 * e < w * d * e
      go n d m e w h k = omega arith

  abbrev s : Float
  s = round f false n d

  s_finite : T (nonneg s)
  s_finite = round_finite f n d (num b * 2) (den b) (round f false (num b * 2) (den b)) D (den_pos b) (round-fits f false (num b * 2) (den b))
      (double f b q u top) (go (num a) (den a) (num b) (den b) cross)
    where
      go : (n d m e : ℕ) → n * e ≤ m * d → (n * e + m * d) * e ≤ m * 2 * (d * e)
      go n d m e h = omega (arith, mul-le-mul_right e h)

  -- 2 * a ≤ s ≤ 2 * b
  s_from : num a * 2 * den s ≤ num s * den a
  s_from =
      fractions_of_le (round f false (num a * 2) (den a)) s (num a * 2) (den a) (num s) (den s) (double f a p t top_a) (value_of s s_finite)
      (round_from f n d (num a * 2) (den a) (round f false (num a * 2) (den a)) D (den_pos a) (round-fits f false (num a * 2) (den a))
      (double f a p t top_a) (go (num a) (den a) (num b) (den b) cross))
    where
      go : (n d m e : ℕ) → n * e ≤ m * d → n * 2 * (d * e) ≤ (n * e + m * d) * d
      go n d m e h = omega (arith, mul-le-mul_right d h)

  s_to : num s * den b ≤ num b * 2 * den s
  s_to =
      fractions_of_le s (round f false (num b * 2) (den b)) (num s) (den s) (num b * 2) (den b) (value_of s s_finite) (double f b q u top)
      (round_to f n d (num b * 2) (den b) (round f false (num b * 2) (den b)) D (den_pos b) (round-fits f false (num b * 2) (den b))
      (double f b q u top) (go (num a) (den a) (num b) (den b) cross))
    where
      go : (n d m e : ℕ) → n * e ≤ m * d → (n * e + m * d) * e ≤ m * 2 * (d * e)
      go n d m e h = omega (arith, mul-le-mul_right e h)

  half : Between a (div f s two) b
  half =
      let c = 2 * den s in
      let C : 0 < c = mul-pos (zero-lt-suc 1) (den_pos s) in
      let e : div f s two ≡ round f false (num s * 1) c =
      div_at f s two (num s) (den s) 2 1 (den_pos s) (zero-lt-suc 0) (value_of s s_finite) (refl, refl) tt in
      let l : num s * 1 * den b ≤ num b * c = up (num s) (den s) (num b) (den b) s_to in
      subst (λ (z : Float). Between a z b) (sym e) (record {
        finite = round_finite f (num s * 1) c (num b) (den b) b C (den_pos b) u (value_of b q) l;
        from = round_from f (num s * 1) c (num a) (den a) a C (den_pos a) t (value_of a p) (down (num s) (den s) (num a) (den a) s_from);
        to = round_to f (num s * 1) c (num b) (den b) b C (den_pos b) u (value_of b q) l;
      })
    where
      up : (n d m e : ℕ) → n * e ≤ m * 2 * d → n * 1 * e ≤ m * (2 * d)
      up n d m e h = omega arith

      down : (n d m e : ℕ) → m * 2 * d ≤ n * e → m * (2 * d) ≤ n * 1 * e
      down n d m e h = omega arith

  pub midpoint_range : Between a (div f (add f a b) two) b
  midpoint_range = subst (λ (z : Float). Between a (div f z two) b) (sym (add_is f a b p q)) half
