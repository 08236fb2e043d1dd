-- Values that are no NaN: what lies between finite values is finite, what is rounded is a number, and so a product of finite values is one. Assumes nothing.
use mathlib.Core.Path.{sym, subst}
use Prim.Native.Nat.{ℕ, suc, ◌*◌, ◌^◌}
use mathlib.Core.Bool.{Bool, true, false, not, cond}
use lib.Dec.{T, ltb}
use lib.Ieee.{Float, nan, inf, fin, Format, prec, low, odd, units, round, mul, is_nan, le}
use lib.Ieee.Exact.{HasValue, odd_sign}
use lib.Ieee.Fits.{round_is}
use lib.Ieee.Order.{drop, kept}
use lib.Ieee.Scale.{finite}

pub finite_between : (lo x hi : Float) → T (finite lo) → T (finite hi) → T (le lo x) → T (le x hi) → T (finite x)
unfolding le
finite_between nan x hi p q h k = absurd p
finite_between (inf s) x hi p q h k = absurd p
finite_between (fin s m e) nan hi p q h k = absurd h
finite_between (fin s m e) (inf true) hi p q h k = absurd h
finite_between (fin s m e) (inf false) nan p q h k = absurd q
finite_between (fin s m e) (inf false) (inf t) p q h k = absurd q
finite_between (fin s m e) (inf false) (fin t n d) p q h k = absurd k
finite_between (fin s m e) (fin t n d) hi p q h k = tt

pub value_no_nan : (v : Float) (s : Bool) (a c : ℕ) → HasValue v s a c → T (not (is_nan v))
unfolding is_nan
value_no_nan nan s a c h = elim h [ ]
value_no_nan (inf _) s a c h = elim h [ ]
value_no_nan (fin t m e) s a c h = tt

units_number : (f : Format) (s : Bool) (q k : ℕ) → T (not (is_nan (units f s q k)))
unfolding units is_nan
units_number f s q k =
    let x = odd (suc (prec f)) s q k (low f) in
    pick (ltb (q * 2 ^ k) _) x (value_no_nan x s (q * 2 ^ k) (2 ^ low f) (odd_sign (suc (prec f)) s q k (low f)))
  where
    pick : (b : Bool) (x : Float) → T (not (is_nan x)) → T (not (is_nan (cond b x (inf s))))
    pick true x n = n
    pick false x n = tt

pub round_number : (f : Format) (s : Bool) (a c : ℕ) → T (not (is_nan (round f s a c)))
round_number f s a c =
    subst (λ (z : Float). T (not (is_nan z))) (sym (round_is f s a c)) (units_number f s (kept (prec f) (a * 2 ^ low f) c) (drop (prec f) (a * 2 ^ low f) c))

pub mul_number : (f : Format) (x y : Float) → T (finite x) → T (finite y) → T (not (is_nan (mul f x y)))
unfolding mul
mul_number f nan y p q = absurd p
mul_number f (inf s) y p q = absurd p
mul_number f (fin s m e) nan p q = absurd q
mul_number f (fin s m e) (inf t) p q = absurd q
mul_number f (fin s m e) (fin t n d) p q = round_number f _ _ _
