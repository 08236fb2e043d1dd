-- The solution of the bisection is a double from ldomain to 1: every bound and every p on the way is. Assumes nothing.
use mathlib.Core.Path.{◌≡◌, refl}
use mathlib.Core.Bool.{Bool, true, false, not, ◌||◌, cond}
use Prim.Native.Nat.{ℕ, zero, suc, ◌*◌, ◌^◌, ◌≤◌, ◌<◌}
use native.Mathlib.Nat.{le_of_lt, mul-lt-mul_of_pos_right}
use native.Mathlib.Omega.{arith}
use lib.Dec.{T, lit<}
use lib.Ieee.{Float, binary64, emax, fits, lt, le, eq, add, div}
use lib.Ieee.Fits.{div-fits}
use lib.Ieee.Positive.{num, den, den_pos}
use Rattle.rounding.proofs.Compare.{le_false}
use Rattle.rounding.proofs.Order.{le_chain}
use Rattle.rounding.proofs.FromZero.{nonneg, cross_of_le, le_self, le_of_cross}
use Rattle.rounding.proofs.Midpoint.{midpoint_range}
use Rattle.rounding.proofs.Ranges.{Between}
use Rattle.bisect.specs.Bisection.{
  Turn,
  advanced,
  checked,
  halved,
  local_value,
  log_alpha,
  midpoint,
  narrowed,
  opening,
  reached,
  round_limit,
  solution,
  turned,
  value_of,
}
use Rattle.rounding.specs.Doubles.{one, two}
use Rattle.counts.specs.Doubles.{larger, at_most_one, in_closed, in_open}
use Rattle.bisect.specs.declared.bracket.Bracket.{Bracket}
use Rattle.std.specs.declared.ops.ControlFlow.TheVariants.{Break, Continue}

-- x is a double from lo to 1
pub record Inside (lo x : Float) : Type 0 where
  pub double : T (fits binary64 x)
  pub range : Between lo x one

module _ (P : Float → Type 0) where
  pick_one : (b : Bool) (x y : Float) → P x → P y → P (cond b x y)
  pick_one true x y p q = p
  pick_one false x y p q = q

-- what lies from a to b lies from lo to 1 where a and b do
within : (lo a x b : Float) → Inside lo a → Inside lo b → Between a x b → T (fits binary64 x) → Inside lo x
within lo a x b p q r d =
    record {
      double = d;
      range =
          record {
            finite = r.finite;
            from = le_chain lo a x p.range.from r.from;
            to = le_chain x b one r.to q.range.to;
          };
    }

-- a number up to 1 can be doubled
room : (b : Float) → T (nonneg b) → T (le b one) → num b * 2 < 2 ^ suc (emax binary64) * den b
room b n h = go (num b) (den b) (2 ^ suc (emax binary64)) (lit< tt) (den_pos b) (cross_of_le b one n tt h)
  where
    go : (n d k : ℕ) → 2 < k → 0 < d → n * 1 ≤ 1 * d → n * 2 < k * d
    go n d k h p l = omega (arith, mul-lt-mul_of_pos_right h p)

pub midpoint_inside : (lo a b : Float) → Inside lo a → Inside lo b → T (le a b) → Inside lo (midpoint a b)
unfolding midpoint
midpoint_inside lo a b p q l =
    within lo a (div binary64 (add binary64 a b) two) b p q
    (midpoint_range binary64 a b p.range.finite q.range.finite p.double q.double l (room b q.range.finite q.range.to))
    (div-fits binary64 (add binary64 a b) two)

-- the bounds and p
pub record Bracketed (lo : Float) (b : Bracket) : Type 0 where
  pub low : Inside lo b.lbound
  pub high : Inside lo b.hbound
  pub mid : Inside lo b.p

data Turned (lo : Float) : Turn → Type 0 where
  stops : {p : Float} → Inside lo p → Turned lo (Break p)
  goes : {b : Bracket} → Bracketed lo b → Turned lo (Continue b)

-- three checks in a row, which stop at p, q and r, or go on
module _ (lo p q r : Float) (on : Turn) (i : Inside lo p) (j : Inside lo q) (k : Inside lo r) where
  by_checks : (a b c : Bool) → (a ≡ false → Turned lo on) → Turned lo (cond a (Break p) (cond b (Break q) (cond c (Break r) on)))
  by_checks true b c h = stops i
  by_checks false true c h = stops j
  by_checks false false true h = stops k
  by_checks false false false h = h refl

module _ (lo : Float) (n : T (nonneg lo)) (top : T (le lo one)) where
  one_inside : Inside lo one
  unfolding fits
  one_inside = record { double = tt; range = record { finite = tt; from = top; to = le_self one tt } }

  narrowed_inside : (b : Bracket) → Bracketed lo b → Bracketed lo (narrowed b)
  unfolding narrowed
  narrowed_inside b h = go (lt log_alpha b.p_val)
    where
      go : (t : Bool)
          → Bracketed lo
          (cond t
          (record { lbound = b.p; hbound = b.hbound; lvalue = b.p_val; hvalue = b.hvalue; p = b.p; p_val = b.p_val })
          (record { lbound = b.lbound; hbound = b.p; lvalue = b.lvalue; hvalue = b.p_val; p = b.p; p_val = b.p_val }))
      go true = record { low = h.mid; high = h.high; mid = h.mid }
      go false = record { low = h.low; high = h.mid; mid = h.mid }

  advanced_inside : (b next : Bracket) → Bracketed lo b → Bracketed lo next → Turned lo (advanced b next)
  unfolding advanced
  advanced_inside b next h g =
      by_checks lo b.hbound b.hbound b.hbound (Continue next) h.high h.high h.high
      (not (in_open next.p b.lbound b.hbound))
      (eq b.p next.p)
      (not (in_closed next.p_val b.lvalue b.hvalue))
      (λ e. goes g)

  halved_inside : (b : Bracket) (run k : ℕ) → Bracketed lo b → T (le b.lbound b.hbound) → Bracketed lo (halved b run k)
  unfolding halved
  halved_inside b run k h l = record { low = h.low; high = h.high; mid = midpoint_inside lo b.lbound b.hbound h.low h.high l }

  capped : (x : Float) → Inside lo x → Inside lo (at_most_one x)
  capped x h = pick_one (Inside lo) (lt x one) x one h one_inside

  ordered : (x y : Float) → Inside lo x → Inside lo y → le y x ≡ false → T (le x y)
  ordered x y p q e =
      le_of_cross x y p.range.finite q.range.finite (le_of_lt (le_false y x q.range.finite p.range.finite e))

  checked_inside : (b : Bracket) (run k : ℕ) → Bracketed lo b → Turned lo (checked b lo run k)
  unfolding checked
  checked_inside b run k h =
      by_checks lo (at_most_one (larger b.lbound b.hbound)) one one (advanced b (halved b run k))
      (capped (larger b.lbound b.hbound) (pick_one (Inside lo) (lt b.lbound b.hbound) b.hbound b.lbound h.high h.low))
      one_inside
      one_inside
      (le b.hbound b.lbound)
      (not (in_closed b.lbound lo one) || not (in_closed b.hbound lo one))
      (not (in_closed log_alpha b.lvalue b.hvalue))
      (λ e. advanced_inside b (halved b run k) h (halved_inside b run k h (ordered b.lbound b.hbound h.low h.high e)))

  by_reached : (a : Bool) (p : Float) (on : Turn) → Inside lo p → Turned lo on → Turned lo (cond a (Break p) on)
  by_reached true p on h g = stops h
  by_reached false p on h g = g

  turned_inside : (b : Bracket) (run k : ℕ) → Bracketed lo b → Turned lo (turned b lo run k)
  unfolding turned
  turned_inside b run k h =
      by_reached (reached b.p_val) b.p (checked (narrowed b) lo run k) h.mid (checked_inside (narrowed b) run k (narrowed_inside b h))

  by_turn : (t : Turn) (f : Bracket → Float) → Turned lo t → ((b : Bracket) → Bracketed lo b → Inside lo (f b)) → Inside lo (value_of t f)
  by_turn (Break p) f (stops h) g = h
  by_turn (Continue b) f (goes h) g = g b h

  solution_inside : (m : ℕ) (b : Bracket) (run k : ℕ) → Bracketed lo b → Inside lo (solution m b lo run k)
  unfolding solution
  solution_inside zero b run k h = h.mid
  solution_inside (suc m) b run k h =
      by_turn (turned b lo run k) (λ next. solution m next lo run k) (turned_inside b run k h) (λ next g. solution_inside m next run k g)

  opening_inside : (run k : ℕ) → T (fits binary64 lo) → Bracketed lo (opening lo run k)
  unfolding opening
  opening_inside run k d =
      let l : Inside lo lo = record { double = d; range = record { finite = n; from = le_self lo n; to = top } } in
      record { low = l; high = one_inside; mid = midpoint_inside lo lo one l one_inside top }

  -- "the solution lies in [ldomain, 1] and is a number"
  pub local_inside : (run k : ℕ) → T (fits binary64 lo) → Inside lo (local_value lo run k)
  unfolding local_value
  local_inside run k d = solution_inside round_limit (opening lo run k) run k (opening_inside run k d)
