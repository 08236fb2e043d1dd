-- An estimate from its parts: p_local and its rounds are the solution's, and -1.0 and 0 where there is none, and the entropy is that of the largest of the
-- three probabilities, which no refusal answers. Assumes nothing.
use mathlib.Core.Path.{◌≡◌, refl}
use mathlib.Core.Bool.{Bool, true, false, cond}
use Prim.Native.Nat.{ℕ}
use native.Mathlib.Omega.{arith}
use lib.Ieee.{Float}
use Rattle.std.specs.Option.{unwrap_or}
use Rattle.std.specs.Prelude.{Option, Some, None}
use Rattle.answer.specs.Numbers.{done}
use Rattle.answer.specs.Refused.{minus_one}
use Rattle.answer.specs.Results.{number_of}
use Rattle.answer.specs.declared.Refusal.{Refusal}
use Rattle.answer.specs.declared.Refusal.TheVariants.{TooLong, TooShort, TooWide, Impossible, OutOfRange, NotRun, BadWidth, BadFrame, BadAnswer, BadState}
use Rattle.answer.specs.declared.Solution.{Solution}
use Rattle.bisect.specs.Bisection.{local_rounds, local_value}
use Rattle.counts.specs.Doubles.{larger}
use Rattle.prediction.specs.Estimate.{can_raise, floor_from, largest, p_global, p_local, prime_of, rounds_for}

-- ---- p_local

abbrev pub solution : ℕ → Float → Solution
solution rounds value = record { rounds = rounds; value = value }

pub solution_is : {i j : ℕ} {p q : Float} → i ≡ j → p ≡ q → Some (solution i p) ≡ Some (solution j q)
solution_is e f = cc

-- s is what was found, or what stands for none
module _ (floor : Float) {run n run' n' : ℕ} (a : run' ≡ run) (b : n' ≡ n) {o : Option Solution}
    (e : o ≡ cond (can_raise floor run' n') (Some (solution (local_rounds floor run' n') (local_value floor run' n'))) None) {s : Solution}
    (u : s ≡ unwrap_or o (solution 0 minus_one)) where
  abbrev found : Bool → Solution
  found b = unwrap_or (cond b (Some (solution (local_rounds floor run n) (local_value floor run n))) None) (solution 0 minus_one)

  pub rounds_are : s.rounds ≡ rounds_for floor run n
  unfolding rounds_for
  rounds_are = rw (u, e, a, b) (go (can_raise floor run n))
    where
      go : (b : Bool) → (found b).rounds ≡ cond b (local_rounds floor run n) 0
      go true = refl
      go false = refl

  pub local_is : s.value ≡ p_local floor run n
  unfolding p_local
  local_is = rw (u, e, a, b) (go (can_raise floor run n))
    where
      go : (b : Bool) → (found b).value ≡ cond b (local_value floor run n) minus_one
      go true = refl
      go false = refl

-- ---- the largest of the three

pub largest_is : (c n run k : ℕ) {g prime floor local x : Float} → g ≡ p_global c n → prime ≡ prime_of g n → floor ≡ floor_from prime k
    → local ≡ p_local floor run n → x ≡ larger floor local → x ≡ largest c n run k
unfolding largest
largest_is c n run k a b d e f = rw (f, e, d, b, a)
