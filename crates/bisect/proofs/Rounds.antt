-- How the bisection goes on from round to round. Assumes nothing.
use mathlib.Core.Path.{◌≡◌, ap, sym, ◌∙◌}
use Prim.Native.Nat.{ℕ, suc, ◌+◌, ◌-◌, ◌≤◌, ◌<◌}
use native.Mathlib.Omega.{arith}
use lib.Ieee.{Float}
use Rattle.answer.specs.Numbers.{done}
use Rattle.answer.specs.declared.Solved.{Solved}
use Rattle.bisect.specs.Bisection.{Turn, local_rounds, local_value, opening, round_limit, turned, solution, rounds_begun, value_of, rounds_of}
use Rattle.bisect.specs.declared.bracket.Bracket.{Bracket}
use Rattle.std.specs.declared.ops.ControlFlow.TheVariants.{Break, Continue}

abbrev answered : ℕ → Float → Solved
answered rounds value = record { number = done; rounds = rounds; value = value }

same_answer : {i j : ℕ} {p q : Float} → i ≡ j → p ≡ q → answered i p ≡ answered j q
same_answer e f = cc

-- i of m rounds are past, and they left the bracket b
pub record Underway (m i : ℕ) (b : Bracket) (ldomain : Float) (run n : ℕ) (value : Float) (rounds : ℕ) : Type 0 where
  pub to_value : solution (m - i) b ldomain run n ≡ value
  pub to_rounds : i + rounds_begun (m - i) b ldomain run n ≡ rounds

module _ (m i : ℕ) {b : Bracket} {ldomain : Float} {run n : ℕ} {value : Float} {rounds : ℕ}
    (u : Underway m i b ldomain run n value rounds) where
  one_less : i < m → m - i ≡ suc (m - (i + 1))
  one_less h = omega arith

  -- the value and the rounds by what the next round comes to
  value_by : i < m → {t : Turn} → turned b ldomain run n ≡ t → value_of t (λ next. solution (m - (i + 1)) next ldomain run n) ≡ value
  unfolding solution
  value_by h {t} e =
      ap (λ (z : Turn). value_of z (λ next. solution (m - (i + 1)) next ldomain run n)) (sym e)
      ∙ sym (ap (λ (k : ℕ). solution k b ldomain run n) (one_less h)) ∙ u.to_value

  rounds_by : i < m → {t : Turn} → turned b ldomain run n ≡ t → i + rounds_of t (λ next. rounds_begun (m - (i + 1)) next ldomain run n) ≡ rounds
  unfolding rounds_begun
  rounds_by h {t} e =
      ap (λ (z : Turn). i + rounds_of z (λ next. rounds_begun (m - (i + 1)) next ldomain run n)) (sym e)
      ∙ sym (ap (λ (k : ℕ). i + rounds_begun k b ldomain run n) (one_less h)) ∙ u.to_rounds

  -- the round that stops gives the solution
  pub stopped : i < m → {p : Float} → turned b ldomain run n ≡ Break p → answered (i + 1) p ≡ answered rounds value
  stopped h e = same_answer (rounds_by h e) (value_by h e)

  pub goes_on : i < m → {next : Bracket} → turned b ldomain run n ≡ Continue next → Underway m (i + 1) next ldomain run n value rounds
  goes_on h {next} e =
      record { to_value = value_by h e; to_rounds = omega (arith, rounds_by h e) }

  all_past : m ≤ i → m - i ≡ 0
  all_past h = omega arith

  -- no round is left
  spent_value : m ≤ i → b.p ≡ value
  unfolding solution
  spent_value h = sym (ap (λ (k : ℕ). solution k b ldomain run n) (all_past h)) ∙ u.to_value

  spent_rounds : m ≤ i → i ≤ m → m ≡ rounds
  unfolding rounds_begun
  spent_rounds h k = omega (arith, ap (λ (k : ℕ). i + rounds_begun k b ldomain run n) (all_past h), u.to_rounds)

  pub spent : m ≤ i → i ≤ m → answered m b.p ≡ answered rounds value
  spent h k = same_answer (spent_rounds h k) (spent_value h)

-- no round is past
pub begun : {b : Bracket} {ldomain : Float} {run n : ℕ} → b ≡ opening ldomain run n
    → Underway round_limit 0 b ldomain run n (local_value ldomain run n) (local_rounds ldomain run n)
unfolding local_value local_rounds
begun {b} {ldomain} {run} {n} e =
    record {
      to_value = ap (λ (z : Bracket). solution round_limit z ldomain run n) e;
      to_rounds = omega (arith, ap (λ (z : Bracket). rounds_begun round_limit z ldomain run n) e);
    }
