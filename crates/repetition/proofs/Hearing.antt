-- A sample that a started test hears: the count that the fields give is the run's, as far as the cutoff, so it has reached the cutoff where the run has. What a
-- sample leaves is then what the history with that sample leaves, whichever history left the state. Assumes nothing.
use mathlib.Core.Path.{◌≡◌, refl, sym, ap, ◌∙◌, subst}
use mathlib.Core.Bool.{Bool, true, false, cond}
use mathlib.Core.List.{List, [], ◌∷◌, ◌++◌}
use Prim.Native.Nat.{ℕ, suc, ◌+◌, ◌<◌, min}
use native.Mathlib.Omega.{arith}
use lib.Dec.{eqb, leb, ltb}
use lib.Ieee.{Float}
use borrow.Author.Tests.{eq-eqb, leb-false, leb-true, ltb-false, ltb-true, ne_eqb}
use Rattle.std.specs.Prelude.{Ok}
use Rattle.answer.specs.Numbers.{bad_state, done}
use Rattle.cutoff.specs.Cutoff.{in_range}
use Rattle.repetition.specs.declared.step.RepetitionTest.{RepetitionTest}
use Rattle.repetition.specs.declared.step.Alarm.{Alarm}
use Rattle.repetition.specs.History.{History, Possible, cutoff_for, last_sample, left, never, run, since}
use Rattle.repetition.specs.Inner.Started.{Started}
use Rattle.repetition.specs.Repetition.{Sampled, after, alarm_of, answered, no_alarm}
use Rattle.repetition.specs.Inner.Counted.{counted}
use Rattle.repetition.proofs.Histories.{cutoff_pos, never_apart}
use Rattle.repetition.proofs.Runs.{last_then, run_then}

stepped : (r c : ℕ) (same less : Bool) → 0 < c → ltb (min r c) c ≡ less → min (suc (cond same r 0)) c ≡ cond same (cond less (min r c + 1) (min r c)) 1
stepped r c true true p e = omega (arith, ltb-true (min r c) c e)
stepped r c true false p e = omega (arith, ltb-false (min r c) c e)
stepped r c false less p e = omega (arith, p)

-- the count of what the history leaves
pub counted_left : (h : Float) (s : List ℕ) (x : ℕ) → 0 < cutoff_for h → counted (left (since h s)) x ≡ min (run (s ++ x ∷ [])) (cutoff_for h)
unfolding counted
counted_left h s x p =
    sym (ap (λ (n : ℕ). min n (cutoff_for h)) (run_then s x) ∙ stepped (run s) (cutoff_for h) (eqb x (last_sample s)) (ltb (min (run s) (cutoff_for h)) (cutoff_for h)) p refl)

-- the count has reached the cutoff where the run has
reached : (r c : ℕ) → eqb (min r c) c ≡ leb c r
reached r c = by (leb c r) refl
  where
    by : (b : Bool) → leb c r ≡ b → eqb (min r c) c ≡ b
    by true e = eq-eqb (min r c) c (omega (arith, leb-true c r e))
    by false e = ne_eqb (min r c) c (λ z. omega (arith, leb-false c r e, z))

-- what the fields give
abbrev pub answer_of : RepetitionTest → ℕ → Alarm
answer_of st x = record { number = done; alarm = cond (eqb (counted st x) st.cutoff) 1 0 }

abbrev pub next_of : RepetitionTest → ℕ → RepetitionTest
next_of st x = record { cutoff = st.cutoff; last_sample = x; count = counted st x }

heard : (h : Float) (s : List ℕ) (x : ℕ) → in_range h ≡ true
    → (answer_of (left (since h s)) x ≡ answered (since h (s ++ x ∷ []))) × (next_of (left (since h s)) x ≡ left (since h (s ++ x ∷ [])))
heard h s x taken =
    let count = counted_left h s x (cutoff_pos h taken) in
    let stands = ap (λ (n : ℕ). eqb n (cutoff_for h)) count ∙ reached (run (s ++ x ∷ [])) (cutoff_for h) in (
      λ i. record { number = done; alarm = cond (stands i) 1 0 },
      λ i. record { cutoff = cutoff_for h; last_sample = sym (last_then s x) i; count = count i },
    )

-- ---- the outcome of a sample, where a start and samples could have left the state and where not
module _ (st : RepetitionTest) (x : ℕ) where
  pub sampled_of : Started st → Sampled st x (answer_of st x) (next_of st x)
  sampled_of started = record { known = known; foreign = λ none. absurd (none (since started.entropy started.samples) started.possible started.is) }
    where
      known : (p : History) → Possible p → st ≡ left p → (answer_of st x ≡ answered (after p x)) × (next_of st x ≡ left (after p x))
      known never q e = absurd (never_apart started.entropy started.samples started.possible (sym e ∙ started.is))
      known (since h s) q e =
          subst (λ (t : RepetitionTest). (answer_of t x ≡ answered (since h (s ++ x ∷ []))) × (next_of t x ≡ left (since h (s ++ x ∷ [])))) (sym e) (heard h s x q.1)

  -- with the number y of the byte, and the count n
  pub sampled_by : (y n : ℕ) → Started st → y ≡ x → n ≡ counted st y
      → Sampled st x (alarm_of (Ok (eqb n st.cutoff))) (record { cutoff = st.cutoff; last_sample = y; count = n })
  sampled_by y n started e g = rw (g, e) (sampled_of started)

  pub unheard : (Started st → ⊥) → Sampled st x (no_alarm bad_state) st
  unheard none = record { known = known; foreign = λ _. (refl, refl) }
    where
      known : (p : History) → Possible p → st ≡ left p → (no_alarm bad_state ≡ answered (after p x)) × (st ≡ left (after p x))
      known never q e = (refl, e)
      known (since h s) q e = absurd (none (record { entropy = h; samples = s; possible = q; is = e }))
