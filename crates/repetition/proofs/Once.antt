-- A sample has one outcome: whether a start and samples could have left a state is decided by its fields, and either way the answer and the state afterwards are
-- said. Two outcomes that the contract of a sample allows are therefore the same. Assumes nothing.
use mathlib.Core.Path.{◌≡◌, refl, sym, ap, ◌∙◌}
use mathlib.Core.Logic.{◌⊎◌, inl, inr}
use mathlib.Core.Bool.{Bool, true, false}
use Prim.Native.Nat.{ℕ}
use native.Mathlib.Omega.{arith}
use lib.Dec.{eqb, leb, ltb}
use borrow.Author.Tests.{eqb-false, eqb-true, leb-false, leb-true, ltb-false, ltb-true}
use Rattle.cutoff.specs.Cutoff.{Entry}
use Rattle.cutoff.proofs.Entries.{entry_or_not}
use Rattle.repetition.specs.declared.step.RepetitionTest.{RepetitionTest}
use Rattle.repetition.specs.declared.step.Alarm.{Alarm}
use Rattle.repetition.specs.History.{History, Possible, left, never, since}
use Rattle.repetition.specs.Inner.Started.{Started}
use Rattle.repetition.specs.Repetition.{Sampled}
use Rattle.repetition.proofs.Histories.{Fields, fields_of_lem, started_of}

module _ (st : RepetitionTest) where
  fields_or_not : Entry st.cutoff → Fields st ⊎ (Fields st → ⊥)
  fields_or_not e = by (leb st.count st.cutoff) refl (ltb st.last_sample 256) refl (eqb st.count 0) refl (eqb st.last_sample 0) refl
    where
      by : (a : Bool) → leb st.count st.cutoff ≡ a → (b : Bool) → ltb st.last_sample 256 ≡ b → (c : Bool) → eqb st.count 0 ≡ c
          → (d : Bool) → eqb st.last_sample 0 ≡ d → Fields st ⊎ (Fields st → ⊥)
      by false u b v c w d x = inr (λ f. omega (arith, leb-false st.count st.cutoff u, f.within))
      by true u false v c w d x = inr (λ f. omega (arith, ltb-false st.last_sample 256 v, f.byte))
      by true u true v true w false x = inr (λ f. eqb-false st.last_sample 0 x (f.blank (eqb-true st.count 0 w)))
      by true u true v true w true x =
          inl (record { entry = e; within = leb-true st.count st.cutoff u; byte = ltb-true st.last_sample 256 v; blank = λ _. eqb-true st.last_sample 0 x })
      by true u true v false w d x =
          inl (record { entry = e; within = leb-true st.count st.cutoff u; byte = ltb-true st.last_sample 256 v; blank = λ z. absurd (eqb-false st.count 0 w z) })

  pub started_or_not : Started st ⊎ (Started st → ⊥)
  started_or_not = by (entry_or_not st.cutoff)
    where
      told : Fields st ⊎ (Fields st → ⊥) → Started st ⊎ (Started st → ⊥)
      told (inl f) = inl (started_of st f)
      told (inr k) = inr (λ h. k (fields_of_lem st h))

      by : Entry st.cutoff ⊎ (Entry st.cutoff → ⊥) → Started st ⊎ (Started st → ⊥)
      by (inl e) = told (fields_or_not e)
      by (inr k) = inr (λ h. k (fields_of_lem st h).entry)

  -- and so whether it was never started
  never_or_not : (st ≡ left never) ⊎ (st ≡ left never → ⊥)
  never_or_not = by (eqb st.cutoff 0) refl (eqb st.last_sample 0) refl (eqb st.count 0) refl
    where
      by : (a : Bool) → eqb st.cutoff 0 ≡ a → (b : Bool) → eqb st.last_sample 0 ≡ b → (c : Bool) → eqb st.count 0 ≡ c
          → (st ≡ left never) ⊎ (st ≡ left never → ⊥)
      by false u b v c w = inr (λ e. eqb-false st.cutoff 0 u (ap (λ (t : RepetitionTest). t.cutoff) e))
      by true u false v c w = inr (λ e. eqb-false st.last_sample 0 v (ap (λ (t : RepetitionTest). t.last_sample) e))
      by true u true v false w = inr (λ e. eqb-false st.count 0 w (ap (λ (t : RepetitionTest). t.count) e))
      by true u true v true w =
          inl (λ i. record { cutoff = eqb-true st.cutoff 0 u i; last_sample = eqb-true st.last_sample 0 v i; count = eqb-true st.count 0 w i })

  no_history : (Started st → ⊥) → (st ≡ left never → ⊥) → (p : History) → Possible p → st ≡ left p → ⊥
  no_history k n never q e = n e
  no_history k n (since h s) q e = k (record { entropy = h; samples = s; possible = q; is = e })

  pub sampled_once : (x : ℕ) (r r' : Alarm) (a a' : RepetitionTest) → Sampled st x r a → Sampled st x r' a' → (r ≡ r') × (a ≡ a')
  sampled_once x r r' a a' s s' = by started_or_not never_or_not
    where
      left_by : (p : History) → Possible p → st ≡ left p → (r ≡ r') × (a ≡ a')
      left_by p q e = ((s.known p q e).0 ∙ sym (s'.known p q e).0, (s.known p q e).1 ∙ sym (s'.known p q e).1)

      by : Started st ⊎ (Started st → ⊥) → (st ≡ left never) ⊎ (st ≡ left never → ⊥) → (r ≡ r') × (a ≡ a')
      by (inl h) n = left_by (since h.entropy h.samples) h.possible h.is
      by (inr k) (inl e) = left_by never tt e
      by (inr k) (inr n) =
          let none = no_history k n in
          ((s.foreign none).0 ∙ sym (s'.foreign none).0, (s.foreign none).1 ∙ sym (s'.foreign none).1)
