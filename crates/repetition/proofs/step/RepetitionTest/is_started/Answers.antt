-- `RepetitionTest::is_started` meets its contract. Its tests say of the fields what Histories says of a state that a start and samples could have left. Assumes nothing.
use borrow.Author.Tests.{eq-eqb, eqb-true, le-leb, leb-true}
use mathlib.Core.Path.{◌≡◌, sym, ◌∙◌}
use mathlib.Core.Bool.{Bool, true, false, true≢false}
use Prim.Native.Nat.{◌≤◌}
use native.Mathlib.Omega.{arith}
use lib.Dec.{eqb, leb}
use Rattle.cutoff.specs.Cutoff.{Entry}
use Rattle.repetition.specs.declared.step.RepetitionTest.{RepetitionTest}
use Rattle.repetition.specs.Inner.Started.{Started}
use Rattle.repetition.proofs.Histories.{Fields, fields_of_lem, started_of}
use Rattle.repetition.proofs.step.RepetitionTest.is_started.Goals as goal

abbrev Says : RepetitionTest → Bool → Type 0
Says st b = (b ≡ true → Started st) × (Started st → b ≡ true)

-- ---- the answers, by what the tests have shown
no : (st : RepetitionTest) → (Fields st → ⊥) → Says st false
no st k = (λ e. absurd (true≢false (sym e)), λ h. absurd (k (fields_of_lem st h)))

blank : (st : RepetitionTest) → Entry st.cutoff → st.count ≤ st.cutoff → st.count ≡ 0 → Says st (eqb st.last_sample 0)
blank st e w z = (
  λ t. let l = eqb-true st.last_sample 0 t in started_of st (record { entry = e; within = w; byte = omega (arith, l); blank = λ _. l }),
  λ h. eq-eqb st.last_sample 0 ((fields_of_lem st h).blank z),
)

counting : (st : RepetitionTest) → Entry st.cutoff → st.count ≤ st.cutoff → (st.count ≡ 0 → ⊥) → Says st (leb st.last_sample 255)
counting st e w k = (
  λ t. started_of st (record { entry = e; within = w; byte = omega (arith, leb-true st.last_sample 255 t); blank = λ z. absurd (k z) }),
  λ h. le-leb st.last_sample 255 (omega (arith, (fields_of_lem st h).byte)),
)

pub returns-then-not-is_cutoff : goal.returns-then-not-is_cutoff
returns-then-not-is_cutoff c = no c.args.self (λ f. true≢false (sym (c.is_cutoff.ensures.1 f.entry) ∙ c.if-not-is_cutoff.true))

pub returns-then-self-eq0 : goal.returns-then-self-eq0
returns-then-self-eq0 c = blank c.args.self (c.is_cutoff.ensures.0 c.if-not-is_cutoff.false) (omega arith) c.if-self-eq0.true

pub returns : goal.returns
returns c = counting c.args.self (c.is_cutoff.ensures.0 c.if-not-is_cutoff.false) (omega arith) c.if-self-eq0.false
