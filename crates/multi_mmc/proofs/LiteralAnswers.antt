-- What the literal track answers and leaves in lent memory, by the number it is refused with. Assumes nothing.
use mathlib.Core.Path.{◌≡◌, refl, ap, sym, ◌∙◌}
use mathlib.Core.Bool.{Bool, true, false, cond, ◌||◌}
use native.Mathlib.Omega.{arith}
use Rattle.std.specs.Prelude.{Result, Ok, Err, IsErr, IsErrAnd}
use Rattle.answer.specs.Results.{number_of, place_of, rated_answer, refused_by}
use Rattle.answer.specs.declared.Rated.{Rated}
use Rattle.answer.specs.declared.Refusal.{Refusal}
use Rattle.answer.proofs.Results.{is_refusal, placeless}
use Rattle.capture.proofs.Refusals.{symbols_not_wide}
use mathlib.Core.List.{List}
use mathlib.Mathlib.Data.Bool.Basic.{or-eq-false-eq-eq-false-and-eq-false as neither}
use Prim.Native.Nat.{ℕ, ◌≤◌, ◌<◌}
use borrow.Author.Tests.{eq-eqb, ne_eqb, le-leb, lt-leb, ltb-false}
use lib.Dec.{eqb, ltb}
use lib.ListN.{length}
use Rattle.answer.proofs.Order.{passed}
use Rattle.answer.specs.Numbers.{done, too_long, too_short, too_wide, not_run}
use Rattle.answer.specs.Refused.{refused}
use Rattle.answer.specs.declared.Answer.{Answer}
use Rattle.alphabet.specs.Alphabet.{alphabet_of, distinct, output_of, sorted, written}
use Rattle.alphabet.specs.declared.Alphabet.{Alphabet}
use Rattle.multi_mmc.proofs.Translated.{Translation}
use Rattle.capture.specs.Refusals.{symbols_refusal}
use Rattle.capture.specs.Limit.{over_limit, symbol_limit}
use Rattle.mmc_bits.specs.Levels.{levels, cap}
use Rattle.mmc_bits.specs.Space as BitSpace
use Rattle.mmc_store.specs.Space as StoreSpace
use Rattle.multi_mmc.specs.Tracks.{
  bits_estimate,
  least_samples,
  literal_estimate,
  literal_number,
  mmc_literal,
  mmc_literal_output,
  mmc_literal_space,
  needed,
  store_estimate,
}

-- what is known of a capture that is not refused
pub record Taken (s out space : List ℕ) : Type 0 where
  pub fits : length s ≤ symbol_limit
  pub many : least_samples ≤ length s
  pub room : length s ≤ length out
  pub work : needed s ≤ length space

pub two_needed : (s : List ℕ) → distinct s ≤ 2 → needed s ≡ BitSpace.size levels
unfolding needed
two_needed s l = rw (le-leb (distinct s) 2 l)

pub many_needed : (s : List ℕ) → 2 < distinct s → needed s ≡ StoreSpace.size levels
unfolding needed
many_needed s l = rw (lt-leb (distinct s) 2 l)

module _ (s out space : List ℕ) {n : ℕ} (e : n ≡ literal_number s out space) where
  pub literal_taken : n ≡ 0 → Taken s out space
  unfolding literal_number
  literal_taken z =
      let one = passed (over_limit s) too_long _ tt (sym e ∙ z) in
      let six = passed (ltb (length s) least_samples) not_run _ tt one.1 in
      let two = passed (ltb (length out) (length s) || ltb (length space) (needed s)) too_short _ tt six.1 in
      let lent = (neither (ltb (length out) (length s)) _).0 two.0 in
      record {
        fits = ltb-false symbol_limit (length s) one.0;
        many = ltb-false (length s) least_samples six.0;
        room = ltb-false (length out) (length s) lent.0;
        work = ltb-false (length space) (needed s) lent.1;
      }

  -- the translator takes it too
  pub translated : n ≡ 0 → {a : Alphabet} {out₁ : List ℕ} → a ≡ alphabet_of s out → out₁ ≡ output_of sorted s out → Translation s out a out₁
  translated z answers leaves =
      let ran = literal_taken z in
      record {
        fits = ran.fits;
        room = ran.room;
        answers = answers;
        leaves = leaves;
      }

  number_not_wide : literal_number s out space ≡ too_wide → ⊥
  unfolding literal_number
  number_not_wide h = symbols_not_wide s least_samples (ltb (length out) (length s) || ltb (length space) (needed s)) h

  abbrev Answered : Answer → List ℕ → List ℕ → Type 0
  Answered r out' space' = (r ≡ mmc_literal s out space) × (out' ≡ mmc_literal_output s out space) × (space' ≡ mmc_literal_space s out space)

  pub literal_refused : (x : Refusal) → number_of x ≡ n → Answered (refused_by x) out space
  unfolding mmc_literal mmc_literal_output mmc_literal_space
  literal_refused x q =
      let f : eqb (literal_number s out space) done ≡ false = ne_eqb (literal_number s out space) 0 (λ z. is_refusal x (q ∙ e ∙ z)) in
      let p : place_of x ≡ 0 = placeless x (λ w. number_not_wide (sym (q ∙ e) ∙ w)) in
      (rw f (rw p refl ∙ ap refused (q ∙ e)), rw f refl, rw f refl)

  module _ (z : n ≡ 0) where
    ran : eqb (literal_number s out space) done ≡ true
    ran = eq-eqb (literal_number s out space) 0 (sym e ∙ z)

    module _ {r : Answer} {out' space' : List ℕ} (o : out' ≡ written (sorted s) out) where
      pub two_ran : distinct s ≤ 2 → r ≡ bits_estimate (sorted s) → space' ≡ BitSpace.final levels cap (sorted s) space → Answered r out' space'
      unfolding mmc_literal mmc_literal_output mmc_literal_space literal_estimate
      two_ran l p q = (rw (ran, le-leb (distinct s) 2 l) p, rw ran o, rw (ran, le-leb (distinct s) 2 l) q)

      pub many_ran : 2 < distinct s → r ≡ store_estimate (sorted s) (distinct s) → space' ≡ StoreSpace.final levels space → Answered r out' space'
      unfolding mmc_literal mmc_literal_output mmc_literal_space literal_estimate
      many_ran l p q = (rw (ran, lt-leb (distinct s) 2 l) p, rw ran o, rw (ran, lt-leb (distinct s) 2 l) q)

-- what `accept_symbols` says of a capture that it takes
pub accepted : (s out space : List ℕ) (short : Bool) → symbols_refusal s least_samples short ≡ literal_number s out space
    → done ≡ symbols_refusal s least_samples short → 0 ≡ literal_number s out space
accepted s out space short e z = z ∙ e
