-- What each track answers, by whether it is refused. Assumes nothing.
use mathlib.Core.Path.{◌≡◌, refl, ap, sym, ◌∙◌}
use mathlib.Core.Bool.{Bool, true, false, cond}
use mathlib.Core.List.{List}
use Prim.Native.Nat.{ℕ, ◌*◌, ◌-◌, ◌≤◌}
use native.Mathlib.Omega.{arith}
use lib.Dec.{eqb, ltb}
use lib.ListN.{length, take}
use borrow.Author.Tests.{eq-eqb, ne_eqb, ltb-false}
use Rattle.std.specs.Prelude.{Result, Ok, Err, IsErr, IsErrAnd}
use Rattle.answer.proofs.Order.{passed}
use Rattle.answer.proofs.Results.{is_refusal, placeless}
use Rattle.answer.specs.Numbers.{done, too_long, too_short, too_wide, not_run}
use Rattle.answer.specs.Refused.{refused_at}
use Rattle.answer.specs.Results.{number_of, place_of, rated_answer, refused_by}
use Rattle.answer.specs.declared.Rated.{Rated}
use Rattle.answer.specs.declared.Refusal.{Refusal}
use Rattle.alphabet.specs.Alphabet.{alphabet_in, alphabet_of, dense, distinct, output_of, written}
use Rattle.alphabet.proofs.Alphabets.{Bytes}
use Rattle.capture.specs.Bits.{bits_of, all_bits}
use Rattle.capture.specs.Limit.{over_limit, symbol_limit}
use Rattle.capture.specs.Refusals.{refused_on, symbols_refusal}
use Rattle.capture.proofs.Bitstring.{bits_length}
use Rattle.capture.proofs.Refusals.{symbols_not_wide, taken}
use Rattle.capture.proofs.Sources.{counted, whole}
use Rattle.race.specs.declared.Outcome.{Outcome}
use Rattle.rating.specs.Rating.{rating_of}
use Rattle.mcw_bits.specs.Mcw.{first_place, least_samples, outcome_of}
use Rattle.mcw_symbols.specs.Inner.Samples.{Samples}
use Rattle.multi_mcw.specs.Tracks.{bits_number, estimated, literal_number, mcw_bits, mcw_literal, mcw_literal_output}
use Rattle.multi_mcw.proofs.Translated.{Translation, dense_length, size_is, taken_is, translated_asks, written_is}

-- the answer over samples whose race ends in r
rating-is : (s : List ℕ) (k : ℕ) {n k' : ℕ} {r : Outcome} → r ≡ outcome_of s → n ≡ length s → k' ≡ k
    → rating_of r (n - first_place) k' ≡ estimated s k
rating-is s k e n k' = rw (e, n, k')

-- ---- the bitstring track

module _ (s : List ℕ) (w : ℕ) where
  pub bits_refused : (e : Refusal) → number_of e ≡ bits_number s w → refused_by e ≡ refused_on s (number_of e)
      → rated_answer (Err e) ≡ mcw_bits s w
  unfolding mcw_bits
  bits_refused e n p = rw (ne_eqb (bits_number s w) 0 (λ q. is_refusal e (n ∙ q))) (p ∙ ap (refused_on s) n)

  -- what is left of a source that is taken
  pub bits_many : done ≡ bits_number s w → {k : ℕ} {t : List ℕ} → k ≡ length t → t ≡ all_bits s w → least_samples ≤ k
  bits_many z e f = omega (arith, (taken s w least_samples false (sym z)).many, counted s w e f)

  pub bits_ran : done ≡ bits_number s w → {k : ℕ} {t : List ℕ} {r : Outcome} (a : Result Rated Refusal) → k ≡ length t → t ≡ all_bits s w
      → r ≡ outcome_of t → rated_answer a ≡ rating_of r (k - first_place) 2 → rated_answer a ≡ mcw_bits s w
  unfolding mcw_bits
  bits_ran z a e f g h =
      let n = length s * w in
      rw (eq-eqb (bits_number s w) 0 (sym z))
      (h ∙ rating-is (bits_of s w n) 2 (g ∙ ap outcome_of (f ∙ whole s w)) (counted s w e f ∙ sym (bits_length s w n)) refl)

-- ---- the literal track

-- what is known of a capture that is not refused
pub record Taken (s out : List ℕ) : Type 0 where
  pub fits : length s ≤ symbol_limit
  pub many : least_samples ≤ length s
  pub room : length s ≤ length out

module _ (s out : List ℕ) where
  pub literal_taken : done ≡ literal_number s out → Taken s out
  literal_taken z =
      let one = passed (over_limit s) too_long _ tt (sym z) in
      let six = passed (ltb (length s) least_samples) not_run _ tt one.1 in
      let two = passed (ltb (length out) (length s)) too_short _ tt six.1 in
      record {
        fits = ltb-false symbol_limit (length s) one.0;
        many = ltb-false (length s) least_samples six.0;
        room = ltb-false (length out) (length s) two.0;
      }

  pub literal_refused : (e : Refusal) → number_of e ≡ symbols_refusal s least_samples (ltb (length out) (length s))
      → (rated_answer (Err e) ≡ mcw_literal s out) × (out ≡ mcw_literal_output s out)
  unfolding mcw_literal mcw_literal_output
  literal_refused e n =
      let f : eqb (literal_number s out) done ≡ false = ne_eqb (literal_number s out) 0 (λ q. is_refusal e (n ∙ q)) in
      let p : place_of e ≡ 0 = placeless e (λ q. symbols_not_wide s least_samples (ltb (length out) (length s)) (sym n ∙ q)) in
      (rw (f, p, n), rw f)

  module _ (z : done ≡ literal_number s out) {size : ℕ} {out₁ : List ℕ} (a : alphabet_in (Ok size) ≡ alphabet_of s out) (o : out₁ ≡ output_of dense s out) where
    translation : Translation s out (alphabet_in (Ok size)) out₁
    translation = let t = literal_taken z in record { fits = t.fits; room = t.room; answers = a; leaves = o }

    pub literal_asks : Bytes s → (length (take (length s) out₁) ≤ symbol_limit) × Samples (take (length s) out₁) size
    literal_asks bytes =
        let t = literal_taken z in
        translated_asks s bytes (omega (arith, t.many)) t.fits (taken_is translation) (size_is translation)

    pub literal_ran : {r : Outcome} (b : Result Rated Refusal) → r ≡ outcome_of (take (length s) out₁)
        → rated_answer b ≡ rating_of r (length s - first_place) size
        → (rated_answer b ≡ mcw_literal s out) × (out₁ ≡ mcw_literal_output s out)
    unfolding mcw_literal mcw_literal_output
    literal_ran b g h =
        let f : eqb (literal_number s out) done ≡ true = eq-eqb (literal_number s out) 0 (sym z) in (
          rw f (h ∙ rating-is (dense s) (distinct s) (g ∙ ap outcome_of (taken_is translation)) (sym (dense_length s)) (size_is translation)),
          rw f (written_is translation),
        )
