-- What the fields of a kind are, by whether it tells who predicted, and so how long its record is and what the answer in it is.
-- By the two cases of that test. Assumes nothing.
use mathlib.Core.Path.{◌≡◌, refl, sym, ap, ◌∙◌}
use mathlib.Core.Bool.{Bool, true, false, cond, ◌||◌}
use mathlib.Core.List.{List, ◌++◌}
use mathlib.Core.Logic.{◌⊎◌, inl, inr}
use Prim.Native.Nat.{ℕ, ◌^◌, ◌≤◌, ◌<◌}
use native.Mathlib.Omega.{arith}
use borrow.Author.Tests.{eqb-true}
use lib.Dec.{eqb}
use Rattle.answer.specs.declared.Answer.{Answer}
use Rattle.envelope.specs.Envelope.{Field, body_size, body_start, following, kind_bytes, length_bytes, record_size, values_at}
use Rattle.envelope.specs.Little.{number_at}
use Rattle.fields.specs.Kind.{kind_number}
use Rattle.fields.specs.declared.kind.Kind.{Kind}
use Rattle.fields.specs.declared.kind.Kind.TheVariants.{Unnamed, Named}
use Rattle.fields.specs.Fields.{answer_fields, answer_in, answer_kind, answer_of, answer_size, fields_of, is_kind, named_kind, tells, winner_fields}

-- the kinds that there are
pub kind_is : (kind : ℕ) → is_kind kind ≡ true → (kind ≡ answer_kind) ⊎ (kind ≡ named_kind)
unfolding is_kind
kind_is kind h = by (eqb kind answer_kind) refl h
  where
    by : (b : Bool) → eqb kind answer_kind ≡ b → (b || eqb kind named_kind) ≡ true → (kind ≡ answer_kind) ⊎ (kind ≡ named_kind)
    by true e h = inl (eqb-true kind answer_kind e)
    by false e h = inr (eqb-true kind named_kind h)

-- each has room for its number
pub kind_small : (kind : ℕ) → is_kind kind ≡ true → kind < 256 ^ kind_bytes
kind_small kind h = by (kind_is kind h)
  where
    by : (kind ≡ answer_kind) ⊎ (kind ≡ named_kind) → kind < 256 ^ kind_bytes
    by (inl e) = omega arith
    by (inr e) = omega arith

-- the fields of a kind that tells who predicted, and of one that does not
abbrev pub fields_by : Bool → List (Field Answer)
fields_by b = cond b (answer_fields ++ winner_fields) answer_fields

pub fields_by_lem : (kind : ℕ) {b : Bool} → tells kind ≡ b → fields_of kind ≡ fields_by b
unfolding fields_of
fields_by_lem kind e = ap fields_by e

pub size_by : (kind : ℕ) {b : Bool} → tells kind ≡ b → answer_size kind ≡ record_size (fields_by b)
size_by kind e = ap (λ (fs : List (Field Answer)). record_size fs) (fields_by_lem kind e)

-- no record is shorter than one that does not tell it
pub least : (kind : ℕ) → record_size answer_fields ≤ answer_size kind
unfolding body_size
least kind = by (tells kind) refl
  where
    by : (b : Bool) → tells kind ≡ b → record_size answer_fields ≤ answer_size kind
    by true e = omega (arith, size_by kind e)
    by false e = omega (arith, size_by kind e)

-- and each has room for the length of what follows
pub short : (kind : ℕ) → following (fields_of kind) < 256 ^ length_bytes
unfolding body_size
short kind = by (tells kind) refl
  where
    by : (b : Bool) → tells kind ≡ b → following (fields_of kind) < 256 ^ length_bytes
    by true e = omega (arith, size_by kind e)
    by false e = omega (arith, size_by kind e)

-- the answer in a record: what every kind has, and who predicted where it is told
module _ (bytes : List ℕ) where
  abbrev pub answer_by : Bool → Answer
  answer_by b =
      let shared = answer_of (values_at answer_fields body_start bytes) in
      record {
        number = shared.number;
        place = shared.place;
        k = shared.k;
        rounds = shared.rounds;
        winner = cond b (number_at bytes 61 1) 0;
        score = cond b (number_at bytes 62 4) 0;
        estimate = shared.estimate;
      }

  pub answer_by_lem : (kind : ℕ) → answer_by (tells kind) ≡ answer_in kind bytes
  unfolding fields_of values_at
  answer_by_lem kind = by (tells kind)
    where
      by : (b : Bool) → answer_by b ≡ answer_of (values_at (fields_by b) body_start bytes)
      by true = refl
      by false = refl

-- ---- the kinds as the code has them
pub least_bytes : (kind : Kind) → 61 ≤ answer_size (kind_number kind)
unfolding body_size
least_bytes kind = least (kind_number kind)

pub telling_bytes : (kind : Kind) → tells (kind_number kind) ≡ true → 66 ≤ answer_size (kind_number kind)
unfolding body_size
telling_bytes kind e = omega (arith, size_by (kind_number kind) e)

pub unnamed_tells : {kind : Kind} → kind ≡ Unnamed → tells (kind_number kind) ≡ false
unfolding tells
unnamed_tells e = ap (λ (k : Kind). tells (kind_number k)) e

pub named_tells : {kind : Kind} → kind ≡ Named → tells (kind_number kind) ≡ true
unfolding tells
named_tells e = ap (λ (k : Kind). tells (kind_number k)) e

pub named_bytes : (kind : Kind) → kind ≡ Named → 66 ≤ answer_size (kind_number kind)
named_bytes kind e = telling_bytes kind (named_tells e)

pub answer_told : (bytes : List ℕ) (kind : Kind) {b : Bool} → tells (kind_number kind) ≡ b → answer_by bytes b ≡ answer_in (kind_number kind) bytes
answer_told bytes kind e = ap (answer_by bytes) (sym e) ∙ answer_by_lem bytes (kind_number kind)
