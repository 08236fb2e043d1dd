-- "Kind 1 has a body of answer number (1 byte), k (2), place (4), C, N, longest run and rounds (4 each), then the four doubles' bits (8 each)", and
-- "kind 2 adds [the winner and its score] as one byte and 4 bytes at the end of the body". Definitions only.
use Rattle.std.specs.Prelude.{ℕ, Bool, cond, ◌||◌, List, [], ◌∷◌, ◌++◌, eqb, Float, get_or}
use Rattle.std.specs.Float.{binary64}
use Rattle.std.specs.Float.Ieee.{of_bits, to_bits}
use Rattle.answer.specs.declared.Answer.{Answer}
use Rattle.envelope.specs.Envelope.{Field, body_start, record_of, record_size, values_at}

-- a field of so many bytes, and a double's bits
abbrev pub field : ℕ → (Answer → ℕ) → Field Answer
field w f = record { width = w; of = f }

abbrev pub double : (Answer → Float) → Field Answer
double f = field 8 (λ a. to_bits binary64 (f a))

-- the kinds of record that hold an answer; the second tells who predicted
abbrev pub answer_kind : ℕ
answer_kind = 1

abbrev pub named_kind : ℕ
named_kind = 2

unfoldable pub is_kind : ℕ → Bool
is_kind kind = eqb kind answer_kind || eqb kind named_kind

unfoldable pub tells : ℕ → Bool
tells kind = eqb kind named_kind

abbrev pub answer_fields : List (Field Answer)
answer_fields =
    field 1 (λ a. a.number)
    ∷ field 2 (λ a. a.k)
    ∷ field 4 (λ a. a.place)
    ∷ field 4 (λ a. a.estimate.c)
    ∷ field 4 (λ a. a.estimate.n)
    ∷ field 4 (λ a. a.estimate.max_run_len)
    ∷ field 4 (λ a. a.rounds)
    ∷ double (λ a. a.estimate.p_global)
    ∷ double (λ a. a.estimate.p_global_prime)
    ∷ double (λ a. a.estimate.p_local)
    ∷ double (λ a. a.estimate.min_entropy)
    ∷ []

abbrev pub winner_fields : List (Field Answer)
winner_fields = field 1 (λ a. a.winner) ∷ field 4 (λ a. a.score) ∷ []

-- the fields of a kind; of no kind, those of the least record there is
unfoldable pub fields_of : ℕ → List (Field Answer)
fields_of kind = cond (tells kind) (answer_fields ++ winner_fields) answer_fields

-- the answer whose fields hold these numbers; where a field is not there, 0
abbrev pub answer_of : List ℕ → Answer
answer_of values =
    let at : ℕ → ℕ = λ i. get_or values i 0 in
    let bits : ℕ → Float = λ i. of_bits binary64 (at i) in
    record {
      number = at 0;
      place = at 2;
      k = at 1;
      rounds = at 6;
      winner = at 11;
      score = at 12;
      estimate =
          record {
            c = at 3;
            n = at 4;
            max_run_len = at 5;
            p_global = bits 7;
            p_global_prime = bits 8;
            p_local = bits 9;
            min_entropy = bits 10;
          };
    }

-- the record of an answer, of a kind, and how many bytes it takes
abbrev pub answer_record : ℕ → Answer → List ℕ
answer_record kind a = record_of kind (fields_of kind) a

abbrev pub answer_size : ℕ → ℕ
answer_size kind = record_size (fields_of kind)

-- the answer in the record of a kind at the start
abbrev pub answer_in : ℕ → List ℕ → Answer
answer_in kind bytes = answer_of (values_at (fields_of kind) body_start bytes)
