-- What a record of a kind keeps of an answer that it may hold: each number has room in its field, and the answer comes back, without who predicted where the
-- kind does not tell it. By the fields that every kind has and those of who predicted; bits and doubles that are no NaN stand for each other. Assumes nothing.
use mathlib.Core.Path.{◌≡◌, refl, sym, ap, ◌∙◌, subst}
use mathlib.Core.Bool.{Bool, true, false, not, cond, and-eq-true_iff, false≢true}
use mathlib.Core.List.{List, [], ◌∷◌, ◌++◌}
use Prim.Native.Nat.{ℕ}
use native.Mathlib.Omega.{arith}
use lib.Ieee.{binary64}
use lib.Ieee.Bits.{of_bits-to_bits, to_bits-lt, to_bits-of_bits}
use lib.ListN.{drop, get_or}
use Rattle.answer.specs.declared.Answer.{Answer}
use Rattle.envelope.proofs.Envelope.{Fits, Room, numbers_of, fits_append, record_values, room_at}
use Rattle.envelope.specs.Envelope.{Field, body_start, values_at}
use Rattle.fields.proofs.Telling.{fields_by_lem, fields_by}
use Rattle.fields.specs.Fields.{answer_fields, answer_in, answer_of, answer_record, fields_of, tells, winner_fields}
use Rattle.recordable.proofs.Bounds.{Bounds, Numeric, Winning, recordable_bounds, won_bounds}
use Rattle.recordable.specs.Recordable.{as_ran, as_refused, holdable, recordable, won}
use Rattle.recordable.specs.declared.Held.{Held}
use Rattle.recordable.specs.declared.Held.TheVariants.{Unnamed, Named}
use Rattle.record.specs.Record.{Doubles, answer_held, held_in, holds, kept, unnamed}

-- ---- what may be held
pub held_recordable : (t : Bool) (h : Held) → holdable t h ≡ true → recordable (answer_held h) ≡ true
unfolding holdable
held_recordable t (Unnamed a) e = ((and-eq-true_iff (not t) (recordable a)).0 e).1
held_recordable t (Named a) e = ((and-eq-true_iff (recordable a) (won a)).0 e).0

-- where who predicted is told, it is there
told_named : (h : Held) → holdable true h ≡ true → (h ≡ Named (answer_held h)) × (won (answer_held h) ≡ true)
unfolding holdable
told_named (Unnamed a) e = absurd (false≢true e)
told_named (Named a) e = (refl, ((and-eq-true_iff (recordable a) (won a)).0 e).1)

-- ---- room
floats_fit : (a : Answer) → Doubles a → Fits (drop 7 answer_fields) a
unfolding Room numbers_of
floats_fit a d =
    (to_bits-lt binary64 _ d.global, (to_bits-lt binary64 _ d.prime, (to_bits-lt binary64 _ d.local, (to_bits-lt binary64 _ d.entropy, tt))))

shared_fit : (a : Answer) → Bounds a → Doubles a → Fits answer_fields a
unfolding Room numbers_of
shared_fit a b d = (b.number, (b.k, (b.place, (b.c, (b.n, (b.run, (b.rounds, floats_fit a d)))))))

winner_fits : (a : Answer) → Winning a → Fits winner_fields a
unfolding Room numbers_of
winner_fits a w = (w.winner, (w.score, tt))

pub held_fits : (kind : ℕ) (h : Held) → holds kind h ≡ true → Doubles (answer_held h) → Fits (fields_of kind) (answer_held h)
held_fits kind h e d = subst (λ (fs : List (Field Answer)). Fits fs a) (sym (fields_by_lem kind refl)) (by (tells kind) e)
  where
    a : Answer
    a = answer_held h

    by : (b : Bool) → holdable b h ≡ true → Fits (fields_by b) a
    by true e =
        let bounds = recordable_bounds a (held_recordable true h e) in
        fits_append answer_fields winner_fields a (shared_fit a bounds d) (winner_fits a (won_bounds a bounds.n (told_named h e).1))
    by false e = shared_fit a (recordable_bounds a (held_recordable false h e)) d

-- ---- written, then read
-- the answer with another winner and score
abbrev won_by : ℕ → ℕ → Answer → Answer
won_by winner score a =
    record { number = a.number; place = a.place; k = a.k; rounds = a.rounds; winner = winner; score = score; estimate = a.estimate }

-- the answer of its shared numbers, and of those behind them
again_with : (a : Answer) → Doubles a → (more : List ℕ) → answer_of (numbers_of answer_fields a ++ more) ≡ won_by (get_or more 0 0) (get_or more 1 0) a
unfolding numbers_of
again_with a d more =
    rw (
      of_bits-to_bits binary64 _ d.global,
      of_bits-to_bits binary64 _ d.prime,
      of_bits-to_bits binary64 _ d.local,
      of_bits-to_bits binary64 _ d.entropy,
    )

answer-again : (b : Bool) (a : Answer) → Doubles a → answer_of (numbers_of (fields_by b) a) ≡ cond b a (unnamed a)
unfolding numbers_of
answer-again true a d = again_with a d (a.winner ∷ a.score ∷ [])
answer-again false a d = again_with a d []

module _ (kind : ℕ) (h : Held) (e : holds kind h ≡ true) where
  pub held-again : Doubles (answer_held h) → (rest : List ℕ) → held_in kind (answer_record kind (answer_held h) ++ rest) ≡ kept kind h
  unfolding held_in kept
  held-again d rest = by (tells kind) same e
    where
      a : Answer
      a = answer_held h

      same : answer_in kind (answer_record kind a ++ rest) ≡ cond (tells kind) a (unnamed a)
      same =
          ap answer_of (record_values kind (fields_of kind) a rest (held_fits kind h e d))
          ∙ ap (λ (fs : List (Field Answer)). answer_of (numbers_of fs a)) (fields_by_lem kind refl)
          ∙ answer-again (tells kind) a d

      by : (b : Bool) {x : Answer} → x ≡ cond b a (unnamed a) → holdable b h ≡ true → cond b (Named x) (Unnamed x) ≡ cond b h (Unnamed (unnamed a))
      by true p e = ap Named p ∙ sym (told_named h e).0
      by false p e = ap Unnamed p

  pub kept-holds : holds kind (kept kind h) ≡ true
  unfolding kept holdable recordable as_ran as_refused
  kept-holds = by (tells kind) e
    where
      by : (b : Bool) → holdable b h ≡ true → holdable b (cond b h (Unnamed (unnamed (answer_held h)))) ≡ true
      by true e = e
      by false e = held_recordable false h e

-- ---- read, then written
module _ (bytes : List ℕ) where
  abbrev values_by : List (Field Answer) → List ℕ
  values_by fs = values_at fs body_start bytes

  abbrev Written : List (Field Answer) → Type 0
  Written fs = Room fs (values_by fs) → Numeric (answer_of (values_by fs)).estimate → numbers_of fs (answer_of (values_by fs)) ≡ values_by fs

  -- the shared numbers, and those of the fields behind them
  numbers_with : (gs : List (Field Answer)) → numbers_of gs (answer_of (values_by (answer_fields ++ gs))) ≡ values_at gs 61 bytes → Written (answer_fields ++ gs)
  unfolding Room numbers_of values_at
  numbers_with gs e room r =
      let at = room_at (answer_fields ++ gs) (values_by (answer_fields ++ gs)) room in
      rw (
        to_bits-of_bits binary64 _ (at 7 (omega arith)) r.global,
        to_bits-of_bits binary64 _ (at 8 (omega arith)) r.prime,
        to_bits-of_bits binary64 _ (at 9 (omega arith)) r.local,
        to_bits-of_bits binary64 _ (at 10 (omega arith)) r.entropy,
        e,
      )

  numbers_by : (b : Bool) → Written (fields_by b)
  unfolding numbers_of values_at
  numbers_by true = numbers_with winner_fields refl
  numbers_by false = numbers_with [] refl

  pub numbers-again : (kind : ℕ) → Written (fields_of kind)
  numbers-again kind = subst Written (sym (fields_by_lem kind refl)) (numbers_by (tells kind))

  pub held_answer : (kind : ℕ) → answer_held (held_in kind bytes) ≡ answer_in kind bytes
  unfolding held_in
  held_answer kind = by (tells kind)
    where
      by : (b : Bool) → answer_held (cond b (Named (answer_in kind bytes)) (Unnamed (answer_in kind bytes))) ≡ answer_in kind bytes
      by true = refl
      by false = refl
