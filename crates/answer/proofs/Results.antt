-- The answer that C gets tells the result: nothing of a result is lost in it, so that a contract on the answer fixes the result. A float's record has no
-- room for a place, and tells every result but a refusal that names one. Assumes nothing.
use mathlib.Core.Path.{◌≡◌, refl, ap, subst}
use mathlib.Core.Bool.{cond}
use Prim.Native.Nat.{ℕ}
use native.Mathlib.Omega.{arith}
use lib.Dec.{eqb}
use Rattle.std.specs.Prelude.{Float, Result, Ok, Err, IsErr, IsErrAnd}
use Rattle.answer.specs.Numbers.{done, too_long, too_short, too_wide, impossible, out_of_range, not_run, bad_width, bad_frame, bad_answer}
use Rattle.answer.specs.Results.{answer_of, number_in, number_of, place_of, rated_answer, refused_by, solved_of, value_of}
use Rattle.answer.specs.declared.Answer.{Answer}
use Rattle.answer.specs.declared.Estimated.{Estimated}
use Rattle.answer.specs.declared.Rated.{Rated}
use Rattle.answer.specs.declared.Refusal.{Refusal}
use Rattle.answer.specs.declared.Refusal.TheVariants.{TooLong, TooShort, TooWide, Impossible, OutOfRange, NotRun, BadWidth, BadFrame, BadAnswer, BadState}
use Rattle.answer.specs.declared.Solution.{Solution}
use Rattle.answer.specs.declared.Solved.{Solved}
use Rattle.answer.specs.declared.Value.{Value}

-- the refusal of a number and a place
abbrev pub refusal_at : ℕ → ℕ → Refusal
refusal_at n place =
    cond (eqb n too_long) TooLong
    (cond (eqb n too_short) TooShort
    (cond (eqb n too_wide) (TooWide place)
    (cond (eqb n impossible) Impossible
    (cond (eqb n out_of_range) OutOfRange
    (cond (eqb n not_run) NotRun
    (cond (eqb n bad_width) BadWidth
    (cond (eqb n bad_frame) BadFrame
    (cond (eqb n bad_answer) BadAnswer BadState))))))))

pub refusal_kept : (e : Refusal) → refusal_at (number_of e) (place_of e) ≡ e
refusal_kept TooLong = refl
refusal_kept TooShort = refl
refusal_kept (TooWide place) = refl
refusal_kept Impossible = refl
refusal_kept OutOfRange = refl
refusal_kept NotRun = refl
refusal_kept BadWidth = refl
refusal_kept BadFrame = refl
refusal_kept BadAnswer = refl
refusal_kept BadState = refl

-- a refusal is not told as what ran
pub is_refusal : (e : Refusal) → number_of e ≡ done → ⊥
is_refusal TooLong h = omega (arith, h)
is_refusal TooShort h = omega (arith, h)
is_refusal (TooWide place) h = omega (arith, h)
is_refusal Impossible h = omega (arith, h)
is_refusal OutOfRange h = omega (arith, h)
is_refusal NotRun h = omega (arith, h)
is_refusal BadWidth h = omega (arith, h)
is_refusal BadFrame h = omega (arith, h)
is_refusal BadAnswer h = omega (arith, h)
is_refusal BadState h = omega (arith, h)

-- only number 3 names a place
pub placeless : (e : Refusal) → (number_of e ≡ too_wide → ⊥) → place_of e ≡ 0
placeless TooLong n = refl
placeless TooShort n = refl
placeless (TooWide place) n = absurd (n refl)
placeless Impossible n = refl
placeless OutOfRange n = refl
placeless NotRun n = refl
placeless BadWidth n = refl
placeless BadFrame n = refl
placeless BadAnswer n = refl
placeless BadState n = refl

-- a refusal that is passed on
pub rated_refused : (r : Result Rated Refusal) (e : Refusal) → IsErr r × IsErrAnd r (λ x. x ≡ e) → rated_answer r ≡ refused_by e
rated_refused (Ok x) e h = absurd (omega (arith, h.0))
rated_refused (Err x) e h = ap refused_by h.1

-- what ran, or the refusal of the answer's number and place
abbrev pub held : {A : Type 0} → A → ℕ → ℕ → Result A Refusal
held x n place = cond (eqb n done) (Ok x) (Err (refusal_at n place))

pub held_kept : {A : Type 0} (x : A) (e : Refusal) → held x (number_of e) (place_of e) ≡ Err e
held_kept x TooLong = refl
held_kept x TooShort = refl
held_kept x (TooWide place) = refl
held_kept x Impossible = refl
held_kept x OutOfRange = refl
held_kept x NotRun = refl
held_kept x BadWidth = refl
held_kept x BadFrame = refl
held_kept x BadAnswer = refl
held_kept x BadState = refl

abbrev pub estimated_in : Answer → Result Estimated Refusal
estimated_in a = held (record { k = a.k; rounds = a.rounds; estimate = a.estimate }) a.number a.place

abbrev pub rated_in : Answer → Result Rated Refusal
rated_in a =
    held
    (record { estimated = record { k = a.k; rounds = a.rounds; estimate = a.estimate }; winner = a.winner; score = a.score })
    a.number
    a.place

pub answer_tells : (r : Result Estimated Refusal) → estimated_in (answer_of r) ≡ r
answer_tells (Ok e) = refl
answer_tells (Err e) = held_kept _ e

pub rated_tells : (r : Result Rated Refusal) → rated_in (rated_answer r) ≡ r
rated_tells (Ok r) = refl
rated_tells (Err e) = held_kept _ e

-- a record with no room for a place
pub plain_kept : {A : Type 0} (x : A) (e : Refusal) → (number_of e ≡ too_wide → ⊥) → held x (number_of e) 0 ≡ Err e
plain_kept x e n = subst (λ (p : ℕ). held x (number_of e) p ≡ Err e) (placeless e n) (held_kept x e)

abbrev pub float_in : Value → Result Float Refusal
float_in v = held v.value v.number 0

abbrev pub solution_in : Solved → Result Solution Refusal
solution_in s = held (record { rounds = s.rounds; value = s.value }) s.number 0

pub value_tells : (r : Result Float Refusal) → (number_in r ≡ too_wide → ⊥) → float_in (value_of r) ≡ r
value_tells (Ok x) n = refl
value_tells (Err e) n = plain_kept _ e n

pub solved_tells : (r : Result Solution Refusal) → (number_in r ≡ too_wide → ⊥) → solution_in (solved_of r) ≡ r
solved_tells (Ok s) n = refl
solved_tells (Err e) n = plain_kept _ e n
