-- Which answers a record may hold; number 9 is for the others, "from reader and writer". Definitions only.
use Rattle.std.specs.Prelude.{ℕ, Bool, not, ◌&&◌, ◌||◌, cond, eqb, leb, ltb, Float}
use Rattle.std.specs.Float.Ieee.{le, eq}
use Rattle.answer.specs.Numbers.{done, too_wide, given}
use Rattle.answer.specs.Refused.{minus_one}
use Rattle.answer.specs.declared.Answer.{Answer}
use Rattle.answer.specs.declared.Estimate.{Estimate}
use Rattle.bisect.specs.Bisection.{round_limit}
use Rattle.capture.specs.Limit.{symbol_limit}
use Rattle.counts.specs.Counts.{impossible_counts}
use Rattle.rounding.specs.Doubles.{zero, one, eight}
use Rattle.recordable.specs.declared.Held.{Held}
use Rattle.recordable.specs.declared.Held.TheVariants.{Unnamed, Named}

-- a float in 0..top: a NaN is not, and -0.0 is
unfoldable pub within : Float → Float → Bool
within x top = le zero x && le x top

-- "a float outside 0..1 (min-entropy 0..8; p_local may be -1.0)" is none
unfoldable pub likelihoods : Estimate → Bool
likelihoods e =
    within e.p_global one
    && (within e.p_global_prime one && ((eq e.p_local minus_one || within e.p_local one) && within e.min_entropy eight))

-- "a 0 with place not 0, counts that number 4 refuses, rounds over 1,076" is none
unfoldable pub as_ran : Answer → Bool
as_ran a =
    eqb a.place 0
    && (not (impossible_counts a.estimate.c a.estimate.n a.estimate.max_run_len a.k)
    && (leb a.rounds round_limit && likelihoods a.estimate))

-- "all counts .. 0, the four floats -1.0"
unfoldable pub blank : Estimate → Bool
blank e =
    eqb e.c 0
    && (eqb e.n 0
    && (eqb e.max_run_len 0
    && (eq e.p_global minus_one
    && (eq e.p_global_prime minus_one && (eq e.p_local minus_one && eq e.min_entropy minus_one)))))

-- "place 0 (save number 3)", whose place is one of a capture
unfoldable pub placed : ℕ → ℕ → Bool
placed number place = cond (eqb number too_wide) (ltb place symbol_limit) (eqb place 0)

-- document 01's fields of a number other than 0: "all counts, k .. 0, the four floats -1.0, the round count 0"
unfoldable pub as_refused : Answer → Bool
as_refused a = placed a.number a.place && (eqb a.k 0 && (eqb a.rounds 0 && blank a.estimate))

unfoldable pub recordable : Answer → Bool
recordable a = cond (eqb a.number done) (as_ran a) (given a.number && as_refused a)

-- a winner is one of at most so many windows or levels
abbrev pub winner_limit : ℕ
winner_limit = 16

-- "9 also for a winner above 16 (above 0 in an answer other than 0), a score above N or beside winner 0"
unfoldable pub won : Answer → Bool
won a =
    leb a.winner (cond (eqb a.number done) winner_limit 0)
    && leb a.score (cond (eqb a.winner 0) 0 a.estimate.n)

-- whether a record that tells who predicted, or one that does not, may hold an answer: "or absent ones asked for"
unfoldable pub holdable : Bool → Held → Bool
holdable tells (Unnamed a) = not tells && recordable a
holdable tells (Named a) = recordable a && won a

-- what a record that tells who predicted, or one that does not, holds of an answer
abbrev pub held_as : Bool → Answer → Held
held_as tells a = cond tells (Named a) (Unnamed a)
