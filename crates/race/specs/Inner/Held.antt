-- How the code holds guesses, standings and counts. Definitions only.
use Rattle.std.specs.Prelude.{◌≡◌, cond, List, ℕ, zero, suc, ◌+◌, ◌<◌, max, ltb, length, get_or}
use Rattle.race.specs.Race.{Guess, silent, says, Verdict, judge, Standing, settle, hit_of, run_of}
use Rattle.race.specs.declared.Leader.{Leader}
use Rattle.race.specs.declared.Outcome.{Outcome}
use Rattle.race.specs.declared.Tally.{Tally}

-- a guess is a symbol, or this number for silence
abbrev pub silence : ℕ
silence = 256

abbrev pub heard : ℕ → Guess
heard g = cond (ltb g silence) (says g) silent

abbrev pub heard_from : List ℕ → ℕ → Guess
heard_from gs j = heard (get_or gs j 0)

abbrev pub after : ℕ → List ℕ → Standing
after winner scores = record { winner = winner; scores = scores }

-- the verdicts on guesses, where x comes
abbrev pub verdicts_on : List ℕ → ℕ → ℕ → Verdict
verdicts_on gs x j = judge (heard_from gs j) x

-- the standing after the verdicts v on the first m sub-predictors
unfoldable pub settled : (ℕ → Verdict) → Standing → ℕ → Standing
settled v st zero = st
settled v st (suc j) = settle (v j) (settled v st j) j

-- what a verdict makes of the counts
abbrev pub tallied : Verdict → Tally → Tally
tallied v t =
    record { hits = t.hits + hit_of v; run = run_of v t.run; longest = max t.longest (run_of v t.run) }

-- scores and counts are below this: 2^63
abbrev pub counter_limit : ℕ
counter_limit = 9223372036854775808

-- what `count` needs of its arguments
pub record Countable (t : Tally) (x : ℕ) : Type 0 where
  pub symbol : x < silence
  pub hits_fit : t.hits < counter_limit
  pub run_fits : t.run < counter_limit

-- what the points of a place need
pub record Scorable (scores guesses : List ℕ) (winner x : ℕ) : Type 0 where
  pub symbol : x < silence
  pub lengths : length scores ≡ length guesses
  pub within : winner < length scores
  pub scores_fit : (j : ℕ) → get_or scores j 0 < counter_limit

-- the leader and the scores of a standing: the bar is the winner's score, and 1 at least
pub record Led (st : Standing) (leader : Leader) (scores : List ℕ) : Type 0 where
  pub stands : after leader.winner scores ≡ st
  pub bar_is : leader.bar ≡ max (get_or scores leader.winner 0) 1

-- what `lead` needs of its arguments
pub record Leadable (scores guesses : List ℕ) (leader : Leader) (x : ℕ) : Type 0 where
  pub ready : Scorable scores guesses leader.winner x
  pub bar_is : leader.bar ≡ max (get_or scores leader.winner 0) 1

-- the counts, the winner from 1, and its score
abbrev pub ended : Tally → Leader → List ℕ → Outcome
ended t leader scores =
    record { hits = t.hits; longest = t.longest; winner = leader.winner + 1; score = get_or scores leader.winner 0 }
