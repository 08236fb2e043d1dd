-- The race as the code holds it: the standing and the counts after so many places, and guesses that may be missing. Definitions only.
use Rattle.std.specs.Prelude.{List, ℕ, ◌+◌, ◌-◌, ◌<◌, Option, Some, None, length, get_or, replicate}
use Rattle.race.specs.Race.{Guess, silent, says, judge, Verdict, Standing, sample, standing, events}
use Rattle.race.specs.Inner.Held.{counter_limit, settled, tallied}
use Rattle.race.specs.Inner.Ends.{tally_of}
use Rattle.race.specs.declared.Outcome.{Outcome}
use Rattle.race.specs.declared.Tally.{Tally}

-- the standing and the counts
pub record Raced : Type 0 where
  pub standing : Standing
  pub tally : Tally

-- a guess, or silence
abbrev pub heard : Option ℕ → Guess
heard None = silent
heard (Some y) = says y

abbrev pub heard_from : List (Option ℕ) → ℕ → Guess
heard_from gs j = heard (get_or gs j None)

-- the verdicts on guesses, where x comes
abbrev pub verdicts_on : List (Option ℕ) → ℕ → ℕ → Verdict
verdicts_on gs x j = judge (heard_from gs j) x

-- before the first place of m sub-predictors
abbrev pub unraced : ℕ → Raced
unraced m =
    record { standing = record { winner = 0; scores = replicate m 0 }; tally = record { hits = 0; run = 0; longest = 0 } }

-- the winner's guess is counted, where x comes
abbrev pub counted : Raced → Option ℕ → ℕ → Raced
counted r g x = record { standing = r.standing; tally = tallied (judge (heard g) x) r.tally }

-- the points are given
abbrev pub pointed : Raced → List (Option ℕ) → ℕ → Raced
pointed r gs x = record { standing = settled (verdicts_on gs x) r.standing (length gs); tally = r.tally }

-- a whole place, by the verdicts v on m sub-predictors
abbrev pub judged : ℕ → Raced → (ℕ → Verdict) → Raced
judged m r v = record { standing = settled v r.standing m; tally = tallied (v r.standing.winner) r.tally }

-- and by their guesses
abbrev pub raced_on : Raced → List (Option ℕ) → ℕ → Raced
raced_on r gs x = judged (length gs) r (verdicts_on gs x)

-- the counts, the winner from 1, and its score
abbrev pub outcome_in : Raced → Outcome
outcome_in r =
    record {
      hits = r.tally.hits;
      longest = r.tally.longest;
      winner = r.standing.winner + 1;
      score = get_or r.standing.scores r.standing.winner 0;
    }

-- each score is below 2^63
pub record Scores (r : Raced) : Type 0 where
  pub scores_fit : (j : ℕ) → get_or r.standing.scores j 0 < counter_limit

-- and so are the counts
pub record Room (r : Raced) : Type 0 where
  pub scores : Scores r
  pub hits_fit : r.tally.hits < counter_limit
  pub run_fits : r.tally.run < counter_limit

-- the race after n places
abbrev pub raced_after : ℕ → ℕ → (ℕ → ℕ → Guess) → (ℕ → ℕ) → ℕ → Raced
raced_after m first guess truth n =
    record { standing = standing m first guess truth n; tally = tally_of (events m first guess truth n) }

-- the race over the samples s before place i, where predictions start at the place `first`
abbrev pub raced_at : ℕ → ℕ → (ℕ → ℕ → Guess) → List ℕ → ℕ → Raced
raced_at m first guess s i = raced_after m first guess (sample s) (i - first)
