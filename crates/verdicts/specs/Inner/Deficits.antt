-- The race by deficits: how far each score is behind the largest. Definitions only.
use Rattle.std.specs.Prelude.{◌≡◌, Bool, true, false, cond, ℕ, zero, suc, ◌+◌, ◌<◌, eqb, length, get_or}
use Rattle.race.specs.Race.{Verdict, hit, miss, none, Standing}

-- the last of the first n numbers that passes the test p, or w
unfoldable pub last_of : (ℕ → Bool) → ℕ → ℕ → ℕ
last_of p w zero = w
last_of p w (suc j) = cond (p j) j (last_of p w j)

-- whether one of the first n numbers passes
unfoldable pub some_of : (ℕ → Bool) → ℕ → Bool
some_of p zero = false
some_of p (suc j) = cond (p j) true (some_of p j)

abbrev pub is_right : Verdict → Bool
is_right hit = true
is_right miss = false
is_right none = false

-- right, and its deficit is k
abbrev pub claims : (ℕ → Bool) → (ℕ → ℕ) → ℕ → ℕ → Bool
claims r d k j = cond (r j) (eqb (d j) k) false

-- what a place adds to the largest score: 1 if a leader was right
abbrev pub gain : (ℕ → Bool) → (ℕ → ℕ) → ℕ → ℕ
gain r d m = cond (some_of (claims r d 0) m) 1 0

-- the winner after a place: the last right one with no deficit; if there is none, the last right one behind by one; else w
abbrev pub successor : (ℕ → Bool) → (ℕ → ℕ) → ℕ → ℕ → ℕ
successor r d w m = cond (some_of (claims r d 0) m) (last_of (claims r d 0) w m) (last_of (claims r d 1) w m)

-- the deficits of m scores to the largest, which is `top` and the winner's
pub record Behind (m : ℕ) (st : Standing) (top : ℕ) (d : ℕ → ℕ) : Type 0 where
  pub within : st.winner < m
  pub scores_are : length st.scores ≡ m
  pub sums : (j : ℕ) → j < m → d j + get_or st.scores j 0 ≡ top
  pub winner_none : d st.winner ≡ 0
