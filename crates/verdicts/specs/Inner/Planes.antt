-- Deficits in planes: digit j of plane k is digit k of the deficit of sub-predictor j; what is above six digits is held apart. Definitions only.
use Rattle.std.specs.Prelude.{◌≡◌, Bool, cond, List, [], ◌∷◌, ℕ, ◌+◌, ◌*◌, ◌^◌, ◌≤◌, ◌<◌, eqb, length, get_or}
use Rattle.std.specs.Int.Bits.{bit_xor}
use Rattle.race.specs.Inner.Held.{counter_limit}
use Rattle.verdicts.specs.Inner.Told.{digit}
use Rattle.verdicts.specs.Inner.Deficits.{last_of}
use Rattle.verdicts.specs.declared.planes.Claimed.{Claimed}
use Rattle.verdicts.specs.declared.planes.Choice.{Choice}

-- whether digit j of a mask is 1
abbrev pub bit_at : ℕ → ℕ → Bool
bit_at n j = eqb (digit n j) 1

-- the low digits of deficit j, the lowest first
unfoldable pub low_at : List ℕ → ℕ → ℕ
low_at [] j = 0
low_at (p ∷ ps) j = digit p j + 2 * low_at ps j

-- deficit j
abbrev pub deficit_at : List ℕ → List ℕ → ℕ → ℕ
deficit_at planes up j = low_at planes j + 64 * get_or up j 0

-- the mask of the numbers that are not 0
abbrev pub sign : ℕ → ℕ
sign u = cond (eqb u 0) 0 1

unfoldable pub signs : List ℕ → ℕ
signs [] = 0
signs (u ∷ us) = signs us * 2 + sign u

-- c goes through the planes: where x has 0 it is added, where x has 1 it is taken away; what is left over is the carry
pub record Ripples (q : List ℕ) (c x : ℕ) (q' : List ℕ) (carry : ℕ) : Type 0 where
  pub adds : (j : ℕ) → digit x j ≡ 0 → low_at q j + digit c j ≡ low_at q' j + 64 * digit carry j
  pub takes : (j : ℕ) → digit x j ≡ 1 → low_at q j + 64 * digit carry j ≡ low_at q' j + digit c j

-- who was right with no deficit, and who was with a deficit of at most 1
pub record Claims (q : List ℕ) (far rights : ℕ) (r : Claimed) : Type 0 where
  pub first_is : (j : ℕ) → low_at q j + digit far j ≡ 0 → digit r.first j ≡ digit rights j
  pub first_not : (j : ℕ) → 0 < low_at q j + digit far j → digit r.first j ≡ 0
  pub near_is : (j : ℕ) → low_at q j + 64 * digit far j ≤ 1 → digit r.near j ≡ digit rights j
  pub near_not : (j : ℕ) → 1 < low_at q j + 64 * digit far j → digit r.near j ≡ 0
  pub small : (m : ℕ) → rights < 2 ^ m → (r.first < 2 ^ m) × (r.near < 2 ^ m)

-- r is the highest digit of x that is 1, or w
pub record LastDigit (x w r : ℕ) : Type 0 where
  pub is : (m : ℕ) → x < 2 ^ m → r ≡ last_of (bit_at x) w m

-- if a leader was right, the wrong ones go through the planes to be added; else the right ones, to be taken away
pub record Chosen (k : Claimed) (rights all : ℕ) (r : Choice) : Type 0 where
  pub leading : (k.first ≡ 0 → ⊥) → (r.claim ≡ k.first) × (r.through ≡ bit_xor rights all) × (r.away ≡ 0) × (r.gained ≡ 1)
  pub others : k.first ≡ 0 → (r.claim ≡ k.near) × (r.through ≡ rights) × (r.away ≡ all) × (r.gained ≡ 0)

-- what `shift` needs: nothing falls below 0
pub record Shiftable (up : List ℕ) (less gained : ℕ) : Type 0 where
  pub few : length up ≤ 16
  pub fit : (j : ℕ) → get_or up j 0 < counter_limit
  pub one : gained ≤ 1
  pub enough : (j : ℕ) → j < length up → digit less j ≤ get_or up j 0 + gained

-- and what it does
pub record Shifted (up : List ℕ) (less gained : ℕ) (up' : List ℕ) : Type 0 where
  pub many : length up' ≡ length up
  pub each : (j : ℕ) → j < length up → get_or up' j 0 + digit less j ≡ get_or up j 0 + gained
