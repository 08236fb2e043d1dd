-- How masks tell the verdicts of a place. Definitions only.
use Rattle.std.specs.Prelude.{◌≡◌, cond, ℕ, ◌/◌, ◌%◌, ◌^◌, ◌<◌, ◌≤◌, eqb}
use Rattle.race.specs.Race.{Verdict, hit, miss, none, hit_of}
use Rattle.verdicts.specs.declared.Masks.{Masks}

-- binary digit j of a number
abbrev pub digit : ℕ → ℕ → ℕ
digit n j = n / 2 ^ j % 2

-- 1 for one that spoke
abbrev pub spoke_of : Verdict → ℕ
spoke_of hit = 1
spoke_of miss = 1
spoke_of none = 0

-- the masks tell the verdicts v on m sub-predictors
pub record Told (m : ℕ) (v : ℕ → Verdict) (masks : Masks) : Type 0 where
  pub right : (j : ℕ) → j < m → digit masks.rights j ≡ hit_of (v j)
  pub spoke : (j : ℕ) → j < m → digit masks.speaking j ≡ spoke_of (v j)
  pub few : masks.rights < 2 ^ m

-- the verdict that the masks tell of sub-predictor j
abbrev pub verdict_in : Masks → ℕ → Verdict
verdict_in masks j = cond (eqb (digit masks.rights j) 1) hit (cond (eqb (digit masks.speaking j) 1) miss none)

-- masks of m sub-predictors, of which those that are right speak
pub record Fair (m : ℕ) (masks : Masks) : Type 0 where
  pub few : masks.rights < 2 ^ m
  pub spoke : (j : ℕ) → j < m → digit masks.rights j ≤ digit masks.speaking j
