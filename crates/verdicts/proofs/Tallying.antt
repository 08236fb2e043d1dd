-- The counts by two digits: whether the winner was right, and whether it spoke. Assumes nothing.
use mathlib.Core.Path.{◌≡◌, refl}
use mathlib.Core.Bool.{cond}
use Prim.Native.Nat.{ℕ, ◌+◌, ◌-◌, ◌*◌, ◌≤◌, ◌<◌, max}
use lib.Dec.{eqb}
use native.Mathlib.Omega.{arith}
use Rattle.race.specs.Race.{Verdict, hit, miss, none, hit_of}
use Rattle.race.specs.Inner.Held.{tallied}
use Rattle.race.specs.declared.Tally.{Tally}
use Rattle.verdicts.specs.Inner.Told.{digit, spoke_of, Told, Fair, verdict_in}
use Rattle.verdicts.specs.declared.Masks.{Masks}
use Rattle.verdicts.proofs.Digits.{digit_le, digit_cases}

-- who was right spoke
pub right_spoke : (v : Verdict) → hit_of v ≤ spoke_of v
right_spoke hit = omega arith
right_spoke miss = omega arith
right_spoke none = omega arith

pub counted : (t : Tally) (v : Verdict) (h s l : ℕ) → h ≡ hit_of v → s ≡ spoke_of v → l ≡ max t.longest ((t.run + h) * (1 - (s - h)))
    → ◌≡◌ {A = Tally} (record { hits = t.hits + h; run = (t.run + h) * (1 - (s - h)); longest = l }) (tallied v t)
counted t hit h s l e f g = let z : (t.run + 1) * 1 ≡ t.run + 1 = omega arith in rw (g, e, f, z)
counted t miss h s l e f g = let z : (t.run + 0) * 0 ≡ 0 = omega arith in rw (g, e, f, z)
counted t none h s l e f g = let z : (t.run + 0) * 1 ≡ t.run = omega arith in rw (g, e, f, z)

-- the verdict that fair masks tell
pub verdict_digits : (masks : Masks) (j : ℕ) → digit masks.rights j ≤ digit masks.speaking j
    → (digit masks.rights j ≡ hit_of (verdict_in masks j)) × (digit masks.speaking j ≡ spoke_of (verdict_in masks j))
verdict_digits masks j l =
    digit_cases (digit masks.rights j) (digit_le masks.rights j)
    (λ z. digit_cases (digit masks.speaking j) (digit_le masks.speaking j) (λ s. rw (z, s) (refl, refl)) (λ s. rw (z, s) (refl, refl)))
    (λ o. let s : digit masks.speaking j ≡ 1 = omega (arith, digit_le masks.speaking j) in rw (o, s) (refl, refl))

-- where the masks tell the verdicts v
module _ {m : ℕ} {v : ℕ → Verdict} {masks : Masks} (T : Told m v masks) where
  told_in : (w : Verdict) (r s : ℕ) → r ≡ hit_of w → s ≡ spoke_of w → cond (eqb r 1) hit (cond (eqb s 1) miss none) ≡ w
  told_in hit r s e f = rw e refl
  told_in miss r s e f = rw (e, f) refl
  told_in none r s e f = rw (e, f) refl

  pub told_verdict : (j : ℕ) → j < m → verdict_in masks j ≡ v j
  told_verdict j l = told_in (v j) (digit masks.rights j) (digit masks.speaking j) (T.right j l) (T.spoke j l)

  pub told_fair : Fair m masks
  told_fair = record { few = T.few; spoke = λ j l. rw (T.right j l, T.spoke j l) (right_spoke (v j)) }
