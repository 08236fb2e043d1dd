-- The mask of the numbers that are not 0 and its digits, and the mask of all, with which every digit is turned. Assumes nothing.
use mathlib.Core.Path.{◌≡◌, refl, sym, ap, ◌∙◌}
use mathlib.Core.List.{List, [], ◌∷◌}
use Prim.Native.Nat.{ℕ, zero, suc, ◌+◌, ◌-◌, ◌*◌, ◌/◌, ◌%◌, ◌^◌, ◌≤◌, ◌<◌}
use native.Mathlib.Omega.{arith}
use native.Mathlib.Nat.{div-div-eq-div-mul, pow-suc, mul_comm, lt_of_lt_of_le}
use lib.Dec.{eqb}
use mathlib.Core.Bool.{not}
use mir.Val.{bool_byte}
use lib.Pow.{pow_mono, pow_pos}
use lib.ListN.{length, get_or, drop, replicate, length-drop}
use lib.Bits.{bit_xor}
use lib.Seq.{drop-cons}
use borrow.Author.Tests.{ne_eqb}
use Rattle.verdicts.specs.Inner.Told.{digit}
use Rattle.verdicts.specs.Inner.Planes.{sign, signs}
use Rattle.race.proofs.Cases.{tested, same?}
use Rattle.verdicts.proofs.Digits.{digit_le, digit_xor, apart}
use Rattle.verdicts.proofs.Tops.{digit_zero}

pub sign_le : (u : ℕ) → sign u ≤ 1
sign_le u = tested (eqb u 0) (λ e. rw e (omega arith)) (λ e. rw e (omega arith))

digit_first : (s b : ℕ) → b ≤ 1 → digit (s * 2 + b) 0 ≡ b
digit_first s b l = omega arith

digit_rest : (s b j : ℕ) → b ≤ 1 → digit (s * 2 + b) (suc j) ≡ digit s j
digit_rest s b j l =
    let h : (s * 2 + b) / 2 ≡ s = omega arith in
    let e : (s * 2 + b) / 2 ^ suc j ≡ s / 2 ^ j = rw (pow-suc 2 j, mul_comm (2 ^ j) 2, ← div-div-eq-div-mul (s * 2 + b) 2 (2 ^ j), h) in
    ap (λ (n : ℕ). n % 2) e

pub signs_digit : (up : List ℕ) (j : ℕ) → digit (signs up) j ≡ sign (get_or up j 0)
unfolding signs
signs_digit [] j = digit_zero j
signs_digit (u ∷ us) zero = digit_first (signs us) (sign u) (sign_le u)
signs_digit (u ∷ us) (suc j) = digit_rest (signs us) (sign u) j (sign_le u) ∙ signs_digit us j

pub signs_lt : (up : List ℕ) → signs up < 2 ^ length up
unfolding signs
signs_lt [] = omega arith
signs_lt (u ∷ us) = rw (pow-suc 2 (length us)) (omega (arith, signs_lt us, sign_le u))

-- from the end
pub signs_step : (up : List ℕ) (j : ℕ) → j < length up → signs (drop j up) ≡ signs (drop (suc j) up) * 2 + sign (get_or up j 0)
unfolding signs
signs_step up j l = rw (drop-cons up j 0 l)

pub signs_end : (up : List ℕ) → 0 ≡ signs (drop (length up) up)
unfolding signs
signs_end [] = refl
signs_end (u ∷ us) = signs_end us

short : (up : List ℕ) (j : ℕ) → length up ≤ 16 → length (drop j up) ≤ 16
short up j l = omega (arith, length-drop j up)

pub signs_small : (up : List ℕ) (j : ℕ) → length up ≤ 16 → signs (drop j up) < 65536
signs_small up j l = lt_of_lt_of_le (signs_lt (drop j up)) (pow_mono (short up j l))

-- a number that is 0, or not
pub sign_zero : (u : ℕ) → u ≡ 0 → sign u ≡ 0
sign_zero u e = rw e

pub sign_one : (u : ℕ) → (u ≡ 0 → ⊥) → sign u ≡ 1
sign_one u e = rw (ne_eqb u 0 e)

-- one more, as the code counts it
pub sign_byte : (u : ℕ) → bool_byte (not (eqb u 0)) ≡ sign u
sign_byte u = same? u 0 (λ e. rw e refl) (λ e. rw (ne_eqb u 0 e) refl)

pub signs_back : (up : List ℕ) (far j : ℕ) → 0 < j → j ≤ length up → far ≡ signs (drop j up)
    → far * 2 + bool_byte (not (eqb (get_or up (j - 1) 0) 0)) ≡ signs (drop (j - 1) up)
signs_back up far zero p l e = absurd (omega arith)
signs_back up far (suc j) p l e =
    let q : suc j - 1 ≡ j = omega arith in
    rw (q, e, sign_byte (get_or up j 0)) (sym (signs_step up j l))

pub signs_none : (m : ℕ) → signs (replicate m 0) ≡ 0
unfolding signs
signs_none zero = refl
signs_none (suc m) = rw (signs_none m)

-- ---- the mask of all

-- as the code makes it
pub whole : (m : ℕ) → m ≤ 16 → 1 * 2 ^ m % 4294967296 - 1 + 1 ≡ 2 ^ m
whole m l = let h : 2 ^ m ≤ 65536 = pow_mono l in omega (arith, pow_pos m)

ones_at : (m j : ℕ) → j < m → get_or (replicate {A = ℕ} m 1) j 0 ≡ 1
ones_at zero j l = absurd (omega arith)
ones_at (suc m) zero l = refl
ones_at (suc m) (suc j) l = ones_at m j (omega arith)

ones_are : (m : ℕ) → signs (replicate m 1) + 1 ≡ 2 ^ m
unfolding signs
ones_are zero = refl
ones_are (suc m) = rw (pow-suc 2 m) (omega (arith, ones_are m))

module _ (m all : ℕ) (whole : all + 1 ≡ 2 ^ m) where
  pub digit_all : (j : ℕ) → j < m → digit all j ≡ 1
  digit_all j l =
      let e : all ≡ signs (replicate m 1) = omega (arith, ones_are m) in
      ap (λ (n : ℕ). digit n j) e ∙ signs_digit (replicate m 1) j ∙ ap sign (ones_at m j l)

  -- with all digits turned
  pub turned : (a j : ℕ) → j < m → digit (bit_xor a all) j + digit a j ≡ 1
  turned a j l = turn (digit a j) (digit all j) (digit (bit_xor a all) j) (digit_le a j) (digit_all j l) (digit_xor a all j)
    where
      turn : (p x y : ℕ) → p ≤ 1 → x ≡ 1 → y ≡ apart p x → y + p ≡ 1
      turn p x y l e f = omega arith
