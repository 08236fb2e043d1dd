-- Marks: which digit they are, what operations make of them, and what is left of them after a shift. Assumes nothing.
use mathlib.Core.Path.{◌≡◌, refl, sym, ap, ◌∙◌}
use mathlib.Core.Bool.{Bool, true, false, cond, ◌&&◌, ◌||◌, not}
use mathlib.Core.Logic.{◌⊎◌, inl, inr}
use Prim.Native.Nat.{ℕ, suc, ◌+◌, ◌-◌, ◌*◌, ◌/◌, ◌%◌, ◌^◌, ◌≤◌, ◌<◌}
use native.Mathlib.Omega.{arith}
use lib.Dec.{eqb}
use lib.Bits.{bit_and, bit_or, bit_xor, and_self, or_self, and_zero_l, and_zero_r, or_zero_l, or_zero_r, and_comm, and_shifted, and_block}
use lib.Pow.{shr-shr}
use borrow.Author.Tests.{eqb-true, eqb-false}
use Rattle.lanes.specs.Inner.Lanes.{lane, half, marked, Low, Marks}
use Rattle.lanes.proofs.Words.{each_lane, lane_past}
use Rattle.lanes.proofs.Digits.{lane_and, lane_or, lane_xor}

-- a test with its equation
pub tested : {A : Type 0} (b : Bool) → (b ≡ true → A) → (b ≡ false → A) → A
tested true f g = f refl
tested false f g = g refl

-- ---- words of marks

-- every lane of this word is the mark
abbrev pub tops : ℕ
tops = 9223512776490647552

pub lane_tops : (j : ℕ) → j < 4 → lane tops j ≡ half
unfolding lane
lane_tops = each_lane (λ j. lane tops j ≡ half) refl refl refl refl

pub marks_of : (w : ℕ) (t : ℕ → Bool) → ((j : ℕ) → j < 4 → lane w j ≡ marked (t j)) → Marks w
marks_of w t e = record { each = λ j l. tested (t j) (λ h. inr (rw (e j l, h))) (λ h. inl (rw (e j l, h))) }

-- a word whose lanes are at most those of a word that leaves room leaves room
pub low_under : (a w : ℕ) → Low w → ((j : ℕ) → j < 4 → lane a j ≤ lane w j) → Low a
low_under a w h f = record { each = λ j l. omega (arith, f j l, h.each j l) }

-- ---- marks against marks

pub mark_and : (p q : Bool) → bit_and (marked p) (marked q) ≡ marked (p && q)
mark_and true true = and_self half
mark_and true false = and_zero_r half
mark_and false q = and_zero_l (marked q)

pub mark_or : (p q : Bool) → bit_or (marked p) (marked q) ≡ marked (p || q)
mark_or true true = or_self half
mark_or true false = or_zero_r half
mark_or false q = or_zero_l (marked q)

-- a mark, but not where the other is too: x ^ (x & y)
pub mark_but : (p q : Bool) → bit_xor (marked p) (bit_and (marked p) (marked q)) ≡ marked (p && not q)
mark_but true true = refl
mark_but true false = refl
mark_but false q = rw (and_zero_l (marked q)) refl

-- the same of a lane of two words, for operators between them
module _ (v w j : ℕ) (p q : Bool) (e : lane v j ≡ marked p) (f : lane w j ≡ marked q) where
  pub both_marked : lane (bit_and v w) j ≡ marked (p && q)
  both_marked = lane_and v w j ∙ rw (e, f) (mark_and p q)

  pub either_marked : lane (bit_or v w) j ≡ marked (p || q)
  either_marked = lane_or v w j ∙ rw (e, f) (mark_or p q)

  pub but_marked : lane (bit_xor v (bit_and v w)) j ≡ marked (p && not q)
  but_marked = lane_xor v (bit_and v w) j ∙ rw (lane_and v w j, e, f) (mark_but p q)

-- ---- the mark of a lane

pub mark_below : (y : ℕ) → y < half → bit_and y half ≡ 0
mark_below y l = and_comm y half ∙ and_shifted 1 15 y l

pub mark_above : (y : ℕ) → half ≤ y → y < 65536 → bit_and y half ≡ half
mark_above y l h =
    let r : ℕ = y - 32768 in
    let s : y ≡ 1 * 2 ^ 15 + r = omega arith in
    let b : bit_and (1 * 2 ^ 15 + r) (1 * 2 ^ 15 + 0) ≡ bit_and 1 1 * 2 ^ 15 + bit_and r 0 = and_block 15 1 1 r 0 (omega arith) (omega arith) in
    ap (λ (n : ℕ). bit_and n half) s ∙ b ∙ ap (λ (n : ℕ). 32768 + n) (and_zero_r r)

-- ---- shifted by 15, each mark becomes a 1 in its own lane

shifted : (v : ℕ) → v / 32768 % 65536 ≡ v % 65536 / 32768 + v / 65536 % 65536 % 32768 * 2
shifted v = omega arith

lane_shifted : (w j : ℕ) → lane (w / 32768) j ≡ lane w j / 32768 + lane w (suc j) % 32768 * 2
unfolding lane
lane_shifted w j =
    let e : w / 32768 / 2 ^ (16 * j) ≡ w / 2 ^ (16 * j) / 32768 = shr-shr w 15 (16 * j) ∙ ap (λ (x : ℕ). w / 2 ^ x) swap ∙ sym (shr-shr w (16 * j) 15) in
    let f : w / 2 ^ (16 * suc j) ≡ w / 2 ^ (16 * j) / 65536 = ap (λ (x : ℕ). w / 2 ^ x) more ∙ sym (shr-shr w (16 * j) 16) in
    rw (e, f) (shifted (w / 2 ^ (16 * j)))
  where
    swap : 15 + 16 * j ≡ 16 * j + 15
    swap = omega arith

    more : 16 * suc j ≡ 16 * j + 16
    more = omega arith

module _ (w : ℕ) (word : w < 2 ^ 64) (m : Marks w) where
  mark_clean : (j : ℕ) → j < 5 → lane w j % 32768 ≡ 0
  mark_clean j l =
      tested (eqb j 4)
      (λ e. let f : j ≡ 4 = eqb-true j 4 e in rw (f, lane_past w 4 word))
      (λ e. clean (m.each j (omega (arith, eqb-false j 4 e))))
    where
      clean : {x : ℕ} → (x ≡ 0) ⊎ (x ≡ half) → x % 32768 ≡ 0
      clean (inl e) = rw e
      clean (inr e) = rw e

  pub ones_of : (j : ℕ) → j < 4 → lane (w / 32768) j ≡ lane w j / 32768
  ones_of j l = lane_shifted w j ∙ omega (arith, mark_clean (suc j) (omega arith))

  pub one_of : (j : ℕ) → j < 4 → (t : Bool) → lane w j ≡ marked t → lane (w / 32768) j ≡ cond t 1 0
  one_of j l true e = ones_of j l ∙ rw e
  one_of j l false e = ones_of j l ∙ rw e

-- a lane of marks as a test
pub mark_told : (w : ℕ) → Marks w → (j : ℕ) → j < 4 → (t : Bool) × (lane w j ≡ marked t)
mark_told w m j l = told (m.each j l)
  where
    told : {x : ℕ} → (x ≡ 0) ⊎ (x ≡ half) → (t : Bool) × (x ≡ marked t)
    told (inl e) = (false, e)
    told (inr e) = (true, e)
