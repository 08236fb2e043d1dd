-- Where the highest digit of a mask stands: it is the last number that passes the test of its digits. Assumes nothing.
use mathlib.Core.Path.{◌≡◌, sym, ◌∙◌}
use mathlib.Core.Bool.{false}
use Prim.Native.Nat.{ℕ, suc, ◌+◌, ◌-◌, ◌*◌, ◌/◌, ◌^◌, ◌≤◌, ◌<◌}
use native.Mathlib.Omega.{arith}
use native.Mathlib.Nat.{zero-div, div-eq_of_lt, div-eq_of_lt-le, pow-suc, lt_of_lt_of_le, lt_irrefl}
use lib.Dec.{leb}
use lib.Pow.{pow_mono}
use lib.Count.{count_leading_zeros, leading_top}
use borrow.Author.Tests.{eq-eqb, leb-true, leb-false}
use Rattle.verdicts.specs.Inner.Deficits.{last_of}
use Rattle.verdicts.specs.Inner.Told.{digit}
use Rattle.verdicts.specs.Inner.Planes.{bit_at}
use Rattle.race.proofs.Cases.{tested}
use Rattle.verdicts.proofs.Finding.{last_none, last_at}

pub digit_zero : (j : ℕ) → digit 0 j ≡ 0
digit_zero j = rw (zero-div (2 ^ j))

pub digit_past : (x i : ℕ) → x < 2 ^ i → digit x i ≡ 0
digit_past x i l = rw (div-eq_of_lt l)

digit_top : (x j : ℕ) → 2 ^ j ≤ x → x < 2 ^ suc j → digit x j ≡ 1
digit_top x j lo hi =
    let h : x < 2 ^ j * 2 = rw (pow-suc 2 j) at hi in
    let e : x / 2 ^ j ≡ 1 = div-eq_of_lt-le {k = 1} (2 ^ j) {m = x} (omega arith) (omega arith) in
    rw e

pub unset : (x i : ℕ) → digit x i ≡ 0 → bit_at x i ≡ false
unset x i e = rw e

pub top_none : (w m : ℕ) → w ≡ last_of (bit_at 0) w m
top_none w m = sym (last_none (bit_at 0) w m (λ i l. unset 0 i (digit_zero i)))

module _ (x : ℕ) (p : 0 < x) (fits : x < 2 ^ 32) where
  -- where the highest digit stands
  pub top_found : (j : ℕ) × (count_leading_zeros 32 x + suc j ≡ 32) × (digit x j ≡ 1) × ((i : ℕ) → j < i → digit x i ≡ 0) × (2 ^ j ≤ x)
  top_found =
      let t = leading_top 32 x p fits in
      (t.0, t.1, digit_top x t.0 t.2 t.3, (λ i l. digit_past x i (lt_of_lt_of_le t.3 (pow_mono l))), t.2)

  pub top_small : count_leading_zeros 32 x ≤ 31
  top_small = omega (arith, top_found.1)

  pub top_last : (w m : ℕ) → x < 2 ^ m → 31 - count_leading_zeros 32 x ≡ last_of (bit_at x) w m
  top_last w m l =
      let t = top_found in
      let j = t.0 in
      let s : j < m = tested (leb m j) (λ q. absurd (lt_irrefl x (lt_of_lt_of_le l (lt_le (pow_mono (leb-true m j q)) t.4)))) (λ q. leb-false m j q) in
      let e : 31 - count_leading_zeros 32 x ≡ j = omega (arith, t.1) in
      e ∙ sym (last_at (bit_at x) w m j s (eq-eqb _ _ t.2) (λ i h. unset x i (t.3 i h)))
    where
      lt_le : {a b c : ℕ} → a ≤ b → b ≤ c → a ≤ c
      lt_le f g = omega arith
