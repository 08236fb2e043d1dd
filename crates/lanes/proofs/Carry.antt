-- No lane carries: sums whose lanes fit, and differences whose lanes do not fall below 0, are those of the lanes. Assumes nothing.
use mathlib.Core.Path.{◌≡◌, ◌∙◌}
use mathlib.Core.Bool.{cond}
use Prim.Native.Nat.{ℕ, zero, suc, ◌+◌, ◌-◌, ◌*◌, ◌/◌, ◌%◌, ◌^◌, ◌≤◌, ◌<◌}
use native.Mathlib.Omega.{arith}
use native.Mathlib.Nat.{mul_assoc}
use lib.Dec.{eqb, eqb-suc-zero, eqb-zero-suc, eqb-suc-suc}
use lib.Pow.{pow-add}
use Rattle.lanes.specs.Inner.Lanes.{lane}
use Rattle.lanes.proofs.Words.{lane_first, lane_next, lane_zero, fewer, low_of, high_of}

-- ---- the lowest lane and the rest, of plain numbers

module _ (a b : ℕ) (f : a % 65536 + b % 65536 < 65536) where
  add_first : (a + b) % 65536 ≡ a % 65536 + b % 65536
  add_first = omega arith

  add_rest : (a + b) / 65536 ≡ a / 65536 + b / 65536
  add_rest = omega arith

module _ (a b : ℕ) (f : b % 65536 ≤ a % 65536) where
  sub_first : b ≤ a → (a - b) % 65536 ≡ a % 65536 - b % 65536
  sub_first l = omega arith

  sub_rest : (a - b) / 65536 ≡ a / 65536 - b / 65536
  sub_rest = omega arith

-- ---- sums

module _ (a b : ℕ) (f : lane a 0 + lane b 0 < 65536) where
  first_fits : a % 65536 + b % 65536 < 65536
  first_fits = omega (arith, lane_first a, lane_first b)

rest_fits : (a b j : ℕ) → lane a (suc j) + lane b (suc j) < 65536 → lane (a / 65536) j + lane (b / 65536) j < 65536
rest_fits a b j f = omega (arith, lane_next a j, lane_next b j)

add_lane : (j a b : ℕ) → ((i : ℕ) → i ≤ j → lane a i + lane b i < 65536) → lane (a + b) j ≡ lane a j + lane b j
add_lane zero a b f = rw (lane_first (a + b), lane_first a, lane_first b) (add_first a b (first_fits a b (f 0 (omega arith))))
add_lane (suc j) a b f =
    rw (lane_next (a + b) j, lane_next a j, lane_next b j, add_rest a b (first_fits a b (f 0 (omega arith))))
    (add_lane j (a / 65536) (b / 65536) (λ i l. rest_fits a b i (f (suc i) (omega arith))))

add_below : (n a b : ℕ) → a < 2 ^ (16 * n) → b < 2 ^ (16 * n) → ((i : ℕ) → i < n → lane a i + lane b i < 65536) → a + b < 2 ^ (16 * n)
add_below zero a b la lb f = omega arith
add_below (suc n) a b la lb f =
    let e : 16 * suc n ≡ 16 * n + 16 = omega arith in
    let h : a / 65536 + b / 65536 < 2 ^ (16 * n) =
    add_below n (a / 65536) (b / 65536) (fewer a n la) (fewer b n lb) (λ i l. rest_fits a b i (f (suc i) (omega arith))) in
    rw (e, pow-add 2 (16 * n) 16) (under a b (2 ^ (16 * n)) (first_fits a b (f 0 (omega arith))) h)
  where
    under : (a b p : ℕ) → a % 65536 + b % 65536 < 65536 → a / 65536 + b / 65536 < p → a + b < p * 65536
    under a b p f h = omega arith

module _ (a b : ℕ) (fits : (i : ℕ) → i < 4 → lane a i + lane b i < 65536) where
  pub lane_add : (j : ℕ) → j < 4 → lane (a + b) j ≡ lane a j + lane b j
  lane_add j l = add_lane j a b (λ i h. fits i (omega arith))

  pub add-fits : a < 2 ^ 64 → b < 2 ^ 64 → a + b < 2 ^ 64
  add-fits la lb = add_below 4 a b la lb fits

-- ---- differences

module _ (a b : ℕ) (f : lane b 0 ≤ lane a 0) where
  first_enough : b % 65536 ≤ a % 65536
  first_enough = omega (arith, lane_first a, lane_first b)

rest_enough : (a b j : ℕ) → lane b (suc j) ≤ lane a (suc j) → lane (b / 65536) j ≤ lane (a / 65536) j
rest_enough a b j f = omega (arith, lane_next a j, lane_next b j)

sub_lane : (j a b : ℕ) → b ≤ a → ((i : ℕ) → i ≤ j → lane b i ≤ lane a i) → lane (a - b) j ≡ lane a j - lane b j
sub_lane zero a b l f = rw (lane_first (a - b), lane_first a, lane_first b) (sub_first a b (first_enough a b (f 0 (omega arith))) l)
sub_lane (suc j) a b l f =
    rw (lane_next (a - b) j, lane_next a j, lane_next b j, sub_rest a b (first_enough a b (f 0 (omega arith))))
    (sub_lane j (a / 65536) (b / 65536) (omega arith) (λ i h. rest_enough a b i (f (suc i) (omega arith))))

lanes_le : (n a b : ℕ) → b < 2 ^ (16 * n) → ((i : ℕ) → i < n → lane b i ≤ lane a i) → b ≤ a
lanes_le zero a b lb f = omega arith
lanes_le (suc n) a b lb f =
    let h : b / 65536 ≤ a / 65536 = lanes_le n (a / 65536) (b / 65536) (fewer b n lb) (λ i l. rest_enough a b i (f (suc i) (omega arith))) in
    together (first_enough a b (f 0 (omega arith))) h
  where
    together : b % 65536 ≤ a % 65536 → b / 65536 ≤ a / 65536 → b ≤ a
    together f h = omega arith

module _ (a b : ℕ) (word : b < 2 ^ 64) (enough : (i : ℕ) → i < 4 → lane b i ≤ lane a i) where
  pub sub-fits : b ≤ a
  sub-fits = lanes_le 4 a b word enough

  pub lane_sub : (j : ℕ) → j < 4 → lane (a - b) j ≡ lane a j - lane b j
  lane_sub j l = sub_lane j a b sub-fits (λ i h. enough i (omega arith))

-- ---- a value in one lane alone

raised : (v q : ℕ) → v * 2 ^ (16 * suc q) ≡ v * 2 ^ (16 * q) * 65536 + 0
raised v q =
    let e : 16 * suc q ≡ 16 * q + 16 = omega arith in
    rw (e, pow-add 2 (16 * q) 16) (omega (arith, mul_assoc v (2 ^ (16 * q)) 65536))

pub lane_unit : (v q j : ℕ) → v < 65536 → lane (v * 2 ^ (16 * q)) j ≡ cond (eqb j q) v 0
lane_unit v zero zero l = lane_first (v * 2 ^ 0) ∙ omega arith
lane_unit v zero (suc j) l =
    let e : v * 1 / 65536 ≡ 0 = omega arith in
    lane_next (v * 1) j ∙ rw (e, eqb-suc-zero j) (lane_zero j)
lane_unit v (suc q) zero l = rw (raised v q, eqb-zero-suc q) (low_of (v * 2 ^ (16 * q)) 0 (omega arith))
lane_unit v (suc q) (suc j) l = rw (raised v q, eqb-suc-suc j q) (high_of (v * 2 ^ (16 * q)) 0 j (omega arith) ∙ lane_unit v q j l)
