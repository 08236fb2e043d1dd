-- A word taken apart into its lanes, the lowest first, and put together again. Assumes nothing.
use mathlib.Core.Path.{◌≡◌, sym, ap, ◌∙◌}
use Prim.Native.Nat.{ℕ, zero, suc, ◌+◌, ◌*◌, ◌/◌, ◌%◌, ◌^◌, ◌<◌}
use native.Mathlib.Omega.{arith}
use native.Mathlib.Nat.{zero-div, div-eq_of_lt}
use lib.Pow.{shr-shr, shr_lt}
use Rattle.lanes.specs.Inner.Lanes.{lane}

-- what holds of the four lanes holds of each
pub each_lane : (P : ℕ → Type 0) → P 0 → P 1 → P 2 → P 3 → (j : ℕ) → j < 4 → P j
each_lane P p q r s zero l = p
each_lane P p q r s (suc zero) l = q
each_lane P p q r s (suc (suc zero)) l = r
each_lane P p q r s (suc (suc (suc zero))) l = s
each_lane P p q r s (suc (suc (suc (suc j)))) l = absurd (omega arith)

pub lane_lt : (w j : ℕ) → lane w j < 65536
unfolding lane
lane_lt w j = omega arith

pub lane_first : (w : ℕ) → lane w 0 ≡ w % 65536
unfolding lane
lane_first w = omega arith

-- the lanes above the lowest are those of the word without it
pub lane_next : (w j : ℕ) → lane w (suc j) ≡ lane (w / 65536) j
unfolding lane
lane_next w j =
    let e : 16 * suc j ≡ 16 + 16 * j = omega arith in
    rw e (ap (λ (x : ℕ). x % 65536) (sym (shr-shr w 16 (16 * j))))

pub lane_zero : (j : ℕ) → lane 0 j ≡ 0
unfolding lane
lane_zero j = rw (zero-div (2 ^ (16 * j)))

-- nothing is above the lanes of a word
pub lane_past : (w n : ℕ) → w < 2 ^ (16 * n) → lane w n ≡ 0
unfolding lane
lane_past w n l = rw (div-eq_of_lt l)

-- a word made of its lowest lane and the rest
pub low_of : (h l : ℕ) → l < 65536 → lane (h * 65536 + l) 0 ≡ l
low_of h l b = lane_first (h * 65536 + l) ∙ omega arith

pub high_of : (h l j : ℕ) → l < 65536 → lane (h * 65536 + l) (suc j) ≡ lane h j
high_of h l j b =
    let e : (h * 65536 + l) / 65536 ≡ h = omega arith in
    lane_next (h * 65536 + l) j ∙ ap (λ (x : ℕ). lane x j) e

-- n lanes hold a word without its lowest where n + 1 hold it
pub fewer : (w n : ℕ) → w < 2 ^ (16 * suc n) → w / 65536 < 2 ^ (16 * n)
fewer w n l =
    let e : 16 * suc n ≡ 16 * n + 16 = omega arith in
    shr_lt (16 * n) 16 (rw e at l)

-- two words of n lanes are alike where their lanes are
pub alike : (n a b : ℕ) → a < 2 ^ (16 * n) → b < 2 ^ (16 * n) → ((j : ℕ) → j < n → lane a j ≡ lane b j) → a ≡ b
alike zero a b la lb e = omega arith
alike (suc n) a b la lb e =
    let f : a % 65536 ≡ b % 65536 = sym (lane_first a) ∙ e 0 (omega arith) ∙ lane_first b in
    let g : a / 65536 ≡ b / 65536 =
    alike n (a / 65536) (b / 65536) (fewer a n la) (fewer b n lb) (λ j l. sym (lane_next a j) ∙ e (suc j) (omega arith) ∙ lane_next b j) in
    omega arith

pub words_alike : (a b : ℕ) → a < 2 ^ 64 → b < 2 ^ 64 → ((j : ℕ) → j < 4 → lane a j ≡ lane b j) → a ≡ b
words_alike a b la lb e = alike 4 a b la lb e

-- a word as the sum of its lanes
pub lane_sum : (w : ℕ) → w < 2 ^ 64 → w ≡ ((lane w 3 * 65536 + lane w 2) * 65536 + lane w 1) * 65536 + lane w 0
lane_sum w l =
    let x : ℕ = w / 65536 in
    let y : ℕ = x / 65536 in
    let z : ℕ = y / 65536 in
    let a : lane w 0 ≡ w % 65536 = lane_first w in
    let b : lane w 1 ≡ x % 65536 = lane_next w 0 ∙ lane_first x in
    let c : lane w 2 ≡ y % 65536 = lane_next w 1 ∙ lane_next x 0 ∙ lane_first y in
    let d : lane w 3 ≡ z % 65536 = lane_next w 2 ∙ lane_next x 1 ∙ lane_next y 0 ∙ lane_first z in
    rw (a, b, c, d) (sums w l)
  where
    sums : (w : ℕ) → w < 2 ^ 64 → w ≡ ((w / 65536 / 65536 / 65536 % 65536 * 65536 + w / 65536 / 65536 % 65536) * 65536 + w / 65536 % 65536) * 65536 + w % 65536
    sums w l = omega arith
