-- The search for the longest level that has a count: what is known once the levels above one are seen to have none. Assumes nothing.
use Prim.Native.Nat.{ℕ, zero, suc, ◌+◌, ◌*◌, ◌-◌, ◌%◌, ◌^◌, ◌≤◌, ◌<◌}
use mathlib.Core.Path.{◌≡◌, refl, ap, ◌∙◌}
use mathlib.Core.List.{List}
use native.Mathlib.Omega.{arith}
use native.Mathlib.Nat.{add_assoc, pow-succ', mod-eq_of_lt}
use lib.ListN.{get_or, drop}
use lib.Pow.{pow_pos, pow_mono}
use lib.Bits.{bit_and, bit_or, or_add_and, and_le_l, and_le_r}
use Rattle.race.proofs.Cases.{same?}
use Rattle.mmc_bits.specs.Levels.{levels, cap}
use Rattle.mmc_bits.specs.Counters.{context, counter}
use Rattle.mmc_bits.specs.Space.{size}
use Rattle.mmc_bits.specs.Inner.Steps.{followed, Entered, Speaking}
use Rattle.mmc_bits.proofs.Room.{context_lt, room}
use Rattle.mmc_bits.proofs.Contexts.{key}
use Rattle.mmc_bits.proofs.Parts.{level_read}
use Rattle.mmc_bits.proofs.Shorter.{followed_shorter}

-- where the counters of a context stand
abbrev pub stand : ℕ → ℕ → ℕ
stand recent w = w * 2 - 4 + bit_and recent (w - 1) * 2

pub stand_inside : (recent w : ℕ) → 1 < w → w ≤ 65536 → stand recent w + 1 < 262140
stand_inside recent w h l = omega (arith, and_le_r recent (w - 1))

-- two numbers with no digit are 0
or_none : (m n : ℕ) → bit_or m n ≡ 0 → m + n ≡ 0
or_none m n e = omega (arith, or_add_and m n, and_le_l m n, and_le_r m n)

or_some : (m n : ℕ) → (bit_or m n ≡ 0 → ⊥) → 0 < m + n
or_some m n ne = same? (m + n) 0
    (λ e. absurd (ne (let a : m ≡ 0 = omega arith in let c : n ≡ 0 = omega arith in rw (a, c) refl)))
    (λ e. omega arith)

-- a level's number of contexts, as the code makes it
pub shifted : (k : ℕ) → 0 < k → k ≤ levels → 2 * 2 ^ (k - 1) % 18446744073709551616 ≡ 2 ^ k
shifted zero p l = absurd (omega arith)
shifted (suc k) p l =
    let e : suc k - 1 ≡ k = omega arith in
    let m : 2 ^ suc k ≤ 65536 = pow_mono {i = suc k} {j = levels} l in
    rw (e, ← pow-succ' 2 k) (mod-eq_of_lt (omega arith))

-- the levels from k on to `top` have no count
abbrev pub Quiet : List ℕ → ℕ → ℕ → ℕ → Type 0
Quiet b i top k = (j : ℕ) → k ≤ j → j < top → followed cap (suc j) b i ≡ 0

module _ {b : List ℕ} {i recent bit top : ℕ} {counters : List ℕ} (en : Entered b i recent bit top counters) (few : top ≤ levels) where
  -- all levels were passed
  pub sought_none : Quiet b i top 0 → Speaking b i top 0
  sought_none Q =
      record {
        longest = 0;
        within = omega arith;
        mask_is = refl;
        speaks = λ j l. absurd (omega arith);
        quiet = λ j l k. Q j l k;
      }

  -- level k is looked at, which has w contexts
  module _ {k w : ℕ} (some : 0 < k) (within : k ≤ top) (width_is : w ≡ 2 ^ k) where
    abbrev m : ℕ
    m = k - 1

    at_level : k ≡ suc m
    at_level = omega arith

    width_here : w ≡ 2 ^ suc m
    width_here = width_is ∙ ap (λ (n : ℕ). 2 ^ n) at_level

    inside : m < levels
    inside = omega arith

    pub sought_narrow : (1 < w) × (w ≤ 65536)
    sought_narrow =
        let s : 2 ^ k ≤ 65536 = pow_mono {i = k} {j = levels} (omega arith) in
        let t : 2 ^ k ≡ 2 ^ suc m = ap (λ (n : ℕ). 2 ^ n) at_level in
        (omega (arith, pow_pos m, pow-succ' 2 m), omega arith)

    -- its context's counters are read
    reads : get_or counters (stand recent w) 0 + get_or counters (stand recent w + 1) 0 ≡ followed cap (suc m) b i
    unfolding followed
    reads =
        let at : bit_and recent (w - 1) * 2 ≡ context (suc m) b i * 2 = key levels m b i recent w inside width_here en.stands.recent_is in
        let few : context (suc m) b i * 2 + 1 < w * 2 = omega (arith, context_lt (suc m) b i, width_here) in
        let read : (k : ℕ) → k < w * 2 → get_or counters (w * 2 - 4 + k) 0 ≡ counter cap (suc m) b k i =
        level_read cap levels m b i (drop (size levels) counters) counters w inside width_here en.counted in
        rw (at, add_assoc (w * 2 - 4) (context (suc m) b i * 2) 1, read (context (suc m) b i * 2) (omega arith), read (context (suc m) b i * 2 + 1) few) refl

    pub sought_found : (bit_or (get_or counters (stand recent w) 0) (get_or counters (stand recent w + 1) 0) ≡ 0 → ⊥) → Quiet b i top k
        → Speaking b i top (w - 1)
    sought_found ne Q =
        record {
          longest = suc m;
          within = omega (arith, at_level);
          mask_is = ap (λ (n : ℕ). n - 1) width_here;
          speaks = λ j l.
              let e : m - j + suc j ≡ suc m = omega arith in
              omega (
                arith,
                or_some (get_or counters (stand recent w) 0) (get_or counters (stand recent w + 1) 0) ne,
                reads,
                rw e at (followed_shorter cap levels room b en.stands.bits (m - j) (suc j) i (omega (arith, inside))),
              );
          quiet = λ j l h. Q j (omega (arith, at_level)) h;
        }

    pub sought_next : bit_or (get_or counters (stand recent w) 0) (get_or counters (stand recent w + 1) 0) ≡ 0 → Quiet b i top k → Quiet b i top (k - 1)
    sought_next e Q j l h =
        same? j m
        (λ q. rw q (omega (arith, or_none (get_or counters (stand recent w) 0) (get_or counters (stand recent w + 1) 0) e, reads)))
        (λ q. Q j (omega (arith, at_level)) h)
