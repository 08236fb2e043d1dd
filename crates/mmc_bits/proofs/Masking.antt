-- The verdicts of a place as masks: what each level's counters tell is one digit. Assumes nothing.
use Prim.Native.Nat.{ℕ, zero, suc, ◌+◌, ◌*◌, ◌^◌, ◌≤◌, ◌<◌, min}
use mathlib.Core.Path.{◌≡◌, refl, sym, ◌∙◌}
use mathlib.Core.List.{List}
use native.Mathlib.Omega.{arith}
use native.Mathlib.Nat.{mul-le-mul_right, pow-succ', min-zero}
use lib.ListN.{get_or}
use lib.Pow.{pow_mono, ones_lt}
use lib.Dec.{ltb}
use lib.Bits.{bit_and, bit_xor, and_le_r}
use borrow.Author.Tests.{ltb-true, ltb-false}
use Rattle.race.specs.Race.{judge, hit_of}
use Rattle.race.proofs.Cases.{tested, same?}
use Rattle.verdicts.specs.declared.Masks.{Masks}
use Rattle.verdicts.specs.Inner.Told.{Told, digit, spoke_of}
use Rattle.verdicts.proofs.Digits.{apart, digit_and, digit_xor, digit_on, digit_under}
use Rattle.mmc_bits.specs.Levels.{levels, cap}
use Rattle.mmc_bits.specs.Counters.{context, counter}
use Rattle.mmc_bits.specs.Guesses.{own, guess}
use Rattle.mmc_bits.specs.Inner.Steps.{Bits, leaning, leanings, followed, Speaking}
use Rattle.mmc_bits.proofs.Cases.{lean_le}
use Rattle.mmc_bits.proofs.Ones.{digit_ones, digit_none, digit_same}
use Rattle.mmc_bits.proofs.Room.{room}
use Rattle.mmc_bits.proofs.Guessing.{right_is, spoke_is}
use Rattle.mmc_bits.proofs.Shorter.{own_silent, guess_own}

-- ---- the mask of the levels that have more zeros

pub leaning_le : (cap L : ℕ) (b : List ℕ) (i : ℕ) → leaning cap L b i ≤ 1
unfolding leaning
leaning_le cap L b i = lean_le (counter cap L b (context L b i * 2) i) (counter cap L b (context L b i * 2 + 1) i)

module _ (cap : ℕ) (b : List ℕ) (i : ℕ) where
  pub leanings_more : (n : ℕ) → leanings cap (suc n) b i ≡ leaning cap (suc n) b i * 2 ^ n + leanings cap n b i
  unfolding leanings
  leanings_more n = refl

  pub leanings_none : 0 ≡ leanings cap 0 b i
  unfolding leanings
  leanings_none = refl

  pub leanings_lt : (n : ℕ) → leanings cap n b i < 2 ^ n
  leanings_lt zero = omega (arith, leanings_none)
  leanings_lt (suc n) =
      omega (arith, leanings_more n, leanings_lt n, pow-succ' 2 n, mul-le-mul_right (2 ^ n) (leaning_le cap (suc n) b i))

  pub leanings_digit : (n j : ℕ) → j < n → digit (leanings cap n b i) j ≡ leaning cap (suc j) b i
  leanings_digit zero j h = absurd (omega arith)
  leanings_digit (suc n) j h =
      rw (leanings_more n)
      (same? j n
      (λ e. rw e (digit_on (leanings cap n b i) (leaning cap (suc n) b i) n (leanings_lt n) (leaning_le cap (suc n) b i)))
      (λ ne. digit_under (leanings cap n b i) (leaning cap (suc n) b i) n (leanings_lt n) (leaning_le cap (suc n) b i) j (omega arith)
      ∙ leanings_digit n j (omega arith)))

-- ---- the levels to `top` were looked at, and no longer one has a count

module _ (b : List ℕ) (i : ℕ) (bs : Bits b) {top mask : ℕ} (S : Speaking b i top mask) (few : top ≤ levels)
    (rest : (j : ℕ) → top ≤ j → j < levels → followed cap (suc j) b i ≡ 0) where
  -- a level within the mask speaks
  module _ (j : ℕ) (l : j < levels) (h : j < S.longest) where
    right_in : hit_of (judge (guess cap b i j) (get_or b i 0)) ≡ min (apart (leaning cap (suc j) b i) (get_or b i 0)) 1
    unfolding own leaning followed
    right_in = rw (guess_own cap levels room b bs i j l)
        (right_is (counter cap (suc j) b (context (suc j) b i * 2) i) (counter cap (suc j) b (context (suc j) b i * 2 + 1) i) (S.speaks j h) (get_or b i 0) (bs i))

    spoke_in : spoke_of (judge (guess cap b i j) (get_or b i 0)) ≡ 1
    unfolding own followed
    spoke_in = rw (guess_own cap levels room b bs i j l)
        (spoke_is (counter cap (suc j) b (context (suc j) b i * 2) i) (counter cap (suc j) b (context (suc j) b i * 2 + 1) i) (S.speaks j h) (get_or b i 0) (bs i))

  -- and any other is silent
  module _ (j : ℕ) (l : j < levels) (h : S.longest ≤ j) where
    none_here : followed cap (suc j) b i ≡ 0
    none_here = tested (ltb j top) (λ t. S.quiet j h (ltb-true _ _ t)) (λ t. rest j (ltb-false _ _ t) l)

    right_out : hit_of (judge (guess cap b i j) (get_or b i 0)) ≡ 0
    right_out = rw (guess_own cap levels room b bs i j l, own_silent cap (suc j) b i none_here) refl

    spoke_out : spoke_of (judge (guess cap b i j) (get_or b i 0)) ≡ 0
    spoke_out = rw (guess_own cap levels room b bs i j l, own_silent cap (suc j) b i none_here) refl

  module _ (zeros x : ℕ) (e : zeros ≡ leanings cap top b i) (f : x ≡ get_or b i 0) where
    right_here : (j : ℕ) → j < levels → digit (bit_and (bit_xor zeros (65535 * x)) mask) j ≡ hit_of (judge (guess cap b i j) (get_or b i 0))
    right_here j l = digit_and (bit_xor zeros (65535 * x)) mask j ∙ tested (ltb j S.longest)
        (λ t. let h : j < S.longest = ltb-true _ _ t in
        let k : j < top = omega (arith, S.within) in
        rw (S.mask_is, digit_ones S.longest j h, digit_xor zeros (65535 * x) j, digit_same levels x j (omega (arith, bs i)) l, e, leanings_digit cap b i top j k, f)
        (sym (right_in j l h)))
        (λ t. let h : S.longest ≤ j = ltb-false _ _ t in
        rw (S.mask_is, digit_none S.longest j h, min-zero) (sym (right_out j l h)))

    spoke_here : (j : ℕ) → j < levels → digit mask j ≡ spoke_of (judge (guess cap b i j) (get_or b i 0))
    spoke_here j l = tested (ltb j S.longest)
        (λ t. let h : j < S.longest = ltb-true _ _ t in rw (S.mask_is, digit_ones S.longest j h) (sym (spoke_in j l h)))
        (λ t. let h : S.longest ≤ j = ltb-false _ _ t in rw (S.mask_is, digit_none S.longest j h) (sym (spoke_out j l h)))

    few_rights : bit_and (bit_xor zeros (65535 * x)) mask < 2 ^ levels
    few_rights =
        omega (arith, and_le_r (bit_xor zeros (65535 * x)) mask, S.mask_is, ones_lt S.longest, pow_mono {i = S.longest} {j = levels} (omega (arith, S.within)))

    pub masks_tell : {masks : Masks} → masks.rights ≡ bit_and (bit_xor zeros (65535 * x)) mask → masks.speaking ≡ mask
        → Told levels (λ j. judge (guess cap b i j) (get_or b i 0)) masks
    masks_tell r s =
        record {
          right = λ j l. rw r (right_here j l);
          spoke = λ j l. rw s (spoke_here j l);
          few = rw r few_rights;
        }
