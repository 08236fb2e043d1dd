-- What the steps of the code on a level's part ask and give at a place of a history. Assumes nothing.
use Prim.Native.Nat.{ℕ, suc, ◌+◌, ◌*◌, ◌-◌, ◌%◌, ◌^◌, ◌≤◌, ◌<◌, min}
use mathlib.Core.Path.{◌≡◌, refl, sym, ap, ◌∙◌}
use mathlib.Core.List.{List}
use native.Mathlib.Omega.{arith}
use native.Mathlib.Nat.{add_comm, mul-le-mul_right, mod-eq_of_lt}
use lib.ListN.{get_or, set, length, take, drop}
use lib.Pow.{pow_pos, pow_mono}
use lib.Bits.{bit_and, and_le_r}
use borrow.Rule.Slice.PartMut.{put_mid}
use Rattle.mmc_bits.specs.Levels.{levels, cap}
use Rattle.mmc_bits.specs.Counters.{context, pair, counter}
use Rattle.mmc_bits.specs.Space.{part, size}
use Rattle.mmc_bits.specs.Inner.Steps.{Bits, counter_end, lean, leaning, leanings, bumped, kept, Entered, Passed, Last, Ended, distinct}
use Rattle.mmc_bits.proofs.Counting.{counter_le}
use Rattle.mmc_bits.proofs.Room.{context_lt, pair_lt, room}
use Rattle.mmc_bits.proofs.Contexts.{key}
use Rattle.mmc_bits.proofs.Seeking.{shifted}
use Rattle.mmc_bits.proofs.Parts.{length_part, get_d_part, part_step, part_last, kept_last, mixed_none, mixed_all, lent, back}
use Rattle.mmc_bits.proofs.Masking.{leaning_le, leanings_none, leanings_more, leanings_lt}

pub size_is : size levels ≡ 262140
unfolding size
size_is = refl

-- a level's part xs, before place i; its context's counters stand at `at`
module _ (cap L : ℕ) (b : List ℕ) (i : ℕ) (xs : List ℕ) (at bit : ℕ) (x : xs ≡ part cap L b i) (a : at ≡ context L b i * 2) (e : bit ≡ get_or b i 0) where
  here : at + bit ≡ pair L b i
  unfolding pair
  here = rw (a, e) refl

  zeros_are : get_or xs at 0 ≡ counter cap L b (context L b i * 2) i
  zeros_are = rw (x, a) (get_d_part cap L b i (context L b i * 2) (omega (arith, context_lt L b i)))

  ones_are : get_or xs (at + 1) 0 ≡ counter cap L b (context L b i * 2 + 1) i
  ones_are = rw (x, a) (get_d_part cap L b i (context L b i * 2 + 1) (omega (arith, context_lt L b i)))

  pub asks : Bits b → suc i < counter_end → (at + 1 < length xs) × (bit < 2) × (get_or xs (at + bit) 0 + 1 < counter_end)
  asks bs f = (
    omega (arith, ap length x, length_part cap L b i, context_lt L b i),
    omega (arith, bs i),
    rw (here, x, get_d_part cap L b i (pair L b i) (pair_lt L b bs i)) (omega (arith, counter_le cap L b (pair L b i) i)),
  )

  pub gives : lean (get_or xs at 0) (get_or xs (at + 1) 0) ≡ leaning cap L b i
  unfolding leaning
  gives = rw (zeros_are, ones_are) refl

  pub stored : Bits b → L ≤ i → (n : ℕ) → 2 ^ n ≤ cap → L < n → set xs (at + bit) (get_or xs (at + bit) 0 + 1) ≡ part cap L b (suc i)
  stored bs r n room l = rw (here, x) (part_step cap L b i bs r n room l)

  -- the same under the cap
  pub stored_last : Bits b → L ≤ i → (n : ℕ) → n ≡ min (distinct L b i) cap → set xs (at + bit) (bumped cap (get_or xs (at + bit) 0) n) ≡ part cap L b (suc i)
  stored_last bs r n f = rw (here, x) (part_last cap L b i bs r n f)

  pub number_last : Bits b → L ≤ i → (n : ℕ) → n ≡ min (distinct L b i) cap → kept cap (get_or xs (at + bit) 0) n ≡ min (distinct L b (suc i)) cap
  number_last bs r n f = rw (here, x) (kept_last cap L b i bs r n f)

-- the number of a level's contexts
pub width : (l w : ℕ) → l < levels → w ≡ 2 ^ suc l → (2 ≤ w) × (w ≤ 65536)
width l w h e = let m : 2 ^ suc l ≤ 65536 = pow_mono {i = suc l} {j = levels} h in omega (arith, pow_pos l)

-- as the code makes it
pub doubled : (l : ℕ) → l < levels → 2 * 2 ^ l % 18446744073709551616 ≡ 2 ^ suc l
doubled l h =
    let e : suc l - 1 ≡ l = omega arith in
    rw e at (shifted (suc l) (omega arith) h)

-- the digit of level l + 1 in a mask, as the code makes it
pub digit_is : (v l : ℕ) → v ≤ 1 → l < levels → v * 2 ^ l % 4294967296 ≡ v * 2 ^ l
digit_is v l h k =
    let m : 2 ^ l ≤ 65536 = pow_mono {i = l} {j = levels} (omega arith) in
    mod-eq_of_lt (omega (arith, mul-le-mul_right (2 ^ l) h))

-- levels below the last have digits below 2 to the power 15
pub digits_fit : (v l top z : ℕ) → v ≤ 1 → l < top → top < levels → z < 65536 → z + v * 2 ^ l % 4294967296 < 4294967296
digits_fit v l top z h k few f =
    let m : 2 ^ l ≤ 65536 = pow_mono {i = l} {j = levels} (omega arith) in
    omega (arith, digit_is v l h (omega arith), mul-le-mul_right (2 ^ l) h)

-- and where the counters of a context stand among them
pub mask_fits : (recent w : ℕ) → (2 ≤ w) × (w ≤ 65536) → bit_and recent (w - 1) * 2 < 18446744073709551616
mask_fits recent w h = omega (arith, and_le_r recent (w - 1), h.1)

-- the part that is lent where a level has w contexts, and the slice once it is back
abbrev pub lent_part : ℕ → List ℕ → List ℕ
lent_part w s = take (w * 4 - 4 - (w * 2 - 4)) (drop (w * 2 - 4) s)

abbrev pub put_back : ℕ → List ℕ → List ℕ → List ℕ
put_back w s t = put_mid (w * 2 - 4) (w * 4 - 4 - (w * 2 - 4)) s t

-- the mask of some levels
pub zeros_fit : {b : List ℕ} {i l zeros : ℕ} {counters₀ counters : List ℕ} → Passed b i l counters₀ counters zeros → l < levels → zeros < 65536
zeros_fit {b} {i} {l} p h = let m : 2 ^ l ≤ 65536 = pow_mono {i = l} {j = levels} (omega arith) in omega (arith, p.zeros_are, leanings_lt cap b i l)

-- ---- level l + 1, which is not the last

module _ {b : List ℕ} {i recent bit top : ℕ} {counters₀ : List ℕ} (h : Entered b i recent bit top counters₀) where
  pub passed_none : Passed b i 0 counters₀ counters₀ 0
  passed_none = record { zeros_are = leanings_none cap b i; counted = h.counted ∙ mixed_none cap levels b i (drop (size levels) counters₀) }

  module _ {l : ℕ} {counters : List ℕ} {zeros : ℕ} (p : Passed b i l counters₀ counters zeros) (w : ℕ) (lt : l < top) (few : top < levels) (e : w ≡ 2 ^ suc l) where
    in_part : lent_part w counters ≡ part cap (suc l) b i
    in_part = lent cap levels l b i (drop (size levels) counters₀) counters w (omega arith) e p.counted

    at_context : bit_and recent (w - 1) * 2 ≡ context (suc l) b i * 2
    at_context = key levels l b i recent w (omega arith) e h.stands.recent_is

    pub level_asks : (bit_and recent (w - 1) * 2 + 1 < length (lent_part w counters)) × (bit < 2)
        × (get_or (lent_part w counters) (bit_and recent (w - 1) * 2 + bit) 0 + 1 < counter_end)
    level_asks =
        asks cap (suc l) b i (lent_part w counters) (bit_and recent (w - 1) * 2) bit in_part at_context h.stands.bit_is h.stands.bits
        (omega (arith, h.stands.inside, h.stands.short))

    module _ (v : ℕ) (t : List ℕ)
        (gv : v ≡ lean (get_or (lent_part w counters) (bit_and recent (w - 1) * 2) 0) (get_or (lent_part w counters) (bit_and recent (w - 1) * 2 + 1) 0))
        (gt : t ≡ set (lent_part w counters) (bit_and recent (w - 1) * 2 + bit) (get_or (lent_part w counters) (bit_and recent (w - 1) * 2 + bit) 0 + 1)) where
      leans_here : v ≡ leaning cap (suc l) b i
      leans_here = gv ∙ gives cap (suc l) b i (lent_part w counters) (bit_and recent (w - 1) * 2) bit in_part at_context h.stands.bit_is

      counted_here : t ≡ part cap (suc l) b (suc i)
      counted_here =
          gt ∙ stored cap (suc l) b i (lent_part w counters) (bit_and recent (w - 1) * 2) bit in_part at_context h.stands.bit_is h.stands.bits
          (omega (arith, h.taking)) levels room (omega arith)

      pub level_passes : Passed b i (suc l) counters₀ (put_back w counters t) (zeros + v * 2 ^ l % 4294967296)
      level_passes =
          let one : v ≤ 1 = rw leans_here (leaning_le cap (suc l) b i) in
          record {
            zeros_are = rw (digit_is v l one (omega arith), leans_here, p.zeros_are) (add_comm (leanings cap l b i) _ ∙ sym (leanings_more cap b i l));
            counted = back cap levels l b i (drop (size levels) counters₀) counters w (omega arith) e p.counted t counted_here;
          }

-- ---- the last level

module _ {b : List ℕ} {i recent bit n : ℕ} {counters : List ℕ} (h : Last b i recent bit n counters) (w : ℕ) (e : w ≡ 2 ^ levels) where
  last_part : lent_part w counters ≡ part cap levels b i
  last_part = lent cap levels 15 b i (drop (size levels) counters) counters w (omega arith) e h.counted

  last_context : recent * 2 ≡ context levels b i * 2
  last_context = ap (λ (m : ℕ). m * 2) h.stands.recent_is

  pub last_fits : recent * 2 < 4294967296
  last_fits = omega (arith, h.stands.recent_is, context_lt levels b i)

  pub last_asks : (recent * 2 + 1 < length (lent_part w counters)) × (bit < 2)
      × (get_or (lent_part w counters) (recent * 2 + bit) 0 + 1 < counter_end)
  last_asks =
      asks cap levels b i (lent_part w counters) (recent * 2) bit last_part last_context h.stands.bit_is h.stands.bits
      (omega (arith, h.stands.inside, h.stands.short))

  module _ (r m : ℕ) (t : List ℕ)
      (gr : r ≡ lean (get_or (lent_part w counters) (recent * 2) 0) (get_or (lent_part w counters) (recent * 2 + 1) 0))
      (gm : m ≡ kept cap (get_or (lent_part w counters) (recent * 2 + bit) 0) n)
      (gt : t ≡ set (lent_part w counters) (recent * 2 + bit) (bumped cap (get_or (lent_part w counters) (recent * 2 + bit) 0) n)) where
    last_counted : t ≡ part cap levels b (suc i)
    last_counted =
        gt
        ∙ stored_last cap levels b i (lent_part w counters) (recent * 2) bit last_part last_context
        h.stands.bit_is h.stands.bits h.long n h.stored_is

    pub last_ends : Ended b i r m counters (put_back w counters t)
    last_ends =
        record {
          zero_is = gr ∙ gives cap levels b i (lent_part w counters) (recent * 2) bit last_part last_context h.stands.bit_is;
          stored_is = gm
              ∙ number_last cap levels b i (lent_part w counters) (recent * 2) bit last_part last_context
              h.stands.bit_is h.stands.bits h.long n h.stored_is;
          counted = back cap levels 15 b i (drop (size levels) counters) counters w (omega arith) e h.counted t last_counted
              ∙ mixed_all cap levels b i (drop (size levels) counters);
        }
