-- A capture on which the cap acts: the one that spells all numbers of L + 1 bits has every pair of level L. Assumes nothing.
use Prim.Native.Nat.{ℕ, zero, suc, ◌+◌, ◌*◌, ◌-◌, ◌/◌, ◌%◌, ◌^◌, ◌≤◌, ◌<◌, min}
use mathlib.Core.Path.{◌≡◌, refl, ap, ◌∙◌}
use mathlib.Core.List.{List}
use native.Mathlib.Omega.{arith}
use native.Mathlib.Nat.{div-add-mod', mod-lt, div-one, div-eq_of_lt, mul-le-mul_right, pow-succ'}
use lib.ListN.{get_or, length, get_or-eq_default}
use lib.Pow.{pow_pos, shr-shr}
use lib.Dec.{leb, ltb, eqb}
use borrow.Author.Tests.{eqb-true, eqb-false, leb-true, leb-false, ltb-true, ltb-false}
use Rattle.capture.specs.Limit.{symbol_limit}
use Rattle.capture.specs.Bits.{table}
use Rattle.capture.proofs.Walking.{quotient_is, remainder_is}
use Rattle.mmc_bits.specs.Levels.{levels, cap}
use Rattle.mmc_bits.specs.Counters.{before, context, pair, occurs, counter}
use Rattle.mmc_bits.specs.Inner.Steps.{Bits, distinct}
use Rattle.race.proofs.Cases.{tested}
use Rattle.capture.proofs.Bitstring.{table_length, table_at}
use Rattle.mmc_bits.proofs.Counting.{
  occurs_same,
  occurs_other,
  occurs_early,
  occurs_more,
  distinct_new,
  distinct_old,
  distinct_early,
  counter_none,
  counter_full,
}
use Rattle.mmc_bits.proofs.Room.{seen}

-- ---- a level has as many distinct pairs as there are pairs that occurred

module _ (L : ℕ) (b : List ℕ) where
  seen_none : (n : ℕ) → seen L b n 0 ≡ 0
  unfolding seen
  seen_none zero = refl
  seen_none (suc n) = omega (arith, seen_none n, occurs_early L b n 0 (omega arith))

  seen_same : (i : ℕ) → ((k : ℕ) → min 1 (occurs L b k (suc i)) ≡ min 1 (occurs L b k i)) → (n : ℕ) → seen L b n (suc i) ≡ seen L b n i
  unfolding seen
  seen_same i e zero = refl
  seen_same i e (suc n) = omega (arith, seen_same i e n, e n)

  -- the pairs below that of place i are as they were
  seen_below : (i n : ℕ) → n ≤ pair L b i → seen L b n (suc i) ≡ seen L b n i
  unfolding seen
  seen_below i zero h = refl
  seen_below i (suc n) h = omega (arith, seen_below i n (omega arith), occurs_other L b n i (λ e. omega arith))

  seen_step : (i n : ℕ) → seen L b n (suc i) ≤ suc (seen L b n i)
  unfolding seen
  seen_step i zero = omega arith
  seen_step i (suc n) = tested (eqb (pair L b i) n)
      (λ t. let e : pair L b i ≡ n = eqb-true _ _ t in omega (arith, seen_below i n (omega arith)))
      (λ t. omega (arith, seen_step i n, occurs_other L b n i (eqb-false _ _ t)))

  old_same : (i : ℕ) → 0 < occurs L b (pair L b i) i → (k : ℕ) → min 1 (occurs L b k (suc i)) ≡ min 1 (occurs L b k i)
  old_same i o k = tested (eqb (pair L b i) k)
      (λ t. let e : occurs L b (pair L b i) i ≡ occurs L b k i = ap (λ (m : ℕ). occurs L b m i) (eqb-true _ _ t) in omega (arith, occurs_more L b k i))
      (λ t. omega (arith, occurs_other L b k i (eqb-false _ _ t)))

  seen_le : (n i : ℕ) → seen L b n i ≤ distinct L b i
  seen_le n zero = omega (arith, seen_none n)
  seen_le n (suc i) = tested (leb L i)
      (λ t. tested (eqb (occurs L b (pair L b i) i) 0)
      (λ u. omega (arith, seen_le n i, seen_step i n, distinct_new L b i (leb-true _ _ t) (eqb-true _ _ u)))
      (λ u. let o : occurs L b (pair L b i) i ≡ 0 → ⊥ = eqb-false _ _ u in
      omega (arith, seen_le n i, seen_same i (old_same i (omega arith)) n, distinct_old L b i o)))
      (λ t. let g : i < L = leb-false _ _ t in
      omega (
        arith,
        seen_le n i,
        seen_same i (λ k. omega (arith, occurs_early L b k (suc i) g, occurs_early L b k i (omega arith))) n,
        distinct_early L b (suc i) g,
        distinct_early L b i (omega arith),
      ))

  seen_all : (n i : ℕ) → ((k : ℕ) → k < n → 0 < occurs L b k i) → seen L b n i ≡ n
  unfolding seen
  seen_all zero i f = refl
  seen_all (suc n) i f = omega (arith, seen_all n i (λ k h. f k (omega arith)), f n (omega arith))

  -- ---- where there are more distinct pairs than the cap, one of them occurred and is not counted

  pub record Uncounted (cap n : ℕ) : Type 0 where
    pub at : ℕ
    pub within : at < n
    pub once : occurs L b (pair L b at) (suc at) ≡ 1
    pub none : counter cap L b (pair L b at) (suc at) ≡ 0

  occurs_later : (k m i : ℕ) → occurs L b k i ≤ occurs L b k (m + i)
  occurs_later k zero i = let e : 0 + i ≡ i = omega arith in rw e (omega arith)
  occurs_later k (suc m) i = let e : suc m + i ≡ suc (m + i) = omega arith in rw e (omega (arith, occurs_later k m i, occurs_more L b k (m + i)))

  -- place n brings the first pair that the cap keeps out
  full_here : (cap n : ℕ) → distinct L b n ≤ cap → cap < distinct L b (suc n) → Uncounted cap (suc n)
  full_here cap n l h =
      record {
        at = n;
        within = omega arith;
        once = omega (arith, occurs_same L b (pair L b n) n late refl, new);
        none = counter_full cap L b n late (counter_none cap L b (pair L b n) n new) full;
      }
    where
      late : L ≤ n
      late = tested (leb L n) (λ t. leb-true _ _ t) (λ t. absurd (omega (arith, distinct_early L b (suc n) (leb-false _ _ t))))

      new : occurs L b (pair L b n) n ≡ 0
      new = tested (eqb (occurs L b (pair L b n) n) 0) (λ t. eqb-true _ _ t) (λ t. absurd (omega (arith, distinct_old L b n (eqb-false _ _ t))))

      full : cap ≤ distinct L b n
      full = omega (arith, distinct_new L b n late new)

  later : (cap n : ℕ) → Uncounted cap n → Uncounted cap (suc n)
  later cap n u = record { at = u.at; within = omega (arith, u.within); once = u.once; none = u.none }

  pub uncounted : (cap n : ℕ) → cap < distinct L b n → Uncounted cap n
  uncounted cap zero h = absurd (omega (arith, distinct_early L b 0 (omega arith)))
  uncounted cap (suc n) h = tested (ltb cap (distinct L b n))
      (λ t. later cap n (uncounted cap n (ltb-true _ _ t)))
      (λ t. full_here cap n (ltb-false _ _ t) h)

-- ---- all numbers of W bits, one after the other, the highest bit first

-- bit j of that: bit j % W of the number j / W
unfoldable pub digit : ℕ → ℕ → ℕ
digit W j = j / W / 2 ^ (W - 1 - j % W) % 2

unfoldable pub spelt : ℕ → List ℕ
spelt W = table (2 ^ W * W) (digit W)

pub length_spelt : (W : ℕ) → length (spelt W) ≡ 2 ^ W * W
unfolding spelt
length_spelt W = table_length (2 ^ W * W) (digit W)

get_d_spelt : (W j : ℕ) → j < 2 ^ W * W → get_or (spelt W) j 0 ≡ digit W j
unfolding spelt
get_d_spelt W j h = table_at (2 ^ W * W) (digit W) j h

inside : (W k m : ℕ) → k < 2 ^ W → m < W → k * W + m < 2 ^ W * W
inside W k m h l = omega (arith, mul-le-mul_right W h)

-- bit m of the number k
digit_of : (W k m : ℕ) → m < W → digit W (k * W + m) ≡ k / 2 ^ (W - suc m) % 2
unfolding digit
digit_of W k m l =
    let e : W - 1 - m ≡ W - suc m = omega arith in
    rw (quotient_is W k m {i = k * W + m} l refl, remainder_is W k m {i = k * W + m} l refl, e) refl

double_mod : (x c M : ℕ) → 0 < M → c < 2 → (x * 2 + c) % (2 * M) ≡ x % M * 2 + c
double_mod x c M p h = remainder_is (2 * M) (x / M) (x % M * 2 + c) (omega (arith, mod-lt x p)) (omega (arith, div-add-mod' x M))

before_more : (b : List ℕ) (i : ℕ) → before b (suc i) ≡ before b i * 2 + get_or b i 0
unfolding before
before_more b i = refl

-- after m of its bits, the number's m highest bits have been spelt
spelt_some : (W k m : ℕ) → k < 2 ^ W → m ≤ W → before (spelt W) (k * W + m) % 2 ^ m ≡ k / 2 ^ (W - m)
spelt_some W k zero h l =
    let e : W - 0 ≡ W = omega arith in
    rw e (omega (arith, mod-lt (before (spelt W) (k * W + 0)) {m = 1} (omega arith), div-eq_of_lt h))
spelt_some W k (suc m) h l =
    let y = k / 2 ^ (W - suc m) in
    let x = before (spelt W) (k * W + m) in
    let e : k * W + suc m ≡ suc (k * W + m) = omega arith in
    let s : W - suc m + 1 ≡ W - m = omega arith in
    let half : y / 2 ≡ k / 2 ^ (W - m) = shr-shr k (W - suc m) 1 ∙ ap (λ (n : ℕ). k / 2 ^ n) s in
    let bit : get_or (spelt W) (k * W + m) 0 ≡ y % 2 = get_d_spelt W (k * W + m) (inside W k m h l) ∙ digit_of W k m l in
    rw (e, before_more (spelt W) (k * W + m), bit, pow-succ' 2 m, double_mod x (y % 2) (2 ^ m) (pow_pos m) (mod-lt y {m = 2} (omega arith)))
    (omega (arith, spelt_some W k m h (omega arith), div-add-mod' y 2))

-- so its last place has the number for its pair
pair_spelt : (L k : ℕ) → k < 2 ^ suc L → pair L (spelt (suc L)) (k * suc L + L) ≡ k
unfolding pair context
pair_spelt L k h =
    let e : suc L - L ≡ 1 = omega arith in
    let z : suc L - suc L ≡ 0 = omega arith in
    let c : before (spelt (suc L)) (k * suc L + L) % 2 ^ L ≡ k / 2 = spelt_some (suc L) k L h (omega arith) ∙ ap (λ (n : ℕ). k / 2 ^ n) e in
    let d : get_or (spelt (suc L)) (k * suc L + L) 0 ≡ k % 2 =
    get_d_spelt (suc L) (k * suc L + L) (inside (suc L) k L h (omega arith))
    ∙ digit_of (suc L) k L (omega arith)
    ∙ ap (λ (n : ℕ). k / 2 ^ n % 2) z
    ∙ ap (λ (n : ℕ). n % 2) (div-one k) in
    rw (c, d) (div-add-mod' k 2)

-- and every pair of level L occurs
all_occur : (L k : ℕ) → k < 2 ^ suc L → 0 < occurs L (spelt (suc L)) k (2 ^ suc L * suc L)
all_occur L k h =
    let i = k * suc L + L in
    let l : i < 2 ^ suc L * suc L = inside (suc L) k L h (omega arith) in
    let e : 2 ^ suc L * suc L - suc i + suc i ≡ 2 ^ suc L * suc L = omega arith in
    omega (
      arith,
      occurs_same L (spelt (suc L)) k i (omega arith) (pair_spelt L k h),
      rw e at (occurs_later L (spelt (suc L)) k (2 ^ suc L * suc L - suc i) (suc i)),
    )

-- a cap below the number of pairs keeps one of them out
pub cap_acts : (cap L : ℕ) → cap < 2 ^ suc L → Uncounted L (spelt (suc L)) cap (length (spelt (suc L)))
cap_acts cap L h =
    rw (length_spelt (suc L))
    (uncounted L (spelt (suc L)) cap (2 ^ suc L * suc L)
    (omega (
      arith,
      seen_le L (spelt (suc L)) (2 ^ suc L) (2 ^ suc L * suc L),
      seen_all L (spelt (suc L)) (2 ^ suc L) (2 ^ suc L * suc L) (λ k l. all_occur L k l),
    )))

-- it is a capture of single bits within the symbol limit
digit_bit : (W j : ℕ) → digit W j < 2
unfolding digit
digit_bit W j = mod-lt (j / W / 2 ^ (W - 1 - j % W)) {m = 2} (omega arith)

pub spelt_bits : (W : ℕ) → Bits (spelt W)
spelt_bits W j = tested (ltb j (2 ^ W * W))
    (λ t. rw (get_d_spelt W j (ltb-true _ _ t)) (digit_bit W j))
    (λ t. omega (arith, get_or-eq_default (spelt W) 0 {n = j} (omega (arith, length_spelt W, ltb-false j (2 ^ W * W) t))))

pub spelt_short : length (spelt (suc levels)) ≤ symbol_limit
unfolding symbol_limit
spelt_short = rw (length_spelt (suc levels)) (omega arith)

-- the cap acts at the last level
pub acts_at_last : Uncounted levels (spelt (suc levels)) cap (length (spelt (suc levels)))
acts_at_last = cap_acts cap levels (omega arith)
