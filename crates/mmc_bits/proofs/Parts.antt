-- A level's part of the counters, and the parts together, over any number of levels and any cap. Assumes nothing.
use Prim.Native.Nat.{ℕ, zero, suc, ◌+◌, ◌*◌, ◌-◌, ◌^◌, ◌≤◌, ◌<◌, min}
use mathlib.Core.Path.{◌≡◌, refl, sym, ap, ◌∙◌}
use mathlib.Core.List.{List, ◌++◌, append_assoc, append-nil}
use native.Mathlib.Omega.{arith}
use native.Mathlib.Nat.{zero-add, suc-add, add-suc}
use native.Mathlib.Numerals.{add-one}
use lib.ListN.{get_or, set, length, take, drop, replicate, length-append, replicate-append-replicate, get_or-append}
use lib.Seq.{take_at, drop_at, get_or-append-add}
use lib.Pow.{pow_pos}
use lib.Dec.{ltb, eqb}
use borrow.Rule.Slice.PartMut.{put_mid}
use borrow.Author.Tests.{eqb-true, eqb-false, ltb-true, ltb-false}
use Rattle.mmc_bits.specs.Counters.{pair, counter}
use Rattle.mmc_bits.specs.Space.{part, span, size}
use Rattle.mmc_bits.specs.Inner.Steps.{Bits, bumped, kept, mixed, distinct}
use Rattle.race.proofs.Cases.{tested}
use Rattle.mmc_bits.proofs.Cases.{bumped_first, bumped_full, bumped-again, kept_first, kept_full, kept_again}
use Rattle.mmc_bits.proofs.Counting.{
  occurs_same,
  occurs_early,
  counter_none,
  counter_other,
  counter-again,
  counter_first,
  counter_full,
  stored-again,
  stored_first,
  distinct_more,
}
use Rattle.mmc_bits.proofs.Room.{pair_lt, plain_below}
use Rattle.capture.proofs.Bitstring.{table_length, table_at}
use Rattle.mmc_bits.proofs.Tables.{table_same, table_set, table_zeros}

-- ---- one level

module _ (cap L : ℕ) (b : List ℕ) where
  pub length_part : (i : ℕ) → length (part cap L b i) ≡ 2 ^ suc L
  unfolding part
  length_part i = table_length (2 ^ suc L) (λ k. counter cap L b k i)

  pub get_d_part : (i k : ℕ) → k < 2 ^ suc L → get_or (part cap L b i) k 0 ≡ counter cap L b k i
  unfolding part
  get_d_part i k h = table_at (2 ^ suc L) (λ j. counter cap L b j i) k h

  part_set : (i v : ℕ) → v ≡ counter cap L b (pair L b i) (suc i) → set (part cap L b i) (pair L b i) v ≡ part cap L b (suc i)
  unfolding part
  part_set i v e =
      table_set (2 ^ suc L) (λ k. counter cap L b k i) (λ k. counter cap L b k (suc i)) (pair L b i) v e (λ j ne. counter_other cap L b j i ne)

  -- a level longer than the place has no occurrence, before or after
  pub part_late : (i : ℕ) → suc i ≤ L → part cap L b i ≡ part cap L b (suc i)
  unfolding part
  part_late i h = table_same (2 ^ suc L) _ _
      (λ k. counter_none cap L b k i (occurs_early L b k i (omega arith)) ∙ sym (counter_none cap L b k (suc i) (occurs_early L b k (suc i) h)))

  part_zero : part cap L b 0 ≡ replicate (2 ^ suc L) 0
  unfolding part
  part_zero =
      table_same (2 ^ suc L) _ (λ _. 0) (λ k. counter_none cap L b k 0 (occurs_early L b k 0 (omega arith))) ∙ table_zeros (2 ^ suc L)

  module _ (i : ℕ) (bs : Bits b) (r : L ≤ i) where
    -- where the cap does not act
    pub part_step : (n : ℕ) → 2 ^ n ≤ cap → L < n → set (part cap L b i) (pair L b i) (get_or (part cap L b i) (pair L b i) 0 + 1) ≡ part cap L b (suc i)
    part_step n room l =
        part_set i _ (omega (
          arith,
          get_d_part i (pair L b i) (pair_lt L b bs i),
          plain_below cap n L b (pair L b i) i bs room l,
          plain_below cap n L b (pair L b i) (suc i) bs room l,
          occurs_same L b (pair L b i) i r refl,
        ))

    -- where it may
    bumped_right : (m n : ℕ) → m ≡ counter cap L b (pair L b i) i → n ≡ min (distinct L b i) cap → bumped cap m n ≡ counter cap L b (pair L b i) (suc i)
    bumped_right m n e f = tested (eqb m 0)
        (λ t. let z : m ≡ 0 = eqb-true _ _ t in
        tested (ltb n cap)
        (λ u. let v : n < cap = ltb-true _ _ u in
        sym (bumped_first cap m n z v) ∙ sym (counter_first cap L b i r (sym e ∙ z) (omega arith)))
        (λ u. let v : cap ≤ n = ltb-false _ _ u in
        sym (bumped_full cap m n z v) ∙ z ∙ sym (counter_full cap L b i r (sym e ∙ z) (omega arith))))
        (λ t. let z : m ≡ 0 → ⊥ = eqb-false _ _ t in
        sym (bumped-again cap m n z) ∙ omega (arith, counter-again cap L b i r (omega arith)))

    kept_right : (m n : ℕ) → m ≡ counter cap L b (pair L b i) i → n ≡ min (distinct L b i) cap → kept cap m n ≡ min (distinct L b (suc i)) cap
    kept_right m n e f = tested (eqb m 0)
        (λ t. let z : m ≡ 0 = eqb-true _ _ t in
        tested (ltb n cap)
        (λ u. let v : n < cap = ltb-true _ _ u in
        sym (kept_first cap m n z v) ∙ omega (arith, stored_first cap L b i r (sym e ∙ z) (omega arith)))
        (λ u. let v : cap ≤ n = ltb-false _ _ u in
        sym (kept_full cap m n z v) ∙ omega (arith, distinct_more L b i)))
        (λ t. let z : m ≡ 0 → ⊥ = eqb-false _ _ t in
        sym (kept_again cap m n z) ∙ f ∙ ap (λ (d : ℕ). min d cap) (sym (stored-again cap L b i r (omega arith))))

    pub part_last : (n : ℕ) → n ≡ min (distinct L b i) cap
        → set (part cap L b i) (pair L b i) (bumped cap (get_or (part cap L b i) (pair L b i) 0) n) ≡ part cap L b (suc i)
    part_last n f = part_set i _ (bumped_right _ n (get_d_part i (pair L b i) (pair_lt L b bs i)) f)

    pub kept_last : (n : ℕ) → n ≡ min (distinct L b i) cap → kept cap (get_or (part cap L b i) (pair L b i) 0) n ≡ min (distinct L b (suc i)) cap
    kept_last n f = kept_right _ n (get_d_part i (pair L b i) (pair_lt L b bs i)) f

-- ---- the levels together

module _ (cap : ℕ) where
  span_end : (n L : ℕ) (b : List ℕ) (i : ℕ) → span cap L (suc n) b i ≡ span cap L n b i ++ part cap (n + L) b i
  unfolding span
  span_end zero L b i = rw (zero-add L) (append-nil (part cap L b i))
  span_end (suc n) L b i =
      rw (suc-add n L, ← add-suc n L)
      (ap (λ (t : List ℕ). part cap L b i ++ t) (span_end n (suc L) b i)
      ∙ sym (append_assoc (part cap L b i) (span cap (suc L) n b i) (part cap (n + suc L) b i)))

  -- the levels 1 to n + 1 are those to n, and level n + 1
  pub span_more : (n : ℕ) (b : List ℕ) (i : ℕ) → span cap 1 (suc n) b i ≡ span cap 1 n b i ++ part cap (suc n) b i
  span_more n b i = rw (add-one n) at (span_end n 1 b i)

  length_none : (b : List ℕ) (i : ℕ) → length (span cap 1 0 b i) + 4 ≡ 4
  unfolding span
  length_none b i = refl

  -- so level n + 1 starts at 2 ^ (n + 2) - 4
  pub length_span : (n : ℕ) (b : List ℕ) (i : ℕ) → length (span cap 1 n b i) + 4 ≡ 2 ^ suc (suc n)
  length_span zero b i = length_none b i
  length_span (suc n) b i =
      rw span_more (omega (arith, length-append (span cap 1 n b i) (part cap (suc n) b i), length_span n b i, length_part cap (suc n) b i))

  pub length_all : (n : ℕ) (b : List ℕ) (i : ℕ) → length (span cap 1 n b i) ≡ size n
  unfolding size
  length_all n b i = omega (arith, length_span n b i)

  -- the levels from L on are the same after the place, if L is longer than it
  span_late : (n L : ℕ) (b : List ℕ) (i : ℕ) → suc i ≤ L → span cap L n b i ≡ span cap L n b (suc i)
  unfolding span
  span_late zero L b i h = refl
  span_late (suc n) L b i h = rw (part_late cap L b i h, span_late n (suc L) b i (omega arith)) refl

  span_zero : (l : ℕ) (b : List ℕ) (i : ℕ) → span cap 1 l b i ++ span cap (suc l) 0 b i ≡ span cap 1 l b i
  unfolding span
  span_zero l b i = append-nil (span cap 1 l b i)

  span_first : (l m : ℕ) (b : List ℕ) (i : ℕ) → span cap l (suc m) b i ≡ part cap l b i ++ span cap (suc l) m b i
  unfolding span
  span_first l m b i = refl

  span_join : (m l : ℕ) (b : List ℕ) (i : ℕ) → span cap 1 l b i ++ span cap (suc l) m b i ≡ span cap 1 (m + l) b i
  span_join zero l b i = rw (zero-add l) (span_zero l b i)
  span_join (suc m) l b i =
      ap (λ (t : List ℕ). span cap 1 l b i ++ t) (span_first (suc l) m b i)
      ∙ sym (append_assoc (span cap 1 l b i) (part cap (suc l) b i) (span cap (suc (suc l)) m b i))
      ∙ ap (λ (t : List ℕ). t ++ span cap (suc (suc l)) m b i) (sym (span_more l b i))
      ∙ span_join m (suc l) b i
      ∙ ap (λ (n : ℕ). span cap 1 n b i) (add-suc m l ∙ sym (suc-add m l))

  span_start : (b : List ℕ) → span cap 1 0 b 0 ≡ replicate 0 0
  unfolding span
  span_start b = refl

  span_none : (n : ℕ) (b : List ℕ) → span cap 1 n b 0 ≡ replicate (2 ^ suc (suc n) - 4) 0
  span_none zero b = span_start b
  span_none (suc n) b =
      let e : 2 ^ suc (suc n) - 4 + 2 ^ suc (suc n) ≡ 2 ^ suc (suc (suc n)) - 4 = omega (arith, pow_pos n) in
      rw (span_more n b 0, span_none n b, part_zero cap (suc n) b, ← e) (replicate-append-replicate (2 ^ suc (suc n) - 4) (2 ^ suc (suc n)) 0)

  -- before place 0 all counters are 0
  pub span_cleared : (n : ℕ) (b : List ℕ) → span cap 1 n b 0 ≡ replicate (size n) 0
  unfolding size
  span_cleared = span_none

  -- what lies behind the levels
  pub behind_levels : (n : ℕ) (b : List ℕ) (i : ℕ) (rest s : List ℕ) → s ≡ span cap 1 n b i ++ rest → drop (size n) s ≡ rest
  behind_levels n b i rest s m = rw m (drop_at (span cap 1 n b i) rest (size n) (length_all n b i))

  pub own_rest : (n : ℕ) (b : List ℕ) (i : ℕ) (rest s : List ℕ) → s ≡ span cap 1 n b i ++ rest → s ≡ span cap 1 n b i ++ drop (size n) s
  own_rest n b i rest s m = m ∙ ap (λ (t : List ℕ). span cap 1 n b i ++ t) (sym (behind_levels n b i rest s m))

-- ---- within a place

module _ (cap n l : ℕ) (b : List ℕ) (i : ℕ) (rest : List ℕ) where
  mixed_open : l < n → mixed cap n l b i rest ≡ span cap 1 l b (suc i) ++ (part cap (suc l) b i ++ (span cap (suc (suc l)) (n - suc l) b i ++ rest))
  unfolding mixed span
  mixed_open h =
      let e : n - l ≡ suc (n - suc l) = omega arith in
      rw e (ap (λ (t : List ℕ). span cap 1 l b (suc i) ++ t) (append_assoc (part cap (suc l) b i) (span cap (suc (suc l)) (n - suc l) b i) rest))

  mixed_close : span cap 1 l b (suc i) ++ (part cap (suc l) b (suc i) ++ (span cap (suc (suc l)) (n - suc l) b i ++ rest)) ≡ mixed cap n (suc l) b i rest
  unfolding mixed
  mixed_close = rw (span_more cap l b (suc i)) (sym (append_assoc (span cap 1 l b (suc i)) (part cap (suc l) b (suc i)) _))

pub mixed_none : (cap n : ℕ) (b : List ℕ) (i : ℕ) (rest : List ℕ) → span cap 1 n b i ++ rest ≡ mixed cap n 0 b i rest
unfolding mixed span
mixed_none cap n b i rest = let e : n - 0 ≡ n = omega arith in rw e refl

-- after a place that the levels above it are too long for
pub mixed_few : (cap n : ℕ) (b : List ℕ) (i : ℕ) (rest : List ℕ) → i ≤ n → mixed cap n i b i rest ≡ span cap 1 n b (suc i) ++ rest
unfolding mixed
mixed_few cap n b i rest h = let e : n - i + i ≡ n = omega arith in
    rw (span_late cap (n - i) (suc i) b i (omega arith))
    (sym (append_assoc (span cap 1 i b (suc i)) (span cap (suc i) (n - i) b (suc i)) rest)
    ∙ ap (λ (t : List ℕ). t ++ rest) (rw e at (span_join cap (n - i) i b (suc i))))

-- after the last level
pub mixed_all : (cap n : ℕ) (b : List ℕ) (i : ℕ) (rest : List ℕ) → mixed cap n n b i rest ≡ span cap 1 n b (suc i) ++ rest
unfolding mixed span
mixed_all cap n b i rest = let e : n - n ≡ 0 = omega arith in rw e refl

pub length_mixed : (cap n l : ℕ) (b : List ℕ) (i : ℕ) → l ≤ n → length (span cap 1 l b (suc i) ++ span cap (suc l) (n - l) b i) ≡ size n
length_mixed cap n l b i h =
    let e : n - l + l ≡ n = omega arith in
    length-append (span cap 1 l b (suc i)) (span cap (suc l) (n - l) b i)
    ∙ omega (
      arith,
      length_all cap l b (suc i),
      length_all cap l b i,
      length-append (span cap 1 l b i) (span cap (suc l) (n - l) b i),
      ap length (span_join cap (n - l) l b i),
      ap (λ (m : ℕ). length (span cap 1 m b i)) e,
      length_all cap n b i,
    )

-- what lies behind the levels, then
pub mixed_rest : (cap n l : ℕ) (b : List ℕ) (i : ℕ) (rest s : List ℕ) → l ≤ n → s ≡ mixed cap n l b i rest → drop (size n) s ≡ rest
unfolding mixed
mixed_rest cap n l b i rest s h m =
    rw m (ap (λ (t : List ℕ). drop (size n) t) (sym (append_assoc (span cap 1 l b (suc i)) (span cap (suc l) (n - l) b i) rest))
    ∙ drop_at (span cap 1 l b (suc i) ++ span cap (suc l) (n - l) b i) rest (size n) (length_mixed cap n l b i h))

pub mixed_own : (cap n l : ℕ) (b : List ℕ) (i : ℕ) (rest s : List ℕ) → l ≤ n → s ≡ mixed cap n l b i rest → s ≡ mixed cap n l b i (drop (size n) s)
mixed_own cap n l b i rest s h m = m ∙ ap (λ (t : List ℕ). mixed cap n l b i t) (sym (mixed_rest cap n l b i rest s h m))

-- a list in three parts
module _ (P Q R : List ℕ) (a k : ℕ) (p : length P ≡ a) (q : length Q ≡ k) where
  mid_is : take k (drop a (P ++ (Q ++ R))) ≡ Q
  mid_is = rw (drop_at P (Q ++ R) a p) (take_at Q R k q)

  put_is : (T : List ℕ) → put_mid a k (P ++ (Q ++ R)) T ≡ P ++ (T ++ R)
  put_is T = rw (take_at P (Q ++ R) a p, drop_at P (Q ++ R) a p, drop_at Q R k q) refl

-- level l + 1's part of the slice: what it holds before the place, and the slice once it holds what it does after
module _ (cap n l : ℕ) (b : List ℕ) (i : ℕ) (rest s : List ℕ) (w : ℕ) (h : l < n) (e : w ≡ 2 ^ suc l)
    (m : s ≡ mixed cap n l b i rest) where
  -- the levels behind it
  abbrev longer : List ℕ
  longer = span cap (suc (suc l)) (n - suc l) b i ++ rest

  start_is : length (span cap 1 l b (suc i)) ≡ w * 2 - 4
  start_is = omega (arith, length_span cap l b (suc i))

  width_is : length (part cap (suc l) b i) ≡ w * 4 - 4 - (w * 2 - 4)
  width_is = omega (arith, length_part cap (suc l) b i, pow_pos l)

  pub lent : take (w * 4 - 4 - (w * 2 - 4)) (drop (w * 2 - 4) s) ≡ part cap (suc l) b i
  lent =
      rw (m, mixed_open cap n l b i rest h)
      (mid_is (span cap 1 l b (suc i)) (part cap (suc l) b i) longer (w * 2 - 4) (w * 4 - 4 - (w * 2 - 4)) start_is width_is)

  pub back : (t : List ℕ) → t ≡ part cap (suc l) b (suc i) → put_mid (w * 2 - 4) (w * 4 - 4 - (w * 2 - 4)) s t ≡ mixed cap n (suc l) b i rest
  back t f =
      rw (m, mixed_open cap n l b i rest h, f)
      (put_is (span cap 1 l b (suc i)) (part cap (suc l) b i) longer (w * 2 - 4) (w * 4 - 4 - (w * 2 - 4)) start_is width_is
      (part cap (suc l) b (suc i))
      ∙ mixed_close cap n l b i rest)

-- the levels before level l + 1, that level, and those behind it
span_open : (cap n l : ℕ) (b : List ℕ) (i : ℕ) → l < n
    → span cap 1 n b i ≡ span cap 1 l b i ++ (part cap (suc l) b i ++ span cap (suc (suc l)) (n - suc l) b i)
span_open cap n l b i h =
    let e : n - l + l ≡ n = omega arith in
    let f : n - l ≡ suc (n - suc l) = omega arith in
    sym (rw e at (span_join cap (n - l) l b i))
    ∙ ap (λ (m : ℕ). span cap 1 l b i ++ span cap (suc l) m b i) f
    ∙ ap (λ (t : List ℕ). span cap 1 l b i ++ t) (span_first cap (suc l) (n - suc l) b i)

-- "In the lent slice level L starts at 2^(L+1) - 4 and has 2^(L+1) counters", for L = l + 1
pub level_at : (cap n l : ℕ) (b : List ℕ) (i : ℕ) → l < n → take (2 ^ suc (suc l)) (drop (2 ^ suc (suc l) - 4) (span cap 1 n b i)) ≡ part cap (suc l) b i
level_at cap n l b i h =
    rw (span_open cap n l b i h)
    (mid_is (span cap 1 l b i) (part cap (suc l) b i) (span cap (suc (suc l)) (n - suc l) b i) (2 ^ suc (suc l) - 4) (2 ^ suc (suc l))
    (omega (arith, length_span cap l b i)) (length_part cap (suc l) b i))

-- its counter k, read in place
pub level_read : (cap n l : ℕ) (b : List ℕ) (i : ℕ) (rest s : List ℕ) (w : ℕ) → l < n → w ≡ 2 ^ suc l → s ≡ span cap 1 n b i ++ rest
    → (k : ℕ) → k < w * 2 → get_or s (w * 2 - 4 + k) 0 ≡ counter cap (suc l) b k i
level_read cap n l b i rest s w h e m k g =
    let at : w * 2 - 4 ≡ length (span cap 1 l b i) = omega (arith, length_span cap l b i) in
    rw (
      m,
      span_open cap n l b i h,
      append_assoc (span cap 1 l b i) (part cap (suc l) b i ++ span cap (suc (suc l)) (n - suc l) b i) rest,
      at,
      get_or-append-add (span cap 1 l b i) _ k 0,
      append_assoc (part cap (suc l) b i) (span cap (suc (suc l)) (n - suc l) b i) rest,
      get_or-append (part cap (suc l) b i) (span cap (suc (suc l)) (n - suc l) b i ++ rest) 0 k (omega (arith, length_part cap (suc l) b i)),
    )
    (get_d_part cap (suc l) b i k (omega arith))
