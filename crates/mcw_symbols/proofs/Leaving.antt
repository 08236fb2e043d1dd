-- The oldest sample leaves one window after the other. Assumes nothing.
use mathlib.Core.Path.{◌≡◌, refl, sym, ◌∙◌}
use mathlib.Core.Bool.{cond}
use mathlib.Core.List.{List}
use Prim.Native.Nat.{ℕ, ◌+◌, ◌-◌, ◌*◌, ◌/◌, ◌%◌, ◌^◌, ◌≤◌, ◌<◌}
use native.Mathlib.Omega.{arith}
use lib.Dec.{leb, ltb}
use lib.ListN.{length, get_or}
use borrow.Author.Tests.{leb-true, leb-false, ltb-true, ltb-false, le-leb, lt-leb, lt-ltb, le-ltb}
use Rattle.race.proofs.Cases.{tested, same?}
use Rattle.lanes.specs.Inner.Lanes.{lane}
use Rattle.lanes.proofs.Words.{each_lane}
use Rattle.mcw_bits.specs.Mcw.{size}
use Rattle.mcw_symbols.specs.Inner.Windows.{starts, Counted, Bytes, leaver, less_one, Leavable, Leaves, Gone}
use Rattle.mcw_symbols.proofs.Counts.{leave_has, leave_counted}

-- one window
module _ {cnt s : List ℕ} {i w unit : ℕ} where
  pub leaves_growing : i < w → Leaves cnt s i w unit cnt (256 * unit)
  leaves_growing l = record { left_is = rw (lt-leb w i l); gone_is = rw (lt-leb w i l) }

  pub leaves_full : {d : ℕ} → w ≤ i → d ≡ get_or s (i - w) 0 → Leaves cnt s i w unit (less_one cnt d unit) (d * unit)
  leaves_full l e = record { left_is = rw (le-leb w i l, e); gone_is = rw (le-leb w i l, e) }

-- where the windows begin once the first q have gone on
abbrev pub moving : ℕ → ℕ → (ℕ → ℕ)
moving i q = λ j. cond (ltb j q) (i + 1 - size j) (i - size j)

counted_same : {s : List ℕ} {lo lo' : ℕ → ℕ} {hi : ℕ} {cnt : List ℕ} → ((j : ℕ) → j < 4 → lo' j ≡ lo j) → Counted s lo hi cnt → Counted s lo' hi cnt
counted_same e C = record { full = C.full; at = λ y b j l. rw (e j l) (C.at y b j l) }

pub none_moved : {s : List ℕ} {i : ℕ} {cnt : List ℕ} → Counted s (starts i) i cnt → Counted s (moving i 0) i cnt
none_moved {i = i} C = counted_same (λ j l. rw (le-ltb j 0 (omega arith))) C

pub all_moved : {s : List ℕ} {i : ℕ} {cnt : List ℕ} → Counted s (moving i 4) i cnt → Counted s (starts (i + 1)) i cnt
all_moved {i = i} C = counted_same (λ j l. rw (lt-ltb j 4 l)) C

pub size_some : (q : ℕ) → q < 4 → 0 < size q
size_some = each_lane (λ (q : ℕ). 0 < size q) (omega arith) (omega arith) (omega arith) (omega arith)

unit_small : (q : ℕ) → q < 4 → 2 ^ (16 * q) ≤ 281474976710656
unit_small = each_lane (λ (q : ℕ). 2 ^ (16 * q) ≤ 281474976710656) (omega arith) (omega arith) (omega arith) (omega arith)

module _ {s : List ℕ} {i : ℕ} {cnt : List ℕ} (h : i < length s) (B : Bytes s) (q : ℕ) (l : q < 4) (C : Counted s (moving i q) i cnt) where
  here : moving i q q ≡ i - size q
  here = rw (le-ltb q q (omega arith))

  there : (j : ℕ) → (j ≡ q → ⊥) → moving i (q + 1) j ≡ moving i q j
  there j n =
      tested (ltb j q)
      (λ t. rw (t, lt-ltb j (q + 1) (omega (arith, ltb-true j q t))))
      (λ t. rw (t, le-ltb j (q + 1) (omega (arith, ltb-false j q t, n))))

  on : moving i (q + 1) q ≡ i + 1 - size q
  on = rw (lt-ltb q (q + 1) (omega arith))

  -- the window is full
  module _ (full : size q ≤ i) where
    before_i : moving i q q < i
    before_i = rw here (omega (arith, size_some q l))

    d : ℕ
    d = get_or s (i - size q) 0

    d_small : d < 256
    unfolding d
    d_small = B.below (i - size q) (omega arith)

    d_there : get_or s (moving i q q) 0 ≡ d
    unfolding d
    d_there = rw here

    has : 2 * 2 ^ (16 * q) ≤ get_or cnt (get_or s (i - size q) 0) 0
    unfolding d
    has = leave_has C q d l before_i (omega arith) d_small d_there

    moved : Counted s (moving i (q + 1)) i (less_one cnt (get_or s (i - size q) 0) (2 ^ (16 * q)))
    unfolding d
    moved = leave_counted C q d l before_i (omega arith) d_small d_there (moving i (q + 1)) (rw (on, here) (omega arith)) (λ j _ n. there j n)

  pub leavable : Leavable cnt s i (size q) (2 ^ (16 * q))
  leavable =
      record {
        small_unit = unit_small q l;
        full = C.full;
        inside = λ f. omega arith;
        small = λ f. B.below (i - size q) (omega arith);
        has = has;
      }

  pub leaves_next : {cnt' : List ℕ} {gone : ℕ} → Leaves cnt s i (size q) (2 ^ (16 * q)) cnt' gone → Counted s (moving i (q + 1)) i cnt'
  leaves_next L =
      rw L.left_is
      (tested (leb (size q) i)
      (λ t. rw t (moved (leb-true (size q) i t)))
      (λ t. rw t (counted_same (grows (leb-false (size q) i t)) C)))
    where
      grows : i < size q → (j : ℕ) → j < 4 → moving i (q + 1) j ≡ moving i q j
      grows g j _ = same? j q (λ w. rw (w, on, here) (omega arith)) (λ w. there j w)

-- four lanes put together
module _ (a b c d : ℕ) (p : a ≤ 256) (q : b ≤ 256) (r : c ≤ 256) (t : d ≤ 256) where
  first : (a * 1 + b * 65536 + c * 4294967296 + d * 281474976710656) / 1 % 65536 ≡ a
  first = omega arith

  second : (a * 1 + b * 65536 + c * 4294967296 + d * 281474976710656) / 65536 % 65536 ≡ b
  second = omega arith

  third : (a * 1 + b * 65536 + c * 4294967296 + d * 281474976710656) / 4294967296 % 65536 ≡ c
  third = omega arith

  fourth : (a * 1 + b * 65536 + c * 4294967296 + d * 281474976710656) / 281474976710656 % 65536 ≡ d
  fourth = omega arith

  lanes_four : (P : ℕ → ℕ) → P 0 ≡ a → P 1 ≡ b → P 2 ≡ c → P 3 ≡ d
      → (j : ℕ) → j < 4 → lane (a * 1 + b * 65536 + c * 4294967296 + d * 281474976710656) j ≡ P j
  unfolding lane
  lanes_four P e f g h =
      each_lane (λ (j : ℕ). lane (a * 1 + b * 65536 + c * 4294967296 + d * 281474976710656) j ≡ P j)
      (first ∙ sym e) (second ∙ sym f) (third ∙ sym g) (fourth ∙ sym h)

-- what leaves the four windows
module _ {s : List ℕ} {i : ℕ} (B : Bytes s) (h : i < length s) where
  pub leaver_small : (j : ℕ) → j < 4 → leaver s i (size j) ≤ 256
  leaver_small j l =
      tested (leb (size j) i)
      (λ t. rw t (let g = leb-true (size j) i t in omega (arith, B.below (i - size j) (omega (arith, size_some j l)))))
      (λ t. rw t (omega arith))

  pub gone_four : (n : ℕ) → n ≡ leaver s i (size 0) * 1 + leaver s i (size 1) * 65536 + leaver s i (size 2) * 4294967296 + leaver s i (size 3) * 281474976710656 → Gone s i n
  gone_four n e =
      record {
        each = rw e
            (lanes_four (leaver s i (size 0)) (leaver s i (size 1)) (leaver s i (size 2)) (leaver s i (size 3))
            (leaver_small 0 (omega arith)) (leaver_small 1 (omega arith)) (leaver_small 2 (omega arith)) (leaver_small 3 (omega arith))
            (λ j. leaver s i (size j)) refl refl refl refl);
      }
