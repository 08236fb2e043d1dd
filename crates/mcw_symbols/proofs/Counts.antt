-- What is counted in each lane as a sample leaves one window, and as one comes into all. Assumes nothing.
use mathlib.Core.Path.{◌≡◌, refl, sym, ap, ◌∙◌}
use mathlib.Core.Bool.{cond}
use mathlib.Core.List.{List}
use Prim.Native.Nat.{ℕ, ◌+◌, ◌-◌, ◌*◌, ◌^◌, ◌≤◌, ◌<◌}
use native.Mathlib.Omega.{arith}
use lib.Dec.{eqb}
use lib.ListN.{length, get_or, set, drop, length-set}
use lib.Seq.{get_or-set_same, get_or-set_other}
use borrow.Author.Tests.{eq-eqb, ne_eqb}
use Rattle.race.proofs.Cases.{same?}
use Rattle.lanes.specs.Inner.Lanes.{lane}
use Rattle.lanes.proofs.Words.{each_lane}
use Rattle.lanes.proofs.Carry.{lane_add, add-fits, lane_sub, sub-fits, lane_unit}
use Rattle.mcw_bits.specs.Inner.Counts.{before}
use Rattle.mcw_bits.proofs.Counting.{before_same, before_other, before_le, before_mono, occ_part}
use Rattle.mcw_symbols.specs.Inner.Search.{most}
use Rattle.mcw_symbols.specs.Inner.Windows.{Counted, Seen, less_one, ones, Roomy, one_more}
use Rattle.mcw_symbols.proofs.Latest.{last_same, last_other}

-- a symbol stands at most at every place
before_span : (s : List ℕ) (y lo hi : ℕ) → lo ≤ hi → before s y hi ≤ before s y lo + (hi - lo)
before_span s y lo hi l =
    let e : lo + (hi - lo) ≡ hi = omega arith in
    let p = rw e at (occ_part s y lo (hi - lo)) in
    omega (arith, p, before_le (drop lo s) y (hi - lo))

unit_word : (q : ℕ) → q < 4 → 2 * 2 ^ (16 * q) < 2 ^ 64
unit_word = each_lane (λ (q : ℕ). 2 * 2 ^ (16 * q) < 2 ^ 64) (omega arith) (omega arith) (omega arith) (omega arith)

-- in window q the sample d at lo q leaves
module _ {s : List ℕ} {lo : ℕ → ℕ} {hi : ℕ} {cnt : List ℕ} (C : Counted s lo hi cnt)
    (q d : ℕ) (l : q < 4) (some : lo q < hi) (h : hi ≤ length s) (b : d < 256) (e : get_or s (lo q) 0 ≡ d) where
  two : 2 ≤ lane (get_or cnt d 0) q
  two = omega (arith, C.at d b q l, before_same s d (lo q) (omega arith) e, before_mono s d (lo q + 1) hi (omega arith))

  two_here : (j : ℕ) → lane (2 * 2 ^ (16 * q)) j ≡ cond (eqb j q) 2 0
  two_here j = lane_unit 2 q j (omega arith)

  enough : (j : ℕ) → j < 4 → lane (2 * 2 ^ (16 * q)) j ≤ lane (get_or cnt d 0) j
  enough j m =
      same? j q
      (λ w. let u : lane (get_or cnt d 0) j ≡ lane (get_or cnt d 0) q = ap (lane (get_or cnt d 0)) w in rw (two_here j, eq-eqb j q w) (omega (arith, two)))
      (λ w. rw (two_here j, ne_eqb j q w) (omega arith))

  pub leave_has : 2 * 2 ^ (16 * q) ≤ get_or cnt d 0
  leave_has = sub-fits (get_or cnt d 0) (2 * 2 ^ (16 * q)) (unit_word q l) enough

  less : (j : ℕ) → j < 4 → lane (get_or cnt d 0 - 2 * 2 ^ (16 * q)) j + cond (eqb j q) 2 0 ≡ lane (get_or cnt d 0) j
  less j m = omega (arith, lane_sub (get_or cnt d 0) (2 * 2 ^ (16 * q)) (unit_word q l) enough j m, enough j m, two_here j)

  module _ (lo' : ℕ → ℕ) (on : lo' q ≡ lo q + 1) (kept : (j : ℕ) → j < 4 → (j ≡ q → ⊥) → lo' j ≡ lo j) where
    cnt' : List ℕ
    cnt' = less_one cnt d (2 ^ (16 * q))

    -- d itself, and another symbol
    mine : (j : ℕ) → j < 4 → lane (get_or cnt' d 0) j + 2 * before s d (lo' j) ≡ 2 * before s d hi
    unfolding cnt'
    mine j m =
        let g : lane (get_or cnt' d 0) j ≡ lane (get_or cnt d 0 - 2 * 2 ^ (16 * q)) j = ap (λ (n : ℕ). lane n j) (get_or-set_same cnt d _ 0 (omega (arith, C.full))) in
        same? j q
        (λ w. let u : ◌≡◌ {A = ℕ} (cond (eqb j q) 2 0) 2 = rw (eq-eqb j q w) in
        let v : lo' j ≡ lo j + 1 = rw w on in
        let t : get_or s (lo j) 0 ≡ d = rw w e in
        rw v (omega (arith, g, u, less j m, C.at d b j m, before_same s d (lo j) (before_end j w) t)))
        (λ w. let u : ◌≡◌ {A = ℕ} (cond (eqb j q) 2 0) 0 = rw (ne_eqb j q w) in rw (kept j m w) (omega (arith, g, u, less j m, C.at d b j m)))
      where
        before_end : (j : ℕ) → j ≡ q → lo j < length s
        before_end j w = rw w (omega arith)

    other : (y : ℕ) → y < 256 → (y ≡ d → ⊥) → (j : ℕ) → j < 4 → lane (get_or cnt' y 0) j + 2 * before s y (lo' j) ≡ 2 * before s y hi
    unfolding cnt'
    other y by n j m =
        rw (get_or-set_other cnt d y _ 0 n)
        (same? j q
        (λ w. let v : lo' j ≡ lo j + 1 = rw w on in
        let t : get_or s (lo j) 0 ≡ y → ⊥ = rw w (λ z. n (sym z ∙ e)) in
        rw (v, before_other s y (lo j) (before_end j w) t) (C.at y by j m))
        (λ w. rw (kept j m w) (C.at y by j m)))
      where
        before_end : (j : ℕ) → j ≡ q → lo j < length s
        before_end j w = rw w (omega arith)

    pub leave_counted : Counted s lo' hi (less_one cnt d (2 ^ (16 * q)))
    unfolding cnt'
    leave_counted =
        record {
          full = length-set cnt d _ ∙ C.full;
          at = λ y by j m. same? y d (λ w. rw w (mine j m)) (λ w. other y by w j m);
        }

-- no count is above twice the longest window's size
pub counted_room : {s : List ℕ} {lo : ℕ → ℕ} {hi : ℕ} {cnt : List ℕ} → Counted s lo hi cnt
    → ((j : ℕ) → j < 4 → lo j ≤ hi) → ((j : ℕ) → j < 4 → hi ≤ lo j + 4095) → (y : ℕ) → y < 256 → (j : ℕ) → j < 4 → lane (get_or cnt y 0) j ≤ most
counted_room {s} {lo} {hi} C l h y by j m = omega (arith, C.at y by j m, before_span s y (lo j) hi (l j m), l j m, h j m)

-- the lanes of 1 and of 2 in each
pub ones_lane : (j : ℕ) → j < 4 → lane ones j ≡ 1
unfolding lane
ones_lane = each_lane (λ (j : ℕ). lane ones j ≡ 1) refl refl refl refl

twos_lane : (j : ℕ) → j < 4 → lane (2 * ones) j ≡ 2
unfolding lane
twos_lane = each_lane (λ (j : ℕ). lane (2 * ones) j ≡ 2) refl refl refl refl

module _ (n : ℕ) (R : Roomy n) where
  twos_room : (j : ℕ) → j < 4 → lane n j + lane (2 * ones) j < 65536
  twos_room j m = omega (arith, R.each j m, twos_lane j m)

  pub more_lane : (j : ℕ) → j < 4 → lane (n + 2 * ones) j ≡ lane n j + 2
  more_lane j m = omega (arith, lane_add n (2 * ones) twos_room j m, twos_lane j m)

  pub more_fits : n < 2 ^ 64 → n + 2 * ones < 2 ^ 64
  more_fits w = add-fits n (2 * ones) twos_room w (omega arith)

  ones_room : (j : ℕ) → j < 4 → lane n j + lane ones j < 65536
  ones_room j m = omega (arith, R.each j m, ones_lane j m)

  pub key_lane : (j : ℕ) → j < 4 → lane (n + ones) j ≡ lane n j + 1
  key_lane j m = omega (arith, lane_add n ones ones_room j m, ones_lane j m)

  pub key_fits : n < 2 ^ 64 → n + ones < 2 ^ 64
  key_fits w = add-fits n ones ones_room w (omega arith)

module _ (n : ℕ) (room : (j : ℕ) → j < 4 → lane n j ≤ most) where
  pub count_roomy : Roomy n
  count_roomy = record { each = λ j m. omega (arith, room j m) }

  pub more_roomy : Roomy (n + 2 * ones)
  more_roomy = record { each = λ j m. omega (arith, room j m, more_lane n count_roomy j m) }

-- x comes at place hi
module _ {s : List ℕ} {lo : ℕ → ℕ} {hi : ℕ} {cnt : List ℕ} (C : Counted s lo hi cnt)
    (x : ℕ) (b : x < 256) (h : hi < length s) (e : get_or s hi 0 ≡ x) (room : (j : ℕ) → j < 4 → lane (get_or cnt x 0) j ≤ most) where
  pub enter_counted : Counted s lo (hi + 1) (one_more cnt x)
  enter_counted =
      record {
        full = length-set cnt x _ ∙ C.full;
        at = λ y by j m. same? y x (λ w. rw w (mine j m)) (λ w. rw (get_or-set_other cnt x y _ 0 w, before_other s y hi h (λ z. w (sym z ∙ e))) (C.at y by j m));
      }
    where
      mine : (j : ℕ) → j < 4 → lane (get_or (one_more cnt x) x 0) j + 2 * before s x (lo j) ≡ 2 * before s x (hi + 1)
      mine j m = rw (get_or-set_same cnt x _ 0 (omega (arith, C.full))) (omega (arith, more_lane (get_or cnt x 0) (count_roomy (get_or cnt x 0) room) j m, C.at x b j m, before_same s x hi h e))

pub enter_seen : {s : List ℕ} {i : ℕ} {latest : List ℕ} → Seen s i latest → (x : ℕ) → x < 256 → get_or s i 0 ≡ x → Seen s (i + 1) (set latest x (i + 1))
enter_seen {s} {i} {latest} S x b e =
    record {
      full = length-set latest x _ ∙ S.full;
      at = λ y by. same? y x
          (λ w. rw (w, get_or-set_same latest x (i + 1) 0 (omega (arith, S.full)), last_same s x i e) refl)
          (λ w. rw (get_or-set_other latest x y (i + 1) 0 w, last_other s y i (λ z. w (sym z ∙ e))) (S.at y by));
    }
