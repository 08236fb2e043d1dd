-- The windows go on by one place: what they count and their candidates are kept. Assumes nothing.
use mathlib.Core.Path.{◌≡◌, sym, ◌∙◌}
use mathlib.Core.List.{List}
use Prim.Native.Nat.{ℕ, ◌+◌, ◌-◌, ◌*◌, ◌≤◌, ◌<◌}
use native.Mathlib.Omega.{arith}
use lib.Dec.{eqb, leb}
use lib.ListN.{length, get_or}
use borrow.Author.Tests.{leb-true, leb-false}
use Rattle.race.proofs.Cases.{tested}
use Rattle.lanes.specs.Inner.Lanes.{lane, marked}
use Rattle.mcw_bits.specs.Inner.Counts.{before}
use Rattle.mcw_bits.specs.Mcw.{size}
use Rattle.mcw_bits.proofs.Counting.{before_same, before_other, before_mono}
use Rattle.mcw_symbols.specs.Inner.Samples.{Samples, counts_at, latest_at}
use Rattle.mcw_symbols.specs.Inner.Candidate.{Candidate}
use Rattle.mcw_symbols.specs.Inner.Search.{most}
use Rattle.mcw_symbols.specs.Inner.Advance.{spent, Advanceable, Advances}
use Rattle.mcw_symbols.specs.Inner.Windows.{starts, Counted, leaver, Gone, Enterable, Enters, ones}
use Rattle.mcw_symbols.specs.Inner.Kept.{Nominated, Kept}
use Rattle.mcw_symbols.specs.declared.Candidates.{Candidates}
use Rattle.mcw_symbols.proofs.Latest.{last_same, last_other, last_le}
use Rattle.mcw_symbols.proofs.Counts.{counted_room, enter_counted, enter_seen, count_roomy, more_roomy, more_lane, key_lane}
use Rattle.mcw_symbols.proofs.Leaving.{size_some, leaver_small}
use Rattle.mcw_symbols.proofs.Stepping.{leaves, enters, enters_small}
use Rattle.mcw_symbols.proofs.Keeping.{samples_bytes, size_most, counted_is, kept_low}

-- what a window counts once its oldest sample has left
abbrev rest : List ℕ → ℕ → ℕ → (ℕ → ℕ)
rest s i w = λ y. before s y i - before s y (i + 1 - w)

-- the oldest sample leaves the window of w samples
module _ (s : List ℕ) (i w : ℕ) (h : i < length s) (p : 0 < w) where
  rest-less : (y : ℕ) → rest s i w y ≤ counts_at s i w y
  rest-less y = omega (arith, before_mono s y (i - w) (i + 1 - w) (omega arith))

  rest_same : (f : ℕ) → f < 256 → leaver s i w ≡ f → rest s i w f + 1 ≡ counts_at s i w f
  rest_same f b e =
      tested (leb w i)
      (λ t. let full = leb-true w i t in
      let g : get_or s (i - w) 0 ≡ f = rw t at e in
      let on : i + 1 - w ≡ i - w + 1 = omega arith in
      rw on (omega (arith, before_same s f (i - w) (omega arith) g, before_mono s f (i - w + 1) i (omega arith))))
      (λ t. let g : 256 ≡ f = rw t at e in absurd (omega arith))

  rest_other : (f : ℕ) → (leaver s i w ≡ f → ⊥) → rest s i w f ≡ counts_at s i w f
  rest_other f n =
      tested (leb w i)
      (λ t. let full = leb-true w i t in
      let g : get_or s (i - w) 0 ≡ f → ⊥ = rw t at n in
      let on : i + 1 - w ≡ i - w + 1 = omega arith in
      rw (on, before_other s f (i - w) (omega arith) g))
      (λ t. let grows = leb-false w i t in
      let on : i + 1 - w ≡ i - w = omega arith in
      rw on)

-- the sample x of place i comes
module _ (s : List ℕ) (i w x : ℕ) (h : i < length s) (p : 0 < w) (e : get_or s i 0 ≡ x) where
  come_one : counts_at s (i + 1) w x ≡ rest s i w x + 1
  come_one = omega (arith, before_same s x i h e, before_mono s x (i + 1 - w) i (omega arith))

  come_kept : (y : ℕ) → (y ≡ x → ⊥) → counts_at s (i + 1) w y ≡ rest s i w y
  come_kept y n = rw (before_other s y i h (λ z. n (sym z ∙ e)))

  come_stays : (y : ℕ) → (y ≡ x → ⊥) → latest_at s (i + 1) y ≡ latest_at s i y
  come_stays y n = last_other s y i (λ z. n (sym z ∙ e))

  come_newest : (y : ℕ) → (y ≡ x → ⊥) → latest_at s (i + 1) y < latest_at s (i + 1) x
  come_newest y n = omega (arith, last_same s x i e, come_stays y n, last_le s y i)

-- at place i, where x comes, the candidates are c
module _ {s : List ℕ} {k i : ℕ} {cnt latest : List ℕ} {c : Candidates} (S : Samples s k) (K : Kept s k i cnt latest c) (h : i < length s)
    (x : ℕ) (e : get_or s i 0 ≡ x) where
  x_below : x < k
  x_below = rw (← e) (S.below i h)

  x_small : x < 256
  x_small = omega (arith, x_below, S.few)

  -- once the oldest samples have left
  module _ {gone : ℕ} {cnt₁ : List ℕ} (C₁ : Counted s (starts (i + 1)) i cnt₁) (G : Gone s i gone) where
    left_room : (y : ℕ) → y < 256 → (j : ℕ) → j < 4 → lane (get_or cnt₁ y 0) j ≤ most
    left_room = counted_room C₁ (λ j l. omega (arith, size_some j l)) (λ j l. omega (arith, size_most j l))

    pub enterable : Enterable cnt₁ latest x i
    enterable =
        record {
          symbol = x_small;
          soon = omega (arith, S.short);
          cnt_full = C₁.full;
          latest_full = K.seen.full;
          room = left_room x x_small;
        }

    left_is : (y : ℕ) → y < 256 → (j : ℕ) → j < 4 → lane (get_or cnt₁ y 0) j ≡ 2 * rest s i (size j) y
    left_is y b j l = counted_is C₁ y b j l (omega (arith, size_some j l))

    spent_candidate : (j : ℕ) → j < 4
        → Candidate (rest s i (size j)) (latest_at s i) k (lane c.symbols j) (spent (lane gone j) (lane c.symbols j) (lane c.keys j)) (lane c.bounds j)
    spent_candidate j l =
        let C = K.nominated.each j l in
        let f = lane c.symbols j in
        let p = size_some j l in
        leaves C (lane gone j)
        (λ q. rest_same s i (size j) h p f (omega (arith, C.within, S.few)) (sym (G.each j l) ∙ q))
        (λ q. rest_other s i (size j) h p f (λ z. q (G.each j l ∙ z))) (rest-less s i (size j) h p)

    -- once x has come
    module _ {cnt₂ latest₂ : List ℕ} {key : ℕ} (N : Enters cnt₁ latest x i cnt₂ latest₂ key) where
      key_is : (j : ℕ) → j < 4 → lane key j ≡ lane (get_or cnt₁ x 0) j + 3
      key_is j l =
          let n = get_or cnt₁ x 0 in
          let room = left_room x x_small in
          rw N.key_is (omega (arith, key_lane (n + 2 * ones) (more_roomy n room) j l, more_lane n (count_roomy n room) j l))

      key_counts : (j : ℕ) → j < 4 → lane key j ≡ 2 * counts_at s (i + 1) (size j) x + 1
      key_counts j l = omega (arith, key_is j l, left_is x x_small j l, come_one s i (size j) x h (size_some j l) e)

      pub advanceable : {alike xs : ℕ} → ((j : ℕ) → j < 4 → lane xs j ≡ x)
          → ((j : ℕ) → j < 4 → lane alike j ≡ marked (eqb (lane xs j) (lane c.symbols j))) → Advanceable c alike xs gone key
      advanceable X E =
          record {
            low = kept_low S K;
            x_low = record { each = λ j l. omega (arith, X j l, x_small) };
            gone_low = record { each = λ j l. omega (arith, G.each j l, leaver_small (samples_bytes S) h j l) };
            key_low = record { each = λ j l. omega (arith, key_is j l, left_room x x_small j l) };
            alike_is = E;
            enough = enough;
          }
        where
          enough : (j : ℕ) → j < 4 → lane gone j ≡ lane c.symbols j → 2 ≤ lane c.keys j
          enough j l q =
              let C = K.nominated.each j l in
              omega (
                arith,
                C.least,
                rest_same s i (size j) h (size_some j l) (lane c.symbols j) (omega (arith, C.within, S.few)) (sym (G.each j l) ∙ q),
              )

      went_counted : Counted s (starts (i + 1)) (i + 1) cnt₂
      went_counted = rw N.cnt_is (enter_counted C₁ x x_small h e (left_room x x_small))

      went_room : (y : ℕ) → y < 256 → (j : ℕ) → j < 4 → lane (get_or cnt₂ y 0) j ≤ most
      went_room = counted_room went_counted (λ j l. omega arith) (λ j l. omega (arith, size_most j l))

      module _ {xs : ℕ} {r : Candidates} (X : (j : ℕ) → j < 4 → lane xs j ≡ x) (A : Advances c xs gone key r) where
        went_nominated : Nominated s k (i + 1) r
        went_nominated = record { each = each; small = small }
          where
            each : (j : ℕ) → j < 4
                → Candidate (counts_at s (i + 1) (size j)) (latest_at s (i + 1)) k (lane r.symbols j) (lane r.keys j) (lane r.bounds j)
            each j l =
                let D = A.each j l in
                let p = size_some j l in
                rw (D.symbol_is, D.key_is, D.bound_is, X j l)
                (enters (spent_candidate j l) x_below (come_one s i (size j) x h p e) (come_kept s i (size j) x h p e) (come_stays s i (size j) x h p e) (come_newest s i (size j) x h p e) (lane key j) (key_counts j l))

            small : (j : ℕ) → j < 4 → lane r.bounds j ≤ most
            small j l =
                let D = A.each j l in
                let p = size_some j l in
                let C = spent_candidate j l in
                let f = lane c.symbols j in
                let b : f < 256 = omega (arith, C.within, S.few) in
                rw (D.bound_is, X j l)
                (enters_small C x_below (come_one s i (size j) x h p e) (come_kept s i (size j) x h p e) (come_stays s i (size j) x h p e) (come_newest s i (size j) x h p e) (lane key j) (key_counts j l) most
                (K.nominated.small j l) (omega (arith, left_is f b j l, left_room f b j l))
                (omega (arith, counted_is went_counted x x_small j l (omega arith), went_room x x_small j l)))

        pub went : Kept s k (i + 1) cnt₂ latest₂ r
        went =
            record {
              counted = went_counted;
              seen = rw N.latest_is (enter_seen K.seen x x_small e);
              nominated = went_nominated;
            }
