-- What a candidate with a bound says of the favourite, and how it changes as a sample leaves and one comes. Assumes nothing.
use mathlib.Core.Path.{◌≡◌, ap}
use Prim.Native.Nat.{ℕ, zero, suc, ◌+◌, ◌-◌, ◌*◌, ◌/◌, ◌≤◌, ◌<◌}
use native.Mathlib.Omega.{arith}
use lib.Dec.{leb, ltb}
use borrow.Author.Count.{below_more}
use borrow.Author.Tests.{leb-true, leb-false, ltb-true, ltb-false}
use Rattle.race.proofs.Cases.{tested, same?}
use Rattle.mcw_symbols.specs.Inner.Candidate.{Beats, Foremost, Candidate}

module _ {count last : ℕ → ℕ} {k f m o : ℕ} (C : Candidate count last k f m o) where
  -- one that stands less often than m says, and is not the candidate, is behind it
  pub unlike : (x : ℕ) → x < k → (x ≡ f → ⊥) → 2 * count x < m → Beats count last f x
  unlike x b q l =
      record {
        no_more = omega (arith, C.most);
        earlier = λ g. C.latest (omega (arith, C.most, C.least)) x b q g;
      }

  -- above the bound, the candidate is the favourite
  pub sure : o < m → Foremost count last k f
  sure l = record { no_more = more; no_later = later }
    where
      ahead : (y : ℕ) → y < k → (y ≡ f → ⊥) → Beats count last f y
      ahead y b q = unlike y b q (omega (arith, C.bound y b q))

      more : (y : ℕ) → y < k → count y ≤ count f
      more y b = same? y f (λ q. rw q (omega arith)) (λ q. (ahead y b q).no_more)

      later : (y : ℕ) → y < k → count f ≤ count y → last y ≤ last f
      later y b g = same? y f (λ q. rw q (omega arith)) (λ q. omega (arith, (ahead y b q).earlier g))

  -- another sample leaves
  pub thins : {count' : ℕ → ℕ} → count' f ≡ count f → ((y : ℕ) → (y ≡ f → ⊥) → count' y ≤ count y) → Candidate count' last k f m o
  thins e less =
      record {
        within = C.within;
        least = omega (arith, C.least);
        most = omega (arith, C.most);
        latest = λ t y b q g. C.latest (omega arith) y b q (omega (arith, less y q));
        bound = λ y b q. omega (arith, C.bound y b q, less y q);
      }

  -- the candidate leaves
  pub loses : {count' : ℕ → ℕ} → count' f + 1 ≡ count f → ((y : ℕ) → (y ≡ f → ⊥) → count' y ≤ count y)
      → Candidate count' last k f (m / 2 * 2 - 2) o
  loses {count'} e less =
      let h : m / 2 * 2 - 2 ≡ 2 * count' f = omega (arith, C.least, C.most) in
      record {
        within = C.within;
        least = omega arith;
        most = omega arith;
        latest = λ t. absurd (omega arith);
        bound = λ y b q. omega (arith, C.bound y b q, less y q);
      }

  -- the sample x comes, the latest of all
  module _ {count' last' : ℕ → ℕ} {x : ℕ} (within : x < k) (one : count' x ≡ count x + 1)
      (kept : (y : ℕ) → (y ≡ x → ⊥) → count' y ≡ count y) (stays : (y : ℕ) → (y ≡ x → ⊥) → last' y ≡ last y)
      (newest : (y : ℕ) → (y ≡ x → ⊥) → last' y < last' x) where
    -- and is the candidate again
    pub comes-again : x ≡ f → Candidate count' last' k x (2 * count' x + 1) o
    comes-again e =
        record {
          within = within;
          least = omega arith;
          most = omega arith;
          latest = λ t y b q g. newest y q;
          bound = λ y b q. omega (arith, C.bound y b (λ z. q (rw e z)), kept y q);
        }

    -- or becomes it
    pub takes : {o' : ℕ} → o ≤ o' → m / 2 * 2 ≤ o' → Candidate count' last' k x (2 * count' x + 1) o'
    takes {o'} l h =
        record {
          within = within;
          least = omega arith;
          most = omega arith;
          latest = λ t y b q g. newest y q;
          bound = λ y b q. same? y f (λ z. held y q z) (λ z. omega (arith, C.bound y b z, kept y q));
        }
      where
        held : (y : ℕ) → (y ≡ x → ⊥) → y ≡ f → 2 * count' y ≤ o'
        held y q z = let e : count y ≡ count f = ap count z in omega (arith, kept y q, C.least, C.most)

    -- or stands too seldom
    pub stands : 2 * count' x + 1 < m → {o' : ℕ} → o ≤ o' → 2 * count' x ≤ o' → Candidate count' last' k f m o'
    stands l {o'} h i =
        let other : f ≡ x → ⊥ = λ z. let e : count f ≡ count x = ap count z in absurd (omega (arith, C.most)) in
        let e : count' f ≡ count f = kept f other in
        record {
          within = C.within;
          least = omega (arith, C.least);
          most = omega (arith, C.most);
          latest = λ t y b q g. same? y x (λ z. absurd (seldom y z g (kept f other))) (λ z. earlier t y b q g z);
          bound = λ y b q. same? y x (λ z. let u : count' y ≡ count' x = ap count' z in omega arith) (λ z. omega (arith, C.bound y b q, kept y z));
        }
      where
        seldom : (y : ℕ) → y ≡ x → count' f ≤ count' y → count' f ≡ count f → ⊥
        seldom y z g u = let v : count' y ≡ count' x = ap count' z in omega (arith, C.most)

        earlier : m ≡ 2 * count' f + 1 → (y : ℕ) → y < k → (y ≡ f → ⊥) → count' f ≤ count' y → (y ≡ x → ⊥) → last' y < last' f
        earlier t y b q g z =
            let other : f ≡ x → ⊥ = λ w. let e : count f ≡ count x = ap count w in absurd (omega (arith, C.most)) in
            let e : count' f ≡ count f = kept f other in
            omega (arith, stays y z, stays f other, C.latest (omega arith) y b q (omega (arith, kept y z)))

-- the favourite, once found, is the candidate
pub found : {count last : ℕ → ℕ} {k b : ℕ} → b < k → Foremost count last k b → ((y : ℕ) → y < k → (y ≡ b → ⊥) → last y ≡ last b → ⊥)
    → Candidate count last k b (2 * count b + 1) (2 * count b)
found {count} {last} {k} {b} w F apart =
    record {
      within = w;
      least = omega arith;
      most = omega arith;
      latest = λ t y l q g. omega (arith, F.no_later y l g, apart y l q);
      bound = λ y l q. omega (arith, F.no_more y l);
    }

-- the favourite of n symbols, symbol by symbol
pub foremost_none : {count last : ℕ → ℕ} {b : ℕ} → Foremost count last 0 b
foremost_none = record { no_more = λ y l. absurd (omega arith); no_later = λ y l. absurd (omega arith) }

module _ {count last : ℕ → ℕ} {n b : ℕ} (F : Foremost count last n b) where
  pub foremost_takes : (count b ≤ count n) → (count n ≤ count b → last b ≤ last n) → Foremost count last (n + 1) n
  foremost_takes l h =
      record {
        no_more = below_more (λ (y : ℕ). count y ≤ count n) n (λ y g. omega (arith, F.no_more y g)) (omega arith);
        no_later = below_more (λ (y : ℕ). count n ≤ count y → last y ≤ last n) n
            (λ y g i. omega (arith, F.no_more y g, F.no_later y g (omega arith), h (omega (arith, F.no_more y g)))) (λ i. omega arith);
      }

  pub foremost_keeps : (count n ≤ count b) → (count b ≤ count n → last n ≤ last b) → Foremost count last (n + 1) b
  foremost_keeps l h =
      record {
        no_more = below_more (λ (y : ℕ). count y ≤ count b) n F.no_more l;
        no_later = below_more (λ (y : ℕ). count b ≤ count y → last y ≤ last b) n F.no_later h;
      }

-- there is one
pub foremost_is : (count last : ℕ → ℕ) (n : ℕ) → (b : ℕ) × ((b < n + 1) × Foremost count last (n + 1) b)
foremost_is count last zero = (0, (omega arith, foremost_keeps foremost_none (omega arith) (λ i. omega arith)))
foremost_is count last (suc n) = let e : suc n ≡ n + 1 = omega arith in rw e (next (n + 1) (foremost_is count last n))
  where
    next : (n : ℕ) → (b : ℕ) × ((b < n) × Foremost count last n b) → (b : ℕ) × ((b < n + 1) × Foremost count last (n + 1) b)
    next n F =
        let b = F.0 in
        tested (leb (count b) (count n))
        (λ t. let l = leb-true (count b) (count n) t in
        tested (ltb (last n) (last b))
        (λ u. let v = ltb-true (last n) (last b) u in
        tested (leb (count n) (count b))
        (λ w. let r = leb-true (count n) (count b) w in (b, (omega (arith, F.1.0), foremost_keeps F.1.1 r (λ i. omega arith))))
        (λ w. let r = leb-false (count n) (count b) w in (n, (omega arith, foremost_takes F.1.1 l (λ i. absurd (omega arith))))))
        (λ u. let v = ltb-false (last n) (last b) u in (n, (omega arith, foremost_takes F.1.1 l (λ i. omega arith)))))
        (λ t. let l = leb-false (count b) (count n) t in (b, (omega (arith, F.1.0), foremost_keeps F.1.1 (omega arith) (λ i. absurd (omega arith)))))

-- one that is beaten is not the favourite
pub beaten : {count last : ℕ → ℕ} {k f x : ℕ} → f < k → Beats count last f x → Foremost count last k x → ⊥
beaten {count} {last} {k} {f} {x} b B F = omega (arith, B.no_more, B.earlier (F.no_more f b), F.no_later f b B.no_more)
