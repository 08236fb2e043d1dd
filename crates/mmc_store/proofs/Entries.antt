-- What a level has counted before a place: no more than its cap and the places allow. Assumes nothing.
use Prim.Native.Nat.{ℕ, zero, suc, ◌-◌, ◌≤◌, ◌<◌}
use mathlib.Core.Path.{◌≡◌, refl}
use mathlib.Core.Bool.{Bool, true, false, cond}
use mathlib.Core.List.{List}
use native.Mathlib.Omega.{arith}
use native.Mathlib.Decide.{dec_lt}
use lib.ListN.{length, get_or}
use lib.Dec.{eqb, ltb}
use borrow.Author.Tests.{ltb-true, ltb-false, lt-ltb, le-ltb, eqb-true, eqb-false}
use Rattle.mmc_store.specs.Counts.{present, count}
use Rattle.mmc_store.specs.Levels.{Level, nothing, counting, when_found, when_absent, found, level}
use Rattle.mmc_store.proofs.Same.{and_left}

-- before the place of its own length a level has counted nothing
pub level_early : (cap : ℕ) (s : List ℕ) (i L : ℕ) → i ≤ L → level cap s i L ≡ nothing
unfolding level
level_early cap s zero L l = refl
level_early cap s (suc i) L l = rw (lt-ltb i L l)

-- ---- what a place does to a level: an entry more, a pair counted again, or nothing
module _ (cap : ℕ) (s : List ℕ) (L i : ℕ) (A : Level → Type 0) where
  abbrev v : Level
  v = level cap s i L

  abbrev f : Bool
  f = found s (level cap s i) i L

  abbrev n : ℕ
  n = count s L (level cap s i L).places i (get_or s i 0)

  pub level_cases : L ≤ i →
      (v.entries < cap → (f ≡ true → n ≡ 0) → A (counting v i 1)) →
      (f ≡ true → (n ≡ 0 → ⊥) → A (counting v i 0)) →
      (cap ≤ v.entries → (f ≡ true → n ≡ 0) → A v) →
      A (level cap s (suc i) L)
  unfolding level when_found when_absent
  level_cases l grew again still = rw (le-ltb i L l) (go f refl)
    where
      new : (f ≡ true → n ≡ 0) → (b : Bool) → ltb v.entries cap ≡ b → A (cond b (counting v i 1) v)
      new z true q = grew (ltb-true v.entries cap q) z
      new z false q = still (ltb-false v.entries cap q) z

      inner : f ≡ true → (a : Bool) → eqb n 0 ≡ a → A (cond a (cond (ltb v.entries cap) (counting v i 1) v) (counting v i 0))
      inner t true p = new (λ u. eqb-true n 0 p) (ltb v.entries cap) refl
      inner t false p = again t (eqb-false n 0 p)

      go : (b : Bool) → f ≡ b → A (cond b (when_found cap s L v i) (when_absent cap v i))
      go true t = inner t (eqb n 0) refl
      go false t = new (λ u. absurd (let z : ◌≡◌ {A = ℕ} 0 1 = cc in omega arith)) (ltb v.entries cap) refl

-- what holds of a level that has counted nothing, and stays so whatever a place does to it
module _ (cap : ℕ) (s : List ℕ) (L : ℕ) (A : ℕ → Level → Type 0) where
  level_all : ((i : ℕ) → i ≤ L → A i nothing) →
      ((i : ℕ) (v : Level) → L ≤ i → A i v → v.entries < cap → A (suc i) (counting v i 1)) →
      ((i : ℕ) (v : Level) → L ≤ i → A i v → A (suc i) (counting v i 0)) →
      ((i : ℕ) (v : Level) → L ≤ i → A i v → cap ≤ v.entries → A (suc i) v) →
      (i : ℕ) → A i (level cap s i L)
  level_all none grew again still zero = rw (level_early cap s zero L (omega arith)) (none zero (omega arith))
  level_all none grew again still (suc i) = go (level_all none grew again still i) (dec_lt i L)
    where
      go : A i (level cap s i L) → Dec (i < L) → A (suc i) (level cap s (suc i) L)
      go h (yes l) = rw (level_early cap s (suc i) L l) (none (suc i) l)
      go h (no l) =
          let m : L ≤ i = omega arith in
          level_cases cap s L i (A (suc i)) m (λ a b. grew i (level cap s i L) m h a) (λ a b. again i (level cap s i L) m h)
          (λ a b. still i (level cap s i L) m h a)

-- ---- how much a level has counted
pub places_le : (cap : ℕ) (s : List ℕ) (L i : ℕ) → length (level cap s i L).places ≤ i - L
places_le cap s L i =
    level_all cap s L (λ i v. length v.places ≤ i - L) (λ i l. omega arith) (λ i v l h a. omega arith) (λ i v l h. omega arith)
    (λ i v l h a. omega arith) i

pub entries_grow : (cap : ℕ) (s : List ℕ) (L i : ℕ) → (level cap s i L).entries ≤ (level cap s (suc i) L).entries
entries_grow cap s L i = go (dec_lt i L)
  where
    go : Dec (i < L) → (level cap s i L).entries ≤ (level cap s (suc i) L).entries
    go (yes l) = rw (level_early cap s i L (omega arith)) (omega arith)
    go (no l) =
        level_cases cap s L i (λ w. (level cap s i L).entries ≤ w.entries) (omega arith) (λ a b. omega arith) (λ a b. omega arith) (λ a b. omega arith)

pub found_shorter : (s : List ℕ) (at : ℕ → Level) (i L : ℕ) → found s at i (suc L) ≡ true → found s at i L ≡ true
unfolding found
found_shorter s at i L h = and_left (found s at i L) (present s (suc L) (at (suc L)).places i) h
