-- What a level becomes at a place, by what it has of the context there and by its cap; a context that is absent is absent at every longer level.
-- Assumes nothing.
use Prim.Native.Nat.{ℕ, zero, suc, ◌+◌, ◌-◌, ◌≤◌, ◌<◌}
use mathlib.Core.Path.{◌≡◌, refl}
use mathlib.Core.Bool.{Bool, true, false, cond, ◌&&◌}
use mathlib.Core.List.{List, [], ◌∷◌}
use native.Mathlib.Omega.{arith}
use lib.ListN.{length, get_or}
use lib.Dec.{eqb}
use Rattle.mmc_store.specs.Counts.{same, count}
use Rattle.mmc_store.specs.Levels.{Level, counting, found, level}
use Rattle.mmc_store.proofs.Entries.{level_cases, found_shorter}

module _ (cap : ℕ) (s : List ℕ) (L i : ℕ) (l : L ≤ i) where
  abbrev v : Level
  v = level cap s i L

  abbrev f : Bool
  f = found s (level cap s i) i L

  abbrev n : ℕ
  n = count s L (level cap s i L).places i (get_or s i 0)

  -- the context is found, and the pair was counted before
  pub becomes-again : f ≡ true → (n ≡ 0 → ⊥) → level cap s (suc i) L ≡ counting v i 0
  becomes-again t g = level_cases cap s L i (λ u. u ≡ counting v i 0) l (λ a b. absurd (g (b t))) (λ a b. refl) (λ a b. absurd (g (b t)))

  -- the context is absent, or a shorter one is, or the pair was not counted
  pub becomes_new : (f ≡ true → n ≡ 0) → v.entries < cap → level cap s (suc i) L ≡ counting v i 1
  becomes_new z h =
      level_cases cap s L i (λ u. u ≡ counting v i 1) l (λ a b. refl) (λ a b. absurd (b (z a))) (λ a b. absurd (omega arith))

  pub becomes_same : (f ≡ true → n ≡ 0) → cap ≤ v.entries → level cap s (suc i) L ≡ v
  becomes_same z h = level_cases cap s L i (λ u. u ≡ v) l (λ a b. absurd (omega arith)) (λ a b. absurd (b (z a))) (λ a b. refl)

absent_by : (s : List ℕ) (at : ℕ → Level) (i L d : ℕ) → found s at i L ≡ false → found s at i (L + d) ≡ false
absent_by s at i L zero h = let e : L + 0 ≡ L = omega arith in rw e h
absent_by s at i L (suc d) h =
    let e : L + suc d ≡ suc (L + d) = omega arith in rw e (go (found s at i (suc (L + d))) refl (absent_by s at i L d h))
  where
    go : (b : Bool) → found s at i (suc (L + d)) ≡ b → found s at i (L + d) ≡ false → found s at i (suc (L + d)) ≡ false
    go false q ih = q
    go true q ih = let t = found_shorter s at i (L + d) q in absurd (let z : ◌≡◌ {A = ℕ} 0 1 = cc in omega arith)

pub absent_longer : (s : List ℕ) (at : ℕ → Level) (i L K : ℕ) → L ≤ K → found s at i L ≡ false → found s at i K ≡ false
absent_longer s at i L K l h = let e : L + (K - L) ≡ K = omega arith in rw e at (absent_by s at i L (K - L) h)

-- a pair is counted at most once for each place
pub count_le : (s : List ℕ) (L : ℕ) (h : List ℕ) (i x : ℕ) → count s L h i x ≤ length h
unfolding count
count_le s L [] i x = omega arith
count_le s L (j ∷ h) i x = go (same s L j i && eqb (get_or s j 0) x) (count_le s L h i x)
  where
    go : (b : Bool) → count s L h i x ≤ length h → count s L h i x + cond b 1 0 ≤ suc (length h)
    go true l = omega arith
    go false l = omega arith
