-- How many pairs a level has made, one place after the other. Where a pair is made, each level from there on that is below its cap makes an entry
-- too: so the pairs of a level below its cap, and those of every shorter one, are fewer than the cap and the levels together. Assumes nothing.
use Prim.Native.Nat.{ℕ, suc, ◌+◌, ◌-◌, ◌≤◌, ◌<◌}
use mathlib.Core.Path.{◌≡◌}
use mathlib.Core.List.{List}
use native.Mathlib.Omega.{arith}
use native.Mathlib.Decide.{dec_lt}
use Rattle.mmc_store.specs.Levels.{level}
use Rattle.mmc_store.specs.Inner.Ways.{Few}
use Rattle.mmc_store.proofs.Entries.{entries_grow}

pub few_empty : (N cap : ℕ) (s : List ℕ) (L : ℕ) → Few N cap s 0 L 0
few_empty N cap s L = record { places = omega arith; ways = λ K a b h. omega arith }

module _ {N cap : ℕ} {s : List ℕ} {i L n : ℕ} (w : Few N cap s i L n) where
  -- no pair is made at place i
  pub few_kept : Few N cap s (suc i) L n
  few_kept = record {
    places = omega (arith, w.places);
    ways = λ K a b h. omega (arith, w.ways K a b (omega (arith, entries_grow cap s K i)), entries_grow cap s K i);
  }

  -- a pair is made there: each level that is below its cap makes an entry
  pub few_more : L ≤ i →
      ((J : ℕ) → L ≤ J → J < N → J ≤ i → (level cap s i J).entries < cap → (level cap s (suc i) J).entries ≡ (level cap s i J).entries + 1) →
      Few N cap s (suc i) L (suc n)
  few_more taking grows = record { places = omega (arith, w.places); ways = λ J d e g. go J d e g (dec_lt i J) }
    where
      go : (J : ℕ) → L ≤ J → J < N → (level cap s (suc i) J).entries < cap → Dec (i < J) → suc n ≤ (level cap s (suc i) J).entries + (J - L)
      go J d e g (yes l) = omega (arith, w.places)
      go J d e g (no f) =
          let below : (level cap s i J).entries < cap = omega (arith, entries_grow cap s J i) in
          omega (arith, w.ways J d e below, grows J d e (omega arith) below)

  -- a level that is below its cap finds room: where there is none, it and every longer one are at their caps
  pub few_room : (K : ℕ) → L ≤ K → K < N → (level cap s i K).entries < cap → n < cap + N
  few_room K a b h = omega (arith, w.ways K a b h)

  pub few_full : cap + N ≤ n → (K : ℕ) → L ≤ K → K < N → cap ≤ (level cap s i K).entries
  few_full full K a b = go (dec_lt (level cap s i K).entries cap)
    where
      go : Dec ((level cap s i K).entries < cap) → cap ≤ (level cap s i K).entries
      go (yes h) = absurd (omega (arith, few_room K a b h))
      go (no f) = omega arith
