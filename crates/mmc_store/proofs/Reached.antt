-- Which levels are through with a place, once one more of them is. Assumes nothing.
use Prim.Native.Nat.{ℕ, suc, ◌≤◌, ◌<◌}
use mathlib.Core.Path.{◌≡◌}
use native.Mathlib.Omega.{arith}
use native.Mathlib.Decide.{dec_lt}
use borrow.Author.Tests.{lt-ltb, le-ltb}
use Rattle.mmc_store.specs.Inner.Places.{reached}

pub reached_waits : (i k j : ℕ) → k ≤ j → reached i k j ≡ i
reached_waits i k j h = rw (le-ltb j k h)

pub reached_done : (i k j : ℕ) → j < k → reached i k j ≡ suc i
reached_done i k j h = rw (lt-ltb j k h)

pub reached_other : (i l j : ℕ) → (j ≡ l → ⊥) → reached i (suc l) j ≡ reached i l j
reached_other i l j f = go (dec_lt j l)
  where
    go : Dec (j < l) → reached i (suc l) j ≡ reached i l j
    go (yes h) = rw (lt-ltb j (suc l) (omega arith), lt-ltb j l h)
    go (no g) = rw (le-ltb j (suc l) (omega arith), le-ltb j l (omega arith))
