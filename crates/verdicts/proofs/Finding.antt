-- The last number that passes a test, and whether one does. Assumes nothing.
use mathlib.Core.Path.{◌≡◌, refl}
use mathlib.Core.Bool.{Bool, true, false, cond}
use Prim.Native.Nat.{ℕ, zero, suc, ◌<◌}
use native.Mathlib.Omega.{arith}
use Rattle.verdicts.specs.Inner.Deficits.{last_of, some_of}
use Rattle.race.proofs.Cases.{same?}

-- one that passes is found
pub some_found : (p : ℕ → Bool) (m j : ℕ) → j < m → p j ≡ true → some_of p m ≡ true
unfolding some_of
some_found p zero j l e = absurd (omega arith)
some_found p (suc m) j l e = same? m j (λ q. rw (q, e)) (λ n. rw (some_found p m j (omega arith) e) (either (p m)))
  where
    either : (b : Bool) → cond b true true ≡ true
    either true = refl
    either false = refl

pub last_ext : (p q : ℕ → Bool) (w m : ℕ) → ((j : ℕ) → j < m → p j ≡ q j) → last_of p w m ≡ last_of q w m
unfolding last_of
last_ext p q w zero e = refl
last_ext p q w (suc m) e = rw (e m (omega arith), last_ext p q w m (λ j l. e j (omega arith)))

pub last_none : (p : ℕ → Bool) (w m : ℕ) → ((i : ℕ) → i < m → p i ≡ false) → last_of p w m ≡ w
unfolding last_of
last_none p w zero n = refl
last_none p w (suc m) n = rw (n m (omega arith)) (last_none p w m (λ i l. n i (omega arith)))

pub some_none : (p : ℕ → Bool) (m : ℕ) → ((i : ℕ) → i < m → p i ≡ false) → some_of p m ≡ false
unfolding some_of
some_none p zero n = refl
some_none p (suc m) n = rw (n m (omega arith)) (some_none p m (λ i l. n i (omega arith)))

pub last_at : (p : ℕ → Bool) (w m j : ℕ) → j < m → p j ≡ true → ((i : ℕ) → j < i → p i ≡ false) → last_of p w m ≡ j
unfolding last_of
last_at p w zero j l e n = absurd (omega arith)
last_at p w (suc m) j l e n = same? m j (λ q. rw (q, e)) (λ q. rw (n m (omega arith)) (last_at p w m j (omega arith) e n))
