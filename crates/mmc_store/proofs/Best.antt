-- What is kept of the predicted symbol, as one number: the largest of all counts with their symbols. It is 0 where the context is absent, and a
-- place that is counted raises it at the places of its context only. Assumes nothing.
use Prim.Native.Nat.{ℕ, zero, suc, ◌+◌, ◌%◌, ◌≤◌, ◌<◌, max}
use mathlib.Core.Path.{◌≡◌, refl, sym, ap, ◌∙◌}
use mathlib.Core.Bool.{Bool, true, false, cond, ◌&&◌, ◌||◌}
use mathlib.Core.List.{List, [], ◌∷◌}
use native.Mathlib.Omega.{arith}
use native.Mathlib.Decide.{ℕ_discrete}
use lib.ListN.{get_or}
use lib.Dec.{eqb, leb, ltb}
use borrow.Author.Tests.{eq-eqb, ne_eqb, leb-true, leb-false, lt-ltb}
use Rattle.mmc_store.specs.Counts.{same, present, count, largest, predicted}
use Rattle.mmc_store.specs.Inner.Words.{key_of, best}

-- ---- the largest of the counts f of the symbols below n, each with its symbol
unfoldable most : (ℕ → ℕ) → ℕ → ℕ
most f zero = 0
most f (suc n) = max (most f n) (key_of (f n) n)

record Packed (f : ℕ → ℕ) (n b : ℕ) : Type 0 where
  pub below : b ≤ n
  pub is : key_of (f b) b ≡ most f (suc n)

-- "The largest count wins, a tie going to the larger symbol."
packed : (f : ℕ → ℕ) (n : ℕ) → n < 256 → Packed f n (largest f (suc n))
unfolding most largest
packed f zero l = go (leb (f 0) (f 0))
  where
    go : (b : Bool) → Packed f 0 (cond b 0 0)
    go true = record { below = omega arith; is = omega arith }
    go false = record { below = omega arith; is = omega arith }
packed f (suc n) l = go (largest f (suc n)) (packed f n (omega arith)) (leb (f (largest f (suc n))) (f (suc n))) refl
  where
    go : (b : ℕ) → Packed f n b → (t : Bool) → leb (f b) (f (suc n)) ≡ t → Packed f (suc n) (cond t (suc n) b)
    go b w true e = record { below = omega arith; is = omega (arith, w.is, w.below, leb-true (f b) (f (suc n)) e) }
    go b w false e = record { below = omega (arith, w.below); is = omega (arith, w.is, w.below, leb-false (f b) (f (suc n)) e) }

most_agree : (f g : ℕ → ℕ) (n : ℕ) → ((y : ℕ) → y < n → g y ≡ f y) → most g n ≡ most f n
unfolding most
most_agree f g zero h = refl
most_agree f g (suc n) h = rw (h n (omega arith), most_agree f g n (λ y l. h y (omega arith)))

most_up : (f g : ℕ → ℕ) (n : ℕ) → ((y : ℕ) → f y ≤ g y) → most f n ≤ most g n
unfolding most
most_up f g zero h = omega arith
most_up f g (suc n) h = omega (arith, h n, most_up f g n h)

most_ge : (f : ℕ → ℕ) (n y : ℕ) → y < n → key_of (f y) y ≤ most f n
unfolding most
most_ge f zero y l = absurd (omega arith)
most_ge f (suc n) y l = go (ℕ_discrete y n) (λ h. most_ge f n y h)
  where
    go : Dec (y ≡ n) → (y < n → key_of (f y) y ≤ most f n) → key_of (f y) y ≤ max (most f n) (key_of (f n) n)
    go (yes e) ih = rw e (omega arith)
    go (no d) ih = omega (arith, ih (omega arith))

most_none : (f : ℕ → ℕ) (n : ℕ) → ((y : ℕ) → f y ≡ 0) → most f (suc n) ≤ n
unfolding most
most_none f zero h = omega (arith, h 0)
most_none f (suc n) h = omega (arith, h (suc n), most_none f n h)

-- one count has grown by one
most_grown : (f g : ℕ → ℕ) (x n : ℕ) →
    x < n →
    g x ≡ f x + 1 →
    ((y : ℕ) → (y ≡ x → ⊥) → g y ≡ f y) →
    most g n ≡ max (most f n) (key_of (g x) x)
unfolding most
most_grown f g x zero l up kept = absurd (omega arith)
most_grown f g x (suc n) l up kept = go (ℕ_discrete x n) (λ h. most_grown f g x n h up kept)
  where
    go : Dec (x ≡ n) →
        (x < n → most g n ≡ max (most f n) (key_of (g x) x)) →
        max (most g n) (key_of (g n) n) ≡ max (max (most f n) (key_of (f n) n)) (key_of (g x) x)
    go (yes e) ih =
        let a : most g n ≡ most f n = most_agree f g n (λ y h. kept y (λ q. omega arith)) in
        let b : g n ≡ g x = ap g (sym e) in
        let c : f n ≡ f x = ap f (sym e) in
        omega arith
    go (no d) ih = omega (arith, ih (omega arith), kept n (λ q. d (sym q)))

-- ---- of the places h that level L has counted
module _ (s : List ℕ) (L : ℕ) where
  pub predicted_lt : (h : List ℕ) (i : ℕ) → predicted s L h i < 256
  unfolding predicted
  predicted_lt h i = omega (arith, (packed (count s L h i) 255 (omega arith)).below)

  pub best_predicted : (h : List ℕ) (i : ℕ) → present s L h i ≡ true → best s L h i % 256 ≡ predicted s L h i
  unfolding best
  best_predicted h i t = rw t (omega (arith, predicted_lt h i))

  best_most : (h : List ℕ) (i : ℕ) → best s L h i ≡ cond (present s L h i) (most (count s L h i) 256) 0
  unfolding best predicted
  best_most h i = ap (λ (n : ℕ). cond (present s L h i) n 0) (packed (count s L h i) 255 (omega arith)).is

  -- an absent context has no counts
  none : (h : List ℕ) (i y : ℕ) → present s L h i ≡ false → count s L h i y ≡ 0
  unfolding present count
  none [] i y t = refl
  none (j ∷ h) i y t = go (same s L j i) t (none h i y)
    where
      go : (b : Bool) →
          (b || present s L h i) ≡ false →
          (present s L h i ≡ false → count s L h i y ≡ 0) →
          count s L h i y + cond (b && eqb (get_or s j 0) y) 1 0 ≡ 0
      go true t ih = absurd (let z : ◌≡◌ {A = ℕ} 0 1 = cc in omega arith)
      go false t ih = omega (arith, ih t)

  -- place i is counted: the count of its symbol grows at the places of its context, and no other count
  module _ (h : List ℕ) (i j : ℕ) where
    up : same s L i j ≡ true → count s L (i ∷ h) j (get_or s i 0) ≡ count s L h j (get_or s i 0) + 1
    unfolding count
    up t = rw (t, eq-eqb (get_or s i 0) (get_or s i 0) refl)

    kept : (y : ℕ) → (y ≡ get_or s i 0 → ⊥) → count s L (i ∷ h) j y ≡ count s L h j y
    unfolding count
    kept y f = rw (ne_eqb (get_or s i 0) y (λ e. f (sym e))) (go (same s L i j))
      where
        go : (b : Bool) → count s L h j y + cond (b && false) 1 0 ≡ count s L h j y
        go true = omega arith
        go false = omega arith

    apart : (y : ℕ) → same s L i j ≡ false → count s L (i ∷ h) j y ≡ count s L h j y
    unfolding count
    apart y t = rw t (omega arith)

    grow : (y : ℕ) → count s L h j y ≤ count s L (i ∷ h) j y
    unfolding count
    grow y = omega arith

    pub best_there : same s L i j ≡ false → best s L (i ∷ h) j ≡ best s L h j
    unfolding present
    best_there t =
        let e : most (count s L (i ∷ h) j) 256 ≡ most (count s L h j) 256 = most_agree (count s L h j) (count s L (i ∷ h) j) 256 (λ y l. apart y t) in
        best_most (i ∷ h) j ∙ rw t (ap (λ (n : ℕ). cond (present s L h j) n 0) e) ∙ sym (best_most h j)

    abbrev new : ℕ
    new = key_of (count s L (i ∷ h) j (get_or s i 0)) (get_or s i 0)

    pub best_here : get_or s i 0 < 256 →
        same s L i j ≡ true →
        best s L (i ∷ h) j ≡ max (best s L h j) new
    unfolding present
    best_here byte t =
        best_most (i ∷ h) j ∙ rw t (most_grown (count s L h j) (count s L (i ∷ h) j) (get_or s i 0) 256 byte (up t) kept)
        ∙ go (present s L h j) refl
      where
        go : (b : Bool) → present s L h j ≡ b → max (most (count s L h j) 256) new ≡ max (best s L h j) new
        go true q = rw (best_most h j, q)
        go false q = rw (best_most h j, q) (omega (arith, most_none (count s L h j) 255 (λ y. none h j y q), up t))

  module _ (bytes : (j : ℕ) → get_or s j 0 < 256) where
    some : (h : List ℕ) (i : ℕ) → present s L h i ≡ true → 256 ≤ most (count s L h i) 256
    unfolding present
    some [] i t = absurd (let z : ◌≡◌ {A = ℕ} 0 1 = cc in omega arith)
    some (j ∷ h) i t = go (same s L j i) refl t (some h i)
      where
        go : (b : Bool) →
            same s L j i ≡ b →
            (b || present s L h i) ≡ true →
            (present s L h i ≡ true → 256 ≤ most (count s L h i) 256) →
            256 ≤ most (count s L (j ∷ h) i) 256
        go true q t ih = omega (arith, up h j i q, most_ge (count s L (j ∷ h) i) 256 (get_or s j 0) (bytes j))
        go false q t ih = omega (arith, ih t, most_up (count s L h i) (count s L (j ∷ h) i) 256 (grow h j i))

    -- a context is present where something is kept of it
    pub present_best : (h : List ℕ) (i : ℕ) → ltb 0 (best s L h i) ≡ present s L h i
    present_best h i = rw (best_most h i) (go (present s L h i) refl)
      where
        go : (b : Bool) → present s L h i ≡ b → ltb 0 (cond b (most (count s L h i) 256) 0) ≡ b
        go true t = lt-ltb 0 (most (count s L h i) 256) (omega (arith, some h i t))
        go false t = refl
