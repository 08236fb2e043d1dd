-- A shorter level has counted all that a longer one has: what follows the longer context follows its suffix too, at every place. So a level whose
-- context has a count is never above one whose context has none, and every level says what its own counters say. Assumes nothing.
use Prim.Native.Nat.{ℕ, zero, suc, ◌+◌, ◌*◌, ◌/◌, ◌%◌, ◌^◌, ◌≤◌, ◌<◌, zero-le}
use mathlib.Core.Path.{◌≡◌, refl, sym, ap, ◌∙◌}
use mathlib.Core.Bool.{Bool, true, false, ◌&&◌}
use mathlib.Core.List.{List}
use native.Mathlib.Omega.{arith}
use native.Mathlib.Nat.{add-zero}
use native.Mathlib.Numerals.{add-one}
use lib.ListN.{get_or}
use lib.Pow.{mod-pow-add}
use lib.Dec.{leb, eqb}
use borrow.Author.Tests.{le-leb, leb-true, eq-eqb, eqb-true}
use Rattle.capture.specs.Bits.{one}
use Rattle.race.specs.Race.{silent}
use Rattle.race.proofs.Cases.{same?}
use Rattle.mmc_bits.specs.Counters.{context, pair, places, occurs, counter}
use Rattle.mmc_bits.specs.Guesses.{own, behind, guess}
use Rattle.mmc_bits.specs.Inner.Steps.{Bits, followed}
use Rattle.mmc_bits.proofs.Cases.{verdict_none, verdict_some}
use Rattle.mmc_bits.proofs.Counting.{counter_under, counter_none, occurs_early}
use Rattle.mmc_bits.proofs.Room.{plain_below}
use Rattle.mmc_bits.proofs.Contexts.{context_low}

-- a test that holds less often, from a later place on, counts fewer places
one_fewer : (r s t u : Bool) → (r ≡ true → s ≡ true) → (t ≡ true → u ≡ true) → one (r && t) ≤ one (s && u)
one_fewer true s true u f g = rw (f refl, g refl) (omega arith)
one_fewer true s false u f g = zero-le
one_fewer false s t u f g = zero-le

places_fewer : (p q : ℕ → Bool) (from : ℕ) → ((j : ℕ) → p j ≡ true → q j ≡ true) → (i : ℕ) → places p (suc from) i ≤ places q from i
unfolding places
places_fewer p q from f zero = omega arith
places_fewer p q from f (suc i) =
    omega (
      arith,
      places_fewer p q from f i,
      one_fewer (leb (suc from) i) (leb from i) (p i) (q i) (λ t. le-leb from i (omega (arith, leb-true (suc from) i t))) (f i),
    )

-- ---- a pair of the next longer level has the shorter level's for its low bits

pair_low : (c x L : ℕ) → x < 2 → (c * 2 + x) % 2 ^ suc L ≡ c % 2 ^ L * 2 + x
pair_low c x L h =
    let q : (c * 2 + x) / 2 ≡ c = omega arith in
    let r : (c * 2 + x) % 2 ≡ x = omega arith in
    ap (λ (n : ℕ). (c * 2 + x) % 2 ^ n) (sym (add-one L)) ∙ mod-pow-add (c * 2 + x) L 1 ∙ rw (q, r) refl

-- and so has a context its suffix
pub suffix_is : (L : ℕ) (b : List ℕ) (k x : ℕ) → x < 2 → (context (suc L) b k * 2 + x) % 2 ^ suc L ≡ context L b k * 2 + x
suffix_is L b k x h = pair_low (context (suc L) b k) x L h ∙ ap (λ (c : ℕ). c * 2 + x) (context_low (suc L) L b k (omega arith))

module _ (L : ℕ) (b : List ℕ) (bs : Bits b) where
  pair_shorter : (j : ℕ) → pair (suc L) b j % 2 ^ suc L ≡ pair L b j
  unfolding pair
  pair_shorter j = suffix_is L b j (get_or b j 0) (bs j)

  -- a pair of level L + 1 occurs where its suffix does
  pub occurs_shorter : (k i : ℕ) → occurs (suc L) b k i ≤ occurs L b (k % 2 ^ suc L) i
  unfolding occurs
  occurs_shorter k i =
      places_fewer (λ j. eqb (pair (suc L) b j) k) (λ j. eqb (pair L b j) (k % 2 ^ suc L)) L
      (λ j t. eq-eqb _ _ (sym (pair_shorter j) ∙ ap (λ (m : ℕ). m % 2 ^ suc L) (eqb-true _ _ t))) i

  -- what followed the context of place k followed its suffix
  pub occurs_suffix : (k x : ℕ) → x < 2 → (i : ℕ) → occurs (suc L) b (context (suc L) b k * 2 + x) i ≤ occurs L b (context L b k * 2 + x) i
  occurs_suffix k x h i = rw (suffix_is L b k x h) at (occurs_shorter (context (suc L) b k * 2 + x) i)

-- ---- a level is silent where its context has no count

pub own_silent : (cap L : ℕ) (b : List ℕ) (i : ℕ) → followed cap L b i ≡ 0 → own cap L b i ≡ silent
unfolding own followed
own_silent cap L b i e = verdict_none (counter cap L b (context L b i * 2) i) (counter cap L b (context L b i * 2 + 1) i) e

-- ---- the counters, under a cap that no level below n reaches

module _ (cap n : ℕ) (room : 2 ^ n ≤ cap) (b : List ℕ) (bs : Bits b) where
  pub counter_shorter : (L k i : ℕ) → L < n → counter cap (suc L) b k i ≤ counter cap L b (k % 2 ^ suc L) i
  counter_shorter L k i l =
      omega (arith, counter_under cap (suc L) b k i, occurs_shorter L b bs k i, plain_below cap n L b (k % 2 ^ suc L) i bs room l)

  context_shorter : (L x i : ℕ) → L < n → x < 2
      → counter cap (suc L) b (context (suc L) b i * 2 + x) i ≤ counter cap L b (context L b i * 2 + x) i
  context_shorter L x i l h = rw (suffix_is L b i x h) at (counter_shorter L (context (suc L) b i * 2 + x) i l)

  followed_next : (L i : ℕ) → L < n → followed cap (suc L) b i ≤ followed cap L b i
  unfolding followed
  followed_next L i l = omega (arith, simp add-zero at (context_shorter L 0 i l (omega arith)), context_shorter L 1 i l (omega arith))

  -- a context has no more counts than its suffixes
  pub followed_shorter : (d L i : ℕ) → d + L ≤ n → followed cap (d + L) b i ≤ followed cap L b i
  followed_shorter zero L i h = let e : 0 + L ≡ L = omega arith in rw e (omega arith)
  followed_shorter (suc d) L i h =
      let e : suc d + L ≡ suc (d + L) = omega arith in
      rw e (omega (arith, followed_next (d + L) i (omega arith), followed_shorter d L i (omega arith)))

  -- ---- so nothing need be carried from level to level

  behind_spoken : (L i : ℕ) → 0 < followed cap L b i → behind (own cap L b i) (own cap (suc L) b i) ≡ own cap (suc L) b i
  unfolding own followed
  behind_spoken L i h = rw (verdict_some (counter cap L b (context L b i * 2) i) (counter cap L b (context L b i * 2 + 1) i) h) refl

  behind_own : (L i : ℕ) → L < n → behind (own cap L b i) (own cap (suc L) b i) ≡ own cap (suc L) b i
  behind_own L i l = same? (followed cap L b i) 0
      (λ e. rw (own_silent cap L b i e, own_silent cap (suc L) b i (omega (arith, followed_next L i l))) refl)
      (λ ne. behind_spoken L i (omega arith))

  pub guess_own : (i d : ℕ) → d < n → guess cap b i d ≡ own cap (suc d) b i
  unfolding guess
  guess_own i zero h = refl
  guess_own i (suc d) h = rw (guess_own i d (omega arith)) (behind_own (suc d) i h)

-- a level that is as long as the place or longer has no history
pub followed_late : (cap L : ℕ) (b : List ℕ) (i : ℕ) → i ≤ L → followed cap L b i ≡ 0
unfolding followed
followed_late cap L b i h =
    rw (
      counter_none cap L b (context L b i * 2) i (occurs_early L b (context L b i * 2) i h),
      counter_none cap L b (context L b i * 2 + 1) i (occurs_early L b (context L b i * 2 + 1) i h),
    )
    refl
