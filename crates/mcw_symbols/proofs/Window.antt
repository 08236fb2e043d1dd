-- The foremost symbol of a window, by how often it stands there and then by how late, is its commonest; one that is beaten is not. Assumes nothing.
use mathlib.Core.Path.{◌≡◌, refl, sym, ◌∙◌, subst}
use mathlib.Core.List.{List}
use Prim.Native.Nat.{ℕ, ◌+◌, ◌-◌, ◌*◌, ◌≤◌, ◌<◌}
use native.Mathlib.Omega.{arith}
use lib.Dec.{leb}
use lib.ListN.{length, get_or, take, drop, length-take, length-drop}
use lib.Seq.{get_or-take, get_or-drop}
use borrow.Author.Tests.{leb-true, leb-false}
use Rattle.race.proofs.Cases.{tested}
use Rattle.mcw_bits.specs.Inner.Counts.{before}
use Rattle.mcw_bits.specs.Commonest.{occurrences, commonest, window}
use Rattle.mcw_bits.proofs.Counting.{before_same, before_mono, occ_part}
use Rattle.mcw_bits.proofs.Commonest.{commonest_at}
use Rattle.mcw_symbols.specs.Inner.Samples.{Samples, last, latest_at, counts_at}
use Rattle.mcw_symbols.specs.Inner.Candidate.{Beats, Foremost, Candidate}
use Rattle.mcw_symbols.proofs.Latest.{last_le, last_past, last_has, last_none}
use Rattle.mcw_symbols.proofs.Candidate.{found, foremost_is, beaten}

-- the n samples from place lo on
module _ {s : List ℕ} {k : ℕ} (lo n : ℕ) {f : ℕ} (C : Samples s k) (pos : 0 < n) (h : lo + n ≤ length s) (b : f < k)
    (F : Foremost (λ y. before s y (lo + n) - before s y lo) (latest_at s (lo + n)) k f) where
  w : List ℕ
  w = take n (drop lo s)

  no_more : (y : ℕ) → y < k → occurrences y w ≤ occurrences f w
  unfolding w
  no_more y l = omega (arith, F.no_more y l, occ_part s y lo n, occ_part s f lo n)

  later : (y : ℕ) → y < k → last s f (lo + n) < last s y (lo + n) → occurrences y w < occurrences f w
  unfolding w
  later y l g =
      tested (leb (occurrences f w) (occurrences y w))
      (λ t. let u = leb-true (occurrences f w) (occurrences y w) t in
      absurd (omega (arith, F.no_later y l (omega (arith, occ_part s y lo n, occ_part s f lo n)))))
      (λ t. leb-false (occurrences f w) (occurrences y w) t)

  length_is : length w ≡ n
  unfolding w
  length_is = omega (arith, length-take n (drop lo s), length-drop lo s)

  at : (q : ℕ) → q < n → get_or w q 0 ≡ get_or s (lo + q) 0
  unfolding w
  at q l = rw (get_or-take, get_or-drop)

  -- f stands in the window, since what stands last does
  f_some : 0 < occurrences f w
  unfolding w
  f_some =
      let e : lo + n ≡ lo + (n - 1) + 1 = omega arith in
      let y = get_or s (lo + (n - 1)) 0 in
      let a : before s y (lo + n) ≡ before s y (lo + (n - 1)) + 1 = rw e (before_same s y (lo + (n - 1)) (omega arith) refl) in
      omega (arith, no_more y (C.below (lo + (n - 1)) (omega arith)), occ_part s y lo n, before_mono s y lo (lo + (n - 1)) (omega arith))

  f_last : lo < last s f (lo + n)
  unfolding w
  f_last =
      tested (leb (last s f (lo + n)) lo)
      (λ e. absurd (omega (arith, f_some, occ_part s f lo n, last_none s f lo n h (leb-true _ _ e))))
      (λ e. leb-false _ _ e)

  part_commonest : commonest (take n (drop lo s)) ≡ f
  unfolding w
  part_commonest =
      let j = last s f (lo + n) - 1 - lo in
      let e : lo + j + 1 ≡ last s f (lo + n) = omega (arith, f_last) in
      let jn : j < n = omega (arith, last_le s f (lo + n)) in
      commonest_at w j f (omega (arith, length_is)) (at j jn ∙ last_has s f (lo + n) (lo + j) (sym e)) (no_more 0 C.some)
      (λ q l. let l' : q < n = omega (arith, length_is) in rw (at q l') (no_more (get_or s (lo + q) 0) (C.below (lo + q) (omega arith))))
      (λ q g l _. let l' : q < n = omega (arith, length_is) in
      rw (at q l')
      (later (get_or s (lo + q) 0) (C.below (lo + q) (omega arith))
      (omega (arith, last_past s (get_or s (lo + q) 0) (lo + n) (lo + q) (omega arith) refl))))

-- two symbols that were seen are not seen latest at the same place
last_apart : (s : List ℕ) (i y f : ℕ) → 0 < last s f i → (y ≡ f → ⊥) → last s y i ≡ last s f i → ⊥
last_apart s i y f p q e =
    let j = last s f i - 1 in
    q (sym (last_has s y i j (omega arith)) ∙ last_has s f i j (omega arith))

-- the window of w samples before place i, which is full
module _ {s : List ℕ} {k i w : ℕ} (C : Samples s k) (h : i ≤ length s) (pos : 0 < w) (l : w ≤ i) where
  full : i - w + w ≡ i
  full = omega arith

  module _ {f : ℕ} (b : f < k) (F : Foremost (counts_at s i w) (latest_at s i) k f) where
    part : Foremost (λ y. before s y (i - w + w) - before s y (i - w)) (latest_at s (i - w + w)) k f
    part = subst (λ (j : ℕ). Foremost (λ y. before s y j - before s y (i - w)) (latest_at s j) k f) (sym full) F

    pub foremost_commonest : commonest (window s i w) ≡ f
    foremost_commonest = part_commonest (i - w) w C pos (omega arith) b part

    foremost_seen : 0 < last s f i
    foremost_seen = let g : i - w < last s f i = rw full at (f_last (i - w) w C pos (omega arith) b part) in omega arith

    pub foremost_found : Candidate (counts_at s i w) (latest_at s i) k f (2 * counts_at s i w f + 1) (2 * counts_at s i w f)
    foremost_found = found b F (λ y _ q e. last_apart s i y f foremost_seen q e)

  pub beaten_uncommon : {f x : ℕ} → f < k → Beats (counts_at s i w) (latest_at s i) f x → commonest (window s i w) ≡ x → ⊥
  beaten_uncommon {f} {x} b B e =
      let n : k - 1 + 1 ≡ k = omega (arith, C.some) in
      let g = foremost_is (counts_at s i w) (latest_at s i) (k - 1) in
      let gk : g.0 < k = omega (arith, g.1.0) in
      let G : Foremost (counts_at s i w) (latest_at s i) k g.0 = rw n at g.1.1 in
      beaten b B (subst (λ (y : ℕ). Foremost (counts_at s i w) (latest_at s i) k y) (sym (foremost_commonest gk G) ∙ e) G)
