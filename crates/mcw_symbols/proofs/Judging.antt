-- What a window tells of the symbol that came, by its candidate, is its verdict. Assumes nothing.
use mathlib.Core.Path.{◌≡◌, refl, sym, ◌∙◌}
use mathlib.Core.Bool.{Bool, true, false, cond, ◌&&◌, ◌||◌, not}
use mathlib.Core.List.{List}
use Prim.Native.Nat.{ℕ, ◌≤◌, ◌<◌}
use native.Mathlib.Omega.{arith}
use lib.Dec.{eqb, leb}
use lib.ListN.{length, get_or}
use borrow.Author.Tests.{leb-true, leb-false, le-leb, eqb-false, eq-eqb, ne_eqb}
use Rattle.race.specs.Race.{hit, miss, judge, hit_of}
use Rattle.race.proofs.Cases.{tested, same?}
use Rattle.lanes.specs.Inner.Lanes.{lane}
use Rattle.verdicts.specs.Inner.Told.{spoke_of}
use Rattle.mcw_bits.specs.Commonest.{commonest, window}
use Rattle.mcw_bits.specs.Mcw.{size, said}
use Rattle.mcw_symbols.specs.Inner.Samples.{Samples}
use Rattle.mcw_symbols.specs.Inner.Ask.{part_at, Taking, needs, says_surely, Asks}
use Rattle.mcw_symbols.specs.Inner.Kept.{Kept}
use Rattle.mcw_symbols.specs.declared.Candidates.{Candidates}
use Rattle.mcw_symbols.specs.declared.ask.Heard.{Heard}
use Rattle.mcw_symbols.proofs.Candidate.{unlike, sure}
use Rattle.mcw_symbols.proofs.Window.{foremost_commonest, beaten_uncommon}
use Rattle.mcw_symbols.proofs.Leaving.{size_some}
use Rattle.mcw_symbols.proofs.Keeping.{count_is, asked_nominated}

or_false : (a b : Bool) → (a || b) ≡ false → (a ≡ false) × (b ≡ false)
or_false true b e = let z : ◌≡◌ {A = ℕ} 0 1 = cc in absurd (omega arith)
or_false false b e = (refl, e)

and-true : (a b : Bool) → b ≡ true → (a && b) ≡ false → a ≡ false
and-true true b e f = let z : ◌≡◌ {A = ℕ} 0 1 = cc in absurd (omega arith)
and-true false b e f = refl

and_no : (a : Bool) → (a && false) ≡ false
and_no true = refl
and_no false = refl

-- one that says the candidate f, for sure, where x is a
sure_verdict : (y f x a : ℕ) → y ≡ f → a ≡ x → hit_of (cond (eqb y x) hit miss) ≡ cond ((eqb a f && true) && true) 1 0
sure_verdict y f x a e g =
    same? x f
    (λ q. rw (eq-eqb y x (e ∙ sym q), eq-eqb a f (g ∙ q)))
    (λ q. rw (ne_eqb y x (λ z. q (sym z ∙ e)), ne_eqb a f (λ z. q (sym g ∙ z))))

-- one that says something else
other_verdict : (y x : ℕ) (b : Bool) → (y ≡ x → ⊥) → hit_of (cond (eqb y x) hit miss) ≡ cond ((b && false) && true) 1 0
other_verdict y x b n = rw (ne_eqb y x n, and_no b)

module _ {s : List ℕ} {k i : ℕ} {cnt latest : List ℕ} {c : Candidates} (S : Samples s k) (K : Kept s k i cnt latest c) (h : i ≤ length s)
    (x : ℕ) (b : x < k) {xs taking : ℕ} {r : Heard} (X : (j : ℕ) → j < 4 → lane xs j ≡ x) (T : Taking taking (part_at i))
    (A : Asks cnt latest k c xs (get_or cnt x 0) taking r) where
  -- a window that is full, sure of its candidate, and one that is not
  module _ (j : ℕ) (l : j < 4) (full : size j ≤ i) where
    sure_says : lane r.candidates.bounds j < lane r.candidates.keys j → commonest (window s i (size j)) ≡ lane r.candidates.symbols j
    sure_says o =
        let C = (asked_nominated S K h x T A).each j l in
        foremost_commonest S h (size_some j l) full C.within (sure C o)

    unsearched : needs c xs (get_or cnt x 0) j (part_at i j) ≡ false → lane c.keys j ≤ lane c.bounds j → commonest (window s i (size j)) ≡ x → ⊥
    unsearched t u =
        let e = and-true _ (leb (lane c.keys j) (lane c.bounds j)) (le-leb _ _ u) (and-true _ (part_at i j) (le-leb (size j) i full) t) in
        let g = or_false (leb (lane c.keys j) (lane (get_or cnt x 0) j)) (eqb (lane xs j) (lane c.symbols j)) e in
        let C = K.nominated.each j l in
        let n : x ≡ lane c.symbols j → ⊥ = λ z. eqb-false (lane xs j) (lane c.symbols j) g.1 (X j l ∙ z) in
        beaten_uncommon S h (size_some j l) full C.within
        (unlike C x b n (omega (arith, leb-false (lane c.keys j) (lane (get_or cnt x 0) j) g.0, count_is S K x (omega (arith, S.few)) j l)))

    unsure_not : lane r.candidates.keys j ≤ lane r.candidates.bounds j → commonest (window s i (size j)) ≡ x → ⊥
    unsure_not u =
        tested (needs c xs (get_or cnt x 0) j (part_at i j))
        (λ t. let D = A.settled (part_at i) T j l t in absurd (omega (arith, D.key_is, D.bound_is)))
        (λ t. let D = A.others (part_at i) T j l t in unsearched t (omega (arith, D.key_is, D.bound_is)))

  pub verdict_right : (j : ℕ) → j < 4 → hit_of (judge (said s i j) x) ≡ cond (says_surely r.candidates xs j (part_at i j)) 1 0
  unfolding said
  verdict_right j l =
      tested (part_at i j)
      (λ t. let full = leb-true (size j) i t in
      tested (leb (lane r.candidates.keys j) (lane r.candidates.bounds j))
      (λ u. rw (t, u) (other_verdict _ x (eqb (lane xs j) (lane r.candidates.symbols j)) (unsure_not j l full (leb-true _ _ u))))
      (λ u. rw (t, u) (sure_verdict _ (lane r.candidates.symbols j) x (lane xs j) (sure_says j l full (leb-false _ _ u)) (X j l))))
      (λ t. rw (t, and_no (eqb (lane xs j) (lane r.candidates.symbols j) && not (leb (lane r.candidates.keys j) (lane r.candidates.bounds j)))))

-- who takes part speaks
pub verdict_spoken : (s : List ℕ) (i x j : ℕ) → spoke_of (judge (said s i j) x) ≡ cond (part_at i j) 1 0
unfolding said
verdict_spoken s i x j = tested (part_at i j) (λ t. rw t (spoken (eqb (commonest (window s i (size j))) x))) (λ t. rw t)
  where
    spoken : (e : Bool) → spoke_of (cond e hit miss) ≡ 1
    spoken true = refl
    spoken false = refl
