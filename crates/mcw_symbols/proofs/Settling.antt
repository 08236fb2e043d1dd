-- The windows that must be searched are searched, one after the other. Assumes nothing.
use mathlib.Core.Path.{◌≡◌, refl, sym, ap, ◌∙◌}
use mathlib.Core.Bool.{cond}
use mathlib.Core.List.{List}
use Prim.Native.Nat.{ℕ, ◌+◌, ◌*◌, ◌/◌, ◌%◌, ◌^◌, ◌≤◌, ◌<◌}
use native.Mathlib.Omega.{arith}
use lib.Dec.{eqb}
use lib.ListN.{get_or}
use lib.Pow.{shl_exact}
use borrow.Author.Tests.{eq-eqb, ne_eqb}
use Rattle.race.proofs.Cases.{same?}
use Rattle.lanes.specs.Inner.Lanes.{lane, half, Begins}
use Rattle.mcw_symbols.specs.Inner.Search.{Searchable, Favourite, Settled, Unmoved, Sets, Searched}
use Rattle.mcw_symbols.specs.declared.Candidates.{Candidates}

-- the mask of a lane
pub mask_is : (at q : ℕ) → at < 64 → at ≡ 16 * q → 65535 * 2 ^ at % 2 ^ 64 ≡ 65535 * 2 ^ (16 * q)
mask_is at q l e = shl_exact 16 at 64 (omega arith) (omega arith) ∙ ap (λ (n : ℕ). 65535 * 2 ^ n) e

-- a value in place of a lane
pub put_here : (q v w : ℕ) → cond (eqb q q) v w ≡ v
put_here q v w = rw (eq-eqb q q refl)

pub put_there : (j q v w : ℕ) → (j ≡ q → ⊥) → cond (eqb j q) v w ≡ w
put_there j q v w n = rw (ne_eqb j q n)

module _ {cnt latest : List ℕ} {k x : ℕ} (S : Searchable cnt latest k x) where
  -- a count leaves room for one more
  pub count_room : {at n b : ℕ} → Begins at → b < k → ((j : ℕ) → at ≡ 16 * j → n ≡ lane (get_or cnt b 0) j) → n < half
  count_room {at} {n} {b} B l e =
      let q : at ≡ 16 * (at / 16) = omega (arith, B.whole) in
      omega (arith, e (at / 16) q, S.room b (omega (arith, S.few)) (at / 16) (omega (arith, B.inside)))

pub settled_of : {cnt latest : List ℕ} {k : ℕ} (r : Candidates) (q b : ℕ) → lane r.symbols q ≡ b → Favourite cnt latest k q b
    → lane r.keys q ≡ lane (get_or cnt b 0) q + 1 → lane r.bounds q ≡ lane (get_or cnt b 0) q → Settled cnt latest k r q
settled_of r q b e F m o = record { favourite_is = rw e F; key_is = rw e m; bound_is = rw e o }

pub unmoved_same : (c : Candidates) (j : ℕ) → Unmoved c c j
unmoved_same c j = record { symbol_is = refl; key_is = refl; bound_is = refl }

unmoved_twice : {a b c : Candidates} {j : ℕ} → Unmoved a b j → Unmoved b c j → Unmoved a c j
unmoved_twice P Q =
    record { symbol_is = Q.symbol_is ∙ P.symbol_is; key_is = Q.key_is ∙ P.key_is; bound_is = Q.bound_is ∙ P.bound_is }

settled_stays : {cnt latest : List ℕ} {k : ℕ} {c r : Candidates} {j : ℕ} → Settled cnt latest k c j → Unmoved c r j → Settled cnt latest k r j
settled_stays {r = r} {j = j} S P = settled_of r j _ P.symbol_is S.favourite_is (P.key_is ∙ S.key_is) (P.bound_is ∙ S.bound_is)

-- the lanes that begin before bit `at` are done
pub record Searching (cnt latest : List ℕ) (k need : ℕ) (c r : Candidates) (at : ℕ) : Type 0 where
  pub whole : at % 16 ≡ 0
  pub settled : (j : ℕ) → j < 4 → 16 * j < at → (lane need j ≡ 0 → ⊥) → Settled cnt latest k r j
  pub waiting : (j : ℕ) → j < 4 → at ≤ 16 * j → Unmoved c r j
  pub others : (j : ℕ) → j < 4 → lane need j ≡ 0 → Unmoved c r j

pub searching_starts : {cnt latest : List ℕ} {k need : ℕ} (c : Candidates) → Searching cnt latest k need c c 0
searching_starts c =
    record {
      whole = refl;
      settled = λ j _ l. absurd (omega arith);
      waiting = λ j _ _. unmoved_same c j;
      others = λ j _ _. unmoved_same c j;
    }

module _ {cnt latest : List ℕ} {k need : ℕ} {c r : Candidates} {at : ℕ} (S : Searching cnt latest k need c r at) where
  pub begins : at < 64 → Begins at
  begins l = record { inside = l; whole = S.whole }

  here : at ≡ 16 * (at / 16)
  here = omega (arith, S.whole)

  module _ {n : ℕ} (e : (j : ℕ) → at ≡ 16 * j → n ≡ lane need j) where
    pub searching_passes : n ≡ 0 → Searching cnt latest k need c r (at + 16)
    searching_passes z =
        record {
          whole = omega (arith, S.whole);
          settled = λ j l m q. S.settled j l (before j m q) q;
          waiting = λ j l m. S.waiting j l (omega arith);
          others = S.others;
        }
      where
        before : (j : ℕ) → 16 * j < at + 16 → (lane need j ≡ 0 → ⊥) → 16 * j < at
        before j m q = same? at (16 * j) (λ w. absurd (q (sym (e j w) ∙ z))) (λ w. omega (arith, S.whole))

    pub searching_settles : {r' : Candidates} → at < 64 → (n ≡ 0 → ⊥) → Sets cnt latest k r at r' → Searching cnt latest k need c r' (at + 16)
    searching_settles {r'} l z T =
        record {
          whole = omega (arith, S.whole);
          settled = λ j b m q. same? at (16 * j) (λ w. T.settled j w) (λ w. settled_stays (S.settled j b (omega (arith, S.whole)) q) (moved j b w));
          waiting = λ j b m. unmoved_twice (S.waiting j b (omega arith)) (moved j b (λ w. absurd (omega arith)));
          others = λ j b q. unmoved_twice (S.others j b q) (moved j b (λ w. z (e j w ∙ q)));
        }
      where
        moved : (j : ℕ) → j < 4 → (at ≡ 16 * j → ⊥) → Unmoved r r' j
        moved j b w = T.others (at / 16) here j b (λ v. w (here ∙ ap (λ (x : ℕ). 16 * x) (sym v)))

  pub searching_ends : 64 ≤ at → Searched cnt latest k need c r
  searching_ends l = record { settled = λ j b q. S.settled j b (omega arith) q; others = S.others }
