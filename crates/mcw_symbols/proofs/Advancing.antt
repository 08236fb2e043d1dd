-- What the lanes' step to the next place needs, and what it makes of each window's candidate. Assumes nothing.
use mathlib.Core.Path.{◌≡◌, sym, ap, ◌∙◌}
use mathlib.Core.Bool.{Bool, true, false, cond}
use Prim.Native.Nat.{ℕ, ◌*◌, ◌/◌, ◌<◌, max}
use native.Mathlib.Omega.{arith}
use lib.Dec.{eqb, leb}
use borrow.Author.Tests.{eqb-true}
use Rattle.race.proofs.Cases.{tested}
use Rattle.lanes.specs.Inner.Lanes.{lane, half, marked, Low, Marks, Losable}
use Rattle.lanes.proofs.Words.{lane_zero}
use Rattle.lanes.proofs.Marking.{marks_of}
use Rattle.mcw_symbols.specs.Inner.Advance.{spent, loser_of, Advanceable, Advances}
use Rattle.mcw_symbols.specs.declared.Candidates.{Candidates}

pub chosen_low : (t : Bool) (a b : ℕ) → a < half → b < half → cond t a b < half
chosen_low true a b p q = p
chosen_low false a b p q = q

pub zero_low : Low 0
zero_low = record { each = λ j l. omega (arith, lane_zero j) }

module _ {c : Candidates} {alike x gone key : ℕ} (A : Advanceable c alike x gone key) where
  pub alike_marks : Marks alike
  alike_marks = marks_of alike (λ j. eqb (lane x j) (lane c.symbols j)) A.alike_is

  module _ (e : ℕ) (E : (j : ℕ) → j < 4 → lane e j ≡ marked (eqb (lane gone j) (lane c.symbols j))) where
    pub losable : Losable e c.keys
    losable =
        record {
          marks_are = marks_of e (λ j. eqb (lane gone j) (lane c.symbols j)) E;
          low = A.low.keys_low;
          enough = λ j l h. A.enough j l (alike_lanes j l h);
        }
      where
        alike_lanes : (j : ℕ) → j < 4 → lane e j ≡ half → lane gone j ≡ lane c.symbols j
        alike_lanes j l h =
            tested (eqb (lane gone j) (lane c.symbols j))
            (λ t. eqb-true _ _ t)
            (λ t. let z : 0 ≡ half = sym (E j l ∙ ap marked t) ∙ h in absurd (omega arith))

  -- the keys once samples have left
  module _ (m : ℕ) (M : (j : ℕ) → j < 4 → lane m j ≡ spent (lane gone j) (lane c.symbols j) (lane c.keys j)) where
    pub spent_low : Low m
    spent_low = record { each = λ j l. rw (M j l) (chosen_low (eqb (lane gone j) (lane c.symbols j)) _ _ (omega (arith, A.low.keys_low.each j l)) (A.low.keys_low.each j l)) }

    -- the one that comes takes the lead where its key is as large
    module _ (leads : ℕ) (L : (j : ℕ) → j < 4 → lane leads j ≡ marked (leb (lane m j) (lane key j))) where
      pub leads_marks : Marks leads
      leads_marks = marks_of leads (λ j. leb (lane m j) (lane key j)) L

      pub picked_low : (p : ℕ) → ((j : ℕ) → j < 4 → (t : Bool) → lane leads j ≡ marked t → lane p j ≡ cond t (lane m j) (lane key j)) → Low p
      picked_low p P =
          record {
            each = λ j l.
                rw (P j l (leb (lane m j) (lane key j)) (L j l))
                (chosen_low (leb (lane m j) (lane key j)) (lane m j) (lane key j) (spent_low.each j l) (A.key_low.each j l));
          }

      module _ (p e : ℕ) (P : (j : ℕ) → j < 4 → (t : Bool) → lane leads j ≡ marked t → lane p j ≡ cond t (lane m j) (lane key j))
          (E : (j : ℕ) → j < 4 → lane e j ≡ lane p j / 2 * 2) where
        pub lost_low : Low e
        lost_low =
            record {
              each = λ j l.
                  let h = chosen_low (leb (lane m j) (lane key j)) (lane m j) (lane key j) (spent_low.each j l) (A.key_low.each j l) in
                  omega (arith, E j l, P j l (leb (lane m j) (lane key j)) (L j l));
            }

        module _ (v : ℕ) (W : (j : ℕ) → j < 4 → (t : Bool) → lane alike j ≡ marked t → lane v j ≡ cond t (lane 0 j) (lane e j)) where
          loser_is : (j : ℕ) → j < 4 → lane v j ≡ loser_of (eqb (lane x j) (lane c.symbols j)) (lane m j) (lane key j)
          loser_is j l =
              W j l (eqb (lane x j) (lane c.symbols j)) (A.alike_is j l)
              ∙ rw (lane_zero j, E j l, P j l (leb (lane m j) (lane key j)) (L j l))

          pub loser_low : Low v
          loser_low =
              record {
                each = λ j l.
                    let h = chosen_low (eqb (lane x j) (lane c.symbols j)) (lane 0 j) (lane e j) (zero_low.each j l) (lost_low.each j l) in
                    rw (W j l (eqb (lane x j) (lane c.symbols j)) (A.alike_is j l)) h;
              }

          pub advanced : {r : Candidates}
              → ((j : ℕ) → j < 4 → (t : Bool) → lane leads j ≡ marked t → lane r.symbols j ≡ cond t (lane x j) (lane c.symbols j))
              → ((j : ℕ) → j < 4 → (t : Bool) → lane leads j ≡ marked t → lane r.keys j ≡ cond t (lane key j) (lane m j))
              → ((j : ℕ) → j < 4 → lane r.bounds j ≡ max (lane v j) (lane c.bounds j)) → Advances c x gone key r
          advanced f g h =
              record {
                each = λ j l.
                    rw (← M j l)
                    (record {
                      symbol_is = f j l (leb (lane m j) (lane key j)) (L j l);
                      key_is = g j l (leb (lane m j) (lane key j)) (L j l);
                      bound_is = h j l ∙ rw (loser_is j l);
                    });
              }
