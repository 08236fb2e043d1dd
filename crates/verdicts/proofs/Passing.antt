-- The deficits and the winner at a place, from the parts: the claims choose the winner and what goes through the planes, and what is left over goes
-- to the numbers above.
-- Assumes nothing.
use mathlib.Core.Path.{◌≡◌, refl, sym, ap, ◌∙◌}
use mathlib.Core.Logic.{◌⊎◌, inl, inr, ⊎_elim}
use mathlib.Core.Bool.{Bool, true, false, cond}
use mathlib.Core.List.{List}
use Prim.Native.Nat.{ℕ, ◌+◌, ◌*◌, ◌^◌, ◌≤◌, ◌<◌}
use native.Mathlib.Omega.{arith}
use native.Mathlib.Nat.{lt_of_lt_of_le}
use lib.Pow.{pow_mono}
use lib.Dec.{eqb, leb}
use lib.Bits.{bit_xor, xor_self, xor_zero_r}
use lib.ListN.{length, get_or}
use borrow.Author.Tests.{eq-eqb, eqb-true, eqb-false, leb-true, leb-false}
use Rattle.race.proofs.Cases.{tested, same?}
use Rattle.verdicts.specs.Inner.Told.{digit}
use Rattle.verdicts.specs.Inner.Deficits.{some_of, claims, gain, successor}
use Rattle.verdicts.specs.Inner.Planes.{bit_at, low_at, deficit_at, signs, Ripples, Claims, Chosen, LastDigit, Shifted, Shiftable}
use Rattle.verdicts.specs.Inner.Steps.{Passable, Onwards}
use Rattle.verdicts.specs.declared.planes.Claimed.{Claimed}
use Rattle.verdicts.specs.declared.planes.Choice.{Choice}
use Rattle.verdicts.proofs.Digits.{digit_le, digit_one}
use Rattle.verdicts.proofs.Lows.{low_lt}
use Rattle.verdicts.proofs.Finding.{some_found, some_none, last_ext}
use Rattle.verdicts.proofs.Deficits.{one, gain_enough}
use Rattle.verdicts.proofs.Tops.{digit_zero, digit_past, unset, top_found}
use Rattle.verdicts.proofs.Signs.{signs_digit, sign_zero, sign_one, digit_all, turned}

none_claims : (b : Bool) → cond b false false ≡ false
none_claims true = refl
none_claims false = refl

all_claims : (b : Bool) → cond b true false ≡ b
all_claims true = refl
all_claims false = refl

module _ {q : List ℕ} {far : ℕ} {up : List ℕ} {rights all : ℕ} (N : Passable far up rights all) {k : Claimed} (C : Claims q far rights k) where
  abbrev d : ℕ → ℕ
  d = deficit_at q up

  abbrev m : ℕ
  m = length up

  far_none : (j : ℕ) → get_or up j 0 ≡ 0 → digit far j ≡ 0
  far_none j e = rw N.far_is (signs_digit up j ∙ sign_zero (get_or up j 0) e)

  far_some : (j : ℕ) → (get_or up j 0 ≡ 0 → ⊥) → digit far j ≡ 1
  far_some j e = rw N.far_is (signs_digit up j ∙ sign_one (get_or up j 0) e)

  -- without a deficit, and with one
  first_zero : (j : ℕ) → d j ≡ 0 → digit k.first j ≡ digit rights j
  first_zero j e = C.first_is j (summed (low_at q j) (get_or up j 0) (digit far j) e (far_none j))
    where
      summed : (l u f : ℕ) → l + 64 * u ≡ 0 → (u ≡ 0 → f ≡ 0) → l + f ≡ 0
      summed l u f h z = omega (arith, z (omega arith))

  first_more : (j : ℕ) → (d j ≡ 0 → ⊥) → digit k.first j ≡ 0
  first_more j e =
      same? (get_or up j 0) 0
      (λ z. C.first_not j (low_some (low_at q j) (get_or up j 0) (digit far j) e z))
      (λ z. C.first_not j (far_one (low_at q j) (digit far j) (far_some j z)))
    where
      low_some : (l u f : ℕ) → (l + 64 * u ≡ 0 → ⊥) → u ≡ 0 → 0 < l + f
      low_some l u f n z = omega arith

      far_one : (l f : ℕ) → f ≡ 1 → 0 < l + f
      far_one l f e = omega arith

  near_low : (j : ℕ) → d j ≤ 1 → digit k.near j ≡ digit rights j
  near_low j e = C.near_is j (summed (low_at q j) (get_or up j 0) (digit far j) e (far_none j))
    where
      summed : (l u f : ℕ) → l + 64 * u ≤ 1 → (u ≡ 0 → f ≡ 0) → l + 64 * f ≤ 1
      summed l u f h z = omega (arith, z (omega arith))

  near_more : (j : ℕ) → 1 < d j → digit k.near j ≡ 0
  near_more j e =
      same? (get_or up j 0) 0
      (λ z. C.near_not j (low_some (low_at q j) (get_or up j 0) (digit far j) e z))
      (λ z. C.near_not j (far_one (low_at q j) (digit far j) (far_some j z)))
    where
      low_some : (l u f : ℕ) → 1 < l + 64 * u → u ≡ 0 → 1 < l + 64 * f
      low_some l u f n z = omega arith

      far_one : (l f : ℕ) → f ≡ 1 → 1 < l + 64 * f
      far_one l f e = omega arith

  first_claims : (j : ℕ) → bit_at k.first j ≡ claims (bit_at rights) d 0 j
  first_claims j =
      tested (eqb (d j) 0)
      (λ t. rw (t, all_claims (bit_at rights j)) (ap (λ (n : ℕ). eqb n 1) (first_zero j (eqb-true _ _ t))))
      (λ t. rw (t, none_claims (bit_at rights j)) (unset k.first j (first_more j (eqb-false _ _ t))))

  near_claims : k.first ≡ 0 → (j : ℕ) → bit_at k.near j ≡ claims (bit_at rights) d 1 j
  near_claims z j =
      tested (eqb (d j) 1)
      (λ t. let e : d j ≡ 1 = eqb-true _ _ t in rw (t, all_claims (bit_at rights j)) (ap (λ (n : ℕ). eqb n 1) (near_low j (one_le (d j) e))))
      (λ t. rw (t, none_claims (bit_at rights j)) (unset k.near j (tested (eqb (d j) 0)
      (λ s. let e : d j ≡ 0 = eqb-true _ _ s in near_low j (zero-le (d j) e) ∙ sym (first_zero j e) ∙ ap (λ (n : ℕ). digit n j) z ∙ digit_zero j)
      (λ s. near_more j (more (d j) (eqb-false _ _ s) (eqb-false _ _ t))))))
    where
      one_le : (n : ℕ) → n ≡ 1 → n ≤ 1
      one_le n e = omega arith

      zero-le : (n : ℕ) → n ≡ 0 → n ≤ 1
      zero-le n e = omega arith

      more : (n : ℕ) → (n ≡ 0 → ⊥) → (n ≡ 1 → ⊥) → 1 < n
      more n e f = omega arith

  some_none_first : k.first ≡ 0 → some_of (claims (bit_at rights) d 0) m ≡ false
  some_none_first z = some_none _ m (λ j l. sym (first_claims j) ∙ unset k.first j (ap (λ (n : ℕ). digit n j) z ∙ digit_zero j))

  some_first : (k.first ≡ 0 → ⊥) → some_of (claims (bit_at rights) d 0) m ≡ true
  some_first n =
      let s : k.first < 2 ^ m = (C.small m N.narrow).0 in
      let t = top_found k.first (pos k.first n) (lt_of_lt_of_le s (pow_mono wider)) in
      let j = t.0 in
      let past : m ≤ j → digit k.first j ≡ 0 = λ h. digit_past k.first j (lt_of_lt_of_le s (pow_mono h)) in
      let l : j < m = tested (leb m j) (λ h. absurd (differ (digit k.first j) (past (leb-true m j h)) t.2)) (λ h. leb-false m j h) in
      some_found (claims (bit_at rights) d 0) m j l (sym (first_claims j) ∙ eq-eqb _ _ t.2)
    where
      wider : m ≤ 32
      wider = omega (arith, N.few)

      pos : (n : ℕ) → (n ≡ 0 → ⊥) → 0 < n
      pos n e = omega arith

      differ : (n : ℕ) → n ≡ 0 → n ≡ 1 → ⊥
      differ n e f = omega arith

  -- the rest of the parts
  module _ {v : Choice} (E : Chosen k rights all v) {winner won : ℕ} (W : LastDigit v.claim winner won) {q' : List ℕ} {carry : ℕ}
      (R : Ripples q v.through v.away q' carry) where
    pub placed_gain : v.gained ≡ gain (bit_at rights) d m
    placed_gain =
        same? k.first 0
        (λ z. rw (some_none_first z) (E.others z).3)
        (λ z. rw (some_first z) (E.leading z).3)

    pub placed_winner : won ≡ successor (bit_at rights) d winner m
    placed_winner =
        same? k.first 0
        (λ z. let e : v.claim ≡ k.near = (E.others z).0 in
        rw (some_none_first z) (W.is m (rw e (C.small m N.narrow).1)
        ∙ rw e (last_ext (bit_at k.near) (claims (bit_at rights) d 1) winner m (λ j l. near_claims z j))))
        (λ z. let e : v.claim ≡ k.first = (E.leading z).0 in
        rw (some_first z) (W.is m (rw e (C.small m N.narrow).0)
        ∙ rw e (last_ext (bit_at k.first) (claims (bit_at rights) d 0) winner m (λ j l. first_claims j))))

    -- a digit through the planes
    record Through (j : ℕ) (mask : ℕ) : Type 0 where
      moved : low_at q' j + 64 * digit carry j + digit rights j ≡ low_at q j + 1
      gains : v.gained ≡ 1
      turns : digit mask j + digit carry j ≡ 1

    record Nearer (j : ℕ) (mask : ℕ) : Type 0 where
      moved : low_at q j + 64 * digit carry j ≡ low_at q' j + digit rights j
      gains : v.gained ≡ 0
      keeps : digit mask j ≡ digit carry j

    abbrev mask : ℕ
    mask = bit_xor carry (bit_xor v.away all)

    through : (j : ℕ) → j < m → Through j mask ⊎ Nearer j mask
    through j l =
        same? k.first 0
        (λ z. let g = E.others z in
        inr (record {
          moved = rw g.1 at (R.takes j (rw g.2 (digit_all m all N.whole j l)));
          gains = g.3;
          keeps = rw (g.2, xor_self all, xor_zero_r carry);
        }))
        (λ z. let g = E.leading z in
        inl (record {
          moved = added (low_at q j) (digit v.through j) (low_at q' j) (digit carry j) (digit rights j)
              (R.adds j (rw g.2 (digit_zero j))) (rw g.1 (turned m all N.whole rights j l));
          gains = g.3;
          turns = rw g.2 (turned m all N.whole carry j l);
        }))
      where
        added : (a t b c r : ℕ) → a + t ≡ b + 64 * c → t + r ≡ 1 → b + 64 * c + r ≡ a + 1
        added a t b c r e f = omega arith

    -- nothing is left over
    pub passes_within : carry ≡ 0 → Onwards q up rights winner q' far up won v.gained
    passes_within z =
        record {
          winner_is = placed_winner;
          gained_is = placed_gain;
          moves = record {
            many = refl;
            far_is = N.far_is;
            each = λ j l. ⊎_elim
                (λ t. add (low_at q j) (low_at q' j) (digit carry j) (digit rights j) (get_or up j 0) v.gained t.moved t.gains (none j))
                (λ t. take (low_at q j) (low_at q' j) (digit carry j) (digit rights j) (get_or up j 0) v.gained t.moved t.gains (none j))
                (through j l);
          };
        }
      where
        none : (j : ℕ) → digit carry j ≡ 0
        none j = ap (λ (n : ℕ). digit n j) z ∙ digit_zero j

        add : (a b c r u g : ℕ) → b + 64 * c + r ≡ a + 1 → g ≡ 1 → c ≡ 0 → b + 64 * u + r ≡ a + 64 * u + g
        add a b c r u g e f h = omega arith

        take : (a b c r u g : ℕ) → a + 64 * c ≡ b + r → g ≡ 0 → c ≡ 0 → b + 64 * u + r ≡ a + 64 * u + g
        take a b c r u g e f h = omega arith

    low_small : length q' ≡ 6 → (j : ℕ) → low_at q' j ≤ 63
    low_small six j = let l = rw six at (low_lt q' j) in omega arith

    -- something is left over
    pub passes_shiftable : length q' ≡ 6 → Shiftable up mask v.gained
    passes_shiftable six =
        record {
          few = N.few;
          fit = N.fit;
          one = gained_one;
          enough = enough;
        }
      where
        gained_one : v.gained ≤ 1
        gained_one = omega (arith, placed_gain, one (some_of (claims (bit_at rights) d 0) m))

        turn : (m c u g : ℕ) → m + c ≡ 1 → g ≡ 1 → m ≤ u + g
        turn m c u g e f = omega arith

        near : (a b c r u g m : ℕ) → c ≤ 1 → b ≤ 63 → a + 64 * c ≡ b + r → r ≤ 1 → r ≤ a + 64 * u + g → g ≡ 0 → m ≡ c → m ≤ u + g
        near a b c r u g m hc hb e hr h f i = omega arith

        enough : (j : ℕ) → j < m → digit mask j ≤ get_or up j 0 + v.gained
        enough j l =
            ⊎_elim
            (λ t. turn (digit mask j) (digit carry j) (get_or up j 0) v.gained t.turns t.gains)
            (λ t. near (low_at q j) (low_at q' j) (digit carry j) (digit rights j) (get_or up j 0) v.gained (digit mask j)
            (digit_le carry j) (low_small six j) t.moved (digit_le rights j)
            (rw (placed_gain, ← digit_one (digit rights j) (digit_le rights j)) (gain_enough (bit_at rights) d m j l)) t.gains t.keeps)
            (through j l)

    pub passes_over : {up' : List ℕ} {far' : ℕ} → Shifted up mask v.gained up' → far' ≡ signs up'
        → Onwards q up rights winner q' far' up' won v.gained
    passes_over {up'} S e =
        record {
          winner_is = placed_winner;
          gained_is = placed_gain;
          moves = record {
            many = S.many;
            far_is = e;
            each = λ j l. ⊎_elim
                (λ t. add (low_at q j) (low_at q' j) (digit carry j) (digit rights j) (get_or up j 0) (get_or up' j 0) v.gained (digit mask j)
                t.moved t.gains t.turns (S.each j l))
                (λ t. take (low_at q j) (low_at q' j) (digit carry j) (digit rights j) (get_or up j 0) (get_or up' j 0) v.gained (digit mask j)
                t.moved t.gains t.keeps (S.each j l))
                (through j l);
          };
        }
      where
        add : (a b c r u w g m : ℕ) → b + 64 * c + r ≡ a + 1 → g ≡ 1 → m + c ≡ 1 → w + m ≡ u + g → b + 64 * w + r ≡ a + 64 * u + g
        add a b c r u w g m e f h i = omega arith

        take : (a b c r u w g m : ℕ) → a + 64 * c ≡ b + r → g ≡ 0 → m ≡ c → w + m ≡ u + g → b + 64 * w + r ≡ a + 64 * u + g
        take a b c r u w g m e f h i = omega arith
