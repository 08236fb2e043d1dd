-- The windows that need it are searched, and then what they tell is known. Assumes nothing.
use mathlib.Core.Path.{◌≡◌, sym, subst}
use mathlib.Core.Bool.{Bool, true, false, ◌&&◌, ◌||◌, not}
use mathlib.Core.List.{List}
use Prim.Native.Nat.{ℕ, ◌≤◌, ◌<◌}
use native.Mathlib.Omega.{arith}
use lib.Bits.{bit_and, bit_or, bit_xor}
use lib.ListN.{get_or}
use Rattle.race.proofs.Cases.{same?}
use Rattle.lanes.specs.Inner.Lanes.{lane, marked, Low}
use Rattle.lanes.proofs.Words.{lane_zero}
use Rattle.lanes.proofs.Marking.{both_marked, either_marked, but_marked}
use Rattle.mcw_symbols.specs.Inner.Search.{most, Searchable, Settled, Unmoved, Searched}
use Rattle.mcw_symbols.specs.Inner.Ask.{LowAll, Taking, needs, Hears, Asks}
use Rattle.mcw_symbols.specs.declared.Candidates.{Candidates}
use Rattle.mcw_symbols.specs.declared.ask.Heard.{Heard}
use Rattle.mcw_symbols.proofs.Settling.{unmoved_same}

-- the tests put together, lane by lane
module _ (a s u taking j : ℕ) (p q r t : Bool) (ea : lane a j ≡ marked p) (es : lane s j ≡ marked q) (eu : lane u j ≡ marked r) (et : lane taking j ≡ marked t) where
  pub need_marks : lane (bit_and (bit_and (bit_or a s) u) taking) j ≡ marked (((p || q) && r) && t)
  need_marks =
      both_marked (bit_and (bit_or a s) u) taking j ((p || q) && r) t
      (both_marked (bit_or a s) u j (p || q) r (either_marked a s j p q ea es) eu) et

module _ (s u taking j : ℕ) (q r t : Bool) (es : lane s j ≡ marked q) (eu : lane u j ≡ marked r) (et : lane taking j ≡ marked t) where
  pub right_marks : lane (bit_and (bit_xor s (bit_and s u)) taking) j ≡ marked ((q && not r) && t)
  right_marks = both_marked (bit_xor s (bit_and s u)) taking j (q && not r) t (but_marked s u j q r es eu) et

-- counts leave room
pub counts_low : {cnt latest : List ℕ} {k x : ℕ} → Searchable cnt latest k x → Low (get_or cnt x 0)
counts_low {cnt} {latest} {k} {x} S = record { each = λ j l. omega (arith, S.room x (omega (arith, S.within, S.few)) j l) }

-- a search leaves room
pub searched_low : {cnt latest : List ℕ} {k need x : ℕ} {c r : Candidates} → Searchable cnt latest k x → LowAll c → Searched cnt latest k need c r → LowAll r
searched_low {cnt} {latest} {k} {need} {x} {c} {r} S L T =
    record {
      symbols_low = record { each = λ j l. either j l (λ F. omega (arith, F.favourite_is.within, S.few)) (λ M. omega (arith, M.symbol_is, L.symbols_low.each j l)) };
      keys_low = record { each = λ j l. either j l (λ F. omega (arith, F.key_is, room j l F)) (λ M. omega (arith, M.key_is, L.keys_low.each j l)) };
      bounds-low = record { each = λ j l. either j l (λ F. omega (arith, F.bound_is, room j l F)) (λ M. omega (arith, M.bound_is, L.bounds-low.each j l)) };
    }
  where
    either : {A : Type 0} (j : ℕ) → j < 4 → (Settled cnt latest k r j → A) → (Unmoved c r j → A) → A
    either j l f g = same? (lane need j) 0 (λ e. g (T.others j l e)) (λ e. f (T.settled j l e))

    room : (j : ℕ) → j < 4 → Settled cnt latest k r j → lane (get_or cnt (lane r.symbols j) 0) j ≤ most
    room j l F = S.room (lane r.symbols j) (omega (arith, F.favourite_is.within, S.few)) j l

-- what a mark is
mark_some : (n : ℕ) (b : Bool) → n ≡ marked b → b ≡ true → n ≡ 0 → ⊥
mark_some n true e f z = omega arith
mark_some n false e f z = let y : ◌≡◌ {A = ℕ} 0 1 = cc in omega arith

mark_none : (n : ℕ) (b : Bool) → n ≡ marked b → b ≡ false → n ≡ 0
mark_none n true e f = let y : ◌≡◌ {A = ℕ} 0 1 = cc in absurd (omega arith)
mark_none n false e f = e

module _ {cnt latest : List ℕ} {k x n taking need : ℕ} {c found : Candidates} {h : Heard} (H : Hears found x taking h)
    (N : (t : ℕ → Bool) → Taking taking t → (j : ℕ) → j < 4 → lane need j ≡ marked (needs c x n j (t j))) where
  pub asks_searched : Searched cnt latest k need c found → Asks cnt latest k c x n taking h
  asks_searched S =
      let e = sym H.same_candidates in
      record {
        settled = λ t T j l b. subst (λ (r : Candidates). Settled cnt latest k r j) e (S.settled j l (mark_some (lane need j) _ (N t T j l) b));
        others = λ t T j l b. subst (λ (r : Candidates). Unmoved c r j) e (S.others j l (mark_none (lane need j) _ (N t T j l) b));
        hears = subst (λ (r : Candidates). Hears r x taking h) e H;
      }

-- where none is marked none is searched
pub none_searched : {cnt latest : List ℕ} {k need : ℕ} (c : Candidates) → need ≡ 0 → Searched cnt latest k need c c
none_searched c e = record { settled = λ j l n. absurd (n (rw e (lane_zero j))); others = λ j _ _. unmoved_same c j }
