-- The levels speak one after the other, until a context is absent: then so are all longer ones, and their levels are silent. A context is present
-- where its best is not 0, and the last digit of that, by 256, is the symbol that its level says. Assumes nothing.
use Prim.Native.Nat.{ℕ, suc, ◌%◌, ◌≤◌, ◌<◌}
use mathlib.Core.Path.{◌≡◌, refl, sym, ap, ◌∙◌}
use mathlib.Core.Bool.{Bool, true, false, cond}
use mathlib.Core.List.{List}
use native.Mathlib.Omega.{arith}
use native.Mathlib.Decide.{ℕ_discrete, dec_lt}
use lib.ListN.{length, get_or, set, replicate, length-set, length-replicate, get_or-replicate}
use lib.Seq.{get_or-set_same, get_or-set_other}
use borrow.Author.Tests.{ne_eqb, lt-ltb}
use Rattle.std.specs.Prelude.{Option, Some, None}
use Rattle.mmc_store.specs.Levels.{found, level, guess}
use Rattle.mmc_store.specs.Inner.Words.{best}
use Rattle.mmc_store.specs.Inner.Answers.{context_of, spoken}
use Rattle.mmc_store.specs.Inner.Places.{Says, Said}
use Rattle.mmc_store.proofs.Best.{present_best, best_predicted}
use Rattle.mmc_store.proofs.Telling.{said_found, said_absent, present_of}

-- ---- what a lookup answers
pub answers_absent : (v : ℕ) → v ≡ 0 → None ≡ context_of v
answers_absent v e = rw e refl

pub answers_present : (v : ℕ) → (v ≡ 0 → ⊥) → Some (v % 256) ≡ context_of v
answers_present v f = rw (ne_eqb v 0 f) refl

-- ---- what a level says by the answer, where every shorter context is present
module _ (v l : ℕ) (known : Bool) (G : List (Option ℕ)) where
  pub says_nothing : known ≡ false → Says v l known G G false
  says_nothing t = record { known_is = rw t refl; said = refl }

  module _ (t : known ≡ true) where
    pub says_absent : v ≡ 0 → Says v l known G G false
    says_absent e = record { known_is = rw (t, e) refl; said = refl }

    pub says_present : (v ≡ 0 → ⊥) → Says v l known G (set G l (context_of v)) true
    says_present f = record { known_is = rw (t, lt-ltb 0 v (omega arith)) refl; said = rw (ne_eqb v 0 f) refl }

-- ---- l levels have spoken, and `known` says whether the context of each is present
pub record Saying (n cap : ℕ) (s : List ℕ) (i l : ℕ) (known : Bool) (guesses : List (Option ℕ)) : Type 0 where
  pub known_is : known ≡ found s (level cap s i) i l
  pub full : length guesses ≡ n
  pub said : (j : ℕ) → j < l → get_or guesses j None ≡ spoken (guess cap s i j)
  pub quiet : (j : ℕ) → l ≤ j → j < n → get_or guesses j None ≡ None

pub saying_start : (n cap : ℕ) (s : List ℕ) (i : ℕ) {G : List (Option ℕ)} → G ≡ replicate n None → Saying n cap s i 0 true G
unfolding found
saying_start n cap s i e = record {
  known_is = refl;
  full = ap length e ∙ length-replicate n None;
  said = λ j a. absurd (omega arith);
  quiet = λ j a b. ap (λ u. get_or u j None) e ∙ get_or-replicate n j None None b;
}

module _ {n cap : ℕ} {s : List ℕ} {i l : ℕ} {known : Bool} {G : List (Option ℕ)} (w : Saying n cap s i l known G) where
  -- no longer level speaks
  pub said_all : ((j : ℕ) → l ≤ j → j < n → spoken (guess cap s i j) ≡ None) → Said n cap s i G
  said_all rest = record { full = w.full; each = λ j a. each j a (dec_lt j l) }
    where
      each : (j : ℕ) → j < n → Dec (j < l) → get_or G j None ≡ spoken (guess cap s i j)
      each j a (yes b) = w.said j b
      each j a (no f) = w.quiet j (omega arith) a ∙ sym (rest j (omega arith) a)

  -- ---- the next level, whose context has the best v
  module _ (one : l < n) (bytes : (j : ℕ) → get_or s j 0 < 256) {v : ℕ} (v-is : v ≡ best s (suc l) (level cap s i (suc l)).places i)
      {r : Bool} {G' : List (Option ℕ)} (says : Says v l known G G' r) where
    pub known_next : r ≡ found s (level cap s i) i (suc l)
    unfolding found
    known_next = says.known_is ∙ rw (w.known_is, v-is, present_best s (suc l) bytes (level cap s i (suc l)).places i)

    put : length G' ≡ length G → get_or G' l None ≡ spoken (guess cap s i l) → ((j : ℕ) → (j ≡ l → ⊥) → get_or G' j None ≡ get_or G j None) →
        Saying n cap s i (suc l) r G'
    put long here others = record {
      known_is = known_next;
      full = long ∙ w.full;
      said = λ j a. each j a (ℕ_discrete j l);
      quiet = λ j a b. others j (λ e. omega arith) ∙ w.quiet j (omega arith) b;
    }
      where
        each : (j : ℕ) → j < suc l → Dec (j ≡ l) → get_or G' j None ≡ spoken (guess cap s i j)
        each j a (yes e) = rw e here
        each j a (no f) = others j f ∙ w.said j (omega arith)

    pub saying_next : Saying n cap s i (suc l) r G'
    saying_next = go r refl says.said
      where
        spoken_is : r ≡ true → Some (v % 256) ≡ spoken (guess cap s i l)
        spoken_is q =
            ap Some (ap (λ u. u % 256) v-is
            ∙ best_predicted s (suc l) (level cap s i (suc l)).places i (present_of cap s i l (sym known_next ∙ q)))
            ∙ sym (said_found cap s i l (sym known_next ∙ q))

        go : (b : Bool) → r ≡ b → G' ≡ cond b (set G l (Some (v % 256))) G → Saying n cap s i (suc l) r G'
        go true q e =
            put (ap length e ∙ length-set G l (Some (v % 256)))
            (ap (λ u. get_or u l None) e ∙ get_or-set_same G l (Some (v % 256)) None (omega (arith, w.full)) ∙ spoken_is q)
            (λ j f. ap (λ u. get_or u j None) e ∙ get_or-set_other G l j (Some (v % 256)) None f)
        go false q e =
            put (ap length e) (ap (λ u. get_or u l None) e ∙ w.quiet l (omega arith) one ∙ sym (said_absent cap s i l (sym known_next ∙ q)))
            (λ j f. ap (λ u. get_or u j None) e)
