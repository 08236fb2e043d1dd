-- Four numbers, or four guesses, written one after the other; from the longest window's size on every window takes part. Assumes nothing.
use mathlib.Core.Path.{◌≡◌, refl, ◌∙◌}
use mathlib.Core.List.{List, [], ◌∷◌}
use mathlib.Core.Bool.{cond}
use Prim.Native.Nat.{ℕ, ◌+◌, ◌-◌, ◌≤◌, ◌<◌}
use native.Mathlib.Omega.{arith}
use lib.Dec.{leb}
use lib.ListN.{length, get_or, set, length-set}
use lib.Seq.{ext_get_or}
use lib.Seq.{get_or-set_same, get_or-set_other}
use borrow.Author.Tests.{le-leb, lt-leb}
use Rattle.race.proofs.Cases.{same?}
use Rattle.mcw_bits.specs.Mcw.{size}
use Rattle.mcw_bits.specs.Inner.Ones.{Rolled, majority_of, past_in}
use Rattle.race.specs.Inner.Held.{silence}
use Rattle.mcw_bits.specs.Inner.Say.{Hushed, Sayings, Votes, sayings}
use Rattle.mcw_bits.specs.declared.Four.{Four}
use Rattle.mcw_bits.proofs.Place.{four}

-- what holds of the elements before place m, and of the new one, holds before m + 1
module _ {A : Type 0} (P : ℕ → A → Type 0) (d : A) (xs : List A) (m : ℕ) (v : A) where
  pub set_past : m < length xs → ((j : ℕ) → j < m → P j (get_or xs j d)) → P m v → (j : ℕ) → j < m + 1 → P j (get_or (set xs m v) j d)
  set_past l p q j k =
      same? j m
      (λ e. rw (e, get_or-set_same xs m v d l) q)
      (λ n. rw (get_or-set_other xs m j v d n) (p j (omega arith)))

  pub set_left : ((j : ℕ) → m ≤ j → P j (get_or xs j d)) → (j : ℕ) → m + 1 ≤ j → P j (get_or (set xs m v) j d)
  set_left p j k = rw (get_or-set_other xs m j v d (λ e. omega arith)) (p j (omega arith))

pub votes_start : (ones votes : List ℕ) → length votes ≡ 4 → Votes ones 0 votes
votes_start ones votes e = record { full = e; each = λ j l. absurd (omega arith) }

pub votes_next : {ones votes : List ℕ} {m v : ℕ} → m < 4 → Votes ones m votes → v ≡ majority_of (get_or ones m 0) (size m)
    → Votes ones (m + 1) (set votes m v)
votes_next {ones} {votes} {m} {v} l V e =
    record {
      full = length-set votes m v ∙ V.full;
      each = set_past (λ j g. g ≡ majority_of (get_or ones j 0) (size j)) 0 votes m v (omega (arith, V.full)) V.each e;
    }

pub hushed_start : {votes : List ℕ} {i : ℕ} → length votes ≡ 4 → Hushed votes i 0 votes
hushed_start e = record { full = e; past = λ j l. absurd (omega arith); left = λ j l. refl }

module _ {votes says : List ℕ} {i m : ℕ} (l : m < 4) (H : Hushed votes i m says) where
  pub hushed_silent : i < size m → Hushed votes i (m + 1) (set says m silence)
  hushed_silent h =
      record {
        full = length-set says m silence ∙ H.full;
        past = set_past (λ j g. g ≡ cond (leb (size j) i) (get_or votes j 0) silence) 0 says m silence (omega (arith, H.full)) H.past (rw (lt-leb (size m) i h));
        left = set_left (λ j g. g ≡ get_or votes j 0) 0 says m silence H.left;
      }

  pub hushed_kept : size m ≤ i → Hushed votes i (m + 1) says
  hushed_kept h =
      record {
        full = H.full;
        past = λ j k. same? j m (λ e. rw (e, le-leb (size m) i h) (H.left m (omega arith))) (λ n. H.past j (omega arith));
        left = λ j k. H.left j (omega arith);
      }

pub rolled_start : {ones ring : List ℕ} {i x : ℕ} → length ones ≡ 4 → Rolled ones ring i x 0 ones
rolled_start e = record { full = e; past = λ j l. absurd (omega arith); left = λ j l. refl }

pub rolled_next : {ones ring next : List ℕ} {i x m v : ℕ} → m < 4 → Rolled ones ring i x m next
    → v ≡ get_or ones m 0 + x - past_in ring i (size m) → Rolled ones ring i x (m + 1) (set next m v)
rolled_next {ones} {ring} {next} {i} {x} {m} {v} l R e =
    record {
      full = length-set next m v ∙ R.full;
      past = set_past (λ j c. c ≡ get_or ones j 0 + x - past_in ring i (size j)) 0 next m v (omega (arith, R.full)) R.past e;
      left = set_left (λ j c. c ≡ get_or ones j 0) 0 next m v R.left;
    }

-- before the longest window takes part, and from then on
pub says_hushed : {ones votes says : List ℕ} {i : ℕ} → Votes ones 4 votes → Hushed votes i 4 says → Sayings ones i says
says_hushed V H = record { full = H.full; each = λ j l. H.past j l ∙ rw (V.each j l) }

pub says_all : {ones votes : List ℕ} {i : ℕ} → Votes ones 4 votes → size 3 ≤ i → Sayings ones i votes
says_all {ones} {votes} {i} V h =
    record { full = V.full; each = λ j l. V.each j l ∙ rw (le-leb (size j) i (omega (arith, longest j l))) }
  where
    longest : (j : ℕ) → j < 4 → size j ≤ size 3
    longest = four (λ (j : ℕ). size j ≤ size 3) (omega arith) (omega arith) (omega arith) (omega arith)

-- the same of four symbols
pub symbols_hushed : (f : Four) {i : ℕ} {says : List ℕ} → Hushed (f.first ∷ f.second ∷ f.third ∷ f.fourth ∷ []) i 4 says → says ≡ sayings f i
symbols_hushed f {i} {says} H =
    ext_get_or 0 says (sayings f i) H.full
    (λ j l.
    four (λ (k : ℕ). get_or says k 0 ≡ get_or (sayings f i) k 0) (H.past 0 (omega arith)) (H.past 1 (omega arith)) (H.past 2 (omega arith))
    (H.past 3 (omega arith)) j (omega (arith, H.full)))

pub symbols_all : (f : Four) (i : ℕ) → size 3 ≤ i → f.first ∷ f.second ∷ f.third ∷ f.fourth ∷ [] ≡ sayings f i
symbols_all f i l =
    rw (le-leb (size 0) i (omega arith), le-leb (size 1) i (omega arith), le-leb (size 2) i (omega arith), le-leb (size 3) i l)
