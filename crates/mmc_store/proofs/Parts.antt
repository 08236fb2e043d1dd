-- A table of the lent numbers that was lent and came back: the others are as they were. Assumes nothing.
use Prim.Native.Nat.{ℕ, zero, suc, ◌+◌, ◌-◌, ◌*◌, ◌≤◌, ◌<◌, max}
use mathlib.Core.Path.{◌≡◌, refl, sym, ap, subst, ◌∙◌}
use mathlib.Core.List.{List, [], ◌++◌}
use native.Mathlib.Omega.{arith}
use native.Mathlib.Numerals.{add-one}
use native.Mathlib.Decide.{dec_lt}
use lib.ListN.{length, get_or, take, drop, length-drop, drop_of_length-le, replicate, get_or-append, get_or-eq_default}
use lib.Seq.{take_at, drop_at, get_or-take, get_or-drop, get_or-append-add, ext_get_or, length-take-le}
use borrow.Rule.Slice.PartMut.{put_mid, post_of, same_len_mid}
use Rattle.mmc_store.specs.Inner.Words.{counts, bests}
use Rattle.mmc_store.specs.Inner.Places.{part, tables, Changed, Tallied}
use Rattle.table.specs.Inner.Table.{size, value, valued}

module _ (xs ys : List ℕ) (a k : ℕ) (fits : a + k ≤ length xs) (long : length ys ≡ k) where
  head_long : length (take a xs) ≡ a
  head_long = length-take-le a xs (omega arith)

  before : (i : ℕ) → i < a → get_or (put_mid a k xs ys) i 0 ≡ get_or xs i 0
  before i l = get_or-append (take a xs) (ys ++ post_of a k xs) 0 i (omega (arith, head_long)) ∙ get_or-take a xs i 0 l

  after : (i : ℕ) → get_or (put_mid a k xs ys) (a + (k + i)) 0 ≡ get_or xs (a + (k + i)) 0
  after i =
      ap (λ n. get_or (put_mid a k xs ys) (n + (k + i)) 0) (sym head_long) ∙ get_or-append-add (take a xs) (ys ++ post_of a k xs) (k + i) 0
      ∙ ap (λ n. get_or (ys ++ post_of a k xs) (n + i) 0) (sym long) ∙ get_or-append-add ys (post_of a k xs) i 0
      ∙ get_or-drop k (drop a xs) i 0 ∙ get_or-drop a xs (k + i) 0

  pub put_other : (i : ℕ) → (a ≤ i → i < a + k → ⊥) → get_or (put_mid a k xs ys) i 0 ≡ get_or xs i 0
  put_other i f = go (dec_lt i a) (dec_lt i (a + k))
    where
      go : Dec (i < a) → Dec (i < a + k) → get_or (put_mid a k xs ys) i 0 ≡ get_or xs i 0
      go (yes l) d = before i l
      go (no n) (yes l) = absurd (f (omega arith) l)
      go (no n) (no u) =
          subst (λ (i : ℕ). get_or (put_mid a k xs ys) i 0 ≡ get_or xs i 0) (let z : a + (k + (i - (a + k))) ≡ i = omega arith in z)
          (after (i - (a + k)))

pub part_is : (l k : ℕ) (m : List ℕ) → k ≡ size → take k (drop (l * size) m) ≡ part l m
unfolding part
part_is l k m e = ap (λ k. take k (drop (l * size) m)) e

take_drop_length : (k a : ℕ) (m : List ℕ) → a + k ≤ length m → length (take k (drop a m)) ≡ k
take_drop_length k a m l = length-take-le k (drop a m) (simp length-drop (omega arith))

in_range_lem : (n j k : ℕ) → j < n → k ≡ n * size → j * size + size ≤ k
in_range_lem n j k l e = omega arith

outside : (j l i : ℕ) → (j ≡ l → ⊥) → i < size → l * size ≤ j * size + i → j * size + i < l * size + size → ⊥
outside j l i f h u v = omega arith

take_none : (k : ℕ) → take {A = ℕ} k [] ≡ []
take_none zero = refl
take_none (suc k) = refl

part_beyond : (n j : ℕ) (m : List ℕ) → n ≤ j → length m ≡ n * size → part j m ≡ []
unfolding part
part_beyond n j m l e = ap (take size) (drop_of_length-le m (let z : length m ≤ j * size = omega arith in z)) ∙ take_none size

pub part_length : (n j : ℕ) (m : List ℕ) → j < n → length m ≡ n * size → length (part j m) ≡ size
part_length n j m l e = ap length (sym (part_is j size m refl)) ∙ take_drop_length size (j * size) m (in_range_lem n j (length m) l e)

part_at : (j : ℕ) (m : List ℕ) (i : ℕ) → i < size → get_or (part j m) i 0 ≡ get_or m (j * size + i) 0
unfolding part
part_at j m i h = get_or-take size (drop (j * size) m) i 0 h ∙ get_or-drop (j * size) m i 0

module _ (n l k : ℕ) (xs ys : List ℕ) (hl : l < n) (hk : k ≡ size) (long : length xs ≡ n * size) (is : length ys ≡ length (take k (drop (l * size) xs))) where
  fits : l * size + k ≤ length xs
  fits = subst (λ (k : ℕ). l * size + k ≤ length xs) (sym hk) (in_range_lem n l (length xs) hl long)

  ys_long : length ys ≡ k
  ys_long = is ∙ take_drop_length k (l * size) xs fits

  put_here_at : take k (drop (l * size) (put_mid (l * size) k xs ys)) ≡ ys
  put_here_at =
      ap (take k) (drop_at (take (l * size) xs) (ys ++ post_of (l * size) k xs) (l * size) (head_long xs ys (l * size) k fits ys_long))
      ∙ take_at ys (post_of (l * size) k xs) k ys_long

  pub put_here : part l (put_mid (l * size) k xs ys) ≡ ys
  put_here = sym (part_is l k (put_mid (l * size) k xs ys) hk) ∙ put_here_at

  put_long : length (put_mid (l * size) k xs ys) ≡ length xs
  put_long = same_len_mid (l * size) k xs ys is

  put_at : (j i : ℕ) → (j ≡ l → ⊥) → i < size → get_or (put_mid (l * size) k xs ys) (j * size + i) 0 ≡ get_or xs (j * size + i) 0
  put_at j i f h = put_other xs ys (l * size) k fits ys_long (j * size + i) (λ u v. outside j l i f h u (subst (λ (k : ℕ). j * size + i < l * size + k) hk v))

  put_within : (j : ℕ) → j < n → (j ≡ l → ⊥) → part j (put_mid (l * size) k xs ys) ≡ part j xs
  put_within j hj f =
      ext_get_or 0 (part j (put_mid (l * size) k xs ys)) (part j xs)
      (part_length n j (put_mid (l * size) k xs ys) hj (put_long ∙ long) ∙ sym (part_length n j xs hj long))
      (λ i h. go i (subst (λ (n : ℕ). i < n) (part_length n j (put_mid (l * size) k xs ys) hj (put_long ∙ long)) h))
    where
      go : (i : ℕ) → i < size → get_or (part j (put_mid (l * size) k xs ys)) i 0 ≡ get_or (part j xs) i 0
      go i h = part_at j (put_mid (l * size) k xs ys) i h ∙ put_at j i f h ∙ sym (part_at j xs i h)

  pub put_there : (j : ℕ) → (j ≡ l → ⊥) → part j (put_mid (l * size) k xs ys) ≡ part j xs
  put_there j f = go (dec_lt j n)
    where
      go : Dec (j < n) → part j (put_mid (l * size) k xs ys) ≡ part j xs
      go (yes h) = put_within j h f
      go (no g) = part_beyond n j (put_mid (l * size) k xs ys) (omega arith) (put_long ∙ long) ∙ sym (part_beyond n j xs (omega arith) long)

  pub put_changed : (new : List ℕ) → ys ≡ new → Changed l xs (put_mid (l * size) k xs ys) new
  put_changed new e = record { long = put_long; here = put_here ∙ e; others = put_there }

-- ---- cleared numbers
pub zeros_at : (n i : ℕ) → ◌≡◌ {A = ℕ} (get_or (replicate n 0) i 0) 0
zeros_at zero zero = refl
zeros_at zero (suc i) = refl
zeros_at (suc n) zero = refl
zeros_at (suc n) (suc i) = zeros_at n i

pub zeros_part : (n j : ℕ) (m : List ℕ) → j < n → length m ≡ n * size → m ≡ replicate (length m) 0 →
    (length (part j m) ≡ size) × ((a : ℕ) → get_or (part j m) a 0 ≡ 0)
zeros_part n j m l e z = (part_length n j m l e, λ a. go a (dec_lt a size))
  where
    go : (a : ℕ) → Dec (a < size) → get_or (part j m) a 0 ≡ 0
    go a (yes h) = part_at j m a h ∙ ap (λ l. get_or l (j * size + a) 0) z ∙ zeros_at (length m) (j * size + a)
    go a (no f) = get_or-eq_default (part j m) 0 (subst (λ (n : ℕ). n ≤ a) (sym (part_length n j m l e)) (omega arith))

-- ---- a table, as the code lends it: k numbers from t * size on
pub lent : (t : ℕ) → t * size + size - t * size ≡ size
lent t = omega arith

pub lent_is : (t : ℕ) (m : List ℕ) → take (t * size + size - t * size) (drop (t * size) m) ≡ part t m
lent_is t m = part_is t (t * size + size - t * size) m (lent t)

pub back : (n t : ℕ) (xs ys : List ℕ) → t < n → length xs ≡ n * size →
    length ys ≡ length (take (t * size + size - t * size) (drop (t * size) xs)) → (new : List ℕ) → ys ≡ new →
    Changed t xs (put_mid (t * size) (t * size + size - t * size) xs ys) new
back n t xs ys l e is new q = put_changed n t (t * size + size - t * size) xs ys l (lent t) e is new q

-- ---- a pair was counted, and then the best of its context raised
pub tallies :
    (l c x p n : ℕ) (m m₁ m₂ : List ℕ) → Changed (l + 1) m m₁ (valued (tables m (l + 1)) counts p (n + 1)) →
    (old v : ℕ) → old ≡ value (tables m₁ l) bests c → v ≡ max old ((n + 1) * 256 + x) → Changed l m₁ m₂ (valued (tables m₁ l) bests c v) →
    Tallied l c x p n m m₂
tallies l c x p n m m₁ m₂ a old v o e b = record {
  long = b.long ∙ a.long;
  pair = rw (sym (add-one l)) (b.others (l + 1) (λ q. omega arith) ∙ a.here);
  context = b.here ∙ rw (e, o, a.others l (λ q. omega arith));
  others = λ j f g. b.others j f ∙ a.others j (λ q. g (omega arith));
}
