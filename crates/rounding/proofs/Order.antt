-- The order of values as the tests `<` and `<=` have it, of every sign, both zeros and the infinities among them: `<=` leads on from value to value, and of
-- two values that are not NaN one is at most the other. A finite value is a signed fraction, so the order is one of whole numbers with signs. Assumes nothing.
use mathlib.Core.Path.{◌≡◌, refl, sym, subst}
use mathlib.Core.Logic.{inl, inr}
use Prim.Native.Nat.{ℕ, zero, suc, ◌+◌, ◌*◌, ◌≤◌, ◌<◌, zero-le}
use native.Mathlib.Nat.{le_refl, le_of_lt, le_of_eq, le_trans, eq-or-lt_of_le, not-le_of_lt, mul-pos, zero-mul, zero-lt-suc}
use native.Mathlib.Omega.{arith}
use mathlib.Core.Bool.{Bool, true, false, not, ◌&&◌, ◌||◌, true≢false}
use lib.Dec.{T, ltb, eqb, eqb→eq, ltb→lt, lt→ltb, nltb→le}
use lib.Ieee.{Float, nan, inf, fin, up, down, below, level, is_nan, lt, le}
use lib.Ieee.Fits.{and_l, and_r, and_i, eq→eqb, down_pos}
use lib.Ieee.Positive.{through}
use mir.Facts.{or_yes}

-- ---- whole numbers
pub or_left : (a b : Bool) → T a → T (a || b)
or_left true b t = tt
or_left false b t = absurd t

or_right : (a b : Bool) → T b → T (a || b)
or_right true b t = tt
or_right false b t = t

-- "below, or equal", by any test for equality
to_le : (a b : ℕ) (e : Bool) → (T e → a ≡ b) → T (ltb a b || (e && true)) → a ≤ b
to_le a b e f t = elim (or_yes (ltb a b) (e && true) t) [ inl u ↦ le_of_lt (ltb→lt a b u) | inr u ↦ le_of_eq (f (and_l e true u)) ]

of_le : (a b : ℕ) (e : Bool) → (a ≡ b → T e) → a ≤ b → T (ltb a b || (e && true))
of_le a b e f h =
    elim (eq-or-lt_of_le h) [ inl u ↦ or_right (ltb a b) (e && true) (and_i e true (f u) tt) | inr u ↦ or_left (ltb a b) (e && true) (lt→ltb a b u) ]

pub lt_or_eq : (a b : ℕ) → T (ltb a b || (eqb a b && true)) → a ≤ b
lt_or_eq a b t = to_le a b (eqb a b) (eqb→eq a b) t

-- ---- whole numbers with signs: ±a at most ±b
abbrev Most : Bool → ℕ → Bool → ℕ → Type 0
Most false a false b = a ≤ b
Most false a true b = a + b ≤ 0
Most true a false b = T true
Most true a true b = b ≤ a

most_of : (s : Bool) (a : ℕ) (t : Bool) (b : ℕ) → T (below s a t b || level s a t b) → Most s a t b
most_of false a false b h = lt_or_eq a b h
most_of false a true b h = none a b (eqb→eq a b (and_l (eqb a b) _ h)) (eqb→eq a 0 (and_r (eqb a b) _ h))
  where
    none : (a b : ℕ) → a ≡ b → a ≡ 0 → a + b ≤ 0
    none a b e f = omega arith
most_of true a false b h = tt
most_of true a true b h = to_le b a (eqb a b) (λ (t : T (eqb a b)). sym (eqb→eq a b t)) h

of_most : (s : Bool) (a : ℕ) (t : Bool) (b : ℕ) → Most s a t b → T (below s a t b || level s a t b)
of_most false a false b h = of_le a b (eqb a b) (λ (e : a ≡ b). eq→eqb e) h
of_most false zero true zero h = tt
of_most false zero true (suc b) h = absurd (omega arith)
of_most false (suc a) true b h = absurd (omega arith)
of_most true zero false zero h = tt
of_most true zero false (suc b) h = or_left (ltb 0 (0 + suc b)) _ (lt→ltb 0 (0 + suc b) (omega arith))
of_most true (suc a) false b h = or_left (ltb 0 (suc a + b)) _ (lt→ltb 0 (suc a + b) (omega arith))
of_most true a true b h = of_le b a (eqb a b) (λ (e : b ≡ a). eq→eqb (sym e)) h

not_below : (s : Bool) (a : ℕ) (t : Bool) (b : ℕ) → T (not (below t b s a)) → Most s a t b
not_below false a false b h = nltb→le b a h
not_below false a true b h = swapped a b (nltb→le 0 (b + a) h)
  where
    swapped : (a b : ℕ) → b + a ≤ 0 → a + b ≤ 0
    swapped a b h = omega arith
not_below true a false b h = tt
not_below true a true b h = nltb→le a b h

-- ---- fractions with signs: ±x / p, ±y / q, ±z / r
-- a fraction that is at most 0 is so over any denominator
none : (n d e : ℕ) → 0 < d → n * d ≤ 0 → n * e ≤ 0
none zero d e D h = le_of_eq (zero-mul e)
none (suc n) d e D h = absurd (not-le_of_lt (mul-pos (zero-lt-suc n) D) h)

left : (a b : ℕ) → a + b ≤ 0 → a ≤ 0
left a b h = omega arith

right : (a b : ℕ) → a + b ≤ 0 → b ≤ 0
right a b h = omega arith

both : (a b : ℕ) → a ≤ 0 → b ≤ 0 → a + b ≤ 0
both a b h k = omega arith

module _ (x y z p q r : ℕ) (P : 0 < p) (Q : 0 < q) (R : 0 < r) where
  chain : (s t u : Bool) → Most s (x * q) t (y * p) → Most t (y * r) u (z * q) → Most s (x * r) u (z * p)
  chain false false false h k = through x y z p q r Q h k
  chain false false true h k =
      both (x * r) (z * p) (none x q r Q (le_trans h (none y r p R (left (y * r) (z * q) k)))) (none z q p Q (right (y * r) (z * q) k))
  chain false true false h k = le_trans (none x q r Q (left (x * q) (y * p) h)) zero-le
  chain false true true h k =
      both (x * r) (z * p) (none x q r Q (left (x * q) (y * p) h)) (none z q p Q (le_trans k (none y p r P (right (x * q) (y * p) h))))
  chain true false false h k = tt
  chain true false true h k = le_trans (none z q p Q (right (y * r) (z * q) k)) zero-le
  chain true true false h k = tt
  chain true true true h k = through z y x r q p Q k h

-- ---- values
-- the infinities
lowest : (y : Float) → T (not (is_nan y)) → T (le (inf true) y)
unfolding is_nan le
lowest nan n = absurd n
lowest (inf true) n = tt
lowest (inf false) n = tt
lowest (fin s m e) n = tt

highest : (y : Float) → T (le (inf false) y) → y ≡ inf false
unfolding le
highest nan h = absurd h
highest (inf true) h = absurd h
highest (inf false) h = refl
highest (fin s m e) h = absurd h

-- what `<=` holds of is no NaN
pub le_number : (x y : Float) → T (le x y) → T (not (is_nan y))
unfolding is_nan le
le_number nan y h = absurd h
le_number (inf s) nan h = absurd h
le_number (inf s) (inf t) h = tt
le_number (inf s) (fin t n d) h = tt
le_number (fin s m e) nan h = absurd h
le_number (fin s m e) (inf t) h = tt
le_number (fin s m e) (fin t n d) h = tt

pub le_chain : (x y z : Float) → T (le x y) → T (le y z) → T (le x z)
unfolding le
le_chain nan y z h k = absurd h
le_chain (inf true) y z h k = lowest z (le_number y z k)
le_chain (inf false) y z h k = subst (λ (v : Float). T (le v z)) (highest y h) k
le_chain (fin s m e) nan z h k = absurd h
le_chain (fin s m e) (inf true) z h k = absurd h
le_chain (fin s m e) (inf false) z h k = subst (λ (v : Float). T (le (fin s m e) v)) (sym (highest z k)) tt
le_chain (fin s m e) (fin t n d) nan h k = absurd k
le_chain (fin s m e) (fin t n d) (inf true) h k = absurd k
le_chain (fin s m e) (fin t n d) (inf false) h k = tt
le_chain (fin s m e) (fin t n d) (fin u l g) h k =
    of_most s _ u _
    (chain (m * up e) (n * up d) (l * up g) (down e) (down d) (down g) (down_pos e) (down_pos d) (down_pos g) s t u (most_of s _ t _ h) (most_of t _ u _ k))

pub le_itself : (x : Float) → T (not (is_nan x)) → T (le x x)
unfolding is_nan le
le_itself nan n = absurd n
le_itself (inf true) n = tt
le_itself (inf false) n = tt
le_itself (fin true m e) n = of_most true _ true _ (le_refl (m * up e * down e))
le_itself (fin false m e) n = of_most false _ false _ (le_refl (m * up e * down e))

pub le_of_not_lt : (x y : Float) → T (not (is_nan x)) → T (not (is_nan y)) → lt y x ≡ false → T (le x y)
unfolding is_nan lt le
le_of_not_lt nan y p q h = absurd p
le_of_not_lt (inf true) y p q h = lowest y q
le_of_not_lt (inf false) nan p q h = absurd q
le_of_not_lt (inf false) (inf true) p q h = absurd (true≢false h)
le_of_not_lt (inf false) (inf false) p q h = tt
le_of_not_lt (inf false) (fin t n d) p q h = absurd (true≢false h)
le_of_not_lt (fin s m e) nan p q h = absurd q
le_of_not_lt (fin s m e) (inf true) p q h = absurd (true≢false h)
le_of_not_lt (fin s m e) (inf false) p q h = tt
le_of_not_lt (fin s m e) (fin t n d) p q h = of_most s _ t _ (not_below s _ t _ (subst (λ (b : Bool). T (not b)) (sym h) tt))
