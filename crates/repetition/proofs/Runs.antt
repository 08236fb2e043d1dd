-- The run and the last sample of a list, as one more sample comes: it is one longer where that sample is the last one again, and 1 otherwise. The list read
-- backwards has the new sample in front, which is all there is to it. Assumes nothing.
use mathlib.Core.Path.{◌≡◌, refl, sym, ap, ◌∙◌}
use mathlib.Core.Bool.{Bool, true, false, cond}
use mathlib.Core.List.{List, [], ◌∷◌, ◌++◌, reverse, reverse_aux}
use Prim.Native.Nat.{ℕ, zero, suc, ◌<◌}
use native.Mathlib.Omega.{arith}
use lib.Dec.{eqb}
use borrow.Author.Tests.{eqb-true, eq-eqb}
use Rattle.repetition.specs.History.{Bytes, alike, first, last_sample, leading, run}

backwards : (s r : List ℕ) (x : ℕ) → reverse_aux (s ++ x ∷ []) r ≡ x ∷ reverse_aux s r
backwards [] r x = refl
backwards (y ∷ s) r x = backwards s (y ∷ r) x

pub last_then : (s : List ℕ) (x : ℕ) → last_sample (s ++ x ∷ []) ≡ x
unfolding last_sample
last_then s x = ap first (backwards s [] x)

none : (b : Bool) → leading [] ≡ cond b (leading []) 0
none true = refl
none false = refl

-- of a list read backwards
alike_first : (x : ℕ) (s : List ℕ) → alike x s ≡ cond (eqb x (first s)) (leading s) 0
unfolding alike
alike_first x [] = none (eqb x 0)
alike_first x (y ∷ s) = by (eqb x y) refl
  where
    by : (b : Bool) → eqb x y ≡ b → cond b (suc (alike x s)) 0 ≡ cond b (suc (alike y s)) 0
    by true e = ap (λ (z : ℕ). suc (alike z s)) (eqb-true x y e)
    by false e = refl

pub run_then : (s : List ℕ) (x : ℕ) → run (s ++ x ∷ []) ≡ suc (cond (eqb x (last_sample s)) (run s) 0)
unfolding run last_sample
run_then s x = ap leading (backwards s [] x) ∙ ap suc (alike_first x (reverse s))

-- ---- no samples
no_first : (s : List ℕ) → leading s ≡ 0 → first s ≡ 0
no_first [] e = refl
no_first (x ∷ s) e = absurd (omega (arith, e))

pub no_run : (s : List ℕ) → run s ≡ 0 → last_sample s ≡ 0
unfolding run last_sample
no_run s = no_first (reverse s)

-- ---- bytes
bytes_backwards : (s r : List ℕ) → Bytes s → Bytes r → Bytes (reverse_aux s r)
bytes_backwards [] r b c = c
bytes_backwards (x ∷ s) r b c = bytes_backwards s (x ∷ r) b.1 (b.0, c)

first_byte : (s : List ℕ) → Bytes s → first s < 256
first_byte [] b = omega arith
first_byte (x ∷ s) b = b.0

pub last_byte : (s : List ℕ) → Bytes s → last_sample s < 256
unfolding last_sample
last_byte s b = first_byte (reverse s) (bytes_backwards s [] b tt)

pub bytes_then : (s : List ℕ) (x : ℕ) → Bytes s → x < 256 → Bytes (s ++ x ∷ [])
bytes_then [] x b h = (h, tt)
bytes_then (y ∷ s) x b h = (b.0, bytes_then s x b.1 h)

-- ---- n samples that are all x
abbrev pub repeated : ℕ → ℕ → List ℕ
repeated zero x = []
repeated (suc n) x = repeated n x ++ x ∷ []

pub repeated_last : (n x : ℕ) → last_sample (repeated (suc n) x) ≡ x
repeated_last n x = last_then (repeated n x) x

pub repeated_run : (n x : ℕ) → run (repeated n x) ≡ n
unfolding run
repeated_run zero x = refl
repeated_run (suc zero) x = run_then [] x ∙ ap suc (sym (none (eqb x (last_sample []))))
repeated_run (suc (suc n)) x =
    run_then (repeated (suc n) x) x
    ∙ ap (λ (b : Bool). suc (cond b (run (repeated (suc n) x)) 0)) (eq-eqb x (last_sample (repeated (suc n) x)) (sym (repeated_last n x)))
    ∙ ap suc (repeated_run (suc n) x)

pub repeated_bytes : (n x : ℕ) → x < 256 → Bytes (repeated n x)
repeated_bytes zero x h = tt
repeated_bytes (suc n) x h = bytes_then (repeated n x) x (repeated_bytes n x h) h
