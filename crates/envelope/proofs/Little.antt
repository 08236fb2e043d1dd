-- Whole numbers as bytes, over any width and place: writing and reading undo each other, and what stands around a number is not read.
-- By induction on the width, since a number is its lowest byte and 256 times the rest. Assumes nothing.
use mathlib.Core.Path.{◌≡◌, refl, sym, ap, ◌∙◌}
use mathlib.Core.List.{List, [], ◌∷◌, ◌++◌}
use Prim.Native.Nat.{ℕ, zero, suc, ◌+◌, ◌*◌, ◌/◌, ◌%◌, ◌^◌, ◌≤◌, ◌<◌}
use native.Mathlib.Nat.{add-zero, mod-add-div, pow-suc, zero-add}
use native.Mathlib.Omega.{arith}
use lib.ListN.{length, get_or, take, drop, get_or-append}
use lib.Seq.{drop-cons}
use lib.Arith.{digits_lt}
use Rattle.envelope.specs.Little.{little, number_at, Bytes}

pub little_length : (w n : ℕ) → length (little w n) ≡ w
unfolding little
little_length zero n = refl
little_length (suc w) n = ap suc (little_length w (n / 256))

pub number_below : (bytes : List ℕ) → Bytes bytes → (at w : ℕ) → at + w ≤ length bytes → number_at bytes at w < 256 ^ w
unfolding number_at
number_below bytes b at zero h = omega arith
number_below bytes b at (suc w) h =
    let d = digits_lt (number_below bytes b (suc at) w (omega arith)) (b at (omega arith)) in
    omega (arith, d, pow-suc 256 w)

-- what stands before a number, or behind it, is not read
one_behind : (x : ℕ) (bytes : List ℕ) (at w : ℕ) → number_at (x ∷ bytes) (suc at) w ≡ number_at bytes at w
unfolding number_at
one_behind x bytes at zero = refl
one_behind x bytes at (suc w) = ap (λ (r : ℕ). get_or bytes at 0 + 256 * r) (one_behind x bytes (suc at) w)

pub number_behind : (pre bytes : List ℕ) (at w : ℕ) → number_at (pre ++ bytes) (length pre + at) w ≡ number_at bytes at w
number_behind [] bytes at w = ap (λ (k : ℕ). number_at bytes k w) (zero-add at)
number_behind (x ∷ pre) bytes at w =
    let e : suc (length pre) + at ≡ suc (length pre + at) = omega arith in
    ap (λ (k : ℕ). number_at (x ∷ pre ++ bytes) k w) e ∙ one_behind x (pre ++ bytes) (length pre + at) w ∙ number_behind pre bytes at w

pub number_start : (xs ys : List ℕ) (at w : ℕ) → at + w ≤ length xs → number_at (xs ++ ys) at w ≡ number_at xs at w
unfolding number_at
number_start xs ys at zero h = refl
number_start xs ys at (suc w) h =
    let low = get_or-append xs ys 0 at (omega arith) in
    let rest = number_start xs ys (suc at) w (omega arith) in
    omega (arith, low, rest)

-- a number that was written is read again, wherever it stands
little_first : (w n : ℕ) (post : List ℕ) → n < 256 ^ w → number_at (little w n ++ post) 0 w ≡ n
unfolding little number_at
little_first zero n post h = omega arith
little_first (suc w) n post h =
    let few : n / 256 < 256 ^ w = omega (arith, pow-suc 256 w) in
    let rest = one_behind (n % 256) (little w (n / 256) ++ post) 0 w ∙ little_first w (n / 256) post few in
    ap (λ (r : ℕ). n % 256 + 256 * r) rest ∙ mod-add-div n 256

pub number_little : (pre : List ℕ) (w n : ℕ) (post : List ℕ) → n < 256 ^ w → number_at (pre ++ (little w n ++ post)) (length pre) w ≡ n
number_little pre w n post h =
    ap (λ (k : ℕ). number_at (pre ++ (little w n ++ post)) k w) (sym (add-zero (length pre)))
    ∙ number_behind pre (little w n ++ post) 0 w
    ∙ little_first w n post h

-- and bytes that were read are written again
lowest : (a r : ℕ) → a < 256 → (a + 256 * r) % 256 ≡ a
lowest a r h = omega arith

others : (a r : ℕ) → a < 256 → (a + 256 * r) / 256 ≡ r
others a r h = omega arith

pub little_number : (bytes : List ℕ) → Bytes bytes → (at w : ℕ) → at + w ≤ length bytes → little w (number_at bytes at w) ≡ take w (drop at bytes)
unfolding little number_at
little_number bytes b at zero h = refl
little_number bytes b at (suc w) h =
    let here : at < length bytes = omega arith in
    let a = get_or bytes at 0 in
    let r = number_at bytes (suc at) w in
    ap (λ (k : ℕ). k ∷ little w ((a + 256 * r) / 256)) (lowest a r (b at here))
    ∙ ap (λ (k : ℕ). a ∷ little w k) (others a r (b at here))
    ∙ ap {B = List ℕ} (λ l. a ∷ l) (little_number bytes b (suc at) w (omega arith))
    ∙ ap (λ (l : List ℕ). take (suc w) l) (sym (drop-cons bytes at 0 here))
