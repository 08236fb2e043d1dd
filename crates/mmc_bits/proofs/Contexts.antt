-- A context as the code keeps it: one rolling number, whose low bits are the shorter contexts. Assumes nothing.
use Prim.Native.Nat.{ℕ, zero, suc, ◌+◌, ◌*◌, ◌-◌, ◌%◌, ◌^◌, ◌≤◌, ◌<◌}
use mathlib.Core.Path.{◌≡◌, refl, sym, ap, ◌∙◌}
use mathlib.Core.List.{List, [], ◌∷◌, ◌++◌}
use native.Mathlib.Omega.{arith}
use native.Mathlib.Nat.{mul_assoc, mul-le-mul_right, pow-succ'}
use lib.ListN.{get_or, length, take, drop, length-append, length-take, length-drop, get_or-eq_default}
use lib.Seq.{take-suc, take-add, length-take-le, get_or-take, get_or-drop}
use lib.Bits.{bit_and, and_mask}
use lib.Pow.{pow-add, low, mod-mod-pow}
use lib.Dec.{ltb}
use borrow.Author.Tests.{ltb-true, ltb-false}
use Rattle.mmc_bits.specs.Levels.{levels}
use Rattle.mmc_bits.specs.Counters.{before, context}
use Rattle.mmc_bits.specs.Inner.Steps.{Bits}
use Rattle.race.proofs.Cases.{tested}

pub context_none : (b : List ℕ) → 0 ≡ context levels b 0
unfolding context before
context_none b = refl

-- the last bits, with one bit more
pub rolled : (b : List ℕ) (i r x : ℕ) → r ≡ context levels b i → x ≡ get_or b i 0 → (r * 2 + x) % 65536 ≡ context levels b (suc i)
unfolding context before
rolled b i r x e f = omega arith

-- a shorter context is a longer one's low bits
pub context_low : (n L : ℕ) (b : List ℕ) (i : ℕ) → L ≤ n → context n b i % 2 ^ L ≡ context L b i
unfolding context
context_low n L b i h = let e : n - L + L ≡ n = omega arith in rw e at (mod-mod-pow (before b i) (n - L) L)

-- the index of a context's counters
pub key : (n l : ℕ) (b : List ℕ) (i recent w : ℕ) → l < n → w ≡ 2 ^ suc l → recent ≡ context n b i → bit_and recent (w - 1) * 2 ≡ context (suc l) b i * 2
key n l b i recent w h e r = rw (e, r, and_mask, context_low n (suc l) b i h) refl

-- ---- what a context is: the L bits before the place, as a number

-- a list of bits as a number, the first highest
pub value : List ℕ → ℕ
value [] = 0
value (x ∷ xs) = x * 2 ^ length xs + value xs

value_append : (xs ys : List ℕ) → value (xs ++ ys) ≡ value xs * 2 ^ length ys + value ys
unfolding value
value_append [] ys = omega arith
value_append (x ∷ xs) ys =
    let e : 2 ^ length (xs ++ ys) ≡ 2 ^ length xs * 2 ^ length ys = ap (λ (n : ℕ). 2 ^ n) (length-append xs ys) ∙ pow-add 2 (length xs) (length ys) in
    rw (e, value_append xs ys) (omega (arith, mul_assoc x (2 ^ length xs) (2 ^ length ys)))

value_lt : (xs : List ℕ) → ((j : ℕ) → get_or xs j 0 < 2) → value xs < 2 ^ length xs
unfolding value
value_lt [] h = omega arith
value_lt (x ∷ xs) h =
    let s : x ≤ 1 = omega (arith, h 0) in
    let e : 2 ^ length (x ∷ xs) ≡ 2 * 2 ^ length xs = pow-succ' 2 (length xs) in
    omega (arith, value_lt xs (λ j. h (suc j)), mul-le-mul_right (2 ^ length xs) s)

value_one : (y : ℕ) → value (y ∷ []) ≡ y
unfolding value
value_one y = omega arith

before_none : (b : List ℕ) → before b 0 ≡ value (take 0 b)
unfolding before value
before_none b = refl

before_more : (b : List ℕ) (i : ℕ) → before b (suc i) ≡ before b i * 2 + get_or b i 0
unfolding before
before_more b i = refl

before_value : (b : List ℕ) (i : ℕ) → i ≤ length b → before b i ≡ value (take i b)
before_value b zero h = before_none b
before_value b (suc i) h =
    before_more b i ∙ rw (before_value b i (omega arith), take-suc b i 0 h, value_append (take i b) (get_or b i 0 ∷ []), value_one (get_or b i 0)) refl

bits_of_lem : (b : List ℕ) (a L : ℕ) → Bits b → (j : ℕ) → get_or (take L (drop a b)) j 0 < 2
bits_of_lem b a L bs j = tested (ltb j L)
    (λ t. rw (get_or-take L (drop a b) j 0 (ltb-true _ _ t), get_or-drop a b j 0) (bs (a + j)))
    (λ t. rw (get_or-eq_default (take L (drop a b)) 0 {n = j} (omega (arith, length-take L (drop a b), ltb-false j L t))) (omega arith))

split_take : (b : List ℕ) (i L : ℕ) → L ≤ i → take (i - L) b ++ take L (drop (i - L) b) ≡ take i b
split_take b i L h = let e : i - L + L ≡ i = omega arith in sym (take-add (i - L) L b) ∙ ap (λ (k : ℕ). take k b) e

pub context_window : (L : ℕ) (b : List ℕ) (i : ℕ) → Bits b → L ≤ i → i ≤ length b → context L b i ≡ value (take L (drop (i - L) b))
unfolding context
context_window L b i bs h l =
    let w = take L (drop (i - L) b) in
    let n : length w ≡ L = length-take-le L (drop (i - L) b) (simp length-drop (omega arith)) in
    let v : value w < 2 ^ L = rw n at (value_lt w (bits_of_lem b (i - L) L bs)) in
    rw (before_value b i l, ← split_take b i L h, value_append (take (i - L) b) w, n) (low (value (take (i - L) b)) L v)
