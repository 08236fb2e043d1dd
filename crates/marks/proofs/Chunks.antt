-- The chunks of a list, one after the other: what stands before a chunk, the chunk and the rest are the list. Assumes nothing.
use mathlib.Core.Path.{◌≡◌, refl, ap, ◌∙◌}
use mathlib.Core.List.{List, ◌++◌}
use Prim.Native.Nat.{ℕ, zero, suc, ◌+◌, ◌*◌, ◌≤◌, ◌<◌}
use native.Mathlib.Nat.{suc-mul, zero-mul}
use native.Mathlib.Omega.{arith}
use lib.ListN.{get_or, take, drop}
use lib.Seq.{take-add, drop-drop}
use Rattle.std.specs.Simd.{first_chunks}

-- chunk i of n elements
pub chunk_at : (n k i : ℕ) (s d : List ℕ) → i < k → get_or (first_chunks n k s) i d ≡ take n (drop (i * n) s)
chunk_at n zero i s d l = absurd (let z : 1 ≤ 0 = omega arith in omega arith)
chunk_at n (suc k) zero s d l = rw (zero-mul n) refl
chunk_at n (suc k) (suc i) s d l =
    chunk_at n k i (drop n s) d (omega arith)
    ∙ ap (take n) (drop-drop (i * n) n s ∙ ap (λ (j : ℕ). drop j s) (let e : suc i * n ≡ i * n + n = suc-mul i n in omega arith))

-- what stands before chunk i, and chunk i
pub past_chunk : (n i : ℕ) (s : List ℕ) → take ((i + 1) * n) s ≡ take (i * n) s ++ take n (drop (i * n) s)
past_chunk n i s = ap (λ (j : ℕ). take j s) (let e : suc i * n ≡ i * n + n = suc-mul i n in omega (arith, e)) ∙ take-add (i * n) n s
