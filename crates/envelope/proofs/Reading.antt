-- A number of at most eight bytes is the word that they make with zeros above them. By induction on its bytes, since a number is its lowest byte and 256
-- times the rest. Assumes nothing.
use mathlib.Core.Path.{◌≡◌, refl, sym, ap, ◌∙◌}
use mathlib.Core.List.{List, ◌++◌}
use Prim.Native.Nat.{ℕ, zero, suc, ◌+◌, ◌-◌, ◌≤◌, ◌<◌}
use native.Mathlib.Nat.{add-zero, zero-add}
use native.Mathlib.Omega.{arith}
use borrow.Rule.Slice.PartMut.{put_mid}
use lib.ListN.{length, get_or, take, drop, length-drop, get_or-append}
use Rattle.std.proofs.Common.{replicate}
use Rattle.std.proofs.lemmas.List.{length-take, get_or-append-add, get_or-take, get_or-drop}
use Rattle.std.specs.Int.{w64, from_le_bytes}
use Rattle.envelope.specs.Little.{number_at}

-- a number of zeros
nothing : (word : List ℕ) (at w : ℕ) → ((k : ℕ) → at ≤ k → get_or word k 0 ≡ 0) → number_at word at w ≡ 0
unfolding number_at
nothing word at zero none = refl
nothing word at (suc w) none = omega (arith, none at, nothing word (suc at) w (λ k h. none k (omega arith)))

-- the bytes from a place on, and zeros above them
padded : (word bytes : List ℕ) (i at w n : ℕ) → w ≤ n → ((k : ℕ) → k < w → get_or word (i + k) 0 ≡ get_or bytes (at + k) 0) →
    ((k : ℕ) → i + w ≤ k → get_or word k 0 ≡ 0) → number_at word i n ≡ number_at bytes at w
unfolding number_at
padded word bytes i at zero n h same none = nothing word i n (λ k l. none k (omega arith))
padded word bytes i at (suc w) zero h same none = absurd (omega arith)
padded word bytes i at (suc w) (suc n) h same none =
    let next : (k : ℕ) → k < w → get_or word (suc i + k) 0 ≡ get_or bytes (suc at + k) 0 =
    λ k l. let p : suc i + k ≡ i + suc k = omega arith in let q : suc at + k ≡ at + suc k = omega arith in rw (p, q) (same (suc k) (omega arith)) in
    let first : get_or word i 0 ≡ get_or bytes at 0 = ap (λ (k : ℕ). get_or word k 0) (sym (add-zero i)) ∙ same 0 (omega arith) ∙ ap (λ (k : ℕ). get_or bytes k 0) (add-zero at) in
    omega (arith, first, padded word bytes (suc i) (suc at) w n (omega arith) next (λ k l. none k (omega arith)))

eight_bytes : (word : List ℕ) → from_le_bytes w64 word ≡ number_at word 0 8
unfolding number_at
eight_bytes word = omega arith

pub zeros_at : (n k : ℕ) → get_or {A = ℕ} (replicate n 0) k 0 ≡ 0
zeros_at zero k = refl
zeros_at (suc n) zero = refl
zeros_at (suc n) (suc k) = zeros_at n k

-- of a part of the bytes, put over zeros
pub word_number : (bytes part zeros : List ℕ) (at w n : ℕ) → w ≤ 8 → at + w ≤ length bytes → n ≡ w → part ≡ take n (drop at bytes) →
    ((k : ℕ) → get_or zeros k 0 ≡ 0) → from_le_bytes w64 (put_mid 0 w zeros part) ≡ number_at bytes at w
word_number bytes part zeros at w n few fits e is none =
    let long : length part ≡ w = omega (arith, ap length is, length-take n (drop at bytes), length-drop at bytes) in
    let above = drop w zeros in
    let same : (k : ℕ) → k < w → get_or (part ++ above) (0 + k) 0 ≡ get_or bytes (at + k) 0 =
    λ k l.
    ap (λ (i : ℕ). get_or (part ++ above) i 0) (zero-add k)
    ∙ get_or-append part above 0 k (omega arith)
    ∙ ap (λ (xs : List ℕ). get_or xs k 0) is
    ∙ get_or-take n (drop at bytes) k 0 (omega arith)
    ∙ get_or-drop at bytes k 0 in
    let nothing_above : (k : ℕ) → 0 + w ≤ k → get_or (part ++ above) k 0 ≡ 0 =
    λ k l.
    let at_end : k ≡ length part + (k - w) = omega arith in
    ap (λ (i : ℕ). get_or (part ++ above) i 0) at_end
    ∙ get_or-append-add part above (k - w) 0
    ∙ get_or-drop w zeros (k - w) 0
    ∙ none (w + (k - w)) in
    eight_bytes (part ++ above) ∙ padded (part ++ above) bytes 0 at w 8 few same nothing_above
