-- What the bit reader answers, one law for each case in its order. Assumes nothing.
use mathlib.Core.Path.{◌≡◌, refl, ap, ◌∙◌}
use mathlib.Core.Bool.{Bool, true, false, cond, ◌&&◌}
use mathlib.Core.List.{List}
use Prim.Native.Nat.{ℕ, ◌*◌, ◌≤◌, ◌<◌}
use native.Mathlib.Omega.{arith}
use borrow.Author.Tests.{le-leb, lt-leb}
use lib.Dec.{eqb, ltb, leb}
use lib.ListN.{length, get_or}
use Rattle.answer.specs.Numbers.{done, too_long, too_short, too_wide, bad_width}
use Rattle.answer.proofs.Results.{is_refusal}
use Rattle.answer.specs.Results.{number_of, place_of}
use Rattle.answer.specs.declared.Refusal.{Refusal}
use Rattle.std.specs.Prelude.{Err}
use Rattle.capture.specs.Bits.{bit_at, bit_count, source_refusal}
use Rattle.capture.specs.Limit.{no_width, over_limit}
use Rattle.capture.specs.Reader.{bit_read, bit_read_of, refused_bit}
use Rattle.capture.specs.declared.BitRead.{BitRead}

-- an order of refusals that begins with those of a source: by the number of those
pub refused_first : {A : Type 0} (a b : Bool) (x : A) (f : ℕ → A) → {n : ℕ} → n ≡ cond a too_long (cond b bad_width done) → (n ≡ 0 → ⊥)
    → f n ≡ cond a (f too_long) (cond b (f bad_width) x)
refused_first true b x f e h = rw e
refused_first false true x f e h = rw e
refused_first false false x f e h = absurd (h e)

pub taken_first : {A : Type 0} (a b : Bool) (x : A) (f : ℕ → A) → cond a too_long (cond b bad_width done) ≡ 0
    → cond a (f too_long) (cond b (f bad_width) x) ≡ x
taken_first true b x f e = absurd (omega arith)
taken_first false true x f e = absurd (omega arith)
taken_first false false x f e = refl

module _ (s : List ℕ) (w i : ℕ) where
  abbrev at_source : BitRead
  at_source =
      cond (leb (bit_count s w) i) (refused_bit too_short 0)
      (cond (eqb w 1 && ltb 1 (get_or s i 0)) (refused_bit too_wide i) (record { number = done; place = 0; bit = bit_at s w i }))

  pub read_refused : (e : Refusal) → number_of e ≡ source_refusal s w → place_of e ≡ 0 → bit_read_of (Err e) ≡ bit_read s w i
  unfolding bit_read
  read_refused e n p =
      rw p (refused_first (over_limit s) (no_width w) at_source (λ n. refused_bit n 0) n (is_refusal e))

  module _ (source : source_refusal s w ≡ 0) where
    read_taken : bit_read s w i ≡ at_source
    unfolding bit_read
    read_taken = taken_first (over_limit s) (no_width w) at_source (λ n. refused_bit n 0) source

    pub read_past_end : length s * w ≤ i → bit_read s w i ≡ refused_bit too_short 0
    read_past_end h = read_taken ∙ rw (le-leb _ _ h)

    module _ (inside : i < length s * w) where
      pub read_too_wide : (eqb w 1 && ltb 1 (get_or s i 0)) ≡ true → bit_read s w i ≡ refused_bit too_wide i
      read_too_wide t = read_taken ∙ rw (lt-leb _ _ inside, t)

      pub read_done : (eqb w 1 && ltb 1 (get_or s i 0)) ≡ false → bit_read s w i ≡ record { number = done; place = 0; bit = bit_at s w i }
      read_done t = read_taken ∙ rw (lt-leb _ _ inside, t)

-- at width 1 there are as many bits as symbols
pub at_one : {v n i : ℕ} → v ≡ 1 → i < n * v → i < n
at_one {v} {n} {i} e h = omega (arith, ap (λ (x : ℕ). n * x) e)

pub bit_done : {a b : ℕ} → a ≡ b → ◌≡◌ {A = BitRead} (record { number = done; place = 0; bit = a }) (record { number = done; place = 0; bit = b })
bit_done e = cc
