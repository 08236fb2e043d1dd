-- The search of a window for its favourite, symbol by symbol. Assumes nothing.
use mathlib.Core.Path.{◌≡◌}
use mathlib.Core.List.{List}
use Prim.Native.Nat.{ℕ, ◌+◌, ◌*◌, ◌^◌, ◌≤◌, ◌<◌}
use native.Mathlib.Omega.{arith}
use native.Mathlib.Nat.{le_of_mul-le-mul_right, lt_of_mul-lt-mul_right}
use lib.Bits.{bit_and, and_high}
use lib.ListN.{get_or}
use lib.Pow.{pow_pos, high_ones}
use Rattle.lanes.specs.Inner.Lanes.{lane}
use Rattle.mcw_symbols.specs.Inner.Candidate.{Foremost}
use Rattle.mcw_symbols.specs.Inner.Search.{held_count, held_place}
use Rattle.mcw_symbols.proofs.Candidate.{foremost_none, foremost_takes, foremost_keeps}

-- what one lane's mask leaves of a word
pub masked_lane : (w q : ℕ) → bit_and w (65535 * 2 ^ (16 * q)) ≡ lane w q * 2 ^ (16 * q)
unfolding lane
masked_lane w q = rw (← high_ones 16 (16 * q)) (and_high w 16 (16 * q))

-- after n symbols b is the favourite of those in the lane of the mask, and `most` is what the mask leaves of its counts
pub record Finding (cnt latest : List ℕ) (mask n b most : ℕ) : Type 0 where
  pub most_is : (q : ℕ) → mask ≡ 65535 * 2 ^ (16 * q) → most ≡ lane (get_or cnt b 0) q * 2 ^ (16 * q)
  pub foremost : (q : ℕ) → mask ≡ 65535 * 2 ^ (16 * q) → Foremost (held_count cnt q) (held_place latest) n b

-- lanes are in the order of what the mask leaves of them
no_more : (a b u v q : ℕ) → u ≡ a * 2 ^ (16 * q) → v ≡ b * 2 ^ (16 * q) → u ≤ v → a ≤ b
no_more a b u v q e f l = le_of_mul-le-mul_right (rw (e, f) at l) (pow_pos (16 * q))

fewer : (a b u v q : ℕ) → u ≡ a * 2 ^ (16 * q) → v ≡ b * 2 ^ (16 * q) → u < v → a < b
fewer a b u v q e f l = lt_of_mul-lt-mul_right (2 ^ (16 * q)) (rw (e, f) at l)

pub finding_starts : {cnt latest : List ℕ} {mask b most : ℕ}
    → ((q : ℕ) → mask ≡ 65535 * 2 ^ (16 * q) → most ≡ lane (get_or cnt b 0) q * 2 ^ (16 * q)) → Finding cnt latest mask 0 b most
finding_starts e = record { most_is = e; foremost = λ q _. foremost_none }

module _ {cnt latest : List ℕ} {mask n b most : ℕ} (F : Finding cnt latest mask n b most) {v : ℕ}
    (has : (q : ℕ) → mask ≡ 65535 * 2 ^ (16 * q) → v ≡ lane (get_or cnt n 0) q * 2 ^ (16 * q)) where
  -- the symbol n stands less often
  pub finding-less : (b' most' : ℕ) → b' ≡ b → most' ≡ most → v < most → Finding cnt latest mask (n + 1) b' most'
  finding-less b' most' i j l = rw (i, j) (record { most_is = F.most_is; foremost = on })
    where
      on : (q : ℕ) → mask ≡ 65535 * 2 ^ (16 * q) → Foremost (held_count cnt q) (held_place latest) (n + 1) b
      on q e =
          let g = fewer _ _ _ _ q (has q e) (F.most_is q e) l in
          foremost_keeps (F.foremost q e) (omega arith) (λ h. absurd (omega arith))

  -- more often
  pub finding_more : (b' most' : ℕ) → b' ≡ n → most' ≡ v → most < v → Finding cnt latest mask (n + 1) b' most'
  finding_more b' most' i j l = rw (i, j) (record { most_is = has; foremost = on })
    where
      on : (q : ℕ) → mask ≡ 65535 * 2 ^ (16 * q) → Foremost (held_count cnt q) (held_place latest) (n + 1) n
      on q e =
          let g = fewer _ _ _ _ q (F.most_is q e) (has q e) l in
          foremost_takes (F.foremost q e) (omega arith) (λ h. absurd (omega arith))

  -- as often, and is seen later
  pub finding_later : (b' most' : ℕ) → b' ≡ n → most' ≡ v → most ≤ v → get_or latest b 0 ≤ get_or latest n 0 → Finding cnt latest mask (n + 1) b' most'
  finding_later b' most' i j l m = rw (i, j) (record { most_is = has; foremost = on })
    where
      on : (q : ℕ) → mask ≡ 65535 * 2 ^ (16 * q) → Foremost (held_count cnt q) (held_place latest) (n + 1) n
      on q e = foremost_takes (F.foremost q e) (no_more _ _ _ _ q (F.most_is q e) (has q e) l) (λ h. m)

  -- or not
  pub finding_sooner : (b' most' : ℕ) → b' ≡ b → most' ≡ v → most ≡ v → get_or latest n 0 ≤ get_or latest b 0 → Finding cnt latest mask (n + 1) b' most'
  finding_sooner b' most' i j l m = rw (i, j, ← l) (record { most_is = F.most_is; foremost = on })
    where
      on : (q : ℕ) → mask ≡ 65535 * 2 ^ (16 * q) → Foremost (held_count cnt q) (held_place latest) (n + 1) b
      on q e = foremost_keeps (F.foremost q e) (no_more _ _ _ _ q (has q e) (F.most_is q e) (omega arith)) (λ h. m)
