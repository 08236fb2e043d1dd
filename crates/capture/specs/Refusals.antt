-- By which number a bitstring track refuses a capture, and what it then answers. Definitions only.
use Rattle.std.specs.Prelude.{ℕ, Bool, cond, List, eqb, length, ltb}
use Rattle.answer.specs.Numbers.{done, too_long, too_short, too_wide, not_run, bad_width}
use Rattle.answer.specs.Refused.{refused_at}
use Rattle.answer.specs.declared.Answer.{Answer}
use Rattle.capture.specs.Bits.{bit_count, first_wide, wide}
use Rattle.capture.specs.Limit.{no_width, over_limit}

-- the first of 1, 7, 6, 2, 3 that holds, and `done` where none does: the track needs `least` bits, and `short` says whether lent memory is too short
abbrev pub bits_refusal : List ℕ → ℕ → ℕ → Bool → ℕ
bits_refusal symbols width least short =
    cond (over_limit symbols) too_long
    (cond (no_width width) bad_width
    (cond (ltb (bit_count symbols width) least) not_run
    (cond short too_short (cond (wide symbols width) too_wide done))))

-- "place 0 (save number 3)": that of the first symbol above 1
abbrev pub refused_on : List ℕ → ℕ → Answer
refused_on symbols n = refused_at n (cond (eqb n too_wide) (first_wide symbols) 0)

-- by which number a track over the symbols as they are refuses a capture
abbrev pub symbols_refusal : List ℕ → ℕ → Bool → ℕ
symbols_refusal symbols least short =
    cond (over_limit symbols) too_long (cond (ltb (length symbols) least) not_run (cond short too_short done))
