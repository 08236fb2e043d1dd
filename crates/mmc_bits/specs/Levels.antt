-- The numbers of MultiMMC, on bits and on general alphabets alike. Definitions only.
use Rattle.std.specs.Prelude.{ℕ}

-- "Levels have prefix length L = 1..16."
abbrev pub levels : ℕ
levels = 16

-- "the first 100,000 distinct pairs by place"
abbrev pub cap : ℕ
cap = 100000

-- "predictions start at place 2", so "N = length - 2"
abbrev pub first_place : ℕ
first_place = 2
