-- A line is its pieces in a row, and in a slice that the longest line fits it stands at the start. Assumes nothing.
use mathlib.Core.Path.{◌≡◌, ap}
use mathlib.Core.Bool.{Bool, cond}
use mathlib.Core.List.{List, ◌++◌, append_assoc}
use Prim.Native.Nat.{ℕ, ◌≤◌, ◌<◌}
use lib.ListN.{length, drop}
use borrow.Author.Tests.{lt-ltb, le-ltb}
use Rattle.answer.specs.declared.Answer.{Answer}
use Rattle.report_line.specs.Line.{counts_of, double, estimates_of, length_in, line_in, line_of, longest, newline, number, space}

regroup : (n a b c d : List ℕ) → (((n ++ a) ++ b) ++ c) ++ d ≡ n ++ (((a ++ b) ++ c) ++ d)
regroup n a b c d = simp append_assoc

pub line_is : (a : Answer) →
    number a.number ++ number a.estimate.c ++ number a.estimate.n ++ number a.estimate.max_run_len ++ number a.k ++ number a.rounds
    ++ double a.estimate.p_global space ++ double a.estimate.p_global_prime space ++ double a.estimate.p_local space ++ double a.estimate.min_entropy newline
    ≡ line_of a
unfolding line_of counts_of estimates_of
line_is a =
    let e = a.estimate in
    regroup (number a.number ++ number e.c ++ number e.n ++ number e.max_run_len ++ number a.k ++ number a.rounds)
    (double e.p_global space) (double e.p_global_prime space) (double e.p_local space) (double e.min_entropy newline)

-- too short a slice
pub no_length : (a : Answer) (out : List ℕ) → length out < longest → length_in a out ≡ 0
unfolding length_in
no_length a out h = ap (λ (b : Bool). cond b 0 (length (line_of a))) (lt-ltb (length out) longest h)

pub no_line : (a : Answer) (out : List ℕ) → length out < longest → line_in a out ≡ out
unfolding line_in
no_line a out h = ap (λ (b : Bool). cond b out (line_of a ++ drop (length (line_of a)) out)) (lt-ltb (length out) longest h)

-- the whole line
pub whole_length : (a : Answer) (out : List ℕ) → longest ≤ length out → length_in a out ≡ length (line_of a)
unfolding length_in
whole_length a out h = ap (λ (b : Bool). cond b 0 (length (line_of a))) (le-ltb (length out) longest h)

pub whole_line : (a : Answer) (out : List ℕ) → longest ≤ length out → line_in a out ≡ line_of a ++ drop (length (line_of a)) out
unfolding line_in
whole_line a out h = ap (λ (b : Bool). cond b out (line_of a ++ drop (length (line_of a)) out)) (le-ltb (length out) longest h)
