-- When a figure is given and what it says. Its number is 0 past every test and only there, so all four estimates ran with an entropy in range; none of the
-- four figures is a NaN then, and the smaller of two is above neither. Assumes nothing.
use mathlib.Core.Path.{◌≡◌, refl, sym, ◌∙◌, ap, subst}
use mathlib.Core.Bool.{Bool, true, false, not, ◌&&◌, cond, true≢false}
use mathlib.Core.Logic.{◌⊎◌, inl, inr}
use Prim.Native.Nat.{ℕ}
use native.Mathlib.Nat.{le_trans}
use borrow.Author.Tests.{eq-eqb, not-false}
use lib.Ieee.Bits.{is_true}
use lib.Dec.{T, eqb, eqb→eq, lit≤}
use lib.Ieee.{Float, binary64, is_nan, le}
use lib.Ieee.Fits.{and_l, and_r}
use lib.Ieee.Positive.{positive-finite}
use Rattle.rounding.specs.Doubles.{zero, one, eight, whole}
use Rattle.rounding.proofs.Order.{le_chain, le_number}
use Rattle.rounding.proofs.Numbers.{finite_between, mul_number}
use Rattle.rounding.proofs.Compare.{holds}
use Rattle.rounding.proofs.Ranges.{whole_positive}
use Rattle.answer.specs.Numbers.{done, out_of_range, not_run, bad_width}
use Rattle.answer.specs.declared.Answer.{Answer}
use Rattle.answer.proofs.Order.{passed}
use Rattle.capture.specs.Limit.{no_width}
use Rattle.capture.proofs.Limits.{Width, width_taken}
use Rattle.board.specs.declared.given.Figure.{Figure}
use Rattle.board.specs.Board.{ran, in_range, entry, smaller, per_symbol, first_of, refusal_of, refusal, refused_figure, all_in_range, all_ran, figure_number, smallest, figure_of}
use Rattle.given_figure.proofs.Smaller.{smaller_below, smaller_has}

-- ---- the tests, each passed
first_none : (a b : ℕ) → first_of a b ≡ 0 → b ≡ 0
first_none a b h = go (eqb a 0) refl h
  where
    go : (t : Bool) → eqb a 0 ≡ t → cond t b a ≡ 0 → b ≡ 0
    go true e h = h
    go false e h = absurd (true≢false (sym (eq-eqb a 0 h) ∙ e))

parted : (a b c d : Bool) → T (a && (b && (c && d))) → T a × T b × T c × T d
parted true true true true t = (tt, tt, tt, tt)
parted false b c d t = elim t [ ]
parted true false c d t = elim t [ ]
parted true true false d t = elim t [ ]
parted true true true false t = elim t [ ]

-- an estimate that ran is not refused
unrefused : (a : Answer) → T (ran a) → refusal_of a.number ≡ 0
unfolding ran refusal_of
unrefused a t = rw (eqb→eq a.number done t)

-- an estimate that ran, with an entropy from 0 to `top`
record Ran (a : Answer) (top : Float) : Type 0 where
  number : a.number ≡ done
  from : T (le zero a.estimate.min_entropy)
  to : T (le a.estimate.min_entropy top)

ran_in_range : (a : Answer) (top : Float) → T (ran a) → T (in_range a top) → Ran a top
unfolding ran in_range
ran_in_range a top r t =
    let e = a.estimate.min_entropy in
    let both : T (le zero e && le e top) = subst (λ (b : Bool). T (cond b (le zero e && le e top) true)) (is_true (ran a) r) t in
    record { number = eqb→eq a.number done r; from = and_l (le zero e) (le e top) both; to = and_r (le zero e) (le e top) both }

-- a literal figure, and a bit's times a width, are numbers
literal_number_lem : (a : Answer) (top : Float) → Ran a top → T (not (is_nan a.estimate.min_entropy))
literal_number_lem a top r = le_number zero a.estimate.min_entropy r.from

bits_number_lem : (a : Answer) (w : ℕ) → Width w → Ran a one → T (not (is_nan (per_symbol a w)))
unfolding per_symbol
bits_number_lem a w W r =
    let e = a.estimate.min_entropy in
    mul_number binary64 e (whole w) (finite_between zero e one tt tt r.from r.to)
    (positive-finite (whole w) (whole_positive binary64 w (le_trans W.narrow (lit≤ tt)) W.some))

module _ (mcw_bits mcw_literal mmc_bits mmc_literal : Answer) (width : ℕ) where
  -- the four figures, in order
  abbrev first : Figure
  first = entry 1 (per_symbol mcw_bits width)

  abbrev second : Figure
  second = entry 2 mcw_literal.estimate.min_entropy

  abbrev third : Figure
  third = entry 3 (per_symbol mmc_bits width)

  abbrev fourth : Figure
  fourth = entry 4 mmc_literal.estimate.min_entropy

  abbrev figure : Figure
  figure = figure_of mcw_bits mcw_literal mmc_bits mmc_literal width

  abbrev number : ℕ
  number = figure_number mcw_bits mcw_literal mmc_bits mmc_literal width

  abbrev fair : Bool
  fair = all_in_range mcw_bits mcw_literal mmc_bits mmc_literal

  abbrev all : Bool
  all = all_ran mcw_bits mcw_literal mmc_bits mmc_literal

  smallest_has : (P : Figure → Type 0) → P first → P second → P third → P fourth → P (smallest mcw_bits mcw_literal mmc_bits mmc_literal width)
  unfolding smallest
  smallest_has P p q r s =
      smaller_has P (smaller (smaller first second) third) fourth (smaller_has P (smaller first second) third (smaller_has P first second p q) r) s

  -- the figure's number is the one that the tests give
  figure_number_lem : figure.number ≡ number
  unfolding figure_of
  figure_number_lem = go (eqb number done) refl
    where
      go : (t : Bool) → eqb number done ≡ t → (cond t (smallest mcw_bits mcw_literal mmc_bits mmc_literal width) (refused_figure number)).number ≡ number
      go true e = smallest_has (λ (f : Figure). f.number ≡ done) refl refl refl refl ∙ sym (eqb→eq number done (holds (eqb number done) e))
      go false e = refl

  -- a figure is given where the width is one and all four ran, with their entropies in range
  pub figure_given : no_width width ≡ false → fair ≡ true → all ≡ true → figure.number ≡ done
  unfolding figure_number refusal all_ran
  figure_given w f c =
      let r = parted (ran mcw_bits) (ran mcw_literal) (ran mmc_bits) (ran mmc_literal) (holds all c) in
      figure_number_lem
      ∙ simp (w, unrefused mcw_bits r.0, unrefused mcw_literal r.1, unrefused mmc_bits r.2, unrefused mmc_literal r.3, f, c)

  -- ---- and then
  record Complete : Type 0 where
    taken : Width width
    mcw_bits_lem : Ran mcw_bits one
    mcw_literal_lem : Ran mcw_literal eight
    mmc_bits_lem : Ran mmc_bits one
    mmc_literal_lem : Ran mmc_literal eight

  complete : number ≡ done → Complete
  unfolding figure_number all_in_range all_ran
  complete n =
      let w = passed (no_width width) bad_width _ tt n in
      let f = passed (not fair) out_of_range _ tt (first_none (refusal mcw_bits mcw_literal mmc_bits mmc_literal) _ w.1) in
      let c = passed (not all) not_run done tt f.1 in
      let r = parted (ran mcw_bits) (ran mcw_literal) (ran mmc_bits) (ran mmc_literal) (holds all (not-false all c.0)) in
      let t = parted (in_range mcw_bits one) (in_range mcw_literal eight) (in_range mmc_bits one) (in_range mmc_literal eight) (holds fair (not-false fair f.0)) in
      record {
        taken = width_taken width w.0;
        mcw_bits_lem = ran_in_range mcw_bits one r.0 t.0;
        mcw_literal_lem = ran_in_range mcw_literal eight r.1 t.1;
        mmc_bits_lem = ran_in_range mmc_bits one r.2 t.2;
        mmc_literal_lem = ran_in_range mmc_literal eight r.3 t.3;
      }

  module _ (given : figure.number ≡ done) where
    none_missing : Complete
    none_missing = complete (sym figure_number_lem ∙ given)

    is_smallest : figure ≡ smallest mcw_bits mcw_literal mmc_bits mmc_literal width
    unfolding figure_of
    is_smallest =
        ap (λ (n : ℕ). cond (eqb n done) (smallest mcw_bits mcw_literal mmc_bits mmc_literal width) (refused_figure n)) (sym figure_number_lem ∙ given)

    -- where a figure is given all four ran
    pub figure_ran : (mcw_bits.number ≡ done) × (mcw_literal.number ≡ done) × (mmc_bits.number ≡ done) × (mmc_literal.number ≡ done)
    figure_ran =
        let c = none_missing in
        (c.mcw_bits_lem.number, c.mcw_literal_lem.number, c.mmc_bits_lem.number, c.mmc_literal_lem.number)

    -- it is the figure of one of them
    pub figure_of_one : (figure ≡ first) ⊎ (figure ≡ second) ⊎ (figure ≡ third) ⊎ (figure ≡ fourth)
    figure_of_one =
        subst (λ (f : Figure). (f ≡ first) ⊎ (f ≡ second) ⊎ (f ≡ third) ⊎ (f ≡ fourth)) (sym is_smallest)
        (smallest_has (λ (f : Figure). (f ≡ first) ⊎ (f ≡ second) ⊎ (f ≡ third) ⊎ (f ≡ fourth))
        (inl refl) (inr (inl refl)) (inr (inr (inl refl))) (inr (inr (inr refl))))

    -- and it is above none of them
    pub figure_never_above : T (le figure.value (per_symbol mcw_bits width)) × T (le figure.value mcw_literal.estimate.min_entropy)
        × T (le figure.value (per_symbol mmc_bits width)) × T (le figure.value mmc_literal.estimate.min_entropy)
    unfolding smallest
    figure_never_above =
        let c = none_missing in
        let n1 = bits_number_lem mcw_bits width c.taken c.mcw_bits_lem in
        let n2 = literal_number_lem mcw_literal eight c.mcw_literal_lem in
        let n3 = bits_number_lem mmc_bits width c.taken c.mmc_bits_lem in
        let n4 = literal_number_lem mmc_literal eight c.mmc_literal_lem in
        let two = smaller first second in
        let three = smaller two third in
        let four = smaller three fourth in
        let two_is = smaller_has (λ (f : Figure). T (not (is_nan f.value))) first second n1 n2 in
        let three-is = smaller_has (λ (f : Figure). T (not (is_nan f.value))) two third two_is n3 in
        let of_two = smaller_below first second n1 n2 in
        let of_three = smaller_below two third two_is n3 in
        let of_four = smaller_below three fourth three-is n4 in
        let under-two = le_chain four.value three.value two.value of_four.0 of_three.0 in
        rw is_smallest (
          le_chain four.value two.value first.value under-two of_two.0,
          le_chain four.value two.value second.value under-two of_two.1,
          le_chain four.value three.value third.value of_four.0 of_three.1,
          of_four.1,
        )
