-- A start and samples could have left a state exactly where its fields are these: the cutoff of an entry, a count up to it, a byte as the last sample, and 0 there
-- while nothing was counted. Such a state is left by as many samples as its count, all equal to the last one. Assumes nothing.
use mathlib.Core.Path.{◌≡◌, refl, sym, ap, ◌∙◌, subst}
use Prim.Native.Nat.{ℕ, zero, suc, ◌<◌, ◌≤◌, min}
use native.Mathlib.Nat.{min-eq_left}
use native.Mathlib.Omega.{arith}
use mathlib.Core.Bool.{true}
use mathlib.Core.List.{List}
use lib.Ieee.{Float}
use Rattle.cutoff.specs.Cutoff.{Entry, cutoff_at, entry_of, in_range}
use Rattle.cutoff.proofs.Entries.{cutoff_above, entry_of_share, entry_range}
use Rattle.repetition.specs.declared.step.RepetitionTest.{RepetitionTest}
use Rattle.repetition.specs.History.{Possible, cutoff_for, last_sample, left, never, run, since}
use Rattle.repetition.specs.Inner.Started.{Started}
use Rattle.repetition.proofs.Runs.{last_byte, no_run, repeated, repeated_bytes, repeated_last, repeated_run}

pub record Fields (st : RepetitionTest) : Type 0 where
  pub entry : Entry st.cutoff
  pub within : st.count ≤ st.cutoff
  pub byte : st.last_sample < 256
  pub blank : st.count ≡ 0 → st.last_sample ≡ 0

-- ---- from the fields to a history
last_of : (n x : ℕ) → (n ≡ 0 → x ≡ 0) → x ≡ last_sample (repeated n x)
unfolding last_sample
last_of zero x h = h refl
last_of (suc n) x h = sym (repeated_last n x)

pub started_of : (st : RepetitionTest) → Fields st → Started st
started_of st f =
    let j = f.entry.j in
    let e = entry_of_share j f.entry.from f.entry.to in
    let s = repeated st.count st.last_sample in
    let cut : st.cutoff ≡ cutoff_for e.entropy = f.entry.is ∙ ap cutoff_at (sym e.is) in
    let counted : st.count ≡ min (run s) (cutoff_for e.entropy) =
    sym (min-eq_left f.within) ∙ ap (λ (n : ℕ). min n st.cutoff) (sym (repeated_run st.count st.last_sample)) ∙ ap (min (run s)) cut in
    record {
      entropy = e.entropy;
      samples = s;
      possible = (e.double, e.taken, repeated_bytes st.count st.last_sample f.byte);
      is = λ i. record { cutoff = cut i; last_sample = last_of st.count st.last_sample f.blank i; count = counted i };
    }

-- ---- and back
pub cutoff_pos : (h : Float) → in_range h ≡ true → 0 < cutoff_for h
cutoff_pos h taken = let r = entry_range h taken in omega (arith, cutoff_above (entry_of h) r.0 r.1)

none_counted : (n c : ℕ) → 0 < c → min n c ≡ 0 → n ≡ 0
none_counted n c p e = omega (arith, e)

pub fields_of_lem : (st : RepetitionTest) → Started st → Fields st
fields_of_lem st h =
    let r = entry_range h.entropy h.possible.1 in
    let cut = ap (λ (t : RepetitionTest). t.cutoff) h.is in
    let count = ap (λ (t : RepetitionTest). t.count) h.is in
    let last = ap (λ (t : RepetitionTest). t.last_sample) h.is in
    record {
      entry = record { j = entry_of h.entropy; from = r.0; to = r.1; is = cut };
      within = omega (arith, cut, count);
      byte = subst (λ (x : ℕ). x < 256) (sym last) (last_byte h.samples h.possible.2);
      blank = λ z. last ∙ no_run h.samples (none_counted (run h.samples) (cutoff_for h.entropy) (cutoff_pos h.entropy h.possible.1) (sym count ∙ z));
    }

-- no start and samples leave the state of a test that was never started
pub never_apart : (h : Float) (s : List ℕ) → Possible (since h s) → left never ≡ left (since h s) → ⊥
never_apart h s p e = omega (arith, ap (λ (t : RepetitionTest). t.cutoff) e, cutoff_pos h p.1)
