-- Fields put one behind the other: what stands in the slice is the body of the fields put so far, since each starts where the one before it ends.
-- Assumes nothing.
use Prim.Native.Nat.{ℕ, ◌+◌, ◌≤◌}
use native.Mathlib.Nat.{zero-add}
use native.Mathlib.Omega.{arith}
use mathlib.Core.Path.{◌≡◌, refl, sym, ap, ◌∙◌}
use mathlib.Core.List.{List, [], ◌∷◌, ◌++◌, append_assoc, append-nil}
use lib.ListN.{length, length-append}
use lib.Seq.{sets}
use Rattle.storing.proofs.Storing.{at_start, sets_append}
use Rattle.envelope.specs.Little.{little}
use Rattle.envelope.specs.Envelope.{Field, body_of, body_size, body_start, following, kind_bytes, length_bytes, put_at_start, record_of, record_size}
use Rattle.envelope.proofs.Little.{little_length}
use Rattle.envelope.proofs.Envelope.{body_length, record_length}

behind_start : (l s t : List ℕ) → sets (sets l 0 s) (length s) t ≡ sets l 0 (s ++ t)
behind_start l s t = ap (λ (k : ℕ). sets (sets l 0 s) k t) (sym (zero-add (length s))) ∙ sets_append l 0 s t

module _ {X : Type 0} where
  head_length : (kind : ℕ) (fs : List (Field X)) → length (little length_bytes (following fs) ++ little kind_bytes kind) ≡ body_start
  head_length kind fs =
      omega (
        arith,
        length-append (little length_bytes (following fs)) (little kind_bytes kind),
        little_length length_bytes (following fs),
        little_length kind_bytes kind,
      )

  -- the body of these fields stands in `out` from a place on, and all else is as it was in l
  pub record Put (l : List ℕ) (at : ℕ) (fs : List (Field X)) (x : X) (out : List ℕ) : Type 0 where
    pub stored : out ≡ sets l at (body_of fs x)

  body_append : (fs gs : List (Field X)) (x : X) → body_of (fs ++ gs) x ≡ body_of fs x ++ body_of gs x
  unfolding body_of
  body_append [] gs x = refl
  body_append (f ∷ fs) gs x =
      let first = little f.width (f.of x) in
      ap (λ (t : List ℕ). first ++ t) (body_append fs gs x) ∙ sym (append_assoc first (body_of fs x) (body_of gs x))

  pub none_put : (l : List ℕ) (at : ℕ) (x : X) → Put l at [] x l
  unfolding body_of
  none_put l at x = record { stored = refl }

  -- more fields behind them
  pub and_put : {l : List ℕ} {at : ℕ} {fs : List (Field X)} {x : X} {o out : List ℕ} (gs : List (Field X)) → Put l at fs x o →
      Put o (at + body_size fs) gs x out → Put l at (fs ++ gs) x out
  and_put {l} {at} {fs} {x} {o} {out} gs p q =
      record {
        stored =
            q.stored
            ∙ ap (λ (t : List ℕ). sets t (at + body_size fs) (body_of gs x)) p.stored
            ∙ ap (λ (k : ℕ). sets (sets l at (body_of fs x)) (at + k) (body_of gs x)) (sym (body_length fs x))
            ∙ sets_append l at (body_of fs x) (body_of gs x)
            ∙ ap (sets l at) (sym (body_append fs gs x));
      }

  -- one field behind them
  pub then_put : {l : List ℕ} {at : ℕ} {fs : List (Field X)} {x : X} {o out : List ℕ} (f : Field X) → Put l at fs x o →
      out ≡ sets o (at + body_size fs) (little f.width (f.of x)) → Put l at (fs ++ (f ∷ [])) x out
  unfolding body_of
  then_put {l} {at} {fs} {x} {o} {out} f p e =
      and_put (f ∷ []) p (record { stored = e ∙ ap (sets o (at + body_size fs)) (sym (append-nil (little f.width (f.of x)))) })

  -- the head, and the body behind it: the whole record at the start
  pub record_put : (kind : ℕ) (fs : List (Field X)) (x : X) (l : List ℕ) {o out : List ℕ} → record_size fs ≤ length l →
      o ≡ sets l 0 (little length_bytes (following fs) ++ little kind_bytes kind) → out ≡ sets o body_start (body_of fs x) →
      out ≡ put_at_start (record_of kind fs x) l
  unfolding record_of
  record_put kind fs x l {o} {out} h p q =
      let long = little length_bytes (following fs) in
      let named = little kind_bytes kind in
      let head = long ++ named in
      let e : body_start ≡ length head = sym (head_length kind fs) in
      let whole : head ++ body_of fs x ≡ record_of kind fs x = append_assoc long named (body_of fs x) in
      let room : length (record_of kind fs x) ≤ length l = omega (arith, record_length kind fs x, h) in
      q
      ∙ ap (λ (t : List ℕ). sets t body_start (body_of fs x)) p
      ∙ ap (λ (k : ℕ). sets (sets l 0 head) k (body_of fs x)) e
      ∙ behind_start l head (body_of fs x)
      ∙ ap (sets l 0) whole
      ∙ at_start (record_of kind fs x) l room
