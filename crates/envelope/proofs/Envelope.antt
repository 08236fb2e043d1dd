-- Records over any kind and any fields: the numbers of a record that was written are read again, and a record that was read is written again byte for byte.
-- By induction on the fields, each by the laws of Little. Assumes nothing.
use mathlib.Core.Path.{◌≡◌, refl, sym, ap, ◌∙◌}
use mathlib.Core.Bool.{Bool, true, false, ◌&&◌, and-eq-true_iff}
use mathlib.Core.List.{List, [], ◌∷◌, ◌++◌, append_assoc, map}
use Prim.Native.Nat.{ℕ, zero, suc, ◌+◌, ◌^◌, ◌≤◌, ◌<◌}
use native.Mathlib.Omega.{arith}
use borrow.Author.Tests.{eq-eqb, eqb-true, le-leb, lt-leb, leb-true}
use lib.Dec.{leb, eqb}
use lib.ListN.{length, get_or, take, drop, length-append}
use lib.Seq.{take-add, drop-drop}
use Rattle.envelope.specs.Little.{little, number_at, Bytes}
use Rattle.envelope.specs.Envelope.{Field, body_of, body_size, body_start, following, framed, kind_bytes, length_bytes, record_of, record_size, values_at}
use Rattle.envelope.proofs.Little.{little_length, little_number, number_below, number_little, number_start}

-- the numbers that x has in the fields
unfoldable pub numbers_of : {X : Type 0} → List (Field X) → X → List ℕ
numbers_of [] x = []
numbers_of (f ∷ fs) x = f.of x ∷ numbers_of fs x

-- each number has room in its field
unfoldable pub Room : {X : Type 0} → List (Field X) → List ℕ → Type 0
Room [] values = Unit
Room (f ∷ fs) values = (get_or values 0 0 < 256 ^ f.width) × Room fs (drop 1 values)

-- and so has each number of x
abbrev pub Fits : {X : Type 0} → List (Field X) → X → Type 0
Fits fs x = Room fs (numbers_of fs x)

module _ {X : Type 0} where
  pub fits_append : (fs gs : List (Field X)) (x : X) → Fits fs x → Fits gs x → Fits (fs ++ gs) x
  unfolding Room numbers_of
  fits_append [] gs x p q = q
  fits_append (f ∷ fs) gs x p q = (p.0, fits_append fs gs x p.1 q)

  -- the room of one number, by its place in the list
  pub room_at : (fs : List (Field X)) (values : List ℕ) → Room fs values → (i : ℕ) → i < length fs →
      get_or values i 0 < 256 ^ get_or (map (λ f. f.width) fs) i 0
  unfolding Room
  room_at [] values r i h = absurd (omega arith)
  room_at (f ∷ fs) values r zero h = r.0
  room_at (f ∷ fs) [] r (suc i) h = room_at fs [] r.1 i (omega arith)
  room_at (f ∷ fs) (v ∷ values) r (suc i) h = room_at fs values r.1 i (omega arith)

  pub body_length : (fs : List (Field X)) (x : X) → length (body_of fs x) ≡ body_size fs
  unfolding body_of body_size
  body_length [] x = refl
  body_length (f ∷ fs) x =
      let w = little_length f.width (f.of x) in
      let s = body_length fs x in
      omega (arith, length-append (little f.width (f.of x)) (body_of fs x), w, s)

  pub record_length : (kind : ℕ) (fs : List (Field X)) (x : X) → length (record_of kind fs x) ≡ record_size fs
  unfolding record_of
  record_length kind fs x =
      omega (
        arith,
        length-append (little length_bytes (following fs)) (little kind_bytes kind ++ body_of fs x),
        length-append (little kind_bytes kind) (body_of fs x),
        little_length length_bytes (following fs),
        little_length kind_bytes kind,
        body_length fs x,
      )

  -- ---- the numbers of a body that was written
  pub values_body : (fs : List (Field X)) (x : X) (pre post : List ℕ) → Fits fs x →
      values_at fs (length pre) (pre ++ (body_of fs x ++ post)) ≡ numbers_of fs x
  unfolding values_at body_of numbers_of Room
  values_body [] x pre post h = refl
  values_body (f ∷ fs) x pre post h =
      let w = f.width in
      let n = f.of x in
      let rest = body_of fs x ++ post in
      let bytes = pre ++ ((little w n ++ body_of fs x) ++ post) in
      let split : bytes ≡ pre ++ (little w n ++ rest) = ap (λ (l : List ℕ). pre ++ l) (append_assoc (little w n) (body_of fs x) post) in
      let joined : bytes ≡ (pre ++ little w n) ++ rest = split ∙ sym (append_assoc pre (little w n) rest) in
      let e : length pre + w ≡ length (pre ++ little w n) = omega (arith, length-append pre (little w n), little_length w n) in
      ap (λ (l : List ℕ). number_at l (length pre) w ∷ values_at fs (length pre + w) bytes) split
      ∙ ap (λ (k : ℕ). k ∷ values_at fs (length pre + w) bytes) (number_little pre w n rest h.0)
      ∙ ap (λ (k : ℕ). n ∷ values_at fs k bytes) e
      ∙ ap (λ (l : List ℕ). n ∷ values_at fs (length (pre ++ little w n)) l) joined
      ∙ ap {B = List ℕ} (λ l. n ∷ l) (values_body fs x (pre ++ little w n) post h.1)

  -- ---- the bytes of a body that was read
  pub body_values : (fs : List (Field X)) (x : X) (at : ℕ) (bytes : List ℕ) → numbers_of fs x ≡ values_at fs at bytes → Bytes bytes →
      at + body_size fs ≤ length bytes → body_of fs x ≡ take (body_size fs) (drop at bytes)
  unfolding numbers_of values_at body_of body_size
  body_values [] x at bytes e b h = refl
  body_values (f ∷ fs) x at bytes e b h =
      let w = f.width in
      let first : f.of x ≡ number_at bytes at w = ap (λ (l : List ℕ). get_or l 0 0) e in
      let others : numbers_of fs x ≡ values_at fs (at + w) bytes = ap (λ (l : List ℕ). drop 1 l) e in
      let here : little w (f.of x) ≡ take w (drop at bytes) = ap (little w) first ∙ little_number bytes b at w (omega arith) in
      let rest = body_values fs x (at + w) bytes others b (omega arith) ∙ ap (take (body_size fs)) (sym (drop-drop w at bytes)) in
      ap (λ (l : List ℕ). l ++ body_of fs x) here
      ∙ ap (λ (l : List ℕ). take w (drop at bytes) ++ l) rest
      ∙ sym (take-add w (body_size fs) (drop at bytes))

  pub values_room : (fs : List (Field X)) (at : ℕ) (bytes : List ℕ) → Bytes bytes → at + body_size fs ≤ length bytes → Room fs (values_at fs at bytes)
  unfolding Room values_at body_size
  values_room [] at bytes b h = tt
  values_room (f ∷ fs) at bytes b h = (number_below bytes b at f.width (omega arith), values_room fs (at + f.width) bytes b (omega arith))

  pub values_start : (fs : List (Field X)) (at : ℕ) (xs ys : List ℕ) → at + body_size fs ≤ length xs → values_at fs at (xs ++ ys) ≡ values_at fs at xs
  unfolding values_at body_size
  values_start [] at xs ys h = refl
  values_start (f ∷ fs) at xs ys h =
      let w = f.width in
      ap (λ (k : ℕ). k ∷ values_at fs (at + w) (xs ++ ys)) (number_start xs ys at w (omega arith))
      ∙ ap {B = List ℕ} (λ l. number_at xs at w ∷ l) (values_start fs (at + w) xs ys (omega arith))

-- ---- the frame
three : {a b c : Bool} → a ≡ true → b ≡ true → c ≡ true → (a && (b && c)) ≡ true
three p q r = cc (p, q, r)

-- a whole record stands there: its length field and its kind are read as what they are to be
pub record Framed (kind behind : ℕ) (bytes : List ℕ) : Type 0 where
  pub whole : length_bytes + behind ≤ length bytes
  pub long : number_at bytes 0 length_bytes ≡ behind
  pub named : number_at bytes length_bytes kind_bytes ≡ kind

pub framed_is : (kind behind : ℕ) (bytes : List ℕ) → framed kind behind bytes ≡ true → Framed kind behind bytes
unfolding framed
framed_is kind behind bytes h =
    let o = (and-eq-true_iff (leb (length_bytes + behind) (length bytes)) _).0 h in
    let i = (and-eq-true_iff (eqb (number_at bytes 0 length_bytes) behind) _).0 o.1 in
    record { whole = leb-true _ _ o.0; long = eqb-true _ _ i.0; named = eqb-true _ _ i.1 }

pub is_framed : (kind behind : ℕ) (bytes : List ℕ) → Framed kind behind bytes → framed kind behind bytes ≡ true
unfolding framed
is_framed kind behind bytes f = three (le-leb _ _ f.whole) (eq-eqb _ _ f.long) (eq-eqb _ _ f.named)

pub framed_long : (kind behind : ℕ) (bytes : List ℕ) → framed kind behind bytes ≡ true → length_bytes + behind ≤ length bytes
framed_long kind behind bytes h = (framed_is kind behind bytes h).whole

-- past the end of the input there is none
pub framed_short : (kind behind : ℕ) (bytes : List ℕ) → length bytes < length_bytes + behind → framed kind behind bytes ≡ false
unfolding framed
framed_short kind behind bytes h = simp (lt-leb _ _ h)

-- ---- a record that was written, whatever follows it
head_length : (kind behind : ℕ) → length (little length_bytes behind ++ little kind_bytes kind) ≡ body_start
head_length kind behind =
    omega (arith, length-append (little length_bytes behind) (little kind_bytes kind), little_length length_bytes behind, little_length kind_bytes kind)

module _ {X : Type 0} (kind : ℕ) (fs : List (Field X)) where
  parts : (x : X) (post : List ℕ) → record_of kind fs x ++ post ≡ little length_bytes (following fs) ++ (little kind_bytes kind ++ (body_of fs x ++ post))
  unfolding record_of
  parts x post = simp append_assoc

  pub record_framed : (x : X) (post : List ℕ) → kind < 256 ^ kind_bytes → following fs < 256 ^ length_bytes →
      framed kind (following fs) (record_of kind fs x ++ post) ≡ true
  record_framed x post k l =
      let behind = little kind_bytes kind ++ (body_of fs x ++ post) in
      let size = little length_bytes (following fs) in
      is_framed kind (following fs) (record_of kind fs x ++ post) (record {
        whole = omega (arith, length-append (record_of kind fs x) post, record_length kind fs x);
        long = ap (λ (b : List ℕ). number_at b 0 length_bytes) (parts x post) ∙ number_little [] length_bytes (following fs) behind l;
        named =
            ap (λ (b : List ℕ). number_at b length_bytes kind_bytes) (parts x post)
            ∙ ap (λ (at : ℕ). number_at (size ++ behind) at kind_bytes) (sym (little_length length_bytes (following fs)))
            ∙ number_little size kind_bytes kind (body_of fs x ++ post) k;
      })

  pub record_values : (x : X) (post : List ℕ) → Fits fs x → values_at fs body_start (record_of kind fs x ++ post) ≡ numbers_of fs x
  record_values x post h =
      let head = little length_bytes (following fs) ++ little kind_bytes kind in
      let joined = parts x post ∙ sym (append_assoc (little length_bytes (following fs)) (little kind_bytes kind) (body_of fs x ++ post)) in
      ap (λ (b : List ℕ). values_at fs body_start b) joined
      ∙ ap (λ (at : ℕ). values_at fs at (head ++ (body_of fs x ++ post))) (sym (head_length kind (following fs)))
      ∙ values_body fs x head post h

  -- ---- a record that was read
  pub record-again : (x : X) (bytes : List ℕ) → framed kind (following fs) bytes ≡ true → Bytes bytes → numbers_of fs x ≡ values_at fs body_start bytes →
      record_of kind fs x ≡ take (record_size fs) bytes
  unfolding record_of
  record-again x bytes h b e =
      let f = framed_is kind (following fs) bytes h in
      let fits = f.whole in
      let size : little length_bytes (following fs) ≡ take length_bytes bytes =
      ap (little length_bytes) (sym f.long) ∙ little_number bytes b 0 length_bytes (omega arith) in
      let name : little kind_bytes kind ≡ take kind_bytes (drop length_bytes bytes) =
      ap (little kind_bytes) (sym f.named) ∙ little_number bytes b length_bytes kind_bytes (omega arith) in
      let body : body_of fs x ≡ take (body_size fs) (drop kind_bytes (drop length_bytes bytes)) =
      body_values fs x body_start bytes e b (omega arith) ∙ ap (take (body_size fs)) (sym (drop-drop kind_bytes length_bytes bytes)) in
      cc (size, name, body, take-add length_bytes (following fs) bytes, take-add kind_bytes (body_size fs) (drop length_bytes bytes))

  -- ---- what follows a record is not looked at
  pub framed_start : (xs ys : List ℕ) → record_size fs ≤ length xs → framed kind (following fs) (xs ++ ys) ≡ framed kind (following fs) xs
  unfolding framed
  framed_start xs ys h =
      let size = following fs in
      let longer : length_bytes + size ≤ length (xs ++ ys) = omega (arith, length-append xs ys) in
      cc (
        le-leb (length_bytes + size) (length (xs ++ ys)) longer,
        le-leb (length_bytes + size) (length xs) h,
        number_start xs ys 0 length_bytes (omega arith),
        number_start xs ys length_bytes kind_bytes (omega arith),
      )
