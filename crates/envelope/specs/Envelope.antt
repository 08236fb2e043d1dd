-- "Layout: a 4-byte length of what follows it, a 2-byte kind, all little-endian", then the body, field by field. Over any kind and any fields.
-- Definitions only.
use Rattle.std.specs.Prelude.{ℕ, ◌+◌, Bool, ◌&&◌, List, [], ◌∷◌, ◌++◌, leb, eqb, length, drop}
use Rattle.envelope.specs.Little.{little, number_at}

abbrev pub length_bytes : ℕ
length_bytes = 4

abbrev pub kind_bytes : ℕ
kind_bytes = 2

-- where the body starts
abbrev pub body_start : ℕ
body_start = length_bytes + kind_bytes

-- a field of what a record holds: how many bytes it takes, and the number that X has in it
pub record Field (X : Type 0) : Type 0 where
  pub width : ℕ
  pub of : X → ℕ

-- how many bytes the fields take
unfoldable pub body_size : {X : Type 0} → List (Field X) → ℕ
body_size [] = 0
body_size (f ∷ fs) = f.width + body_size fs

unfoldable pub body_of : {X : Type 0} → List (Field X) → X → List ℕ
body_of [] x = []
body_of (f ∷ fs) x = little f.width (f.of x) ++ body_of fs x

-- "a 4-byte length of what follows it": of the kind and the body
abbrev pub following : {X : Type 0} → List (Field X) → ℕ
following fs = kind_bytes + body_size fs

-- how many bytes a whole record takes
abbrev pub record_size : {X : Type 0} → List (Field X) → ℕ
record_size fs = length_bytes + following fs

unfoldable pub record_of : {X : Type 0} → ℕ → List (Field X) → X → List ℕ
record_of kind fs x = little length_bytes (following fs) ++ (little kind_bytes kind ++ body_of fs x)

-- the record at the start of a slice, and the rest as it was
abbrev pub put_at_start : List ℕ → List ℕ → List ℕ
put_at_start bytes out = bytes ++ drop (length bytes) out

-- the numbers in the fields of a body that starts at a place
unfoldable pub values_at : {X : Type 0} → List (Field X) → ℕ → List ℕ → List ℕ
values_at [] at bytes = []
values_at (f ∷ fs) at bytes = number_at bytes at f.width ∷ values_at fs (at + f.width) bytes

-- whether a whole record of this kind stands at the start, with so many bytes behind its length field: no "wrong length, kind or end of input"
unfoldable pub framed : ℕ → ℕ → List ℕ → Bool
framed kind behind bytes =
    leb (length_bytes + behind) (length bytes) && (eqb (number_at bytes 0 length_bytes) behind && eqb (number_at bytes length_bytes kind_bytes) kind)
