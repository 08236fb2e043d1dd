-- `envelope::number_at` meets its contract. The bytes are put over the lowest of eight zeros, and are the word's number there. Assumes nothing.
use native.Mathlib.Omega.{arith}
use mathlib.Core.Path.{◌≡◌, ◌∙◌}
use borrow.Rule.Slice.PartMut.{put_mid}
use Rattle.std.specs.Int.{w64, from_le_bytes}
use Rattle.envelope.proofs.Reading.{word_number, zeros_at}
use Rattle.envelope.proofs.number_at.Goals as goal

pub returns : goal.returns
returns c =
    let a = c.args in
    let word : c.from_le_bytes.result ≡ from_le_bytes w64 (put_mid 0 a.width _ c.copy_from_slice.new.self) = c.from_le_bytes.ensures in
    word ∙ word_number a.bytes.now _ _ a.at a.width _ (omega arith) (omega arith) (omega arith) c.copy_from_slice.ensures.after (zeros_at 8)
