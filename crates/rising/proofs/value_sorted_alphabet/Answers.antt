-- `rising::value_sorted_alphabet` meets its contract. Assumes nothing.
use mathlib.Core.Path.{refl}
use lib.ListN.{length, length-map}
use lib.Seq.{length-take-le}
use Rattle.alphabet.specs.Alphabet.{rising, sorted}
use Rattle.alphabet.proofs.Translating.{alphabet_done, alphabet_room}
use Rattle.rising.proofs.value_sorted_alphabet.Goals as goal

pub number_by_value-requires : goal.number_by_value-requires
number_by_value-requires c =
    length-take-le (length c.args.symbols.now) c.args.out.now (alphabet_room c.args.symbols.now c.args.out.now c.in_ok-refusal.ensures).1

pub returns : goal.returns
returns c =
    let s = c.args.symbols.now in
    alphabet_done sorted s c.args.out.now c.in_ok-refusal.ensures c.number_by_value.ensures.0
    (rw (c.number_by_value.ensures.1, length-map s (rising s)) refl)
