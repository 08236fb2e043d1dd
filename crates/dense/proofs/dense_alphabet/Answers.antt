-- `dense::dense_alphabet` meets its contract. Assumes nothing.
use Rattle.alphabet.specs.Alphabet.{dense}
use Rattle.alphabet.proofs.Translating.{alphabet_done, alphabet_room}
use Rattle.dense.proofs.dense_alphabet.Goals as goal

pub number_by_sight-requires : goal.number_by_sight-requires
number_by_sight-requires c = (alphabet_room c.args.symbols.now c.args.out.now c.in_ok-refusal.ensures).1

pub returns : goal.returns
returns c =
    alphabet_done dense c.args.symbols.now c.args.out.now c.in_ok-refusal.ensures c.number_by_sight.ensures.0 c.number_by_sight.ensures.1
