use Rattle.std.proofs.Common.{arith}
use Rattle.txn_records.proofs.PlaceLists.{words_read, words_fit}
use Rattle.txn_records.proofs.places.decode.Goals as goal

pub returns-clause-words : goal.returns-clause-words
returns-clause-words c =
    words_read c.args.words.now c.read_u64_into.new.dst (omega (arith, c.requires, c.read_u64_into.auto.dst)) (λ i. (c.type_inv.words i).fits) c.read_u64_into.ensures

pub returns-clause-fit : goal.returns-clause-fit
returns-clause-fit c = words_fit c.args.words.now c.read_u64_into.new.dst (λ i. (c.type_inv.words i).fits) c.read_u64_into.ensures
