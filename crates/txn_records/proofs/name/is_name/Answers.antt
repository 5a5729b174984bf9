use Rattle.std.proofs.Common.{arith, sym, ◌∙◌}
use Rattle.std.specs.Prelude.{None}
use Rattle.std.proofs.lemmas.Str.Pattern.{split_once_first}
use Rattle.txn_records.proofs.Catalog.{is_name-topic}
use Rattle.txn_records.proofs.name.is_name.Goals as goal

pub returns-in-None : goal.returns-in-None
returns-in-None c =
    c.is_topic_name-in-None.ensures ∙ sym (is_name-topic c.args.name.now (split_once_first 47 c.args.name.now None c.in-None.ensures.cases (omega arith)))
