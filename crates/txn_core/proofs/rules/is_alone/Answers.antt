use Rattle.std.proofs.Common.{◌&&◌, sym, ap, ◌∙◌}
use Rattle.txn_model.specs.Words.{all_follow}
use Rattle.txn_model.specs.Coord.{coord_allows}
use Rattle.txn_core.proofs.Alone.{log_split, one_follows}
use Rattle.txn_core.proofs.rules.is_alone.Goals as goal

pub returns-then-is_log : goal.returns-then-is_log
returns-then-is_log c =
    c.coord_allows.ensures ∙ sym (one_follows 62 c.args.settled.now c.args.entries.now _ (c.requires.one c.if-part-eq0.true))
    ∙ sym (log_split 62 c.args.part c.args.settled.now c.args.entries.now c.if-part-eq0.true ∙ ap (λ b. b && all_follow (coord_allows 62) c.args.settled.now c.args.entries.now) (sym c.is_log.ensures ∙ c.if-is_log.true))
