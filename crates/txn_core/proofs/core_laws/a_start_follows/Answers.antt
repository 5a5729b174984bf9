use Rattle.std.proofs.Common.{◌&&◌, ap, ◌∙◌}
use Rattle.txn_model.specs.Words.{all_follow}
use Rattle.txn_core.specs.Together.{core_allows}
use Rattle.txn_core.specs.Steps.{settled_of, flight_of}
use Rattle.txn_core.proofs.Alone.{alone_front, alone_split}
use Rattle.txn_core.proofs.core_laws.a_start_follows.Goals as goal

pub returns : goal.returns
returns c = λ n s p es k.
    alone_split n p (settled_of s p) es
    ∙ ap (λ b. b && all_follow (core_allows n p) (settled_of s p) es) (alone_front n p (settled_of s p) (flight_of s p) (k.stands.alone p))
