use Rattle.std.proofs.Common.{◌≡◌, ap, arith}
use Rattle.indexmap.specs.IndexMap.{spare}
use Rattle.txn_buffer.specs.Front.{FrontView}
use Rattle.txn_buffer.proofs.Tables.{marker_grown, allowed_in, at_ok}
use Rattle.txn_buffer.proofs.front.Front.add_marker.Goals as goal

pub invariant_of-self : goal.invariant_of-self
invariant_of-self c =
    let room : spare c.self.inside.decisions ≡ c.args.self.now.ends = ap (λ (v : FrontView). v.ends) c.self.view_is in
    marker_grown _ _ _ _ _ _ _ _ _ _ c.drop_decided.ensures.pending c.joined.ensures.entries c.self.invariant c.requires.kind
    (allowed_in _ _ _ c.self.view_is c.requires.allowed) c.joined.ensures.grammar
    (λ y. (at_ok c.insert.result _ (c.insert.ensures.succeeds (omega (arith, room, c.requires.ends))) c.insert.ensures.updates).0 (y.most, y.least))
