use Rattle.std.proofs.Common.{ap}
use Rattle.indexmap.specs.IndexMap.{get}
use Rattle.txn_holds.specs.Rows.{same_key, row_of}
use Rattle.txn_holds.specs.Taken.{how_taken}
use Rattle.txn_holds.specs.Holds.{HoldsView}
use Rattle.txn_holds.proofs.Steps.{up_to_step}
use Rattle.txn_holds.proofs.holds.Holds.add_plain_up_to.Goals as goal

pub invariant_of-self : goal.invariant_of-self
invariant_of-self c = up_to_step _ _ _ c.args.entry.now (how_taken c.self.inside.taken) (how_taken c.acknowledge_up_to.new.self) c.self.inside.up (row_of (get same_key c.self.inside.rows)) (row_of (get same_key c.self.inside.rows)) _ c.self.inside.held c.self.inside.held
    (ap (λ (v : HoldsView). v.entries) c.self.view_is) c.requires.fits c.requires.allowed c.with_entry.ensures c.self.invariant c.args.place c.requires.kind c.acknowledge_up_to.ensures
