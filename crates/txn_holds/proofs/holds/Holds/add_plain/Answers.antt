use Rattle.std.proofs.Common.{ap, refl}
use Rattle.indexmap.specs.IndexMap.{get}
use Rattle.txn_holds.specs.Rows.{same_key, row_of}
use Rattle.txn_holds.specs.Taken.{how_taken}
use Rattle.txn_holds.specs.Holds.{HoldsView}
use Rattle.txn_holds.proofs.Steps.{plain_rises, plain_open, plain_step, same_step}
use Rattle.txn_holds.proofs.holds.Holds.add_plain.Goals as goal

pub acknowledge-requires-clause-order : goal.acknowledge-requires-clause-order
acknowledge-requires-clause-order c = plain_rises c.args.entry.now c.args.places.now c.requires.kind c.requires.fits

pub acknowledge-requires-clause-free : goal.acknowledge-requires-clause-free
acknowledge-requires-clause-free c = plain_open _ _ _ c.args.entry.now (how_taken c.self.inside.taken) (how_taken c.self.inside.taken) c.self.inside.up (row_of (get same_key c.self.inside.rows)) (row_of (get same_key c.self.inside.rows)) _ c.self.inside.held c.self.inside.held
    (ap (λ (v : HoldsView). v.entries) c.self.view_is) c.requires.fits c.requires.allowed refl c.self.invariant c.args.places.now c.requires.kind

pub invariant_of-self : goal.invariant_of-self
invariant_of-self c = same_step _ (how_taken c.self.inside.taken) (how_taken c.acknowledge.new.self) c.self.inside.up (row_of (get same_key c.self.inside.rows)) (row_of (get same_key c.self.inside.rows)) _ c.self.inside.held c.in-Err.ensures.err (λ x. refl) c.self.invariant

pub invariant_of-self-2 : goal.invariant_of-self-2
invariant_of-self-2 c = plain_step _ _ _ c.args.entry.now (how_taken c.self.inside.taken) (how_taken c.acknowledge.new.self) c.self.inside.up (row_of (get same_key c.self.inside.rows)) (row_of (get same_key c.self.inside.rows)) _ c.self.inside.held c.self.inside.held
    (ap (λ (v : HoldsView). v.entries) c.self.view_is) c.requires.fits c.requires.allowed c.with_entry.ensures c.self.invariant c.args.places.now c.requires.kind c.in_default.ensures.ok
