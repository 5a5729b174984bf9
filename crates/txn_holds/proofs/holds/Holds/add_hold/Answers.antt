use Rattle.std.proofs.Common.{ap, refl, rules, ◌≡◌, ◌+◌, length}
use Rattle.indexmap.specs.IndexMap.{get}
use Rattle.txn_holds.specs.Rows.{same_key, row_of}
use Rattle.txn_holds.specs.Taken.{how_taken}
use Rattle.txn_holds.specs.Holds.{HoldsView}
use Rattle.txn_holds.proofs.Steps.{hold_rises, hold_open, hold_step, same_step, put_back, just_put}
use Rattle.txn_holds.proofs.holds.Holds.add_hold.Goals as goal

pub hold-requires-clause-order : goal.hold-requires-clause-order
hold-requires-clause-order c = hold_rises c.args.entry.now c.args.txn c.args.places.now c.requires.kind c.requires.fits

pub hold-requires-clause-free : goal.hold-requires-clause-free
hold-requires-clause-free c = hold_open _ _ _ c.args.entry.now (how_taken c.self.inside.taken) (how_taken c.self.inside.taken) c.self.inside.up (row_of (get same_key c.self.inside.rows)) (row_of (get same_key c.self.inside.rows)) _ c.self.inside.held c.self.inside.held
    (ap (λ (v : HoldsView). v.entries) c.self.view_is) c.requires.fits c.requires.allowed refl c.self.invariant c.args.txn c.args.places.now c.requires.kind

pub invariant_of-self : goal.invariant_of-self
invariant_of-self c = same_step _ (how_taken c.self.inside.taken) (how_taken c.hold.new.self) c.self.inside.up (row_of (get same_key c.self.inside.rows)) (row_of (get same_key c.self.inside.rows)) _ c.self.inside.held c.in-Err.ensures.err (λ x. refl) c.self.invariant

pub abort-requires : goal.abort-requires
abort-requires c = just_put (how_taken c.self.inside.taken) (how_taken c.hold.new.self) c.args.places.now c.args.txn c.in_default-hold.ensures.ok

pub invariant_of-self-in-Err-add_places : goal.invariant_of-self-in-Err-add_places
invariant_of-self-in-Err-add_places c =
    same_step _ (how_taken c.self.inside.taken) (how_taken c.abort.new.self) c.self.inside.up (row_of (get same_key c.self.inside.rows)) (row_of (get same_key c.add_places.new.rows)) _ c.self.inside.held
    (put_back (how_taken c.self.inside.taken) (how_taken c.hold.new.self) (how_taken c.abort.new.self) c.args.places.now c.args.txn
    (hold_open _ _ _ c.args.entry.now (how_taken c.self.inside.taken) (how_taken c.self.inside.taken) c.self.inside.up (row_of (get same_key c.self.inside.rows)) (row_of (get same_key c.self.inside.rows)) _ c.self.inside.held c.self.inside.held (ap (λ (v : HoldsView). v.entries) c.self.view_is) c.requires.fits c.requires.allowed refl c.self.invariant c.args.txn c.args.places.now c.requires.kind)
    c.in_default-hold.ensures.ok c.abort.ensures)
    c.in-Err-add_places.ensures.err c.self.invariant

pub invariant_of-self-2 : goal.invariant_of-self-2
invariant_of-self-2 c =
    let count : c.in-Some.held ≡ c.self.inside.held + length c.args.places.now = search rules in
    hold_step _ _ _ c.args.entry.now (how_taken c.self.inside.taken) (how_taken c.hold.new.self) c.self.inside.up (row_of (get same_key c.self.inside.rows)) (row_of (get same_key c.add_places.new.rows)) _ c.self.inside.held c.in-Some.held
    (ap (λ (v : HoldsView). v.entries) c.self.view_is) c.requires.fits c.requires.allowed c.with_entry.ensures c.self.invariant c.args.txn c.args.places.now c.requires.kind c.in_default-hold.ensures.ok c.in_default-add_places.ensures.ok count
