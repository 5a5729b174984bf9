use Rattle.std.proofs.Common.{◌∙◌, ap, None, Some}
use Rattle.std.specs.Ordering.{nat_cmp}
use Rattle.std.specs.BTreeMap.{get}
use Rattle.txn_holds.specs.Spans.{set_each}
use Rattle.txn_holds.specs.Taken.{how_taken}
use Rattle.txn_holds.proofs.Marks.{held_place, held_some, spanned_out, ack_past, ack_marks}
use Rattle.txn_holds.proofs.taken.Taken.commit.Goals as goal

pub ack_all-requires-clause-there : goal.ack_all-requires-clause-there
ack_all-requires-clause-there c = λ q h. held_some _ (Some c.args.txn)
    (held_place c.self.inside.front (get nat_cmp c.self.inside.spans) q c.args.txn (ap (λ v. how_taken v q) c.self.view_is ∙ c.requires q h))

pub go_on-requires-clause-past : goal.go_on-requires-clause-past
go_on-requires-clause-past c = ack_past c.self.inside.front (get nat_cmp c.self.inside.spans) (get nat_cmp c.ack_all.new.spans) c.args.places.now c.self.invariant.past
    (λ q h. spanned_out c.self.inside.front (get nat_cmp c.self.inside.spans) q (Some c.args.txn) c.self.invariant.past
    (held_place c.self.inside.front (get nat_cmp c.self.inside.spans) q c.args.txn (ap (λ v. how_taken v q) c.self.view_is ∙ c.requires q h))) c.ack_all.ensures.taken

pub returns : goal.returns
returns c = λ q. c.go_on.ensures.taken q
    ∙ ack_marks c.self.inside.front (get nat_cmp c.self.inside.spans) (get nat_cmp c.ack_all.new.spans) c.args.places.now c.self.invariant.past
    (λ q h. spanned_out c.self.inside.front (get nat_cmp c.self.inside.spans) q (Some c.args.txn) c.self.invariant.past
    (held_place c.self.inside.front (get nat_cmp c.self.inside.spans) q c.args.txn (ap (λ v. how_taken v q) c.self.view_is ∙ c.requires q h))) c.ack_all.ensures.taken q
    ∙ ap (λ v. set_each (how_taken v) c.args.places.now (Some None) q) c.self.view_is
