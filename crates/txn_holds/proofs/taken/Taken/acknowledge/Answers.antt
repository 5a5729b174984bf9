use Rattle.std.proofs.Common.{◌∙◌, ap, None, Some, if◌then◌else◌}
use Rattle.std.specs.Ordering.{nat_cmp}
use Rattle.std.specs.BTreeMap.{get}
use Rattle.txn_holds.specs.Spans.{set_each}
use Rattle.txn_holds.specs.Taken.{how_taken}
use Rattle.txn_holds.specs.Spans.{span_taken, taken_in}
use Rattle.txn_holds.proofs.Marks.{free_place, none_begins, held_some, put_apart, put_spanned, put_past, put_marks, ack_past, ack_marks, free_out, set_twice, same_is_taken, same_marks}
use Rattle.txn_holds.proofs.taken.Taken.acknowledge.Goals as goal

pub put_all-requires-clause-absent : goal.put_all-requires-clause-absent
put_all-requires-clause-absent c = λ q h. none_begins (get nat_cmp c.self.inside.spans) q c.self.invariant.spans
    (free_place c.self.inside.front (get nat_cmp c.self.inside.spans) q (ap (λ v. how_taken v q) c.self.view_is ∙ c.requires.free q h))

pub invariant_of-self : goal.invariant_of-self
invariant_of-self c = same_is_taken c.self.inside.front (get nat_cmp c.self.inside.spans) (get nat_cmp c.put_all.new.spans) c.in-Err.ensures.err c.self.invariant

pub returns-in-Err-clause-err : goal.returns-in-Err-clause-err
returns-in-Err-clause-err c = λ q. same_marks c.self.inside.front (get nat_cmp c.self.inside.spans) (get nat_cmp c.put_all.new.spans) c.in-Err.ensures.err q ∙ ap (λ v. how_taken v q) c.self.view_is

pub ack_all-requires-clause-spans : goal.ack_all-requires-clause-spans
ack_all-requires-clause-spans c = put_apart c.self.inside.front (get nat_cmp c.self.inside.spans) (get nat_cmp c.put_all.new.spans) c.args.places.now None c.self.invariant
    (λ q h. ap (λ v. how_taken v q) c.self.view_is ∙ c.requires.free q h) c.in_default.ensures.ok

pub ack_all-requires-clause-there : goal.ack_all-requires-clause-there
ack_all-requires-clause-there c = λ q h. held_some _ None
    (put_spanned c.self.inside.front (get nat_cmp c.self.inside.spans) (get nat_cmp c.put_all.new.spans) c.args.places.now None c.self.invariant
    (λ q h. ap (λ v. how_taken v q) c.self.view_is ∙ c.requires.free q h) c.in_default.ensures.ok q
    ∙ ap (λ b. if b then Some None else span_taken (get nat_cmp c.self.inside.spans) q) h)

pub go_on-requires-clause-past : goal.go_on-requires-clause-past
go_on-requires-clause-past c =
    ack_past c.self.inside.front (get nat_cmp c.put_all.new.spans) (get nat_cmp c.ack_all.new.spans) c.args.places.now
    (put_past c.self.inside.front (get nat_cmp c.self.inside.spans) (get nat_cmp c.put_all.new.spans) c.args.places.now None c.self.invariant (λ q h. ap (λ v. how_taken v q) c.self.view_is ∙ c.requires.free q h) c.in_default.ensures.ok)
    (λ q h. free_out c.self.inside.front (get nat_cmp c.self.inside.spans) q (ap (λ v. how_taken v q) c.self.view_is ∙ c.requires.free q h)) c.ack_all.ensures.taken

pub returns-clause-ok : goal.returns-clause-ok
returns-clause-ok c =
    let front = c.self.inside.front in let f = get nat_cmp c.self.inside.spans in let n = get nat_cmp c.put_all.new.spans in let m = get nat_cmp c.ack_all.new.spans in
    λ q. c.go_on.ensures.taken q
    ∙ set_twice (taken_in front f) (taken_in front n) (taken_in front m) c.args.places.now (Some None)
    (put_marks front f n c.args.places.now None c.self.invariant (λ q h. ap (λ v. how_taken v q) c.self.view_is ∙ c.requires.free q h) c.in_default.ensures.ok)
    (ack_marks front n m c.args.places.now
    (put_past front f n c.args.places.now None c.self.invariant (λ q h. ap (λ v. how_taken v q) c.self.view_is ∙ c.requires.free q h) c.in_default.ensures.ok)
    (λ q h. free_out front f q (ap (λ v. how_taken v q) c.self.view_is ∙ c.requires.free q h)) c.ack_all.ensures.taken) q
    ∙ ap (λ v. set_each (how_taken v) c.args.places.now (Some None) q) c.self.view_is
