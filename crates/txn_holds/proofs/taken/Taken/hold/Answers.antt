use Rattle.std.proofs.Common.{◌∙◌, ap, Some}
use Rattle.std.specs.Ordering.{nat_cmp}
use Rattle.std.specs.BTreeMap.{get}
use Rattle.txn_holds.specs.Spans.{set_each}
use Rattle.txn_holds.specs.Taken.{how_taken}
use Rattle.txn_holds.proofs.Marks.{free_place, none_begins, same_is_taken, same_marks, put_apart, put_past, put_first, put_marks, held_other}
use Rattle.txn_holds.proofs.taken.Taken.hold.Goals as goal

pub put_all-requires-clause-absent : goal.put_all-requires-clause-absent
put_all-requires-clause-absent c = λ q h. none_begins (get nat_cmp c.self.inside.spans) q c.self.invariant.spans
    (free_place c.self.inside.front (get nat_cmp c.self.inside.spans) q (ap (λ v. how_taken v q) c.self.view_is ∙ c.requires.free q h))

pub invariant_of-self-2 : goal.invariant_of-self-2
invariant_of-self-2 c =
    let f = get nat_cmp c.self.inside.spans in let n = get nat_cmp c.put_all.new.spans in record {
      spans = put_apart c.self.inside.front f n c.args.places.now (Some c.args.txn) c.self.invariant (λ q h. ap (λ v. how_taken v q) c.self.view_is ∙ c.requires.free q h) c.in_default.ensures.ok;
      past = put_past c.self.inside.front f n c.args.places.now (Some c.args.txn) c.self.invariant (λ q h. ap (λ v. how_taken v q) c.self.view_is ∙ c.requires.free q h) c.in_default.ensures.ok;
      first = put_first c.self.inside.front f n c.args.places.now (Some c.args.txn) c.self.invariant (λ q h. ap (λ v. how_taken v q) c.self.view_is ∙ c.requires.free q h) c.in_default.ensures.ok (held_other c.args.txn);
    }

pub returns-clause-ok : goal.returns-clause-ok
returns-clause-ok c = λ q. put_marks c.self.inside.front (get nat_cmp c.self.inside.spans) (get nat_cmp c.put_all.new.spans) c.args.places.now (Some c.args.txn) c.self.invariant
    (λ q h. ap (λ v. how_taken v q) c.self.view_is ∙ c.requires.free q h) c.in_default.ensures.ok q
    ∙ ap (λ v. set_each (how_taken v) c.args.places.now (Some (Some c.args.txn)) q) c.self.view_is

pub invariant_of-self : goal.invariant_of-self
invariant_of-self c = same_is_taken c.self.inside.front (get nat_cmp c.self.inside.spans) (get nat_cmp c.put_all.new.spans) c.in-Err.ensures.err c.self.invariant

pub returns-in-Err-clause-err : goal.returns-in-Err-clause-err
returns-in-Err-clause-err c = λ q. same_marks c.self.inside.front (get nat_cmp c.self.inside.spans) (get nat_cmp c.put_all.new.spans) c.in-Err.ensures.err q ∙ ap (λ v. how_taken v q) c.self.view_is
