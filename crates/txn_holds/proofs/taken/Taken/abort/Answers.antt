use Rattle.std.proofs.Common.{◌∙◌, ap, None}
use Rattle.std.specs.Ordering.{nat_cmp}
use Rattle.std.specs.BTreeMap.{get}
use Rattle.txn_holds.specs.Spans.{set_each}
use Rattle.txn_holds.specs.Taken.{how_taken}
use Rattle.txn_holds.proofs.Marks.{gone_taken, gone_marks}
use Rattle.txn_holds.proofs.taken.Taken.abort.Goals as goal

pub invariant_of-self : goal.invariant_of-self
invariant_of-self c = gone_taken c.self.inside.front (get nat_cmp c.self.inside.spans) (get nat_cmp c.take_all.new.spans) c.args.places.now c.args.txn c.self.invariant
    (λ q h. ap (λ v. how_taken v q) c.self.view_is ∙ c.requires q h) c.take_all.ensures

pub returns : goal.returns
returns c = λ q. gone_marks c.self.inside.front (get nat_cmp c.self.inside.spans) (get nat_cmp c.take_all.new.spans) c.args.places.now c.args.txn c.self.invariant
    (λ q h. ap (λ v. how_taken v q) c.self.view_is ∙ c.requires q h) c.take_all.ensures q
    ∙ ap (λ v. set_each (how_taken v) c.args.places.now None q) c.self.view_is
