use Rattle.std.proofs.Common.{◌<◌, ap, ◌∙◌, length, refl, arith}
use Rattle.txn_model.specs.Topic.{limit_of}
use Rattle.txn_buffer.specs.Front.{FrontView}
use Rattle.txn_buffer.proofs.Tables.{first_is, none_first, limit_of_queue, no_true}
use Rattle.txn_buffer.proofs.front.Front.limit.Goals as goal

pub returns-in-Some : goal.returns-in-Some
returns-in-Some c =
    let some : 0 < length c.self.inside.pending.items = omega (arith, c.in-Some.ensures.variant.0 refl, c.self.inside.pending.ok.0) in
    limit_of_queue _ _ _ _ _ c.self.invariant (first_is c.self.inside.pending.items c.in-Some.field-0.now c.self.inside.count some c.in-Some.ensures.lookup)
    ∙ ap (λ (v : FrontView). limit_of v.entries) c.self.view_is

pub returns-in-None : goal.returns-in-None
returns-in-None c =
    let none : 0 < length c.self.inside.pending.items → ⊥ = λ h. no_true (c.in-None.ensures.variant.1 (omega (arith, h, c.self.inside.pending.ok.0))) in
    limit_of_queue _ _ _ _ _ c.self.invariant (none_first c.self.inside.pending.items c.self.inside.count none)
    ∙ ap (λ (v : FrontView). limit_of v.entries) c.self.view_is
