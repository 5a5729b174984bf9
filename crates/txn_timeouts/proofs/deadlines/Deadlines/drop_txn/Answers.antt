use Rattle.std.proofs.Common.{◌≡◌, ℕ, List, sym, subst, remove, ap, arith}
use Rattle.std.proofs.lemmas.List.Sorted.{IsPermutation-remove}
use Rattle.txn_timeouts.specs.Due.{DeadlinesView, IsAt, IsInOrder}
use Rattle.txn_timeouts.proofs.Order.{never_absent, taken_in_order, when_some}
use Rattle.txn_timeouts.proofs.deadlines.Deadlines.drop_txn.Goals as goal

items_are : (c : goal.After-remove) → c.self.inside.items.items ≡ c.args.self.now.items
items_are c = ap (λ (v : DeadlinesView). v.items) c.self.view_is

stands : (c : goal.After-remove) → IsAt c.self.inside.items.items (c.args.deadline, c.args.number) c.in-Ok.at
stands c = subst (λ (l : List (ℕ × ℕ)). IsAt l (c.args.deadline, c.args.number) c.in-Ok.at) (sym (items_are c)) c.in-Ok.ensures.found

removed : (c : goal.After-remove) → c.remove.new.self.items ≡ remove c.self.inside.items.items c.in-Ok.at
removed c =
    let at = stands c in
    let ok = c.self.inside.items.ok.0 in
    when_some c.remove.result c.remove.ensures.items (c.remove.ensures.variant.1 (omega (arith, at.0)))

pub invariant_of-self : goal.invariant_of-self
invariant_of-self c = subst (λ (l : List (ℕ × ℕ)). IsInOrder l) (sym (removed c)) (taken_in_order _ _ (stands c).0 c.self.invariant)

pub returns-in-Ok-clause-items : goal.returns-in-Ok-clause-items
returns-in-Ok-clause-items c = rw (removed c, ← items_are c) (IsPermutation-remove c.self.inside.items.items c.in-Ok.at (c.args.deadline, c.args.number) (stands c).0 (sym ((stands c).1 (c.args.deadline, c.args.number))))

pub returns-in_default-clause-items : goal.returns-in_default-clause-items
returns-in_default-clause-items c = absurd (never_absent _ _ _ c.in_default.ensures.absent c.requires)

pub returns-in_default-clause-room : goal.returns-in_default-clause-room
returns-in_default-clause-room c = absurd (never_absent _ _ _ c.in_default.ensures.absent c.requires)
