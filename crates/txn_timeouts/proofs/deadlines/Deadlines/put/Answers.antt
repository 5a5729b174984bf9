use Rattle.std.proofs.Common.{rules, ◌≡◌, ◌⊎◌, ◌-◌, ℕ, List, sym, subst, insert, inl, inr, ap, arith, Ok, Err}
use Rattle.std.specs.VecDeque.{deque_capacity, deque_len}
use Rattle.std.proofs.lemmas.List.Sorted.{IsPermutation-insert}
use Rattle.txn_timeouts.specs.Due.{DeadlinesView, IsGapFor, IsInOrder}
use Rattle.txn_timeouts.proofs.Order.{gap_of, put_in_order, when_ok}
use Rattle.txn_timeouts.proofs.deadlines.Deadlines.put.Goals as goal
use Rattle.txn_timeouts.proofs.deadlines.Deadlines.put.Goals.{in-Ok, in-Err}

items_are : (c : goal.After-insert) → c.self.inside.items.items ≡ c.args.self.now.items
items_are c = ap (λ (v : DeadlinesView). v.items) c.self.view_is

-- with room it doesn't fail
inserted : (c : goal.After-insert) → c.insert.new.self.items ≡ insert c.self.inside.items.items c.match-search.at (c.args.deadline, c.args.number)
inserted c =
    let room : deque_capacity c.self.inside.items - deque_len c.self.inside.items ≡ c.args.self.now.room = ap (λ (v : DeadlinesView). v.room) c.self.view_is in
    let some = c.requires.room in
    when_ok c.insert.result c.insert.ensures.items c.insert.ensures.full (λ full. omega arith)

gap : (c : goal.After-insert) → IsGapFor c.self.inside.items.items (c.args.deadline, c.args.number) c.match-search.at
gap c =
    let at : (c.search.result ≡ Ok c.match-search.at) ⊎ (c.search.result ≡ Err c.match-search.at) = elim c.match-search.branch [ in-Ok w ↦ inl (search rules) | in-Err w ↦ inr (search rules) ] in
    let x : ℕ × ℕ = (c.args.deadline, c.args.number) in
    subst (λ (l : List (ℕ × ℕ)). IsGapFor l x c.match-search.at) (sym (items_are c)) (gap_of c.args.self.now.items x c.search.result c.match-search.at at c.search.ensures.found c.search.ensures.absent c.requires.fresh)

pub invariant_of-self : goal.invariant_of-self
invariant_of-self c = subst (λ (l : List (ℕ × ℕ)). IsInOrder l) (sym (inserted c)) (put_in_order _ _ _ (gap c) c.self.invariant)

pub returns-clause-items : goal.returns-clause-items
returns-clause-items c = rw (inserted c, ← items_are c) (IsPermutation-insert c.self.inside.items.items c.match-search.at (c.args.deadline, c.args.number))
