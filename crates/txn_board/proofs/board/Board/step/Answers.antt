use Rattle.std.proofs.Common.{◌≡◌, ◌++◌, ◌∷◌, [], List, ℕ, sym, ap, ◌∙◌, subst, arith}
use Rattle.txn_board.specs.declared.view.View.{View}
use Rattle.txn_board.specs.Rows.{IsNumberOf, loaded}
use Rattle.txn_board.specs.Rule.{Holds, AllowsTo}
use Rattle.txn_board.specs.Calls.{row_step}
use Rattle.txn_board.proofs.Steps.{guarded_found}
use Rattle.txn_board.proofs.Startings.{step_numbered, step_loads}
use Rattle.txn_board.proofs.board.Board.step.Goals as goal

pub load-requires : goal.load-requires
load-requires g c =
    let b = c.args.self.now in
    let me = c.seat.inside.seat.me in
    let id = c.seat.inside.seat.id in
    let place = c.args.place in
    let lists = g.N.Naming.lists in
    let next = g.E.Stepping.next in (
      c.seat.invariant.0 ∙ sym b.named,
      omega (arith, b.count, c.requires.place),
      guarded_found g.T.Promise.made b.table.shared.key lists b.lists_are b.table.shared.table_id.slots id me place (λ n. loaded place n (next n))
          (λ n. ap (λ (v : View). v.loads ++ record { place = place; value = n } ∷ []) (sym (c.requires.next n)) ∙ (ap (λ ls. ls ++ record { place = place; value = n } ∷ []) (step_loads c.args.step c.args.seat.now n) ∙ ap (λ (v : View). v.loads ++ record { place = place; value = n } ∷ []) (sym c.seat.view_is)))
          (λ p. subst (λ (f : ℕ → View). AllowsTo (Holds lists) id me.0 place (λ n. n) (λ n. loaded place n (f n))) (λ i n. c.requires.next n i)
          (subst (λ (v : View). AllowsTo (Holds lists) id v place (λ n. n) (λ n. loaded place n (row_step c.args.step c.args.seat.now n))) (sym c.seat.view_is) (c.requires.allowed p id))),
    )

pub invariant_of-seat : goal.invariant_of-seat
invariant_of-seat g c =
    let me = c.seat.inside.seat.me in
    let is : c.load.new.seat.me ≡ (loaded c.args.place c.load.result (row_step c.args.step c.args.seat.now c.load.result), me.1) =
    c.load.ensures.2.0 ∙ ap (λ (v : View). (loaded c.args.place c.load.result v, me.1)) (sym (c.requires.next c.load.result)) in (
      c.load.ensures.0 ∙ c.seat.invariant.0,
      ap (λ (m : View × List (ℕ × ℕ)). m.1) is ∙ c.seat.invariant.1,
      subst (λ (m : View × List (ℕ × ℕ)). IsNumberOf c.seat.inside.part m.0.rows) (sym is)
          (step_numbered c.seat.inside.part c.args.step c.args.seat.now c.load.result (subst (λ (v : View). IsNumberOf c.seat.inside.part v.rows) c.seat.view_is c.seat.invariant.2)),
    )
