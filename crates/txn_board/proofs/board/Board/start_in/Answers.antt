use Rattle.std.proofs.Common.{sym, ap, ◌∙◌, subst}
use Rattle.txn_board.specs.declared.view.View.{View}
use Rattle.txn_board.specs.declared.words.Word.TheVariants.{Registered}
use Rattle.txn_board.specs.Rows.{IsNumberOf}
use Rattle.txn_board.proofs.Startings.{starts_in, placed}
use Rattle.txn_board.proofs.board.Board.start_in.Goals as goal

pub step-reg-requires-clause-allowed : goal.step-reg-requires-clause-allowed
step-reg-requires-clause-allowed g c =
    let lists = g.N.Naming.lists in
    let k = placed lists c.args.txn Registered c.in-Some.place (sym c.place.ensures ∙ c.in-Some.is) in
    λ p id.
    starts_in lists id c.args.seat.now c.in-Some.place c.args.txn c.args.count c.seat.inside.part k.0 k.1
    (λ r e. subst (IsNumberOf c.seat.inside.part) (ap (λ (v : View). v.rows) c.seat.view_is ∙ e) c.seat.invariant.2) (c.requires p)
