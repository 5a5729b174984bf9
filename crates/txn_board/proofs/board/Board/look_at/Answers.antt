use Rattle.std.proofs.Common.{◌+◌, refl, sym, ◌∙◌, arith}
use Rattle.txn_board.specs.declared.words.Word.TheVariants.{Registered}
use Rattle.txn_board.specs.Words.{window}
use Rattle.txn_board.specs.Rows.{low_in, loaded}
use Rattle.txn_board.proofs.Marks.{place_within}
use Rattle.txn_board.proofs.Steps.{looks, guarded_found}
use Rattle.txn_board.proofs.Startings.{placed}
use Rattle.txn_board.proofs.board.Board.look_at.Goals as goal

pub load-requires : goal.load-requires
load-requires g c =
    let b = c.args.self.now in
    let me = c.seat.inside.seat.me in
    let id = c.seat.inside.seat.id in
    let lists = g.N.Naming.lists in
    let place = c.args.first + c.offset_of.result in
    let k = placed lists c.args.txn Registered c.args.first c.requires in (
      c.seat.invariant.0 ∙ sym b.named,
      omega (arith, b.count, k.1, c.offset_of.ensures, place_within (low_in lists) window c.args.txn c.args.word k.0),
      guarded_found g.T.Promise.made b.table.shared.key lists b.lists_are b.table.shared.table_id.slots id me place (λ n. loaded place n me.0) (λ n. refl) (λ p s h seat. looks lists s h id me.0 seat place),
    )
