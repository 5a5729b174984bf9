use Rattle.std.proofs.Common.{rules, ◌≡◌, ◌<◌, ◌+◌, ◌≤◌, None, sym, ap, ◌∙◌, subst}
use Rattle.txn_board.specs.Rows.{low_in}
use Rattle.txn_board.specs.Words.{window, with_mark}
use Rattle.txn_board.proofs.Settling.{no_bit, below_bit, past_bit}
use Rattle.txn_board.proofs.board.Board.bit_of.Goals as goal

pub returns-in_default-clause-bits : goal.returns-in_default-clause-bits
returns-in_default-clause-bits g c =
    let none : c.args.mark ≡ None = search rules in
    λ words size. no_bit (low_in g.N.Naming.lists) words ∙ ap (λ o. with_mark (low_in g.N.Naming.lists) window o words) (sym none)

pub returns-then-mark-self-clause-bits : goal.returns-then-mark-self-clause-bits
returns-then-mark-self-clause-bits g c =
    let b = c.args.self.now in
    let m = c.in-Some.mark in
    let lt : m.txn < b.low = search rules in
    λ words size. below_bit (low_in g.N.Naming.lists) m words (subst (λ l. m.txn < l) b.low_is lt) ∙ ap (λ o. with_mark (low_in g.N.Naming.lists) window o words) (sym c.in-Some.is)

pub returns-then-at-ge-WINDOW-clause-bits : goal.returns-then-at-ge-WINDOW-clause-bits
returns-then-at-ge-WINDOW-clause-bits g c =
    let b = c.args.self.now in
    let m = c.in-Some.mark in
    let le : b.low + window ≤ m.txn = search rules in
    λ words size. past_bit (low_in g.N.Naming.lists) m words (subst (λ l. l + window ≤ m.txn) b.low_is le) ∙ ap (λ o. with_mark (low_in g.N.Naming.lists) window o words) (sym c.in-Some.is)
