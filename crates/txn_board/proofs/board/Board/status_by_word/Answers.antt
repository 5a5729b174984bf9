use Rattle.std.proofs.Common.{rules, ◌≡◌, true, false, sym, ◌∙◌}
use Rattle.txn_model.proofs.Laws.Tests.{no_true}
use Rattle.txn_board.specs.Words.{is_bit_set}
use Rattle.txn_board.specs.Seen.{status_by}
use Rattle.txn_board.proofs.Telling.{none_is_told, open_is_told, decided_is_told}
use Rattle.txn_board.proofs.board.Board.status_by_word.Goals as goal
use Rattle.txn_board.proofs.board.Board.status_by_word.Goals.{else-not-commit-via-then-not-commit+else-not-abort, else-not-commit-via-else-not-commit}

pub returns-then-not-is_bit_set : goal.returns-then-not-is_bit_set
returns-then-not-is_bit_set g c =
    let none : is_bit_set c.look-reg.result 0 ≡ false = search rules in
    none_is_told g.T.Promise.made g.N.Naming.lists c.args.txn c.look-reg.result c.args.seat.now c.look-reg.new.seat c.look-reg.ensures.told c.look-reg.ensures.view none

pub returns-then-not-abort : goal.returns-then-not-abort
returns-then-not-abort g c =
    let begun : is_bit_set c.look-reg.result 0 ≡ true = search rules in
    let commit : is_bit_set c.look-dec.result 0 ≡ false = search rules in
    let abort : is_bit_set c.look-dec.result 1 ≡ false = search rules in
    open_is_told g.T.Promise.made g.N.Naming.lists c.args.txn c.look-reg.result c.look-dec.result c.args.seat.now c.look-reg.new.seat c.look-dec.new.seat c.look-reg.ensures.told c.look-dec.ensures.told c.look-reg.ensures.view c.look-dec.ensures.view begun commit abort

pub returns : goal.returns
returns g c =
    let b = c.look-dec.result in
    let d = c.look-done.result in
    let begun : is_bit_set c.look-reg.result 0 ≡ true = search rules in
    let decided : (is_bit_set b 0 ≡ false) × (is_bit_set b 1 ≡ false) → ⊥ =
    elim c.else-not-commit.branch [
      | else-not-commit-via-then-not-commit+else-not-abort w ↦ let t : is_bit_set b 1 ≡ true = search rules in λ q. no_true (sym q.1 ∙ t)
      | else-not-commit-via-else-not-commit w ↦ let t : is_bit_set b 0 ≡ true = search rules in λ q. no_true (sym q.0 ∙ t)
    ] in
    let is : c.status_told.result ≡ status_by true (is_bit_set b 0) (is_bit_set b 1) (is_bit_set d 0) = search rules in
    decided_is_told g.T.Promise.made g.N.Naming.lists c.args.txn c.status_told.result c.look-reg.result b d c.args.seat.now c.look-reg.new.seat c.look-dec.new.seat c.look-done.new.seat
    c.look-reg.ensures.told c.look-dec.ensures.told c.look-done.ensures.told c.look-reg.ensures.view c.look-dec.ensures.view c.look-done.ensures.view begun decided is
