use Rattle.std.proofs.Common.{◌≡◌, ◌<◌, [], length, sym, ap, ◌∙◌, subst}
use Rattle.txn_board.specs.declared.view.View.{View}
use Rattle.txn_board.specs.Rows.{opening_view, rest_view, dealt_view, IsOfPart}
use Rattle.txn_board_tests.proofs.Dealing.{some_rows, two_rows, first_part, second_part}
use Rattle.txn_board_tests.proofs.story.deal_parts.Goals as goal

pub deal-coord-requires : goal.deal-coord-requires
deal-coord-requires g c = subst (λ (v : View). 0 < length v.rows) (sym c.requires.all) (some_rows g.N.Naming.lists c.requires.two)

pub deal-part-requires : goal.deal-part-requires
deal-part-requires g c =
    let is : c.deal-coord.new.seats ≡ rest_view (opening_view g.N.Naming.lists) = c.deal-coord.ensures.left ∙ ap rest_view c.requires.all in
    subst (λ (v : View). 0 < length v.rows) (sym is) (two_rows g.N.Naming.lists c.requires.two).0

pub returns-clause-coord : goal.returns-clause-coord
returns-clause-coord g c = subst (IsOfPart 0) (sym (c.deal-coord.ensures.right ∙ ap dealt_view c.requires.all)) (first_part g.N.Naming.lists c.requires.two)

pub returns-clause-part : goal.returns-clause-part
returns-clause-part g c =
    let is : c.deal-coord.new.seats ≡ rest_view (opening_view g.N.Naming.lists) = c.deal-coord.ensures.left ∙ ap rest_view c.requires.all in
    subst (IsOfPart 1) (sym (c.deal-part.ensures.right ∙ ap dealt_view is)) (second_part g.N.Naming.lists c.requires.two)

pub returns-clause-rest : goal.returns-clause-rest
returns-clause-rest g c =
    let is : c.deal-coord.new.seats ≡ rest_view (opening_view g.N.Naming.lists) = c.deal-coord.ensures.left ∙ ap rest_view c.requires.all in
    subst (λ (v : View). v.rows ≡ []) (sym (c.deal-part.ensures.left ∙ ap rest_view is)) (two_rows g.N.Naming.lists c.requires.two).1
