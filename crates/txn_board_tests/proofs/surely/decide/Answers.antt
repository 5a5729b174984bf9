use Rattle.std.proofs.Common.{◌≡◌, true, [], ◌∷◌, refl, sym, subst}
use Rattle.txn_base.specs.declared.core_entry.CoreEntry.TheVariants as core
use Rattle.txn_model.specs.Deadlines.{txn}
use Rattle.txn_core.specs.declared.step.CoreRow.{CoreRow}
use Rattle.txn_core.specs.Together.{is_alone}
use Rattle.txn_core.specs.Steps.{start_row, settle_row}
use Rattle.txn_core.specs.Kept.{resting_row}
use Rattle.txn_board.specs.Rows.{parts_in}
use Rattle.txn_board_tests.proofs.Shown.{may, started, settling, settled, within}
use Rattle.txn_board_tests.proofs.surely.decide.Goals as goal

abbrev second : CoreRow
second = settle_row (start_row (core.New (txn 0) ∷ []) (resting_row []))

abbrev third : CoreRow
third = settle_row (start_row (core.AddPart (txn 0) 1 ∷ []) second)

pub start_own-requires-clause-row : goal.start_own-requires-clause-row
start_own-requires-clause-row g c = λ p. may (parts_in g.N.Naming.lists) (resting_row []) (core.New (txn 0) ∷ []) c.args.coord.now c.requires.seat refl refl refl

pub start_own-requires-clause-window : goal.start_own-requires-clause-window
start_own-requires-clause-window g c = λ p. within g.N.Naming.lists c.requires.lists

pub settle_reg-requires : goal.settle_reg-requires
settle_reg-requires g c = λ p.
    settling (resting_row []) (core.New (txn 0)) c.start_own.new.seat
    (started (resting_row []) (core.New (txn 0)) c.args.coord.now c.start_own.new.seat c.start_own.ensures.value c.requires.seat c.start_own.ensures.view)

pub start_own-requires-2-clause-row : goal.start_own-requires-2-clause-row
start_own-requires-2-clause-row g c =
    let a = started (resting_row []) (core.New (txn 0)) c.args.coord.now c.start_own.new.seat c.start_own.ensures.value c.requires.seat c.start_own.ensures.view in
    let b = settled (resting_row []) (core.New (txn 0)) c.start_own.new.seat c.settle_reg.new.seat a c.settle_reg.ensures.view in
    λ p. may (parts_in g.N.Naming.lists) second (core.AddPart (txn 0) 1 ∷ []) c.settle_reg.new.seat b refl refl (subst (λ ls. is_alone (parts_in ls) 0 (core.New (txn 0) ∷ core.AddPart (txn 0) 1 ∷ []) ≡ true) (sym c.requires.lists) refl)

pub start_own-requires-2-clause-window : goal.start_own-requires-2-clause-window
start_own-requires-2-clause-window g c = λ p. within g.N.Naming.lists c.requires.lists

pub settle_reg-requires-2 : goal.settle_reg-requires-2
settle_reg-requires-2 g c =
    let a = started (resting_row []) (core.New (txn 0)) c.args.coord.now c.start_own.new.seat c.start_own.ensures.value c.requires.seat c.start_own.ensures.view in
    let b = settled (resting_row []) (core.New (txn 0)) c.start_own.new.seat c.settle_reg.new.seat a c.settle_reg.ensures.view in
    λ p. settling second (core.AddPart (txn 0) 1) c.start_own-2.new.seat (started second (core.AddPart (txn 0) 1) c.settle_reg.new.seat c.start_own-2.new.seat c.start_own-2.ensures.value b c.start_own-2.ensures.view)

pub start_own-requires-3-clause-row : goal.start_own-requires-3-clause-row
start_own-requires-3-clause-row g c =
    let a = started (resting_row []) (core.New (txn 0)) c.args.coord.now c.start_own.new.seat c.start_own.ensures.value c.requires.seat c.start_own.ensures.view in
    let b = settled (resting_row []) (core.New (txn 0)) c.start_own.new.seat c.settle_reg.new.seat a c.settle_reg.ensures.view in
    let d = started second (core.AddPart (txn 0) 1) c.settle_reg.new.seat c.start_own-2.new.seat c.start_own-2.ensures.value b c.start_own-2.ensures.view in
    let e = settled second (core.AddPart (txn 0) 1) c.start_own-2.new.seat c.settle_reg-2.new.seat d c.settle_reg-2.ensures.view in
    λ p.
    may (parts_in g.N.Naming.lists) third (core.Committing (txn 0) ∷ []) c.settle_reg-2.new.seat e refl refl
    (subst (λ ls. is_alone (parts_in ls) 0 (core.New (txn 0) ∷ core.AddPart (txn 0) 1 ∷ core.Committing (txn 0) ∷ []) ≡ true) (sym c.requires.lists) refl)

pub start_own-requires-3-clause-window : goal.start_own-requires-3-clause-window
start_own-requires-3-clause-window g c = λ p. within g.N.Naming.lists c.requires.lists

pub settle_dec-requires : goal.settle_dec-requires
settle_dec-requires g c =
    let a = started (resting_row []) (core.New (txn 0)) c.args.coord.now c.start_own.new.seat c.start_own.ensures.value c.requires.seat c.start_own.ensures.view in
    let b = settled (resting_row []) (core.New (txn 0)) c.start_own.new.seat c.settle_reg.new.seat a c.settle_reg.ensures.view in
    let d = started second (core.AddPart (txn 0) 1) c.settle_reg.new.seat c.start_own-2.new.seat c.start_own-2.ensures.value b c.start_own-2.ensures.view in
    let e = settled second (core.AddPart (txn 0) 1) c.start_own-2.new.seat c.settle_reg-2.new.seat d c.settle_reg-2.ensures.view in
    λ p. settling third (core.Committing (txn 0)) c.start_own-3.new.seat (started third (core.Committing (txn 0)) c.settle_reg-2.new.seat c.start_own-3.new.seat c.start_own-3.ensures.value e c.start_own-3.ensures.view)

pub returns : goal.returns
returns g c =
    let a = started (resting_row []) (core.New (txn 0)) c.args.coord.now c.start_own.new.seat c.start_own.ensures.value c.requires.seat c.start_own.ensures.view in
    let b = settled (resting_row []) (core.New (txn 0)) c.start_own.new.seat c.settle_reg.new.seat a c.settle_reg.ensures.view in
    let d = started second (core.AddPart (txn 0) 1) c.settle_reg.new.seat c.start_own-2.new.seat c.start_own-2.ensures.value b c.start_own-2.ensures.view in
    let e = settled second (core.AddPart (txn 0) 1) c.start_own-2.new.seat c.settle_reg-2.new.seat d c.settle_reg-2.ensures.view in
    let f = started third (core.Committing (txn 0)) c.settle_reg-2.new.seat c.start_own-3.new.seat c.start_own-3.ensures.value e c.start_own-3.ensures.view in
    settled third (core.Committing (txn 0)) c.start_own-3.new.seat c.settle_dec.new.seat f c.settle_dec.ensures.view
