use Rattle.std.proofs.Common.{◌≡◌, ◌∙◌, List, ℕ, Some, None, refl, sym, ap, subst, arith}
use Rattle.txn_board.specs.declared.view.View.{View}
use Rattle.txn_board.specs.declared.words.Word.TheVariants.{Registered, Done}
use Rattle.txn_board.specs.Words.{window}
use Rattle.txn_board.specs.Rows.{parts_in, low_in, loaded}
use Rattle.txn_board.specs.Rule.{Holds, AllowsTo, Found, ShowsOn}
use Rattle.txn_board.specs.Calls.{IsOfRow, MayClose, first_missing, closing_where, start_where}
use Rattle.txn_board.proofs.Marks.{place_within}
use Rattle.txn_board.proofs.Steps.{looks, guarded_found}
use Rattle.txn_board.proofs.Startings.{placed}
use Rattle.txn_board.proofs.Closings.{found_row, starts_close, starts_closing}
use Rattle.txn_board.proofs.board.Board.start_close.Goals as goal

pub load-reg-requires : goal.load-reg-requires
load-reg-requires g c =
    let b = c.args.self.now in
    let me = c.seat.inside.seat.me in
    let id = c.seat.inside.seat.id in
    let lists = g.N.Naming.lists in
    let place = c.in-Some.registered in
    let k = placed lists c.args.txn Registered place (sym c.place.ensures ∙ c.in-Some.is) in (
      c.seat.invariant.0 ∙ sym b.named,
      omega (arith, b.count, k.1, place_within (low_in lists) window c.args.txn Registered k.0),
      guarded_found g.T.Promise.made b.table.shared.key lists b.lists_are b.table.shared.table_id.slots id me place (λ n. loaded place n me.0) (λ n. refl) (λ p s h seat. looks lists s h id me.0 seat place),
    )

pub step-done-requires-clause-place : goal.step-done-requires-clause-place
step-done-requires-clause-place g c =
    let lists = g.N.Naming.lists in
    let m = placed lists c.args.txn Done c.in-Some-place.done (sym c.place-2.ensures ∙ c.in-Some-place.is) in
    omega (arith, m.1, place_within (low_in lists) window c.args.txn Done m.0)

pub step-done-requires-clause-allowed : goal.step-done-requires-clause-allowed
step-done-requires-clause-allowed g c =
    let me = c.seat.inside.seat.me in
    let lists = g.N.Naming.lists in
    let x = c.args.txn in
    let reg = c.load-reg.result in
    let place = c.in-Some.registered in
    let next = c.in-Some-place.done in
    let k = placed lists x Registered place (sym c.place.ensures ∙ c.in-Some.is) in
    let m = placed lists x Done next (sym c.place-2.ensures ∙ c.in-Some-place.is) in
    let view : c.load-reg.new.seat.me.0 ≡ loaded place reg me.0 = ap (λ (m : View × List (ℕ × ℕ)). m.0) c.load-reg.ensures.2.0 in
    λ p id.
    let q : MayClose (parts_in lists) x me.0 = subst (MayClose (parts_in lists) x) (sym c.seat.view_is) (c.requires p) in
    let may : MayClose (parts_in lists) x (loaded place reg me.0) =
    record { decision = q.decision; may = record { row = q.may.row; one = q.may.one; resting = q.may.resting; batch = q.may.batch; alone = q.may.alone }; first = q.first; decided = q.decided } in
    let own : IsOfRow x Registered reg me.0 = found_row lists place reg me.0 x Registered k.0 k.1 (c.load-reg.ensures.2.1 p) in
    subst (λ (u : View). AllowsTo (Holds lists) id u next (λ n. n) (λ n. loaded next n (start_where (closing_where (first_missing reg n) u.rows x) u))) (sym view)
    (starts_close lists id (loaded place reg me.0) next x reg k.0 m.1 may own)

pub returns-in-Some-missing_part-clause-within : goal.returns-in-Some-missing_part-clause-within
returns-in-Some-missing_part-clause-within g c =
    let lists = g.N.Naming.lists in
    let x = c.args.txn in
    let k = placed lists x Registered c.in-Some.registered (sym c.place.ensures ∙ c.in-Some.is) in
    let m = placed lists x Done c.in-Some-place.done (sym c.place-2.ensures ∙ c.in-Some-place.is) in
    let view : c.load-reg.new.seat.me.0 ≡ loaded c.in-Some.registered c.load-reg.result c.args.seat.now =
    ap (λ (m : View × List (ℕ × ℕ)). m.0) c.load-reg.ensures.2.0 ∙ ap (λ (v : View). loaded c.in-Some.registered c.load-reg.result v) c.seat.view_is in
    λ inside. (
      c.load-reg.result,
      c.step-done.result,
      starts_closing g.T.Promise.made lists x c.load-reg.result c.step-done.result (Some c.in-Some-missing_part.part) c.args.seat.now c.load-reg.new.seat.me.0 c.step-done.new.seat c.in-Some.registered c.in-Some-place.done inside k.1 m.1
          view c.step-done.ensures.view (sym c.in-Some-missing_part.is ∙ c.missing_part.ensures)
          (λ p. subst (λ (v : View). Found lists c.in-Some.registered c.load-reg.result v) c.seat.view_is (c.load-reg.ensures.2.1 p)) c.step-done.ensures.found
          (subst (λ (v : View). ShowsOn c.in-Some.registered c.load-reg.result v.loads) c.seat.view_is c.load-reg.ensures.2.2) c.step-done.ensures.grows,
    )

pub returns-in-None-clause-within : goal.returns-in-None-clause-within
returns-in-None-clause-within g c =
    let lists = g.N.Naming.lists in
    let x = c.args.txn in
    let k = placed lists x Registered c.in-Some.registered (sym c.place.ensures ∙ c.in-Some.is) in
    let m = placed lists x Done c.in-Some-place.done (sym c.place-2.ensures ∙ c.in-Some-place.is) in
    let view : c.load-reg.new.seat.me.0 ≡ loaded c.in-Some.registered c.load-reg.result c.args.seat.now =
    ap (λ (m : View × List (ℕ × ℕ)). m.0) c.load-reg.ensures.2.0 ∙ ap (λ (v : View). loaded c.in-Some.registered c.load-reg.result v) c.seat.view_is in
    λ inside. (
      c.load-reg.result,
      c.step-done.result,
      starts_closing g.T.Promise.made lists x c.load-reg.result c.step-done.result None c.args.seat.now c.load-reg.new.seat.me.0 c.step-done.new.seat c.in-Some.registered c.in-Some-place.done inside k.1 m.1
          view c.step-done.ensures.view (sym c.in-None.is ∙ c.missing_part.ensures)
          (λ p. subst (λ (v : View). Found lists c.in-Some.registered c.load-reg.result v) c.seat.view_is (c.load-reg.ensures.2.1 p)) c.step-done.ensures.found
          (subst (λ (v : View). ShowsOn c.in-Some.registered c.load-reg.result v.loads) c.seat.view_is c.load-reg.ensures.2.2) c.step-done.ensures.grows,
    )
