use Rattle.std.proofs.Common.{sym, ◌∙◌, ap, subst, arith, inl, refl}
use Rattle.std.proofs.lemmas.Bool.Decides.{nat_tests}
use Rattle.txn_model.specs.Coord.{status_of}
use Rattle.txn_model.specs.Skeletons.{coord_skeletons}
use Rattle.txn_engine.specs.Kept.{IsEngine}
use Rattle.txn_engine.proofs.Begun.{foreign_status_told, not_found_told, status_told}
use Rattle.txn_base.specs.declared.request.Request.TheVariants as request
use Rattle.txn_base.specs.declared.reply.Refusal.TheVariants as no
use Rattle.txn_base.specs.declared.reply.Reply.TheVariants as reply
use Rattle.txn_engine.proofs.Early.{no_row, its_row}
use Rattle.txn_engine.proofs.Rows.{foreign_status, early_status}
use Rattle.txn_engine.proofs.engine.Engine.status.Goals as goal

pub returns-then-txn-ne0-clause-told : goal.returns-then-txn-ne0-clause-told
returns-then-txn-ne0-clause-told c = λ before now parts_before parts_now tied moment.
    foreign_status_told c.args.self.now before now parts_before parts_now moment c.args.txn (grind (arith, nat_tests, c.if-txn-ne0.true))

pub returns-in-Some-clause-told : goal.returns-in-Some-clause-told
returns-in-Some-clause-told c = λ before now parts_before parts_now tied moment.
    status_told c.args.self.now before now parts_before parts_now moment c.args.txn (subst IsEngine c.self.view_is c.self.invariant) c.requires.whole tied (grind (arith, nat_tests, c.if-txn-ne0.false)) c.in-Some.status
    (ap (λ v. status_of (coord_skeletons v.coord.front) c.args.txn) (sym c.self.view_is) ∙ sym c.status-found.ensures ∙ c.in-Some.is)

pub returns-in-None-clause-told : goal.returns-in-None-clause-told
returns-in-None-clause-told c = λ before now parts_before parts_now tied moment.
    not_found_told c.args.self.now before now parts_before parts_now moment c.args.txn (subst IsEngine c.self.view_is c.self.invariant) c.requires.whole tied (grind (arith, nat_tests, c.if-txn-ne0.false))
    (ap (λ v. status_of (coord_skeletons v.coord.front) c.args.txn) (sym c.self.view_is) ∙ sym c.status-found.ensures ∙ c.in-None.is)

pub returns-then-txn-ne0-clause-early : goal.returns-then-txn-ne0-clause-early
returns-then-txn-ne0-clause-early c = its_row c.args.self.now c.args.self.now refl (request.Status c.args.txn) (reply.No (no.UnknownCoordinator c.args.txn.most)) (no.UnknownCoordinator c.args.txn.most) (foreign_status c.args.self.now.limits c.args.self.now c.args.txn (grind (arith, nat_tests, c.if-txn-ne0.true))) (inl refl)

pub returns-in-Some-clause-early : goal.returns-in-Some-clause-early
returns-in-Some-clause-early c = no_row c.args.self.now c.args.self.now refl (request.Status c.args.txn) (reply.Status c.in-Some.status) (early_status c.args.self.now.limits c.args.self.now c.args.txn (grind (arith, nat_tests, c.if-txn-ne0.false)))

pub returns-in-None-clause-early : goal.returns-in-None-clause-early
returns-in-None-clause-early c = no_row c.args.self.now c.args.self.now refl (request.Status c.args.txn) (reply.No no.NotFound) (early_status c.args.self.now.limits c.args.self.now c.args.txn (grind (arith, nat_tests, c.if-txn-ne0.false)))
