use Rattle.std.proofs.Common.{◌≡◌, ◌∙◌, sym, ap, subst, refl, ℕ, ◌^◌, min, max, IsTrue, inl}
use Rattle.txn_engine.specs.Damage.{is_damage}
use Rattle.txn_engine.specs.Told.{IsTellable, RoseFor}
use Rattle.txn_engine.specs.View.{EngineView, IsTied, IsBacked}
use Rattle.txn_engine.proofs.AtView.{told_at, tell_at, goes_at, goes_for}
use Rattle.txn_engine.proofs.Begun.{bad_told, new_answer, begun_tellable, no_fault_begin, begun_kept, new_fits, moved_is}
use Rattle.txn_engine.proofs.BegunGoes.{begun_goes}
use Rattle.txn_engine.proofs.Coordinators.{engine_with}
use Rattle.txn_engine.proofs.Damage.{begun_sound}
use Rattle.txn_engine.proofs.Going.{goes_still, goes_from}
use Rattle.txn_engine.proofs.Faults.{named_for, begun_named}
use Rattle.txn_engine.proofs.Reading.{rose_at}
use Rattle.txn_base.specs.declared.request.Request.TheVariants as request
use Rattle.txn_base.specs.declared.reply.Refusal.TheVariants as no
use Rattle.txn_base.specs.declared.reply.Reply.TheVariants as reply
use Rattle.txn_engine.proofs.Early.{no_row, its_row}
use Rattle.txn_engine.proofs.Rows.{bad_new, early_new}
use Rattle.txn_engine.proofs.engine.Engine.begin.Goals as goal

latest_is : (a n x m : ℕ) → m ≡ min n (2 ^ 62) → x ≡ max a m → x ≡ max a (min n (2 ^ 62))
latest_is a n x m e h = h ∙ ap (max a) e

pub returns-then-is_bad_timeout-clause-told : goal.returns-then-is_bad_timeout-clause-told
returns-then-is_bad_timeout-clause-told g c = λ tells tied.
    told_at _ _ (g.D.Disk.part_faults c.args.disk.now) (g.D.Disk.part_faults c.args.disk.now) _ _ _ _ _ _ c.self.view_is
    (bad_told _ c.self.invariant _ _ (g.D.Disk.part_faults c.args.disk.now) (g.D.Disk.part_faults c.args.disk.now)
    c.max-self-inside.result c.args.now c.args.timeout (latest_is _ _ _ _ c.min.ensures c.max-self-inside.ensures) (sym c.is_bad_timeout.ensures ∙ c.if-is_bad_timeout.true))

pub returns-then-is_bad_timeout-clause-goes : goal.returns-then-is_bad_timeout-clause-goes
returns-then-is_bad_timeout-clause-goes g c =
    goes_at g.D.Disk _ _ _ _ c.args.disk.now c.args.disk.now c.self.view_is
    (goes_still g.D.Disk _ (λ h. cc) _ _ c.args.disk.now (subst (IsBacked (g.D.Disk.image c.args.disk.now)) (sym c.self.view_is) c.requires.backed) refl refl refl)

pub returns-in_default-clause-goes : goal.returns-in_default-clause-goes
returns-in_default-clause-goes g c =
    goes_at g.D.Disk _ _ _ _ c.args.disk.now c.args.disk.now c.self.view_is
    (goes_still g.D.Disk _ (λ h. cc) _ _ c.args.disk.now (subst (IsBacked (g.D.Disk.image c.args.disk.now)) (sym c.self.view_is) c.requires.backed) refl refl refl)

pub invariant_of-self-2 : goal.invariant_of-self-2
invariant_of-self-2 g c =
    let is = moved_is _ c.max-self-inside.result c.args.now c.self.invariant (latest_is _ _ _ _ c.min.ensures c.max-self-inside.ensures) in
    let whole = subst (λ (v : EngineView). IsTrue v.coord.whole) (sym c.self.view_is) c.requires.whole in
    engine_with _ is c.begin-begun.new.self
    (begun_kept _ is whole c.args.timeout c.begin-begun.result c.begin-begun.new.self c.begin-begun.ensures.ok c.begin-begun.ensures.fault c.begin-begun.ensures.same)
    c.max-self-inside.result is.latest

pub returns-clause-told : goal.returns-clause-told
returns-clause-told g c = λ tells tied.
    let is = moved_is _ c.max-self-inside.result c.args.now c.self.invariant (latest_is _ _ _ _ c.min.ensures c.max-self-inside.ensures) in
    told_at _ _ (g.D.Disk.part_faults c.args.disk.now) (g.D.Disk.part_faults c.begin-begun.new.disk) _ _ _ _ _ _ c.self.view_is
    (tell_at _ _ (g.D.Disk.part_faults c.args.disk.now) (g.D.Disk.part_faults c.begin-begun.new.disk) _ _ _ _ _ _ (sym c.begun_reply.ensures)
    (new_answer _ c.self.invariant _ _ (g.D.Disk.part_faults c.args.disk.now) (g.D.Disk.part_faults c.begin-begun.new.disk) c.max-self-inside.result c.args.now c.args.timeout (latest_is _ _ _ _ c.min.ensures c.max-self-inside.ensures)
    (subst (λ (v : EngineView). IsTrue v.coord.whole) (sym c.self.view_is) c.requires.whole) (subst IsTied (sym c.self.view_is) tied) (sym c.is_bad_timeout.ensures ∙ c.if-is_bad_timeout.false)
    c.begin-begun.result c.begin-begun.new.self
    (new_fits c.self.inside.coordinator c.count-count.result c.max-self-inside.result c.args.timeout c.count-count.ensures c.count-count.type_inv is.latest (sym c.is_bad_timeout.ensures ∙ c.if-is_bad_timeout.false))
    c.begin-begun.ensures.refused c.begin-begun.ensures.told c.begin-begun.ensures.ok c.begin-begun.ensures.fault c.begin-begun.ensures.same c.begin-begun.ensures.cause))

pub returns-clause-tellable : goal.returns-clause-tellable
returns-clause-tellable g c = subst IsTellable (sym c.begun_reply.ensures) (begun_tellable c.begin-begun.result)

pub returns-clause-goes : goal.returns-clause-goes
returns-clause-goes g c =
    let is = moved_is _ c.max-self-inside.result c.args.now c.self.invariant (latest_is _ _ _ _ c.min.ensures c.max-self-inside.ensures) in
    let whole = subst (λ (v : EngineView). IsTrue v.coord.whole) (sym c.self.view_is) c.requires.whole in
    let backed = subst (IsBacked (g.D.Disk.image c.args.disk.now)) (sym c.self.view_is) c.requires.backed in
    goes_at g.D.Disk _ _ _ _ c.args.disk.now c.begin-begun.new.disk c.self.view_is
    (goes_for g.D.Disk _ _ _ _ c.args.disk.now c.begin-begun.new.disk (sym c.begun_reply.ensures)
    (goes_from g.D.Disk _ _ _ _ c.args.disk.now c.begin-begun.new.disk refl refl refl
    (begun_goes g.D.Disk _ is whole c.args.disk.now c.begin-begun.new.disk
    (record { coord = backed.coord; topics = backed.topics }) c.args.timeout (sym c.is_bad_timeout.ensures ∙ c.if-is_bad_timeout.false)
    (no_fault_begin c.self.inside.coordinator c.args.timeout (sym c.is_bad_timeout.ensures ∙ c.if-is_bad_timeout.false))
    c.begin-begun.result c.begin-begun.new.self
    (new_fits c.self.inside.coordinator c.count-count.result c.max-self-inside.result c.args.timeout c.count-count.ensures c.count-count.type_inv is.latest (sym c.is_bad_timeout.ensures ∙ c.if-is_bad_timeout.false))
    c.begin-begun.ensures.refused c.begin-begun.ensures.ok c.begin-begun.ensures.fault c.begin-begun.ensures.same c.begin-begun.ensures.unwritten c.begin-begun.ensures.tied c.begin-begun.ensures.backed c.begin-begun.ensures.images c.begin-begun.ensures.others c.begin-begun.ensures.cause)))

pub returns-clause-undamaged : goal.returns-clause-undamaged
returns-clause-undamaged g c = ap is_damage c.begun_reply.ensures ∙ begun_sound c.begin-begun.result

pub returns-clause-named : goal.returns-clause-named
returns-clause-named g c =
    named_for c.args.self.now.names (RoseFor (g.D.Disk.faults c.args.disk.now) (g.D.Disk.faults c.begin-begun.new.disk) (g.D.Disk.part_faults c.args.disk.now) (g.D.Disk.part_faults c.begin-begun.new.disk)) _ _ c.begun_reply.ensures
    (begun_named c.args.self.now.names (RoseFor (g.D.Disk.faults c.args.disk.now) (g.D.Disk.faults c.begin-begun.new.disk) (g.D.Disk.part_faults c.args.disk.now) (g.D.Disk.part_faults c.begin-begun.new.disk)) c.begin-begun.result (λ e. rose_at _ 0 (g.D.Disk.faults c.args.disk.now) (g.D.Disk.faults c.begin-begun.new.disk) (g.D.Disk.part_faults c.args.disk.now) (g.D.Disk.part_faults c.begin-begun.new.disk) c.self.invariant.coord.key (c.begin-begun.ensures.cause.failed e)))

pub returns-then-is_bad_timeout-clause-early : goal.returns-then-is_bad_timeout-clause-early
returns-then-is_bad_timeout-clause-early g c = its_row c.args.self.now c.args.self.now refl (request.New c.args.timeout) (reply.No no.BadTimeout) no.BadTimeout (bad_new c.args.self.now.limits c.args.self.now c.args.timeout (sym c.is_bad_timeout.ensures ∙ c.if-is_bad_timeout.true)) (inl refl)

pub returns-clause-early : goal.returns-clause-early
returns-clause-early g c = no_row c.args.self.now c.args.self.now refl (request.New c.args.timeout) c.begun_reply.result (early_new c.args.self.now.limits c.args.self.now c.args.timeout (sym c.is_bad_timeout.ensures ∙ c.if-is_bad_timeout.false))
