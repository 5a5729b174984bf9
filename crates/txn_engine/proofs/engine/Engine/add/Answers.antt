use Rattle.std.proofs.Common.{rules, ◌≡◌, ◌∙◌, sym, ap, subst, ℕ, ◌≤◌, length, List, Option, Fits, w32, IsTrue, arith, inl, refl}
use Rattle.std.proofs.lemmas.Bool.Decides.{nat_tests}
use Rattle.txn_engine.specs.Damage.{is_damage}
use Rattle.txn_engine.specs.Kept.{IsEngine}
use Rattle.txn_engine.specs.Told.{IsTellable, RoseFor}
use Rattle.txn_engine.specs.View.{IsTied, IsBacked, EngineView}
use Rattle.txn_model.specs.Full.{full_log}
use Rattle.txn_model.specs.Names.{part_of}
use Rattle.txn_model.specs.Coord.{status_of}
use Rattle.txn_model.specs.Skeletons.{coord_skeletons}
use Rattle.txn_model.proofs.Laws.Names.{few_names}
use Rattle.txn_coordinator.specs.Calls.{has_part}
use Rattle.txn_coordinator.specs.View.{coord_total}
use Rattle.txn_engine.proofs.AtView.{told_at, tell_at, goes_at, goes_for}
use Rattle.txn_engine.proofs.Begun.{unknown_add_told, foreign_add_told, add_answer, add_fits, added_tellable, added_kept, no_fault_add}
use Rattle.txn_engine.proofs.BegunGoes.{added_goes}
use Rattle.txn_engine.proofs.Coordinators.{engine_with}
use Rattle.txn_engine.proofs.Damage.{unknown_sound, unknown_quiet, added_sound}
use Rattle.txn_engine.proofs.Faults.{named_for, unknown_named, added_named}
use Rattle.txn_engine.proofs.Going.{goes_quiet}
use Rattle.txn_engine.proofs.Reading.{rose_at}
use Rattle.txn_base.specs.declared.request.Request.TheVariants as request
use Rattle.txn_base.specs.declared.reply.Refusal.TheVariants as no
use Rattle.txn_base.specs.declared.reply.Reply.TheVariants as reply
use Rattle.txn_engine.proofs.Early.{no_row, its_row}
use Rattle.txn_engine.proofs.Rows.{unknown_add, foreign_add, early_add}
use Rattle.txn_engine.proofs.engine.Engine.add.Goals as goal

fits32 : (p n : ℕ) → p ≤ n → n ≤ 62 → Fits w32 p
fits32 p n h k = omega (arith, h, k)

known_in : (v : EngineView) (names : List (List ℕ)) (part : List ℕ) (found : Option ℕ) → names ≡ v.names → found ≡ part_of names part → part_of v.names part ≡ found
known_in v names part found e h = ap (λ (ns : List (List ℕ)). part_of ns part) (sym e) ∙ sym h

pub returns-in_default-clause-told : goal.returns-in_default-clause-told
returns-in_default-clause-told g c = λ tells tied now.
    unknown_add_told c.args.self.now _ _ (g.D.Disk.part_faults c.args.disk.now) (g.D.Disk.part_faults c.args.disk.now) c.args.txn c.args.part.now now
    (known_in c.args.self.now c.deref.result.now c.args.part.now c.part_of.result (c.deref.ensures.value ∙ ap (λ (v : EngineView). v.names) c.self.view_is) c.part_of.ensures.value ∙ c.in_default.is) c.unknown_part.result c.unknown_part.ensures

pub returns-then-txn-ne0-clause-told : goal.returns-then-txn-ne0-clause-told
returns-then-txn-ne0-clause-told g c = λ tells tied now.
    foreign_add_told c.args.self.now _ _ (g.D.Disk.part_faults c.args.disk.now) (g.D.Disk.part_faults c.args.disk.now) c.args.txn c.args.part.now now c.in-Some.number
    (known_in c.args.self.now c.deref.result.now c.args.part.now c.part_of.result (c.deref.ensures.value ∙ ap (λ (v : EngineView). v.names) c.self.view_is) c.part_of.ensures.value ∙ c.in-Some.is) (grind (arith, nat_tests, c.if-txn-ne0.true))

pub overflow_cast-number : goal.overflow_cast-number
overflow_cast-number g c = fits32 c.in-Some.number (length c.self.inside.names.items) (subst (λ (ns : List (List ℕ)). c.in-Some.number ≤ length ns) c.deref.ensures.value c.in-Some.ensures.within.1) (few_names c.self.inside.names.items c.self.invariant.names)

pub add-added-requires-clause-most : goal.add-added-requires-clause-most
add-added-requires-clause-most g c =
    subst (λ (n : ℕ). c.in-Some.number ≤ n) (sym c.self.invariant.coord.named_is) (subst (λ (ns : List (List ℕ)). c.in-Some.number ≤ length ns) c.deref.ensures.value c.in-Some.ensures.within.1)

pub invariant_of-self : goal.invariant_of-self
invariant_of-self g c =
    engine_with _ c.self.invariant c.add-added.new.self
    (added_kept _ c.self.invariant (subst (λ (v : EngineView). IsTrue v.coord.whole) (sym c.self.view_is) c.requires.whole) c.args.txn c.in-Some.number c.in-Some.ensures.within.0
    (subst (λ (ns : List (List ℕ)). c.in-Some.number ≤ length ns) c.deref.ensures.value c.in-Some.ensures.within.1) c.add-added.result c.add-added.new.self c.add-added.ensures.refused c.add-added.ensures.ok c.add-added.ensures.fault c.add-added.ensures.same)
    c.self.inside.latest c.self.invariant.latest

pub returns-clause-told : goal.returns-clause-told
returns-clause-told g c = λ tells tied now.
    let within = subst (λ (ns : List (List ℕ)). c.in-Some.number ≤ length ns) c.deref.ensures.value c.in-Some.ensures.within.1 in
    told_at _ _ (g.D.Disk.part_faults c.args.disk.now) (g.D.Disk.part_faults c.add-added.new.disk) _ _ _ _ _ _ c.self.view_is
    (tell_at _ _ (g.D.Disk.part_faults c.args.disk.now) (g.D.Disk.part_faults c.add-added.new.disk) _ _ _ _ _ _ (sym c.added_reply.ensures)
    (add_answer _ _ _ (g.D.Disk.part_faults c.args.disk.now) (g.D.Disk.part_faults c.add-added.new.disk) c.args.txn c.args.part.now now
    c.self.invariant (subst (λ (v : EngineView). IsTrue v.coord.whole) (sym c.self.view_is) c.requires.whole) (subst IsTied (sym c.self.view_is) tied) c.in-Some.number (ap (λ (ns : List (List ℕ)). part_of ns c.args.part.now) (sym c.deref.ensures.value) ∙ sym c.part_of.ensures.value ∙ c.in-Some.is) (grind (arith, nat_tests, c.if-txn-ne0.false))
    c.add-added.result c.add-added.new.self
    (add_fits c.args.txn c.in-Some.number (length c.self.inside.names.items) (search rules) (search rules) c.in-Some.ensures.within.0 within (few_names c.self.inside.names.items c.self.invariant.names))
    c.add-added.ensures.refused c.add-added.ensures.repeated c.add-added.ensures.ok c.add-added.ensures.fault c.add-added.ensures.same c.add-added.ensures.cause))

pub returns-clause-tellable : goal.returns-clause-tellable
returns-clause-tellable g c = subst IsTellable (sym c.added_reply.ensures) (added_tellable c.add-added.result)

pub returns-clause-goes : goal.returns-clause-goes
returns-clause-goes g c =
    let within = subst (λ (ns : List (List ℕ)). c.in-Some.number ≤ length ns) c.deref.ensures.value c.in-Some.ensures.within.1 in
    goes_at g.D.Disk _ _ _ _ c.args.disk.now c.add-added.new.disk c.self.view_is
    (goes_for g.D.Disk _ _ _ _ c.args.disk.now c.add-added.new.disk (sym c.added_reply.ensures)
    (added_goes g.D.Disk _ c.self.invariant (subst (λ (v : EngineView). IsTrue v.coord.whole) (sym c.self.view_is) c.requires.whole) c.args.disk.now c.add-added.new.disk
    (subst (IsBacked (g.D.Disk.image c.args.disk.now)) (sym c.self.view_is) c.requires.backed) c.args.txn c.args.part.now c.in-Some.number
    (ap (λ (ns : List (List ℕ)). part_of ns c.args.part.now) (sym c.deref.ensures.value) ∙ sym c.part_of.ensures.value ∙ c.in-Some.is) (grind (arith, nat_tests, c.if-txn-ne0.false))
    (no_fault_add (status_of (coord_skeletons c.self.inside.coordinator.front) c.args.txn) (has_part c.self.inside.coordinator c.args.txn c.in-Some.number) (full_log c.self.inside.coordinator.limits (coord_total c.self.inside.coordinator) 1))
    c.add-added.result c.add-added.new.self
    (add_fits c.args.txn c.in-Some.number (length c.self.inside.names.items) (search rules) (search rules) c.in-Some.ensures.within.0 within (few_names c.self.inside.names.items c.self.invariant.names))
    c.add-added.ensures.refused c.add-added.ensures.repeated c.add-added.ensures.nothing c.add-added.ensures.ok c.add-added.ensures.fault c.add-added.ensures.same c.add-added.ensures.unwritten c.add-added.ensures.tied c.add-added.ensures.backed c.add-added.ensures.images c.add-added.ensures.others c.add-added.ensures.cause))

pub returns-in_default-clause-undamaged : goal.returns-in_default-clause-undamaged
returns-in_default-clause-undamaged g c = unknown_sound c.args.part.now c.unknown_part.result c.unknown_part.ensures

pub returns-clause-undamaged : goal.returns-clause-undamaged
returns-clause-undamaged g c = ap is_damage c.added_reply.ensures ∙ added_sound c.add-added.result

pub returns-in_default-clause-named : goal.returns-in_default-clause-named
returns-in_default-clause-named g c = unknown_named c.args.self.now.names (RoseFor (g.D.Disk.faults c.args.disk.now) (g.D.Disk.faults c.args.disk.now) (g.D.Disk.part_faults c.args.disk.now) (g.D.Disk.part_faults c.args.disk.now)) c.args.part.now c.unknown_part.result c.unknown_part.ensures

pub returns-clause-named : goal.returns-clause-named
returns-clause-named g c =
    named_for c.args.self.now.names (RoseFor (g.D.Disk.faults c.args.disk.now) (g.D.Disk.faults c.add-added.new.disk) (g.D.Disk.part_faults c.args.disk.now) (g.D.Disk.part_faults c.add-added.new.disk)) _ _ c.added_reply.ensures
    (added_named c.args.self.now.names (RoseFor (g.D.Disk.faults c.args.disk.now) (g.D.Disk.faults c.add-added.new.disk) (g.D.Disk.part_faults c.args.disk.now) (g.D.Disk.part_faults c.add-added.new.disk)) c.add-added.result (λ e. rose_at _ 0 (g.D.Disk.faults c.args.disk.now) (g.D.Disk.faults c.add-added.new.disk) (g.D.Disk.part_faults c.args.disk.now) (g.D.Disk.part_faults c.add-added.new.disk) c.self.invariant.coord.key (c.add-added.ensures.cause.failed e)))

pub returns-in_default-clause-early : goal.returns-in_default-clause-early
returns-in_default-clause-early g c = its_row c.args.self.now c.args.self.now refl (request.Add c.args.txn c.args.part.now) c.unknown_part.result (no.UnknownPart c.args.part.now) (unknown_add c.args.self.now.limits c.args.self.now c.args.txn c.args.part.now (ap (λ (v : EngineView). part_of v.names c.args.part.now) (sym c.self.view_is) ∙ ap (λ (ns : List (List ℕ)). part_of ns c.args.part.now) (sym c.deref.ensures.value) ∙ sym c.part_of.ensures.value ∙ c.in_default.is)) c.unknown_part.ensures

pub returns-then-txn-ne0-clause-early : goal.returns-then-txn-ne0-clause-early
returns-then-txn-ne0-clause-early g c = its_row c.args.self.now c.args.self.now refl (request.Add c.args.txn c.args.part.now) (reply.No (no.UnknownCoordinator c.args.txn.most)) (no.UnknownCoordinator c.args.txn.most) (foreign_add c.args.self.now.limits c.args.self.now c.args.txn c.args.part.now c.in-Some.number (ap (λ (v : EngineView). part_of v.names c.args.part.now) (sym c.self.view_is) ∙ ap (λ (ns : List (List ℕ)). part_of ns c.args.part.now) (sym c.deref.ensures.value) ∙ sym c.part_of.ensures.value ∙ c.in-Some.is) (grind (arith, nat_tests, c.if-txn-ne0.true))) (inl refl)

pub returns-clause-early : goal.returns-clause-early
returns-clause-early g c = no_row c.args.self.now c.args.self.now refl (request.Add c.args.txn c.args.part.now) c.added_reply.result (early_add c.args.self.now.limits c.args.self.now c.args.txn c.args.part.now c.in-Some.number (ap (λ (v : EngineView). part_of v.names c.args.part.now) (sym c.self.view_is) ∙ ap (λ (ns : List (List ℕ)). part_of ns c.args.part.now) (sym c.deref.ensures.value) ∙ sym c.part_of.ensures.value ∙ c.in-Some.is) (grind (arith, nat_tests, c.if-txn-ne0.false)))

pub returns-in_default-clause-goes : goal.returns-in_default-clause-goes
returns-in_default-clause-goes g c = goes_quiet g.D.Disk c.unknown_part.result (unknown_quiet c.args.part.now c.unknown_part.result c.unknown_part.ensures) c.args.self.now c.args.disk.now c.requires.backed

pub returns-then-txn-ne0-clause-goes : goal.returns-then-txn-ne0-clause-goes
returns-then-txn-ne0-clause-goes g c = goes_quiet g.D.Disk (reply.No (no.UnknownCoordinator c.args.txn.most)) refl c.args.self.now c.args.disk.now c.requires.backed

pub returns-in_default-new-clause-goes : goal.returns-in_default-new-clause-goes
returns-in_default-new-clause-goes g c = goes_quiet g.D.Disk (reply.No no.NoMemory) refl c.args.self.now c.args.disk.now c.requires.backed
