use Rattle.std.proofs.Common.{◌∙◌, sym, ap, subst, refl, ℕ, List, Err}
use Rattle.txn_base.specs.declared.request.Request.TheVariants as request
use Rattle.txn_base.proofs.Laws.{begins_with}
use Rattle.txn_ledger.specs.Ledger.{StandsIn, ExactlyIn, BeginsIn}
use Rattle.txn_ledger.specs.LedgerLaws.{begins}
use Rattle.txn_engine.specs.Kept.{IsEngine}
use Rattle.txn_engine.specs.View.{IsTied, IsBacked, IsWholeTopic, EngineView}
use Rattle.txn_model.specs.Names.{part_of}
use Rattle.txn_engine.proofs.AtView.{told_both, goes_both}
use Rattle.txn_engine.proofs.Damage.{none_told, unknown_sound, unknown_quiet, damage_told}
use Rattle.txn_engine.proofs.Going.{goes_quiet}
use Rattle.txn_engine.proofs.Reading.{at_known, backed_at, tied_at, known_name, unknown_read_told, read_answer, read_fault_answer, read_goes}
use Rattle.txn_engine.proofs.TopicRows.{knows, unknown_read, early_read}
use Rattle.txn_engine.specs.Told.{RoseFor}
use Rattle.txn_engine.proofs.Faults.{unknown_named, topic_rose}
use Rattle.txn_base.specs.declared.reply.Refusal.TheVariants as no
use Rattle.txn_base.specs.declared.reply.Reply.TheVariants as reply
use Rattle.txn_engine.proofs.Early.{no_row, its_row, topic_kind}
use Rattle.txn_engine.proofs.engine.Engine.read.Goals as goal

pub returns-in_default-clause-told : goal.returns-in_default-clause-told
returns-in_default-clause-told g c = λ tells tied now.
    unknown_read_told c.args.self.now _ _ (g.D.Disk.part_faults c.args.disk.now) (g.D.Disk.part_faults c.args.disk.now) c.args.topic.now c.args.first c.args.max now
    (ap (λ (v : EngineView). part_of v.names c.args.topic.now) (sym c.self.view_is) ∙ ap (λ (ns : List (List ℕ)). part_of ns c.args.topic.now) (sym c.deref.ensures.value) ∙ sym c.part_of.ensures.value ∙ c.in_default.is) c.unknown_part.result c.unknown_part.ensures

pub returns-in-Ok-read-clause-told : goal.returns-in-Ok-read-clause-told
returns-in-Ok-read-clause-told g c = λ tells tied now.
    let known = ap (λ (ns : List (List ℕ)). part_of ns c.args.topic.now) (sym c.deref.ensures.value) ∙ sym c.part_of.ensures.value ∙ c.in-Some.is in
    let found = knows _ c.self.invariant c.args.topic.now c.in-Some.number known in
    let tie = subst IsTied (sym c.self.view_is) tied in
    let at = at_known _ _ _ _ found _ c.index-part.ensures in
    told_both _ _ (g.D.Disk.part_faults c.args.disk.now) (g.D.Disk.part_faults c.read.new.disk) _ _ _ _ _ c.self.view_is
    (read_answer _ _ _ (g.D.Disk.part_faults c.args.disk.now) (g.D.Disk.part_faults c.read.new.disk) c.args.topic.now c.args.first c.args.max now
    c.self.invariant c.in-Some.number known c.index-part.result.now at (subst (λ (v : EngineView). IsWholeTopic v c.args.topic.now) (sym c.self.view_is) c.requires.whole c.in-Some.number known) tie c.limit-limit.result c.in-Ok-read.messages c.limit-limit.ensures (c.in-Ok-read.ensures.slice tells (tied_at _ _ _ _ found _ c.index-part.ensures tie)))

pub returns-in-Ok-read-clause-goes : goal.returns-in-Ok-read-clause-goes
returns-in-Ok-read-clause-goes g c =
    let known = ap (λ (ns : List (List ℕ)). part_of ns c.args.topic.now) (sym c.deref.ensures.value) ∙ sym c.part_of.ensures.value ∙ c.in-Some.is in
    let found = knows _ c.self.invariant c.args.topic.now c.in-Some.number known in
    goes_both g.D.Disk _ _ _ c.args.disk.now c.read.new.disk c.self.view_is
    (read_goes g.D.Disk c.args.disk.now c.read.new.disk c.in-Ok-read.ensures.images c.in-Ok-read.ensures.seen _ c.self.invariant
    (subst (IsBacked (g.D.Disk.image c.args.disk.now)) (sym c.self.view_is) c.requires.backed) c.args.topic.now c.in-Some.number known c.index-part.result.now (at_known _ _ _ _ found _ c.index-part.ensures) _ _ c.in-Ok-read.ensures.cause (λ h. cc))

pub returns-in-Err-Damaged-clause-tellable : goal.returns-in-Err-Damaged-clause-tellable
returns-in-Err-Damaged-clause-tellable g c short =
    known_name _ c.self.invariant c.args.topic.now c.in-Some.number c.fill.result (ap (λ (ns : List (List ℕ)). part_of ns c.args.topic.now) (sym c.deref.ensures.value) ∙ sym c.part_of.ensures.value ∙ c.in-Some.is) (c.fill.ensures ∙ c.as_str.ensures.value)

pub returns-in-Err-Damaged-clause-goes : goal.returns-in-Err-Damaged-clause-goes
returns-in-Err-Damaged-clause-goes g c =
    let known = ap (λ (ns : List (List ℕ)). part_of ns c.args.topic.now) (sym c.deref.ensures.value) ∙ sym c.part_of.ensures.value ∙ c.in-Some.is in
    let found = knows _ c.self.invariant c.args.topic.now c.in-Some.number known in
    goes_both g.D.Disk _ _ _ c.args.disk.now c.read.new.disk c.self.view_is
    (read_goes g.D.Disk c.args.disk.now c.read.new.disk c.in-Err-Damaged.ensures.images c.in-Err-Damaged.ensures.seen _ c.self.invariant
    (subst (IsBacked (g.D.Disk.image c.args.disk.now)) (sym c.self.view_is) c.requires.backed) c.args.topic.now c.in-Some.number known c.index-part.result.now (at_known _ _ _ _ found _ c.index-part.ensures) _ _ c.in-Err-Damaged.ensures.cause (λ h. cc))

pub returns-in-Err-Fault-clause-told : goal.returns-in-Err-Fault-clause-told
returns-in-Err-Fault-clause-told g c = λ tells tied now.
    let known = ap (λ (ns : List (List ℕ)). part_of ns c.args.topic.now) (sym c.deref.ensures.value) ∙ sym c.part_of.ensures.value ∙ c.in-Some.is in
    let found = knows _ c.self.invariant c.args.topic.now c.in-Some.number known in
    let at = at_known _ _ _ _ found _ c.index-part.ensures in
    told_both _ _ (g.D.Disk.part_faults c.args.disk.now) (g.D.Disk.part_faults c.read.new.disk) _ _ _ _ _ c.self.view_is
    (read_fault_answer _ _ _ (g.D.Disk.part_faults c.args.disk.now) (g.D.Disk.part_faults c.read.new.disk) c.args.topic.now c.args.first c.args.max now
    c.self.invariant c.in-Some.number known c.index-part.result.now at (subst (λ (v : EngineView). IsWholeTopic v c.args.topic.now) (sym c.self.view_is) c.requires.whole c.in-Some.number known) c.fill-in-Err-Fault.result (c.fill-in-Err-Fault.ensures ∙ c.as_str-in-Err-Fault.ensures.value) (c.in-Err-Fault.ensures.cause.failed (ap Err c.in-Err-Fault.field-0-is)))

pub returns-in-Err-Fault-clause-tellable : goal.returns-in-Err-Fault-clause-tellable
returns-in-Err-Fault-clause-tellable g c short =
    known_name _ c.self.invariant c.args.topic.now c.in-Some.number c.fill-in-Err-Fault.result (ap (λ (ns : List (List ℕ)). part_of ns c.args.topic.now) (sym c.deref.ensures.value) ∙ sym c.part_of.ensures.value ∙ c.in-Some.is) (c.fill-in-Err-Fault.ensures ∙ c.as_str-in-Err-Fault.ensures.value)

pub returns-in-Err-Fault-clause-goes : goal.returns-in-Err-Fault-clause-goes
returns-in-Err-Fault-clause-goes g c =
    let known = ap (λ (ns : List (List ℕ)). part_of ns c.args.topic.now) (sym c.deref.ensures.value) ∙ sym c.part_of.ensures.value ∙ c.in-Some.is in
    let found = knows _ c.self.invariant c.args.topic.now c.in-Some.number known in
    goes_both g.D.Disk _ _ _ c.args.disk.now c.read.new.disk c.self.view_is
    (read_goes g.D.Disk c.args.disk.now c.read.new.disk c.in-Err-Fault.ensures.images c.in-Err-Fault.ensures.seen _ c.self.invariant
    (subst (IsBacked (g.D.Disk.image c.args.disk.now)) (sym c.self.view_is) c.requires.backed) c.args.topic.now c.in-Some.number known c.index-part.result.now (at_known _ _ _ _ found _ c.index-part.ensures) _ _ c.in-Err-Fault.ensures.cause (λ h. ap Err c.in-Err-Fault.field-0-is))

pub returns-in-Err-NoMemory-clause-goes : goal.returns-in-Err-NoMemory-clause-goes
returns-in-Err-NoMemory-clause-goes g c =
    let known = ap (λ (ns : List (List ℕ)). part_of ns c.args.topic.now) (sym c.deref.ensures.value) ∙ sym c.part_of.ensures.value ∙ c.in-Some.is in
    let found = knows _ c.self.invariant c.args.topic.now c.in-Some.number known in
    goes_both g.D.Disk _ _ _ c.args.disk.now c.read.new.disk c.self.view_is
    (read_goes g.D.Disk c.args.disk.now c.read.new.disk c.in-Err-NoMemory.ensures.images c.in-Err-NoMemory.ensures.seen _ c.self.invariant
    (subst (IsBacked (g.D.Disk.image c.args.disk.now)) (sym c.self.view_is) c.requires.backed) c.args.topic.now c.in-Some.number known c.index-part.result.now (at_known _ _ _ _ found _ c.index-part.ensures) _ _ c.in-Err-NoMemory.ensures.cause (λ h. cc))

pub returns-in_default-clause-damaged : goal.returns-in_default-clause-damaged
returns-in_default-clause-damaged g c = none_told g.D.Disk.tells c.args.self.now (request.Read c.args.topic.now c.args.first c.args.max) c.unknown_part.result (unknown_sound c.args.topic.now c.unknown_part.result c.unknown_part.ensures)

pub returns-in-Err-Damaged-clause-damaged : goal.returns-in-Err-Damaged-clause-damaged
returns-in-Err-Damaged-clause-damaged g c =
    let is_err = ap Err c.in-Err-Damaged.field-0-is in
    damage_told g.D.Disk.tells _ c.args.self.now c.self.view_is c.self.invariant c.args.topic.now c.args.first c.args.max c.in-Some.number (ap (λ (ns : List (List ℕ)). part_of ns c.args.topic.now) (sym c.deref.ensures.value) ∙ sym c.part_of.ensures.value ∙ c.in-Some.is)
    c.index-part.result.now c.index-part.ensures c.in-Err-Damaged.place (c.in-Err-Damaged.ensures.damaged_place c.in-Err-Damaged.place is_err) (c.in-Err-Damaged.ensures.damaged c.in-Err-Damaged.place is_err) c.fill.result (c.fill.ensures ∙ c.as_str.ensures.value)

pub returns-in_default-clause-named : goal.returns-in_default-clause-named
returns-in_default-clause-named g c = unknown_named c.args.self.now.names (RoseFor (g.D.Disk.faults c.args.disk.now) (g.D.Disk.faults c.args.disk.now) (g.D.Disk.part_faults c.args.disk.now) (g.D.Disk.part_faults c.args.disk.now)) c.args.topic.now c.unknown_part.result c.unknown_part.ensures

pub returns-in-Err-Fault-clause-named : goal.returns-in-Err-Fault-clause-named
returns-in-Err-Fault-clause-named g c =
    topic_rose _ c.args.self.now c.self.view_is c.self.invariant (g.D.Disk.faults c.args.disk.now) (g.D.Disk.faults c.read.new.disk) (g.D.Disk.part_faults c.args.disk.now) (g.D.Disk.part_faults c.read.new.disk) c.args.topic.now c.in-Some.number (ap (λ (ns : List (List ℕ)). part_of ns c.args.topic.now) (sym c.deref.ensures.value) ∙ sym c.part_of.ensures.value ∙ c.in-Some.is)
    c.index-part.result.now c.index-part.ensures (c.in-Err-Fault.ensures.cause.failed (ap Err c.in-Err-Fault.field-0-is)) c.fill-in-Err-Fault.result (c.fill-in-Err-Fault.ensures ∙ c.as_str-in-Err-Fault.ensures.value)

pub returns-in_default-clause-early : goal.returns-in_default-clause-early
returns-in_default-clause-early g c = its_row c.args.self.now c.args.self.now refl (request.Read c.args.topic.now c.args.first c.args.max) c.unknown_part.result (no.UnknownPart c.args.topic.now) (unknown_read c.args.self.now.limits c.args.self.now c.args.topic.now c.args.first c.args.max (ap (λ (v : EngineView). part_of v.names c.args.topic.now) (sym c.self.view_is) ∙ ap (λ (ns : List (List ℕ)). part_of ns c.args.topic.now) (sym c.deref.ensures.value) ∙ sym c.part_of.ensures.value ∙ c.in_default.is)) c.unknown_part.ensures

pub returns-in-Ok-read-clause-early : goal.returns-in-Ok-read-clause-early
returns-in-Ok-read-clause-early g c = no_row c.args.self.now c.args.self.now refl (request.Read c.args.topic.now c.args.first c.args.max) (reply.Read c.limit-limit.result c.in-Ok-read.messages) (early_read c.args.self.now.limits c.args.self.now c.args.topic.now c.args.first c.args.max c.in-Some.number (ap (λ (v : EngineView). part_of v.names c.args.topic.now) (sym c.self.view_is) ∙ ap (λ (ns : List (List ℕ)). part_of ns c.args.topic.now) (sym c.deref.ensures.value) ∙ sym c.part_of.ensures.value ∙ c.in-Some.is) (topic_kind c.args.self.now (subst IsEngine c.self.view_is c.self.invariant) c.args.topic.now c.in-Some.number (ap (λ (v : EngineView). part_of v.names c.args.topic.now) (sym c.self.view_is) ∙ ap (λ (ns : List (List ℕ)). part_of ns c.args.topic.now) (sym c.deref.ensures.value) ∙ sym c.part_of.ensures.value ∙ c.in-Some.is)))

pub returns-in-Err-Damaged-clause-early : goal.returns-in-Err-Damaged-clause-early
returns-in-Err-Damaged-clause-early g c = no_row c.args.self.now c.args.self.now refl (request.Read c.args.topic.now c.args.first c.args.max) (reply.No (no.Damaged c.fill.result c.in-Err-Damaged.place)) (early_read c.args.self.now.limits c.args.self.now c.args.topic.now c.args.first c.args.max c.in-Some.number (ap (λ (v : EngineView). part_of v.names c.args.topic.now) (sym c.self.view_is) ∙ ap (λ (ns : List (List ℕ)). part_of ns c.args.topic.now) (sym c.deref.ensures.value) ∙ sym c.part_of.ensures.value ∙ c.in-Some.is) (topic_kind c.args.self.now (subst IsEngine c.self.view_is c.self.invariant) c.args.topic.now c.in-Some.number (ap (λ (v : EngineView). part_of v.names c.args.topic.now) (sym c.self.view_is) ∙ ap (λ (ns : List (List ℕ)). part_of ns c.args.topic.now) (sym c.deref.ensures.value) ∙ sym c.part_of.ensures.value ∙ c.in-Some.is)))

pub returns-in-Err-Fault-clause-early : goal.returns-in-Err-Fault-clause-early
returns-in-Err-Fault-clause-early g c = no_row c.args.self.now c.args.self.now refl (request.Read c.args.topic.now c.args.first c.args.max) (reply.No (no.Fault c.fill-in-Err-Fault.result)) (early_read c.args.self.now.limits c.args.self.now c.args.topic.now c.args.first c.args.max c.in-Some.number (ap (λ (v : EngineView). part_of v.names c.args.topic.now) (sym c.self.view_is) ∙ ap (λ (ns : List (List ℕ)). part_of ns c.args.topic.now) (sym c.deref.ensures.value) ∙ sym c.part_of.ensures.value ∙ c.in-Some.is) (topic_kind c.args.self.now (subst IsEngine c.self.view_is c.self.invariant) c.args.topic.now c.in-Some.number (ap (λ (v : EngineView). part_of v.names c.args.topic.now) (sym c.self.view_is) ∙ ap (λ (ns : List (List ℕ)). part_of ns c.args.topic.now) (sym c.deref.ensures.value) ∙ sym c.part_of.ensures.value ∙ c.in-Some.is)))

pub read-requires-clause-reads : goal.read-requires-clause-reads
read-requires-clause-reads g c = λ told.
    let known = ap (λ (ns : List (List ℕ)). part_of ns c.args.topic.now) (sym c.deref.ensures.value) ∙ sym c.part_of.ensures.value ∙ c.in-Some.is in
    let found = knows _ c.self.invariant c.args.topic.now c.in-Some.number known in
    let image = g.D.Disk.image c.args.disk.now in
    let backed = backed_at image _ _ _ _ found _ c.index-part.ensures (subst (IsBacked image) (sym c.self.view_is) c.requires.backed) in
    begins_with StandsIn ExactlyIn BeginsIn begins image c.index-part.result.now.content backed _ (g.met.D.Disk.seen_is_image c.args.disk.now told)

pub returns-in_default-clause-goes : goal.returns-in_default-clause-goes
returns-in_default-clause-goes g c = goes_quiet g.D.Disk c.unknown_part.result (unknown_quiet c.args.topic.now c.unknown_part.result c.unknown_part.ensures) c.args.self.now c.args.disk.now c.requires.backed

pub returns-in_default-new-clause-goes : goal.returns-in_default-new-clause-goes
returns-in_default-new-clause-goes g c = goes_quiet g.D.Disk (reply.No no.NoMemory) refl c.args.self.now c.args.disk.now c.requires.backed
