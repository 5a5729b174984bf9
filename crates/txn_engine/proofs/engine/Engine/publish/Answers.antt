use Rattle.std.proofs.Common.{rules, ◌∙◌, sym, ap, subst, refl, ℕ, ◌<◌, ◌≤◌, length, List, All, IsUtf8, arith, inl}
use Rattle.txn_base.specs.Moves.{After}
use Rattle.txn_base.specs.Bytes.{contents_of}
use Rattle.txn_base.specs.declared.reply.Reply.TheVariants as reply
use Rattle.txn_base.specs.Content.{Appends}
use Rattle.txn_buffer.specs.Adding.{messages_of}
use Rattle.txn_buffer.specs.View.{topic_batch}
use Rattle.txn_ledger.specs.Ledger.{IsFile, StandsIn}
use Rattle.txn_engine.specs.Damage.{is_damage}
use Rattle.txn_engine.specs.Kept.{IsEngine}
use Rattle.txn_engine.specs.Told.{IsTellable, RoseFor}
use Rattle.txn_engine.specs.View.{IsTied, IsBacked, EngineView}
use Rattle.txn_model.specs.EarlyRows.{are_too_big}
use Rattle.txn_model.specs.Names.{part_of}
use Rattle.txn_model.proofs.Laws.Names.{few_names}
use Rattle.txn_engine.proofs.AtView.{told_both, tell_at, told_to, goes_to}
use Rattle.txn_buffer.proofs.Laws.{batch_records}
use Rattle.txn_engine.proofs.Bodies.{are_bodies, count_of}
use Rattle.txn_engine.proofs.Damage.{unknown_sound, unknown_quiet, why_sound, why_quiet, published_sound}
use Rattle.txn_engine.proofs.Going.{goes_quiet}
use Rattle.txn_model.specs.Replies.{is_fault}
use Rattle.txn_engine.proofs.Published.{unknown_publish_told, foreign_publish_told, big_told, why_tellable, publish_tellable, published_told}
use Rattle.txn_engine.proofs.PublishedGoes.{after_call, published_goes, full_here, why_view, why_answer, unmarked_here, free_here, line_here, published_engine, put_is, put_engine}
use Rattle.txn_engine.proofs.Reading.{at_known, backed_at, is_topic_at, whole_known}
use Rattle.txn_engine.proofs.TopicRows.{knows, unknown_publish, foreign_publish, big_publish, early_publish}
use Rattle.txn_engine.proofs.Faults.{named_for, unknown_named, why_named, published_named, topic_rose}
use Rattle.txn_base.specs.declared.request.Request.TheVariants as request
use Rattle.txn_base.specs.declared.reply.Refusal.TheVariants as no
use Rattle.txn_engine.proofs.Early.{no_row, its_row, topic_kind}
use Rattle.txn_engine.proofs.engine.Engine.publish.Goals as goal

below64 : (p n : ℕ) → p ≤ n → n ≤ 62 → p < 64
below64 p n h k = omega (arith, h, k)

pub returns-in_default-clause-told : goal.returns-in_default-clause-told
returns-in_default-clause-told g c = λ tells tied now.
    unknown_publish_told c.args.self.now _ _ (g.D.Disk.part_faults c.args.disk.now) (g.D.Disk.part_faults c.args.disk.now) c.args.topic.now c.args.txn c.args.bodies.now now
    (ap (λ (v : EngineView). part_of v.names c.args.topic.now) (sym c.self.view_is) ∙ ap (λ (ns : List (List ℕ)). part_of ns c.args.topic.now) (sym c.deref.ensures.value) ∙ sym c.part_of.ensures.value ∙ c.in_default.is) c.unknown_part.result c.unknown_part.ensures

pub returns-in-Some-foreign-clause-told : goal.returns-in-Some-foreign-clause-told
returns-in-Some-foreign-clause-told g c = λ tells tied now.
    foreign_publish_told c.args.self.now _ _ (g.D.Disk.part_faults c.args.disk.now) (g.D.Disk.part_faults c.args.disk.now) c.args.topic.now c.args.txn c.args.bodies.now now (subst IsEngine c.self.view_is c.self.invariant) c.in-Some.number (ap (λ (v : EngineView). part_of v.names c.args.topic.now) (sym c.self.view_is) ∙ ap (λ (ns : List (List ℕ)). part_of ns c.args.topic.now) (sym c.deref.ensures.value) ∙ sym c.part_of.ensures.value ∙ c.in-Some.is) c.in-Some-foreign.number (sym c.foreign.ensures ∙ c.in-Some-foreign.is)

pub returns-then-are_too_big-clause-told : goal.returns-then-are_too_big-clause-told
returns-then-are_too_big-clause-told g c = λ tells tied now.
    told_both _ _ (g.D.Disk.part_faults c.args.disk.now) (g.D.Disk.part_faults c.args.disk.now) _ _ _ _ _ c.self.view_is
    (big_told _ _ _ (g.D.Disk.part_faults c.args.disk.now) (g.D.Disk.part_faults c.args.disk.now) c.args.topic.now c.args.txn c.args.bodies.now now c.self.invariant c.in-Some.number (ap (λ (ns : List (List ℕ)). part_of ns c.args.topic.now) (sym c.deref.ensures.value) ∙ sym c.part_of.ensures.value ∙ c.in-Some.is) (sym c.foreign.ensures ∙ c.in_default-foreign.is) (sym (ap (are_too_big c.self.inside.limits) c.as_slice.ensures) ∙ sym c.are_too_big.ensures ∙ c.if-are_too_big.true))

pub why_not-requires-clause-few : goal.why_not-requires-clause-few
why_not-requires-clause-few g c = below64 c.in-Some.number (length c.self.inside.names.items) (subst (λ (ns : List (List ℕ)). c.in-Some.number ≤ length ns) c.deref.ensures.value c.in-Some.ensures.within.1) (few_names c.self.inside.names.items c.self.invariant.names)

pub returns-in-Some-why_not-clause-told : goal.returns-in-Some-why_not-clause-told
returns-in-Some-why_not-clause-told g c = λ tells tied now.
    told_both _ _ (g.D.Disk.part_faults c.args.disk.now) (g.D.Disk.part_faults c.args.disk.now) _ _ _ _ _ c.self.view_is
    (tell_at _ _ (g.D.Disk.part_faults c.args.disk.now) (g.D.Disk.part_faults c.args.disk.now) _ _ _ _ _ _ (ap (λ x. reply.No x) (sym c.why_refusal.ensures))
    (why_answer _ c.self.invariant c.args.topic.now c.args.txn c.args.bodies.now c.in-Some.number
    (line_here _ _ c.self.view_is c.args.topic.now c.args.txn c.args.bodies.now c.in-Some.number _ (ap (λ (ns : List (List ℕ)). part_of ns c.args.topic.now) (sym c.deref.ensures.value) ∙ sym c.part_of.ensures.value ∙ c.in-Some.is) (sym c.foreign.ensures ∙ c.in_default-foreign.is) (sym (ap (are_too_big c.self.inside.limits) c.as_slice.ensures) ∙ sym c.are_too_big.ensures ∙ c.if-are_too_big.false) refl c.requires.log c.requires.whole)
    (subst IsTied (sym c.self.view_is) tied) _ _ (g.D.Disk.part_faults c.args.disk.now) (g.D.Disk.part_faults c.args.disk.now) now c.why_not.result c.in-Some-why_not.why (why_view _ c.args.self.now c.in-Some.number c.args.txn c.why_not.result c.self.view_is c.why_not.ensures) c.in-Some-why_not.is))

pub returns-in-Some-why_not-clause-tellable : goal.returns-in-Some-why_not-clause-tellable
returns-in-Some-why_not-clause-tellable g c = subst (λ x. IsTellable (reply.No x)) (sym c.why_refusal.ensures) (why_tellable _ c.self.invariant c.args.topic.now c.in-Some.number (ap (λ (ns : List (List ℕ)). part_of ns c.args.topic.now) (sym c.deref.ensures.value) ∙ sym c.part_of.ensures.value ∙ c.in-Some.is) c.in-Some-why_not.why)

pub add_messages-published-requires-clause-unmarked : goal.add_messages-published-requires-clause-unmarked
add_messages-published-requires-clause-unmarked g c =
    let found = knows _ c.self.invariant c.args.topic.now c.in-Some.number (ap (λ (ns : List (List ℕ)). part_of ns c.args.topic.now) (sym c.deref.ensures.value) ∙ sym c.part_of.ensures.value ∙ c.in-Some.is) in
    unmarked_here _ _ _ found c.args.txn c.why_not.result c.index_mut.result.now c.index_mut.ensures.value (why_view _ c.args.self.now c.in-Some.number c.args.txn c.why_not.result c.self.view_is c.why_not.ensures) c.in_default-why_not.is

pub add_messages-published-requires-clause-bodies : goal.add_messages-published-requires-clause-bodies
add_messages-published-requires-clause-bodies g c =
    let found = knows _ c.self.invariant c.args.topic.now c.in-Some.number (ap (λ (ns : List (List ℕ)). part_of ns c.args.topic.now) (sym c.deref.ensures.value) ∙ sym c.part_of.ensures.value ∙ c.in-Some.is) in
    are_bodies c.self.inside.limits c.index_mut.result.now.limits c.args.bodies.now (contents_of c.deref-2.result.now) (is_topic_at _ c.self.invariant _ _ found.below (at_known _ _ _ _ found _ c.index_mut.ensures.value)).limits_are c.self.invariant.range (ap contents_of c.deref-2.ensures.value ∙ c.in-Ok-bytes_of.ensures.copies ∙ c.as_slice-2.ensures)
    (subst (λ (x : List (List ℕ)). All IsUtf8 x) c.as_slice-2.ensures c.in-Ok-bytes_of.ensures.texts) (sym (ap (are_too_big c.self.inside.limits) c.as_slice.ensures) ∙ sym c.are_too_big.ensures ∙ c.if-are_too_big.false) c.requires.some

pub add_messages-published-requires-clause-backed : goal.add_messages-published-requires-clause-backed
add_messages-published-requires-clause-backed g c =
    let found = knows _ c.self.invariant c.args.topic.now c.in-Some.number (ap (λ (ns : List (List ℕ)). part_of ns c.args.topic.now) (sym c.deref.ensures.value) ∙ sym c.part_of.ensures.value ∙ c.in-Some.is) in
    backed_at (g.D.Disk.image c.args.disk.now) _ _ _ _ found _ c.index_mut.ensures.value (subst (IsBacked (g.D.Disk.image c.args.disk.now)) (sym c.self.view_is) c.requires.backed)

pub invariant_of-self : goal.invariant_of-self
invariant_of-self g c =
    let found = knows _ c.self.invariant c.args.topic.now c.in-Some.number (ap (λ (ns : List (List ℕ)). part_of ns c.args.topic.now) (sym c.deref.ensures.value) ∙ sym c.part_of.ensures.value ∙ c.in-Some.is) in
    put_engine _ _ _ _ found c.add_messages-published.new.topic
    (published_engine _ c.self.invariant c.args.topic.now c.args.txn c.args.bodies.now c.in-Some.number c.index_mut.result.now c.add_messages-published.new.topic
    (line_here _ _ c.self.view_is c.args.topic.now c.args.txn c.args.bodies.now c.in-Some.number c.index_mut.result.now (ap (λ (ns : List (List ℕ)). part_of ns c.args.topic.now) (sym c.deref.ensures.value) ∙ sym c.part_of.ensures.value ∙ c.in-Some.is) (sym c.foreign.ensures ∙ c.in_default-foreign.is) (sym (ap (are_too_big c.self.inside.limits) c.as_slice.ensures) ∙ sym c.are_too_big.ensures ∙ c.if-are_too_big.false) (at_known _ _ _ _ found _ c.index_mut.ensures.value) c.requires.log c.requires.whole)
    c.add_messages-published.result (after_call c.index_mut.result.now c.add_messages-published.new.topic c.args.txn (contents_of c.deref-2.result.now) c.args.bodies.now c.add_messages-published.result _ c.args.disk.now c.add_messages-published.new.disk (ap contents_of c.deref-2.ensures.value ∙ c.in-Ok-bytes_of.ensures.copies ∙ c.as_slice-2.ensures) c.add_messages-published.ensures.ok c.add_messages-published.ensures.fault c.add_messages-published.ensures.refused c.add_messages-published.ensures.no_memory c.add_messages-published.ensures.not_damaged))

pub returns-clause-told : goal.returns-clause-told
returns-clause-told g c = λ tells tied now.
    let found = knows _ c.self.invariant c.args.topic.now c.in-Some.number (ap (λ (ns : List (List ℕ)). part_of ns c.args.topic.now) (sym c.deref.ensures.value) ∙ sym c.part_of.ensures.value ∙ c.in-Some.is) in
    told_to _ _ (g.D.Disk.part_faults c.args.disk.now) (g.D.Disk.part_faults c.add_messages-published.new.disk) _ _ _ _ _ _ _ c.self.view_is (sym c.publish_reply.ensures) (put_is _ _ _ _ found c.add_messages-published.new.topic)
    (published_told _ c.self.invariant c.args.topic.now c.args.txn c.args.bodies.now c.in-Some.number c.index_mut.result.now
    (line_here _ _ c.self.view_is c.args.topic.now c.args.txn c.args.bodies.now c.in-Some.number c.index_mut.result.now (ap (λ (ns : List (List ℕ)). part_of ns c.args.topic.now) (sym c.deref.ensures.value) ∙ sym c.part_of.ensures.value ∙ c.in-Some.is) (sym c.foreign.ensures ∙ c.in_default-foreign.is) (sym (ap (are_too_big c.self.inside.limits) c.as_slice.ensures) ∙ sym c.are_too_big.ensures ∙ c.if-are_too_big.false) (at_known _ _ _ _ found _ c.index_mut.ensures.value) c.requires.log c.requires.whole)
    (free_here _ _ _ found c.args.txn c.why_not.result c.index_mut.result.now c.index_mut.ensures.value (why_view _ c.args.self.now c.in-Some.number c.args.txn c.why_not.result c.self.view_is c.why_not.ensures) c.in_default-why_not.is) c.requires.some (subst IsTied (sym c.self.view_is) tied) _ _ (g.D.Disk.part_faults c.args.disk.now) (g.D.Disk.part_faults c.add_messages-published.new.disk) now
    (batch_records c.self.inside.limits c.self.invariant.range c.args.txn (search rules) c.args.bodies.now (are_bodies c.self.inside.limits c.self.inside.limits c.args.bodies.now c.args.bodies.now refl c.self.invariant.range refl (subst (λ (x : List (List ℕ)). All IsUtf8 x) c.as_slice-2.ensures c.in-Ok-bytes_of.ensures.texts) (sym (ap (are_too_big c.self.inside.limits) c.as_slice.ensures) ∙ sym c.are_too_big.ensures ∙ c.if-are_too_big.false) c.requires.some).each)
    c.add_messages-published.new.topic c.add_messages-published.result c.len-2.result (after_call c.index_mut.result.now c.add_messages-published.new.topic c.args.txn (contents_of c.deref-2.result.now) c.args.bodies.now c.add_messages-published.result _ c.args.disk.now c.add_messages-published.new.disk (ap contents_of c.deref-2.ensures.value ∙ c.in-Ok-bytes_of.ensures.copies ∙ c.as_slice-2.ensures) c.add_messages-published.ensures.ok c.add_messages-published.ensures.fault c.add_messages-published.ensures.refused c.add_messages-published.ensures.no_memory c.add_messages-published.ensures.not_damaged) c.len-2.ensures c.add_messages-published.ensures.first (full_here c.self.inside.limits _ _ _ c.args.bodies.now _ (is_topic_at _ c.self.invariant _ _ found.below (at_known _ _ _ _ found _ c.index_mut.ensures.value)).limits_are (count_of c.deref-2.result.now c.args.bodies.now (ap contents_of c.deref-2.ensures.value ∙ c.in-Ok-bytes_of.ensures.copies ∙ c.as_slice-2.ensures)) c.add_messages-published.ensures.full) c.add_messages-published.ensures.count c.add_messages-published.ensures.cause)

pub returns-clause-tellable : goal.returns-clause-tellable
returns-clause-tellable g c = subst IsTellable (sym c.publish_reply.ensures) (publish_tellable _ c.self.invariant c.args.topic.now c.in-Some.number _ (ap (λ (ns : List (List ℕ)). part_of ns c.args.topic.now) (sym c.deref.ensures.value) ∙ sym c.part_of.ensures.value ∙ c.in-Some.is) c.add_messages-published.result)

pub returns-clause-goes : goal.returns-clause-goes
returns-clause-goes g c =
    let found = knows _ c.self.invariant c.args.topic.now c.in-Some.number (ap (λ (ns : List (List ℕ)). part_of ns c.args.topic.now) (sym c.deref.ensures.value) ∙ sym c.part_of.ensures.value ∙ c.in-Some.is) in
    goes_to g.D.Disk _ _ _ _ _ _ c.args.disk.now c.add_messages-published.new.disk c.self.view_is (sym c.publish_reply.ensures) (put_is _ _ _ _ found c.add_messages-published.new.topic)
    (published_goes g.D.Disk _ c.self.invariant c.args.disk.now c.add_messages-published.new.disk (subst (IsBacked (g.D.Disk.image c.args.disk.now)) (sym c.self.view_is) c.requires.backed) c.args.topic.now c.args.txn c.args.bodies.now c.in-Some.number c.index_mut.result.now
    (line_here _ _ c.self.view_is c.args.topic.now c.args.txn c.args.bodies.now c.in-Some.number c.index_mut.result.now (ap (λ (ns : List (List ℕ)). part_of ns c.args.topic.now) (sym c.deref.ensures.value) ∙ sym c.part_of.ensures.value ∙ c.in-Some.is) (sym c.foreign.ensures ∙ c.in_default-foreign.is) (sym (ap (are_too_big c.self.inside.limits) c.as_slice.ensures) ∙ sym c.are_too_big.ensures ∙ c.if-are_too_big.false) (at_known _ _ _ _ found _ c.index_mut.ensures.value) c.requires.log c.requires.whole)
    (free_here _ _ _ found c.args.txn c.why_not.result c.index_mut.result.now c.index_mut.ensures.value (why_view _ c.args.self.now c.in-Some.number c.args.txn c.why_not.result c.self.view_is c.why_not.ensures) c.in_default-why_not.is) c.requires.some
    c.add_messages-published.new.topic c.add_messages-published.result _ (after_call c.index_mut.result.now c.add_messages-published.new.topic c.args.txn (contents_of c.deref-2.result.now) c.args.bodies.now c.add_messages-published.result _ c.args.disk.now c.add_messages-published.new.disk (ap contents_of c.deref-2.ensures.value ∙ c.in-Ok-bytes_of.ensures.copies ∙ c.as_slice-2.ensures) c.add_messages-published.ensures.ok c.add_messages-published.ensures.fault c.add_messages-published.ensures.refused c.add_messages-published.ensures.no_memory c.add_messages-published.ensures.not_damaged) (full_here c.self.inside.limits _ _ _ c.args.bodies.now _ (is_topic_at _ c.self.invariant _ _ found.below (at_known _ _ _ _ found _ c.index_mut.ensures.value)).limits_are (count_of c.deref-2.result.now c.args.bodies.now (ap contents_of c.deref-2.ensures.value ∙ c.in-Ok-bytes_of.ensures.copies ∙ c.as_slice-2.ensures)) c.add_messages-published.ensures.full) (batch_records c.self.inside.limits c.self.invariant.range c.args.txn (search rules) c.args.bodies.now (are_bodies c.self.inside.limits c.self.inside.limits c.args.bodies.now c.args.bodies.now refl c.self.invariant.range refl (subst (λ (x : List (List ℕ)). All IsUtf8 x) c.as_slice-2.ensures c.in-Ok-bytes_of.ensures.texts) (sym (ap (are_too_big c.self.inside.limits) c.as_slice.ensures) ∙ sym c.are_too_big.ensures ∙ c.if-are_too_big.false) c.requires.some).each) (λ n e. (c.add_messages-published.ensures.refused n e).1) (λ e. (c.add_messages-published.ensures.no_memory e).1) c.add_messages-published.ensures.tied c.add_messages-published.ensures.backed (subst (λ (bs : List (List ℕ)). After g.D.Disk (Appends IsFile StandsIn c.index_mut.result.now.content (topic_batch (messages_of c.args.txn bs))) c.args.disk.now c.add_messages-published.new.disk) (ap contents_of c.deref-2.ensures.value ∙ c.in-Ok-bytes_of.ensures.copies ∙ c.as_slice-2.ensures) c.add_messages-published.ensures.images) c.add_messages-published.ensures.others c.add_messages-published.ensures.cause)

pub returns-in_default-clause-undamaged : goal.returns-in_default-clause-undamaged
returns-in_default-clause-undamaged g c = unknown_sound c.args.topic.now c.unknown_part.result c.unknown_part.ensures

pub returns-in-Some-why_not-clause-undamaged : goal.returns-in-Some-why_not-clause-undamaged
returns-in-Some-why_not-clause-undamaged g c = ap (λ row. is_damage (reply.No row)) c.why_refusal.ensures ∙ why_sound c.args.topic.now c.in-Some-why_not.why

pub returns-clause-undamaged : goal.returns-clause-undamaged
returns-clause-undamaged g c = ap is_damage c.publish_reply.ensures ∙ published_sound c.args.topic.now c.len-2.result c.add_messages-published.result c.add_messages-published.ensures.not_damaged

pub returns-in_default-clause-named : goal.returns-in_default-clause-named
returns-in_default-clause-named g c = unknown_named c.args.self.now.names (RoseFor (g.D.Disk.faults c.args.disk.now) (g.D.Disk.faults c.args.disk.now) (g.D.Disk.part_faults c.args.disk.now) (g.D.Disk.part_faults c.args.disk.now)) c.args.topic.now c.unknown_part.result c.unknown_part.ensures

pub returns-in-Some-why_not-clause-named : goal.returns-in-Some-why_not-clause-named
returns-in-Some-why_not-clause-named g c =
    named_for c.args.self.now.names (RoseFor (g.D.Disk.faults c.args.disk.now) (g.D.Disk.faults c.args.disk.now) (g.D.Disk.part_faults c.args.disk.now) (g.D.Disk.part_faults c.args.disk.now)) _ _ (ap (λ row. reply.No row) c.why_refusal.ensures) (why_named c.args.self.now.names (RoseFor (g.D.Disk.faults c.args.disk.now) (g.D.Disk.faults c.args.disk.now) (g.D.Disk.part_faults c.args.disk.now) (g.D.Disk.part_faults c.args.disk.now)) c.args.topic.now c.in-Some-why_not.why)

pub returns-clause-named : goal.returns-clause-named
returns-clause-named g c =
    named_for c.args.self.now.names (RoseFor (g.D.Disk.faults c.args.disk.now) (g.D.Disk.faults c.add_messages-published.new.disk) (g.D.Disk.part_faults c.args.disk.now) (g.D.Disk.part_faults c.add_messages-published.new.disk)) _ _ c.publish_reply.ensures
    (published_named c.args.self.now.names (RoseFor (g.D.Disk.faults c.args.disk.now) (g.D.Disk.faults c.add_messages-published.new.disk) (g.D.Disk.part_faults c.args.disk.now) (g.D.Disk.part_faults c.add_messages-published.new.disk)) c.args.topic.now c.len-2.result c.add_messages-published.result
    (λ e. topic_rose _ c.args.self.now c.self.view_is c.self.invariant (g.D.Disk.faults c.args.disk.now) (g.D.Disk.faults c.add_messages-published.new.disk) (g.D.Disk.part_faults c.args.disk.now) (g.D.Disk.part_faults c.add_messages-published.new.disk) c.args.topic.now c.in-Some.number (ap (λ (ns : List (List ℕ)). part_of ns c.args.topic.now) (sym c.deref.ensures.value) ∙ sym c.part_of.ensures.value ∙ c.in-Some.is) c.index_mut.result.now c.index_mut.ensures.value (c.add_messages-published.ensures.cause.failed e) c.args.topic.now refl))

pub returns-in_default-clause-early : goal.returns-in_default-clause-early
returns-in_default-clause-early g c = its_row c.args.self.now c.args.self.now refl (request.Publish c.args.topic.now c.args.txn c.args.bodies.now) c.unknown_part.result (no.UnknownPart c.args.topic.now) (unknown_publish c.args.self.now.limits c.args.self.now c.args.topic.now c.args.bodies.now c.args.txn (ap (λ (v : EngineView). part_of v.names c.args.topic.now) (sym c.self.view_is) ∙ ap (λ (ns : List (List ℕ)). part_of ns c.args.topic.now) (sym c.deref.ensures.value) ∙ sym c.part_of.ensures.value ∙ c.in_default.is)) c.unknown_part.ensures

pub returns-in-Some-foreign-clause-early : goal.returns-in-Some-foreign-clause-early
returns-in-Some-foreign-clause-early g c = its_row c.args.self.now c.args.self.now refl (request.Publish c.args.topic.now c.args.txn c.args.bodies.now) (reply.No (no.UnknownCoordinator c.in-Some-foreign.number)) (no.UnknownCoordinator c.in-Some-foreign.number) (foreign_publish c.args.self.now.limits c.args.self.now c.args.topic.now c.args.bodies.now c.args.txn c.in-Some.number c.in-Some-foreign.number (ap (λ (v : EngineView). part_of v.names c.args.topic.now) (sym c.self.view_is) ∙ ap (λ (ns : List (List ℕ)). part_of ns c.args.topic.now) (sym c.deref.ensures.value) ∙ sym c.part_of.ensures.value ∙ c.in-Some.is) (topic_kind c.args.self.now (subst IsEngine c.self.view_is c.self.invariant) c.args.topic.now c.in-Some.number (ap (λ (v : EngineView). part_of v.names c.args.topic.now) (sym c.self.view_is) ∙ ap (λ (ns : List (List ℕ)). part_of ns c.args.topic.now) (sym c.deref.ensures.value) ∙ sym c.part_of.ensures.value ∙ c.in-Some.is)) (sym c.foreign.ensures ∙ c.in-Some-foreign.is)) (inl refl)

pub returns-then-are_too_big-clause-early : goal.returns-then-are_too_big-clause-early
returns-then-are_too_big-clause-early g c = its_row c.args.self.now c.args.self.now refl (request.Publish c.args.topic.now c.args.txn c.args.bodies.now) (reply.No no.TooBig) no.TooBig (big_publish c.args.self.now.limits c.args.self.now c.args.topic.now c.args.bodies.now c.args.txn c.in-Some.number (ap (λ (v : EngineView). part_of v.names c.args.topic.now) (sym c.self.view_is) ∙ ap (λ (ns : List (List ℕ)). part_of ns c.args.topic.now) (sym c.deref.ensures.value) ∙ sym c.part_of.ensures.value ∙ c.in-Some.is) (topic_kind c.args.self.now (subst IsEngine c.self.view_is c.self.invariant) c.args.topic.now c.in-Some.number (ap (λ (v : EngineView). part_of v.names c.args.topic.now) (sym c.self.view_is) ∙ ap (λ (ns : List (List ℕ)). part_of ns c.args.topic.now) (sym c.deref.ensures.value) ∙ sym c.part_of.ensures.value ∙ c.in-Some.is)) (sym c.foreign.ensures ∙ c.in_default-foreign.is) (ap (λ (v : EngineView). are_too_big v.limits c.args.bodies.now) (sym c.self.view_is) ∙ sym (ap (are_too_big c.self.inside.limits) c.as_slice.ensures) ∙ sym c.are_too_big.ensures ∙ c.if-are_too_big.true)) (inl refl)

pub returns-in-Some-why_not-clause-early : goal.returns-in-Some-why_not-clause-early
returns-in-Some-why_not-clause-early g c = no_row c.args.self.now c.args.self.now refl (request.Publish c.args.topic.now c.args.txn c.args.bodies.now) (reply.No c.why_refusal.result) (early_publish c.args.self.now.limits c.args.self.now c.args.topic.now c.args.bodies.now c.args.txn c.in-Some.number (ap (λ (v : EngineView). part_of v.names c.args.topic.now) (sym c.self.view_is) ∙ ap (λ (ns : List (List ℕ)). part_of ns c.args.topic.now) (sym c.deref.ensures.value) ∙ sym c.part_of.ensures.value ∙ c.in-Some.is) (topic_kind c.args.self.now (subst IsEngine c.self.view_is c.self.invariant) c.args.topic.now c.in-Some.number (ap (λ (v : EngineView). part_of v.names c.args.topic.now) (sym c.self.view_is) ∙ ap (λ (ns : List (List ℕ)). part_of ns c.args.topic.now) (sym c.deref.ensures.value) ∙ sym c.part_of.ensures.value ∙ c.in-Some.is)) (sym c.foreign.ensures ∙ c.in_default-foreign.is) (ap (λ (v : EngineView). are_too_big v.limits c.args.bodies.now) (sym c.self.view_is) ∙ sym (ap (are_too_big c.self.inside.limits) c.as_slice.ensures) ∙ sym c.are_too_big.ensures ∙ c.if-are_too_big.false))

pub returns-clause-early : goal.returns-clause-early
returns-clause-early g c = no_row c.args.self.now c.args.self.now refl (request.Publish c.args.topic.now c.args.txn c.args.bodies.now) c.publish_reply.result (early_publish c.args.self.now.limits c.args.self.now c.args.topic.now c.args.bodies.now c.args.txn c.in-Some.number (ap (λ (v : EngineView). part_of v.names c.args.topic.now) (sym c.self.view_is) ∙ ap (λ (ns : List (List ℕ)). part_of ns c.args.topic.now) (sym c.deref.ensures.value) ∙ sym c.part_of.ensures.value ∙ c.in-Some.is) (topic_kind c.args.self.now (subst IsEngine c.self.view_is c.self.invariant) c.args.topic.now c.in-Some.number (ap (λ (v : EngineView). part_of v.names c.args.topic.now) (sym c.self.view_is) ∙ ap (λ (ns : List (List ℕ)). part_of ns c.args.topic.now) (sym c.deref.ensures.value) ∙ sym c.part_of.ensures.value ∙ c.in-Some.is)) (sym c.foreign.ensures ∙ c.in_default-foreign.is) (ap (λ (v : EngineView). are_too_big v.limits c.args.bodies.now) (sym c.self.view_is) ∙ sym (ap (are_too_big c.self.inside.limits) c.as_slice.ensures) ∙ sym c.are_too_big.ensures ∙ c.if-are_too_big.false))

pub returns-in_default-clause-goes : goal.returns-in_default-clause-goes
returns-in_default-clause-goes g c = goes_quiet g.D.Disk c.unknown_part.result (unknown_quiet c.args.topic.now c.unknown_part.result c.unknown_part.ensures) c.args.self.now c.args.disk.now c.requires.backed

pub returns-in-Some-foreign-clause-goes : goal.returns-in-Some-foreign-clause-goes
returns-in-Some-foreign-clause-goes g c = goes_quiet g.D.Disk (reply.No (no.UnknownCoordinator c.in-Some-foreign.number)) refl c.args.self.now c.args.disk.now c.requires.backed

pub returns-then-are_too_big-clause-goes : goal.returns-then-are_too_big-clause-goes
returns-then-are_too_big-clause-goes g c = goes_quiet g.D.Disk (reply.No no.TooBig) refl c.args.self.now c.args.disk.now c.requires.backed

pub returns-in_default-new-clause-goes : goal.returns-in_default-new-clause-goes
returns-in_default-new-clause-goes g c = goes_quiet g.D.Disk (reply.No no.NoMemory) refl c.args.self.now c.args.disk.now c.requires.backed

pub returns-in_default-bytes_of-clause-goes : goal.returns-in_default-bytes_of-clause-goes
returns-in_default-bytes_of-clause-goes g c = goes_quiet g.D.Disk (reply.No no.NoMemory) refl c.args.self.now c.args.disk.now c.requires.backed

pub returns-in-Some-why_not-clause-goes : goal.returns-in-Some-why_not-clause-goes
returns-in-Some-why_not-clause-goes g c = goes_quiet g.D.Disk (reply.No c.why_refusal.result) (ap (λ row. is_fault (reply.No row)) c.why_refusal.ensures ∙ why_quiet c.args.topic.now c.in-Some-why_not.why) c.args.self.now c.args.disk.now c.requires.backed

pub add_messages-published-requires-clause-whole : goal.add_messages-published-requires-clause-whole
add_messages-published-requires-clause-whole g c =
    let known = ap (λ (ns : List (List ℕ)). part_of ns c.args.topic.now) (sym c.deref.ensures.value) ∙ sym c.part_of.ensures.value ∙ c.in-Some.is in
    let found = knows _ c.self.invariant c.args.topic.now c.in-Some.number known in
    whole_known _ _ c.self.view_is _ _ found c.index_mut.result.now c.index_mut.ensures.value c.requires.whole
