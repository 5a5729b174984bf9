use Rattle.std.proofs.Common.{◌≡◌, ℕ, ◌≤◌, ◌+◌, [], ◌∷◌, ◌++◌, List, min, ap, sym, ◌∙◌, subst, arith}
use Rattle.txn_base.specs.Disk.{Files}
use Rattle.txn_base.specs.declared.messages.Message.{Message}
use Rattle.txn_base.specs.declared.limits.Limits.{Limits}
use Rattle.txn_base.specs.Decoded.{topic_entry_of}
use Rattle.txn_model.specs.Topic.{limit_of}
use Rattle.txn_buffer.specs.declared.slice.Slice.{Slice}
use Rattle.txn_buffer.specs.View.{TopicView}
use Rattle.txn_buffer.proofs.OnlyReading.{reads_none, reads_on, reads_as}
use Rattle.txn_buffer.proofs.SoFar.{IsSoFar, so_far_starts, so_far_goes_on, cut_is_slice, cut_reads, ended_is_slice, ended_is_all}
use Rattle.txn_buffer.proofs.Visible.{limit_within}
use Rattle.txn_buffer.proofs.topic.Topic.read.Goals as goal

pub loop-place-init : goal.loop-place-init
loop-place-init g c =
    let v = c.args.self.now in
    let end : c.limit-end.result ≡ limit_of v.front = c.limit-end.ensures ∙ ap (λ (v : TopicView). limit_of v.front) c.self.view_is in
    let limits : c.self.inside.limits ≡ v.limits = ap (λ (v : TopicView). v.limits) c.self.view_is in
    record {
      from = omega arith;
      to = omega arith;
      left = subst (λ (s : Slice). 1 ≤ s.left) (sym c.new-slice.ensures) (omega (arith, c.requires.max, c.self.invariant.in_range.read_messages.least));
      steps = omega arith;
      none = λ h. ap (λ (s : Slice). s.messages) c.new-slice.ensures;
      reads = reads_none g.D.Disk v.content.key.part c.args.disk.now;
      slice = λ tells tied h.
          subst (λ (s : Slice). IsSoFar v.limits v.front c.args.first c.args.max s.bytes s.spent s.left s.messages c.args.first) (sym c.new-slice.ensures)
          (subst (λ (l : Limits). IsSoFar v.limits v.front c.args.first c.args.max l.read_bytes 0 (min c.args.max l.read_messages) [] c.args.first) (sym limits)
          (so_far_starts v.limits v.front c.args.first c.args.max (omega (arith, h, end))));
    }

pub message_at-requires-clause-place : goal.message_at-requires-clause-place
message_at-requires-clause-place g c =
    let end : c.limit-end.result ≡ limit_of c.args.self.now.front = c.limit-end.ensures ∙ ap (λ (v : TopicView). limit_of v.front) c.self.view_is in
    omega (arith, end, c.loop-place-test.true, limit_within c.args.self.now.front)

pub returns-then-not-branch-clause-slice : goal.returns-then-not-branch-clause-slice
returns-then-not-branch-clause-slice g c = λ tells tied.
    let v = c.args.self.now in let s = c.loop-place.slice in let k = c.loop-place.invariant in
    let end : c.limit-end.result ≡ limit_of v.front = c.limit-end.ensures ∙ ap (λ (v : TopicView). limit_of v.front) c.self.view_is in
    c.into_messages.ensures
    ∙ cut_is_slice v.limits v.front c.args.first c.args.max s.bytes s.spent s.left s.messages c.loop-place.place (k.slice tells tied (omega (arith, k.from, c.loop-place-test.true)))
    (topic_entry_of []) c.in_ok-found.found (omega (arith, end, c.loop-place-test.true)) (c.in_ok-found.ensures.shown tells tied (topic_entry_of [])) c.give.new.self.messages (c.in_ok-give.ensures.cut c.if-not-branch.true)

pub returns-then-not-branch-clause-steps_next : goal.returns-then-not-branch-clause-steps_next
returns-then-not-branch-clause-steps_next g c = λ tells tied next more e.
    let v = c.args.self.now in let s = c.loop-place.slice in let k = c.loop-place.invariant in
    let end : c.limit-end.result ≡ limit_of v.front = c.limit-end.ensures ∙ ap (λ (v : TopicView). limit_of v.front) c.self.view_is in
    let up_to : c.loop-place.place ≤ next.place =
    cut_reads v.limits v.front c.args.first c.args.max s.bytes s.spent s.left s.messages c.loop-place.place (k.slice tells tied (omega (arith, k.from, c.loop-place-test.true)))
    (topic_entry_of []) c.in_ok-found.found (omega (arith, end, c.loop-place-test.true)) (c.in_ok-found.ensures.shown tells tied (topic_entry_of [])) c.give.new.self.messages (c.in_ok-give.ensures.cut c.if-not-branch.true)
    next more (e ∙ ap (λ (l : List Message). l ++ next ∷ more) c.into_messages.ensures) in
    omega (arith, up_to, k.steps, k.from, c.in_ok-found.ensures.counted)

pub loop-place-preserved : goal.loop-place-preserved
loop-place-preserved g c =
    let v = c.args.self.now in let s = c.loop-place.slice in let k = c.loop-place.invariant in
    let end : c.limit-end.result ≡ limit_of v.front = c.limit-end.ensures ∙ ap (λ (v : TopicView). limit_of v.front) c.self.view_is in
    let goes = c.in_ok-give.ensures.goes_on c.if-not-branch.false in
    record {
      from = omega (arith, k.from);
      to = omega (arith, k.to, c.loop-place-test.true);
      left = goes.left_some;
      steps = omega (arith, k.steps, k.from, c.in_ok-found.ensures.counted);
      none = λ h. absurd (omega (arith, h, k.from, c.loop-place-test.true));
      reads =
          reads_on g.D.Disk v.content.key.part ⊥ c.args.disk.now c.loop-place.disk c.message_at.new.disk k.reads
          (reads_as g.D.Disk v.content.key.part _ ⊥ c.loop-place.disk c.message_at.new.disk (λ none. absurd none) c.in_ok-found.ensures.reads);
      slice = λ tells tied h.
          subst (λ (b : ℕ). IsSoFar v.limits v.front c.args.first c.args.max b c.give.new.self.spent c.give.new.self.left c.give.new.self.messages (c.loop-place.place + 1)) (sym c.in_ok-give.ensures.bytes)
          (so_far_goes_on v.limits v.front c.args.first c.args.max s.bytes s.spent s.left s.messages c.loop-place.place (k.slice tells tied h)
          (topic_entry_of []) c.in_ok-found.found (omega (arith, end, c.loop-place-test.true)) (c.in_ok-found.ensures.shown tells tied (topic_entry_of [])) c.give.new.self.messages c.give.new.self.spent c.give.new.self.left goes);
    }

pub returns-clause-slice : goal.returns-clause-slice
returns-clause-slice g c = λ tells tied.
    let v = c.args.self.now in let s = c.loop-place.slice in let k = c.loop-place.invariant in
    let end : c.limit-end.result ≡ limit_of v.front = c.limit-end.ensures ∙ ap (λ (v : TopicView). limit_of v.front) c.self.view_is in
    c.into_messages-2.ensures
    ∙ ended_is_slice v.limits v.front c.args.first c.args.max s.bytes s.spent s.left s.messages c.loop-place.place c.limit-end.result (sym end) k.none k.from k.to c.loop-place-test.false (k.slice tells tied)

pub returns-clause-steps_next : goal.returns-clause-steps_next
returns-clause-steps_next g c = λ tells tied next more e.
    let v = c.args.self.now in let s = c.loop-place.slice in let k = c.loop-place.invariant in
    let end : c.limit-end.result ≡ limit_of v.front = c.limit-end.ensures ∙ ap (λ (v : TopicView). limit_of v.front) c.self.view_is in
    absurd
    (ended_is_all v.limits v.front c.args.first c.args.max s.bytes s.spent s.left s.messages c.loop-place.place c.limit-end.result (sym end) k.none k.from k.to c.loop-place-test.false (k.slice tells tied)
    next more (e ∙ ap (λ (l : List Message). l ++ next ∷ more) c.into_messages-2.ensures))

pub message_at-requires-clause-reads : goal.message_at-requires-clause-reads
message_at-requires-clause-reads g c = λ told.
    let v = c.args.self.now in
    subst (λ (f : Files). g.R.RecordLog.begins v.content.key f v.content.batches) (sym c.loop-place.invariant.reads.seen_same) (c.requires.reads told)
