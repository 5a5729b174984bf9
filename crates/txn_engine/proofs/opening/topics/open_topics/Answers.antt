use Rattle.std.proofs.Common.{◌≡◌, ℕ, ◌+◌, ◌∷◌, ◌++◌, [], List, length, All, IsTrue, Err, refl, sym, ap, ◌∙◌, subst, arith, length-append}
use Rattle.std.proofs.lemmas.List.Elements.{All-push}
use Rattle.std.proofs.lemmas.Result.{err_from_is_err_and}
use Rattle.txn_ledger.specs.Ledger.{Stored}
use Rattle.txn_model.specs.Sound.{ledger_file}
use Rattle.txn_buffer.specs.View.{TopicView}
use Rattle.txn_engine.specs.declared.opening.EngineError.TheVariants as engine
use Rattle.txn_engine.specs.Kept.{AreTopics}
use Rattle.txn_engine.specs.Opening.{IsDamagedTopic, IsTopicOf}
use Rattle.txn_engine.proofs.Files.{only_one, only_then, images_change, images_then}
use Rattle.txn_engine.proofs.Going.{counts_of, counts_then}
use Rattle.txn_engine.proofs.Elsewhere.{files_apart}
use Rattle.txn_engine.proofs.OpeningAll.{topics_more, told_more, ledger_told}
use Rattle.txn_engine.proofs.OpeningFiles.{keeps_of, keeps_then, topics_kept, damaged_all, damaged_then}
use Rattle.txn_engine.proofs.opening.topics.open_topics.Goals as goal

pub loop-index-preserved : goal.loop-index-preserved
loop-index-preserved g c =
    let was = c.loop-index.invariant in
    let now = c.in_ok-topic.ensures in
    let part = c.loop-index.index + 1 in
    let topic : TopicView = c.in_ok-topic.topic in
    let pushed : c.push_reserved.new.self.items ≡ c.loop-index.topics.items ++ topic ∷ [] = c.push_reserved.ensures.items in
    let since = keeps_of g.D.Disk (ledger_file part) c.loop-index.disk c.open_topic.new.disk now.images in
    record {
      count = omega (arith, was.count, ap length pushed, length-append c.loop-index.topics.items (topic ∷ []));
      room = omega (arith, was.room, c.push_reserved.ensures.capacity);
      are = subst (AreTopics c.args.limits.now 1) (sym pushed) (topics_more c.args.limits.now 1 c.loop-index.topics.items topic part (omega (arith, was.count)) was.are now.opened.0);
      whole = subst (All (λ t. IsTrue t.whole)) (sym pushed) (All-push (λ t. IsTrue t.whole) c.loop-index.topics.items topic was.whole now.opened.1);
      backed = subst (All (λ t. Stored (g.D.Disk.image c.open_topic.new.disk) t.content)) (sym pushed)
          (All-push (λ t. Stored (g.D.Disk.image c.open_topic.new.disk) t.content) c.loop-index.topics.items topic
          (topics_kept g.D.Disk c.loop-index.topics.items c.loop-index.disk c.open_topic.new.disk since was.backed) now.backed);
      told = λ told. subst (All (λ t. IsTopicOf t (g.D.Disk.seen c.args.disk.now t.content.key))) (sym pushed)
          (told_more (g.D.Disk.seen c.args.disk.now) (g.D.Disk.seen c.loop-index.disk) c.loop-index.topics.items topic part now.opened.0.key (was.others part (omega arith)) (now.told told) (was.told told));
      images = keeps_then g.D.Disk c.args.disk.now c.loop-index.disk c.open_topic.new.disk was.images since;
      uncut = λ tells. damaged_then (g.D.Disk.seen c.args.disk.now) (g.D.Disk.seen c.loop-index.disk) (g.D.Disk.seen c.open_topic.new.disk) (was.uncut tells)
          (damaged_all (ledger_file part) (g.D.Disk.seen c.loop-index.disk) (g.D.Disk.seen c.open_topic.new.disk) now.others (now.uncut tells));
      others = λ q above. now.others (ledger_file q) (files_apart q part (λ e. omega (arith, above, e))) ∙ was.others q (omega (arith, above));
      elsewhere = images_then g.D.Disk c.args.named c.args.disk.now c.loop-index.disk c.open_topic.new.disk was.elsewhere
          (images_change g.D.Disk c.args.named part _ c.loop-index.disk c.open_topic.new.disk (omega (arith, c.loop-index-test.true)) now.images);
      apart = only_then c.args.named (g.D.Disk.seen c.args.disk.now) (g.D.Disk.seen c.loop-index.disk) (g.D.Disk.seen c.open_topic.new.disk) was.apart
          (only_one c.args.named part (ledger_file part) (g.D.Disk.seen c.loop-index.disk) (g.D.Disk.seen c.open_topic.new.disk) refl (omega (arith, c.loop-index-test.true)) now.others);
      counts = counts_then c.args.named _ _ _ (g.D.Disk.part_faults c.args.disk.now) (g.D.Disk.part_faults c.loop-index.disk) (g.D.Disk.part_faults c.open_topic.new.disk) _ _ was.counts
          (counts_of c.args.named part _ _ (g.D.Disk.part_faults c.loop-index.disk) (g.D.Disk.part_faults c.open_topic.new.disk) _ ⊥ (omega (arith, c.loop-index-test.true)) (λ none. absurd none) now.cause);
    }

pub returns-in_err-topic-clause-damaged : goal.returns-in_err-topic-clause-damaged
returns-in_err-topic-clause-damaged g c = λ file entry is.
    let was = c.loop-index.invariant in
    let part = c.loop-index.index + 1 in
    let p = err_from_is_err_and c.from_residual.result c.from_residual.ensures.1 in
    let q = c.in_err-topic.was in
    let told_so : c.open_topic.result ≡ Err (engine.Damaged file entry) = cc (p.1, p.2, q) in
    let one = c.open_topic.ensures.damaged file entry told_so in
    record {
      part = part;
      from_one = omega arith;
      within = omega (arith, c.loop-index-test.true);
      file_is = one.0;
      damaged = λ told. subst (λ (bytes : List ℕ). IsDamagedTopic bytes entry) (was.others part (omega arith)) (one.1 told);
      before = λ told p low lt. ledger_told c.args.limits.now (g.D.Disk.seen c.args.disk.now) c.loop-index.topics.items was.are (was.told told) p low (omega (arith, lt, was.count));
    }

pub returns-in_err-topic-clause-images : goal.returns-in_err-topic-clause-images
returns-in_err-topic-clause-images g c =
    keeps_then g.D.Disk c.args.disk.now c.loop-index.disk c.open_topic.new.disk c.loop-index.invariant.images
    (keeps_of g.D.Disk (ledger_file (c.loop-index.index + 1)) c.loop-index.disk c.open_topic.new.disk c.open_topic.ensures.images)

pub returns-in_err-topic-clause-elsewhere : goal.returns-in_err-topic-clause-elsewhere
returns-in_err-topic-clause-elsewhere g c =
    images_then g.D.Disk c.args.named c.args.disk.now c.loop-index.disk c.open_topic.new.disk c.loop-index.invariant.elsewhere
    (images_change g.D.Disk c.args.named (c.loop-index.index + 1) _ c.loop-index.disk c.open_topic.new.disk (omega (arith, c.loop-index-test.true)) c.open_topic.ensures.images)

pub returns-in_err-topic-clause-others : goal.returns-in_err-topic-clause-others
returns-in_err-topic-clause-others g c =
    let part = c.loop-index.index + 1 in
    only_then c.args.named (g.D.Disk.seen c.args.disk.now) (g.D.Disk.seen c.loop-index.disk) (g.D.Disk.seen c.open_topic.new.disk) c.loop-index.invariant.apart
    (only_one c.args.named part (ledger_file part) (g.D.Disk.seen c.loop-index.disk) (g.D.Disk.seen c.open_topic.new.disk) refl (omega (arith, c.loop-index-test.true)) c.open_topic.ensures.others)

pub returns-in_err-topic-clause-uncut : goal.returns-in_err-topic-clause-uncut
returns-in_err-topic-clause-uncut g c = λ tells.
    damaged_then (g.D.Disk.seen c.args.disk.now) (g.D.Disk.seen c.loop-index.disk) (g.D.Disk.seen c.open_topic.new.disk) (c.loop-index.invariant.uncut tells)
    (damaged_all (ledger_file (c.loop-index.index + 1)) (g.D.Disk.seen c.loop-index.disk) (g.D.Disk.seen c.open_topic.new.disk) c.open_topic.ensures.others (c.open_topic.ensures.uncut tells))
