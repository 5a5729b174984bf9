use Rattle.std.proofs.Common.{◌≡◌, ◌+◌, length-append, [], ◌∷◌, ◌++◌, length, refl, ap, sym, ◌∙◌, arith, rules}
use Rattle.std.proofs.lemmas.List.Elements.{All-cons, All-nil}
use Rattle.txn_base.specs.declared.entry.TopicEntry.{TopicEntry}
use Rattle.txn_base.specs.Bytes.{contents_of}
use Rattle.txn_base.specs.Content.{LedgerContent, landed}
use Rattle.txn_base.specs.Decoded.{topic_entry_of}
use Rattle.txn_base.specs.Frames.{records}
use Rattle.txn_model.specs.Skeletons.{topic_skeletons}
use Rattle.txn_model.specs.Topic.{marker_of}
use Rattle.txn_buffer.specs.Record.{IsInGrammar}
use Rattle.txn_buffer.specs.View.{TopicView, topic_total}
use Rattle.txn_buffer.proofs.Staged.{marker_allowed}
use Rattle.txn_buffer.proofs.Tied.{tied_more, records_after}
use Rattle.txn_buffer.proofs.topic.Topic.add_marker.Goals as goal

pub add-requires-clause-count : goal.add-requires-clause-count
add-requires-clause-count g c =
    let was = g.R.RecordLog.content c.self.inside.log in
    let ok : g.R.RecordLog.content c.append.new.self ≡ landed was (contents_of c.from_ref.result.now) = search rules in
    let one : contents_of c.from_ref.result.now ≡ c.write_marker.new.out.bytes ∷ [] = ap contents_of c.from_ref.ensures.value in
    let longer : length (records (g.R.RecordLog.content c.append.new.self).batches) ≡ length (records was.batches) + 1 =
    ap (λ (k : LedgerContent). length (records k.batches)) (ok ∙ ap (landed was) one) ∙ records_after was.batches (c.write_marker.new.out.bytes ∷ []) in
    let whole = c.self.invariant.count (ap (λ (v : TopicView). v.whole) c.self.view_is ∙ c.requires.whole) in
    omega (arith, longer, whole, c.len.ensures, c.len.type_inv)

pub add-requires-clause-allowed : goal.add-requires-clause-allowed
add-requires-clause-allowed g c =
    marker_allowed c.self.inside.front.entries c.of.result c.args.txn c.args.decision (c.of.ensures ∙ c.write_marker.ensures.entry)
    (ap (λ (v : TopicView). marker_of (topic_skeletons v.front) c.args.txn) c.self.view_is ∙ c.requires.unmarked)

pub invariant_of-self-2 : goal.invariant_of-self-2
invariant_of-self-2 g c =
    let was = g.R.RecordLog.content c.self.inside.log in
    let ok : g.R.RecordLog.content c.append.new.self ≡ landed was (contents_of c.from_ref.result.now) = search rules in
    let one : contents_of c.from_ref.result.now ≡ c.write_marker.new.out.bytes ∷ [] = ap contents_of c.from_ref.ensures.value in
    let longer : length (records (g.R.RecordLog.content c.append.new.self).batches) ≡ length (records was.batches) + 1 =
    ap (λ (k : LedgerContent). length (records k.batches)) (ok ∙ ap (landed was) one) ∙ records_after was.batches (c.write_marker.new.out.bytes ∷ []) in
    let whole = c.self.invariant.count (ap (λ (v : TopicView). v.whole) c.self.view_is ∙ c.requires.whole) in
    let grown : length c.add-2.new.self.entries ≡ length c.self.inside.front.entries + 1 = ap length c.add-2.ensures.entries ∙ length-append c.self.inside.front.entries (c.of.result ∷ []) in
    record {
      in_range = c.self.invariant.in_range;
      within = omega (arith, longer, whole, grown);
      count = λ h. omega (arith, longer, whole, grown);
      settled = λ h. ap (λ (k : LedgerContent). k.standing) ok;
      resting = λ h. refl;
      empty = c.clear-2.ensures.bytes;
      most = omega arith;
      ends_left = omega arith;
      spare_left = omega arith;
      room_left = omega arith;
      marker_room = omega arith;
    }

pub returns-clause-tied : goal.returns-clause-tied
returns-clause-tied g c =
    let was = g.R.RecordLog.content c.self.inside.log in let bytes = c.write_marker.new.out.bytes in
    let ok : g.R.RecordLog.content c.append.new.self ≡ landed was (contents_of c.from_ref.result.now) = search rules in
    let one : contents_of c.from_ref.result.now ≡ bytes ∷ [] = ap contents_of c.from_ref.ensures.value in
    let content : g.R.RecordLog.content c.append.new.self ≡ landed c.args.self.now.content (bytes ∷ []) = ok ∙ ap (landed was) one ∙ ap (λ (v : TopicView). landed v.content (bytes ∷ [])) c.self.view_is in
    let whole : length c.args.self.now.front ≡ topic_total c.args.self.now =
    ap (λ (v : TopicView). length v.front) (sym c.self.view_is) ∙ c.self.invariant.count (ap (λ (v : TopicView). v.whole) c.self.view_is ∙ c.requires.whole) ∙ ap topic_total c.self.view_is in
    tied_more c.args.self.now _ (bytes ∷ []) whole
    (c.add-2.ensures.entries ∙ ap (λ (e : TopicEntry). c.self.inside.front.entries ++ e ∷ []) c.of.ensures ∙ ap (λ (v : TopicView). v.front ++ topic_entry_of bytes ∷ []) c.self.view_is)
    (ap (λ (k : LedgerContent). k.batches) content) (All-cons IsInGrammar bytes [] c.write_marker.ensures.grammar (All-nil IsInGrammar))
