-- Behind an engine, the ledgers of parts that are rebuilt are just their frames.
use Rattle.std.proofs.Common.{◌≡◌, ℕ, zero, suc, ◌+◌, ◌≤◌, ◌<◌, ◌==◌, not, Bool, true, false, if◌then◌else◌, length, IsTrue, refl, sym, ap, ◌∙◌, arith}
use Rattle.std.proofs.Math.ListN.{get_or}
use Rattle.std.proofs.lemmas.Bool.Decides.{nat_tests}
use Rattle.txn_base.specs.declared.file_id.FileId.{FileId}
use Rattle.txn_base.specs.Content.{LedgerContent, settled}
use Rattle.txn_base.specs.Disk.{Files}
use Rattle.txn_base.proofs.Laws.{settled_stands}
use Rattle.txn_ledger.specs.Ledger.{StandsIn, ExactlyIn, Stored}
use Rattle.txn_model.specs.Sound.{ledger_file}
use Rattle.txn_model.specs.Table.{is_unrebuilt}
use Rattle.txn_engine.specs.Files.{IsJustFrames, AreJustFrames}
use Rattle.txn_engine.specs.Kept.{IsEngine}
use Rattle.txn_engine.specs.Table.{unrebuilt_from, table_of}
use Rattle.txn_engine.specs.View.{EngineView, IsWhole, IsBacked}
use Rattle.txn_engine.proofs.Lists.{topic_at, at_index, unrebuilt_in}
use Rattle.txn_engine.proofs.Opened.{not_unrebuilt}
use Rattle.txn_engine.proofs.Worlds.{some_topic}

is_whole : (b : Bool) → not b ≡ false → IsTrue b
is_whole true e = refl
is_whole false e = cc

not_zero : (j : ℕ) → (suc j == 0) ≡ false
not_zero j = grind (arith, nat_tests)

module _ (image : Files → Type 0) (c : Files) (at : image c) where
  one_just : (content : LedgerContent) (key : FileId) → content.key ≡ key → content.standing ≡ settled → Stored image content → IsJustFrames (c key)
  one_just content key is rests backed =
      let stands = settled_stands StandsIn ExactlyIn image content rests backed c at in
      (content.batches, stands.each, ap c (sym is) ∙ backed.exact rests c at)

  pub part_just : (v : EngineView) → IsEngine v → IsBacked image v → (p : ℕ) → p ≤ length v.names → is_unrebuilt (table_of v) p ≡ false → IsJustFrames (c (ledger_file p))
  part_just v is backed zero below rebuilt = one_just v.coord.content (ledger_file 0) is.coord.key (is.coord.settled_is (is_whole v.coord.whole rebuilt)) backed.coord
  part_just v is backed (suc j) below rebuilt =
      let here : j < length v.topics = omega (arith, below, is.count) in
      let one = topic_at v.limits 1 v.topics j (some_topic v) (suc j) (omega arith) here is.topics in
      let of_it : unrebuilt_from 1 v.topics (suc j) ≡ not (get_or v.topics j (some_topic v)).whole = unrebuilt_in 1 v.topics j (some_topic v) (suc j) (omega arith) here in
      let of_table : unrebuilt_from 1 v.topics (suc j) ≡ false = ap (λ (b : Bool). if b then not v.coord.whole else unrebuilt_from 1 v.topics (suc j)) (sym (not_zero j)) ∙ rebuilt in
      one_just (get_or v.topics j (some_topic v)).content (ledger_file (suc j)) one.key (one.settled_is (is_whole (get_or v.topics j (some_topic v)).whole (sym of_it ∙ of_table)))
      (at_index (λ t. Stored image t.content) v.topics j (some_topic v) here backed.topics)

  pub just_frames : (v : EngineView) → IsEngine v → IsWhole v → IsBacked image v → AreJustFrames (length v.names) c
  just_frames v is whole backed p below = part_just v is backed p below (not_unrebuilt v whole p)
