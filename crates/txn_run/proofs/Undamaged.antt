-- Files that are each lawful by itself are not damaged.
use Rattle.std.proofs.Common.{◌≡◌, inl, inr, ℕ, zero, suc, ◌+◌, ◌<◌, ◌≤◌, ◌&&◌, not, Bool, true, true≢false, List, [], ◌∷◌, ◌++◌, All, length, map, take, drop, get_or, sym, ap, ap₂, ◌∙◌, subst, arith, append_assoc, take-append-drop}
use Rattle.std.proofs.lemmas.Bool.{and_parts}
use Rattle.std.proofs.lemmas.List.{take_more, take-map, get_or-map, length-map}
use Rattle.std.proofs.lemmas.List.Elements.{All-cons, All-nil}
use Rattle.txn_base.specs.declared.core_entry.CoreEntry.{CoreEntry}
use Rattle.txn_base.specs.declared.core_entry.CoreEntry.TheVariants as core
use Rattle.txn_base.specs.declared.entry.CoordEntry.{CoordEntry}
use Rattle.txn_base.specs.declared.entry.TopicEntry.{TopicEntry}
use Rattle.txn_base.specs.declared.file_id.FileId.{FileId}
use Rattle.txn_base.specs.Decoded.{coord_entry_of, topic_entry_of, coord_entries, topic_entries}
use Rattle.txn_base.specs.Disk.{Files}
use Rattle.txn_base.specs.Frames.{Record, Batch, records}
use Rattle.txn_base.specs.Names.{is_topic_name}
use Rattle.txn_base.specs.Records.{IsCoordRecord}
use Rattle.txn_base.proofs.Laws.{stands_one, stands_not_damaged}
use Rattle.txn_records.proofs.Laws.{topic_again}
use Rattle.txn_model.specs.declared.world.World.{World}
use Rattle.txn_model.specs.Coord.{coord_allows, CoordLawful}
use Rattle.txn_model.specs.Shape.{is_topic, topic_parts}
use Rattle.txn_model.specs.Skeletons.{coord_skeleton, coord_skeletons, topic_skeleton}
use Rattle.txn_model.specs.Sound.{ledger_file, RecordsOf, IsBareRecord, StandsFor}
use Rattle.txn_model.specs.Topic.{part_allows, TopicLawful}
use Rattle.txn_model.specs.Words.{all_follow, IsLawfulBy, has}
use Rattle.txn_model.specs.World.{EachLawful}
use Rattle.txn_model.proofs.Laws.Files.{coord_of, topic_of_record, entries_of_records}
use Rattle.txn_model.proofs.Laws.Names.{numbered_has}
use Rattle.txn_model.proofs.Laws.Lists.{all_follow-append}
use Rattle.txn_buffer.specs.Mending.{IsBad}
use Rattle.txn_buffer.specs.Record.{IsInGrammar}
use Rattle.txn_engine.specs.Opening.{IsLog, IsTopicLedger, IsDamagedLog, IsDamagedTopic, IsPart, IsDamagedPart, AreParts, IsFirstDamage}
use Rattle.txn_engine.proofs.Laws.{not_sub}

-- ---- An entry of a lawful list is allowed.

module _ (allows : List CoreEntry → CoreEntry → Bool) where
  parted_at : (es : List CoreEntry) (k : ℕ) (d : CoreEntry) → k < length es → take k es ++ (get_or es k d ∷ drop (k + 1) es) ≡ es
  parted_at es k d within =
      sym (append_assoc (take k es) (get_or es k d ∷ []) (drop (k + 1) es)) ∙ ap (λ (l : List CoreEntry). l ++ drop (k + 1) es) (sym (take_more es k d within)) ∙ take-append-drop (k + 1) es

  allowed_at : (es : List CoreEntry) (k : ℕ) (d : CoreEntry) → IsLawfulBy allows es → k < length es → allows (take k es) (get_or es k d) ≡ true
  allowed_at es k d lawful within =
      let both : (all_follow allows [] (take k es) && all_follow allows (take k es) (get_or es k d ∷ drop (k + 1) es)) ≡ true =
      sym (all_follow-append allows [] (take k es) (get_or es k d ∷ drop (k + 1) es)) ∙ ap (all_follow allows []) (parted_at es k d within) ∙ lawful in
      let follows = (and_parts (all_follow allows [] (take k es)) (all_follow allows (take k es) (get_or es k d ∷ drop (k + 1) es)) both).1 in
      (and_parts (allows (take k es) (get_or es k d)) (all_follow allows (take k es ++ get_or es k d ∷ []) (drop (k + 1) es)) follows).0

  -- that of a record
  module _ {X : Type 0} (of : Record → X) (skeleton : X → CoreEntry) where
    record_allowed : (rs : List Record) (k : ℕ) → IsLawfulBy allows (map skeleton (map of rs)) → k < length rs → allows (map skeleton (take k (map of rs))) (skeleton (of (get_or rs k []))) ≡ true
    record_allowed rs k lawful within =
        let es : List X = map of rs in
        let long : k < length es = omega (arith, within, length-map rs of) in
        let far : k < length (map skeleton es) = omega (arith, long, length-map es skeleton) in
        let before : map skeleton (take k es) ≡ take k (map skeleton es) = sym (take-map skeleton k es) in
        let here : skeleton (of (get_or rs k [])) ≡ get_or (map skeleton es) k core.Plain =
        ap skeleton (sym (get_or-map of rs k [] (of []) within)) ∙ sym (get_or-map skeleton es k (of []) core.Plain long) in
        ap₂ (λ (bs : List CoreEntry) (e : CoreEntry). allows bs e) before here ∙ allowed_at (map skeleton es) k core.Plain lawful far

-- ---- The bytes of a file.

log_not_damaged : (n : ℕ) (bytes : List ℕ) (entry : ℕ) → IsLog n bytes → IsDamagedLog n bytes entry → ⊥
log_not_damaged n bytes entry u (inl frame) = stands_not_damaged bytes u.0 entry u.1 frame
log_not_damaged n bytes entry u (inr d) =
    let same : u.0 ≡ d.0 = stands_one bytes u.0 d.0 u.1 d.1 in
    let grammar : All (λ r. IsCoordRecord r (coord_entry_of r)) (records d.0) = subst (λ (bs : List Batch). All (λ r. IsCoordRecord r (coord_entry_of r)) (records bs)) same u.2 in
    let lawful : CoordLawful n (coord_skeletons (coord_entries d.0)) = subst (λ (bs : List Batch). CoordLawful n (coord_skeletons (coord_entries bs))) same u.3 in
    true≢false (sym (record_allowed (coord_allows n) coord_entry_of coord_skeleton (records d.0) entry lawful d.2) ∙ d.3.bad (coord_entry_of (get_or (records d.0) entry [])) (grammar entry [] d.2))

not_bad : (batches : List Batch) (k : ℕ) → All IsInGrammar (records batches) → TopicLawful (topic_entries batches) → k < length (records batches) → IsBad (take k (topic_entries batches)) (get_or (records batches) k []) → ⊥
not_bad batches k grammar lawful within (inl outside) = outside (topic_entry_of (get_or (records batches) k [])) (grammar k [] within)
not_bad batches k grammar lawful within (inr refused) = true≢false (sym (record_allowed part_allows topic_entry_of topic_skeleton (records batches) k lawful within) ∙ refused)

topic_not_damaged : (bytes : List ℕ) (entry : ℕ) → IsTopicLedger bytes → IsDamagedTopic bytes entry → ⊥
topic_not_damaged bytes entry u (inl frame) = stands_not_damaged bytes u.0 entry u.1 frame
topic_not_damaged bytes entry u (inr d) =
    let same : u.0 ≡ d.0 = stands_one bytes u.0 d.0 u.1 d.1 in
    not_bad d.0 entry (subst (λ (bs : List Batch). All IsInGrammar (records bs)) same u.2) (subst (λ (bs : List Batch). TopicLawful (topic_entries bs)) same u.3) d.2 d.3.bad

part_not_damaged : (n p : ℕ) (bytes : List ℕ) (entry : ℕ) → IsPart n p bytes → IsDamagedPart n p bytes entry → ⊥
part_not_damaged n zero bytes entry u d = log_not_damaged n bytes entry u d
part_not_damaged n (suc p) bytes entry u d = topic_not_damaged bytes entry u d

-- ---- Files that stand for a world.

coord_grammar : (rs : List Record) (es : List CoordEntry) → RecordsOf IsCoordRecord rs es → All (λ r. IsCoordRecord r (coord_entry_of r)) rs
coord_grammar [] es h = All-nil (λ r. IsCoordRecord r (coord_entry_of r))
coord_grammar (r ∷ rs) [] h = absurd h
coord_grammar (r ∷ rs) (e ∷ es) h = All-cons (λ r. IsCoordRecord r (coord_entry_of r)) r rs (subst (IsCoordRecord r) (sym (coord_of r e h.0)) h.0) (coord_grammar rs es h.1)

topic_grammar : (rs : List Record) (es : List TopicEntry) → RecordsOf IsBareRecord rs es → All IsInGrammar rs
topic_grammar [] es h = All-nil IsInGrammar
topic_grammar (r ∷ rs) [] h = absurd h
topic_grammar (r ∷ rs) (e ∷ es) h = All-cons IsInGrammar r rs (topic_again r e h.0.of_entry) (topic_grammar rs es h.1)

module _ (names : List (List ℕ)) (topics : All (λ name. is_topic_name name ≡ true) names) (files : Files) (w : World) (stands : StandsFor names files w) (each : EachLawful w) where
  log_here : IsLog (length names) (files (ledger_file 0))
  log_here =
      let log = stands.coord in
      let entries : coord_entries log.batches ≡ w.coord = entries_of_records IsCoordRecord coord_entry_of coord_of (records log.batches) w.coord log.each in
      let lawful : CoordLawful (length names) (coord_skeletons w.coord) = subst (λ (ns : List (List ℕ)). CoordLawful (length ns) (coord_skeletons w.coord)) stands.named each.coord in
      (log.batches, log.stands, coord_grammar (records log.batches) w.coord log.each, subst (λ (es : List CoordEntry). CoordLawful (length names) (coord_skeletons es)) (sym entries) lawful)

  is_topic_part : (p : ℕ) → suc p ≤ length names → has (topic_parts names) (suc p) ≡ true
  is_topic_part p within = numbered_has is_topic 1 p (suc p) names (omega arith) (omega (arith, within)) (ap not (not_sub (get_or names p []) (topics p [] (omega (arith, within)))))

  topic_here : (p : ℕ) → suc p ≤ length names → IsTopicLedger (files (ledger_file (suc p)))
  topic_here p within =
      let topic = stands.topics (suc p) (is_topic_part p within) in
      let entries = entries_of_records IsBareRecord topic_entry_of topic_of_record (records topic.batches) _ topic.each in
      (topic.batches, topic.stands, topic_grammar (records topic.batches) _ topic.each, subst TopicLawful (sym entries) (each.topics (suc p)))

  lawful_parts : AreParts (length names) files
  lawful_parts zero within = log_here
  lawful_parts (suc p) within = topic_here p within

  pub lawful_not_damaged : (file : FileId) (entry : ℕ) → IsFirstDamage (length names) files file entry → ⊥
  lawful_not_damaged file entry d = part_not_damaged (length names) d.part (files (ledger_file d.part)) entry (lawful_parts d.part d.within) d.damaged
