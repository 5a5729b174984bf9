-- The bodies of a publish.
use Rattle.std.proofs.Common.{◌≡◌, ℕ, ◌+◌, ◌<◌, ◌≤◌, ◌||◌, nat_lt, Bool, true, false, List, [], ◌∷◌, ◌++◌, length, take, All, IsUtf8, refl, sym, ap, ap₂, ◌∙◌, subst, arith}
use Rattle.std.proofs.Math.ListN.{get_or}
use Rattle.std.proofs.lemmas.Bool.Decides.{nat_tests}
use Rattle.std.proofs.lemmas.Grind.{take_at_read}
use Rattle.std.proofs.lemmas.List.{length-map, map-append}
use Rattle.std.proofs.lemmas.List.Elements.{All-nil, All-cons, All-head, All-tail}
use Rattle.std.specs.List.{list_any}
use Rattle.txn_base.specs.Bytes.{contents_of}
use Rattle.txn_base.specs.Decoded.{topic_entry_of, topic_entries}
use Rattle.txn_base.specs.Frames.{records}
use Rattle.txn_base.specs.Limits.{InRange}
use Rattle.txn_base.specs.Room.{Roomy}
use Rattle.txn_base.specs.declared.entry.TopicEntry.{TopicEntry}
use Rattle.txn_base.specs.declared.limits.Limits.{Limits}
use Rattle.txn_buffer.specs.Adding.{IsBodyWithin, AreBodies}
use Rattle.txn_buffer.specs.View.{topic_batch}
use Rattle.txn_model.specs.EarlyRows.{are_too_big}
use Rattle.txn_model.specs.Sound.{RecordsOf, IsBareRecord}
use Rattle.txn_model.proofs.Laws.Files.{topic_of_record, entries_of_records}

-- ---- Copies of texts.

pub copied_one : (items items' : List Roomy) (texts : List (List ℕ)) (i : ℕ) (b : Roomy) (t : List ℕ) → contents_of items ≡ take i texts → items' ≡ items ++ b ∷ [] → b.bytes ≡ t → t ≡ get_or texts i t → i < length texts → contents_of items' ≡ take (i + 1) texts
copied_one items items' texts i b t so e is at within =
    ap contents_of e ∙ map-append (λ (x : Roomy). x.bytes) items (b ∷ []) ∙ ap₂ (λ (xs : List (List ℕ)) (y : List ℕ). xs ++ y ∷ []) so (is ∙ at) ∙ sym (take_at_read texts i t within).1

pub count_of : (items : List Roomy) (asked : List (List ℕ)) → contents_of items ≡ asked → length items ≡ length asked
count_of items asked e = sym (length-map items (λ (b : Roomy). b.bytes)) ∙ ap length e

-- ---- Texts that aren't too big.

either : (x y : Bool) → (x || y) ≡ false → (x ≡ false) × (y ≡ false)
either true y k = cc
either false y k = (refl, k)

none_long : (limits : Limits) (bodies : List (List ℕ)) → list_any (λ body. nat_lt limits.message (length body)) bodies ≡ false → All IsUtf8 bodies → All (IsBodyWithin limits) bodies
none_long limits [] h texts = All-nil (IsBodyWithin limits)
none_long limits (b ∷ bs) h texts =
    let parts = either (nat_lt limits.message (length b)) (list_any (λ body. nat_lt limits.message (length body)) bs) h in
    All-cons (IsBodyWithin limits) b bs (record { text = All-head IsUtf8 b bs texts; size = short (length b) limits.message parts.0 }) (none_long limits bs parts.1 (All-tail IsUtf8 b bs texts))
  where
    short : (n most : ℕ) → nat_lt most n ≡ false → n ≤ most
    short n most h = grind (arith, nat_tests)

pub are_bodies : (limits own : Limits) (asked bodies : List (List ℕ)) → own ≡ limits → InRange limits → bodies ≡ asked → All IsUtf8 asked → are_too_big limits asked ≡ false → 1 ≤ length asked → AreBodies own bodies
are_bodies limits own asked bodies same range e texts small some =
    subst (λ (l : Limits). AreBodies l bodies) (sym same) (subst (AreBodies limits) (sym e) (record {
      some = some;
      few = grind (arith, nat_tests, (either (nat_lt limits.batch (length asked)) (list_any (λ body. nat_lt limits.message (length body)) asked) small).0, range.batch);
      each = none_long limits asked (either (nat_lt limits.batch (length asked)) (list_any (λ body. nat_lt limits.message (length body)) asked) small).1 texts;
    }))

-- ---- Their records.

-- what a batch of such records is read as
pub entries_back : (es : List TopicEntry) → RecordsOf IsBareRecord (records (topic_batch es ∷ [])) es → topic_entries (topic_batch es ∷ []) ≡ es
entries_back es each = entries_of_records IsBareRecord topic_entry_of topic_of_record (records (topic_batch es ∷ [])) es each
