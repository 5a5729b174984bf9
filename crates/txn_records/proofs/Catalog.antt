-- A record of the catalog stands for one name, which is a text.
use Rattle.std.proofs.Common.{◌≡◌, ◌≢◌, if◌then◌else◌, zero, suc, not, ◌==◌, ◌&&◌, nat_le, subst, ℕ, ◌<◌, ◌≤◌, Bool, true, false, List, [], ◌∷◌, length, get_or, drop, refl, sym, ap, ◌∙◌, arith, inl, inr}
use Rattle.std.specs.Prelude.{IsUtf8}
use Rattle.std.specs.List.{position_or_len, before_first, after_first, list_all}
use Rattle.std.specs.Str.{IsAscii}
use Rattle.std.proofs.lemmas.Bool.{cases_lt, and_parts}
use Rattle.std.proofs.lemmas.Bool.Decides.{nat_tests}
use Rattle.std.proofs.lemmas.List.{get_or_past}
use Rattle.std.proofs.lemmas.List.Sums.{prefix_len-le-length, split_at_first, fails_before_first, passes_at_first, AllPass-from_list_all}
use Rattle.std.proofs.lemmas.List.Folds.{list_any_none, list_any_at}
use Rattle.std.proofs.lemmas.Str.{IsAscii-append, IsUtf8-from_ascii}
use Rattle.txn_base.specs.Names.{is_name_byte, is_topic_name, is_slash, is_sub, topic_of, is_name, begins_with_dash}
use Rattle.txn_base.specs.Records.{name_record}
use Rattle.txn_records.specs.Catalog.{NameRecordsDecode, NameRecordsAreOne, NameRecordsReadBack}

-- no slash stands in the name, or one does
pub no_slash : (name : List ℕ) → position_or_len is_slash name ≡ length name → is_sub name ≡ false
no_slash name none = list_any_none is_slash name (λ k d below. fails_before_first is_slash name k d (omega arith))

pub some_slash : (name : List ℕ) → position_or_len is_slash name < length name → is_sub name ≡ true
some_slash name some = list_any_at is_slash name (position_or_len is_slash name) 0 some (passes_at_first is_slash name 0 some)

-- the dash that a name must not begin with
pub dash_first : (name : List ℕ) → 0 < length name → begins_with_dash name ≡ (get_or name 0 0 == 45)
dash_first [] some = absurd (omega arith)
dash_first (b ∷ bs) some = refl

-- the form of a topic's name, where its length and its first byte are right
pub topic_form : (name : List ℕ) → 1 ≤ length name → length name ≤ 100 → get_or name 0 0 ≢ 45 → is_topic_name name ≡ list_all is_name_byte name
topic_form name some few first =
    let dash = dash_first name some in
    let least : nat_le 1 (length name) ≡ true = grind (arith, nat_tests) in
    let most : nat_le (length name) 100 ≡ true = grind (arith, nat_tests) in
    let other : (get_or name 0 0 == 45) ≡ false = grind (arith, nat_tests) in
    rw (least, most, dash, other) refl

-- a byte of a name is below 128
name_byte_small : (b : ℕ) → is_name_byte b ≡ true → b < 128
name_byte_small b is = grind (arith, nat_tests)

-- a topic's name is ASCII
topic_name_ascii : (name : List ℕ) → is_topic_name name ≡ true → IsAscii name
topic_name_ascii name is i =
    let all : list_all is_name_byte name ≡ true = (and_parts (nat_le 1 (length name) && nat_le (length name) 100 && not (begins_with_dash name)) (list_all is_name_byte name) is).1 in
    elim (cases_lt i (length name)) [
      | inl below ↦ name_byte_small (get_or name i 0) (AllPass-from_list_all is_name_byte name all i 0 below)
      | inr past ↦ let e = get_or_past name i 0 past in omega (arith, e)
    ]

slash_small : (b : ℕ) → is_slash b ≡ true → b < 128
slash_small b is = grind (arith, nat_tests)

-- without a slash, the form is that of a topic
pub is_name-topic : (name : List ℕ) → position_or_len is_slash name ≡ length name → is_name name ≡ is_topic_name name
is_name-topic name none =
    ap (λ (b : Bool). if b then is_topic_name (topic_of name) && is_topic_name (after_first is_slash name) else is_topic_name name) (no_slash name none)

name_ascii : (name : List ℕ) → is_name name ≡ true → IsAscii name
name_ascii name is = elim (cases_lt (position_or_len is_slash name) (length name)) [
  | inl some ↦
      let parts : (is_topic_name (topic_of name) && is_topic_name (after_first is_slash name)) ≡ true =
      sym (ap (λ (b : Bool). if b then is_topic_name (topic_of name) && is_topic_name (after_first is_slash name) else is_topic_name name) (some_slash name some)) ∙ is in
      let both = and_parts (is_topic_name (topic_of name)) (is_topic_name (after_first is_slash name)) parts in
      let slash : get_or name (position_or_len is_slash name) 0 < 128 = slash_small (get_or name (position_or_len is_slash name) 0) (passes_at_first is_slash name 0 some) in
      subst IsAscii (sym (split_at_first is_slash name 0 some))
      (IsAscii-append (before_first is_slash name) (get_or name (position_or_len is_slash name) 0 ∷ after_first is_slash name) (topic_name_ascii (topic_of name) both.0)
      (IsAscii-cons (get_or name (position_or_len is_slash name) 0) (after_first is_slash name) slash (topic_name_ascii (after_first is_slash name) both.1)))
  | inr none ↦ topic_name_ascii name (sym (is_name-topic name (omega (arith, none, prefix_len-le-length (λ b. not (is_slash b)) name))) ∙ is)
]
  where
    IsAscii-cons : (b : ℕ) (bs : List ℕ) → b < 128 → IsAscii bs → IsAscii (b ∷ bs)
    IsAscii-cons b bs small is zero = small
    IsAscii-cons b bs small is (suc i) = is i

-- a name is a text
pub name_text : (name : List ℕ) → is_name name ≡ true → IsUtf8 name
name_text name is = IsUtf8-from_ascii name (name_ascii name is)

pub name_decodes : NameRecordsDecode
name_decodes bytes name is = ap (drop 2) is.bytes_are

pub name_one : NameRecordsAreOne
name_one bytes a b one two = sym (name_decodes bytes a one) ∙ name_decodes bytes b two

pub name_reads_back : NameRecordsReadBack
name_reads_back name read fits is = sym (name_decodes (name_record name) read is)
