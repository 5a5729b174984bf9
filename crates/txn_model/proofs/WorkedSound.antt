-- The file that one plain message leaves, and the world for which the files then stand.
use Rattle.std.proofs.Common.{◌≡◌, ℕ, ◌==◌, ◌&&◌, ◌<◌, arith, rules, eqb-true, Bool, true, false, if◌then◌else◌, List, [], ◌∷◌, Some, refl, sym, subst}
use Rattle.txn_model.proofs.Words.{codes, TxnId, Decision, TopicEntry, World, list_at, topic_skeletons, TopicLawful, marker_of, Lawful, has_inside}
use Rattle.std.proofs.lemmas.List.Elements.{All-nil, All-cons}
use Rattle.txn_base.specs.declared.entry.TopicEntry.TheVariants as topic
use Rattle.txn_base.specs.Bytes.{only_bytes}
use Rattle.txn_base.specs.Disk.{Files, same_file}
use Rattle.txn_base.specs.Frames.{Batch, IsRecord, IsBatch, Stands}
use Rattle.txn_model.specs.Sound.{part_file, ledger_file, StandsForEntries, IsBareRecord, StandsFor, Sound}
use Rattle.txn_model.proofs.Bools.{no_true, and_l, none_some}

abbrev names : List (List ℕ)
names = codes "orders" ∷ []

-- gate 1, five bytes, a record of three: version 1, kind 1, "a"
abbrev bytes : List ℕ
bytes = 1 ∷ 0 ∷ 0 ∷ 0 ∷ 5 ∷ 0 ∷ 3 ∷ 1 ∷ 1 ∷ 97 ∷ []

abbrev files : Files
files file = if same_file file (ledger_file 1) then bytes else []

abbrev one_message : List TopicEntry
one_message = topic.Plain (only_bytes (codes "a")) ∷ []

abbrev world : World
world = record { names = names; coord = []; topics = (1, one_message) ∷ []; subs = [] }

abbrev batches : List Batch
batches = ((1 ∷ 1 ∷ 97 ∷ []) ∷ []) ∷ []

none_stand : Stands [] []
none_stand = record { each = All-nil IsBatch; rest = []; split = refl; shut = tt }

one_record : IsRecord (1 ∷ 1 ∷ 97 ∷ [])
one_record = record { no_shorter = omega arith; no_longer = omega arith }

one_batch : IsBatch ((1 ∷ 1 ∷ 97 ∷ []) ∷ [])
one_batch = record { some = omega arith; few = omega arith; each = All-cons IsRecord (1 ∷ 1 ∷ 97 ∷ []) [] one_record (All-nil IsRecord) }

bytes_stand : Stands bytes batches
bytes_stand = record { each = All-cons IsBatch ((1 ∷ 1 ∷ 97 ∷ []) ∷ []) [] one_batch (All-nil IsBatch); rest = []; split = refl; shut = tt }

message_stands : StandsForEntries IsBareRecord bytes one_message
message_stands =
    record {
      batches = batches;
      stands = bytes_stand;
      each = (record { of_entry = record { bytes_are = refl; fits = record { text = search rules; size = omega arith } }; no_room = refl }, tt);
    }

-- the parts that are topics have the number 1
only_one : (p : ℕ) → (if p == 1 then true else false) ≡ true → 1 ≡ p
only_one p h = by_test (p == 1) refl h
  where
    by_test : (b : Bool) → (p == 1) ≡ b → (if b then true else false) ≡ true → 1 ≡ p
    by_test true e h = sym (eqb-true p 1 e)
    by_test false e h = absurd (no_true h)

other_files : (p row : ℕ) → 1 < p → files (part_file p row) ≡ []
other_files p row past = by_test (p == 1 && row == 2) refl
  where
    never : p ≡ 1 → ⊥
    never e = omega (arith, e, past)

    by_test : (b : Bool) → (p == 1 && row == 2) ≡ b → (if b then bytes else []) ≡ []
    by_test true e = absurd (never (eqb-true p 1 (and_l (p == 1) (row == 2) e)))
    by_test false e = refl

pub files_stand : StandsFor names files world
files_stand =
    record {
      named = refl;
      shaped = record { topics = refl; subs = refl };
      coord = record { batches = []; stands = none_stand; each = tt };
      topics = λ p h. subst (λ q. StandsForEntries IsBareRecord (files (ledger_file q)) (list_at world.topics q)) (only_one p h) message_stands;
      subs = λ p h. absurd (no_true h);
      others = λ p row past most few. subst (λ bs. Stands bs []) (sym (other_files p row past)) none_stand;
    }

-- no message of a transaction, and no marker, is there
plain_either : (b : Bool) → TopicLawful (if b then one_message else [])
plain_either true = refl
plain_either false = refl

no_inside : (b : Bool) (x : TxnId) → has_inside (topic_skeletons (if b then one_message else [])) x ≡ true → ⊥
no_inside true x h = no_true h
no_inside false x h = no_true h

no_marker : (b : Bool) (x : TxnId) (d : Decision) → marker_of (topic_skeletons (if b then one_message else [])) x ≡ Some d → ⊥
no_marker true x d h = none_some h
no_marker false x d h = none_some h

no_inside_at : (sub b : Bool) (x : TxnId) → has_inside (if sub then [] else topic_skeletons (if b then one_message else [])) x ≡ true → ⊥
no_inside_at true b x h = no_true h
no_inside_at false b x h = no_inside b x h

no_marker_at : (sub b : Bool) (x : TxnId) (d : Decision) → marker_of (if sub then [] else topic_skeletons (if b then one_message else [])) x ≡ Some d → ⊥
no_marker_at true b x d h = none_some h
no_marker_at false b x d h = no_marker b x d h

pub world_is_lawful : Lawful world
world_is_lawful =
    record {
      names = refl;
      coord = refl;
      topics = λ p. plain_either (1 == p);
      subs = λ p. refl;
      registered = λ p x h. absurd (no_inside_at _ (1 == p) x h);
      decided = λ p x d h. absurd (no_marker_at _ (1 == p) x d h);
      closed = λ x d p h k. absurd (none_some h);
    }

pub files_are_sound : Sound names files
files_are_sound = record { world = world; stands = files_stand; lawful = world_is_lawful }
