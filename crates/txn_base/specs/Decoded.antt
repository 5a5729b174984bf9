-- The entries that records stand for. On a record outside its grammar these give some entry, which no rule speaks of.
use Rattle.std.specs.Prelude.{ℕ, zero, suc, ◌==◌, if◌then◌else◌, List, [], ◌∷◌, map, drop, slice_index}
use Rattle.byteorder.specs.Endian.{big_number}
use Rattle.txn_base.specs.declared.txn.TxnId.{TxnId}
use Rattle.txn_base.specs.declared.entry.CoordEntry.{CoordEntry}
use Rattle.txn_base.specs.declared.entry.CoordEntry.TheVariants as coord
use Rattle.txn_base.specs.declared.entry.TopicEntry.{TopicEntry}
use Rattle.txn_base.specs.declared.entry.TopicEntry.TheVariants as topic
use Rattle.txn_base.specs.declared.entry.AckEntry.{AckEntry}
use Rattle.txn_base.specs.declared.entry.AckEntry.TheVariants as ack
use Rattle.txn_base.specs.Bytes.{only_bytes}
use Rattle.txn_base.specs.Frames.{Record, Batch, records}

-- The transaction at the front of these bytes.
abbrev pub txn_at_front : List ℕ → TxnId
txn_at_front bytes = record { most = big_number 8 bytes; least = big_number 8 (drop 8 bytes) }

-- So many numbers of 64 bits at the front of these bytes.
abbrev pub words_at_front : ℕ → List ℕ → List ℕ
words_at_front zero bytes = []
words_at_front (suc count) bytes = big_number 8 bytes ∷ words_at_front count (drop 8 bytes)

-- The places that stand behind their count.
abbrev pub places_at_front : List ℕ → List ℕ
places_at_front bytes = words_at_front (big_number 2 bytes) (drop 2 bytes)

abbrev pub kind_of_record : Record → ℕ
kind_of_record bytes = slice_index bytes 1

-- By the kind of a record and what stands behind it, the entry.
abbrev pub coord_fields : ℕ → List ℕ → CoordEntry
coord_fields kind rest =
    if kind == 1 then coord.New (txn_at_front rest) (big_number 8 (drop 16 rest))
    else (if kind == 2 then coord.AddPart (txn_at_front rest) (big_number 4 (drop 16 rest))
    else (if kind == 3 then coord.Committing (txn_at_front rest)
    else (if kind == 4 then coord.Committed (txn_at_front rest)
    else (if kind == 5 then coord.Aborting (txn_at_front rest) else coord.Aborted (txn_at_front rest)))))

abbrev pub topic_fields : ℕ → List ℕ → TopicEntry
topic_fields kind rest =
    if kind == 1 then topic.Plain (only_bytes rest)
    else (if kind == 2 then topic.Opened (txn_at_front rest) (only_bytes (drop 16 rest))
    else (if kind == 3 then topic.Commit (txn_at_front rest) else topic.Abort (txn_at_front rest)))

abbrev pub ack_fields : ℕ → List ℕ → AckEntry
ack_fields kind rest =
    if kind == 1 then ack.Plain (places_at_front rest)
    else (if kind == 2 then ack.PlainUpTo (big_number 8 rest)
    else (if kind == 3 then ack.Hold (txn_at_front rest) (places_at_front (drop 16 rest))
    else (if kind == 4 then ack.HoldUpTo (txn_at_front rest) (big_number 8 (drop 16 rest))
    else (if kind == 5 then ack.Commit (txn_at_front rest) else ack.Abort (txn_at_front rest)))))

-- The entry of a record.
abbrev pub coord_entry_of : Record → CoordEntry
coord_entry_of bytes = coord_fields (kind_of_record bytes) (drop 2 bytes)

abbrev pub topic_entry_of : Record → TopicEntry
topic_entry_of bytes = topic_fields (kind_of_record bytes) (drop 2 bytes)

abbrev pub ack_entry_of : Record → AckEntry
ack_entry_of bytes = ack_fields (kind_of_record bytes) (drop 2 bytes)

-- The name of a record.
abbrev pub name_of_record : Record → List ℕ
name_of_record bytes = drop 2 bytes

-- The entries of batches.
abbrev pub coord_entries : List Batch → List CoordEntry
coord_entries batches = map coord_entry_of (records batches)

abbrev pub topic_entries : List Batch → List TopicEntry
topic_entries batches = map topic_entry_of (records batches)

abbrev pub ack_entries : List Batch → List AckEntry
ack_entries batches = map ack_entry_of (records batches)

abbrev pub names_of : List Batch → List (List ℕ)
names_of batches = map name_of_record (records batches)
