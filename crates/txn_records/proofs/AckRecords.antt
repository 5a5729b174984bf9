-- A record of a subscription's ledger stands for one entry.
use Rattle.std.proofs.Common.{◌≡◌, ℕ, List, [], ◌∷◌, ◌++◌, drop, sym, ap, ◌∙◌, arith}
use Rattle.byteorder.specs.Endian.{big_bytes, big_number}
use Rattle.txn_base.specs.declared.txn.TxnId.{TxnId}
use Rattle.txn_base.specs.declared.entry.AckEntry.{AckEntry}
use Rattle.txn_base.specs.declared.entry.AckEntry.TheVariants as ack
use Rattle.txn_base.specs.Decoded.{ack_entry_of}
use Rattle.txn_base.specs.Records.{IsAckEntry, IsAckRecord, ArePlaces, IsWord, ack_record, places_bytes, txn_bytes}
use Rattle.txn_records.specs.Acks.{AckRecordsDecode, AckRecordsAreOne, AckRecordsReadBack}
use Rattle.txn_records.proofs.Numbers.{txn_read, number_read, other_kind}
use Rattle.txn_records.proofs.PlaceLists.{places_decoded}

place_read : (place : ℕ) → IsWord place → big_number 8 (big_bytes 8 place) ≡ place
place_read place fits = number_read 8 place (omega arith)

-- the entry of a record that was written
pub ack_decoded : (entry : AckEntry) → IsAckEntry entry → ack_entry_of (ack_record entry) ≡ entry
ack_decoded (ack.Plain places) is = ap ack.Plain (places_decoded places is.few is.each)
ack_decoded (ack.PlainUpTo place) is = ap ack.PlainUpTo (place_read place is)
ack_decoded (ack.Hold x places) is =
    let txn = txn_read x (places_bytes places) is.0 in
    let list = places_decoded places is.1.few is.1.each in
    λ i. ack.Hold (txn i) (list i)
ack_decoded (ack.HoldUpTo x place) is =
    let txn = txn_read x (big_bytes 8 place) is.0 in
    let at = place_read place is.1 in
    λ i. ack.HoldUpTo (txn i) (at i)
ack_decoded (ack.Commit x) is = ap ack.Commit (txn_read x [] is)
ack_decoded (ack.Abort x) is = ap ack.Abort (txn_read x [] is)

pub ack_decodes : AckRecordsDecode
ack_decodes bytes entry is = ap ack_entry_of is.bytes_are ∙ ack_decoded entry is.fits

pub ack_one : AckRecordsAreOne
ack_one bytes a b one two = sym (ack_decodes bytes a one) ∙ ack_decodes bytes b two

pub ack_reads_back : AckRecordsReadBack
ack_reads_back entry read fits is = sym (ack_decodes (ack_record entry) read is) ∙ ack_decoded entry fits

-- the fields behind a transaction are no list of places
pub no_hold : (x : TxnId) (rest list : List ℕ) → rest ≡ txn_bytes x ++ list → ((places : List ℕ) → ArePlaces places → list ≡ places_bytes places → ⊥) → (entry : AckEntry) → IsAckRecord (1 ∷ 3 ∷ rest) entry → ⊥
no_hold x rest list is_rest none (ack.Hold y places) is =
    none places is.fits.1 (ap (λ (l : List ℕ). drop 18 (1 ∷ 3 ∷ l)) (sym is_rest) ∙ ap (drop 18) is.bytes_are)
no_hold x rest list is_rest none (ack.Plain places) is = let same = other_kind is.bytes_are in omega (arith, same)
no_hold x rest list is_rest none (ack.PlainUpTo place) is = let same = other_kind is.bytes_are in omega (arith, same)
no_hold x rest list is_rest none (ack.HoldUpTo y place) is = let same = other_kind is.bytes_are in omega (arith, same)
no_hold x rest list is_rest none (ack.Commit y) is = let same = other_kind is.bytes_are in omega (arith, same)
no_hold x rest list is_rest none (ack.Abort y) is = let same = other_kind is.bytes_are in omega (arith, same)

-- and no place
pub no_hold_up_to : (x : TxnId) (rest field : List ℕ) → rest ≡ txn_bytes x ++ field → ((place : ℕ) → field ≡ big_bytes 8 place → ⊥) → (entry : AckEntry) → IsAckRecord (1 ∷ 4 ∷ rest) entry → ⊥
no_hold_up_to x rest field is_rest none (ack.HoldUpTo y place) is =
    none place (ap (λ (l : List ℕ). drop 18 (1 ∷ 4 ∷ l)) (sym is_rest) ∙ ap (drop 18) is.bytes_are)
no_hold_up_to x rest field is_rest none (ack.Plain places) is = let same = other_kind is.bytes_are in omega (arith, same)
no_hold_up_to x rest field is_rest none (ack.PlainUpTo place) is = let same = other_kind is.bytes_are in omega (arith, same)
no_hold_up_to x rest field is_rest none (ack.Hold y places) is = let same = other_kind is.bytes_are in omega (arith, same)
no_hold_up_to x rest field is_rest none (ack.Commit y) is = let same = other_kind is.bytes_are in omega (arith, same)
no_hold_up_to x rest field is_rest none (ack.Abort y) is = let same = other_kind is.bytes_are in omega (arith, same)
