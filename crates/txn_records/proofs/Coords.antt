-- A record of the coordinator's log stands for one entry.
use Rattle.std.proofs.Common.{◌≡◌, ℕ, List, [], ◌∷◌, ◌++◌, drop, ◌≤◌, sym, ap, ◌∙◌, arith}
use Rattle.byteorder.specs.Endian.{big_bytes, big_number}
use Rattle.txn_base.specs.declared.txn.TxnId.{TxnId}
use Rattle.txn_base.specs.declared.entry.CoordEntry.{CoordEntry}
use Rattle.txn_base.specs.declared.entry.CoordEntry.TheVariants as coord
use Rattle.txn_base.specs.Decoded.{coord_entry_of}
use Rattle.txn_base.specs.Records.{IsCoordEntry, IsCoordRecord, coord_record, txn_bytes}
use Rattle.txn_records.specs.Coords.{CoordRecordsDecode, CoordRecordsAreOne, CoordRecordsReadBack}
use Rattle.txn_records.proofs.Numbers.{txn_read, number_read, other_kind}

-- the entry of a record that was written
pub coord_decoded : (entry : CoordEntry) → IsCoordEntry entry → coord_entry_of (coord_record entry) ≡ entry
coord_decoded (coord.New x deadline) is =
    let txn = txn_read x (big_bytes 8 deadline) is.0 in
    let at : big_number 8 (big_bytes 8 deadline) ≡ deadline = number_read 8 deadline (omega (arith, is.1)) in
    λ i. coord.New (txn i) (at i)
coord_decoded (coord.AddPart x part) is =
    let txn = txn_read x (big_bytes 4 part) is.0 in
    let number : big_number 4 (big_bytes 4 part) ≡ part = number_read 4 part (omega (arith, is.1, is.2)) in
    λ i. coord.AddPart (txn i) (number i)
coord_decoded (coord.Committing x) is = ap coord.Committing (txn_read x [] is)
coord_decoded (coord.Committed x) is = ap coord.Committed (txn_read x [] is)
coord_decoded (coord.Aborting x) is = ap coord.Aborting (txn_read x [] is)
coord_decoded (coord.Aborted x) is = ap coord.Aborted (txn_read x [] is)

pub coord_decodes : CoordRecordsDecode
coord_decodes bytes entry is = ap coord_entry_of is.bytes_are ∙ coord_decoded entry is.fits

pub coord_one : CoordRecordsAreOne
coord_one bytes a b one two = sym (coord_decodes bytes a one) ∙ coord_decodes bytes b two

pub coord_reads_back : CoordRecordsReadBack
coord_reads_back entry read fits is = sym (coord_decodes (coord_record entry) read is) ∙ coord_decoded entry fits

-- the field behind a transaction is no deadline
pub no_new : (x : TxnId) (rest field : List ℕ) → rest ≡ txn_bytes x ++ field → ((deadline : ℕ) → field ≡ big_bytes 8 deadline → ⊥) → (entry : CoordEntry) → IsCoordRecord (1 ∷ 1 ∷ rest) entry → ⊥
no_new x rest field is_rest none (coord.New y deadline) is =
    none deadline (ap (λ (l : List ℕ). drop 18 (1 ∷ 1 ∷ l)) (sym is_rest) ∙ ap (drop 18) is.bytes_are)
no_new x rest field is_rest none (coord.AddPart y part) is = let same = other_kind is.bytes_are in omega (arith, same)
no_new x rest field is_rest none (coord.Committing y) is = let same = other_kind is.bytes_are in omega (arith, same)
no_new x rest field is_rest none (coord.Committed y) is = let same = other_kind is.bytes_are in omega (arith, same)
no_new x rest field is_rest none (coord.Aborting y) is = let same = other_kind is.bytes_are in omega (arith, same)
no_new x rest field is_rest none (coord.Aborted y) is = let same = other_kind is.bytes_are in omega (arith, same)

-- the field behind a transaction is no part
pub no_add_part : (x : TxnId) (rest field : List ℕ) → rest ≡ txn_bytes x ++ field → ((part : ℕ) → 1 ≤ part → part ≤ 62 → field ≡ big_bytes 4 part → ⊥) → (entry : CoordEntry) → IsCoordRecord (1 ∷ 2 ∷ rest) entry → ⊥
no_add_part x rest field is_rest none (coord.AddPart y part) is =
    none part is.fits.1 is.fits.2 (ap (λ (l : List ℕ). drop 18 (1 ∷ 2 ∷ l)) (sym is_rest) ∙ ap (drop 18) is.bytes_are)
no_add_part x rest field is_rest none (coord.New y deadline) is = let same = other_kind is.bytes_are in omega (arith, same)
no_add_part x rest field is_rest none (coord.Committing y) is = let same = other_kind is.bytes_are in omega (arith, same)
no_add_part x rest field is_rest none (coord.Committed y) is = let same = other_kind is.bytes_are in omega (arith, same)
no_add_part x rest field is_rest none (coord.Aborting y) is = let same = other_kind is.bytes_are in omega (arith, same)
no_add_part x rest field is_rest none (coord.Aborted y) is = let same = other_kind is.bytes_are in omega (arith, same)
