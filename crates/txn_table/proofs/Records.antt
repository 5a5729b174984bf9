-- The record of an entry stands for that entry.
use Rattle.std.proofs.Common.{◌≡◌, ℕ, List, [], ◌++◌, drop, sym, ap, ◌∙◌, arith}
use Rattle.std.proofs.lemmas.List.{append_assoc, append-nil}
use Rattle.byteorder.specs.Endian.{big_bytes, big_number}
use Rattle.byteorder.specs.Numbers.{big_number-reads_back}
use Rattle.txn_base.specs.declared.txn.TxnId.{TxnId}
use Rattle.txn_base.specs.declared.entry.CoordEntry.{CoordEntry}
use Rattle.txn_base.specs.declared.entry.CoordEntry.TheVariants as coord
use Rattle.txn_base.specs.Records.{IsTxnId, IsCoordEntry, coord_record, txn_bytes}
use Rattle.txn_base.specs.Decoded.{txn_at_front, coord_entry_of}

txn_read : (x : TxnId) (rest : List ℕ) → IsTxnId x → txn_at_front (txn_bytes x ++ rest) ≡ x
txn_read x rest is =
    let most : big_number 8 (txn_bytes x ++ rest) ≡ x.most =
    ap (big_number 8) (append_assoc (big_bytes 8 x.most) (big_bytes 8 x.least) rest) ∙ big_number-reads_back 8 x.most (big_bytes 8 x.least ++ rest) (omega (arith, is.most)) in
    let least : big_number 8 (drop 8 (txn_bytes x ++ rest)) ≡ x.least = big_number-reads_back 8 x.least rest (omega (arith, is.least)) in
    λ i. record { most = most i; least = least i }

txn_alone : (x : TxnId) → IsTxnId x → txn_at_front (txn_bytes x) ≡ x
txn_alone x is = ap txn_at_front (sym (append-nil (txn_bytes x))) ∙ txn_read x [] is

-- a record is read as its entry
pub coord_back : (e : CoordEntry) → IsCoordEntry e → coord_entry_of (coord_record e) ≡ e
coord_back (coord.New x deadline) is =
    let late : big_number 8 (drop 16 (txn_bytes x ++ big_bytes 8 deadline)) ≡ deadline = ap (big_number 8) (sym (append-nil (big_bytes 8 deadline))) ∙ big_number-reads_back 8 deadline [] (omega (arith, is.1)) in
    ap (λ (y : TxnId). coord.New y (big_number 8 (drop 16 (txn_bytes x ++ big_bytes 8 deadline)))) (txn_read x (big_bytes 8 deadline) is.0) ∙ ap (λ (n : ℕ). coord.New x n) late
coord_back (coord.AddPart x part) is =
    let here : big_number 4 (drop 16 (txn_bytes x ++ big_bytes 4 part)) ≡ part = ap (big_number 4) (sym (append-nil (big_bytes 4 part))) ∙ big_number-reads_back 4 part [] (omega (arith, is.2)) in
    ap (λ (y : TxnId). coord.AddPart y (big_number 4 (drop 16 (txn_bytes x ++ big_bytes 4 part)))) (txn_read x (big_bytes 4 part) is.0) ∙ ap (λ (n : ℕ). coord.AddPart x n) here
coord_back (coord.Committing x) is = ap coord.Committing (txn_alone x is)
coord_back (coord.Committed x) is = ap coord.Committed (txn_alone x is)
coord_back (coord.Aborting x) is = ap coord.Aborting (txn_alone x is)
coord_back (coord.Aborted x) is = ap coord.Aborted (txn_alone x is)
