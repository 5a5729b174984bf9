-- The batch of a snapshot.
use Rattle.std.proofs.Common.{◌≡◌, ℕ, zero, suc, ◌*◌, ◌≤◌, List, [], ◌∷◌, ◌++◌, length, take, drop, get_or, refl, sym, ap, ◌∙◌, arith}
use Rattle.std.specs.Prelude.{All, AllPairs}
use Rattle.std.proofs.lemmas.List.{length-drop, take-append-drop}
use Rattle.std.proofs.lemmas.List.Elements.{All-take, All-drop}
use Rattle.byteorder.specs.Endian.{big_bytes, big_number}
use Rattle.txn_base.specs.declared.txn.TxnId.{TxnId}
use Rattle.txn_base.specs.declared.txn.Decision.{Decision}
use Rattle.txn_base.specs.declared.snapshot.Snapshot.{Snapshot}
use Rattle.txn_base.specs.Frames.{Record, Batch}
use Rattle.txn_base.specs.Records.{IsEnd, IsWord, IsHeadRecord, head_record}
use Rattle.txn_base.specs.Snapshots.{IsSnapshotBatch, ComesBefore, ends_records, snapshot_batch}
use Rattle.txn_records.specs.SnapshotLaws.{EndsRecordsAreOne, SnapshotBatchesAreOne, SnapshotsReadBack}
use Rattle.txn_records.proofs.EndsOne.{ends_one}
use Rattle.txn_records.proofs.Numbers.{number_read}
use Rattle.txn_records.proofs.Pieces.{count_at_most}

-- the numbers of a head are its own
word_one : (x y : ℕ) → IsWord x → IsWord y → big_bytes 8 x ≡ big_bytes 8 y → x ≡ y
word_one x y fits small e = sym (number_read 8 x (omega arith)) ∙ ap (big_number 8) e ∙ number_read 8 y (omega arith)

pub record IsRest (ends : List (TxnId × Decision)) (rest : List Record) (total : ℕ) : Type 0 where
  pub each : All IsEnd ends
  pub total_is : length ends ≡ total
  pub records_are : rest ≡ ends_records 63 ends
  pub ascending : AllPairs (λ a b. ComesBefore a.0 b.0) ends
  pub few : length rest ≤ 63
  pub small : total ≤ 189000

-- where no ends fit behind the head, the batch is that of no snapshot
pub no_snapshot : (batch : Batch) (head : Record) (rest : List Record) (entries limit total : ℕ) → batch ≡ head ∷ rest → IsHeadRecord head entries limit total
    → ((ends : List (TxnId × Decision)) → IsRest ends rest total → ⊥) → (snap : Snapshot) → IsSnapshotBatch batch snap → ⊥
no_snapshot batch head rest entries limit total split is none snap of =
    let heads : head ≡ head_record snap.entries snap.limit (length snap.ends) = ap (λ (l : List Record). get_or l 0 []) (sym split ∙ of.records_are) in
    let behind : rest ≡ ends_records 63 snap.ends = ap (drop 1) (sym split ∙ of.records_are) in
    let few = of.fits.few in
    let counted : total ≡ length snap.ends = word_one total (length snap.ends) is.ends_fit (omega arith) (ap (drop 18) (sym is.bytes_are ∙ heads)) in
    none snap.ends record {
      each = of.fits.each;
      total_is = sym counted;
      records_are = behind;
      ascending = of.fits.ascending;
      few = omega (arith, ap length behind, count_at_most 63 snap.ends);
      small = omega (arith, counted, few);
    }

-- without a head, too
pub no_head : (batch : Batch) (head : Record) (rest : List Record) → batch ≡ head ∷ rest → ((entries limit ends : ℕ) → head ≡ head_record entries limit ends → ⊥)
    → (snap : Snapshot) → IsSnapshotBatch batch snap → ⊥
no_head batch head rest split none snap of =
    none snap.entries snap.limit (length snap.ends) (ap (λ (l : List Record). get_or l 0 []) (sym split ∙ of.records_are))

pub snapshot_joined : (batch : Batch) (head : Record) (rest : List Record) (entries limit total : ℕ) (ends : List (TxnId × Decision)) → batch ≡ head ∷ rest → IsHeadRecord head entries limit total
    → rest ≡ ends_records 63 ends → length ends ≡ total → total ≤ 189000 → All IsEnd ends → AllPairs (λ a b. ComesBefore a.0 b.0) ends → IsSnapshotBatch batch (record { entries = entries; limit = limit; ends = ends })
snapshot_joined batch head rest entries limit total ends split is behind counted small each ascending = record {
  records_are =
      split ∙ ap (λ (r : Record). r ∷ rest) (is.bytes_are ∙ ap (head_record entries limit) (sym counted)) ∙ ap (λ (l : List Record). head_record entries limit (length ends) ∷ l) behind;
  fits = record { entries_fit = is.entries_fit; limit_fits = is.limit_fits; few = omega (arith, counted, small); each = each; ascending = ascending };
}

pub ends_record_one : EndsRecordsAreOne
ends_record_one bytes a b one two = ends_one a b one.each two.each (sym one.bytes_are ∙ two.bytes_are)

pieces_one : (n : ℕ) (a b : List (TxnId × Decision)) → length a ≤ 3000 * n → length b ≤ 3000 * n → All IsEnd a → All IsEnd b → ends_records n a ≡ ends_records n b → a ≡ b
pieces_one zero [] [] few less p q e = refl
pieces_one zero [] (y ∷ b) few less p q e = absurd (omega arith)
pieces_one zero (x ∷ a) b few less p q e = absurd (omega arith)
pieces_one (suc n) [] [] few less p q e = refl
pieces_one (suc n) [] (y ∷ b) few less p q e = absurd (omega (arith, ap length e))
pieces_one (suc n) (x ∷ a) [] few less p q e = absurd (omega (arith, ap length e))
pieces_one (suc n) (x ∷ a) (y ∷ b) few less p q e =
    let taken = ends_one (take 3000 (x ∷ a)) (take 3000 (y ∷ b)) (All-take IsEnd 3000 (x ∷ a) p) (All-take IsEnd 3000 (y ∷ b) q) (ap (λ (l : List Record). get_or l 0 []) e) in
    let left = pieces_one n (drop 3000 (x ∷ a)) (drop 3000 (y ∷ b)) (omega (arith, length-drop 3000 (x ∷ a))) (omega (arith, length-drop 3000 (y ∷ b))) (All-drop IsEnd 3000 (x ∷ a) p) (All-drop IsEnd 3000 (y ∷ b) q) (ap (drop 1) e) in
    sym (take-append-drop 3000 (x ∷ a)) ∙ ap (λ (l : List (TxnId × Decision)). l ++ drop 3000 (x ∷ a)) taken ∙ ap (λ (l : List (TxnId × Decision)). take 3000 (y ∷ b) ++ l) left ∙ take-append-drop 3000 (y ∷ b)

pub snapshot_one : SnapshotBatchesAreOne
snapshot_one batch a b one two =
    let same = sym one.records_are ∙ two.records_are in
    let heads : head_record a.entries a.limit (length a.ends) ≡ head_record b.entries b.limit (length b.ends) = ap (λ (l : List Record). get_or l 0 []) same in
    let entries = word_one a.entries b.entries one.fits.entries_fit two.fits.entries_fit (ap (λ (l : List ℕ). take 8 (drop 2 l)) heads) in
    let limits = word_one a.limit b.limit one.fits.limit_fits two.fits.limit_fits (ap (λ (l : List ℕ). take 8 (drop 10 l)) heads) in
    let ends = pieces_one 63 a.ends b.ends one.fits.few two.fits.few one.fits.each two.fits.each (ap (drop 1) same) in
    λ i. record { entries = entries i; limit = limits i; ends = ends i }

pub snapshot_reads_back : SnapshotsReadBack
snapshot_reads_back snap read fits is = snapshot_one (snapshot_batch snap) read snap is record { records_are = refl; fits = fits }
