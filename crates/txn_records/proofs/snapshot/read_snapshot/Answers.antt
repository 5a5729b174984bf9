use Rattle.std.proofs.Common.{length, ap, sym, ◌∙◌, arith, inl, inr, refl, subst}
use Rattle.std.specs.Prelude.{All, AllPairs}
use Rattle.std.proofs.lemmas.Bool.{false≢true}
use Rattle.txn_base.specs.declared.txn.TxnId.{TxnId}
use Rattle.txn_base.specs.declared.txn.Decision.{Decision}
use Rattle.txn_base.specs.Bytes.{contents_of}
use Rattle.txn_base.specs.Records.{IsEnd}
use Rattle.txn_base.specs.Snapshots.{ComesBefore, ends_records}
use Rattle.txn_records.proofs.Pieces.{contents_length}
use Rattle.txn_records.proofs.SnapshotBatch.{no_head, no_snapshot, snapshot_joined}
use Rattle.txn_records.proofs.snapshot.read_snapshot.Goals as goal

pub returns-in_default-head_of-clause-bad : goal.returns-in_default-head_of-clause-bad
returns-in_default-head_of-clause-bad c same =
    no_head (contents_of c.args.batch.now) c.in-Some.head.now (contents_of c.in-Some.rest.now) c.in-Some.ensures.some c.in_default-head_of.ensures.none

pub returns-then-rest-gt63-clause-bad : goal.returns-then-rest-gt63-clause-bad
returns-then-rest-gt63-clause-bad c same =
    no_snapshot (contents_of c.args.batch.now) c.in-Some.head.now (contents_of c.in-Some.rest.now) c.in-Some-head_of.entries c.in-Some-head_of.limit c.in-Some-head_of.total c.in-Some.ensures.some c.in-Some-head_of.ensures.some
    (λ ends is. elim c.then-rest-gt63.either [
      | inl many ↦ omega (arith, is.few, many, contents_length c.in-Some.rest.now)
      | inr more ↦ omega (arith, is.small, more.1)
    ])

pub returns-then-not-is_ascending-clause-bad : goal.returns-then-not-is_ascending-clause-bad
returns-then-not-is_ascending-clause-bad c same =
    no_snapshot (contents_of c.args.batch.now) c.in-Some.head.now (contents_of c.in-Some.rest.now) c.in-Some-head_of.entries c.in-Some-head_of.limit c.in-Some-head_of.total c.in-Some.ensures.some c.in-Some-head_of.ensures.some
    (λ ends is.
    let one = c.in_ok-ends.ensures.one ends is.each is.total_is is.records_are in
    false≢true (c.if-not-is_ascending.ensures.1 (subst (AllPairs {X = TxnId × Decision} (λ a b. ComesBefore a.0 b.0)) (one ∙ sym c.deref.ensures.value) is.ascending)))

pub returns-clause-read : goal.returns-clause-read
returns-clause-read c =
    snapshot_joined (contents_of c.args.batch.now) c.in-Some.head.now (contents_of c.in-Some.rest.now) c.in-Some-head_of.entries c.in-Some-head_of.limit c.in-Some-head_of.total c.from_vec.result c.in-Some.ensures.some c.in-Some-head_of.ensures.some
    (c.in_ok-ends.ensures.records ∙ ap (ends_records 63) (sym c.from_vec.ensures))
    (ap length c.from_vec.ensures ∙ c.in_ok-ends.ensures.total)
    c.if-total-gt189000.false
    (subst (All IsEnd) (sym c.from_vec.ensures) c.in_ok-ends.ensures.each)
    (subst (AllPairs {X = TxnId × Decision} (λ a b. ComesBefore a.0 b.0)) (c.deref.ensures.value ∙ sym c.from_vec.ensures) (c.if-not-is_ascending.ensures.0 refl))
