use Rattle.std.proofs.Common.{◌≡◌, ℕ, ◌<◌, List, ◌++◌, length, sym, ap, ◌∙◌, subst, arith}
use Rattle.txn_base.specs.Content.{LedgerContent}
use Rattle.txn_base.specs.Frames.{frames, records}
use Rattle.txn_ledger.specs.Ledger.{Shown}
use Rattle.txn_ledger.specs.Positions.{record_at}
use Rattle.txn_ledger.proofs.Getting.{place_below, kept_at, as_asked}
use Rattle.txn_ledger.proofs.ledger.LedgerRecordLog.get.Goals as goal

pub index-requires : goal.index-requires
index-requires g c =
    let s : LedgerContent = c.self.inside.carrier.content in
    let is : s ≡ c.args.self.now.content = ap (λ (v : Shown). v.content) c.self.view_is in
    let below : c.args.place < length (records s.batches) = subst (λ (t : LedgerContent). c.args.place < length (records t.batches)) (sym is) c.requires.place in
    let within : c.args.place < length c.self.inside.positions.items = omega (arith, place_below s.batches s.standing c.args.place below, ap length c.self.invariant.tied.positions_are) in
    omega (arith, within, c.self.inside.positions.ok.0)

pub read_record-requires : goal.read_record-requires
read_record-requires g c = record {
  within = λ told.
      let s : LedgerContent = c.self.inside.carrier.content in
      let is : s ≡ c.args.self.now.content = ap (λ (v : Shown). v.content) c.self.view_is in
      let below : c.args.place < length (records s.batches) = subst (λ (t : LedgerContent). c.args.place < length (records t.batches)) (sym is) c.requires.place in
      let reads = subst (λ (t : LedgerContent). (rest : List ℕ) × (g.D.Disk.seen c.args.disk.now t.key ≡ frames t.batches ++ rest)) (sym is) (c.requires.reads told) in
      let there = kept_at s.batches s.standing c.self.inside.positions.items c.index.result.now c.args.place c.self.invariant.tied.positions_are below c.index.ensures (g.D.Disk.seen c.args.disk.now c.self.inside.file) reads.0 (ap (g.D.Disk.seen c.args.disk.now) c.self.invariant.tied.file_is ∙ reads.1) in
      there.within;
}

pub returns-clause-record : goal.returns-clause-record
returns-clause-record g c = λ told.
    let s : LedgerContent = c.self.inside.carrier.content in
    let is : s ≡ c.args.self.now.content = ap (λ (v : Shown). v.content) c.self.view_is in
    let below : c.args.place < length (records s.batches) = subst (λ (t : LedgerContent). c.args.place < length (records t.batches)) (sym is) c.requires.place in
    let reads = subst (λ (t : LedgerContent). (rest : List ℕ) × (g.D.Disk.seen c.args.disk.now t.key ≡ frames t.batches ++ rest)) (sym is) (c.requires.reads told) in
    let there = kept_at s.batches s.standing c.self.inside.positions.items c.index.result.now c.args.place c.self.invariant.tied.positions_are below c.index.ensures (g.D.Disk.seen c.args.disk.now c.self.inside.file) reads.0 (ap (g.D.Disk.seen c.args.disk.now) c.self.invariant.tied.file_is ∙ reads.1) in
    as_asked c.args.self.now.content.batches c.args.place _ c.read_record.result c.requires.place (there.bytes_are ∙ ap (λ (t : LedgerContent). record_at t.batches c.args.place) is) (c.read_record.ensures.found told)
