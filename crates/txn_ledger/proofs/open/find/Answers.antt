use Rattle.std.proofs.Common.{◌≡◌, ℕ, List, sym, ap, ◌∙◌, subst}
use Rattle.txn_base.specs.Disk.{Files}
use Rattle.txn_base.specs.Frames.{Stands}
use Rattle.txn_base.specs.Content.{LedgerContent}
use Rattle.txn_ledger.proofs.Chain.{same_on}
use Rattle.txn_ledger.proofs.Opening.{cut_keeps, not_damaged}
use Rattle.txn_ledger.proofs.open.find.Goals as goal

pub returns-in_err-cut-clause-images : goal.returns-in_err-cut-clause-images
returns-in_err-cut-clause-images g c =
    let looked = same_on g.D.Disk c.args.file 0 _ _ _ _ (same_on g.D.Disk c.args.file 0 _ _ _ _ c.sync.ensures.images c.size.ensures.images) c.scan.ensures.images in
    let content : LedgerContent = c.in_ok-found.found.carrier.content in
    let at : (e : Files) → g.D.Disk.image c.scan.new.disk e → Stands (e c.args.file) content.batches =
    λ e now.
    (let s = (same_on g.D.Disk c.args.file 0 _ _ _ _ c.size.ensures.images c.scan.ensures.images).at_end e now in
    let told = g.met.D.Disk.image_is_told _ e now in
    let read : g.D.Disk.seen c.size.new.self c.args.file ≡ e c.args.file =
    ap (λ (f : Files). f c.args.file) (c.size.ensures.seen ∙ c.sync.ensures.seen) ∙ sym (c.in_ok-sync.ensures.durable s.0 s.1) ∙ ap (λ (f : Files). f c.args.file) (sym s.2) in
    subst (λ (x : List ℕ). Stands x content.batches) read (c.in_ok-found.ensures.told told)) in
    cut_keeps g.D.Disk c.args.file _ _ _ looked content.batches c.in_ok-found.found.end c.in_ok-found.ensures.scanned.tied.ends at c.cut.ensures.images

pub returns-clause-images : goal.returns-clause-images
returns-clause-images g c =
    let looked = same_on g.D.Disk c.args.file 0 _ _ _ _ (same_on g.D.Disk c.args.file 0 _ _ _ _ c.sync.ensures.images c.size.ensures.images) c.scan.ensures.images in
    let content : LedgerContent = c.in_ok-found.found.carrier.content in
    let at : (e : Files) → g.D.Disk.image c.scan.new.disk e → Stands (e c.args.file) content.batches =
    λ e now.
    (let s = (same_on g.D.Disk c.args.file 0 _ _ _ _ c.size.ensures.images c.scan.ensures.images).at_end e now in
    let told = g.met.D.Disk.image_is_told _ e now in
    let read : g.D.Disk.seen c.size.new.self c.args.file ≡ e c.args.file =
    ap (λ (f : Files). f c.args.file) (c.size.ensures.seen ∙ c.sync.ensures.seen) ∙ sym (c.in_ok-sync.ensures.durable s.0 s.1) ∙ ap (λ (f : Files). f c.args.file) (sym s.2) in
    subst (λ (x : List ℕ). Stands x content.batches) read (c.in_ok-found.ensures.told told)) in
    cut_keeps g.D.Disk c.args.file _ _ _ looked content.batches c.in_ok-found.found.end c.in_ok-found.ensures.scanned.tied.ends at c.cut.ensures.images

pub returns-in_err-cut-clause-uncut : goal.returns-in_err-cut-clause-uncut
returns-in_err-cut-clause-uncut g c = λ tells.
    not_damaged c.args.file (g.D.Disk.seen c.args.disk.now) (g.D.Disk.seen c.size.new.self) (g.D.Disk.seen c.cut.new.disk) c.in_ok-found.found.carrier.content.batches (c.size.ensures.seen ∙ c.sync.ensures.seen) (c.in_ok-found.ensures.told tells)

pub returns-clause-uncut : goal.returns-clause-uncut
returns-clause-uncut g c = λ tells.
    not_damaged c.args.file (g.D.Disk.seen c.args.disk.now) (g.D.Disk.seen c.size.new.self) (g.D.Disk.seen c.cut.new.disk) c.in_ok-found.found.carrier.content.batches (c.size.ensures.seen ∙ c.sync.ensures.seen) (c.in_ok-found.ensures.told tells)
