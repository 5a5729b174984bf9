use Rattle.std.proofs.Common.{sym, ◌∙◌, ap}
use Rattle.txn_base.specs.Disk.{same_file}
use Rattle.txn_memdisk.specs.declared.file.MemFile.{MemFile}
use Rattle.txn_memdisk.proofs.Entries.{misses_more}
use Rattle.txn_memdisk.proofs.files.find.Goals as goal

pub loop-i-preserved : goal.loop-i-preserved
loop-i-preserved c =
    let apart = ap (λ (f : MemFile). same_file f.id c.args.id) (sym c.index-files-i.is) ∙ sym c.is.ensures ∙ c.if-is.false in
    misses_more c.args.files.now c.loop-i.i c.index-files-i.result c.args.id c.loop-i-test.true c.loop-i.invariant apart

pub returns-then-is-clause-some : goal.returns-then-is-clause-some
returns-then-is-clause-some c =
    record { file = c.index-files-i.result; below = c.loop-i-test.true; is = sym c.index-files-i.is; named = sym c.is.ensures ∙ c.if-is.true; first = c.loop-i.invariant }
