use Rattle.std.proofs.Common.{sym, ◌∙◌, ap}
use Rattle.txn_memdisk.specs.Files.{Entry}
use Rattle.txn_memdisk.proofs.Entries.{entry_at, missed}
use Rattle.txn_memdisk.proofs.files.bytes_in.Goals as goal

pub returns-in-Some : goal.returns-in-Some
returns-in-Some c = c.as_slice.ensures.value ∙ sym (ap (λ (e : Entry). e.seen) (entry_at c.args.files.now c.in-Some.i c.args.id c.in-Some.ensures.some c.index-files-i.result))

pub returns-in-None : goal.returns-in-None
returns-in-None c = sym (ap (λ (e : Entry). e.seen) (missed c.args.files.now c.args.id c.in-None.ensures.none))
