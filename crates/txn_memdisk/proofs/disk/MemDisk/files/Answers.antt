use Rattle.std.proofs.Common.{◌≡◌, List, map, IfOk, subst}
use Rattle.txn_memdisk.specs.declared.file.MemFile.{MemFile}
use Rattle.txn_memdisk.specs.Files.{file_id_of}
use Rattle.txn_memdisk.proofs.Named.{all_named}
use Rattle.txn_memdisk.proofs.disk.MemDisk.files.Goals as goal

pub returns-clause-others : goal.returns-clause-others
returns-clause-others c = all_named (λ names. names.items) _ c.args.self.now.files.items (subst (λ (files : List MemFile). IfOk c.names_of.result (λ names. names.items ≡ map file_id_of files)) c.deref.ensures.value c.names_of.ensures)
