use Rattle.std.proofs.Common.{◌++◌, ◌∷◌, [], ◌∙◌, ap}
use Rattle.txn_memdisk.specs.Files.{Entry, sure_entry}
use Rattle.txn_memdisk.specs.Past.{Past}
use Rattle.txn_memdisk.proofs.Entries.{changed_at}
use Rattle.txn_memdisk.proofs.files.put.Goals as goal

pub returns-clause-ok : goal.returns-clause-ok
returns-clause-ok c =
    changed_at c.args.files.now.items c.place.new.files.items c.in_ok-i.i c.args.file c.in_ok-i.ensures.entries c.in_ok-i.ensures.at c.index_mut.result.now c.index_mut.ensures.value
    c.put.new.self (λ (e : Entry). sure_entry c.args.bytes.items) c.put.ensures.id c.put.ensures.entry

pub returns-clause-past : goal.returns-clause-past
returns-clause-past c =
    (c.of-before.result, ap (λ v. v.items) c.of-before.ensures, c.in_ok-push.ensures.items ∙ ap (λ (l : Past). l ++ c.of-before.result ∷ []) c.in_ok-reserve.ensures.items)
