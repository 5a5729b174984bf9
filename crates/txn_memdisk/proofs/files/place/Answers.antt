use Rattle.std.proofs.Common.{ℕ, List, ◌++◌, ◌∷◌, [], sym, ◌∙◌, ap, subst}
use Rattle.txn_memdisk.specs.declared.file.MemFile.{MemFile}
use Rattle.txn_memdisk.specs.Files.{entry_in}
use Rattle.txn_memdisk.specs.Places.{IsFileAt}
use Rattle.txn_memdisk.proofs.Entries.{push_at, push_nothing}
use Rattle.txn_memdisk.proofs.files.place.Goals as goal

pub returns-clause-at : goal.returns-clause-at
returns-clause-at c =
    let files = c.args.files.now.items in
    let miss = rw c.deref.ensures.value at c.in_default.ensures.none in
    let at = push_at files c.new.result c.args.id c.new.ensures.id miss in
    let index = sym (c.len-i.ensures ∙ c.args.files.now.ok.0) in
    subst (λ (l : List MemFile). IsFileAt l c.len-i.result c.args.id) (sym c.in_ok-push.ensures.items) (subst (λ (n : ℕ). IsFileAt (files ++ c.new.result ∷ []) n c.args.id) index at)

pub returns-clause-entries : goal.returns-clause-entries
returns-clause-entries c = λ id. ap (λ (l : List MemFile). entry_in l id) c.in_ok-push.ensures.items ∙ push_nothing c.args.files.now.items c.new.result c.new.ensures.entry id
