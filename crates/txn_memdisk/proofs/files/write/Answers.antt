use Rattle.std.proofs.Common.{◌++◌, ◌∷◌, [], ◌∙◌, ap, length, arith}
use Rattle.std.proofs.lemmas.Result.{MatchResult-from_err}
use Rattle.txn_memdisk.specs.Files.{Entry, written_entry}
use Rattle.txn_memdisk.specs.Past.{Past}
use Rattle.txn_memdisk.proofs.Entries.{changed_at, unchanged_at, placed_entry}
use Rattle.txn_memdisk.proofs.files.write.Goals as goal

pub write-requires : goal.write-requires
write-requires c =
    let is = placed_entry c.args.files.now.items c.place.new.files.items c.in_ok-i.i c.args.file c.in_ok-i.ensures.entries c.in_ok-i.ensures.at c.index_mut.result.now c.index_mut.ensures.value in
    omega (arith, c.requires, ap (λ (e : Entry). length e.seen) is)

pub returns-in_err-write-clause-err : goal.returns-in_err-write-clause-err
returns-in_err-write-clause-err c =
    MatchResult-from_err c.from_residual-in_err-write.result _ _ c.from_residual-in_err-write.ensures.0 (λ e. unchanged_at c.args.files.now.items c.place.new.files.items c.in_ok-i.i c.args.file c.in_ok-i.ensures.entries c.in_ok-i.ensures.at c.index_mut.result.now c.index_mut.ensures.value
    c.write.new.self c.in_err-write.ensures.id c.in_err-write.ensures.err)

pub returns-clause-ok : goal.returns-clause-ok
returns-clause-ok c =
    changed_at c.args.files.now.items c.place.new.files.items c.in_ok-i.i c.args.file c.in_ok-i.ensures.entries c.in_ok-i.ensures.at c.index_mut.result.now c.index_mut.ensures.value
    c.write.new.self (written_entry c.args.offset c.args.bytes.now) c.in_ok-write.ensures.id c.in_ok-write.ensures.ok

pub returns-clause-past : goal.returns-clause-past
returns-clause-past c =
    (c.of-before.result, ap (λ v. v.items) c.of-before.ensures, c.in_ok-push.ensures.items ∙ ap (λ (l : Past). l ++ c.of-before.result ∷ []) c.in_ok-reserve.ensures.items)
