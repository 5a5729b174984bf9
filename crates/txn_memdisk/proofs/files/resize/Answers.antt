use Rattle.std.proofs.Common.{◌++◌, ◌∷◌, [], ◌∙◌, ap}
use Rattle.std.proofs.lemmas.Result.{MatchResult-from_err}
use Rattle.txn_memdisk.specs.Files.{sized_entry}
use Rattle.txn_memdisk.specs.Past.{Past}
use Rattle.txn_memdisk.proofs.Entries.{changed_at, unchanged_at}
use Rattle.txn_memdisk.proofs.files.resize.Goals as goal

pub returns-in_err-resize-clause-err : goal.returns-in_err-resize-clause-err
returns-in_err-resize-clause-err c =
    MatchResult-from_err c.from_residual-in_err-resize.result _ _ c.from_residual-in_err-resize.ensures.0 (λ e. unchanged_at c.args.files.now.items c.place.new.files.items c.in_ok-i.i c.args.file c.in_ok-i.ensures.entries c.in_ok-i.ensures.at c.index_mut.result.now c.index_mut.ensures.value
    c.resize.new.self c.in_err-resize.ensures.id c.in_err-resize.ensures.err)

pub returns-clause-ok : goal.returns-clause-ok
returns-clause-ok c =
    changed_at c.args.files.now.items c.place.new.files.items c.in_ok-i.i c.args.file c.in_ok-i.ensures.entries c.in_ok-i.ensures.at c.index_mut.result.now c.index_mut.ensures.value
    c.resize.new.self (sized_entry c.args.size) c.in_ok-resize.ensures.id c.in_ok-resize.ensures.ok

pub returns-clause-past : goal.returns-clause-past
returns-clause-past c =
    (c.of-before.result, ap (λ v. v.items) c.of-before.ensures, c.in_ok-push.ensures.items ∙ ap (λ (l : Past). l ++ c.of-before.result ∷ []) c.in_ok-reserve.ensures.items)
