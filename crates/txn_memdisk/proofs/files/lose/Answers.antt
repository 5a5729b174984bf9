use Rattle.std.proofs.Common.{◌++◌, ◌∷◌, [], ◌∙◌, ap}
use Rattle.std.proofs.lemmas.Result.{MatchResult-from_err}
use Rattle.txn_memdisk.specs.Files.{lost_entry}
use Rattle.txn_memdisk.specs.Past.{Past}
use Rattle.txn_memdisk.proofs.Entries.{changed_at, unchanged_at}
use Rattle.txn_memdisk.proofs.files.lose.Goals as goal

pub returns-in_err-lose-clause-err : goal.returns-in_err-lose-clause-err
returns-in_err-lose-clause-err c =
    MatchResult-from_err c.from_residual-in_err-lose.result _ _ c.from_residual-in_err-lose.ensures.0 (λ e. unchanged_at c.args.files.now.items c.place.new.files.items c.in_ok-i.i c.args.file c.in_ok-i.ensures.entries c.in_ok-i.ensures.at c.index_mut.result.now c.index_mut.ensures.value
    c.lose.new.self c.in_err-lose.ensures.id c.in_err-lose.ensures.err)

pub returns-clause-ok : goal.returns-clause-ok
returns-clause-ok c =
    changed_at c.args.files.now.items c.place.new.files.items c.in_ok-i.i c.args.file c.in_ok-i.ensures.entries c.in_ok-i.ensures.at c.index_mut.result.now c.index_mut.ensures.value
    c.lose.new.self (lost_entry c.args.offset c.args.count) c.in_ok-lose.ensures.id c.in_ok-lose.ensures.ok

pub returns-clause-past : goal.returns-clause-past
returns-clause-past c =
    (c.of-before.result, ap (λ v. v.items) c.of-before.ensures, c.in_ok-push.ensures.items ∙ ap (λ (l : Past). l ++ c.of-before.result ∷ []) c.in_ok-reserve.ensures.items)
