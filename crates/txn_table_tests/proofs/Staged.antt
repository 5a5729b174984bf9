-- The entries of a table and those staged behind them, with one more.
use Rattle.std.proofs.Common.{◌≡◌, true, List, [], ◌∷◌, ◌++◌, sym, ap, ◌∙◌, subst}
use Rattle.std.proofs.lemmas.List.{append_assoc}
use Rattle.txn_base.specs.declared.entry.CoordEntry.{CoordEntry}
use Rattle.txn_base.specs.Records.{IsCoordEntry}
use Rattle.txn_table.specs.Table.{AreEntries, may_follow}
use Rattle.txn_table.proofs.Laws.{entries_more}

pub one_more : (front ahead new : List CoordEntry) (e : CoordEntry) → AreEntries (front ++ ahead) → IsCoordEntry e → may_follow 62 (front ++ ahead) e ≡ true → new ≡ ahead ++ e ∷ [] → AreEntries (front ++ new)
one_more front ahead new e are fits h is =
    subst AreEntries (append_assoc front ahead (e ∷ []) ∙ ap (λ (l : List CoordEntry). front ++ l) (sym is)) (entries_more (front ++ ahead) e are fits h)
