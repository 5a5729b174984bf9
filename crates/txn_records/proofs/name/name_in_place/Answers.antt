use Rattle.std.proofs.Common.{◌≡◌, drop, sym, ap, ◌∙◌, subst}
use Rattle.std.specs.Prelude.{IsUtf8}
use Rattle.txn_records.proofs.Catalog.{name_text}
use Rattle.txn_records.proofs.name.name_in_place.Goals as goal

pub returns-in_default-clause-none : goal.returns-in_default-clause-none
returns-in_default-clause-none c name is =
    let same : name ≡ c.in_ok-kind.rest.now = ap (drop 2) (sym is.bytes_are ∙ c.in_ok-kind.ensures.some) in
    c.in_default.ensures.cases.0 (subst IsUtf8 same (name_text name is.form))
