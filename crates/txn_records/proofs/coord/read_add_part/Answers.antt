use Rattle.std.proofs.Common.{arith, inl, inr, sym, ◌≡◌, ◌∙◌}
use Rattle.txn_records.proofs.Numbers.{half_one}
use Rattle.txn_records.proofs.Coords.{no_add_part}
use Rattle.txn_records.proofs.coord.read_add_part.Goals as goal

pub returns-in_err-part-clause-none : goal.returns-in_err-part-clause-none
returns-in_err-part-clause-none c =
    rw c.from_residual-in_err-part.ensures (no_add_part c.in_ok-txn.txn c.args.rest.now c.in_ok-txn.field.now c.in_ok-txn.ensures.some (λ part low high. c.in_err-part.ensures.none part))

pub returns-then-part-lt1-clause-none : goal.returns-then-part-lt1-clause-none
returns-then-part-lt1-clause-none c =
    no_add_part c.in_ok-txn.txn c.args.rest.now c.in_ok-txn.field.now c.in_ok-txn.ensures.some
    (λ part low high e.
    let same : c.in_ok-part.part ≡ part = half_one c.in_ok-part.part part c.in_ok-part.ensures.some.1 (omega arith) (sym c.in_ok-part.ensures.some.0 ∙ e) in
    elim c.then-part-lt1.either [ inl least ↦ omega arith | inr most ↦ omega arith ])
