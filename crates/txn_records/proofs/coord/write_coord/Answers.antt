use Rattle.std.proofs.Common.{◌≡◌, ◌++◌, ap, ◌∙◌, List, ℕ}
use Rattle.txn_base.specs.Decoded.{coord_entry_of}
use Rattle.txn_base.specs.Records.{coord_record}
use Rattle.txn_records.proofs.Coords.{coord_decoded}
use Rattle.txn_records.proofs.coord.write_coord.Goals as goal

pub returns-clause-entry : goal.returns-clause-entry
returns-clause-entry c =
    let bytes : c.put_coord.new.out.bytes ≡ coord_record c.args.entry.now =
    c.put_coord.ensures.bytes ∙ ap (λ (l : List ℕ). l ++ coord_record c.args.entry.now) (c.in_ok-reserve.ensures.bytes ∙ c.new-out.ensures) in
    ap coord_entry_of bytes ∙ coord_decoded c.args.entry.now c.requires
