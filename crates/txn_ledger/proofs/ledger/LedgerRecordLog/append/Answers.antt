use Rattle.std.proofs.Common.{◌≡◌, arith, length, ap, ◌∙◌}
use Rattle.txn_base.specs.Content.{settled}
use Rattle.txn_base.proofs.Laws.{body_small}
use Rattle.txn_ledger.specs.Ledger.{Shown}
use Rattle.txn_ledger.proofs.Tied.{tied_landed, tied_begun}
use Rattle.txn_ledger.proofs.ledger.LedgerRecordLog.append.Goals as goal

pub encode-requires-clause-small : goal.encode-requires-clause-small
encode-requires-clause-small g c = let small = body_small _ c.requires.batch in omega arith

pub add_positions-requires-clause-bound : goal.add_positions-requires-clause-bound
add_positions-requires-clause-bound g c = let small = body_small _ c.requires.batch in omega (arith, c.self.invariant.tied.bound)

pub invariant_of-self : goal.invariant_of-self
invariant_of-self g c =
    let is_settled : c.self.inside.carrier.content.standing ≡ settled = ap (λ (v : Shown). v.content.standing) c.self.view_is ∙ c.requires.settled in
    record {
      tied = tied_landed _ _ _ _ _ _ _ c.self.invariant.tied _ c.requires.batch is_settled _ c.add_positions.ensures.items _ c.push.ensures _ _
          (omega (arith, c.len.ensures, ap length c.encode.ensures.bytes))
          (omega (arith, c.len.ensures, ap length c.encode.ensures.bytes, c.in-Ok.ensures.bound))
          (omega (arith, c.len-self-inside.ensures, c.add_positions.new.positions.ok.0));
      spare_fits = omega (arith, c.add_positions.ensures.len, c.add_positions.ensures.kept, c.self.invariant.spare_fits, c.requires.spare);
      room_fits = omega (arith, c.encode.ensures.kept, c.self.invariant.room_fits);
    }

pub invariant_of-self-in-Err : goal.invariant_of-self-in-Err
invariant_of-self-in-Err g c =
    let is_settled : c.self.inside.carrier.content.standing ≡ settled = ap (λ (v : Shown). v.content.standing) c.self.view_is ∙ c.requires.settled in
    record {
      tied = tied_begun _ _ _ _ _ _ _ c.self.invariant.tied _ c.requires.batch is_settled _ c.add_positions.ensures.items _ c.begin.ensures _
          (omega (arith, c.len-in-Err.ensures, ap length c.encode.ensures.bytes));
      spare_fits = omega (arith, c.add_positions.ensures.len, c.add_positions.ensures.kept, c.self.invariant.spare_fits, c.requires.spare);
      room_fits = omega (arith, c.encode.ensures.kept, c.self.invariant.room_fits);
    }
