use Rattle.std.proofs.Common.{if◌then◌else◌, sym, ap, ◌∙◌}
use Rattle.std.proofs.lemmas.Nat.Bits.{bit_at-zero}
use Rattle.txn_table.proofs.table.Table.parts.Goals as goal

pub returns-in-None : goal.returns-in-None
returns-in-None c = λ p. bit_at-zero p ∙ sym (ap (λ b. if b then 1 else 0) (c.in-None.ensures.parts p))
