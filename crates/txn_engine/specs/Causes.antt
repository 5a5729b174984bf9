-- The row by which a request is refused.
use Rattle.std.specs.Prelude.{◌≡◌, ◌⊎◌, Option, Some}
use Rattle.std.specs.Option.{option_or}
use Rattle.txn_base.specs.declared.limits.Limits.{Limits}
use Rattle.txn_base.specs.declared.request.Request.{Request}
use Rattle.txn_base.specs.declared.reply.Reply.{Reply}
use Rattle.txn_base.specs.declared.reply.Reply.TheVariants as reply
use Rattle.txn_base.specs.declared.reply.Refusal.{Refusal}
use Rattle.txn_base.specs.declared.reply.Refusal.TheVariants as no
use Rattle.txn_model.specs.declared.world.World.{World}
use Rattle.txn_model.specs.EarlyRows.{early_refusal}
use Rattle.txn_model.specs.LateRows.{late_refusal}
use Rattle.txn_model.specs.Table.{TableState}

-- In a table whose parts are rebuilt, the first row that comes for a request, in the one order of all rows; or none.
abbrev pub first_refusal : Limits → TableState → Request → Option Refusal
first_refusal limits t r = option_or (early_refusal limits t.world r) (late_refusal limits t r)

-- A refusal that a row gives: not that of a fault, of damage, of a part that is being rebuilt or of memory.
abbrev pub IsByRow : Refusal → Type 0
IsByRow (no.Fault part) = ⊥
IsByRow (no.Damaged part place) = ⊥
IsByRow (no.Recovering part at total) = ⊥
IsByRow no.NoMemory = ⊥
IsByRow _ = Unit {0}

-- Where one of the rows comes that look at the request and the names alone, the reply tells the first of them, or want of
-- memory in its place.
abbrev pub TellsEarly : Limits → World → Request → Reply → Type 0
TellsEarly limits w r told = (row : Refusal) → early_refusal limits w r ≡ Some row → (told ≡ reply.No row) ⊎ (told ≡ reply.No no.NoMemory)
