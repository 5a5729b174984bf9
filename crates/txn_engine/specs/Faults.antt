-- The part that a fault names.
use Rattle.std.specs.Prelude.{◌≡◌, ℕ, ◌≤◌, if◌then◌else◌, List, length, Option, Some, None}
use Rattle.txn_base.specs.declared.reply.Reply.{Reply}
use Rattle.txn_base.specs.declared.reply.Reply.TheVariants as reply
use Rattle.txn_base.specs.declared.reply.Refusal.TheVariants as no
use Rattle.txn_base.specs.declared.reply.Stuck.{Stuck}
use Rattle.txn_model.specs.Names.{name_of}
use Rattle.txn_model.specs.Replies.{is_fault_why}

-- The name of the part whose fault stopped an end, if one did.
abbrev pub stuck_name : Option Stuck → Option (List ℕ)
stuck_name None = None
stuck_name (Some s) = if is_fault_why s.why then Some s.part else None

-- The name of the part of whose fault a reply tells, if it tells of one: a refusal by it, or an end that was stopped by it.
abbrev pub fault_name : Reply → Option (List ℕ)
fault_name (reply.No (no.Fault part)) = Some part
fault_name (reply.Ended d outcome) = stuck_name outcome.stuck
fault_name (reply.Tick latest left (Some drove)) = stuck_name drove.outcome.stuck
fault_name _ = None

-- The coordinator or a part of these names has this name, and its count of faults rose.
pub record RoseByName (names : List (List ℕ)) (rose : ℕ → Type 0) (name : List ℕ) : Type 0 where
  pub number : ℕ
  pub within : number ≤ length names
  pub named : name ≡ name_of names number
  pub grew : rose number
