-- Replies whose text has a small bound.
use Rattle.std.specs.Prelude.{◌≡◌, ℕ, ◌≤◌, ◌==◌, ◌||◌, Bool, true, false, List, length, Option, Some, None, ⊤}
use Rattle.std.specs.List.{list_all}
use Rattle.txn_base.specs.Names.{is_name_byte}
use Rattle.txn_base.specs.declared.reply.Stuck.{Stuck}
use Rattle.txn_base.specs.declared.reply.Driven.{Driven}
use Rattle.txn_base.specs.declared.reply.Reply.{Reply}
use Rattle.txn_base.specs.declared.reply.Reply.TheVariants as reply
use Rattle.txn_base.specs.declared.reply.Refusal.{Refusal}
use Rattle.txn_base.specs.declared.reply.Refusal.TheVariants as refusal

-- A byte of a topic's name, / or @
unfoldable pub is_part_byte : ℕ → Bool
is_part_byte b = is_name_byte b || b == 47 || b == 64

-- The name of a part: at most 201 such bytes.
pub record IsPartName (name : List ℕ) : Type 0 where
  pub short : length name ≤ 201
  pub plain : list_all is_part_byte name ≡ true

abbrev pub IsShortStuck : Option Stuck → Type 0
IsShortStuck None = ⊤
IsShortStuck (Some stuck) = IsPartName stuck.part

abbrev pub IsShortDriven : Option Driven → Type 0
IsShortDriven None = ⊤
IsShortDriven (Some driven) = IsShortStuck driven.outcome.stuck

-- A refusal whose text holds no text of the client's own, and in which each part has a part's name.
abbrev pub IsShortRefusal : Refusal → Type 0
IsShortRefusal (refusal.UnknownPart name) = ⊥
IsShortRefusal (refusal.WrongKind name) = ⊥
IsShortRefusal (refusal.NotRegistered part) = IsPartName part
IsShortRefusal (refusal.Fault part) = IsPartName part
IsShortRefusal (refusal.Recovering part at total) = IsPartName part
IsShortRefusal (refusal.Damaged part place) = IsPartName part
IsShortRefusal _ = ⊤

-- A reply that tells no messages and holds no text of the client's own, and in which each part has a part's name.
abbrev pub IsShort : Reply → Type 0
IsShort (reply.Read limit messages) = ⊥
IsShort (reply.Receive messages) = ⊥
IsShort (reply.Ended decision outcome) = IsShortStuck outcome.stuck
IsShort (reply.Tick now left drove) = IsShortDriven drove
IsShort (reply.No refusal) = IsShortRefusal refusal
IsShort _ = ⊤

-- The four replies whose text takes memory.
abbrev pub is_long_refusal : Refusal → Bool
is_long_refusal (refusal.UnknownPart name) = true
is_long_refusal (refusal.WrongKind name) = true
is_long_refusal _ = false

abbrev pub is_long : Reply → Bool
is_long (reply.Read limit messages) = true
is_long (reply.Receive messages) = true
is_long (reply.No refusal) = is_long_refusal refusal
is_long _ = false
