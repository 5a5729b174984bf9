-- A slice of the visible messages, as it grows.
use Rattle.std.specs.Prelude.{◌≡◌, ℕ, ◌+◌, ◌≤◌, Bool, true, false, nat_le, List, [], ◌∷◌, ◌++◌, take, filter, Option, Some, None, ◌<◌, option_to_list}
use Rattle.txn_base.specs.declared.messages.Message.{Message}
use Rattle.txn_base.specs.declared.entry.TopicEntry.{TopicEntry}
use Rattle.txn_base.specs.declared.core_entry.CoreEntry.{CoreEntry}
use Rattle.txn_base.specs.declared.core_entry.CoreEntry.TheVariants as core
use Rattle.txn_model.specs.Ack.{is_commit}
use Rattle.txn_model.specs.Topic.{fitting, first_and_fitting, marker_of, visible_of}

-- Behind messages with `spent` bytes together, of which there is room for `bytes`, and with `left` messages left to give,
-- what is given of these.
abbrev pub rest_of : ℕ → ℕ → ℕ → List Message → List Message → List Message
rest_of bytes spent left [] messages = first_and_fitting bytes (take left messages)
rest_of bytes spent left (m ∷ ms) messages = fitting bytes spent (take left messages)

-- The bytes with a body more: the first one always fits.
abbrev pub IsSpentWith : List Message → ℕ → ℕ → ℕ → Option ℕ → Type 0
IsSpentWith [] bytes spent size found = found ≡ Some size
IsSpentWith (m ∷ ms) bytes spent size None = bytes < spent + size
IsSpentWith (m ∷ ms) bytes spent size (Some total) = (total ≡ spent + size) × (total ≤ bytes)

-- The message was given, if there is one, and more may be.
pub record ReadGoesOn (found : Option Message) (before after : List Message) (bytes spent left spent_after left_after : ℕ) : Type 0 where
  pub given : after ≡ before ++ option_to_list found
  pub rest : (more : List Message) → rest_of bytes spent left before (option_to_list found ++ more) ≡ option_to_list found ++ rest_of bytes spent_after left_after after more
  pub left_some : 1 ≤ left_after

-- Whatever messages follow, no more is given.
pub record IsCut (found : Option Message) (before after : List Message) (bytes spent left : ℕ) : Type 0 where
  pub last : List Message
  pub given : after ≡ before ++ last
  pub rest : (more : List Message) → rest_of bytes spent left before (option_to_list found ++ more) ≡ last

-- The visible messages at places from `first` on.
abbrev pub visible_later : List TopicEntry → ℕ → List Message
visible_later entries first = filter (λ m. nat_le first m.place) (visible_of entries)

-- A read from `first` on, that gave these messages, read at most up to the first visible one after them.
abbrev pub ReadsUpTo : List TopicEntry → ℕ → List Message → ℕ → Type 0
ReadsUpTo entries first messages reads = (next : Message) (more : List Message) → visible_later entries first ≡ messages ++ next ∷ more → first + reads ≤ next.place + 1

-- Where all are the whole list, an entry of this kind is a message that is shown if no undecided one stands before it.
abbrev pub is_shown_after : List CoreEntry → CoreEntry → Bool
is_shown_after all core.Plain = true
is_shown_after all (core.Inside x) = is_commit (marker_of all x)
is_shown_after all _ = false
