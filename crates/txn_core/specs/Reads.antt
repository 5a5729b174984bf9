-- What a read of a topic's list gives, as a step of the core.
use Rattle.std.specs.Prelude.{ℕ, List, length, map}
use Rattle.txn_base.specs.declared.limits.Limits.{Limits}
use Rattle.txn_base.specs.declared.messages.Message.{Message}
use Rattle.txn_base.specs.declared.entry.TopicEntry.{TopicEntry}
use Rattle.txn_model.specs.Topic.{read_slice}
use Rattle.txn_core.specs.declared.step.CoreStep.{CoreStep}
use Rattle.txn_core.specs.declared.step.CoreStep.TheVariants as act

-- The places of messages.
abbrev pub message_places : List Message → List ℕ
message_places ms = map (λ m. m.place) ms

-- The topic tells as many places as a read of its list gives messages.
abbrev pub read_step : Limits → List TopicEntry → ℕ → ℕ → ℕ → CoreStep
read_step limits es topic first max = act.Tell topic first (length (read_slice limits es first max))
