-- What a subscription is given.
use Rattle.std.specs.Prelude.{ℕ, ◌&&◌, ◌||◌, not, Bool, List, map, filter}
use Rattle.txn_base.specs.declared.limits.Limits.{Limits}
use Rattle.txn_base.specs.declared.messages.Message.{Message}
use Rattle.txn_base.specs.declared.entry.TopicEntry.{TopicEntry}
use Rattle.txn_base.specs.declared.entry.AckEntry.{AckEntry}
use Rattle.txn_model.specs.Words.{has}
use Rattle.txn_model.specs.Topic.{visible_of, cut_short}
use Rattle.txn_model.specs.Ack.{is_free}

-- Within the limits and max, what may be given of a topic's list: the visible messages at places that are neither
-- acknowledged, nor held, nor given, cut short.
abbrev pub deliverable : Limits → List TopicEntry → List AckEntry → (ℕ → Bool) → ℕ → List Message
deliverable limits es a given max = cut_short limits max (filter (λ m. is_free a m.place && not (given m.place)) (visible_of es))

-- The given places, and those of these messages.
abbrev pub given_with : (ℕ → Bool) → List Message → ℕ → Bool
given_with given messages q = given q || has (map (λ m. m.place) messages) q
