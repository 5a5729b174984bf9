-- A topic's ledger.
use Rattle.std.specs.Prelude.{ℕ, suc, ◌+◌, min, nat_le, Bool, true, false, if◌then◌else◌, List, [], ◌∷◌, ◌++◌, length, take, filter, Option, Some, None, is_none, option_to_list}
use Rattle.txn_base.specs.declared.limits.Limits.{Limits}
use Rattle.txn_base.specs.declared.messages.Message.{Message}
use Rattle.txn_base.specs.declared.txn.TxnId.{TxnId}
use Rattle.txn_base.specs.declared.txn.Decision.{Decision}
use Rattle.txn_base.specs.declared.txn.Decision.TheVariants.{Commit}
use Rattle.txn_base.specs.declared.core_entry.CoreEntry.{CoreEntry}
use Rattle.txn_base.specs.declared.core_entry.CoreEntry.TheVariants as core
use Rattle.txn_base.specs.declared.entry.TopicEntry.{TopicEntry}
use Rattle.txn_model.specs.Words.{first_of, IsLawfulBy}
use Rattle.txn_model.specs.Skeletons.{same_txn, topic_skeleton, topic_skeletons}
use Rattle.txn_model.specs.Entries.{message_of}

-- Of x, the end that an entry says.
abbrev pub marks : TxnId → CoreEntry → Option Decision
marks x (core.Marker y d) = if same_txn x y then Some d else None
marks x _ = None

-- In the list of a part, the decision of the marker of x, or none. Of two markers the first one counts.
abbrev pub marker_of : List CoreEntry → TxnId → Option Decision
marker_of es x = first_of (marks x) es

-- After these entries of a part, other than the coordinator, this one is allowed: nothing of x after a marker of x.
abbrev pub part_allows : List CoreEntry → CoreEntry → Bool
part_allows before core.Plain = true
part_allows before (core.Inside x) = is_none (marker_of before x)
part_allows before (core.Marker x d) = is_none (marker_of before x)
part_allows before _ = false

-- In a topic's list, after a marker of x there is no message and no marker of x.
abbrev pub TopicLawful : List TopicEntry → Type 0
TopicLawful es = IsLawfulBy part_allows (topic_skeletons es)

-- Where all are the whole list, an entry is a message of a transaction without a marker.
abbrev pub is_undecided : List CoreEntry → CoreEntry → Bool
is_undecided all (core.Inside x) = is_none (marker_of all x)
is_undecided all _ = false

-- From place k on, where all are the whole list, the least place of such a message, or else the end.
abbrev pub limit_from : List CoreEntry → ℕ → List CoreEntry → ℕ
limit_from all k [] = k
limit_from all k (e ∷ es) = if is_undecided all e then k else limit_from all (suc k) es

-- The limit of a topic's list: the least place of a message of a transaction without a marker there, or else the length.
abbrev pub limit_of : List TopicEntry → ℕ
limit_of es = limit_from (topic_skeletons es) 0 (topic_skeletons es)

-- The message, where its transaction has a commit marker.
abbrev pub shown_where : Option Decision → Message → Option Message
shown_where (Some Commit) m = Some m
shown_where _ m = None

-- By its kind, where all are the whole list, the message that an entry shows if no undecided one stands before it.
abbrev pub shows_by : List CoreEntry → CoreEntry → Message → Option Message
shows_by all core.Plain m = Some m
shows_by all (core.Inside x) m = shown_where (marker_of all x) m
shows_by all _ m = None

abbrev pub shows : List CoreEntry → ℕ → TopicEntry → Option Message
shows all k e = shows_by all (topic_skeleton e) (message_of k e)

-- From place k on, where all are the whole list, what these entries show.
abbrev pub shown_from : List CoreEntry → ℕ → List TopicEntry → List Message
shown_from all k [] = []
shown_from all k (e ∷ es) = option_to_list (shows all k e) ++ shown_from all (suc k) es

-- The visible messages of a topic's list, in order: of the places below the limit, the plain messages and those of
-- transactions with a commit marker.
abbrev pub visible_of : List TopicEntry → List Message
visible_of es = shown_from (topic_skeletons es) 0 (take (limit_of es) es)

-- Where there is room for `bytes`, of which `spent` are spent, the longest front of these messages whose bodies fit.
abbrev pub fitting : ℕ → ℕ → List Message → List Message
fitting bytes spent [] = []
fitting bytes spent (m ∷ ms) = if nat_le (spent + length m.body) bytes then m ∷ fitting bytes (spent + length m.body) ms else []

-- Where there is room for `bytes`, the longest front of these messages whose bodies fit, with the first whatever its size.
abbrev pub first_and_fitting : ℕ → List Message → List Message
first_and_fitting bytes [] = []
first_and_fitting bytes (m ∷ ms) = m ∷ fitting bytes (length m.body) ms

-- Within the limits and max, the longest front of these messages: at most max and read_messages of them, with bodies of
-- at most read_bytes together unless it is one message.
abbrev pub cut_short : Limits → ℕ → List Message → List Message
cut_short limits max ms = first_and_fitting limits.read_bytes (take (min max limits.read_messages) ms)

-- Within the limits, what a read of a topic's list gives from `first` on, at most max: the visible messages at places from
-- `first` on, cut short.
abbrev pub read_slice : Limits → List TopicEntry → ℕ → ℕ → List Message
read_slice limits es first max = cut_short limits max (filter (λ m. nat_le first m.place) (visible_of es))
