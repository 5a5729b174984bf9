-- What an acknowledgement meets and adds, over a subscription's list `a` and its topic's limit. `who` is its
-- transaction, and none for a plain one.
use Rattle.std.specs.Prelude.{ℕ, suc, ◌&&◌, ◌||◌, nat_le, nat_lt, Bool, false, List, [], ◌∷◌, length, filter, find, Option, Some, None, option_map, option_and_then}
use Rattle.std.specs.List.{list_all}
use Rattle.txn_base.specs.declared.limits.Limits.{Limits}
use Rattle.txn_base.specs.declared.txn.TxnId.{TxnId}
use Rattle.txn_base.specs.declared.entry.AckEntry.{AckEntry}
use Rattle.txn_base.specs.declared.entry.AckEntry.TheVariants as ack
use Rattle.txn_base.specs.declared.request.Ack.{Ack}
use Rattle.txn_base.specs.declared.request.Ack.TheVariants.{These, UpTo}
use Rattle.txn_model.specs.Words.{when, least, has, below}
use Rattle.txn_model.specs.Ack.{is_acked, holder_of, is_free, is_foreign}

-- An acknowledgement covers a place: those that it lists, or all up to its place.
abbrev pub asks : Ack → ℕ → Bool
asks (These places) q = has places q
asks (UpTo place) q = nat_le q place

-- Within the limits, its list of places is empty or too long.
abbrev pub has_bad_places : Limits → Ack → Bool
has_bad_places limits (These places) = nat_lt (length places) 1 || nat_lt limits.places (length places)
has_bad_places limits (UpTo place) = false

-- The least named place at or past the limit, or the cumulative one.
abbrev pub unread_place : ℕ → Ack → Option ℕ
unread_place limit (These places) = least (filter (nat_le limit) places)
unread_place limit (UpTo place) = when (nat_le limit place) place

-- In a transaction, the least acknowledged place that is named; or the cumulative one, where all up to it are
-- acknowledged. A plain one passes over acknowledged places.
abbrev pub acked_place : List AckEntry → Option TxnId → Ack → Option ℕ
acked_place a None asked = None
acked_place a (Some x) (These places) = least (filter (is_acked a) places)
acked_place a (Some x) (UpTo place) = when (list_all (is_acked a) (below (suc place))) place

-- The least place asked for that another holds, with its holder. The places are below the limit.
abbrev pub conflict : ℕ → List AckEntry → Option TxnId → Ack → Option (ℕ × TxnId)
conflict limit a who asked =
    option_and_then (λ q. option_map (λ holder. (q, holder)) (holder_of a q)) (find (λ q. asks asked q && is_foreign who (holder_of a q)) (below limit))

-- The places that are newly acknowledged: below the limit, asked for, neither acknowledged nor held.
abbrev pub new_places : ℕ → List AckEntry → Ack → List ℕ
new_places limit a asked = filter (λ q. asks asked q && is_free a q) (below limit)

-- How many places it newly holds one by one, where these are new: a list of a transaction holds all of them.
abbrev pub newly_held : Option TxnId → Ack → List ℕ → ℕ
newly_held (Some x) (These places) new = length new
newly_held _ _ new = 0

-- The entry for new places: an individual one lists them, a cumulative one has its place.
abbrev pub ack_entry : Option TxnId → Ack → List ℕ → AckEntry
ack_entry None (These places) new = ack.Plain new
ack_entry None (UpTo place) new = ack.PlainUpTo place
ack_entry (Some x) (These places) new = ack.Hold x new
ack_entry (Some x) (UpTo place) new = ack.HoldUpTo x place

-- The entries where these places are new: one, or none where nothing is.
abbrev pub acks_for : Option TxnId → Ack → List ℕ → List AckEntry
acks_for who asked [] = []
acks_for who asked (q ∷ qs) = ack_entry who asked (q ∷ qs) ∷ []

-- The entries that an acknowledgement adds to the list.
abbrev pub acks_added : ℕ → List AckEntry → Option TxnId → Ack → List AckEntry
acks_added limit a who asked = acks_for who asked (new_places limit a asked)
