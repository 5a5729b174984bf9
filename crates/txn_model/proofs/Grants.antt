-- What a request adds that no row refuses is allowed.
use Rattle.std.proofs.Common.{◌≡◌, ℕ, ◌+◌, ◌<◌, ◌≤◌, leb-false, le-leb, Bool, true, false, ◌&&◌, ◌||◌, not, if◌then◌else◌, List, [], ◌∷◌, length, Some, None, refl, sym, ap, ◌∙◌, subst}
use Rattle.txn_model.proofs.Words.{Option, map, find, is_none, nat_le, list_all, Limits, TxnId, Decision, Commit, Abort, Status, AckEntry, Ack, These, UpTo, Request, is_sub, World, list_at, below, same_txn, topic_skeletons, ack_skeleton, ack_skeletons, message_entry, name_of, count_new, status_of, in_parts, is_open, txn, part_allows, marker_of, holder_of, is_free, is_foreign, places_allow, asks, unread_place, new_places, ack_entry, acks_for, log_of, part_skeletons, has_inside, Lawful, TableState, EntryBatch, nothing, in_coord, in_topic, in_sub, decision_entry, decision_batch, is_topic, IsFor, number_of, limit_in, early_refusal, late_refusal, forbids, has_ended, acks_batch, success_of, IsAllowed, named, fits_kind, txn_of, adds_inside, ack_asked, part_in, ack_list, unwrap_or}
use Rattle.txn_base.specs.declared.entry.CoordEntry.TheVariants as coord
use Rattle.txn_base.specs.declared.entry.AckEntry.TheVariants as ack
use Rattle.txn_base.specs.declared.request.Request.TheVariants as request
use Rattle.txn_model.proofs.Bools.{no_true, and_both, none_some}
use Rattle.txn_model.proofs.Statuses.{txn_equal}
use Rattle.txn_model.proofs.Granted.{these_allowed, plain_upto_allowed, hold_upto_allowed}
use Rattle.txn_model.proofs.GrantedEntries.{new_allowed, messages_allowed, plain_allowed}
use Rattle.txn_model.proofs.Named.{Known, named_part}
use Rattle.txn_model.proofs.Refused.{Naming, naming, when_none, Passed, passed, status_known, Inside, inside_known, unread_none, conflict_free}
use Rattle.txn_model.proofs.AllowedBatches.{nothing_allowed, coord_allowed, topic_allowed, sub_allowed}

-- a batch is for a part of its kind, and allowed
pub record Granted (b : EntryBatch) (w : World) : Type 0 where
  pub fits : IsFor b w.names
  pub allowed : IsAllowed b w

pub nothing_granted : (w : World) → Lawful w → Granted nothing w
nothing_granted w l = record { fits = tt; allowed = nothing_allowed w l }

-- ---- The coordinator.

pub decision_granted : (t : TableState) (x : TxnId) (d : Decision) → Lawful t.world → Granted (decision_batch t x d) t.world
decision_granted t x d l = by_status (is_open (status_of (log_of t.world) x)) refl d
  where
    by_status : (b : Bool) → is_open (status_of (log_of t.world) x) ≡ b → (d : Decision) → Granted (if b then in_coord (decision_entry x d) else nothing) t.world
    by_status true e Commit = record { fits = tt; allowed = coord_allowed t.world (coord.Committing x) l e (λ y k p h. absurd (none_some h)) }
    by_status true e Abort = record { fits = tt; allowed = coord_allowed t.world (coord.Aborting x) l e (λ y k p h. absurd (none_some h)) }
    by_status false e d = nothing_granted t.world l

add_granted : (w : World) (x : TxnId) (p : ℕ) → Lawful w → is_open (status_of (log_of w) x) ≡ true → 1 ≤ p → p ≤ length w.names → Granted (if in_parts (log_of w) x p then nothing else in_coord (coord.AddPart x p)) w
add_granted w x p l o low high = by_test (in_parts (log_of w) x p) refl
  where
    by_test : (b : Bool) → in_parts (log_of w) x p ≡ b → Granted (if b then nothing else in_coord (coord.AddPart x p)) w
    by_test true e = nothing_granted w l
    by_test false e =
        record {
          fits = tt;
          allowed = coord_allowed w (coord.AddPart x p) l
              (and_both _ _ (and_both _ _ (and_both _ _ o (le-leb 1 p low)) (le-leb p (length w.names) high)) (ap not e))
              (λ y k q h. absurd (none_some h));
        }

-- ---- Topics.

inside_same : (bodies : List (List ℕ)) (x y : TxnId) → has_inside (topic_skeletons (map (message_entry (Some x)) bodies)) y ≡ true → y ≡ x
inside_same [] x y h = absurd (no_true h)
inside_same (body ∷ bodies) x y h = by_test (same_txn y x) refl h (inside_same bodies x y)
  where
    by_test : (b : Bool) → same_txn y x ≡ b → (b || has_inside (topic_skeletons (map (message_entry (Some x)) bodies)) y) ≡ true → (has_inside (topic_skeletons (map (message_entry (Some x)) bodies)) y ≡ true → y ≡ x) → y ≡ x
    by_test true e h rest = txn_equal y x e
    by_test false e h rest = rest h

messages_unmarked : (bodies : List (List ℕ)) (who : Option TxnId) (y : TxnId) → marker_of (topic_skeletons (map (message_entry who) bodies)) y ≡ None
messages_unmarked [] who y = refl
messages_unmarked (body ∷ bodies) None y = messages_unmarked bodies None y
messages_unmarked (body ∷ bodies) (Some x) y = messages_unmarked bodies (Some x) y

plain_insides : (bodies : List (List ℕ)) (y : TxnId) → has_inside (topic_skeletons (map (message_entry None) bodies)) y ≡ false
plain_insides [] y = refl
plain_insides (body ∷ bodies) y = plain_insides bodies y

not_true : (b : Bool) → not b ≡ true → b ≡ false
not_true true h = absurd (no_true h)
not_true false h = refl

-- the part of a topic's name has a topic's list
pub topic_part : (w : World) (p : ℕ) → is_sub (name_of w.names p) ≡ false → part_skeletons w p ≡ topic_skeletons (list_at w.topics p)
topic_part w p e = ap (λ b. if b then ack_skeletons (list_at w.subs p) else topic_skeletons (list_at w.topics p)) e

pub sub_part : (w : World) (p : ℕ) → is_sub (name_of w.names p) ≡ true → part_skeletons w p ≡ ack_skeletons (list_at w.subs p)
sub_part w p e = ap (λ b. if b then ack_skeletons (list_at w.subs p) else topic_skeletons (list_at w.topics p)) e

plain_granted : (w : World) (p : ℕ) (bodies : List (List ℕ)) → Lawful w → IsFor (in_topic p []) w.names → Granted (in_topic p (map (message_entry None) bodies)) w
plain_granted w p bodies l fits =
    record {
      fits = fits;
      allowed = topic_allowed w p (map (message_entry None) bodies) l (plain_allowed (topic_skeletons (list_at w.topics p)) bodies)
          (λ x h. absurd (no_true (sym (plain_insides bodies x) ∙ h)))
          (λ x d h. absurd (none_some (sym (messages_unmarked bodies None x) ∙ h)));
    }

inside_granted : (w : World) (p : ℕ) (x : TxnId) (bodies : List (List ℕ)) → Lawful w → IsFor (in_topic p []) w.names → marker_of (topic_skeletons (list_at w.topics p)) x ≡ None → in_parts (log_of w) x p ≡ true
    → Granted (in_topic p (map (message_entry (Some x)) bodies)) w
inside_granted w p x bodies l fits unmarked there =
    record {
      fits = fits;
      allowed = topic_allowed w p (map (message_entry (Some x)) bodies) l (messages_allowed (topic_skeletons (list_at w.topics p)) x bodies unmarked)
          (λ y h. subst (λ z. in_parts (log_of w) z p ≡ true) (sym (inside_same bodies x y h)) there)
          (λ y d h. absurd (none_some (sym (messages_unmarked bodies (Some x) y) ∙ h)));
    }

-- ---- Subscriptions.

read_before : (limit place : ℕ) → unread_place limit (UpTo place) ≡ None → place < limit
read_before limit place h = by_test (nat_le limit place) refl (when_none (nat_le limit place) place h)
  where
    by_test : (b : Bool) → nat_le limit place ≡ b → b ≡ false → place < limit
    by_test true e h = absurd (no_true (sym h))
    by_test false e h = leb-false limit place e

places_allowed : (limit : ℕ) (a : List AckEntry) (who : Option TxnId) (asked : Ack) (q : ℕ) (qs : List ℕ) → new_places limit a asked ≡ q ∷ qs → unread_place limit asked ≡ None
    → find (λ j. asks asked j && is_foreign who (holder_of a j)) (below limit) ≡ None → places_allow a (ack_entry who asked (q ∷ qs)) ≡ true
places_allowed limit a None (These places) q qs new read free = subst (λ l. list_all (is_free a) l ≡ true) new (these_allowed a (asks (These places)) limit)
places_allowed limit a (Some x) (These places) q qs new read free = subst (λ l. list_all (is_free a) l ≡ true) new (these_allowed a (asks (These places)) limit)
places_allowed limit a None (UpTo place) q qs new read free = plain_upto_allowed a place limit q qs (read_before limit place read) free new
places_allowed limit a (Some x) (UpTo place) q qs new read free = hold_upto_allowed a x place limit q qs (read_before limit place read) free new

-- for a transaction, the list has no marker of it and the part is among its parts
abbrev MayHold : World → ℕ → Option TxnId → Type 0
MayHold w p None = Unit {0}
MayHold w p (Some x) = (marker_of (ack_skeletons (list_at w.subs p)) x ≡ None) × (in_parts (log_of w) x p ≡ true)

kind_allowed : (w : World) (p : ℕ) (who : Option TxnId) (asked : Ack) (new : List ℕ) → MayHold w p who → part_allows (ack_skeletons (list_at w.subs p)) (ack_skeleton (ack_entry who asked new)) ≡ true
kind_allowed w p None (These places) new may = refl
kind_allowed w p None (UpTo place) new may = refl
kind_allowed w p (Some x) (These places) new may = ap is_none may.0
kind_allowed w p (Some x) (UpTo place) new may = ap is_none may.0

one_inside : (w : World) (p : ℕ) (x y : TxnId) (b : Bool) → same_txn y x ≡ b → in_parts (log_of w) x p ≡ true → (b || false) ≡ true → in_parts (log_of w) y p ≡ true
one_inside w p x y true e there h = subst (λ z. in_parts (log_of w) z p ≡ true) (sym (txn_equal y x e)) there
one_inside w p x y false e there h = absurd (no_true h)

entry_inside : (w : World) (p : ℕ) (who : Option TxnId) (asked : Ack) (new : List ℕ) → MayHold w p who → (y : TxnId) → has_inside (ack_skeleton (ack_entry who asked new) ∷ []) y ≡ true → in_parts (log_of w) y p ≡ true
entry_inside w p None (These places) new may y h = absurd (no_true h)
entry_inside w p None (UpTo place) new may y h = absurd (no_true h)
entry_inside w p (Some x) (These places) new may y h = one_inside w p x y (same_txn y x) refl may.1 h
entry_inside w p (Some x) (UpTo place) new may y h = one_inside w p x y (same_txn y x) refl may.1 h

entry_unmarked : (who : Option TxnId) (asked : Ack) (new : List ℕ) (y : TxnId) → marker_of (ack_skeleton (ack_entry who asked new) ∷ []) y ≡ None
entry_unmarked None (These places) new y = refl
entry_unmarked None (UpTo place) new y = refl
entry_unmarked (Some x) (These places) new y = refl
entry_unmarked (Some x) (UpTo place) new y = refl

acks_granted : (w : World) (p limit : ℕ) (who : Option TxnId) (asked : Ack) → Lawful w → IsFor (in_sub p (ack.PlainUpTo 0)) w.names → MayHold w p who → unread_place limit asked ≡ None → find (λ j. asks asked j && is_foreign who (holder_of (list_at w.subs p) j)) (below limit) ≡ None
    → Granted (acks_batch p (acks_for who asked (new_places limit (list_at w.subs p) asked))) w
acks_granted w p limit who asked l fits may read free = by_new (new_places limit (list_at w.subs p) asked) refl
  where
    by_new : (new : List ℕ) → new_places limit (list_at w.subs p) asked ≡ new → Granted (acks_batch p (acks_for who asked new)) w
    by_new [] e = nothing_granted w l
    by_new (q ∷ qs) e =
        record {
          fits = fits;
          allowed = sub_allowed w p (ack_entry who asked (q ∷ qs)) l
              (and_both (places_allow (list_at w.subs p) (ack_entry who asked (q ∷ qs))) (part_allows (ack_skeletons (list_at w.subs p)) (ack_skeleton (ack_entry who asked (q ∷ qs))))
              (places_allowed limit (list_at w.subs p) who asked q qs e read free) (kind_allowed w p who asked (q ∷ qs) may))
              (entry_inside w p who asked (q ∷ qs) may)
              (λ y d h. absurd (none_some (sym (entry_unmarked who asked (q ∷ qs) y) ∙ h)));
        }

-- ---- The rows.

-- its transaction is open where its status allows it anything but an end or a question
open_by : (b : Bool) → not b ≡ false → b ≡ true
open_by true h = refl
open_by false h = absurd (no_true (sym h))

part_is : (w : World) (r : Request) (name : List ℕ) (found : (p : ℕ) × Naming w r name p) → Known w.names name (number_of w name)
part_is w r name found = subst (λ p. Known w.names name p) (sym found.1.number) found.1.known

for_topic : (w : World) (r : Request) (name : List ℕ) (k : Known w.names name (number_of w name)) → is_sub name ≡ false → IsFor (in_topic (number_of w name) []) w.names
for_topic w r name k e = named_part is_topic w.names (number_of w name) k.low k.high (ap not (ap is_sub k.named ∙ e))

for_sub : (w : World) (r : Request) (name : List ℕ) (k : Known w.names name (number_of w name)) → is_sub name ≡ true → IsFor (in_sub (number_of w name) (ack.PlainUpTo 0)) w.names
for_sub w r name k e = named_part is_sub w.names (number_of w name) k.low k.high (ap is_sub k.named ∙ e)

acks_row : (limits : Limits) (t : TableState) (r : Request) (sub : List ℕ) (asked : Ack) → Lawful t.world → early_refusal limits t.world r ≡ None → late_refusal limits t r ≡ None
    → named r ≡ Some sub → fits_kind r sub ≡ is_sub sub → adds_inside r ≡ true → ack_asked r ≡ Some asked
    → Granted (acks_batch (part_in t.world r) (acks_for (txn_of r) asked (new_places (limit_in t.world r) (ack_list t.world r) asked))) t.world
acks_row limits t r sub asked l early late is kind adds asks =
    let found : (p : ℕ) × Naming t.world r sub p = naming limits t.world r sub is early in
    let k : Known t.world.names sub (number_of t.world sub) = part_is t.world r sub found in
    let part : part_in t.world r ≡ number_of t.world sub = ap (λ o. number_of t.world (unwrap_or o [])) is in
    let is_one : is_sub sub ≡ true = sym kind ∙ found.1.kind in
    let done : Passed limits t r = passed limits t r late in
    acks_granted t.world (part_in t.world r) (limit_in t.world r) (txn_of r) asked l
    (subst (λ p. IsFor (in_sub p (ack.PlainUpTo 0)) t.world.names) (sym part) (for_sub t.world r sub k is_one))
    (may_hold (ap (λ p. is_sub (name_of t.world.names p)) part ∙ ap is_sub k.named ∙ is_one) done (txn_of r) refl)
    (unread_none limits t r asked asks done) (conflict_free limits t r asked asks done)
  where
    may_hold : is_sub (name_of t.world.names (part_in t.world r)) ≡ true → Passed limits t r → (who : Option TxnId) → txn_of r ≡ who → MayHold t.world (part_in t.world r) who
    may_hold e done None h = tt
    may_hold e done (Some x) h = let inside : Inside t.world r x = inside_known limits t r x h adds done in
        (subst (λ s. marker_of s x ≡ None) (sub_part t.world (part_in t.world r) e) inside.unmarked, inside.in_its_parts)

pub row_granted : (limits : Limits) (t : TableState) (r : Request) → Lawful t.world → early_refusal limits t.world r ≡ None → late_refusal limits t r ≡ None → Granted (success_of limits t r).adds t.world
row_granted limits t (request.New timeout) l early late =
    record { fits = tt; allowed = coord_allowed t.world (coord.New (txn (count_new (log_of t.world))) (t.latest + timeout)) l (new_allowed (length t.world.names) (log_of t.world)) (λ x d p h. absurd (none_some h)) }
row_granted limits t (request.Add x part) l early late =
    let r : Request = request.Add x part in
    let k : Known t.world.names part (number_of t.world part) = part_is t.world r part (naming limits t.world r part refl early) in
    let s : (s : Status) × (status_of (log_of t.world) x ≡ Some s) × (forbids r s ≡ false) × (has_ended t.world r x ≡ false) = status_known limits t r x refl (passed limits t r late) in
    add_granted t.world x (number_of t.world part) l (subst (λ o. is_open o ≡ true) (sym s.1) (open_by (is_open (Some s.0)) s.2)) k.low k.high
row_granted limits t (request.Publish topic None bodies) l early late =
    let r : Request = request.Publish topic None bodies in
    let found : (p : ℕ) × Naming t.world r topic p = naming limits t.world r topic refl early in
    plain_granted t.world (number_of t.world topic) bodies l (for_topic t.world r topic (part_is t.world r topic found) (not_true (is_sub topic) found.1.kind))
row_granted limits t (request.Publish topic (Some x) bodies) l early late =
    let r : Request = request.Publish topic (Some x) bodies in
    let found : (p : ℕ) × Naming t.world r topic p = naming limits t.world r topic refl early in
    let k : Known t.world.names topic (number_of t.world topic) = part_is t.world r topic found in
    let is : is_sub topic ≡ false = not_true (is_sub topic) found.1.kind in
    let inside : Inside t.world r x = inside_known limits t r x refl refl (passed limits t r late) in
    inside_granted t.world (number_of t.world topic) x bodies l (for_topic t.world r topic k is)
    (subst (λ s. marker_of s x ≡ None) (topic_part t.world (number_of t.world topic) (ap is_sub k.named ∙ is)) inside.unmarked) inside.in_its_parts
row_granted limits t (request.Ack sub who places) l early late = acks_row limits t (request.Ack sub who places) sub (These places) l early late refl refl refl refl
row_granted limits t (request.AckUpTo sub who place) l early late = acks_row limits t (request.AckUpTo sub who place) sub (UpTo place) l early late refl refl refl refl
row_granted limits t (request.Commit x) l early late = nothing_granted t.world l
row_granted limits t (request.Abort x) l early late = nothing_granted t.world l
row_granted limits t (request.Status x) l early late = nothing_granted t.world l
row_granted limits t (request.Read topic first max) l early late = nothing_granted t.world l
row_granted limits t (request.Receive sub max) l early late = nothing_granted t.world l
row_granted limits t (request.Redeliver sub) l early late = nothing_granted t.world l
row_granted limits t request.Tick l early late = nothing_granted t.world l
row_granted limits t request.Stop l early late = nothing_granted t.world l
