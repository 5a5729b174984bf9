-- Rows of the table at their bounds, computed.
use Rattle.std.specs.Prelude.{◌≡◌, List, [], ◌∷◌, Some, None, codes, refl}
use Rattle.txn_base.specs.Limits.{standard}
use Rattle.txn_model.proofs.Words.{Limits, CoreEntry, AckEntry, These, UpTo, Transactions, Log, Held, first_bad, coord_allows, part_allows, txn, unread_place, acked_place, conflict, new_places, newly_held, acks_added, full_transactions, full_held, full_log, plain_replies, fresh}
use Rattle.txn_base.specs.declared.core_entry.CoreEntry.TheVariants as core
use Rattle.txn_base.specs.declared.entry.AckEntry.TheVariants as ack
use Rattle.txn_base.specs.declared.request.Request.TheVariants as request
use Rattle.txn_base.specs.declared.reply.Reply.TheVariants as reply
use Rattle.txn_base.specs.declared.reply.Refusal.TheVariants as no
use Rattle.txn_model.specs.Cut.{lines_of}
use Rattle.txn_model.proofs.Worked.{orders, billing, at_0}

-- ---- Acknowledgements.

abbrev holds : List AckEntry
holds = ack.Plain (3 ∷ []) ∷ ack.Hold (txn 0) (0 ∷ 2 ∷ []) ∷ []

pub conflict_is_the_least : conflict 5 holds (Some (txn 1)) (These (2 ∷ 1 ∷ 0 ∷ [])) ≡ Some (0, txn 0)
conflict_is_the_least = refl

pub own_holds_are_none : conflict 5 holds (Some (txn 0)) (UpTo 4) ≡ None
own_holds_are_none = refl

pub each_holder_is_another_for_a_plain_one : conflict 5 holds None (UpTo 1) ≡ Some (0, txn 0)
each_holder_is_another_for_a_plain_one = refl

pub unread_is_the_least_past_the_limit : unread_place 5 (These (9 ∷ 7 ∷ 1 ∷ [])) ≡ Some 7
unread_is_the_least_past_the_limit = refl

pub acked_is_the_least_acknowledged : acked_place holds (Some (txn 0)) (These (4 ∷ 3 ∷ 0 ∷ [])) ≡ Some 3
acked_is_the_least_acknowledged = refl

pub plain_ones_pass_over : acked_place holds None (These (3 ∷ [])) ≡ None
plain_ones_pass_over = refl

pub new_are_the_free_ones : new_places 5 holds (UpTo 4) ≡ 1 ∷ 4 ∷ []
new_are_the_free_ones = refl

pub added_list_is_sorted : acks_added 5 holds (Some (txn 0)) (These (4 ∷ 0 ∷ 1 ∷ 4 ∷ [])) ≡ ack.Hold (txn 0) (1 ∷ 4 ∷ []) ∷ []
added_list_is_sorted = refl

pub nothing_new_adds_nothing : acks_added 5 holds (Some (txn 0)) (These (0 ∷ 2 ∷ [])) ≡ []
nothing_new_adds_nothing = refl

-- ---- What is full.

abbrev few : Limits
few = record standard { window = 2; log = 2; held = 1; message = 3 }

abbrev three : List CoreEntry
three = core.New (txn 0) ∷ core.New (txn 1) ∷ core.New (txn 2) ∷ []

pub window_counts_from_the_opening : full_transactions few 1 three ≡ Some 2
window_counts_from_the_opening = refl

pub window_has_room : full_transactions few 2 three ≡ None
window_has_room = refl

pub log_has_room_for_two : full_log few 0 2 ≡ None
log_has_room_for_two = refl

pub log_is_full_at_two : full_log few 2 1 ≡ Some 2
log_is_full_at_two = refl

pub nothing_added_fits_a_full_log : full_log few 2 0 ≡ None
nothing_added_fits_a_full_log = refl

pub one_is_held_already : full_held few (ack.Hold (txn 0) (0 ∷ []) ∷ []) 1 ≡ Some 1
one_is_held_already = refl

pub a_cumulative_hold_holds_none_one_by_one : newly_held (Some (txn 0)) (UpTo 3) (0 ∷ 1 ∷ []) ≡ 0
a_cumulative_hold_holds_none_one_by_one = refl

abbrev wide : Limits
wide = record few { log = 4294967296; held = 65536 }

pub third_transaction_is_refused : plain_replies wide (fresh (orders ∷ [])) (at_0 (request.New 60000 ∷ request.New 60000 ∷ request.New 60000 ∷ []))
    ≡ reply.New (txn 0) ∷ reply.New (txn 1) ∷ reply.No (no.Full Transactions 2) ∷ []
third_transaction_is_refused = refl

pub full_log_and_long_message : plain_replies few (fresh (orders ∷ [])) (at_0 (
    request.Publish orders None (codes "a" ∷ codes "b" ∷ []) ∷ request.Publish orders None (codes "c" ∷ []) ∷ request.Publish orders None (codes "abcd" ∷ []) ∷ []))
    ≡ reply.Publish 0 2 ∷ reply.No (no.Full Log 2) ∷ reply.No no.TooBig ∷ []
full_log_and_long_message = refl

pub second_held_place_is_refused : plain_replies (record standard { held = 1 }) (fresh (orders ∷ billing ∷ [])) (at_0 (
    request.Publish orders None (codes "a" ∷ codes "b" ∷ []) ∷ request.New 60000 ∷ request.Add (txn 0) billing
    ∷ request.Ack billing (Some (txn 0)) (0 ∷ []) ∷ request.Ack billing (Some (txn 0)) (1 ∷ []) ∷ []))
    ≡ reply.Publish 0 2 ∷ reply.New (txn 0) ∷ reply.Add ∷ reply.Ack ∷ reply.No (no.Full Held 1) ∷ []
second_held_place_is_refused = refl

-- ---- The first entry that isn't allowed, and the lines of an input.

pub closed_without_a_decision : first_bad (coord_allows 1) (core.New (txn 0) ∷ core.AddPart (txn 0) 1 ∷ core.Committed (txn 0) ∷ core.New (txn 7) ∷ []) ≡ Some 2
closed_without_a_decision = refl

pub all_allowed : first_bad part_allows (core.Inside (txn 0) ∷ core.Plain ∷ []) ≡ None
all_allowed = refl

pub last_line_needs_no_newline : lines_of (codes "ab\n\nc") ≡ codes "ab" ∷ [] ∷ codes "c" ∷ []
last_line_needs_no_newline = refl

pub no_line_behind_the_last_newline : lines_of (codes "ab\n") ≡ codes "ab" ∷ []
no_line_behind_the_last_newline = refl
