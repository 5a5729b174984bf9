-- The words of which the proofs of this crate speak, so that each of them brings in what it needs by one line.

-- Tests, lists and what may be none.
pub use Rattle.std.specs.List.{flat_map, list_all, list_any}
pub use Rattle.std.specs.Option.{option_or}
pub use Rattle.std.specs.Prelude.{option_to_list, All, Option, option_map, map, codes, nat_le, MatchOption, filter, find, is_none, MatchBool, is_some, position, bytes_eq, nat_lt, not, ◌||◌, option_and_then, unwrap_or, ◌≡◌, ℕ, Bool, true, false, List, [], ◌∷◌, Some, refl}
-- What is told, asked and written.
pub use Rattle.txn_base.specs.Names.{is_sub, topic_of, is_name}
pub use Rattle.txn_base.specs.declared.core_entry.CoreEntry.{CoreEntry}
pub use Rattle.txn_base.specs.declared.entry.AckEntry.{AckEntry}
pub use Rattle.txn_base.specs.declared.entry.CoordEntry.{CoordEntry}
pub use Rattle.txn_base.specs.declared.entry.TopicEntry.{TopicEntry}
pub use Rattle.txn_base.specs.declared.limits.Limits.{Limits}
pub use Rattle.txn_base.specs.declared.messages.Message.{Message}
pub use Rattle.txn_base.specs.declared.reply.Outcome.{Outcome}
pub use Rattle.txn_base.specs.declared.reply.Refusal.{Refusal}
pub use Rattle.txn_base.specs.declared.reply.Reply.{Reply}
pub use Rattle.txn_base.specs.declared.reply.What.TheVariants.{Transactions, Log, Held}
pub use Rattle.txn_base.specs.declared.reply.Why.{Why}
pub use Rattle.txn_base.specs.declared.request.Ack.{Ack}
pub use Rattle.txn_base.specs.declared.request.Ack.TheVariants.{These, UpTo}
pub use Rattle.txn_base.specs.declared.request.Request.{Request}
pub use Rattle.txn_base.specs.declared.txn.Decision.{Decision}
pub use Rattle.txn_base.specs.declared.txn.Decision.TheVariants.{Commit, Abort}
pub use Rattle.txn_base.specs.declared.txn.Status.{Status}
pub use Rattle.txn_base.specs.declared.txn.Status.TheVariants.{Open, Committed, Aborted, Committing, Aborting}
pub use Rattle.txn_base.specs.declared.txn.TxnId.{TxnId}
-- The rules.
pub use Rattle.txn_model.specs.Ack.{ack_allows, AckLawful, is_acked, holder_of, is_free, is_held_by, is_foreign, places_allow, covers, is_commit, counts, held_count}
pub use Rattle.txn_model.specs.AckRules.{asks, unread_place, new_places, ack_entry, acks_for, conflict, acked_place, newly_held, acks_added}
pub use Rattle.txn_model.specs.Allowed.{AllowedFlights, IsAllowed, flight_skeletons, LawfulState, log_with, IsPartRebuilt, NoFlightWhereRebuilt}
pub use Rattle.txn_model.specs.Answers.{Answers, early, unrecovered, unread, late, granted, no_memory, no_memory_later, tick_reply, moved, uses, Ends, AppendFails, Succeeds, tick_target, with_coord, Fulfils, reads_clock}
pub use Rattle.txn_model.specs.Coord.{coord_allows, decision_of, closing_of, in_parts, CoordLawful, parts_of, status_of, is_open, closing_skeleton, has_new, count_new, deciding, is_deciding, decision_skeleton, says_decision, is_add, says_closing, closed, is_new, says_status}
pub use Rattle.txn_model.specs.Deadlines.{txn, transactions, is_undriven, is_due, first_due, first_undriven, low_of, left_of}
pub use Rattle.txn_model.specs.Drive.{StopsAt, recovery_fault, recovery_memory, marker_memory, marker_fault, StopsWithin, Drives, already, closes, close_fault, stops, Rebuilds, RebuildsAll, MarksAll, StaysUnrebuilt, RefusedAt, ended}
pub use Rattle.txn_model.specs.EarlyRows.{early_rows, early_refusal, unknown_name, wrong_kind}
pub use Rattle.txn_model.specs.Entries.{message_entry, message_at, message_of}
pub use Rattle.txn_model.specs.Full.{full_transactions, full_held, full_log}
pub use Rattle.txn_model.specs.LateRows.{late_rows, late_refusal, forbids, has_ended, is_not_found, acks_in, forbidding_status, unregistered, unread_in, acked_in, conflict_in}
pub use Rattle.txn_model.specs.Names.{name_of, NamesLawful, part_of, has_name, name_allows}
pub use Rattle.txn_model.specs.Opening.{names_with, lists_for, world_named, first_state, fresh, opened, table_over}
pub use Rattle.txn_model.specs.Plain.{all_marked, drive_by, end_of, after_tick, plain_success, or_refused, plain_answer, after_end, after_drive, after_success, drive_of, plain_replies}
pub use Rattle.txn_model.specs.Replies.{is_fault_why, is_stopped, is_fault, count_faults, RunState, RoseAt, LineKind, too_long, blank, form, AnswersFrom, Replied, Replies}
pub use Rattle.txn_model.specs.Requests.{limit_in, number_of, named, fits_kind, txn_of, ack_asked, adds_inside, name_in, part_in, ack_list}
pub use Rattle.txn_model.specs.Shape.{is_topic, topic_parts, sub_parts, Shaped, numbered, parts_with, IsFor}
pub use Rattle.txn_model.specs.Skeletons.{coord_skeleton, topic_skeleton, topic_skeletons, ack_skeleton, ack_skeletons, coord_skeletons, same_txn}
pub use Rattle.txn_model.specs.Successes.{success_of, acks_batch}
pub use Rattle.txn_model.specs.Table.{nothing, in_coord, in_topic, in_sub, world_with, TableState, with_batch, marked, decision_batch, EntryBatch, flights_with, decision_entry, resolved, rebuilt, is_unrebuilt, at_moment, closing_entry, closing_batch, topic_marker, ack_marker, marker_batch, batch_part, with_failed_batch, flights_without, given_after}
pub use Rattle.txn_model.specs.Topic.{part_allows, TopicLawful, marker_of, is_undecided, limit_from, limit_of, shows, shown_from, visible_of, marks, shown_where, read_slice}
pub use Rattle.txn_model.specs.VisiblePlaces.{shown_place, visible_places_from, visible_places}
pub use Rattle.txn_model.specs.Words.{all_follow, list_at, has, first_of, when, append_at, set_at, IsLawfulBy, first_bad_from, first_bad, IsFirstBad, below, with_list, nowhere, numbers_from, that, first_said, last_of}
pub use Rattle.txn_model.specs.World.{log_of, part_skeletons, has_inside, Lawful, no_flights, Flights, followed, with_kept, Extends, is_inside, RegisteredFirst, MarkerDecided, ClosedComplete}
pub use Rattle.txn_model.specs.declared.world.World.{World}
