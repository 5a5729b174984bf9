-- Whatever lines are told, the table's state moves: parts are recovered, batches are added, and appends fail. What holds of
-- each of these moves, and of moves one after another, holds from the state before the lines to the state after them.
use Rattle.std.proofs.Common.{◌≡◌, ◌⊎◌, inl, inr, ℕ, zero, suc, ◌==◌, ◌≤◌, arith, eq-eqb, eqb-true, Bool, true, false, cond, if◌then◌else◌, List, [], ◌∷◌, ◌++◌, length, Some, None, refl, sym, ap, ◌∙◌, subst}
use Rattle.std.proofs.lemmas.Bool.Decides.{nat_tests}
use Rattle.txn_model.proofs.Words.{Option, MatchBool, MatchOption, is_none, is_some, filter, option_or, Limits, TxnId, Decision, Commit, Abort, CoreEntry, Request, Reply, Outcome, Why, is_sub, World, has, list_at, append_at, set_at, numbers_from, coord_skeletons, topic_skeleton, topic_skeletons, ack_skeleton, ack_skeletons, name_of, decision_of, closing_of, in_parts, parts_of, marks, marker_of, log_of, part_skeletons, no_flights, with_kept, TableState, EntryBatch, nothing, in_coord, in_topic, in_sub, batch_part, world_with, flights_with, with_batch, with_failed_batch, resolved, rebuilt, is_unrebuilt, at_moment, decision_batch, closing_batch, topic_marker, ack_marker, marker_batch, given_after, marked, early_refusal, late_refusal, success_of, Rebuilds, RebuildsAll, StaysUnrebuilt, RefusedAt, MarksAll, StopsAt, recovery_fault, recovery_memory, marker_memory, marker_fault, StopsWithin, Drives, already, closes, close_fault, stops, uses, AppendFails, Fulfils, Ends, Succeeds, Answers, early, unrecovered, unread, late, granted, no_memory, no_memory_later, tick_target, tick_reply, reads_clock, moved, end_of, after_end, after_drive, after_tick, after_success, plain_success, is_stopped, is_fault, RunState, RoseAt, LineKind, too_long, blank, form, AnswersFrom, Replied, Replies}
use Rattle.txn_base.specs.declared.core_entry.CoreEntry.TheVariants as core
use Rattle.txn_base.specs.declared.request.Request.TheVariants as request
use Rattle.txn_model.proofs.Bools.{no_true}
use Rattle.txn_model.proofs.Prefixes.{map_append, first_of-append}
use Rattle.txn_model.proofs.Lists.{at_append}
use Rattle.txn_model.proofs.Statuses.{same_self}
use Rattle.txn_model.proofs.Chosen.{kept_choice, choice_markers}
use Rattle.txn_model.proofs.FlightsOver.{batch_choice}
use Rattle.txn_model.proofs.Refused.{early_same}

-- ---- What recovery and markers keep, over any world.

pub record Stays (t t' : TableState) : Type 0 where
  pub names : t'.world.names ≡ t.world.names
  pub whole : (p : ℕ) → is_unrebuilt t p ≡ false → is_unrebuilt t' p ≡ false
  pub markers : (p : ℕ) (x : TxnId) (d : Decision) → marker_of (part_skeletons t.world p) x ≡ Some d → marker_of (part_skeletons t'.world p) x ≡ Some d

stays_same : (t t' : TableState) → t' ≡ t → Stays t t'
stays_same t t' e = subst (Stays t) (sym e) (record { names = refl; whole = λ p h. h; markers = λ p x d h. h })

stays_both : (a b c : TableState) → Stays a b → Stays b c → Stays a c
stays_both a b c f g = record { names = g.names ∙ f.names; whole = λ p h. g.whole p (f.whole p h); markers = λ p x d h. g.markers p x d (f.markers p x d h) }

-- ---- Recovery.

unset_at : (unrebuilt : ℕ → Bool) (p q : ℕ) → unrebuilt q ≡ false → set_at unrebuilt p false q ≡ false
unset_at unrebuilt p q h = by_test (q == p)
  where
    by_test : (b : Bool) → (if b then false else unrebuilt q) ≡ false
    by_test true = refl
    by_test false = h

rebuilt_stays : (p : ℕ) (stays : Bool) (t : TableState) → Stays t (rebuilt p stays t)
rebuilt_stays p true t =
    record { names = refl; whole = λ q h. unset_at t.unrebuilt p q h; markers = choice_markers t.world (with_kept t.world t.flights (λ k. k == p)) t.flights (kept_choice t.world t.flights (λ k. k == p)) }
rebuilt_stays p false t = record { names = refl; whole = λ q h. unset_at t.unrebuilt p q h; markers = λ q x d h. h }

pub rebuilds_stays : (p : ℕ) (t t' : TableState) → Rebuilds p t t' → Stays t t' × (is_unrebuilt t' p ≡ false)
rebuilds_stays p t t' h = by_test (is_unrebuilt t p) refl h
  where
    by_test : (b : Bool) → is_unrebuilt t p ≡ b → MatchBool b ((stays : Bool) × (t' ≡ rebuilt p stays t)) (t' ≡ t) → Stays t t' × (is_unrebuilt t' p ≡ false)
    by_test true e h = (subst (Stays t) (sym h.1) (rebuilt_stays p h.0 t), ap (λ u. is_unrebuilt u p) h.1 ∙ ap (λ b. if b then false else t.unrebuilt p) (eq-eqb p p refl))
    by_test false e h = (stays_same t t' h, ap (λ u. is_unrebuilt u p) h ∙ e)

-- the coordinator's log stays where another part is recovered
not_zero : (p : ℕ) → 1 ≤ p → (0 == p) ≡ false
not_zero p low = grind (arith, nat_tests)

resolved_coord : (p : ℕ) (stays : Bool) (t : TableState) → 1 ≤ p → (resolved p stays t).world.coord ≡ t.world.coord
resolved_coord p true t low = ap (λ b. if b then t.world.coord ++ t.flights.coord else t.world.coord) (not_zero p low)
resolved_coord p false t low = refl

pub rebuilds_coord : (p : ℕ) (t t' : TableState) → 1 ≤ p → Rebuilds p t t' → t'.world.coord ≡ t.world.coord
rebuilds_coord p t t' low h = by_test (is_unrebuilt t p) h
  where
    by_test : (b : Bool) → MatchBool b ((stays : Bool) × (t' ≡ rebuilt p stays t)) (t' ≡ t) → t'.world.coord ≡ t.world.coord
    by_test true h = ap (λ u. u.world.coord) h.1 ∙ resolved_coord p h.0 t low
    by_test false h = ap (λ u. u.world.coord) h

pub all_stay : (ps : List ℕ) (t t' : TableState) → RebuildsAll ps t t' → Stays t t'
all_stay [] t t' h = stays_same t t' h
all_stay (p ∷ ps) t t' h = stays_both t h.0 t' (rebuilds_stays p t h.0 h.1).0 (all_stay ps h.0 t' h.2)

-- each of these parts is whole then
pub all_are_whole : (ps : List ℕ) (t t' : TableState) → RebuildsAll ps t t' → (q : ℕ) → has ps q ≡ true → is_unrebuilt t' q ≡ false
all_are_whole [] t t' h q i = absurd (no_true i)
all_are_whole (p ∷ ps) t t' h q i = by_test (q == p) refl (all_are_whole ps h.0 t' h.2 q) i
  where
    by_test : (b : Bool) → (q == p) ≡ b → (has ps q ≡ true → is_unrebuilt t' q ≡ false) → (if b then true else has ps q) ≡ true → is_unrebuilt t' q ≡ false
    by_test true e rest i = (all_stay ps h.0 t' h.2).whole q (subst (λ n. is_unrebuilt h.0 n ≡ false) (sym (eqb-true q p e)) (rebuilds_stays p t h.0 h.1).1)
    by_test false e rest i = rest i

-- ---- Markers.

pub topic_marker_skeleton : (x : TxnId) (d : Decision) → topic_skeleton (topic_marker x d) ≡ core.Marker x d
topic_marker_skeleton x Commit = refl
topic_marker_skeleton x Abort = refl

pub ack_marker_skeleton : (x : TxnId) (d : Decision) → ack_skeleton (ack_marker x d) ≡ core.Marker x d
ack_marker_skeleton x Commit = refl
ack_marker_skeleton x Abort = refl

-- behind a list without one
marker_behind : (s : List CoreEntry) (x : TxnId) (d : Decision) → is_none (marker_of s x) ≡ true → marker_of (s ++ core.Marker x d ∷ []) x ≡ Some d
marker_behind s x d h = first_of-append (marks x) s (core.Marker x d ∷ []) ∙ by_none (marker_of s x) h
  where
    by_none : (o : Option Decision) → is_none o ≡ true → option_or o (marker_of (core.Marker x d ∷ []) x) ≡ Some d
    by_none None h = ap (λ b. option_or (if b then Some d else None) None) (same_self x)
    by_none (Some e) h = absurd (no_true h)

-- the batch of a marker where none stands
abbrev pub new_marker : World → TxnId → Decision → ℕ → EntryBatch
new_marker w x d p = if is_sub (name_of w.names p) then in_sub p (ack_marker x d) else in_topic p (topic_marker x d ∷ [])

new_marker_stands : (w : World) (x : TxnId) (d : Decision) (p : ℕ) → is_none (marker_of (part_skeletons w p) x) ≡ true → marker_of (part_skeletons (world_with (new_marker w x d p) w) p) x ≡ Some d
new_marker_stands w x d p none = by_kind (is_sub (name_of w.names p)) refl none
  where
    at : {E : Type 0} (ls : List (ℕ × List E)) (more : List E) → list_at (append_at ls p more) p ≡ list_at ls p ++ more
    at ls more = at_append ls p more p ∙ ap (λ b. if b then list_at ls p ++ more else list_at ls p) (eq-eqb p p refl)

    by_kind : (b : Bool) → is_sub (name_of w.names p) ≡ b → is_none (marker_of (if b then ack_skeletons (list_at w.subs p) else topic_skeletons (list_at w.topics p)) x) ≡ true
        → marker_of (part_skeletons (world_with (if b then in_sub p (ack_marker x d) else in_topic p (topic_marker x d ∷ [])) w) p) x ≡ Some d
    by_kind true e h =
        ap (λ s. marker_of s x)
        (ap (λ b. if b then ack_skeletons (list_at (append_at w.subs p (ack_marker x d ∷ [])) p) else topic_skeletons (list_at w.topics p)) e
        ∙ ap ack_skeletons (at w.subs (ack_marker x d ∷ [])) ∙ map_append ack_skeleton (list_at w.subs p) (ack_marker x d ∷ []) ∙ ap (λ k. ack_skeletons (list_at w.subs p) ++ k ∷ []) (ack_marker_skeleton x d))
        ∙ marker_behind (ack_skeletons (list_at w.subs p)) x d h
    by_kind false e h =
        ap (λ s. marker_of s x)
        (ap (λ b. if b then ack_skeletons (list_at w.subs p) else topic_skeletons (list_at (append_at w.topics p (topic_marker x d ∷ [])) p)) e
        ∙ ap topic_skeletons (at w.topics (topic_marker x d ∷ [])) ∙ map_append topic_skeleton (list_at w.topics p) (topic_marker x d ∷ []) ∙ ap (λ k. topic_skeletons (list_at w.topics p) ++ k ∷ []) (topic_marker_skeleton x d))
        ∙ marker_behind (topic_skeletons (list_at w.topics p)) x d h

marker_part : (t : TableState) (x : TxnId) (d : Decision) (p : ℕ) → is_none (marker_of (part_skeletons t.world p) x) ≡ true → batch_part (marker_batch t x d p) ≡ Some p
marker_part t x d p h = by_test (marker_of (part_skeletons t.world p) x) (is_sub (name_of t.world.names p)) h
  where
    by_test : (o : Option Decision) (c : Bool) → is_none o ≡ true → batch_part (if is_some o then nothing else (if c then in_sub p (ack_marker x d) else in_topic p (topic_marker x d ∷ []))) ≡ Some p
    by_test (Some e) c h = absurd (no_true h)
    by_test None true h = refl
    by_test None false h = refl

pub world_names : (b : EntryBatch) (w : World) → (world_with b w).names ≡ w.names
world_names nothing w = refl
world_names (in_coord e) w = refl
world_names (in_topic p es) w = refl
world_names (in_sub p e) w = refl

marked_stays : (x : TxnId) (d : Decision) (p : ℕ) (t : TableState) → Stays t (marked x d p t)
marked_stays x d p t =
    let b : EntryBatch = marker_batch t x d p in
    record { names = world_names b t.world; whole = λ q h. h; markers = choice_markers t.world (world_with b t.world) (flights_with b no_flights) (batch_choice b t.world) }

marked_coord : (x : TxnId) (d : Decision) (p : ℕ) (t : TableState) → (marked x d p t).world.coord ≡ t.world.coord
marked_coord x d p t = by_test (is_some (marker_of (part_skeletons t.world p) x)) (is_sub (name_of t.world.names p))
  where
    by_test : (b c : Bool) → (world_with (if b then nothing else (if c then in_sub p (ack_marker x d) else in_topic p (topic_marker x d ∷ []))) t.world).coord ≡ t.world.coord
    by_test true c = refl
    by_test false true = refl
    by_test false false = refl

marked_stands : (x : TxnId) (d : Decision) (p : ℕ) (t : TableState) → (e : Decision) × (marker_of (part_skeletons (marked x d p t).world p) x ≡ Some e)
marked_stands x d p t = by_test (marker_of (part_skeletons t.world p) x) refl
  where
    by_test : (o : Option Decision) → marker_of (part_skeletons t.world p) x ≡ o → (e : Decision) × (marker_of (part_skeletons (world_with (if is_some o then nothing else new_marker t.world x d p) t.world) p) x ≡ Some e)
    by_test (Some e) h = (e, h)
    by_test None h = (d, new_marker_stands t.world x d p (ap is_none h))

-- ---- A decided transaction, and parts of it: an entry adds each of them, or it is named.

abbrev pub IsPart : World → TxnId → ℕ → Type 0
IsPart w x p = (1 ≤ p) × ((in_parts (log_of w) x p ≡ true) ⊎ (p ≤ length w.names))

pub record Ending (x : TxnId) (d : Decision) (ps : List ℕ) (w : World) : Type 0 where
  pub decided : decision_of (log_of w) x ≡ Some d
  pub each : (p : ℕ) → has ps p ≡ true → IsPart w x p

ending_still : (x : TxnId) (d : Decision) (ps : List ℕ) (w w' : World) → w'.names ≡ w.names → w'.coord ≡ w.coord → Ending x d ps w → Ending x d ps w'
ending_still x d ps w w' n c is = record { decided = ap (λ cs. decision_of (coord_skeletons cs) x) c ∙ is.decided; each = λ p h. let one = is.each p h in (one.0, still p one.1) }
  where
    still : (p : ℕ) → (in_parts (log_of w) x p ≡ true) ⊎ (p ≤ length w.names) → (in_parts (log_of w') x p ≡ true) ⊎ (p ≤ length w'.names)
    still p (inl i) = inl (ap (λ cs. in_parts (coord_skeletons cs) x p) c ∙ i)
    still p (inr h) = inr (subst (λ ns. p ≤ length ns) (sym n) h)

pub has_head : (p : ℕ) (ps : List ℕ) → has (p ∷ ps) p ≡ true
has_head p ps = ap (λ b. if b then true else has ps p) (eq-eqb p p refl)

pub has_later : (q p : ℕ) (ps : List ℕ) → has ps p ≡ true → has (q ∷ ps) p ≡ true
has_later q p ps h = by_test (p == q) h
  where
    by_test : (b : Bool) → has ps p ≡ true → (if b then true else has ps p) ≡ true
    by_test true h = refl
    by_test false h = h

ending_rest : (x : TxnId) (d : Decision) (p : ℕ) (ps : List ℕ) (w : World) → Ending x d (p ∷ ps) w → Ending x d ps w
ending_rest x d p ps w is = record { decided = is.decided; each = λ q h. is.each q (has_later p q ps h) }

-- the parts that entries add
among_numbers : (f : ℕ → Bool) (k n p : ℕ) → has (filter f (numbers_from k n)) p ≡ true → (k ≤ p) × (f p ≡ true)
among_numbers f k zero p h = absurd (no_true h)
among_numbers f k (suc n) p h = by_test (f k) (p == k) refl refl (λ i. let at = among_numbers f (suc k) n p i in (omega (arith, at.0), at.1)) h
  where
    by_test : (b c : Bool) → f k ≡ b → (p == k) ≡ c → (has (filter f (numbers_from (suc k) n)) p ≡ true → (k ≤ p) × (f p ≡ true))
        → has (cond b (k ∷ filter f (numbers_from (suc k) n)) (filter f (numbers_from (suc k) n))) p ≡ true → (k ≤ p) × (f p ≡ true)
    by_test true true i e later h = let same : p ≡ k = eqb-true p k e in (omega (arith, same), subst (λ q. f q ≡ true) (sym same) i)
    by_test true false i e later h = later (sym (ap (λ b. if b then true else has (filter f (numbers_from (suc k) n)) p) e) ∙ h)
    by_test false c i e later h = later h

parts_end : (w : World) (x : TxnId) (d : Decision) → decision_of (log_of w) x ≡ Some d → Ending x d (parts_of (log_of w) x) w
parts_end w x d decided = record { decided = decided; each = λ p h. let at = among_numbers (in_parts (log_of w) x) 1 62 p h in (at.0, inl at.1) }

-- one part is rebuilt and gets its marker
marked_same : (x : TxnId) (d : Decision) (p : ℕ) (ps : List ℕ) (t mid : TableState) → Rebuilds p t mid → Ending x d (p ∷ ps) t.world → Ending x d ps (marked x d p mid).world
marked_same x d p ps t mid h is =
    ending_still x d ps t.world (marked x d p mid).world ((marked_stays x d p mid).names ∙ (rebuilds_stays p t mid h).0.names) (marked_coord x d p mid ∙ rebuilds_coord p t mid (is.each p (has_head p ps)).0 h)
    (ending_rest x d p ps t.world is)

-- each of these parts has a marker
pub record HaveMarkers (x : TxnId) (ps : List ℕ) (t t' : TableState) : Type 0 where
  pub stays : Stays t t'
  pub coord : t'.world.coord ≡ t.world.coord
  pub stand : (p : ℕ) → has ps p ≡ true → (e : Decision) × (marker_of (part_skeletons t'.world p) x ≡ Some e)

pub all_marked : (x : TxnId) (d : Decision) (ps : List ℕ) (t t' : TableState) → Ending x d ps t.world → MarksAll x d ps t t' → HaveMarkers x ps t t'
all_marked x d [] t t' is h = record { stays = stays_same t t' h; coord = ap (λ u. u.world.coord) h; stand = λ p i. absurd (no_true i) }
all_marked x d (p ∷ ps) t t' is h =
    let rest : HaveMarkers x ps (marked x d p h.0) t' = all_marked x d ps (marked x d p h.0) t' (marked_same x d p ps t h.0 h.1 is) h.2 in
    let one : (e : Decision) × (marker_of (part_skeletons (marked x d p h.0).world p) x ≡ Some e) = marked_stands x d p h.0 in
    record {
      stays = stays_both t h.0 t' (rebuilds_stays p t h.0 h.1).0 (stays_both h.0 (marked x d p h.0) t' (marked_stays x d p h.0) rest.stays);
      coord = rest.coord ∙ marked_coord x d p h.0 ∙ rebuilds_coord p t h.0 (is.each p (has_head p ps)).0 h.1;
      stand = λ q i. stand_by q (q == p) refl (one.0, rest.stays.markers p x one.0 one.1) (rest.stand q) i;
    }
  where
    stand_by : (q : ℕ) (b : Bool) → (q == p) ≡ b → (e : Decision) × (marker_of (part_skeletons t'.world p) x ≡ Some e) → (has ps q ≡ true → (e : Decision) × (marker_of (part_skeletons t'.world q) x ≡ Some e))
        → (if b then true else has ps q) ≡ true → (e : Decision) × (marker_of (part_skeletons t'.world q) x ≡ Some e)
    stand_by q true e here later i = (here.0, subst (λ k. marker_of (part_skeletons t'.world k) x ≡ Some here.0) (sym (eqb-true q p e)) here.1)
    stand_by q false e here later i = later i

-- ---- The ways of a request that isn't refused, and what the plain table says of each.

pub data Way (limits : Limits) (rose : ℕ → Type 0) (t : TableState) (r : Request) (told : Reply) (t' : TableState) : Type 0 where
  by_row : plain_success limits t r ≡ after_success (success_of limits t r) t → is_fault (success_of limits t r).reply ≡ false
      → Fulfils (success_of limits t r) t told t' ⊎ AppendFails rose (success_of limits t r).adds t told t' → Way limits rose t r told t'
  is_idle : plain_success limits t r ≡ (tick_reply t None, t) → told ≡ tick_reply t None → t' ≡ t → Way limits rose t r told t'
  by_end : (x : TxnId) (d : Decision) (say : Outcome × TableState → Reply × TableState) → ((done : Outcome × TableState) → is_fault (say done).0 ≡ is_stopped done.0.stuck)
      → plain_success limits t r ≡ say (end_of t x d) → uses t.world r ≡ 0 ∷ []
      → ((outcome : Outcome) × Ends rose t x d outcome t' × ((told, t') ≡ say (outcome, t'))) ⊎ AppendFails rose (decision_batch t x d) t told t' → Way limits rose t r told t'

pub way : (limits : Limits) (rose : ℕ → Type 0) (t : TableState) (r : Request) (told : Reply) (t' : TableState) → Succeeds limits rose t r told t' → Way limits rose t r told t'
way limits rose t (request.Commit x) told t' (inl h) = by_end x Commit (after_end Commit) (λ done. refl) refl refl (inl (h.0, h.1, ap (λ o. (o, t')) h.2))
way limits rose t (request.Commit x) told t' (inr h) = by_end x Commit (after_end Commit) (λ done. refl) refl refl (inr h)
way limits rose t (request.Abort x) told t' (inl h) = by_end x Abort (after_end Abort) (λ done. refl) refl refl (inl (h.0, h.1, ap (λ o. (o, t')) h.2))
way limits rose t (request.Abort x) told t' (inr h) = by_end x Abort (after_end Abort) (λ done. refl) refl refl (inr h)
way limits rose t request.Tick told t' h = by_target (tick_target t) refl h
  where
    by_target : (o : Option TxnId) → tick_target t ≡ o
        → MatchOption o ((told ≡ tick_reply t None) × (t' ≡ t))
        (λ x. ((outcome : Outcome) × Ends rose t x Abort outcome t' × (told ≡ tick_reply t' (Some (x, outcome)))) ⊎ AppendFails rose (decision_batch t x Abort) t told t')
        → Way limits rose t request.Tick told t'
    by_target None e h = is_idle (ap (after_tick t) e) h.0 h.1
    by_target (Some x) e (inl h) = by_end x Abort (after_drive x) (λ done. refl) (ap (after_tick t) e) refl (inl (h.0, h.1, ap (λ o. (o, t')) h.2))
    by_target (Some x) e (inr h) = by_end x Abort (after_drive x) (λ done. refl) (ap (after_tick t) e) refl (inr h)
way limits rose t (request.New timeout) told t' h = by_row refl refl h
way limits rose t (request.Add x part) told t' h = by_row refl refl h
way limits rose t (request.Publish topic who bodies) told t' h = by_row refl refl h
way limits rose t (request.Ack sub who places) told t' h = by_row refl refl h
way limits rose t (request.AckUpTo sub who place) told t' h = by_row refl refl h
way limits rose t (request.Status x) told t' h = by_row refl refl h
way limits rose t (request.Read topic first max) told t' h = by_row refl refl h
way limits rose t (request.Receive sub max) told t' h = by_row refl refl h
way limits rose t (request.Redeliver sub) told t' h = by_row refl refl h
way limits rose t request.Stop told t' h = by_row refl refl h

-- ---- The moves.

-- the parts that a request uses are whole
abbrev pub WholeFor : Request → TableState → Type 0
WholeFor r t = (p : ℕ) → has (uses t.world r) p ≡ true → is_unrebuilt t p ≡ false

pub uses_same : (w w' : World) (r : Request) → w'.names ≡ w.names → uses w' r ≡ uses w r
uses_same w w' r e = ap (λ names. uses (over names) r) e
  where
    over : List (List ℕ) → World
    over names = record { names = names; coord = w'.coord; topics = w'.topics; subs = w'.subs }

-- the batches that the table adds, each with what is known where it adds it
pub data MayAdd (limits : Limits) (t : TableState) (b : EntryBatch) : Type 0 where
  of_row : (r : Request) → early_refusal limits t.world r ≡ None → late_refusal limits t r ≡ None → WholeFor r t → b ≡ (success_of limits t r).adds → MayAdd limits t b
  of_decision : (x : TxnId) (d : Decision) → is_unrebuilt t 0 ≡ false → b ≡ decision_batch t x d → MayAdd limits t b
  of_marker : (x : TxnId) (d : Decision) (p : ℕ) → decision_of (log_of t.world) x ≡ Some d → IsPart t.world x p → is_unrebuilt t p ≡ false → b ≡ marker_batch t x d p → MayAdd limits t b
  of_closing : (x : TxnId) (d : Decision) → closing_of (log_of t.world) x ≡ None → decision_of (log_of t.world) x ≡ Some d
      → ((p : ℕ) → has (parts_of (log_of t.world) x) p ≡ true → (e : Decision) × (marker_of (part_skeletons t.world p) x ≡ Some e)) → is_unrebuilt t 0 ≡ false → b ≡ closing_batch x d → MayAdd limits t b

-- a relation that holds of each move, and of moves one after another
pub record Moves (limits : Limits) (Goes : TableState → TableState → Type 0) : Type 0 where
  pub same : (t : TableState) → Goes t t
  pub both : (a b c : TableState) → Goes a b → Goes b c → Goes a c
  pub resolves : (p : ℕ) (stays : Bool) (t : TableState) → Goes t (resolved p stays t)
  pub rebuilds : (p : ℕ) (stays : Bool) (t : TableState) → Goes t (rebuilt p stays t)
  pub adds : (b : EntryBatch) (t : TableState) (given : ℕ → ℕ → Bool) → MayAdd limits t b → Goes t (record (with_batch b t) { given = given })
  pub fails : (b : EntryBatch) (p : ℕ) (t : TableState) → batch_part b ≡ Some p → MayAdd limits t b → Goes t (with_failed_batch b p t)
  pub hears : (moment : ℕ) (t : TableState) → Goes t (at_moment moment t)

module _ (limits : Limits) (Goes : TableState → TableState → Type 0) (m : Moves limits Goes) where
  goes_by : (t t' u : TableState) → t' ≡ u → Goes t u → Goes t t'
  goes_by t t' u e g = subst (Goes t) (sym e) g

  pub rebuilds_goes : (p : ℕ) (t t' : TableState) → Rebuilds p t t' → Goes t t'
  rebuilds_goes p t t' h = by_test (is_unrebuilt t p) h
    where
      by_test : (b : Bool) → MatchBool b ((stays : Bool) × (t' ≡ rebuilt p stays t)) (t' ≡ t) → Goes t t'
      by_test true h = goes_by t t' (rebuilt p h.0 t) h.1 (m.rebuilds p h.0 t)
      by_test false h = goes_by t t' t h (m.same t)

  pub all_go : (ps : List ℕ) (t t' : TableState) → RebuildsAll ps t t' → Goes t t'
  all_go [] t t' h = goes_by t t' t h (m.same t)
  all_go (p ∷ ps) t t' h = m.both t h.0 t' (rebuilds_goes p t h.0 h.1) (all_go ps h.0 t' h.2)

  unrebuilt_goes : (p : ℕ) (t t' : TableState) → StaysUnrebuilt p t t' → Goes t t'
  unrebuilt_goes p t t' h = elim h.1 [ inl e ↦ goes_by t t' t e (m.same t) | inr k ↦ goes_by t t' (resolved p k.0 t) k.1 (m.resolves p k.0 t) ]

  refused_goes : (ps : List ℕ) (p : ℕ) (t t' : TableState) → RefusedAt ps p t t' → Goes t t'
  refused_goes [] p t t' h = absurd h
  refused_goes (q ∷ qs) p t t' (inl h) = unrebuilt_goes q t t' h.1
  refused_goes (q ∷ qs) p t t' (inr h) = m.both t h.0 t' (rebuilds_goes q t h.0 h.1) (refused_goes qs p h.0 t' h.2)

  -- a part that was rebuilt may get the marker
  may_mark : (x : TxnId) (d : Decision) (p : ℕ) (ps : List ℕ) (t mid : TableState) → Rebuilds p t mid → Ending x d (p ∷ ps) t.world → MayAdd limits mid (marker_batch mid x d p)
  may_mark x d p ps t mid h is =
      let r : Stays t mid × (is_unrebuilt mid p ≡ false) = rebuilds_stays p t mid h in
      let here : Ending x d (p ∷ ps) mid.world = ending_still x d (p ∷ ps) t.world mid.world r.0.names (rebuilds_coord p t mid (is.each p (has_head p ps)).0 h) is in
      of_marker x d p here.decided (here.each p (has_head p ps)) r.1 refl

  marked_goes : (x : TxnId) (d : Decision) (p : ℕ) (ps : List ℕ) (t mid : TableState) → Rebuilds p t mid → Ending x d (p ∷ ps) t.world → Goes t (marked x d p mid)
  marked_goes x d p ps t mid h is = m.both t mid (marked x d p mid) (rebuilds_goes p t mid h) (m.adds (marker_batch mid x d p) mid (given_after mid x d p) (may_mark x d p ps t mid h is))

  pub marks_go : (x : TxnId) (d : Decision) (ps : List ℕ) (t t' : TableState) → Ending x d ps t.world → MarksAll x d ps t t' → Goes t t'
  marks_go x d [] t t' is h = goes_by t t' t h (m.same t)
  marks_go x d (p ∷ ps) t t' is h = m.both t (marked x d p h.0) t' (marked_goes x d p ps t h.0 h.1 is) (marks_go x d ps (marked x d p h.0) t' (marked_same x d p ps t h.0 h.1 is) h.2)

  module _ (rose : ℕ → Type 0) where
    stop_goes : (x : TxnId) (d : Decision) (p : ℕ) (ps : List ℕ) (t : TableState) (reason : Why) (t' : TableState) → Ending x d (p ∷ ps) t.world → StopsAt rose x d p t reason t' → Goes t t'
    stop_goes x d p ps t reason t' is (recovery_fault h r w) = unrebuilt_goes p t t' h
    stop_goes x d p ps t reason t' is (recovery_memory h w) = unrebuilt_goes p t t' h
    stop_goes x d p ps t reason t' is (marker_memory f r n w) = rebuilds_goes p t t' r
    stop_goes x d p ps t reason t' is (marker_fault mid r n z s w) =
        m.both t mid t' (rebuilds_goes p t mid r) (goes_by mid t' (with_failed_batch (marker_batch mid x d p) p mid) s (m.fails (marker_batch mid x d p) p mid (marker_part mid x d p n) (may_mark x d p ps t mid r is)))

    stops_go : (x : TxnId) (d : Decision) (ps : List ℕ) (p : ℕ) (t : TableState) (reason : Why) (t' : TableState) → Ending x d ps t.world → StopsWithin rose x d ps p t reason t' → Goes t t'
    stops_go x d [] p t reason t' is h = absurd h
    stops_go x d (q ∷ qs) p t reason t' is (inl h) = stop_goes x d q qs t reason t' is h.1
    stops_go x d (q ∷ qs) p t reason t' is (inr h) =
        m.both t (marked x d q h.0) t' (marked_goes x d q qs t h.0 h.1 is) (stops_go x d qs p (marked x d q h.0) reason t' (marked_same x d q qs t h.0 h.1 is) h.2)

    -- where each part has a marker, x may be closed
    may_close : (x : TxnId) (d : Decision) (t mid : TableState) → is_unrebuilt t 0 ≡ false → closing_of (log_of t.world) x ≡ None → decision_of (log_of t.world) x ≡ Some d
        → HaveMarkers x (parts_of (log_of t.world) x) t mid → MayAdd limits mid (closing_batch x d)
    may_close x d t mid whole c k all =
        of_closing x d (ap (λ cs. closing_of (coord_skeletons cs) x) all.coord ∙ c) (ap (λ cs. decision_of (coord_skeletons cs) x) all.coord ∙ k)
        (λ p i. all.stand p (subst (λ cs. has (parts_of (coord_skeletons cs) x) p ≡ true) all.coord i)) (all.stays.whole 0 whole) refl

    drives_go : (x : TxnId) (t : TableState) (outcome : Outcome) (t' : TableState) → is_unrebuilt t 0 ≡ false → Drives rose x t outcome t' → Goes t t'
    drives_go x t outcome t' whole (already d c o s) = goes_by t t' t s (m.same t)
    drives_go x t outcome t' whole (closes d c k mid h o s) =
        let is : Ending x d (parts_of (log_of t.world) x) t.world = parts_end t.world x d k in
        m.both t mid t' (marks_go x d (parts_of (log_of t.world) x) t mid is h)
        (goes_by mid t' (with_batch (closing_batch x d) mid) s (m.adds (closing_batch x d) mid mid.given (may_close x d t mid whole c k (all_marked x d (parts_of (log_of t.world) x) t mid is h))))
    drives_go x t outcome t' whole (close_fault d c k mid h f o s) =
        let is : Ending x d (parts_of (log_of t.world) x) t.world = parts_end t.world x d k in
        m.both t mid t' (marks_go x d (parts_of (log_of t.world) x) t mid is h)
        (goes_by mid t' (with_failed_batch (closing_batch x d) 0 mid) s (m.fails (closing_batch x d) 0 mid refl (may_close x d t mid whole c k (all_marked x d (parts_of (log_of t.world) x) t mid is h))))
    drives_go x t outcome t' whole (stops d c k p reason h o) = stops_go x d (parts_of (log_of t.world) x) p t reason t' (parts_end t.world x d k) h

    fails_goes : (b : EntryBatch) (t : TableState) (told : Reply) (t' : TableState) → MayAdd limits t b → AppendFails rose b t told t' → Goes t t'
    fails_goes b t told t' may h = goes_by t t' (with_failed_batch b h.0 t) h.4 (m.fails b h.0 t h.1 may)

    way_goes : (t : TableState) (r : Request) (told : Reply) (t' : TableState) → early_refusal limits t.world r ≡ None → late_refusal limits t r ≡ None → WholeFor r t → Way limits rose t r told t' → Goes t t'
    way_goes t r told t' e l whole (by_row plain quiet (inl h)) =
        goes_by t t' (record (with_batch (success_of limits t r).adds t) { given = (success_of limits t r).given }) h.1 (m.adds (success_of limits t r).adds t (success_of limits t r).given (of_row r e l whole refl))
    way_goes t r told t' e l whole (by_row plain quiet (inr h)) = fails_goes (success_of limits t r).adds t told t' (of_row r e l whole refl) h
    way_goes t r told t' e l whole (is_idle plain o s) = goes_by t t' t s (m.same t)
    way_goes t r told t' e l whole (by_end x d say quiet plain u (inl h)) =
        let here : is_unrebuilt t 0 ≡ false = whole 0 (subst (λ ps. has ps 0 ≡ true) (sym u) refl) in
        m.both t (with_batch (decision_batch t x d) t) t' (m.adds (decision_batch t x d) t t.given (of_decision x d here refl)) (drives_go x (with_batch (decision_batch t x d) t) h.0 t' here h.1)
    way_goes t r told t' e l whole (by_end x d say quiet plain u (inr h)) =
        fails_goes (decision_batch t x d) t told t' (of_decision x d (whole 0 (subst (λ ps. has ps 0 ≡ true) (sym u) refl)) refl) h

    pub answers_go : (t : TableState) (r : Request) (told : Reply) (t' : TableState) → Answers limits rose t r told t' → Goes t t'
    answers_go t r told t' (early row h o s) = goes_by t t' t s (m.same t)
    answers_go t r told t' (unrecovered h p f q o) = refused_goes (uses t.world r) p t t' f
    answers_go t r told t' (unread h mid w g) = m.both t mid t' (all_go (uses t.world r) t mid w) (goes_by mid t' mid g.4 (m.same mid))
    answers_go t r told t' (late h w row k o) = all_go (uses t.world r) t t' w
    answers_go t r told t' (granted h mid w k g) =
        let names : mid.world.names ≡ t.world.names = (all_stay (uses t.world r) t mid w).names in
        m.both t mid t' (all_go (uses t.world r) t mid w)
        (way_goes mid r told t' (early_same limits t.world mid.world r names h) k
        (λ p i. all_are_whole (uses t.world r) t mid w p (subst (λ ps. has ps p ≡ true) (uses_same t.world mid.world r names) i)) (way limits rose mid r told t' g))
    answers_go t r told t' (no_memory o s) = goes_by t t' t s (m.same t)
    answers_go t r told t' (no_memory_later h o (inl f)) = refused_goes (uses t.world r) f.0 t t' f.1
    answers_go t r told t' (no_memory_later h o (inr w)) = all_go (uses t.world r) t t' w

  -- ---- Lines.

  moved_goes : (r : Request) (moment : ℕ) (t : TableState) → Goes t (moved r moment t)
  moved_goes r moment t = by_test (reads_clock r)
    where
      by_test : (b : Bool) → Goes t (if b then at_moment moment t else t)
      by_test true = m.hears moment t
      by_test false = m.same t

  still_goes : (s s' : RunState) → s' ≡ s → Goes s.table s'.table
  still_goes s s' e = subst (λ u. Goes s.table u.table) (sym e) (m.same s.table)

  pub from_goes : (s : RunState) (r : Request) (told : Reply) (s' : RunState) → AnswersFrom limits s r told s' → Goes s.table s'.table
  from_goes s r told s' (inl h) = still_goes s s' h.1
  from_goes s r told s' (inr h) = m.both s.table (moved r h.0 s.table) s'.table (moved_goes r h.0 s.table) (answers_go (RoseAt s s') (moved r h.0 s.table) r told s'.table h.2)

  line_goes : (s : RunState) (kind : LineKind) (told : List Reply) (s' : RunState) → Replied limits s kind told s' → Goes s.table s'.table
  line_goes s too_long told s' h = still_goes s s' h.1
  line_goes s blank told s' h = still_goes s s' h.1
  line_goes s (form None) told s' h = still_goes s s' h.1
  line_goes s (form (Some r)) told s' h = from_goes s r h.0 s' h.2

  pub replies_go : (s : RunState) (kinds : List LineKind) (told : List Reply) (s' : RunState) → Replies limits s kinds told s' → Goes s.table s'.table
  replies_go s [] told s' h = still_goes s s' h.1
  replies_go s (kind ∷ kinds) told s' h = m.both s.table h.0.table s'.table (line_goes s kind h.1 h.0 h.3) (replies_go h.0 kinds h.2 s' h.4)
