-- Each change of the table's state is a list of core steps.
use Rattle.std.proofs.Common.{◌≡◌, ◌≢◌, ℕ, ◌≤◌, ◌<◌, arith, ◌==◌, eq-eqb, eqb-true, ne_eqb, leb-true, leb-false, Bool, true, false, not, if◌then◌else◌, List, [], ◌∷◌, ◌++◌, length, Some, None, refl, sym, ap, ◌∙◌, subst}
use Rattle.std.specs.Prelude.{nat_le}
use Rattle.std.proofs.lemmas.List.{append-nil}
use Rattle.txn_base.specs.declared.core_entry.CoreEntry.{CoreEntry}
use Rattle.txn_base.specs.declared.entry.CoordEntry.{CoordEntry}
use Rattle.txn_base.specs.declared.entry.TopicEntry.{TopicEntry}
use Rattle.txn_base.specs.declared.entry.AckEntry.{AckEntry}
use Rattle.txn_base.specs.Names.{is_sub}
use Rattle.txn_model.specs.declared.world.World.{World}
use Rattle.txn_model.specs.Words.{has, list_at, append_at, set_at}
use Rattle.txn_model.specs.Skeletons.{coord_skeleton, topic_skeleton, ack_skeleton, coord_skeletons, topic_skeletons, ack_skeletons}
use Rattle.txn_model.specs.Names.{name_of}
use Rattle.txn_model.specs.Coord.{in_parts, decision_of, CoordLawful}
use Rattle.txn_model.specs.Topic.{marker_of}
use Rattle.txn_model.specs.World.{log_of, part_skeletons, has_inside, Flights, no_flights, with_kept}
use Rattle.txn_model.specs.Table.{TableState, EntryBatch, nothing, in_coord, in_topic, in_sub, batch_part, world_with, flights_with, flights_without, with_batch, with_failed_batch, resolved, rebuilt, is_unrebuilt}
use Rattle.txn_model.specs.Shape.{IsFor, is_topic, topic_parts, sub_parts}
use Rattle.txn_model.specs.Allowed.{flight_skeletons, IsAllowed, IsPartRebuilt, LawfulState}
use Rattle.txn_model.proofs.Laws.Lists.{map_append, at_append}
use Rattle.txn_model.proofs.Laws.Logs.{parts_stay}
use Rattle.txn_model.proofs.Laws.Names.{named_part, numbered_within, not_both_kinds}
use Rattle.txn_model.proofs.Laws.Grants.{topic_part, sub_part}
use Rattle.txn_core.specs.declared.step.CoreRow.{CoreRow}
use Rattle.txn_core.specs.Together.{IsAlone}
use Rattle.txn_core.specs.Steps.{CoreState, row_of, settled_of, may_start}
use Rattle.txn_core.specs.Worlds.{skeletons_of, flights_of}
use Rattle.txn_core.specs.Kept.{StandTogether}
use Rattle.txn_core.specs.Tables.{row_by, row_in, Mirrors, Reaches, AreSteps, batch_skeletons, FitsOneBatch}
use Rattle.txn_core.proofs.Asked.{parts_within}
use Rattle.txn_core.proofs.Worlds.{world_stands, kept_skeletons}
use Rattle.txn_core.proofs.Moves.{Moves, moves_none, write_moves, start_moves, stop_moves, within_rows, moved_reaches, same_reaches, same_steps, both_reach}
use Rattle.txn_core.proofs.Allowing.{part_may_start, log_may_start}

-- ---- Lists of a part by its kind.

skel_topic : (w : World) (p : ℕ) → (p == 0) ≡ false → is_sub (name_of w.names p) ≡ false → skeletons_of w p ≡ topic_skeletons (list_at w.topics p)
skel_topic w p z k = ap (λ b. if b then log_of w else part_skeletons w p) z ∙ topic_part w p k

skel_sub : (w : World) (p : ℕ) → (p == 0) ≡ false → is_sub (name_of w.names p) ≡ true → skeletons_of w p ≡ ack_skeletons (list_at w.subs p)
skel_sub w p z k = ap (λ b. if b then log_of w else part_skeletons w p) z ∙ sub_part w p k

flight_topic : (w : World) (f : Flights) (p : ℕ) → (p == 0) ≡ false → is_sub (name_of w.names p) ≡ false → flights_of w f p ≡ topic_skeletons (f.topics p)
flight_topic w f p z k = ap (λ b. if b then coord_skeletons f.coord else flight_skeletons w f p) z ∙ ap (λ b. if b then ack_skeletons (f.subs p) else topic_skeletons (f.topics p)) k

flight_sub : (w : World) (f : Flights) (p : ℕ) → (p == 0) ≡ false → is_sub (name_of w.names p) ≡ true → flights_of w f p ≡ ack_skeletons (f.subs p)
flight_sub w f p z k = ap (λ b. if b then coord_skeletons f.coord else flight_skeletons w f p) z ∙ ap (λ b. if b then ack_skeletons (f.subs p) else topic_skeletons (f.topics p)) k

at_here : {E : Type 0} (ls : List (ℕ × List E)) (p : ℕ) (more : List E) → list_at (append_at ls p more) p ≡ list_at ls p ++ more
at_here ls p more = at_append ls p more p ∙ ap (λ b. if b then list_at ls p ++ more else list_at ls p) (eq-eqb p p refl)

at_else : {E : Type 0} (ls : List (ℕ × List E)) (p : ℕ) (more : List E) (q : ℕ) → q ≢ p → list_at (append_at ls p more) q ≡ list_at ls q
at_else ls p more q d = at_append ls p more q ∙ ap (λ b. if b then list_at ls p ++ more else list_at ls q) (ne_eqb p q (λ e. d (sym e)))

set_here : {A : Type 0} (f : ℕ → A) (p : ℕ) (x : A) → set_at f p x p ≡ x
set_here f p x = ap (λ b. if b then x else f p) (eq-eqb p p refl)

set_else : {A : Type 0} (f : ℕ → A) (p : ℕ) (x : A) (q : ℕ) → q ≢ p → set_at f p x q ≡ f q
set_else f p x q d = ap (λ b. if b then x else f q) (ne_eqb q p d)

-- what a batch adds to the list of its part, and what is then in flight there, is the batch; the other parts have what they had
record Adds (b : EntryBatch) (w : World) (f : Flights) (p : ℕ) : Type 0 where
  here : skeletons_of (world_with b w) p ≡ skeletons_of w p ++ batch_skeletons b
  flight_still : (g : Flights) → flights_of (world_with b w) g p ≡ flights_of w g p
  others : (q : ℕ) → q ≢ p → skeletons_of (world_with b w) q ≡ skeletons_of w q
  others_still : (g : Flights) (q : ℕ) → flights_of (world_with b w) g q ≡ flights_of w g q
  flight_here : (g : Flights) → flights_of w (flights_with b g) p ≡ batch_skeletons b
  flight_else : (q : ℕ) → q ≢ p → flights_of w (flights_with b f) q ≡ flights_of w f q

coord_adds : (w : World) (f : Flights) (e : CoordEntry) → Adds (in_coord e) w f 0
coord_adds w f e =
    record {
      here = map_append coord_skeleton w.coord (e ∷ []);
      flight_still = λ g. refl;
      others = λ q d. elsewhere q (λ b. if b then coord_skeletons (w.coord ++ e ∷ []) else part_skeletons w q) (λ b. if b then log_of w else part_skeletons w q) d refl;
      others_still = λ g q. refl;
      flight_here = λ g. refl;
      flight_else = λ q d. elsewhere q (λ b. if b then coord_skeletons (e ∷ []) else flight_skeletons w f q) (λ b. if b then coord_skeletons f.coord else flight_skeletons w f q) d refl;
    }
  where
    elsewhere : (q : ℕ) (g h : Bool → List CoreEntry) → q ≢ 0 → g false ≡ h false → g (q == 0) ≡ h (q == 0)
    elsewhere q g h d e = ap g (ne_eqb q 0 d) ∙ e ∙ sym (ap h (ne_eqb q 0 d))

topic_adds : (w : World) (f : Flights) (p : ℕ) (es : List TopicEntry) → (p == 0) ≡ false → is_sub (name_of w.names p) ≡ false → Adds (in_topic p es) w f p
topic_adds w f p es z k =
    record {
      here = skel_topic (world_with (in_topic p es) w) p z k ∙ ap topic_skeletons (at_here w.topics p es) ∙ map_append topic_skeleton (list_at w.topics p) es ∙ ap (λ l. l ++ topic_skeletons es) (sym (skel_topic w p z k));
      flight_still = λ g. refl;
      others = λ q d. ap (λ l. if q == 0 then log_of w else (if is_sub (name_of w.names q) then ack_skeletons (list_at w.subs q) else topic_skeletons l)) (at_else w.topics p es q d);
      others_still = λ g q. refl;
      flight_here = λ g. flight_topic w (flights_with (in_topic p es) g) p z k ∙ ap topic_skeletons (set_here g.topics p es);
      flight_else = λ q d. ap (λ l. if q == 0 then coord_skeletons f.coord else (if is_sub (name_of w.names q) then ack_skeletons (f.subs q) else topic_skeletons l)) (set_else f.topics p es q d);
    }

sub_adds : (w : World) (f : Flights) (p : ℕ) (e : AckEntry) → (p == 0) ≡ false → is_sub (name_of w.names p) ≡ true → Adds (in_sub p e) w f p
sub_adds w f p e z k =
    record {
      here = skel_sub (world_with (in_sub p e) w) p z k ∙ ap ack_skeletons (at_here w.subs p (e ∷ [])) ∙ map_append ack_skeleton (list_at w.subs p) (e ∷ []) ∙ ap (λ l. l ++ ack_skeleton e ∷ []) (sym (skel_sub w p z k));
      flight_still = λ g. refl;
      others = λ q d. ap (λ l. if q == 0 then log_of w else (if is_sub (name_of w.names q) then ack_skeletons l else topic_skeletons (list_at w.topics q))) (at_else w.subs p (e ∷ []) q d);
      others_still = λ g q. refl;
      flight_here = λ g. flight_sub w (flights_with (in_sub p e) g) p z k ∙ ap ack_skeletons (set_here g.subs p (e ∷ []));
      flight_else = λ q d. ap (λ l. if q == 0 then coord_skeletons f.coord else (if is_sub (name_of w.names q) then ack_skeletons l else topic_skeletons (f.topics q))) (set_else f.subs p (e ∷ []) q d);
    }

-- ---- Where a batch is for.

record Place (b : EntryBatch) (t : TableState) (p : ℕ) : Type 0 where
  high : p ≤ length t.world.names
  resting : flights_of t.world t.flights p ≡ []
  adds : Adds b t.world t.flights p

not_zero : (p : ℕ) → 1 ≤ p → (p == 0) ≡ false
not_zero p low = ne_eqb p 0 (λ e. omega (arith, low, e))

by_kind : (w : World) (p : ℕ) → 1 ≤ p → p ≤ length w.names → (b : Bool) → is_sub (name_of w.names p) ≡ b → (has (topic_parts w.names) p ≡ true → b ≡ false) × (has (sub_parts w.names) p ≡ true → b ≡ true)
by_kind w p low high true e = ((λ h. absurd (not_both_kinds 1 p w.names h (named_part is_sub w.names p low high e))), (λ h. refl))
by_kind w p low high false e = ((λ h. refl), (λ h. absurd (not_both_kinds 1 p w.names (named_part is_topic w.names p low high (ap not e)) h)))

topic_place : (t : TableState) (p : ℕ) (es : List TopicEntry) → LawfulState t → has (topic_parts t.world.names) p ≡ true → is_unrebuilt t p ≡ false → Place (in_topic p es) t p
topic_place t p es l h f =
    let r = numbered_within is_topic 1 p t.world.names h in
    let high : p ≤ length t.world.names = omega (arith, r.1) in
    let k : is_sub (name_of t.world.names p) ≡ false = (by_kind t.world p r.0 high (is_sub (name_of t.world.names p)) refl).0 h in
    let z : (p == 0) ≡ false = not_zero p r.0 in
    record {
      high = high;
      resting = flight_topic t.world t.flights p z k ∙ ap topic_skeletons (l.unrebuilt.topics p f);
      adds = topic_adds t.world t.flights p es z k;
    }

sub_place : (t : TableState) (p : ℕ) (e : AckEntry) → LawfulState t → has (sub_parts t.world.names) p ≡ true → is_unrebuilt t p ≡ false → Place (in_sub p e) t p
sub_place t p e l h f =
    let r = numbered_within is_sub 1 p t.world.names h in
    let high : p ≤ length t.world.names = omega (arith, r.1) in
    let k : is_sub (name_of t.world.names p) ≡ true = (by_kind t.world p r.0 high (is_sub (name_of t.world.names p)) refl).1 h in
    let z : (p == 0) ≡ false = not_zero p r.0 in
    record {
      high = high;
      resting = flight_sub t.world t.flights p z k ∙ ap ack_skeletons (l.unrebuilt.subs p f);
      adds = sub_adds t.world t.flights p e z k;
    }

coord_place : (t : TableState) (e : CoordEntry) → LawfulState t → is_unrebuilt t 0 ≡ false → Place (in_coord e) t 0
coord_place t e l f = record { high = omega arith; resting = ap coord_skeletons (l.unrebuilt.coord f); adds = coord_adds t.world t.flights e }

-- ---- The batch may start.

module _ (t : TableState) (s : CoreState) (b : EntryBatch) (p : ℕ) (l : LawfulState t) (a : IsAllowed b t.world) (k : Mirrors (length t.world.names) t s) (place : Place b t p) where
  settled_is : (q : ℕ) → q ≤ length t.world.names → settled_of s q ≡ skeletons_of t.world q
  settled_is q le = ap (λ (r : CoreRow). r.settled) (k.row q le)

  row_rests : row_of s p ≡ row_by (skeletons_of t.world p) [] false
  row_rests = k.row p place.high ∙ ap (λ f. row_by (skeletons_of t.world p) f false) place.resting

  log_is : settled_of s 0 ≡ log_of t.world
  log_is = settled_is 0 (omega arith)

  part_starts : (p == 0) ≡ false → length (flights_with b no_flights).coord ≤ 1 → 1 ≤ length (batch_skeletons b) → length (batch_skeletons b) ≤ 64 → may_start (length t.world.names) s p (batch_skeletons b) ≡ true
  part_starts z one some few =
      part_may_start (length t.world.names) s p (batch_skeletons b) (within_rows (length t.world.names) t s p k place.high) (ap (λ (r : CoreRow). r.flight) row_rests)
      (subst (IsAlone (length t.world.names) p) (sym whole) (st.alone p)) z some few
      (λ x h. subst (λ c. in_parts c x p ≡ true) (sym log_is) (st.registered p x (subst (λ m. has_inside m x ≡ true) whole h)))
      (λ x d h. subst (λ c. decision_of c x ≡ Some d) (sym log_is) (st.decided p x d (subst (λ m. marker_of m x ≡ Some d) whole h)))
    where
      st : StandTogether (length t.world.names) (skeletons_of t.world) (flights_of t.world (flights_with b no_flights))
      st = world_stands t.world (flights_with b no_flights) l.lawful a one

      whole : settled_of s p ++ batch_skeletons b ≡ skeletons_of t.world p ++ flights_of t.world (flights_with b no_flights) p
      whole = ap (λ m. m ++ batch_skeletons b) (settled_is p place.high) ∙ ap (λ m. skeletons_of t.world p ++ m) (sym (place.adds.flight_here no_flights))

-- the coordinator's
coord_starts : (t : TableState) (s : CoreState) (e : CoordEntry) → LawfulState t → IsAllowed (in_coord e) t.world → Mirrors (length t.world.names) t s → Place (in_coord e) t 0
    → may_start (length t.world.names) s 0 (coord_skeleton e ∷ []) ≡ true
coord_starts t s e l a k place =
    log_may_start n s (coord_skeleton e) (within_rows n t s 0 k (omega arith)) (ap (λ (r : CoreRow). r.flight) (row_rests t s (in_coord e) 0 l a k place))
    (subst (λ c. CoordLawful n (c ++ coord_skeleton e ∷ [])) (sym log) a.coord)
    (λ x d q h i.
    let there : in_parts (log_of t.world) x q ≡ true = subst (λ c. in_parts c x q ≡ true) log i in
    let range : (1 ≤ q) × (q ≤ n) = parts_within n (log_of t.world) x q l.lawful.coord there in
    let here : settled_of s q ≡ part_skeletons t.world q =
    settled_is t s (in_coord e) 0 l a k place q range.1 ∙ ap (λ b. if b then log_of t.world else part_skeletons t.world q) (not_zero q range.0) in
    subst (λ m. marker_of m x ≡ Some d) (sym here) (a.closed x d q h (parts_stay (log_of t.world) (coord_skeleton e ∷ []) x q there)))
  where
    n : ℕ
    n = length t.world.names

    log : settled_of s 0 ≡ log_of t.world
    log = log_is t s (in_coord e) 0 l a k place

-- a batch without entries moves nothing
moves_or_none : (n : ℕ) (s : CoreState) (p : ℕ) (es fs : List CoreEntry) (more : List CoreEntry → CoreRow) → row_of s p ≡ more [] → (1 ≤ length fs → Moves n s p (more fs)) → Moves n s p (more fs)
moves_or_none n s p es [] more e m = moves_none n s p (more []) e
moves_or_none n s p es (f ∷ fs) more e m = m (omega arith)

-- ---- Batches that settle, and batches whose append fails.

module _ (t : TableState) (b : EntryBatch) (p : ℕ) (place : Place b t p)
    (starts : (s : CoreState) → Mirrors (length t.world.names) t s → 1 ≤ length (batch_skeletons b) → may_start (length t.world.names) s p (batch_skeletons b) ≡ true) where
  rests : (s : CoreState) → Mirrors (length t.world.names) t s → row_of s p ≡ row_by (skeletons_of t.world p) [] false
  rests s k = k.row p place.high ∙ ap (λ f. row_by (skeletons_of t.world p) f false) place.resting

  settled_reaches : AreSteps (length t.world.names) t (with_batch b t)
  settled_reaches s k =
      let n = length t.world.names in
      let es = skeletons_of t.world p in
      let fs = batch_skeletons b in
      moved_reaches n t (with_batch b t) s p (row_by (es ++ fs) [] false) k
      (moves_or_none n s p es fs (λ l. row_by (es ++ l) [] false) (rests s k ∙ ap (λ l. row_by l [] false) (sym (append-nil es)))
      (λ some. write_moves n s p es fs (within_rows n t s p k place.high) (rests s k) (starts s k some)))
      (ap (λ l. row_by l [] false) (sym place.adds.here)
      ∙ ap (λ l. row_by (skeletons_of (world_with b t.world) p) l false) (sym (place.adds.flight_still t.flights ∙ place.resting)))
      (λ q d le. ap (λ l. row_by l (flights_of t.world t.flights q) false) (sym (place.adds.others q d))
      ∙ ap (λ l. row_by (skeletons_of (world_with b t.world) q) l false) (sym (place.adds.others_still t.flights q)))

  failed_reaches : AreSteps (length t.world.names) t (with_failed_batch b p t)
  failed_reaches s k =
      let n = length t.world.names in
      let es = skeletons_of t.world p in
      let fs = batch_skeletons b in
      moved_reaches n t (with_failed_batch b p t) s p (row_by es fs false) k
      (moves_or_none n s p es fs (λ l. row_by es l false) (rests s k)
      (λ some. start_moves n s p es fs (within_rows n t s p k place.high) (rests s k) (starts s k some)))
      (ap (λ l. row_by es l false) (sym (place.adds.flight_here t.flights)))
      (λ q d le. ap (λ l. row_by (skeletons_of t.world q) l false) (sym (place.adds.flight_else q d)))

record Both (b : EntryBatch) (t : TableState) : Type 0 where
  settles : AreSteps (length t.world.names) t (with_batch b t)
  fails : (p : ℕ) → batch_part b ≡ Some p → AreSteps (length t.world.names) t (with_failed_batch b p t)

some_is : (p q : ℕ) → Some p ≡ Some q → p ≡ q
some_is p q h = cc h

none_is_some : (q : ℕ) → None ≡ Some q → ⊥
none_is_some q h = cc h

both_of : (b : EntryBatch) (t : TableState) (p : ℕ) → batch_part b ≡ Some p → Place b t p
    → ((s : CoreState) → Mirrors (length t.world.names) t s → 1 ≤ length (batch_skeletons b) → may_start (length t.world.names) s p (batch_skeletons b) ≡ true) → Both b t
both_of b t p e place starts =
    record {
      settles = settled_reaches t b p place starts;
      fails = λ q h. subst (λ j. AreSteps (length t.world.names) t (with_failed_batch b j t)) (some_is p q (sym e ∙ h)) (failed_reaches t b p place starts);
    }

batch_steps : (b : EntryBatch) (t : TableState) → LawfulState t → IsFor b t.world.names → IsPartRebuilt b t → IsAllowed b t.world → FitsOneBatch b → Both b t
batch_steps nothing t l for whole a short = record { settles = same_reaches (length t.world.names) t (with_batch nothing t) (λ q le. refl); fails = λ q h. absurd (none_is_some q h) }
batch_steps (in_coord e) t l for whole a short =
    both_of (in_coord e) t 0 refl (coord_place t e l whole) (λ s k some. coord_starts t s e l a k (coord_place t e l whole))
batch_steps (in_topic p es) t l for whole a short =
    let place = topic_place t p es l for whole in
    both_of (in_topic p es) t p refl place (λ s k some. part_starts t s (in_topic p es) p l a k place (not_zero p (numbered_within is_topic 1 p t.world.names for).0) (omega arith) some short)
batch_steps (in_sub p e) t l for whole a short =
    let place = sub_place t p e l for whole in
    both_of (in_sub p e) t p refl place (λ s k some. part_starts t s (in_sub p e) p l a k place (not_zero p (numbered_within is_sub 1 p t.world.names for).0) (omega arith) some short)

pub settled_steps : (b : EntryBatch) (t : TableState) → LawfulState t → IsFor b t.world.names → IsPartRebuilt b t → IsAllowed b t.world → FitsOneBatch b → AreSteps (length t.world.names) t (with_batch b t)
settled_steps b t l for whole a short = (batch_steps b t l for whole a short).settles

pub failed_steps : (b : EntryBatch) (p : ℕ) (t : TableState) → batch_part b ≡ Some p → LawfulState t → IsFor b t.world.names → IsPartRebuilt b t → IsAllowed b t.world → FitsOneBatch b → AreSteps (length t.world.names) t (with_failed_batch b p t)
failed_steps b p t e l for whole a short = (batch_steps b t l for whole a short).fails p e

-- ---- Resolved.

without_here : (w : World) (f : Flights) (p : ℕ) → flights_of w (flights_without p f) p ≡ []
without_here w f p = by_test (p == 0) (is_sub (name_of w.names p))
  where
    by_test : (b c : Bool) → (if b then coord_skeletons (if b then [] else f.coord) else (if c then ack_skeletons (set_at f.subs p [] p) else topic_skeletons (set_at f.topics p [] p))) ≡ []
    by_test true c = refl
    by_test false true = ap ack_skeletons (set_here f.subs p [])
    by_test false false = ap topic_skeletons (set_here f.topics p [])

without_else : (w : World) (f : Flights) (p q : ℕ) → q ≢ p → flights_of w (flights_without p f) q ≡ flights_of w f q
without_else w f p q d =
    by_test (q == 0) (p == 0) refl refl
    ∙ ap (λ l. if q == 0 then coord_skeletons f.coord else (if is_sub (name_of w.names q) then ack_skeletons l else topic_skeletons (set_at f.topics p [] q))) (set_else f.subs p [] q d)
    ∙ ap (λ l. if q == 0 then coord_skeletons f.coord else (if is_sub (name_of w.names q) then ack_skeletons (f.subs q) else topic_skeletons l)) (set_else f.topics p [] q d)
  where
    rest : List CoreEntry
    rest = if is_sub (name_of w.names q) then ack_skeletons (set_at f.subs p [] q) else topic_skeletons (set_at f.topics p [] q)

    by_test : (b c : Bool) → (q == 0) ≡ b → (p == 0) ≡ c → (if b then coord_skeletons (if c then [] else f.coord) else rest) ≡ (if b then coord_skeletons f.coord else rest)
    by_test true true e h = absurd (d (eqb-true q 0 e ∙ sym (eqb-true p 0 h)))
    by_test true false e h = refl
    by_test false c e h = refl

module _ (p : ℕ) (t : TableState) (l : LawfulState t) where
  abbrev S : ℕ → List CoreEntry
  S = skeletons_of t.world

  abbrev F : ℕ → List CoreEntry
  F = flights_of t.world t.flights

  resolved_here : (stays : Bool) → p ≤ length t.world.names → row_by (if stays then S p ++ F p else S p) [] false ≡ row_in (resolved p stays t) p
  resolved_here true le =
      ap (λ m. row_by m [] false) (sym (kept_skeletons t.world t.flights (λ q. q == p) l.shaped p le ∙ ap (λ b. if b then S p ++ F p else S p) (eq-eqb p p refl)))
      ∙ ap (λ m. row_by (skeletons_of (with_kept t.world t.flights (λ q. q == p)) p) m false) (sym (without_here t.world t.flights p))
  resolved_here false le = ap (λ m. row_by (S p) m false) (sym (without_here t.world t.flights p))

  resolved_else : (stays : Bool) (q : ℕ) → q ≢ p → q ≤ length t.world.names → row_in t q ≡ row_in (resolved p stays t) q
  resolved_else true q d le =
      ap (λ m. row_by m (F q) false) (sym (kept_skeletons t.world t.flights (λ j. j == p) l.shaped q le ∙ ap (λ b. if b then S q ++ F q else S q) (ne_eqb q p d)))
      ∙ ap (λ m. row_by (skeletons_of (with_kept t.world t.flights (λ j. j == p)) q) m false) (sym (without_else t.world t.flights p q d))
  resolved_else false q d le = ap (λ m. row_by (S q) m false) (sym (without_else t.world t.flights p q d))

  pub resolved_steps : (stays : Bool) → AreSteps (length t.world.names) t (resolved p stays t)
  resolved_steps stays s k = by_test (nat_le p (length t.world.names)) refl
    where
      by_test : (b : Bool) → nat_le p (length t.world.names) ≡ b → Reaches (length t.world.names) s (resolved p stays t)
      by_test true e =
          let le : p ≤ length t.world.names = leb-true p (length t.world.names) e in
          moved_reaches (length t.world.names) t (resolved p stays t) s p (row_by (if stays then S p ++ F p else S p) [] false) k
          (stop_moves (length t.world.names) s p (S p) (F p) stays (within_rows (length t.world.names) t s p k le) (k.row p le)) (resolved_here stays le) (resolved_else stays)
      by_test false e =
          let past : length t.world.names < p = leb-false p (length t.world.names) e in
          same_reaches (length t.world.names) t (resolved p stays t) (λ q le. resolved_else stays q (λ z. omega (arith, past, le, z)) le) s k

pub rebuilt_steps : (p : ℕ) (stays : Bool) (t : TableState) → LawfulState t → AreSteps (length t.world.names) t (rebuilt p stays t)
rebuilt_steps p stays t s =
    both_reach (length t.world.names) t (resolved p stays t) (rebuilt p stays t) (resolved_steps p t s stays) (same_steps (length t.world.names) (resolved p stays t) (rebuilt p stays t) refl refl)
