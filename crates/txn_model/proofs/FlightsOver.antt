-- Which flights are allowed over a world that has grown.
use Rattle.std.proofs.Common.{◌≡◌, ◌⊎◌, inl, inr, ℕ, ◌==◌, eq-eqb, eqb-true, Bool, true, false, if◌then◌else◌, List, [], ◌∷◌, ◌++◌, length, Some, refl, sym, ap, ◌∙◌, subst}
use Rattle.std.proofs.lemmas.List.{append-nil}
use Rattle.txn_model.proofs.Words.{TxnId, Decision, CoreEntry, TopicEntry, AckEntry, is_sub, World, list_at, append_at, set_at, coord_skeletons, topic_skeletons, ack_skeletons, name_of, CoordLawful, decision_of, closing_of, in_parts, TopicLawful, marker_of, AckLawful, log_of, part_skeletons, has_inside, Lawful, Flights, no_flights, EntryBatch, nothing, in_coord, in_topic, in_sub, world_with, flights_with, log_with, flight_skeletons, AllowedFlights}
use Rattle.txn_model.proofs.Bools.{no_true, none_some}
use Rattle.txn_model.proofs.Lists.{at_append}
use Rattle.txn_model.proofs.LawfulGrowth.{parts_stay, decision_stays, marker_stays}
use Rattle.txn_model.proofs.Chosen.{Chosen, SomeKept, more, part_more, log_more}

-- ---- No flights.

pub no_flights_allowed : (w : World) → Lawful w → AllowedFlights w no_flights
no_flights_allowed w l =
    record {
      coord = subst (CoordLawful (length w.names)) (sym (append-nil (log_of w))) l.coord;
      topics = λ p. subst TopicLawful (sym (append-nil (list_at w.topics p))) (l.topics p);
      subs = λ p. subst AckLawful (sym (append-nil (list_at w.subs p))) (l.subs p);
      registered = λ p x. nothing_inside (is_sub (name_of w.names p)) x (in_parts (log_of w) x p ≡ true);
      decided = λ p x d. nothing_marked (is_sub (name_of w.names p)) x d (decision_of (log_of w) x ≡ Some d);
      closed = λ x d p h. absurd (none_some h);
    }
  where
    nothing_inside : (b : Bool) (x : TxnId) (P : Type 0) → has_inside (if b then ack_skeletons [] else topic_skeletons []) x ≡ true → P
    nothing_inside true x P h = absurd (no_true h)
    nothing_inside false x P h = absurd (no_true h)

    nothing_marked : (b : Bool) (x : TxnId) (d : Decision) (P : Type 0) → marker_of (if b then ack_skeletons [] else topic_skeletons []) x ≡ Some d → P
    nothing_marked true x d P h = absurd (none_some h)
    nothing_marked false x d P h = absurd (none_some h)

-- ---- A grown world.

-- a part's list and flight are as they were, or it has no flight now
abbrev pub Rests : {E : Type 0} → List E → List E → List E → List E → Type 0
Rests es es' flight flight' = ((es' ≡ es) × (flight' ≡ flight)) ⊎ (flight' ≡ [])

rests_lawful : {E : Type 0} (P : List E → Type 0) (es es' flight flight' : List E) → Rests es es' flight flight' → P es' → P (es ++ flight) → P (es' ++ flight')
rests_lawful P es es' flight flight' (inl e) now before = subst (λ l. P (l ++ flight')) (sym e.0) (subst (λ l. P (es ++ l)) (sym e.1) before)
rests_lawful P es es' flight flight' (inr e) now before = subst (λ l. P (es' ++ l)) (sym e) (subst P (sym (append-nil es')) now)

rests_part : (P : List CoreEntry → Type 0) (b : Bool) (es es' flight flight' : List TopicEntry) (a a' held held' : List AckEntry) → Rests es es' flight flight' → Rests a a' held held'
    → P [] → P (if b then ack_skeletons held else topic_skeletons flight) → P (if b then ack_skeletons held' else topic_skeletons flight')
rests_part P true es es' flight flight' a a' held held' r (inl e) none all = subst (λ l. P (ack_skeletons l)) (sym e.1) all
rests_part P true es es' flight flight' a a' held held' r (inr e) none all = subst (λ l. P (ack_skeletons l)) (sym e) none
rests_part P false es es' flight flight' a a' held held' (inl e) s none all = subst (λ l. P (topic_skeletons l)) (sym e.1) all
rests_part P false es es' flight flight' a a' held held' (inr e) s none all = subst (λ l. P (topic_skeletons l)) (sym e) none

-- the flights of the parts that rest
pub record Resting (w w' : World) (f f' : Flights) : Type 0 where
  pub coord : Rests w.coord w'.coord f.coord f'.coord
  pub topics : (p : ℕ) → Rests (list_at w.topics p) (list_at w'.topics p) (f.topics p) (f'.topics p)
  pub subs : (p : ℕ) → Rests (list_at w.subs p) (list_at w'.subs p) (f.subs p) (f'.subs p)

module _ (w w' : World) (g f f' : Flights) (choice : SomeKept w w' g) (rest : Resting w w' f f') (l : Lawful w') (a : AllowedFlights w f) where
  log_is : log_of w' ≡ log_of w ++ coord_skeletons (more w.coord w'.coord g.coord choice.coord)
  log_is = log_more w.coord w'.coord g.coord choice.coord

  parts_still : (x : TxnId) (p : ℕ) → in_parts (log_of w) x p ≡ true → in_parts (log_of w') x p ≡ true
  parts_still x p h = subst (λ c. in_parts c x p ≡ true) (sym log_is) (parts_stay (log_of w) (coord_skeletons (more w.coord w'.coord g.coord choice.coord)) x p h)

  decision_still : (x : TxnId) (d : Decision) → decision_of (log_of w) x ≡ Some d → decision_of (log_of w') x ≡ Some d
  decision_still x d h = subst (λ c. decision_of c x ≡ Some d) (sym log_is) (decision_stays (log_of w) (coord_skeletons (more w.coord w'.coord g.coord choice.coord)) x d h)

  marker_still : (x : TxnId) (d : Decision) (p : ℕ) → marker_of (part_skeletons w p) x ≡ Some d → marker_of (part_skeletons w' p) x ≡ Some d
  marker_still x d p h =
      subst (λ s. marker_of s x ≡ Some d)
      (sym (ap (λ names. if is_sub (name_of names p) then ack_skeletons (list_at w'.subs p) else topic_skeletons (list_at w'.topics p)) choice.names
      ∙ part_more (is_sub (name_of w.names p)) (list_at w.topics p) (list_at w'.topics p) (g.topics p) (list_at w.subs p) (list_at w'.subs p) (g.subs p) (choice.topics p) (choice.subs p)))
      (marker_stays (part_skeletons w p) _ x d h)

  at_part : (P : List CoreEntry → Type 0) (p : ℕ) → P [] → P (flight_skeletons w f p) → P (flight_skeletons w' f' p)
  at_part P p none all =
      subst (λ names. P (if is_sub (name_of names p) then ack_skeletons (f'.subs p) else topic_skeletons (f'.topics p))) (sym choice.names)
      (rests_part P (is_sub (name_of w.names p)) (list_at w.topics p) (list_at w'.topics p) (f.topics p) (f'.topics p) (list_at w.subs p) (list_at w'.subs p) (f.subs p) (f'.subs p) (rest.topics p) (rest.subs p) none all)

  log_lawful : Rests w.coord w'.coord f.coord f'.coord → CoordLawful (length w'.names) (log_with w' f')
  log_lawful (inl e) =
      subst (λ names. CoordLawful (length names) (log_with w' f')) (sym choice.names)
      (subst (λ c. CoordLawful (length w.names) (coord_skeletons c ++ coord_skeletons f'.coord)) (sym e.0) (subst (λ c. CoordLawful (length w.names) (log_of w ++ coord_skeletons c)) (sym e.1) a.coord))
  log_lawful (inr e) =
      subst (λ c. CoordLawful (length w'.names) (log_of w' ++ coord_skeletons c)) (sym e) (subst (CoordLawful (length w'.names)) (sym (append-nil (log_of w'))) l.coord)

  closed_still : (x : TxnId) (d : Decision) (p : ℕ) → Rests w.coord w'.coord f.coord f'.coord → closing_of (coord_skeletons f'.coord) x ≡ Some d → in_parts (log_with w' f') x p ≡ true → marker_of (part_skeletons w' p) x ≡ Some d
  closed_still x d p (inl e) h i =
      marker_still x d p
      (a.closed x d p (subst (λ c. closing_of (coord_skeletons c) x ≡ Some d) e.1 h)
      (subst (λ c. in_parts (coord_skeletons c ++ coord_skeletons f.coord) x p ≡ true) e.0 (subst (λ c. in_parts (log_of w' ++ coord_skeletons c) x p ≡ true) e.1 i)))
  closed_still x d p (inr e) h i = absurd (none_some (subst (λ c. closing_of (coord_skeletons c) x ≡ Some d) e h))

  pub flights_over : AllowedFlights w' f'
  flights_over =
      record {
        coord = log_lawful rest.coord;
        topics = λ p. rests_lawful TopicLawful (list_at w.topics p) (list_at w'.topics p) (f.topics p) (f'.topics p) (rest.topics p) (l.topics p) (a.topics p);
        subs = λ p. rests_lawful AckLawful (list_at w.subs p) (list_at w'.subs p) (f.subs p) (f'.subs p) (rest.subs p) (l.subs p) (a.subs p);
        registered = λ p x. at_part (λ s. has_inside s x ≡ true → in_parts (log_of w') x p ≡ true) p (λ h. absurd (no_true h)) (λ h. parts_still x p (a.registered p x h));
        decided = λ p x d. at_part (λ s. marker_of s x ≡ Some d → decision_of (log_of w') x ≡ Some d) p (λ h. absurd (none_some h)) (λ h. decision_still x d (a.decided p x d h));
        closed = λ x d p. closed_still x d p rest.coord;
      }

-- ---- Flights of two kinds over one world.

abbrev pub Either : {E : Type 0} → List E → List E → List E → Type 0
Either one other h = (h ≡ one) ⊎ (h ≡ other)

either_is : {E : Type 0} (P : List E → Type 0) (one other h : List E) → Either one other h → P one → P other → P h
either_is P one other h (inl e) p q = subst P (sym e) p
either_is P one other h (inr e) p q = subst P (sym e) q

either_part : (P : List CoreEntry → Type 0) (b : Bool) (one other h : List TopicEntry) (a c k : List AckEntry) → Either one other h → Either a c k
    → P (if b then ack_skeletons a else topic_skeletons one) → P (if b then ack_skeletons c else topic_skeletons other) → P (if b then ack_skeletons k else topic_skeletons h)
either_part P true one other h a c k e f p q = either_is (λ l. P (ack_skeletons l)) a c k f p q
either_part P false one other h a c k e f p q = either_is (λ l. P (topic_skeletons l)) one other h e p q

pub record Mixed (f g h : Flights) : Type 0 where
  pub coord : Either f.coord g.coord h.coord
  pub topics : (p : ℕ) → Either (f.topics p) (g.topics p) (h.topics p)
  pub subs : (p : ℕ) → Either (f.subs p) (g.subs p) (h.subs p)

pub mixed_allowed : (w : World) (f g h : Flights) → Mixed f g h → AllowedFlights w f → AllowedFlights w g → AllowedFlights w h
mixed_allowed w f g h m a b =
    record {
      coord = either_is (λ l. CoordLawful (length w.names) (log_of w ++ coord_skeletons l)) f.coord g.coord h.coord m.coord a.coord b.coord;
      topics = λ p. either_is (λ l. TopicLawful (list_at w.topics p ++ l)) (f.topics p) (g.topics p) (h.topics p) (m.topics p) (a.topics p) (b.topics p);
      subs = λ p. either_is (λ l. AckLawful (list_at w.subs p ++ l)) (f.subs p) (g.subs p) (h.subs p) (m.subs p) (a.subs p) (b.subs p);
      registered = λ p x. at_part (λ s. has_inside s x ≡ true → in_parts (log_of w) x p ≡ true) p (a.registered p x) (b.registered p x);
      decided = λ p x d. at_part (λ s. marker_of s x ≡ Some d → decision_of (log_of w) x ≡ Some d) p (a.decided p x d) (b.decided p x d);
      closed = λ x d p. either_is (λ l. closing_of (coord_skeletons l) x ≡ Some d → in_parts (log_of w ++ coord_skeletons l) x p ≡ true → marker_of (part_skeletons w p) x ≡ Some d)
          f.coord g.coord h.coord m.coord (a.closed x d p) (b.closed x d p);
    }
  where
    at_part : (P : List CoreEntry → Type 0) (p : ℕ) → P (flight_skeletons w f p) → P (flight_skeletons w g p) → P (flight_skeletons w h p)
    at_part P p = either_part P (is_sub (name_of w.names p)) (f.topics p) (g.topics p) (h.topics p) (f.subs p) (g.subs p) (h.subs p) (m.topics p) (m.subs p)

-- ---- A batch.

turned : (p q : ℕ) → (p == q) ≡ true → (q == p) ≡ true
turned p q h = eq-eqb q p (sym (eqb-true p q h))

chosen_append : {E : Type 0} (ls : List (ℕ × List E)) (p : ℕ) (es : List E) (q : ℕ) → Chosen (list_at ls q) (list_at (append_at ls p es) q) (set_at (λ k. []) p es q)
chosen_append ls p es q = subst (λ l. Chosen (list_at ls q) l (set_at (λ k. []) p es q)) (sym (at_append ls p es q)) (by_test (p == q) refl)
  where
    by_test : (b : Bool) → (p == q) ≡ b → Chosen (list_at ls q) (if b then list_at ls p ++ es else list_at ls q) (set_at (λ k. []) p es q)
    by_test true e = inl (ap (λ k. list_at ls k ++ es) (eqb-true p q e) ∙ ap (λ l. list_at ls q ++ l) (sym (ap (λ b. if b then es else []) (turned p q e))))
    by_test false e = inr refl

pub batch_choice : (b : EntryBatch) (w : World) → SomeKept w (world_with b w) (flights_with b no_flights)
batch_choice nothing w = record { names = refl; coord = inr refl; topics = λ p. inr refl; subs = λ p. inr refl }
batch_choice (in_coord e) w = record { names = refl; coord = inl refl; topics = λ p. inr refl; subs = λ p. inr refl }
batch_choice (in_topic q es) w = record { names = refl; coord = inr refl; topics = chosen_append w.topics q es; subs = λ p. inr refl }
batch_choice (in_sub q e) w = record { names = refl; coord = inr refl; topics = λ p. inr refl; subs = chosen_append w.subs q (e ∷ []) }
