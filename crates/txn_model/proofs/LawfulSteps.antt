-- The table's changes keep its state lawful.
use Rattle.std.proofs.Common.{◌≡◌, ◌⊎◌, inl, inr, ℕ, ◌==◌, eq-eqb, eqb-true, Bool, true, false, if◌then◌else◌, List, [], ◌∷◌, ◌++◌, Some, None, refl, sym, ap, ◌∙◌, subst}
use Rattle.txn_model.proofs.Words.{Option, CoordEntry, World, list_at, append_at, set_at, Lawful, Flights, no_flights, followed, with_kept, TableState, EntryBatch, nothing, in_coord, in_topic, in_sub, batch_part, world_with, flights_with, with_batch, with_failed_batch, flights_without, resolved, rebuilt, is_unrebuilt, Shaped, IsFor, IsAllowed, IsPartRebuilt, AllowedFlights, NoFlightWhereRebuilt, LawfulState}
use Rattle.txn_model.proofs.Bools.{no_true}
use Rattle.txn_model.proofs.Lists.{at_append}
use Rattle.txn_model.proofs.Shapes.{shaped_with, shaped_kept}
use Rattle.txn_model.proofs.Chosen.{SomeKept, kept_choice, lawful_choice, lawful_kept}
use Rattle.txn_model.proofs.FlightsOver.{Rests, Resting, flights_over, Either, Mixed, mixed_allowed, batch_choice}

-- ---- What changes neither the world, nor the flights, nor which parts are rebuilt.

pub same_state : (t t' : TableState) → t'.world ≡ t.world → t'.flights ≡ t.flights → t'.unrebuilt ≡ t.unrebuilt → LawfulState t → LawfulState t'
same_state t t' w f n s =
    record {
      shaped = subst Shaped (sym w) s.shaped;
      lawful = subst Lawful (sym w) s.lawful;
      flights = subst (λ u. AllowedFlights u t'.flights) (sym w) (subst (AllowedFlights t.world) (sym f) s.flights);
      unrebuilt = record {
        coord = λ h. ap (λ g. g.coord) f ∙ s.unrebuilt.coord (sym (ap (λ g. g 0) n) ∙ h);
        topics = λ p h. ap (λ g. g.topics p) f ∙ s.unrebuilt.topics p (sym (ap (λ g. g p) n) ∙ h);
        subs = λ p h. ap (λ g. g.subs p) f ∙ s.unrebuilt.subs p (sym (ap (λ g. g p) n) ∙ h);
      };
    }

-- ---- A batch is settled.

rests_append : {E : Type 0} (ls : List (ℕ × List E)) (p : ℕ) (es : List E) (flights : ℕ → List E) (q : ℕ) → (q ≡ p → flights q ≡ []) → Rests (list_at ls q) (list_at (append_at ls p es) q) (flights q) (flights q)
rests_append ls p es flights q none = by_test (p == q) refl
  where
    by_test : (b : Bool) → (p == q) ≡ b → Rests (list_at ls q) (list_at (append_at ls p es) q) (flights q) (flights q)
    by_test true e = inr (none (sym (eqb-true p q e)))
    by_test false e = inl (at_append ls p es q ∙ ap (λ b. if b then list_at ls p ++ es else list_at ls q) e, refl)

settled_rests : (b : EntryBatch) (t : TableState) → IsPartRebuilt b t → NoFlightWhereRebuilt t → Resting t.world (world_with b t.world) t.flights t.flights
settled_rests nothing t whole f = record { coord = inl (refl, refl); topics = λ p. inl (refl, refl); subs = λ p. inl (refl, refl) }
settled_rests (in_coord e) t whole f = record { coord = inr (f.coord whole); topics = λ p. inl (refl, refl); subs = λ p. inl (refl, refl) }
settled_rests (in_topic p es) t whole f =
    record { coord = inl (refl, refl); topics = λ q. rests_append t.world.topics p es t.flights.topics q (λ e. f.topics q (ap (is_unrebuilt t) e ∙ whole)); subs = λ q. inl (refl, refl) }
settled_rests (in_sub p e) t whole f =
    record { coord = inl (refl, refl); topics = λ q. inl (refl, refl); subs = λ q. rests_append t.world.subs p (e ∷ []) t.flights.subs q (λ h. f.subs q (ap (is_unrebuilt t) h ∙ whole)) }

pub settled_state : (b : EntryBatch) (t : TableState) → LawfulState t → IsFor b t.world.names → IsPartRebuilt b t → IsAllowed b t.world → LawfulState (with_batch b t)
settled_state b t s fits whole allowed =
    let choice : SomeKept t.world (world_with b t.world) (flights_with b no_flights) = batch_choice b t.world in
    let lawful : Lawful (world_with b t.world) = lawful_choice t.world (world_with b t.world) (flights_with b no_flights) choice s.lawful allowed in
    record {
      shaped = shaped_with b t.world s.shaped fits;
      lawful = lawful;
      flights = flights_over t.world (world_with b t.world) (flights_with b no_flights) t.flights t.flights choice (settled_rests b t whole s.unrebuilt) lawful s.flights;
      unrebuilt = record { coord = s.unrebuilt.coord; topics = s.unrebuilt.topics; subs = s.unrebuilt.subs };
    }

-- ---- The append of a batch fails.

set_either : {E : Type 0} (flights : ℕ → List E) (p : ℕ) (es : List E) (q : ℕ) → Either (set_at (λ k. []) p es q) (flights q) (set_at flights p es q)
set_either flights p es q = by_test (q == p)
  where
    by_test : (b : Bool) → Either (if b then es else []) (flights q) (if b then es else flights q)
    by_test true = inl refl
    by_test false = inr refl

batch_mixed : (b : EntryBatch) (f : Flights) → Mixed (flights_with b no_flights) f (flights_with b f)
batch_mixed nothing f = record { coord = inr refl; topics = λ p. inr refl; subs = λ p. inr refl }
batch_mixed (in_coord e) f = record { coord = inl refl; topics = λ p. inr refl; subs = λ p. inr refl }
batch_mixed (in_topic p es) f = record { coord = inr refl; topics = set_either f.topics p es; subs = λ q. inr refl }
batch_mixed (in_sub p e) f = record { coord = inr refl; topics = λ q. inr refl; subs = set_either f.subs p (e ∷ []) }

-- a part that is rebuilt by now isn't p, and was rebuilt before
not_set : (unrebuilt : ℕ → Bool) (p q : ℕ) → set_at unrebuilt p true q ≡ false → ((q == p) ≡ false) × (unrebuilt q ≡ false)
not_set unrebuilt p q h = by_test (q == p) refl h
  where
    by_test : (b : Bool) → (q == p) ≡ b → (if b then true else unrebuilt q) ≡ false → ((q == p) ≡ false) × (unrebuilt q ≡ false)
    by_test true e h = absurd (no_true (sym h))
    by_test false e h = (e, h)

abbrev pub part_or : ℕ → Option ℕ → ℕ
part_or d None = d
part_or d (Some n) = n

some_is : {p q : ℕ} → Some p ≡ Some q → p ≡ q
some_is e = ap (part_or 0) e

none_is : {p : ℕ} → None ≡ Some p → ⊥
none_is e = cc

failed_flights : (b : EntryBatch) (p : ℕ) (t : TableState) → batch_part b ≡ Some p → NoFlightWhereRebuilt t → NoFlightWhereRebuilt (with_failed_batch b p t)
failed_flights nothing p t is f = absurd (none_is is)
failed_flights (in_coord e) p t is f =
    record {
      coord = λ h. absurd (no_true (sym (not_set t.unrebuilt p 0 h).0 ∙ eq-eqb 0 p (some_is is)));
      topics = λ q h. f.topics q (not_set t.unrebuilt p q h).1;
      subs = λ q h. f.subs q (not_set t.unrebuilt p q h).1;
    }
failed_flights (in_topic r es) p t is f =
    record {
      coord = λ h. f.coord (not_set t.unrebuilt p 0 h).1;
      topics = λ q h. let n = not_set t.unrebuilt p q h in
          ap (λ b. if b then es else t.flights.topics q) (ap (λ k. q == k) (some_is is) ∙ n.0) ∙ f.topics q n.1;
      subs = λ q h. f.subs q (not_set t.unrebuilt p q h).1;
    }
failed_flights (in_sub r e) p t is f =
    record {
      coord = λ h. f.coord (not_set t.unrebuilt p 0 h).1;
      topics = λ q h. f.topics q (not_set t.unrebuilt p q h).1;
      subs = λ q h. let n = not_set t.unrebuilt p q h in
          ap (λ b. if b then e ∷ [] else t.flights.subs q) (ap (λ k. q == k) (some_is is) ∙ n.0) ∙ f.subs q n.1;
    }

pub failed_state : (b : EntryBatch) (p : ℕ) (t : TableState) → batch_part b ≡ Some p → LawfulState t → IsAllowed b t.world → LawfulState (with_failed_batch b p t)
failed_state b p t is s allowed =
    record {
      shaped = s.shaped;
      lawful = s.lawful;
      flights = mixed_allowed t.world (flights_with b no_flights) t.flights (flights_with b t.flights) (batch_mixed b t.flights) allowed s.flights;
      unrebuilt = failed_flights b p t is s.unrebuilt;
    }

-- ---- A flight is kept or dropped.

without_rests : {E : Type 0} (b here : Bool) (ls ls' : List E) (flight : List E) → (b ≡ false → ls' ≡ ls) → Rests ls ls' flight (if b then [] else flight)
without_rests true here ls ls' flight same = inr refl
without_rests false here ls ls' flight same = inl (same refl, refl)

followed_other : {E : Type 0} (flights : ℕ → List E) (ls : List (ℕ × List E)) (p q : ℕ) → (q == p) ≡ false → list_at (followed (λ k. k == p) flights ls) q ≡ list_at ls q
followed_other flights [] p q h = refl
followed_other flights (l ∷ ls) p q h = by_test (l.0 == q) refl (followed_other flights ls p q h)
  where
    by_test : (b : Bool) → (l.0 == q) ≡ b → list_at (followed (λ k. k == p) flights ls) q ≡ list_at ls q
        → (if b then (if l.0 == p then l.1 ++ flights l.0 else l.1) else list_at (followed (λ k. k == p) flights ls) q) ≡ (if b then l.1 else list_at ls q)
    by_test true e rest = ap (λ c. if c then l.1 ++ flights l.0 else l.1) (ap (λ k. k == p) (eqb-true l.0 q e) ∙ h)
    by_test false e rest = rest

coord_other : (b : Bool) (cs flight : List CoordEntry) → b ≡ false → (if b then cs ++ flight else cs) ≡ cs
coord_other true cs flight h = absurd (no_true (sym h))
coord_other false cs flight h = refl

turn : (p q : ℕ) (b : Bool) → (p == q) ≡ b → (q == p) ≡ b
turn p q true e = eq-eqb q p (sym (eqb-true p q e))
turn p q false e = by_test (q == p) refl
  where
    by_test : (c : Bool) → (q == p) ≡ c → c ≡ false
    by_test true h = absurd (no_true (sym e ∙ eq-eqb p q (sym (eqb-true q p h))))
    by_test false h = refl

coord_rests : (b c : Bool) (cs flight : List CoordEntry) → c ≡ b → Rests cs (if c then cs ++ flight else cs) flight (if b then [] else flight)
coord_rests true c cs flight e = inr refl
coord_rests false c cs flight e = inl (coord_other c cs flight e, refl)

kept_rests : (p : ℕ) (w : World) (f : Flights) → Resting w (with_kept w f (λ q. q == p)) f (flights_without p f)
kept_rests p w f =
    record {
      coord = coord_rests (p == 0) (0 == p) w.coord f.coord (turn p 0 (p == 0) refl);
      topics = λ q. without_rests (q == p) true (list_at w.topics q) (list_at (followed (λ k. k == p) f.topics w.topics) q) (f.topics q) (followed_other f.topics w.topics p q);
      subs = λ q. without_rests (q == p) true (list_at w.subs q) (list_at (followed (λ k. k == p) f.subs w.subs) q) (f.subs q) (followed_other f.subs w.subs p q);
    }

dropped_rests : (p : ℕ) (w : World) (f : Flights) → Resting w w f (flights_without p f)
dropped_rests p w f =
    record {
      coord = without_rests (p == 0) true w.coord w.coord f.coord (λ e. refl);
      topics = λ q. without_rests (q == p) true (list_at w.topics q) (list_at w.topics q) (f.topics q) (λ e. refl);
      subs = λ q. without_rests (q == p) true (list_at w.subs q) (list_at w.subs q) (f.subs q) (λ e. refl);
    }

none_or : {E : Type 0} (b : Bool) (flight : List E) → flight ≡ [] → (if b then [] else flight) ≡ []
none_or true flight e = refl
none_or false flight e = e

-- the rest of the flights, where of the part p nothing is in flight
without_flight : (p : ℕ) (t : TableState) → NoFlightWhereRebuilt t → (u : TableState) → u.flights ≡ flights_without p t.flights → ((q : ℕ) → is_unrebuilt u q ≡ false → ((q == p) ≡ true) ⊎ (is_unrebuilt t q ≡ false)) → NoFlightWhereRebuilt u
without_flight p t f u e same =
    record {
      coord = λ h. ap (λ g. g.coord) e ∙ elim (same 0 h) [ inl k ↦ ap (λ b. if b then [] else t.flights.coord) (turn 0 p true k) | inr k ↦ none_or (p == 0) t.flights.coord (f.coord k) ];
      topics = λ q h. ap (λ g. g.topics q) e ∙ elim (same q h) [ inl k ↦ ap (λ b. if b then [] else t.flights.topics q) k | inr k ↦ none_or (q == p) (t.flights.topics q) (f.topics q k) ];
      subs = λ q h. ap (λ g. g.subs q) e ∙ elim (same q h) [ inl k ↦ ap (λ b. if b then [] else t.flights.subs q) k | inr k ↦ none_or (q == p) (t.flights.subs q) (f.subs q k) ];
    }

resolved_shaped : (p : ℕ) (stays : Bool) (t : TableState) → LawfulState t → Shaped (resolved p stays t).world
resolved_shaped p true t s = shaped_kept t.world t.flights (λ q. q == p) s.shaped
resolved_shaped p false t s = s.shaped

resolved_lawful : (p : ℕ) (stays : Bool) (t : TableState) → LawfulState t → Lawful (resolved p stays t).world
resolved_lawful p true t s = lawful_kept t.world t.flights (λ q. q == p) s.lawful s.flights
resolved_lawful p false t s = s.lawful

resolved_flights : (p : ℕ) (stays : Bool) (t : TableState) → LawfulState t → AllowedFlights (resolved p stays t).world (flights_without p t.flights)
resolved_flights p true t s =
    flights_over t.world (with_kept t.world t.flights (λ q. q == p)) t.flights t.flights (flights_without p t.flights) (kept_choice t.world t.flights (λ q. q == p)) (kept_rests p t.world t.flights)
    (lawful_kept t.world t.flights (λ q. q == p) s.lawful s.flights) s.flights
resolved_flights p false t s =
    flights_over t.world t.world no_flights t.flights (flights_without p t.flights) (batch_choice nothing t.world) (dropped_rests p t.world t.flights) s.lawful s.flights

pub resolved_state : (p : ℕ) (stays : Bool) (t : TableState) → LawfulState t → LawfulState (resolved p stays t)
resolved_state p stays t s =
    record {
      shaped = resolved_shaped p stays t s;
      lawful = resolved_lawful p stays t s;
      flights = resolved_flights p stays t s;
      unrebuilt = without_flight p t s.unrebuilt (resolved p stays t) refl (λ q h. inr h);
    }

pub rebuilt_state : (p : ℕ) (stays : Bool) (t : TableState) → LawfulState t → LawfulState (rebuilt p stays t)
rebuilt_state p stays t s =
    record {
      shaped = resolved_shaped p stays t s;
      lawful = resolved_lawful p stays t s;
      flights = resolved_flights p stays t s;
      unrebuilt = without_flight p t s.unrebuilt (rebuilt p stays t) refl (λ q h. by_test (q == p) refl h);
    }
  where
    by_test : {q : ℕ} (b : Bool) → (q == p) ≡ b → (if b then false else t.unrebuilt q) ≡ false → ((q == p) ≡ true) ⊎ (t.unrebuilt q ≡ false)
    by_test true e h = inl e
    by_test false e h = inr h
