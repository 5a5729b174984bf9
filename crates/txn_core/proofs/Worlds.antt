-- The skeletons of a lawful world with allowed flights stand.
use Rattle.std.proofs.Common.{◌≡◌, inl, inr, ℕ, ◌≤◌, ◌==◌, eqb-true, eq-eqb, arith, Bool, true, false, not, if◌then◌else◌, List, [], ◌∷◌, ◌++◌, length, Some, refl, sym, ap, ◌∙◌, subst}
use native.Mathlib.Decide.{ℕ_discrete}
use Rattle.std.specs.Prelude.{map}
use Rattle.std.proofs.lemmas.List.{length-map}
use Rattle.txn_base.specs.declared.txn.TxnId.{TxnId}
use Rattle.txn_base.specs.declared.txn.Decision.{Decision}
use Rattle.txn_base.specs.declared.core_entry.CoreEntry.{CoreEntry}
use Rattle.txn_base.specs.declared.core_entry.CoreEntry.TheVariants as core
use Rattle.txn_base.specs.declared.entry.TopicEntry.{TopicEntry}
use Rattle.txn_base.specs.declared.entry.AckEntry.{AckEntry}
use Rattle.txn_base.specs.Names.{is_sub}
use Rattle.txn_model.specs.declared.world.World.{World}
use Rattle.txn_model.specs.Words.{has, all_follow, list_at}
use Rattle.txn_model.specs.Skeletons.{coord_skeleton, topic_skeleton, ack_skeleton, coord_skeletons, topic_skeletons, ack_skeletons}
use Rattle.txn_model.specs.Names.{name_of}
use Rattle.txn_model.specs.Coord.{coord_allows, decision_of, says_closing, closing_of, in_parts}
use Rattle.txn_model.specs.Topic.{marks, marker_of, part_allows, TopicLawful}
use Rattle.txn_model.specs.Ack.{places_allow, ack_allows, AckLawful}
use Rattle.txn_model.specs.World.{is_inside, has_inside, log_of, part_skeletons, Lawful, Flights, no_flights, followed, with_kept}
use Rattle.txn_model.specs.Allowed.{log_with, flight_skeletons, AllowedFlights}
use Rattle.txn_model.specs.Shape.{Shaped, is_topic, parts_with}
use Rattle.txn_model.proofs.Laws.Tests.{no_true, and_l, and_r, and_both, or_cases}
use Rattle.txn_model.proofs.Laws.Lists.{map_append, at_followed}
use Rattle.txn_model.proofs.Laws.Logs.{parts_stay}
use Rattle.txn_model.proofs.Laws.Names.{named_part}
use Rattle.txn_model.proofs.Laws.Worlds.{no_flights_allowed}
use Rattle.txn_core.specs.Together.{AreLawful}
use Rattle.txn_core.specs.Worlds.{skeletons_of, flights_of}
use Rattle.txn_core.specs.Kept.{StandTogether}
use Rattle.txn_core.proofs.Alone.{none_some, some_cases, inside_cases, first_cases}
use Rattle.txn_core.proofs.Asked.{parts_within}
use Rattle.txn_core.proofs.Stops.{stop_lawful}

-- ---- Single lists.

-- a lawful ledger of a subscription is lawful as skeletons
acks_follow : (before es : List AckEntry) → all_follow ack_allows before es ≡ true → all_follow part_allows (ack_skeletons before) (ack_skeletons es) ≡ true
acks_follow before [] h = refl
acks_follow before (e ∷ es) h =
    and_both (part_allows (ack_skeletons before) (ack_skeleton e)) (all_follow part_allows (ack_skeletons before ++ ack_skeleton e ∷ []) (ack_skeletons es))
    (and_r (places_allow before e) (part_allows (ack_skeletons before) (ack_skeleton e)) (and_l (ack_allows before e) (all_follow ack_allows (before ++ e ∷ []) es) h))
    (subst (λ b. all_follow part_allows b (ack_skeletons es) ≡ true) (map_append ack_skeleton before (e ∷ [])) (acks_follow (before ++ e ∷ []) es (and_r (ack_allows before e) (all_follow ack_allows (before ++ e ∷ []) es) h)))

-- the coordinator's list has no message and no marker
no_inside_one : (n : ℕ) (before : List CoreEntry) (e : CoreEntry) (x : TxnId) → coord_allows n before e ≡ true → is_inside x e ≡ true → ⊥
no_inside_one n before (core.Inside y) x a h = no_true a
no_inside_one n before core.Plain x a h = no_true h
no_inside_one n before (core.Marker y d) x a h = no_true h
no_inside_one n before (core.New y) x a h = no_true h
no_inside_one n before (core.AddPart y q) x a h = no_true h
no_inside_one n before (core.Committing y) x a h = no_true h
no_inside_one n before (core.Committed y) x a h = no_true h
no_inside_one n before (core.Aborting y) x a h = no_true h
no_inside_one n before (core.Aborted y) x a h = no_true h

no_marker_one : (n : ℕ) (before : List CoreEntry) (e : CoreEntry) (x : TxnId) (d : Decision) → coord_allows n before e ≡ true → marks x e ≡ Some d → ⊥
no_marker_one n before (core.Marker y w) x d a h = no_true a
no_marker_one n before core.Plain x d a h = none_some h
no_marker_one n before (core.Inside y) x d a h = none_some h
no_marker_one n before (core.New y) x d a h = none_some h
no_marker_one n before (core.AddPart y q) x d a h = none_some h
no_marker_one n before (core.Committing y) x d a h = none_some h
no_marker_one n before (core.Committed y) x d a h = none_some h
no_marker_one n before (core.Aborting y) x d a h = none_some h
no_marker_one n before (core.Aborted y) x d a h = none_some h

no_inside : (n : ℕ) (before c : List CoreEntry) (x : TxnId) → all_follow (coord_allows n) before c ≡ true → has_inside c x ≡ true → ⊥
no_inside n before [] x a h = no_true h
no_inside n before (e ∷ c) x a h =
    elim (or_cases (is_inside x e) (has_inside c x) h) [
      | inl now ↦ no_inside_one n before e x (and_l (coord_allows n before e) (all_follow (coord_allows n) (before ++ e ∷ []) c) a) now
      | inr later ↦ no_inside n (before ++ e ∷ []) c x (and_r (coord_allows n before e) (all_follow (coord_allows n) (before ++ e ∷ []) c) a) later
    ]

no_marker : (n : ℕ) (before c : List CoreEntry) (x : TxnId) (d : Decision) → all_follow (coord_allows n) before c ≡ true → marker_of c x ≡ Some d → ⊥
no_marker n before [] x d a h = none_some h
no_marker n before (e ∷ c) x d a h =
    elim (some_cases (marks x e) (marker_of c x) d h) [
      | inl now ↦ no_marker_one n before e x d (and_l (coord_allows n before e) (all_follow (coord_allows n) (before ++ e ∷ []) c) a) now
      | inr later ↦ no_marker n (before ++ e ∷ []) c x d (and_r (coord_allows n before e) (all_follow (coord_allows n) (before ++ e ∷ []) c) a) later
    ]

-- ---- A world with flights.

-- a part's list with its flight, of either kind
kinds_alone : (b : Bool) (es fs : List TopicEntry) (a held : List AckEntry) → TopicLawful (es ++ fs) → AckLawful (a ++ held)
    → all_follow part_allows [] ((if b then ack_skeletons a else topic_skeletons es) ++ (if b then ack_skeletons held else topic_skeletons fs)) ≡ true
kinds_alone true es fs a held t k = subst (λ l. all_follow part_allows [] l ≡ true) (map_append ack_skeleton a held) (acks_follow [] (a ++ held) k)
kinds_alone false es fs a held t k = subst (λ l. all_follow part_allows [] l ≡ true) (map_append topic_skeleton es fs) t

module _ (w : World) (f : Flights) (l : Lawful w) (a : AllowedFlights w f) where
  alone_with : (p : ℕ) (b : Bool)
      → all_follow (λ c e. if b then coord_allows (length w.names) c e else part_allows c e) [] ((if b then log_of w else part_skeletons w p) ++ (if b then coord_skeletons f.coord else flight_skeletons w f p)) ≡ true
  alone_with p true = a.coord
  alone_with p false = kinds_alone (is_sub (name_of w.names p)) (list_at w.topics p) (f.topics p) (list_at w.subs p) (f.subs p) (a.topics p) (a.subs p)

  registered_with : (p : ℕ) (x : TxnId) (b : Bool) → has_inside ((if b then log_of w else part_skeletons w p) ++ (if b then coord_skeletons f.coord else flight_skeletons w f p)) x ≡ true → in_parts (log_of w) x p ≡ true
  registered_with p x true h = absurd (no_inside (length w.names) [] (log_with w f) x a.coord h)
  registered_with p x false h =
      elim (inside_cases (part_skeletons w p) (flight_skeletons w f p) x h) [
        | inl there ↦ l.registered p x there
        | inr new ↦ a.registered p x new
      ]

  decided_with : (p : ℕ) (x : TxnId) (d : Decision) (b : Bool) → marker_of ((if b then log_of w else part_skeletons w p) ++ (if b then coord_skeletons f.coord else flight_skeletons w f p)) x ≡ Some d → decision_of (log_of w) x ≡ Some d
  decided_with p x d true h = absurd (no_marker (length w.names) [] (log_with w f) x d a.coord h)
  decided_with p x d false h =
      elim (first_cases (marks x) (part_skeletons w p) (flight_skeletons w f p) d h) [
        | inl there ↦ l.decided p x d there
        | inr new ↦ a.decided p x d new
      ]

  -- no part of a transaction is the coordinator
  at_part : (p : ℕ) (x : TxnId) → in_parts (log_of w) x p ≡ true → (p == 0) ≡ true → ⊥
  at_part p x i e =
      let range : (1 ≤ p) × (p ≤ length w.names) = parts_within (length w.names) (log_of w) x p l.coord i in
      let zero_is : p ≡ 0 = eqb-true p 0 e in
      omega (arith, range.0, zero_is)

  closed_with : (x : TxnId) (d : Decision) (p : ℕ) → closing_of (log_with w f) x ≡ Some d → in_parts (log_of w) x p ≡ true → marker_of (part_skeletons w p) x ≡ Some d
  closed_with x d p h i =
      elim (first_cases (says_closing x) (log_of w) (coord_skeletons f.coord) d h) [
        | inl before ↦ l.closed x d p before i
        | inr now ↦ a.closed x d p now (parts_stay (log_of w) (coord_skeletons f.coord) x p i)
      ]

  closed_there : (x : TxnId) (d : Decision) (p : ℕ) (b : Bool) → (p == 0) ≡ b → closing_of (log_with w f) x ≡ Some d → in_parts (log_of w) x p ≡ true → marker_of (if b then log_of w else part_skeletons w p) x ≡ Some d
  closed_there x d p true e h i = absurd (at_part p x i e)
  closed_there x d p false e h i = closed_with x d p h i

  pub world_stands : length f.coord ≤ 1 → StandTogether (length w.names) (skeletons_of w) (flights_of w f)
  world_stands one =
      record {
        alone = λ p. alone_with p (p == 0);
        one = subst (λ k. k ≤ 1) (sym (length-map f.coord coord_skeleton)) one;
        registered = λ p x. registered_with p x (p == 0);
        decided = λ p x d. decided_with p x d (p == 0);
        closed = λ x d p. closed_there x d p (p == 0) refl;
      }

pub world_lawful : (w : World) → Lawful w → AreLawful (length w.names) (skeletons_of w)
world_lawful w l = stop_lawful (length w.names) (skeletons_of w) (flights_of w no_flights) (world_stands w no_flights l (no_flights_allowed w l) (omega arith)) (λ p. false)

-- ---- What a stop keeps of a world.

mapped_if : {A : Type 0} (f : A → CoreEntry) (b : Bool) (xs ys : List A) → map f (if b then xs ++ ys else xs) ≡ (if b then map f xs ++ map f ys else map f xs)
mapped_if f true xs ys = map_append f xs ys
mapped_if f false xs ys = refl

module _ (w : World) (f : Flights) (stays : ℕ → Bool) (shape : Shaped w) where
  kept_part : (p : ℕ) (b : Bool) → is_sub (name_of w.names p) ≡ b → 1 ≤ p → p ≤ length w.names
      → (if b then ack_skeletons (list_at (followed stays f.subs w.subs) p) else topic_skeletons (list_at (followed stays f.topics w.topics) p))
      ≡ (if stays p then (if b then ack_skeletons (list_at w.subs p) else topic_skeletons (list_at w.topics p)) ++ (if b then ack_skeletons (f.subs p) else topic_skeletons (f.topics p))
      else (if b then ack_skeletons (list_at w.subs p) else topic_skeletons (list_at w.topics p)))
  kept_part p true e low high =
      let here : has (parts_with w.subs) p ≡ true = subst (λ ps. has ps p ≡ true) (sym shape.subs) (named_part is_sub w.names p low high e) in
      ap ack_skeletons (at_followed stays f.subs w.subs p here) ∙ mapped_if ack_skeleton (stays p) (list_at w.subs p) (f.subs p)
  kept_part p false e low high =
      let here : has (parts_with w.topics) p ≡ true = subst (λ ps. has ps p ≡ true) (sym shape.topics) (named_part is_topic w.names p low high (ap not e)) in
      ap topic_skeletons (at_followed stays f.topics w.topics p here) ∙ mapped_if topic_skeleton (stays p) (list_at w.topics p) (f.topics p)

  pub kept_skeletons : (p : ℕ) → p ≤ length w.names → skeletons_of (with_kept w f stays) p ≡ (if stays p then skeletons_of w p ++ flights_of w f p else skeletons_of w p)
  kept_skeletons p high = go (p == 0) refl
    where
      past : (p == 0) ≡ false → 1 ≤ p
      past e = elim (ℕ_discrete p 0) [
        | yes z ↦ absurd (no_true (sym e ∙ eq-eqb p 0 z))
        | no m ↦ omega (arith, m)
      ]

      go : (b : Bool) → (p == 0) ≡ b
          → (if b then coord_skeletons (if stays 0 then w.coord ++ f.coord else w.coord) else part_skeletons (with_kept w f stays) p)
          ≡ (if stays p then (if b then log_of w else part_skeletons w p) ++ (if b then coord_skeletons f.coord else flight_skeletons w f p) else (if b then log_of w else part_skeletons w p))
      go true e = ap (λ k. coord_skeletons (if stays k then w.coord ++ f.coord else w.coord)) (sym (eqb-true p 0 e)) ∙ mapped_if coord_skeleton (stays p) w.coord f.coord
      go false e = kept_part p (is_sub (name_of w.names p)) refl (past e) high
