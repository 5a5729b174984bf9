-- When a batch is allowed over a lawful world.
use Rattle.std.proofs.Common.{◌≡◌, ℕ, ◌==◌, eqb-true, Bool, true, false, ◌&&◌, if◌then◌else◌, List, [], ◌∷◌, ◌++◌, length, Some, refl, sym, ap, ◌∙◌, subst}
use Rattle.std.proofs.lemmas.List.{append-nil}
use Rattle.txn_model.proofs.Words.{TxnId, Decision, CoordEntry, TopicEntry, AckEntry, is_sub, World, all_follow, list_at, coord_skeleton, topic_skeleton, topic_skeletons, ack_skeleton, ack_skeletons, name_of, coord_allows, decision_of, closing_of, in_parts, part_allows, TopicLawful, marker_of, ack_allows, AckLawful, log_of, part_skeletons, has_inside, Lawful, no_flights, nothing, in_coord, in_topic, in_sub, AllowedFlights, IsAllowed}
use Rattle.txn_model.proofs.Bools.{no_true, and_both, none_some}
use Rattle.txn_model.proofs.Prefixes.{map_append, all_follow-append}
use Rattle.txn_model.proofs.LawfulGrowth.{lawful_more}
use Rattle.txn_model.proofs.FlightsOver.{no_flights_allowed}

pub nothing_allowed : (w : World) → Lawful w → IsAllowed nothing w
nothing_allowed w l = no_flights_allowed w l

-- for the coordinator: an entry that its log allows, and where it closes x by d, each part of x has the marker d
pub coord_allowed : (w : World) (e : CoordEntry) → Lawful w → coord_allows (length w.names) (log_of w) (coord_skeleton e) ≡ true
    → ((x : TxnId) (d : Decision) (p : ℕ) → closing_of (coord_skeleton e ∷ []) x ≡ Some d → in_parts (log_of w ++ coord_skeleton e ∷ []) x p ≡ true → marker_of (part_skeletons w p) x ≡ Some d)
    → IsAllowed (in_coord e) w
coord_allowed w e l may closed =
    let none : AllowedFlights w no_flights = no_flights_allowed w l in
    record {
      coord = lawful_more (length w.names) (log_of w) (coord_skeleton e) l.coord may;
      topics = none.topics;
      subs = none.subs;
      registered = none.registered;
      decided = none.decided;
      closed = closed;
    }

-- for a topic
pub topic_allowed : (w : World) (p : ℕ) (es : List TopicEntry) → Lawful w → all_follow part_allows (topic_skeletons (list_at w.topics p)) (topic_skeletons es) ≡ true
    → ((x : TxnId) → has_inside (topic_skeletons es) x ≡ true → in_parts (log_of w) x p ≡ true)
    → ((x : TxnId) (d : Decision) → marker_of (topic_skeletons es) x ≡ Some d → decision_of (log_of w) x ≡ Some d)
    → IsAllowed (in_topic p es) w
topic_allowed w p es l follow inside marked =
    let none : AllowedFlights w no_flights = no_flights_allowed w l in
    record {
      coord = none.coord;
      topics = λ q. list_lawful q (q == p) refl;
      subs = none.subs;
      registered = λ q x. inside_at q x (is_sub (name_of w.names q)) (q == p) refl;
      decided = λ q x d. marked_at q x d (is_sub (name_of w.names q)) (q == p) refl;
      closed = λ x d q h. absurd (none_some h);
    }
  where
    list_lawful : (q : ℕ) (b : Bool) → (q == p) ≡ b → TopicLawful (list_at w.topics q ++ (if b then es else []))
    list_lawful q true e =
        ap (all_follow part_allows []) (map_append topic_skeleton (list_at w.topics q) es)
        ∙ all_follow-append part_allows [] (topic_skeletons (list_at w.topics q)) (topic_skeletons es)
        ∙ and_both (all_follow part_allows [] (topic_skeletons (list_at w.topics q))) (all_follow part_allows (topic_skeletons (list_at w.topics q)) (topic_skeletons es)) (l.topics q)
        (subst (λ k. all_follow part_allows (topic_skeletons (list_at w.topics k)) (topic_skeletons es) ≡ true) (sym (eqb-true q p e)) follow)
    list_lawful q false e = subst TopicLawful (sym (append-nil (list_at w.topics q))) (l.topics q)

    inside_at : (q : ℕ) (x : TxnId) (sub b : Bool) → (q == p) ≡ b → has_inside (if sub then ack_skeletons [] else topic_skeletons (if b then es else [])) x ≡ true → in_parts (log_of w) x q ≡ true
    inside_at q x true b e h = absurd (no_true h)
    inside_at q x false true e h = subst (λ k. in_parts (log_of w) x k ≡ true) (sym (eqb-true q p e)) (inside x h)
    inside_at q x false false e h = absurd (no_true h)

    marked_at : (q : ℕ) (x : TxnId) (d : Decision) (sub b : Bool) → (q == p) ≡ b → marker_of (if sub then ack_skeletons [] else topic_skeletons (if b then es else [])) x ≡ Some d → decision_of (log_of w) x ≡ Some d
    marked_at q x d true b e h = absurd (none_some h)
    marked_at q x d false true e h = marked x d h
    marked_at q x d false false e h = absurd (none_some h)

-- for a subscription
pub sub_allowed : (w : World) (p : ℕ) (e : AckEntry) → Lawful w → ack_allows (list_at w.subs p) e ≡ true
    → ((x : TxnId) → has_inside (ack_skeleton e ∷ []) x ≡ true → in_parts (log_of w) x p ≡ true)
    → ((x : TxnId) (d : Decision) → marker_of (ack_skeleton e ∷ []) x ≡ Some d → decision_of (log_of w) x ≡ Some d)
    → IsAllowed (in_sub p e) w
sub_allowed w p e l may inside marked =
    let none : AllowedFlights w no_flights = no_flights_allowed w l in
    record {
      coord = none.coord;
      topics = none.topics;
      subs = λ q. list_lawful q (q == p) refl;
      registered = λ q x. inside_at q x (is_sub (name_of w.names q)) (q == p) refl;
      decided = λ q x d. marked_at q x d (is_sub (name_of w.names q)) (q == p) refl;
      closed = λ x d q h. absurd (none_some h);
    }
  where
    list_lawful : (q : ℕ) (b : Bool) → (q == p) ≡ b → AckLawful (list_at w.subs q ++ (if b then e ∷ [] else []))
    list_lawful q true h =
        all_follow-append ack_allows [] (list_at w.subs q) (e ∷ [])
        ∙ and_both (all_follow ack_allows [] (list_at w.subs q)) (ack_allows (list_at w.subs q) e && true) (l.subs q)
        (and_both (ack_allows (list_at w.subs q) e) true (subst (λ k. ack_allows (list_at w.subs k) e ≡ true) (sym (eqb-true q p h)) may) refl)
    list_lawful q false h = subst AckLawful (sym (append-nil (list_at w.subs q))) (l.subs q)

    inside_at : (q : ℕ) (x : TxnId) (sub b : Bool) → (q == p) ≡ b → has_inside (if sub then ack_skeletons (if b then e ∷ [] else []) else topic_skeletons []) x ≡ true → in_parts (log_of w) x q ≡ true
    inside_at q x false b i h = absurd (no_true h)
    inside_at q x true true i h = subst (λ k. in_parts (log_of w) x k ≡ true) (sym (eqb-true q p i)) (inside x h)
    inside_at q x true false i h = absurd (no_true h)

    marked_at : (q : ℕ) (x : TxnId) (d : Decision) (sub b : Bool) → (q == p) ≡ b → marker_of (if sub then ack_skeletons (if b then e ∷ [] else []) else topic_skeletons []) x ≡ Some d → decision_of (log_of w) x ≡ Some d
    marked_at q x d false b i h = absurd (none_some h)
    marked_at q x d true true i h = marked x d h
    marked_at q x d true false i h = absurd (none_some h)
