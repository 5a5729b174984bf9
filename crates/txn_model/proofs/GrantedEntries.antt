-- The entries of the coordinator and of a topic that the table adds are allowed after those that stand.
use Rattle.std.proofs.Common.{◌≡◌, ℕ, eq-eqb, ◌==◌, true, List, [], ◌∷◌, ◌++◌, Some, None, refl, sym, ap, ◌∙◌, subst}
use Rattle.txn_model.proofs.Words.{map, is_none, TxnId, Decision, Commit, Abort, CoreEntry, all_follow, topic_skeletons, closing_skeleton, has_new, status_of, closing_of, decision_of, count_new, deciding, is_deciding, coord_allows, CoordLawful, txn, marks, marker_of, part_allows, message_entry}
use Rattle.txn_base.specs.declared.core_entry.CoreEntry.TheVariants as core
use Rattle.txn_model.proofs.Bools.{and_both}
use Rattle.txn_model.proofs.Prefixes.{or_none, first_of-append}
use Rattle.txn_model.proofs.Statuses.{Agrees, last_by, status_by, lawful_agrees}

-- the next number is begun
pub new_allowed : (n : ℕ) (c : List CoreEntry) → coord_allows n c (core.New (txn (count_new c))) ≡ true
new_allowed n c = and_both (0 == 0) (count_new c == count_new c) refl (eq-eqb (count_new c) (count_new c) refl)

deciding_is : (d : Decision) → is_deciding d (Some (deciding d)) ≡ true
deciding_is Commit = refl
deciding_is Abort = refl

closes_deciding : (n : ℕ) (c : List CoreEntry) (x : TxnId) (d : Decision) → coord_allows n c (closing_skeleton x d) ≡ is_deciding d (status_of c x)
closes_deciding n c x Commit = refl
closes_deciding n c x Abort = refl

-- what is decided and not closed is closed by its decision
pub close_allowed : (n : ℕ) (c : List CoreEntry) (x : TxnId) (d : Decision) → CoordLawful n c → closing_of c x ≡ None → decision_of c x ≡ Some d → coord_allows n c (closing_skeleton x d) ≡ true
close_allowed n c x d h k e =
    subst (λ b. b ≡ true) (sym (closes_deciding n c x d)) (
    let a : Agrees c x = lawful_agrees n c x h in
    subst (λ l. is_deciding d (status_by (has_new c x) l) ≡ true) (sym (a.said ∙ (ap (λ u. last_by u (decision_of c x)) k ∙ ap (λ u. last_by None u) e)))
    (subst (λ b. is_deciding d (status_by b (Some (deciding d))) ≡ true) (sym (a.when_decided d e)) (deciding_is d)))

still_unmarked : (es : List CoreEntry) (x y : TxnId) → marker_of (es ++ core.Inside y ∷ []) x ≡ marker_of es x
still_unmarked es x y = first_of-append (marks x) es (core.Inside y ∷ []) ∙ or_none (marker_of es x)

-- messages of a transaction without a marker are allowed, one after another
pub messages_allowed : (es : List CoreEntry) (x : TxnId) (bodies : List (List ℕ)) → marker_of es x ≡ None → all_follow part_allows es (topic_skeletons (map (message_entry (Some x)) bodies)) ≡ true
messages_allowed es x [] h = refl
messages_allowed es x (body ∷ bodies) h =
    and_both (is_none (marker_of es x)) (all_follow part_allows (es ++ core.Inside x ∷ []) (topic_skeletons (map (message_entry (Some x)) bodies)))
    (ap is_none h) (messages_allowed (es ++ core.Inside x ∷ []) x bodies (still_unmarked es x x ∙ h))

-- plain messages are
pub plain_allowed : (es : List CoreEntry) (bodies : List (List ℕ)) → all_follow part_allows es (topic_skeletons (map (message_entry None) bodies)) ≡ true
plain_allowed es [] = refl
plain_allowed es (body ∷ bodies) = plain_allowed (es ++ core.Plain ∷ []) bodies
