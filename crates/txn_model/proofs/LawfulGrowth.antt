-- A lawful world stays lawful where allowed entries are added.
use Rattle.std.proofs.Common.{◌≡◌, ◌⊎◌, inl, inr, ℕ, ◌==◌, true, ◌&&◌, List, [], ◌∷◌, ◌++◌, length, Some, None, refl, sym, ap, ◌∙◌, subst}
use Rattle.std.proofs.lemmas.List.Folds.{list_any-append}
use Rattle.txn_model.proofs.Words.{Option, option_or, TxnId, Decision, CoreEntry, World, all_follow, list_at, same_txn, NamesLawful, is_add, says_decision, says_closing, has_new, status_of, decision_of, closing_of, in_parts, is_open, coord_allows, CoordLawful, marks, marker_of, TopicLawful, AckLawful, is_inside, has_inside, log_of, part_skeletons, Lawful}
use Rattle.txn_base.specs.declared.core_entry.CoreEntry.TheVariants as core
use Rattle.txn_model.proofs.Bools.{no_true, and_l, and_r, and_both, or_cases, or_l, none_some}
use Rattle.txn_model.proofs.Prefixes.{first_of-append, first_stays, all_follow-append}
use Rattle.txn_model.proofs.Statuses.{Agrees, status_by, open_means, txn_equal, lawful_agrees}

-- ---- What stays of a log.

pub parts_stay : (c more : List CoreEntry) (x : TxnId) (p : ℕ) → in_parts c x p ≡ true → in_parts (c ++ more) x p ≡ true
parts_stay c more x p h = list_any-append (is_add x p) c more ∙ or_l (in_parts c x p) (in_parts more x p) h

pub decision_stays : (c more : List CoreEntry) (x : TxnId) (d : Decision) → decision_of c x ≡ Some d → decision_of (c ++ more) x ≡ Some d
decision_stays c more x d h = first_stays (says_decision x) c more d h

pub marker_stays : (c more : List CoreEntry) (x : TxnId) (d : Decision) → marker_of c x ≡ Some d → marker_of (c ++ more) x ≡ Some d
marker_stays c more x d h = first_stays (marks x) c more d h

-- what is closed isn't open
pub closed_not_open : (n : ℕ) (c : List CoreEntry) (x : TxnId) (d : Decision) → CoordLawful n c → closing_of c x ≡ Some d → is_open (status_of c x) ≡ true → ⊥
closed_not_open n c x d h k o =
    let a : Agrees c x = lawful_agrees n c x h in
    none_some (sym (open_means (has_new c x) (closing_of c x) (decision_of c x) (subst (λ u. is_open (status_by (has_new c x) u) ≡ true) a.said o)).1 ∙ k)

added_open : (n : ℕ) (c : List CoreEntry) (e : CoreEntry) (x : TxnId) (p : ℕ) → coord_allows n c e ≡ true → is_add x p e ≡ true → is_open (status_of c x) ≡ true
added_open n c (core.AddPart y q) x p a h =
    subst (λ z. is_open (status_of c z) ≡ true) (sym (txn_equal x y (and_l (same_txn x y) (p == q) h))) (and_l _ _ (and_l _ _ (and_l _ _ a)))
added_open n c core.Plain x p a h = absurd (no_true h)
added_open n c (core.Inside y) x p a h = absurd (no_true h)
added_open n c (core.Marker y d) x p a h = absurd (no_true h)
added_open n c (core.New y) x p a h = absurd (no_true h)
added_open n c (core.Committing y) x p a h = absurd (no_true h)
added_open n c (core.Committed y) x p a h = absurd (no_true h)
added_open n c (core.Aborting y) x p a h = absurd (no_true h)
added_open n c (core.Aborted y) x p a h = absurd (no_true h)

pub lawful_more : (n : ℕ) (c : List CoreEntry) (e : CoreEntry) → CoordLawful n c → coord_allows n c e ≡ true → CoordLawful n (c ++ e ∷ [])
lawful_more n c e h a = all_follow-append (coord_allows n) [] c (e ∷ []) ∙ and_both (all_follow (coord_allows n) [] c) (coord_allows n c e && true) h (and_both (coord_allows n c e) true a refl)

-- no part is added to what is closed
none_added : (n : ℕ) (c more : List CoreEntry) (x : TxnId) (d : Decision) (p : ℕ) → CoordLawful n c → all_follow (coord_allows n) c more ≡ true → closing_of c x ≡ Some d → in_parts more x p ≡ true → ⊥
none_added n c [] x d p h a k i = no_true i
none_added n c (e ∷ more) x d p h a k i =
    let now : coord_allows n c e ≡ true = and_l (coord_allows n c e) (all_follow (coord_allows n) (c ++ e ∷ []) more) a in
    elim (or_cases (is_add x p e) (in_parts more x p) i) [
      | inl here ↦ closed_not_open n c x d h k (added_open n c e x p now here)
      | inr later ↦
          none_added n (c ++ e ∷ []) more x d p (lawful_more n c e h now) (and_r (coord_allows n c e) (all_follow (coord_allows n) (c ++ e ∷ []) more) a)
          (first_stays (says_closing x) c (e ∷ []) d k) later
    ]

pub closed_parts : (n : ℕ) (c more : List CoreEntry) (x : TxnId) (d : Decision) (p : ℕ) → CoordLawful n (c ++ more) → closing_of c x ≡ Some d → in_parts (c ++ more) x p ≡ true → in_parts c x p ≡ true
closed_parts n c more x d p h k i =
    let both : (all_follow (coord_allows n) [] c && all_follow (coord_allows n) ([] ++ c) more) ≡ true = sym (all_follow-append (coord_allows n) [] c more) ∙ h in
    elim (or_cases (in_parts c x p) (in_parts more x p) (sym (list_any-append (is_add x p) c more) ∙ i)) [
      | inl there ↦ there
      | inr new ↦ absurd (none_added n c more x d p (and_l _ _ both) (and_r _ _ both) k new)
    ]

-- ---- Growth.

-- from w to w' these entries were added to the log, and these to the lists of the parts
pub record Growth (w w' : World) (cs : List CoreEntry) (ms : ℕ → List CoreEntry) : Type 0 where
  pub names : w'.names ≡ w.names
  pub log : log_of w' ≡ log_of w ++ cs
  pub parts : (p : ℕ) → part_skeletons w' p ≡ part_skeletons w p ++ ms p
  pub coord : CoordLawful (length w.names) (log_of w ++ cs)
  pub topics : (p : ℕ) → TopicLawful (list_at w'.topics p)
  pub subs : (p : ℕ) → AckLawful (list_at w'.subs p)
  pub registered : (p : ℕ) (x : TxnId) → has_inside (ms p) x ≡ true → in_parts (log_of w) x p ≡ true
  pub decided : (p : ℕ) (x : TxnId) (d : Decision) → marker_of (ms p) x ≡ Some d → decision_of (log_of w) x ≡ Some d
  pub closed : (x : TxnId) (d : Decision) (p : ℕ) → closing_of cs x ≡ Some d → in_parts (log_of w ++ cs) x p ≡ true → marker_of (part_skeletons w p) x ≡ Some d

some_or : {V : Type 0} (a b : Option V) (d : V) → option_or a b ≡ Some d → (a ≡ Some d) ⊎ (b ≡ Some d)
some_or None b d h = inr h
some_or (Some v) b d h = inl h

module _ (w w' : World) (cs : List CoreEntry) (ms : ℕ → List CoreEntry) (g : Growth w w' cs ms) (l : Lawful w) where
  registered_still : (p : ℕ) (x : TxnId) → has_inside (part_skeletons w' p) x ≡ true → in_parts (log_of w') x p ≡ true
  registered_still p x h =
      subst (λ c. in_parts c x p ≡ true) (sym g.log) (parts_stay (log_of w) cs x p
      (elim (or_cases (has_inside (part_skeletons w p) x) (has_inside (ms p) x) (sym (list_any-append (is_inside x) (part_skeletons w p) (ms p)) ∙ (sym (ap (λ s. has_inside s x) (g.parts p)) ∙ h))) [
        | inl there ↦ l.registered p x there
        | inr new ↦ g.registered p x new
      ]))

  decided_still : (p : ℕ) (x : TxnId) (d : Decision) → marker_of (part_skeletons w' p) x ≡ Some d → decision_of (log_of w') x ≡ Some d
  decided_still p x d h =
      subst (λ c. decision_of c x ≡ Some d) (sym g.log) (decision_stays (log_of w) cs x d
      (elim (some_or (marker_of (part_skeletons w p) x) (marker_of (ms p) x) d (sym (first_of-append (marks x) (part_skeletons w p) (ms p)) ∙ (sym (ap (λ s. marker_of s x) (g.parts p)) ∙ h))) [
        | inl there ↦ l.decided p x d there
        | inr new ↦ g.decided p x d new
      ]))

  closed_still : (x : TxnId) (d : Decision) (p : ℕ) → closing_of (log_of w') x ≡ Some d → in_parts (log_of w') x p ≡ true → marker_of (part_skeletons w' p) x ≡ Some d
  closed_still x d p h i =
      let there : in_parts (log_of w ++ cs) x p ≡ true = subst (λ c. in_parts c x p ≡ true) g.log i in
      subst (λ s. marker_of s x ≡ Some d) (sym (g.parts p)) (marker_stays (part_skeletons w p) (ms p) x d
      (elim (some_or (closing_of (log_of w) x) (closing_of cs x) d (sym (first_of-append (says_closing x) (log_of w) cs) ∙ (sym (ap (λ c. closing_of c x) g.log) ∙ h))) [
        | inl before ↦ l.closed x d p before (closed_parts (length w.names) (log_of w) cs x d p g.coord before there)
        | inr new ↦ g.closed x d p new there
      ]))

  pub lawful_growth : Lawful w'
  lawful_growth =
      record {
        names = subst NamesLawful (sym g.names) l.names;
        coord = subst (λ names. CoordLawful (length names) (log_of w')) (sym g.names) (subst (λ c. CoordLawful (length w.names) c) (sym g.log) g.coord);
        topics = g.topics;
        subs = g.subs;
        registered = registered_still;
        decided = decided_still;
        closed = closed_still;
      }
