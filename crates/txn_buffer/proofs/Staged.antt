-- Records behind the front, tested one by one.
use Rattle.std.proofs.Common.{◌≡◌, ℕ, suc, ◌+◌, ◌<◌, Bool, true, false, not, eq-eqb, ◌==◌, ◌&&◌, if◌then◌else◌, List, [], ◌∷◌, ◌++◌, length, get_or, take, drop, drop-cons, Some, None, refl, sym, ap, ◌∙◌, subst, append_assoc}
use Rattle.std.specs.Prelude.{Option, is_none, is_some}
use Rattle.std.specs.Option.{option_or}
use Rattle.std.proofs.lemmas.List.{map-append, take_more, take-append-drop}
use Rattle.txn_base.specs.declared.txn.TxnId.{TxnId}
use Rattle.txn_base.specs.declared.txn.Decision.{Decision}
use Rattle.txn_base.specs.declared.txn.Decision.TheVariants.{Commit, Abort}
use Rattle.txn_base.specs.declared.core_entry.CoreEntry.TheVariants as core
use Rattle.txn_base.specs.declared.entry.TopicEntry.{TopicEntry}
use Rattle.txn_model.specs.Words.{all_follow}
use Rattle.txn_model.specs.Skeletons.{topic_skeleton, topic_skeletons}
use Rattle.txn_model.specs.Topic.{marks, marker_of, part_allows, TopicLawful}
use Rattle.txn_model.proofs.Laws.Lists.{first_of-append, all_follow-append}
use Rattle.txn_model.proofs.Laws.Tests.{and_l, and_r}
use Rattle.txn_records.specs.Topics.{marker_entry}
use Rattle.txn_buffer.proofs.Tables.{no_true}

marker-append : (xs ys : List TopicEntry) (x : TxnId) → marker_of (topic_skeletons (xs ++ ys)) x ≡ option_or (marker_of (topic_skeletons xs) x) (marker_of (topic_skeletons ys) x)
marker-append xs ys x = ap (λ l. marker_of l x) (map-append topic_skeleton xs ys) ∙ first_of-append (marks x) (topic_skeletons xs) (topic_skeletons ys)

pub none_of : {V : Type 0} (o : Option V) → is_some o ≡ false → o ≡ None
none_of None h = refl
none_of (Some v) h = absurd (no_true (sym h))

module _ (xs : List TopicEntry) (i : ℕ) (e : TopicEntry) (x : TxnId) (is : e ≡ get_or xs i e) (within : i < length xs) (none : marker_of (topic_skeletons (take i xs)) x ≡ None) where
  with_one : marker_of (topic_skeletons (take (i + 1) xs)) x ≡ option_or (marks x (topic_skeleton e)) None
  with_one =
      ap (λ (l : List TopicEntry). marker_of (topic_skeletons l) x) (take_more xs i e within ∙ ap (λ (y : TopicEntry). take i xs ++ y ∷ []) (sym is))
      ∙ marker-append (take i xs) (e ∷ []) x ∙ ap (λ o. option_or o (option_or (marks x (topic_skeleton e)) None)) none

  pub none_yet : is_some (marks x (topic_skeleton e)) ≡ false → marker_of (topic_skeletons (take (i + 1) xs)) x ≡ None
  none_yet h = with_one ∙ ap (λ o. option_or o None) (none_of (marks x (topic_skeleton e)) h)

  pub found_here : is_some (marks x (topic_skeleton e)) ≡ true → true ≡ is_some (marker_of (topic_skeletons xs) x)
  found_here h =
      sym (ap (λ (l : List TopicEntry). is_some (marker_of (topic_skeletons l) x)) (sym (take-append-drop (i + 1) xs)) ∙ ap is_some (marker-append (take (i + 1) xs) (drop (i + 1) xs) x)
      ∙ some_first (marks x (topic_skeleton e)) (marker_of (topic_skeletons (take (i + 1) xs)) x) (marker_of (topic_skeletons (drop (i + 1) xs)) x) with_one h)
    where
      some_first : (o p q : Option Decision) → p ≡ option_or o None → is_some o ≡ true → is_some (option_or p q) ≡ true
      some_first None p q e h = absurd (no_true h)
      some_first (Some d) p q e h = ap (λ r. is_some (option_or r q)) e

pub unmarked_if : (front staged : List TopicEntry) (x : TxnId) (b : Bool) → is_none (marker_of (topic_skeletons front) x) ≡ true → b ≡ is_some (marker_of (topic_skeletons staged) x)
    → not b ≡ is_none (marker_of (topic_skeletons (front ++ staged)) x)
unmarked_if front staged x b none has =
    ap not has ∙ sym (ap is_none (marker-append front staged x) ∙ pick (marker_of (topic_skeletons front) x) (marker_of (topic_skeletons staged) x) none)
  where
    pick : (o p : Option Decision) → is_none o ≡ true → is_none (option_or o p) ≡ not (is_some p)
    pick None None h = refl
    pick None (Some d) h = refl
    pick (Some d) p h = absurd (no_true h)

pub marked_if : (front staged : List TopicEntry) (x : TxnId) → is_none (marker_of (topic_skeletons front) x) ≡ false → false ≡ is_none (marker_of (topic_skeletons (front ++ staged)) x)
marked_if front staged x some = sym (ap is_none (marker-append front staged x) ∙ pick (marker_of (topic_skeletons front) x) (marker_of (topic_skeletons staged) x) some)
  where
    pick : (o p : Option Decision) → is_none o ≡ false → is_none (option_or o p) ≡ false
    pick None p h = absurd (no_true (sym h))
    pick (Some d) p h = refl

-- ---- Lawful lists.

-- in a lawful list each entry is allowed after those before it
pub allowed_at : (xs ys : List TopicEntry) (e : TopicEntry) → TopicLawful (xs ++ e ∷ ys) → part_allows (topic_skeletons xs) (topic_skeleton e) ≡ true
allowed_at xs ys e lawful =
    let sk = topic_skeletons xs in
    let both : (all_follow part_allows [] sk && (part_allows sk (topic_skeleton e) && all_follow part_allows (sk ++ topic_skeleton e ∷ []) (topic_skeletons ys))) ≡ true =
    sym (ap (all_follow part_allows []) (map-append topic_skeleton xs (e ∷ ys)) ∙ all_follow-append part_allows [] sk (topic_skeleton e ∷ topic_skeletons ys)) ∙ lawful in
    and_l (part_allows sk (topic_skeleton e)) (all_follow part_allows (sk ++ topic_skeleton e ∷ []) (topic_skeletons ys)) (and_r (all_follow part_allows [] sk) (part_allows sk (topic_skeleton e) && all_follow part_allows (sk ++ topic_skeleton e ∷ []) (topic_skeletons ys)) both)

-- each of the entries behind is allowed after those before it
pub allowed_in_order : (front so_far added : List TopicEntry) (i : ℕ) (e : TopicEntry) → e ≡ get_or added i e → i < length added → so_far ≡ front ++ take i added → TopicLawful (front ++ added)
    → part_allows (topic_skeletons so_far) (topic_skeleton e) ≡ true
allowed_in_order front so_far added i e is within so lawful =
    let parted : added ≡ take i added ++ e ∷ drop (suc i) added =
    sym (take-append-drop i added) ∙ ap (λ (l : List TopicEntry). take i added ++ l) (drop-cons added i e within ∙ ap (λ (x : TopicEntry). x ∷ drop (suc i) added) (sym is)) in
    let whole : front ++ added ≡ so_far ++ e ∷ drop (suc i) added =
    ap (λ (l : List TopicEntry). front ++ l) parted ∙ sym (append_assoc front (take i added) (e ∷ drop (suc i) added)) ∙ ap (λ (l : List TopicEntry). l ++ e ∷ drop (suc i) added) (sym so) in
    allowed_at so_far (drop (suc i) added) e (subst TopicLawful whole lawful)

-- ---- A marker behind the front.

pub marker_kind : (x : TxnId) (d : Decision) → core.Marker x d ≡ topic_skeleton (marker_entry x d)
marker_kind x Commit = refl
marker_kind x Abort = refl

pub marker_allowed : (front : List TopicEntry) (e : TopicEntry) (x : TxnId) (d : Decision) → e ≡ marker_entry x d → marker_of (topic_skeletons front) x ≡ None → part_allows (topic_skeletons front) (topic_skeleton e) ≡ true
marker_allowed front e x d is none = ap (part_allows (topic_skeletons front)) (ap topic_skeleton is ∙ sym (marker_kind x d)) ∙ ap is_none none

pub marker_stands : (front : List TopicEntry) (x : TxnId) (d : Decision) → marker_of (topic_skeletons front) x ≡ None → marker_of (topic_skeletons (front ++ marker_entry x d ∷ [])) x ≡ Some d
marker_stands front x d none =
    marker-append front (marker_entry x d ∷ []) x ∙ ap (λ o. option_or o (option_or (marks x (topic_skeleton (marker_entry x d))) None)) none
    ∙ ap (λ k. option_or (marks x k) None) (sym (marker_kind x d))
    ∙ ap (λ b. option_or (if b then Some d else None) None) (ap (λ b. b && (x.least == x.least)) (eq-eqb x.most x.most refl) ∙ eq-eqb x.least x.least refl)
