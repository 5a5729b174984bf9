-- The tables that are kept of the front of a topic's list, and how an entry changes them.
use Rattle.std.proofs.Common.{◌≡◌, ◌≢◌, ◌⊎◌, inl, inr, ℕ, suc, ◌+◌, ◌==◌, ◌&&◌, Bool, true, false, if◌then◌else◌, cond, List, [], ◌∷◌, ◌++◌, length, map, Some, None, refl, sym, ap, ◌∙◌, subst, arith, eqb-true, length-append, zero-add}
use Rattle.std.specs.Prelude.{Result, Ok, Err, IsOk, OnOk, Option, is_none, ◌<◌, slice_index_or}
use Rattle.std.specs.Borrow.{Bor}
use Rattle.std.specs.Option.{option_or, option_copied, is_some}
use Rattle.std.proofs.Math.Dec.{eqb}
use Rattle.std.proofs.lemmas.Bool.Decides.{eqb_tells}
use Rattle.std.proofs.lemmas.List.Concat.{flat_map-append}
use Rattle.txn_base.specs.Decoded.{topic_entry_of, topic_entries}
use Rattle.txn_base.specs.Frames.{Batch, records}
use Rattle.txn_model.proofs.Laws.Tests.{and_l, and_r}
use Rattle.std.proofs.lemmas.List.{map-append, append-nil, length-map}
use Rattle.std.proofs.lemmas.List.Elements.{All-append, All-cons, All-nil}
use Rattle.txn_base.specs.declared.txn.TxnId.{TxnId}
use Rattle.txn_base.specs.declared.txn.Decision.{Decision}
use Rattle.txn_base.specs.declared.core_entry.CoreEntry.{CoreEntry}
use Rattle.txn_base.specs.declared.core_entry.CoreEntry.TheVariants as core
use Rattle.txn_base.specs.declared.entry.TopicEntry.{TopicEntry}
use Rattle.txn_base.specs.Records.{IsTopicEntry}
use Rattle.txn_model.specs.Words.{all_follow}
use Rattle.txn_model.specs.Skeletons.{same_txn, topic_skeleton, topic_skeletons}
use Rattle.txn_model.specs.Topic.{marks, marker_of, part_allows, limit_from, limit_of}
use Rattle.txn_model.proofs.Laws.Lists.{first_of-append, all_follow-append}
use Rattle.txn_buffer.specs.Front.{inside_from, waiting, pending_of, first_place, key_of, same_key, FrontView, IsFrontTable}

pub no_true : false ≡ true → ⊥
no_true h = cc

-- ---- The limit.

limit_step : (all : List CoreEntry) (x : TxnId) (k rest end : ℕ) (ps : List (ℕ × TxnId)) → rest ≡ first_place (waiting (marker_of all) ps) end
    → (if is_none (marker_of all x) then k else rest) ≡ first_place (waiting (marker_of all) ((k, x) ∷ ps)) end
limit_step all x k rest end ps h = pick (is_none (marker_of all x))
  where
    pick : (b : Bool) → (if b then k else rest) ≡ first_place (if b then (k, x) ∷ ps else waiting (marker_of all) ps) end
    pick true = refl
    pick false = h

end_on : (k n : ℕ) → suc k + n ≡ k + suc n
end_on k n = omega arith

limit_is : (all : List CoreEntry) (k : ℕ) (es : List CoreEntry) → limit_from all k es ≡ first_place (waiting (marker_of all) (inside_from k es)) (k + length es)
limit_is all k [] = omega arith
limit_is all k (core.Inside x ∷ es) =
    limit_step all x k (limit_from all (suc k) es) (k + suc (length es)) (inside_from (suc k) es)
    (limit_is all (suc k) es ∙ ap (first_place (waiting (marker_of all) (inside_from (suc k) es))) (end_on k (length es)))
limit_is all k (core.Plain ∷ es) = limit_is all (suc k) es ∙ ap (first_place (waiting (marker_of all) (inside_from (suc k) es))) (end_on k (length es))
limit_is all k (core.Marker x d ∷ es) = limit_is all (suc k) es ∙ ap (first_place (waiting (marker_of all) (inside_from (suc k) es))) (end_on k (length es))
limit_is all k (core.New x ∷ es) = limit_is all (suc k) es ∙ ap (first_place (waiting (marker_of all) (inside_from (suc k) es))) (end_on k (length es))
limit_is all k (core.AddPart x p ∷ es) = limit_is all (suc k) es ∙ ap (first_place (waiting (marker_of all) (inside_from (suc k) es))) (end_on k (length es))
limit_is all k (core.Committing x ∷ es) = limit_is all (suc k) es ∙ ap (first_place (waiting (marker_of all) (inside_from (suc k) es))) (end_on k (length es))
limit_is all k (core.Committed x ∷ es) = limit_is all (suc k) es ∙ ap (first_place (waiting (marker_of all) (inside_from (suc k) es))) (end_on k (length es))
limit_is all k (core.Aborting x ∷ es) = limit_is all (suc k) es ∙ ap (first_place (waiting (marker_of all) (inside_from (suc k) es))) (end_on k (length es))
limit_is all k (core.Aborted x ∷ es) = limit_is all (suc k) es ∙ ap (first_place (waiting (marker_of all) (inside_from (suc k) es))) (end_on k (length es))

-- the limit is the place of the first message that waits, or else the length
pub limit_is_first : (entries : List TopicEntry) → limit_of entries ≡ first_place (pending_of (topic_skeletons entries)) (length entries)
limit_is_first entries =
    limit_is (topic_skeletons entries) 0 (topic_skeletons entries) ∙ ap (first_place (pending_of (topic_skeletons entries))) (omega (arith, length-skeletons entries))
  where
    length-skeletons : (es : List TopicEntry) → length (topic_skeletons es) ≡ length es
    length-skeletons [] = refl
    length-skeletons (e ∷ es) = ap suc (length-skeletons es)

-- ---- One entry more.

pub skeletons-push : (es : List TopicEntry) (e : TopicEntry) → topic_skeletons (es ++ e ∷ []) ≡ topic_skeletons es ++ topic_skeleton e ∷ []
skeletons-push es e = map-append topic_skeleton es (e ∷ [])

marker-push : (all : List CoreEntry) (e : CoreEntry) (x : TxnId) → marker_of (all ++ e ∷ []) x ≡ option_or (marker_of all x) (marks x e)
marker-push all e x = first_of-append (marks x) all (e ∷ []) ∙ ap (option_or (marker_of all x)) (or_none (marks x e))
  where
    or_none : (o : Option Decision) → option_or o None ≡ o
    or_none None = refl
    or_none (Some d) = refl

or_none : {V : Type 0} (o : Option V) → option_or o None ≡ o
or_none None = refl
or_none (Some d) = refl

inside-append : (k : ℕ) (xs ys : List CoreEntry) → inside_from k (xs ++ ys) ≡ inside_from k xs ++ inside_from (k + length xs) ys
inside-append k [] ys = ap (λ n. inside_from n ys) (omega arith)
inside-append k (core.Inside x ∷ xs) ys = ap (λ l. (k, x) ∷ l) (inside-append (suc k) xs ys ∙ ap (λ n. inside_from (suc k) xs ++ inside_from n ys) (end_on k (length xs)))
inside-append k (core.Plain ∷ xs) ys = inside-append (suc k) xs ys ∙ ap (λ n. inside_from (suc k) xs ++ inside_from n ys) (end_on k (length xs))
inside-append k (core.Marker x d ∷ xs) ys = inside-append (suc k) xs ys ∙ ap (λ n. inside_from (suc k) xs ++ inside_from n ys) (end_on k (length xs))
inside-append k (core.New x ∷ xs) ys = inside-append (suc k) xs ys ∙ ap (λ n. inside_from (suc k) xs ++ inside_from n ys) (end_on k (length xs))
inside-append k (core.AddPart x p ∷ xs) ys = inside-append (suc k) xs ys ∙ ap (λ n. inside_from (suc k) xs ++ inside_from n ys) (end_on k (length xs))
inside-append k (core.Committing x ∷ xs) ys = inside-append (suc k) xs ys ∙ ap (λ n. inside_from (suc k) xs ++ inside_from n ys) (end_on k (length xs))
inside-append k (core.Committed x ∷ xs) ys = inside-append (suc k) xs ys ∙ ap (λ n. inside_from (suc k) xs ++ inside_from n ys) (end_on k (length xs))
inside-append k (core.Aborting x ∷ xs) ys = inside-append (suc k) xs ys ∙ ap (λ n. inside_from (suc k) xs ++ inside_from n ys) (end_on k (length xs))
inside-append k (core.Aborted x ∷ xs) ys = inside-append (suc k) xs ys ∙ ap (λ n. inside_from (suc k) xs ++ inside_from n ys) (end_on k (length xs))

-- only what is decided matters
waiting-same : (f g : TxnId → Option Decision) → ((x : TxnId) → f x ≡ g x) → (ps : List (ℕ × TxnId)) → waiting f ps ≡ waiting g ps
waiting-same f g same [] = refl
waiting-same f g same (p ∷ ps) = ap (λ o. if is_none o then p ∷ ps else waiting f ps) (same p.1) ∙ ap (λ l. if is_none (g p.1) then p ∷ ps else l) (waiting-same f g same ps)

waiting-push : (f : TxnId → Option Decision) (ps : List (ℕ × TxnId)) (k : ℕ) (x : TxnId) → f x ≡ None → waiting f (ps ++ (k, x) ∷ []) ≡ waiting f ps ++ (k, x) ∷ []
waiting-push f [] k x h = ap (λ o. if is_none o then (k, x) ∷ [] else []) h
waiting-push f (p ∷ ps) k x h = pick (is_none (f p.1)) (waiting-push f ps k x h)
  where
    pick : (b : Bool) → waiting f (ps ++ (k, x) ∷ []) ≡ waiting f ps ++ (k, x) ∷ [] → (if b then p ∷ (ps ++ (k, x) ∷ []) else waiting f (ps ++ (k, x) ∷ [])) ≡ (if b then p ∷ ps else waiting f ps) ++ (k, x) ∷ []
    pick true e = refl
    pick false e = e

-- what was decided stays so
waiting-twice : (f g : TxnId → Option Decision) → ((x : TxnId) → is_none (g x) ≡ true → is_none (f x) ≡ true) → (ps : List (ℕ × TxnId)) → waiting g (waiting f ps) ≡ waiting g ps
waiting-twice f g stays [] = refl
waiting-twice f g stays (p ∷ ps) = pick (is_none (f p.1)) (stays p.1) (waiting-twice f g stays ps)
  where
    gone : (c : Bool) → (c ≡ true → false ≡ true) → waiting g ps ≡ (if c then p ∷ ps else waiting g ps)
    gone true h = absurd (no_true (h refl))
    gone false h = refl

    pick : (b : Bool) → (is_none (g p.1) ≡ true → b ≡ true) → waiting g (waiting f ps) ≡ waiting g ps → waiting g (if b then p ∷ ps else waiting f ps) ≡ (if is_none (g p.1) then p ∷ ps else waiting g ps)
    pick true h e = refl
    pick false h e = e ∙ gone (is_none (g p.1)) h

-- ---- What each kind of entry does.

-- the markers after an entry that is none
same_markers : (all : List CoreEntry) (e : CoreEntry) → ((x : TxnId) → marks x e ≡ None) → (x : TxnId) → marker_of (all ++ e ∷ []) x ≡ marker_of all x
same_markers all e none x = marker-push all e x ∙ ap (option_or (marker_of all x)) (none x) ∙ or_none (marker_of all x)

-- the tables of a list of one entry more
grown : (es es' : List TopicEntry) (e : TopicEntry) (count : ℕ) (f g : TxnId → Option Decision) (ps qs : List (ℕ × TxnId)) → es' ≡ es ++ e ∷ [] → IsFrontTable es count f ps
    → part_allows (topic_skeletons es) (topic_skeleton e) ≡ true → IsTopicEntry e
    → ((x : TxnId) → g x ≡ marker_of (topic_skeletons es ++ topic_skeleton e ∷ []) x)
    → qs ≡ pending_of (topic_skeletons es ++ topic_skeleton e ∷ [])
    → IsFrontTable es' (count + 1) g qs
grown es es' e count f g ps qs more is allowed fits marked pending = subst (λ l. IsFrontTable l (count + 1) g qs) (sym more) (record {
  count_is = omega (arith, is.count_is, length-append es (e ∷ []));
  marked = λ x. marked x ∙ ap (λ l. marker_of l x) (sym (skeletons-push es e));
  pending_is = pending ∙ ap pending_of (sym (skeletons-push es e));
  lawful = ap (all_follow part_allows []) (skeletons-push es e) ∙ all_follow-append part_allows [] (topic_skeletons es) (topic_skeleton e ∷ []) ∙ ap (λ b. b && (part_allows (topic_skeletons es) (topic_skeleton e) && true)) is.lawful ∙ ap (λ b. b && true) allowed;
  each = All-append IsTopicEntry es (e ∷ []) is.each (All-cons IsTopicEntry e [] fits (All-nil IsTopicEntry));
})

-- a plain message
pub plain_grown : (es es' : List TopicEntry) (e : TopicEntry) (count : ℕ) (f : TxnId → Option Decision) (ps : List (ℕ × TxnId)) → es' ≡ es ++ e ∷ [] → IsFrontTable es count f ps
    → topic_skeleton e ≡ core.Plain → IsTopicEntry e → IsFrontTable es' (count + 1) f ps
plain_grown es es' e count f ps more is kind fits =
    let all = topic_skeletons es in
    grown es es' e count f f ps ps more is (ap (part_allows all) kind) fits
    (λ x. is.marked x ∙ sym (same_markers all core.Plain (λ y. refl) x) ∙ ap (λ c. marker_of (all ++ c ∷ []) x) (sym kind))
    (is.pending_is ∙ sym (same_pending all) ∙ ap (λ c. pending_of (all ++ c ∷ [])) (sym kind))
  where
    same_pending : (all : List CoreEntry) → pending_of (all ++ core.Plain ∷ []) ≡ pending_of all
    same_pending all =
        waiting-same (marker_of (all ++ core.Plain ∷ [])) (marker_of all) (same_markers all core.Plain (λ y. refl)) (inside_from 0 (all ++ core.Plain ∷ []))
        ∙ ap (waiting (marker_of all)) (inside-append 0 all (core.Plain ∷ []) ∙ append-nil (inside_from 0 all))

none_is : (o : Option Decision) → is_none o ≡ true → o ≡ None
none_is None h = refl
none_is (Some d) h = absurd (no_true h)

-- a message of a transaction
pub opened_grown : (es es' : List TopicEntry) (e : TopicEntry) (x : TxnId) (count : ℕ) (f : TxnId → Option Decision) (ps qs : List (ℕ × TxnId)) → qs ≡ ps ++ (count, x) ∷ [] → es' ≡ es ++ e ∷ [] → IsFrontTable es count f ps
    → topic_skeleton e ≡ core.Inside x → part_allows (topic_skeletons es) (topic_skeleton e) ≡ true → IsTopicEntry e → IsFrontTable es' (count + 1) f qs
opened_grown es es' e x count f ps qs pushed more is kind allowed fits =
    let all = topic_skeletons es in
    let open_still : marker_of all x ≡ None = none_is (marker_of all x) (ap (part_allows all) (sym kind) ∙ allowed) in
    let at : count ≡ 0 + length all = is.count_is ∙ sym (length-map es topic_skeleton) ∙ sym (zero-add (length all)) in
    grown es es' e count f f ps qs more is allowed fits
    (λ y. is.marked y ∙ sym (same_markers all (core.Inside x) (λ z. refl) y) ∙ ap (λ c. marker_of (all ++ c ∷ []) y) (sym kind))
    (pushed ∙ ap (λ l. l ++ (count, x) ∷ []) is.pending_is ∙ ap (λ n. pending_of all ++ (n, x) ∷ []) at
    ∙ sym (one_more all open_still) ∙ ap (λ c. pending_of (all ++ c ∷ [])) (sym kind))
  where
    one_more : (all : List CoreEntry) → marker_of all x ≡ None → pending_of (all ++ core.Inside x ∷ []) ≡ pending_of all ++ (0 + length all, x) ∷ []
    one_more all h =
        waiting-same (marker_of (all ++ core.Inside x ∷ [])) (marker_of all) (same_markers all (core.Inside x) (λ y. refl)) (inside_from 0 (all ++ core.Inside x ∷ []))
        ∙ ap (waiting (marker_of all)) (inside-append 0 all (core.Inside x ∷ [])) ∙ waiting-push (marker_of all) (inside_from 0 all) (0 + length all) x h

equal_either_way : (a b : ℕ) → (a == b) ≡ (b == a)
equal_either_way a b = pick (eqb_tells a b) (eqb_tells b a)
  where
    pick : ((eqb a b ≡ true) × (a ≡ b)) ⊎ ((eqb a b ≡ false) × (a ≢ b)) → ((eqb b a ≡ true) × (b ≡ a)) ⊎ ((eqb b a ≡ false) × (b ≢ a)) → (a == b) ≡ (b == a)
    pick (inl p) (inl q) = p.0 ∙ sym q.0
    pick (inl p) (inr q) = absurd (q.1 (sym p.1))
    pick (inr p) (inl q) = absurd (p.1 (sym q.1))
    pick (inr p) (inr q) = p.0 ∙ sym q.0

pub is_same : (x y : TxnId) → same_txn x y ≡ true → x ≡ y
is_same x y h =
    let most : x.most ≡ y.most = eqb-true x.most y.most (and_l (x.most == y.most) (x.least == y.least) h) in
    let least : x.least ≡ y.least = eqb-true x.least y.least (and_r (x.most == y.most) (x.least == y.least) h) in
    λ i. record { most = most i; least = least i }

-- the decisions after a marker of x
decided : (f : TxnId → Option Decision) (x : TxnId) (d : Decision) (y : TxnId) → f x ≡ None → cond (same_key (key_of x) (key_of y)) (Some d) (f y) ≡ option_or (f y) (marks y (core.Marker x d))
decided f x d y h =
    ap (λ b. cond b (Some d) (f y)) (ap (λ b. b && (x.least == y.least)) (equal_either_way x.most y.most) ∙ ap (λ b. (y.most == x.most) && b) (equal_either_way x.least y.least))
    ∙ pick (same_txn y x) (λ e. ap f (is_same y x e) ∙ h)
  where
    pick : (b : Bool) → (b ≡ true → f y ≡ None) → cond b (Some d) (f y) ≡ option_or (f y) (if b then Some d else None)
    pick true g = sym (ap (λ o. option_or o (Some d)) (g refl))
    pick false g = sym (or_none (f y))

-- a marker
pub marker_grown : (es es' : List TopicEntry) (e : TopicEntry) (x : TxnId) (d : Decision) (count : ℕ) (f g : TxnId → Option Decision) (ps qs : List (ℕ × TxnId)) → qs ≡ waiting g ps → es' ≡ es ++ e ∷ [] → IsFrontTable es count f ps
    → topic_skeleton e ≡ core.Marker x d → part_allows (topic_skeletons es) (topic_skeleton e) ≡ true → IsTopicEntry e
    → ((y : TxnId) → g y ≡ cond (same_key (key_of x) (key_of y)) (Some d) (f y)) → IsFrontTable es' (count + 1) g qs
marker_grown es es' e x d count f g ps qs dropped more is kind allowed fits updates =
    let all = topic_skeletons es in
    let none_yet : f x ≡ None = is.marked x ∙ none_is (marker_of all x) (ap (part_allows all) (sym kind) ∙ allowed) in
    let after : (y : TxnId) → g y ≡ marker_of (all ++ core.Marker x d ∷ []) y = λ y. updates y ∙ decided f x d y none_yet ∙ ap (λ o. option_or o (marks y (core.Marker x d))) (is.marked y) ∙ sym (marker-push all (core.Marker x d) y) in
    let before : (y : TxnId) → is_none (g y) ≡ true → is_none (marker_of all y) ≡ true = λ y h. none_before (marker_of all y) (marks y (core.Marker x d)) (ap is_none (sym (marker-push all (core.Marker x d) y) ∙ sym (after y)) ∙ h) in
    grown es es' e count f g ps qs more is allowed fits
    (λ y. after y ∙ ap (λ c. marker_of (all ++ c ∷ []) y) (sym kind))
    (dropped ∙ ap (waiting g) is.pending_is ∙ waiting-twice (marker_of all) g before (inside_from 0 all)
    ∙ waiting-same g (marker_of (all ++ core.Marker x d ∷ [])) after (inside_from 0 all)
    ∙ ap (waiting (marker_of (all ++ core.Marker x d ∷ []))) (sym (inside-append 0 all (core.Marker x d ∷ []) ∙ append-nil (inside_from 0 all)))
    ∙ ap (λ c. pending_of (all ++ c ∷ [])) (sym kind))
  where
    none_before : (o p : Option Decision) → is_none (option_or o p) ≡ true → is_none o ≡ true
    none_before None p h = refl
    none_before (Some c) p h = h

-- no entries
pub no_table : (count : ℕ) (f : TxnId → Option Decision) (ps : List (ℕ × TxnId)) → count ≡ 0 → ((x : TxnId) → f x ≡ None) → ps ≡ [] → IsFrontTable [] count f ps
no_table count f ps zero none nothing = record {
  count_is = zero;
  marked = none;
  pending_is = nothing;
  lawful = refl;
  each = All-nil IsTopicEntry;
}

-- ---- The entries of a front.

pub records-append : (a b : List Batch) → records (a ++ b) ≡ records a ++ records b
records-append a b = flat_map-append (λ batch. batch) a b

pub entries-append : (a b : List Batch) → topic_entries (a ++ b) ≡ topic_entries a ++ topic_entries b
entries-append a b = ap (map topic_entry_of) (records-append a b) ∙ map-append topic_entry_of (records a) (records b)

-- ---- The messages that wait, as a queue.

pub first_is : (ps : List (ℕ × TxnId)) (p : ℕ × TxnId) (end : ℕ) → 0 < length ps → p ≡ slice_index_or ps 0 p → p.0 ≡ first_place ps end
first_is [] p end some is = absurd (omega (arith, some))
first_is (q ∷ ps) p end some is = ap (λ (r : ℕ × TxnId). r.0) is

pub none_first : (ps : List (ℕ × TxnId)) (end : ℕ) → (0 < length ps → ⊥) → end ≡ first_place ps end
none_first [] end none = refl
none_first (q ∷ ps) end none = absurd (none (omega arith))

pub limit_of_queue : (entries : List TopicEntry) (count : ℕ) (decisions : TxnId → Option Decision) (ps : List (ℕ × TxnId)) (n : ℕ) → IsFrontTable entries count decisions ps → n ≡ first_place ps count → n ≡ limit_of entries
limit_of_queue entries count decisions ps n is first =
    first ∙ ap (λ l. first_place l count) is.pending_is ∙ ap (first_place (pending_of (topic_skeletons entries))) is.count_is ∙ sym (limit_is_first entries)

pub waiting_stays : (f : TxnId → Option Decision) (ps : List (ℕ × TxnId)) (p : ℕ × TxnId) → 0 < length ps → p ≡ slice_index_or ps 0 p → is_none (f p.1) ≡ true → waiting f ps ≡ ps
waiting_stays f [] p some is none = absurd (omega (arith, some))
waiting_stays f (q ∷ ps) p some is none = ap (λ b. if b then q ∷ ps else waiting f ps) (ap (λ (r : ℕ × TxnId). is_none (f r.1)) (sym is) ∙ none)

-- What comes at Ok comes.
pub at_ok : {T E : Type 0} (r : Result T E) (P : Type 0) → IsOk r → OnOk r P → P
at_ok (Ok v) P is h = h
at_ok (Err e) P is h = absurd (no_true is)

pub allowed_in : (v w : FrontView) (e : CoreEntry) → v ≡ w → part_allows (topic_skeletons w.entries) e ≡ true → part_allows (topic_skeletons v.entries) e ≡ true
allowed_in v w e same allowed = ap (λ (u : FrontView). part_allows (topic_skeletons u.entries) e) same ∙ allowed

pub none_copied : {X : Type 0} (o : Option (Bor X)) (p : Option X) → option_copied o ≡ p → is_some o ≡ false → is_none p ≡ true
none_copied None p same none = ap is_none (sym same)
none_copied (Some x) p same none = absurd (no_true (sym none))

-- a message leaves the markers
pub unmarked_after : (all : List CoreEntry) (x : TxnId) → marker_of all x ≡ None → marker_of (all ++ core.Inside x ∷ []) x ≡ None
unmarked_after all x h = same_markers all (core.Inside x) (λ y. refl) x ∙ h
