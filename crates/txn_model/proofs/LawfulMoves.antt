-- Whatever lines are told, the table's state stays lawful: what the table adds is granted, and each move keeps the state.
use Rattle.std.proofs.Common.{◌≡◌, inl, inr, ℕ, zero, suc, ◌+◌, ◌==◌, ◌≤◌, ◌<◌, arith, eq-eqb, eqb-true, leb-true, eq-or-lt_of_le, Bool, true, false, ◌&&◌, not, cond, if◌then◌else◌, List, [], ◌∷◌, ◌++◌, length, Some, None, refl, sym, ap, ◌∙◌, subst}
use Rattle.std.proofs.lemmas.List.Folds.{list_any-append}
use Rattle.txn_model.proofs.Words.{Option, filter, nat_le, is_none, is_some, option_or, Limits, TxnId, Decision, Commit, Abort, CoreEntry, AckEntry, Request, Reply, is_sub, topic_of, World, has, list_at, all_follow, numbers_from, same_txn, coord_skeleton, coord_skeletons, topic_skeletons, ack_skeletons, name_of, is_add, closing_skeleton, status_of, decision_of, closing_of, in_parts, parts_of, is_open, coord_allows, marker_of, part_allows, ack_allows, log_of, part_skeletons, has_inside, Lawful, TableState, EntryBatch, nothing, in_coord, in_topic, in_sub, with_batch, is_unrebuilt, at_moment, decision_entry, decision_batch, closing_entry, closing_batch, topic_marker, ack_marker, marker_batch, is_topic, number_of, acks_in, success_of, acks_batch, Rebuilds, RebuildsAll, MarksAll, with_coord, RunState, LineKind, AnswersFrom, Replies, IsAllowed, IsPartRebuilt, LawfulState}
use Rattle.txn_base.specs.Limits.{standard}
use Rattle.txn_base.specs.declared.core_entry.CoreEntry.TheVariants as core
use Rattle.txn_base.specs.declared.entry.CoordEntry.TheVariants as coord
use Rattle.txn_base.specs.declared.request.Request.TheVariants as request
use Rattle.txn_model.proofs.Bools.{no_true, and_l, and_r, and_both, or_cases, none_some}
use Rattle.txn_model.proofs.Statuses.{txn_equal}
use Rattle.txn_model.proofs.GrantedEntries.{close_allowed}
use Rattle.txn_model.proofs.Named.{few_names, named_part}
use Rattle.txn_model.proofs.LawfulSteps.{same_state, settled_state, failed_state, resolved_state, rebuilt_state}
use Rattle.txn_model.proofs.AllowedBatches.{coord_allowed, topic_allowed, sub_allowed}
use Rattle.txn_model.proofs.Grants.{Granted, nothing_granted, decision_granted, row_granted, topic_part, sub_part}
use Rattle.txn_model.proofs.Moves.{Stays, rebuilds_stays, all_stay, all_are_whole, topic_marker_skeleton, ack_marker_skeleton, new_marker, IsPart, Ending, has_head, has_later, HaveMarkers, all_marked, WholeFor, MayAdd, of_row, of_decision, of_marker, of_closing, Moves, rebuilds_goes, all_go, marks_go, from_goes, replies_go}

-- ---- A marker.

abbrev decision_or : Decision → Option Decision → Decision
decision_or e None = e
decision_or e (Some d) = d

pub some_decision : (d e : Decision) → Some d ≡ Some e → d ≡ e
some_decision d e h = ap (decision_or d) h

-- what is said where a test passes
if_says : (b : Bool) (d e : Decision) → option_or (if b then Some d else None) None ≡ Some e → (b ≡ true) × (d ≡ e)
if_says true d e h = (refl, some_decision d e h)
if_says false d e h = absurd (none_some h)

one_marker : (x y : TxnId) (d e : Decision) → marker_of (core.Marker x d ∷ []) y ≡ Some e → (y ≡ x) × (d ≡ e)
one_marker x y d e h = let said : (same_txn y x ≡ true) × (d ≡ e) = if_says (same_txn y x) d e h in (txn_equal y x said.0, said.1)

marker_entry_allowed : (a : List AckEntry) (x : TxnId) (d : Decision) → is_none (marker_of (ack_skeletons a) x) ≡ true → ack_allows a (ack_marker x d) ≡ true
marker_entry_allowed a x Commit h = h
marker_entry_allowed a x Abort h = h

module _ (w : World) (x : TxnId) (d : Decision) (p : ℕ) (l : Lawful w) (low : 1 ≤ p) (high : p ≤ length w.names) (decided : decision_of (log_of w) x ≡ Some d) where
  decided_by : (y : TxnId) (e : Decision) → marker_of (core.Marker x d ∷ []) y ≡ Some e → decision_of (log_of w) y ≡ Some e
  decided_by y e h = let m : (y ≡ x) × (d ≡ e) = one_marker x y d e h in
      subst (λ z. decision_of (log_of w) z ≡ Some e) (sym m.0) (subst (λ k. decision_of (log_of w) x ≡ Some k) m.1 decided)

  new_marker_granted : is_none (marker_of (part_skeletons w p) x) ≡ true → Granted (new_marker w x d p) w
  new_marker_granted none = by_kind (is_sub (name_of w.names p)) refl
    where
      by_kind : (b : Bool) → is_sub (name_of w.names p) ≡ b → Granted (if b then in_sub p (ack_marker x d) else in_topic p (topic_marker x d ∷ [])) w
      by_kind true e =
          record {
            fits = named_part is_sub w.names p low high e;
            allowed = sub_allowed w p (ack_marker x d) l (marker_entry_allowed (list_at w.subs p) x d (subst (λ s. is_none (marker_of s x) ≡ true) (sub_part w p e) none))
                (λ y h. absurd (no_true (ap (λ k. has_inside (k ∷ []) y) (sym (ack_marker_skeleton x d)) ∙ h)))
                (λ y k h. decided_by y k (ap (λ s. marker_of (s ∷ []) y) (sym (ack_marker_skeleton x d)) ∙ h));
          }
      by_kind false e =
          record {
            fits = named_part is_topic w.names p low high (ap not e);
            allowed = topic_allowed w p (topic_marker x d ∷ []) l
                (ap (λ k. all_follow part_allows (topic_skeletons (list_at w.topics p)) (k ∷ [])) (topic_marker_skeleton x d)
                ∙ and_both (is_none (marker_of (topic_skeletons (list_at w.topics p)) x)) true (subst (λ s. is_none (marker_of s x) ≡ true) (topic_part w p e) none) refl)
                (λ y h. absurd (no_true (ap (λ k. has_inside (k ∷ []) y) (sym (topic_marker_skeleton x d)) ∙ h)))
                (λ y k h. decided_by y k (ap (λ s. marker_of (s ∷ []) y) (sym (topic_marker_skeleton x d)) ∙ h));
          }

new_marker_whole : (t : TableState) (w : World) (x : TxnId) (d : Decision) (p : ℕ) → is_unrebuilt t p ≡ false → IsPartRebuilt (new_marker w x d p) t
new_marker_whole t w x d p h = by_kind (is_sub (name_of w.names p))
  where
    by_kind : (b : Bool) → IsPartRebuilt (if b then in_sub p (ack_marker x d) else in_topic p (topic_marker x d ∷ [])) t
    by_kind true = h
    by_kind false = h

-- the batch of a marker, which is none where one stands
pub marker_granted : (t : TableState) (x : TxnId) (d : Decision) (p : ℕ) → Lawful t.world → 1 ≤ p → p ≤ length t.world.names → decision_of (log_of t.world) x ≡ Some d → Granted (marker_batch t x d p) t.world
marker_granted t x d p l low high decided = by_test (marker_of (part_skeletons t.world p) x) refl
  where
    by_test : (o : Option Decision) → marker_of (part_skeletons t.world p) x ≡ o → Granted (if is_some o then nothing else new_marker t.world x d p) t.world
    by_test (Some e) h = nothing_granted t.world l
    by_test None h = new_marker_granted t.world x d p l low high decided (ap is_none h)

-- ---- The parts of a transaction lie among the names.

added_named : (n : ℕ) (c : List CoreEntry) (e : CoreEntry) (x : TxnId) (p : ℕ) → coord_allows n c e ≡ true → is_add x p e ≡ true → (1 ≤ p) × (p ≤ n)
added_named n c (core.AddPart y q) x p a h =
    let same : p ≡ q = eqb-true p q (and_r (same_txn x y) (p == q) h) in
    let up : (is_open (status_of c y) && nat_le 1 q && nat_le q n) ≡ true = and_l (is_open (status_of c y) && nat_le 1 q && nat_le q n) (not (in_parts c y q)) a in
    let high : q ≤ n = leb-true q n (and_r (is_open (status_of c y) && nat_le 1 q) (nat_le q n) up) in
    let low : 1 ≤ q = leb-true 1 q (and_r (is_open (status_of c y)) (nat_le 1 q) (and_l (is_open (status_of c y) && nat_le 1 q) (nat_le q n) up)) in
    (omega (arith, same, low), omega (arith, same, high))
added_named n c core.Plain x p a h = absurd (no_true h)
added_named n c (core.Inside y) x p a h = absurd (no_true h)
added_named n c (core.Marker y d) x p a h = absurd (no_true h)
added_named n c (core.New y) x p a h = absurd (no_true h)
added_named n c (core.Committing y) x p a h = absurd (no_true h)
added_named n c (core.Committed y) x p a h = absurd (no_true h)
added_named n c (core.Aborting y) x p a h = absurd (no_true h)
added_named n c (core.Aborted y) x p a h = absurd (no_true h)

parts_within : (n : ℕ) (before c : List CoreEntry) (x : TxnId) (p : ℕ) → all_follow (coord_allows n) before c ≡ true → in_parts c x p ≡ true → (1 ≤ p) × (p ≤ n)
parts_within n before [] x p h i = absurd (no_true i)
parts_within n before (e ∷ c) x p h i =
    elim (or_cases (is_add x p e) (in_parts c x p) i) [
      | inl here ↦ added_named n before e x p (and_l (coord_allows n before e) (all_follow (coord_allows n) (before ++ e ∷ []) c) h) here
      | inr later ↦ parts_within n (before ++ e ∷ []) c x p (and_r (coord_allows n before e) (all_follow (coord_allows n) (before ++ e ∷ []) c) h) later
    ]

pub parts_are_named : (w : World) (x : TxnId) (p : ℕ) → Lawful w → in_parts (log_of w) x p ≡ true → (1 ≤ p) × (p ≤ length w.names)
parts_are_named w x p l h = parts_within (length w.names) [] (log_of w) x p l.coord h

-- and each is among them
filter_has : (f : ℕ → Bool) (k n p : ℕ) → k ≤ p → p < k + n → f p ≡ true → has (filter f (numbers_from k n)) p ≡ true
filter_has f k zero p low high h = absurd (never k p low high)
  where
    never : (k p : ℕ) → k ≤ p → p < k + 0 → ⊥
    never k p low high = omega (arith, low, high)
filter_has f k (suc n) p low high h =
    elim (eq-or-lt_of_le low) [
      | inl e ↦ here (f k) (subst (λ q. f q ≡ true) (sym e) h) (eq-eqb p k (sym e))
      | inr b ↦ there (f k) (p == k) (filter_has f (suc k) n p b (omega (arith, high)) h)
    ]
  where
    here : (b : Bool) → b ≡ true → (p == k) ≡ true → has (cond b (k ∷ filter f (numbers_from (suc k) n)) (filter f (numbers_from (suc k) n))) p ≡ true
    here true e t = ap (λ c. if c then true else has (filter f (numbers_from (suc k) n)) p) t
    here false e t = absurd (no_true e)

    among : (b c : Bool) → c ≡ true → (if b then true else c) ≡ true
    among true c h = refl
    among false c h = h

    there : (b c : Bool) → has (filter f (numbers_from (suc k) n)) p ≡ true → has (cond b (k ∷ filter f (numbers_from (suc k) n)) (filter f (numbers_from (suc k) n))) p ≡ true
    there true c t = among (p == k) (has (filter f (numbers_from (suc k) n)) p) t
    there false c t = t

among_parts : (w : World) (x : TxnId) (p : ℕ) → Lawful w → in_parts (log_of w) x p ≡ true → has (parts_of (log_of w) x) p ≡ true
among_parts w x p l h =
    let range : (1 ≤ p) × (p ≤ length w.names) = parts_are_named w x p l h in
    let few : length w.names ≤ 62 = few_names w.names l.names in
    filter_has (in_parts (log_of w) x) 1 62 p range.0 (omega (arith, range.1, few)) h

-- ---- The closing.

closing_says : (x y : TxnId) (d e : Decision) → closing_of (coord_skeleton (closing_entry x d) ∷ []) y ≡ Some e → (y ≡ x) × (d ≡ e)
closing_says x y Commit e h = let said : (same_txn y x ≡ true) × (Commit ≡ e) = if_says (same_txn y x) Commit e h in (txn_equal y x said.0, said.1)
closing_says x y Abort e h = let said : (same_txn y x ≡ true) × (Abort ≡ e) = if_says (same_txn y x) Abort e h in (txn_equal y x said.0, said.1)

closing_adds_none : (c : List CoreEntry) (x y : TxnId) (d : Decision) (p : ℕ) → in_parts (c ++ coord_skeleton (closing_entry x d) ∷ []) y p ≡ true → in_parts c y p ≡ true
closing_adds_none c x y d p h =
    elim (or_cases (in_parts c y p) (in_parts (coord_skeleton (closing_entry x d) ∷ []) y p) (sym (list_any-append (is_add y p) c (coord_skeleton (closing_entry x d) ∷ [])) ∙ h)) [
      | inl there ↦ there
      | inr new ↦ absurd (none d new)
    ]
  where
    none : (d : Decision) → in_parts (coord_skeleton (closing_entry x d) ∷ []) y p ≡ true → ⊥
    none Commit h = no_true h
    none Abort h = no_true h

closing_is : (x : TxnId) (d : Decision) → coord_skeleton (closing_entry x d) ≡ closing_skeleton x d
closing_is x Commit = refl
closing_is x Abort = refl

-- where each of its parts has the marker, the entry that closes x is allowed
pub closing_allowed : (w : World) (x : TxnId) (d : Decision) → Lawful w → closing_of (log_of w) x ≡ None → decision_of (log_of w) x ≡ Some d
    → ((p : ℕ) → in_parts (log_of w) x p ≡ true → marker_of (part_skeletons w p) x ≡ Some d) → IsAllowed (closing_batch x d) w
closing_allowed w x d l unclosed decided all =
    coord_allowed w (closing_entry x d) l
    (ap (coord_allows (length w.names) (log_of w)) (closing_is x d) ∙ close_allowed (length w.names) (log_of w) x d l.coord unclosed decided)
    (λ y e p h i.
    let is : (y ≡ x) × (d ≡ e) = closing_says x y d e h in
    let there : in_parts (log_of w) x p ≡ true = subst (λ z. in_parts (log_of w) z p ≡ true) is.0 (closing_adds_none (log_of w) x y d p i) in
    subst (λ z. marker_of (part_skeletons w p) z ≡ Some e) (sym is.0) (subst (λ k. marker_of (part_skeletons w p) x ≡ Some k) is.1 (all p there)))

-- ---- What the table adds is granted, for a part that is whole.

decision_whole : (t : TableState) (x : TxnId) (d : Decision) → is_unrebuilt t 0 ≡ false → IsPartRebuilt (decision_batch t x d) t
decision_whole t x d whole = by_test (is_open (status_of (log_of t.world) x))
  where
    by_test : (b : Bool) → IsPartRebuilt (if b then in_coord (decision_entry x d) else nothing) t
    by_test true = whole
    by_test false = tt

marker_whole : (t : TableState) (x : TxnId) (d : Decision) (p : ℕ) → is_unrebuilt t p ≡ false → IsPartRebuilt (marker_batch t x d p) t
marker_whole t x d p h = by_test (is_some (marker_of (part_skeletons t.world p) x))
  where
    by_test : (b : Bool) → IsPartRebuilt (if b then nothing else new_marker t.world x d p) t
    by_test true = tt
    by_test false = new_marker_whole t t.world x d p h

acks_whole : (t : TableState) (p : ℕ) (es : List _) → is_unrebuilt t p ≡ false → IsPartRebuilt (acks_batch p es) t
acks_whole t p [] h = tt
acks_whole t p (e ∷ es) h = h

add_whole : (t : TableState) (b : Bool) (e : _) → is_unrebuilt t 0 ≡ false → IsPartRebuilt (if b then nothing else in_coord e) t
add_whole t true e h = tt
add_whole t false e h = h

has_behind : (who : Option TxnId) (p : ℕ) (ps : List ℕ) → has ps p ≡ true → has (with_coord who ps) p ≡ true
has_behind None p ps h = h
has_behind (Some x) p ps h = has_later 0 p ps h

sub_whole : (t : TableState) (who : Option TxnId) (sub : List ℕ) (es : List AckEntry)
    → ((p : ℕ) → has (with_coord who (number_of t.world (topic_of sub) ∷ number_of t.world sub ∷ [])) p ≡ true → is_unrebuilt t p ≡ false) → IsPartRebuilt (acks_batch (number_of t.world sub) es) t
sub_whole t who sub es whole =
    let p : ℕ = number_of t.world sub in
    acks_whole t p es (whole p (has_behind who p (number_of t.world (topic_of sub) ∷ p ∷ []) (has_later (number_of t.world (topic_of sub)) p (p ∷ []) (has_head p []))))

row_whole : (limits : Limits) (t : TableState) (r : Request) → WholeFor r t → IsPartRebuilt (success_of limits t r).adds t
row_whole limits t (request.New timeout) whole = whole 0 refl
row_whole limits t (request.Add x part) whole = add_whole t (in_parts (log_of t.world) x (number_of t.world part)) (coord.AddPart x (number_of t.world part)) (whole 0 refl)
row_whole limits t (request.Publish topic who bodies) whole = whole (number_of t.world topic) (has_behind who (number_of t.world topic) (number_of t.world topic ∷ []) (has_head (number_of t.world topic) []))
row_whole limits t (request.Ack sub who places) whole = sub_whole t who sub (acks_in t.world (request.Ack sub who places)) whole
row_whole limits t (request.AckUpTo sub who place) whole = sub_whole t who sub (acks_in t.world (request.AckUpTo sub who place)) whole
row_whole limits t (request.Commit x) whole = tt
row_whole limits t (request.Abort x) whole = tt
row_whole limits t (request.Status x) whole = tt
row_whole limits t (request.Read topic first max) whole = tt
row_whole limits t (request.Receive sub max) whole = tt
row_whole limits t (request.Redeliver sub) whole = tt
row_whole limits t request.Tick whole = tt
row_whole limits t request.Stop whole = tt

pub record MayBeAdded (b : EntryBatch) (t : TableState) : Type 0 where
  pub granted : Granted b t.world
  pub whole : IsPartRebuilt b t

part_named : (w : World) (x : TxnId) (p : ℕ) → Lawful w → IsPart w x p → (1 ≤ p) × (p ≤ length w.names)
part_named w x p l (low, inl i) = parts_are_named w x p l i
part_named w x p l (low, inr high) = (low, high)

-- in a lawful world the marker that stands is that of the decision
decided_marker : (w : World) (x : TxnId) (d : Decision) (p : ℕ) → Lawful w → decision_of (log_of w) x ≡ Some d → (e : Decision) × (marker_of (part_skeletons w p) x ≡ Some e) → marker_of (part_skeletons w p) x ≡ Some d
decided_marker w x d p l k m = m.1 ∙ ap Some (some_decision m.0 d (sym (l.decided p x m.0 m.1) ∙ k))

pub may_be_added : (limits : Limits) (t : TableState) (b : EntryBatch) → LawfulState t → MayAdd limits t b → MayBeAdded b t
may_be_added limits t b s (of_row r e l whole is) = subst (λ b. MayBeAdded b t) (sym is) (record { granted = row_granted limits t r s.lawful e l; whole = row_whole limits t r whole })
may_be_added limits t b s (of_decision x d whole is) = subst (λ b. MayBeAdded b t) (sym is) (record { granted = decision_granted t x d s.lawful; whole = decision_whole t x d whole })
may_be_added limits t b s (of_marker x d p k part whole is) =
    let range : (1 ≤ p) × (p ≤ length t.world.names) = part_named t.world x p s.lawful part in
    subst (λ b. MayBeAdded b t) (sym is) (record { granted = marker_granted t x d p s.lawful range.0 range.1 k; whole = marker_whole t x d p whole })
may_be_added limits t b s (of_closing x d c k all whole is) =
    subst (λ b. MayBeAdded b t) (sym is)
    (record {
      granted = record { fits = tt; allowed = closing_allowed t.world x d s.lawful c k (λ p i. decided_marker t.world x d p s.lawful k (all p (among_parts t.world x p s.lawful i))) };
      whole = whole;
    })

-- ---- The moves keep the state lawful.

abbrev pub StaysLawful : TableState → TableState → Type 0
StaysLawful t t' = LawfulState t → LawfulState t'

pub lawfully : (limits : Limits) → Moves limits StaysLawful
lawfully limits =
    record {
      same = λ t s. s;
      both = λ a b c f g s. g (f s);
      resolves = resolved_state;
      rebuilds = rebuilt_state;
      adds = λ b t given may s.
          let one : MayBeAdded b t = may_be_added limits t b s may in
          same_state (with_batch b t) (record (with_batch b t) { given = given }) refl refl refl (settled_state b t s one.granted.fits one.whole one.granted.allowed);
      fails = λ b p t is may s. failed_state b p t is s (may_be_added limits t b s may).granted.allowed;
      hears = λ moment t s. same_state t (at_moment moment t) refl refl refl s;
    }

pub from_keeps : (limits : Limits) (s : RunState) (r : Request) (told : Reply) (s' : RunState) → LawfulState s.table → AnswersFrom limits s r told s' → LawfulState s'.table
from_keeps limits s r told s' l h = from_goes limits StaysLawful (lawfully limits) s r told s' h l

-- over any lines the state stays lawful
pub replies_keep : (limits : Limits) (s : RunState) (kinds : List LineKind) (told : List Reply) (s' : RunState) → LawfulState s.table → Replies limits s kinds told s' → LawfulState s'.table
replies_keep limits s kinds told s' l h = replies_go limits StaysLawful (lawfully limits) s kinds told s' h l

-- ---- What recovery and markers keep of a lawful state.

pub record Keeps (t t' : TableState) : Type 0 where
  pub state : LawfulState t'
  pub names : t'.world.names ≡ t.world.names
  pub whole : (p : ℕ) → is_unrebuilt t p ≡ false → is_unrebuilt t' p ≡ false

keeps_by : (t t' : TableState) → Stays t t' → LawfulState t' → Keeps t t'
keeps_by t t' a s = record { state = s; names = a.names; whole = a.whole }

pub rebuilds_keeps : (p : ℕ) (t t' : TableState) → LawfulState t → Rebuilds p t t' → Keeps t t' × (is_unrebuilt t' p ≡ false)
rebuilds_keeps p t t' s h = let a : Stays t t' × (is_unrebuilt t' p ≡ false) = rebuilds_stays p t t' h in (keeps_by t t' a.0 (rebuilds_goes standard StaysLawful (lawfully standard) p t t' h s), a.1)

pub all_keep : (ps : List ℕ) (t t' : TableState) → LawfulState t → RebuildsAll ps t t' → Keeps t t'
all_keep ps t t' s h = keeps_by t t' (all_stay ps t t' h) (all_go standard StaysLawful (lawfully standard) ps t t' h s)

pub all_whole : (ps : List ℕ) (t t' : TableState) → LawfulState t → RebuildsAll ps t t' → (q : ℕ) → has ps q ≡ true → is_unrebuilt t' q ≡ false
all_whole ps t t' s h = all_are_whole ps t t' h

-- the parts lie among the names
abbrev pub AreNamed : ℕ → List ℕ → Type 0
AreNamed n [] = Unit {0}
AreNamed n (p ∷ ps) = (1 ≤ p) × (p ≤ n) × AreNamed n ps

each_named : (n : ℕ) (ps : List ℕ) (q : ℕ) → AreNamed n ps → has ps q ≡ true → (1 ≤ q) × (q ≤ n)
each_named n [] q named h = absurd (no_true h)
each_named n (p ∷ ps) q named h = by_test (q == p) refl (each_named n ps q named.2) h
  where
    by_test : (b : Bool) → (q == p) ≡ b → (has ps q ≡ true → (1 ≤ q) × (q ≤ n)) → (if b then true else has ps q) ≡ true → (1 ≤ q) × (q ≤ n)
    by_test true e rest h = subst (λ k. (1 ≤ k) × (k ≤ n)) (sym (eqb-true q p e)) (named.0, named.1)
    by_test false e rest h = rest h

pub record Marked (x : TxnId) (d : Decision) (ps : List ℕ) (t t' : TableState) : Type 0 where
  pub keeps : Keeps t t'
  pub coord : t'.world.coord ≡ t.world.coord
  pub stand : (p : ℕ) → has ps p ≡ true → marker_of (part_skeletons t'.world p) x ≡ Some d

pub marks_keep : (x : TxnId) (d : Decision) (ps : List ℕ) (t t' : TableState) → LawfulState t → AreNamed (length t.world.names) ps → decision_of (log_of t.world) x ≡ Some d → MarksAll x d ps t t' → Marked x d ps t t'
marks_keep x d ps t t' s named decided h =
    let is : Ending x d ps t.world = record { decided = decided; each = λ p i. let range = each_named (length t.world.names) ps p named i in (range.0, inr range.1) } in
    let all : HaveMarkers x ps t t' = all_marked x d ps t t' is h in
    let state : LawfulState t' = marks_go standard StaysLawful (lawfully standard) x d ps t t' is h s in
    record {
      keeps = keeps_by t t' all.stays state;
      coord = all.coord;
      stand = λ p i. decided_marker t'.world x d p state.lawful (ap (λ cs. decision_of (coord_skeletons cs) x) all.coord ∙ decided) (all.stand p i);
    }
