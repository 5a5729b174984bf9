-- The drive of a transaction to its end is a list of core steps.
use Rattle.std.proofs.Common.{◌≡◌, inl, inr, ℕ, zero, suc, ◌+◌, ◌≤◌, ◌<◌, arith, ◌==◌, eq-eqb, Bool, true, false, if◌then◌else◌, List, [], ◌∷◌, length, Some, None, refl, sym, ap, ◌∙◌, subst}
use native.Mathlib.Decide.{ℕ_discrete}
use Rattle.std.specs.Prelude.{Option, is_none, is_some, filter}
use Rattle.txn_base.specs.declared.txn.TxnId.{TxnId}
use Rattle.txn_base.specs.declared.txn.Decision.{Decision}
use Rattle.txn_base.specs.declared.reply.Reply.{Reply}
use Rattle.txn_base.specs.declared.reply.Outcome.{Outcome}
use Rattle.txn_base.specs.declared.reply.Why.{Why}
use Rattle.txn_base.specs.Names.{is_sub}
use Rattle.txn_model.specs.declared.world.World.{World}
use Rattle.txn_model.specs.Words.{has, numbers_from}
use Rattle.txn_model.specs.Skeletons.{coord_skeletons}
use Rattle.txn_model.specs.Names.{name_of}
use Rattle.txn_model.specs.Coord.{status_of, is_open, decision_of, closing_of, in_parts, parts_of}
use Rattle.txn_model.specs.Topic.{marker_of}
use Rattle.txn_model.specs.World.{log_of, part_skeletons, Lawful}
use Rattle.txn_model.specs.Table.{TableState, nothing, in_coord, in_topic, in_sub, batch_part, with_batch, is_unrebuilt, decision_entry, decision_batch, closing_batch, topic_marker, ack_marker, marker_batch, given_after, marked}
use Rattle.txn_model.specs.Drive.{Rebuilds, MarksAll, StopsAt, recovery_fault, recovery_memory, marker_memory, marker_fault, StopsWithin, Drives, already, closes, close_fault, stops}
use Rattle.txn_model.specs.Answers.{AppendFails, Ends}
use Rattle.txn_model.specs.Allowed.{IsPartRebuilt, LawfulState}
use Rattle.txn_model.proofs.Laws.Tests.{no_true}
use Rattle.txn_model.proofs.Laws.States.{settled_state, Keeps, rebuilds_keeps, rebuilds_coord, AreNamed, Marked, marks_keep}
use Rattle.txn_model.proofs.Laws.Grants.{marker_granted, closing_allowed, Granted, decision_granted}
use Rattle.txn_model.proofs.Laws.Names.{few_names}
use Rattle.txn_core.specs.Tables.{FitsOneBatch}
use Rattle.txn_core.proofs.Asked.{parts_within}
use Rattle.txn_core.proofs.Led.{Led, both_led, eq_led, settled_led, given_led, batch_led, rebuilds_led, unrebuilt_led, fails_led}

-- ---- Markers.

marker_whole : (t : TableState) (x : TxnId) (d : Decision) (p : ℕ) → is_unrebuilt t p ≡ false → IsPartRebuilt (marker_batch t x d p) t
marker_whole t x d p h = by_test (is_some (marker_of (part_skeletons t.world p) x)) (is_sub (name_of t.world.names p))
  where
    by_test : (b c : Bool) → IsPartRebuilt (if b then nothing else (if c then in_sub p (ack_marker x d) else in_topic p (topic_marker x d ∷ []))) t
    by_test true c = tt
    by_test false true = h
    by_test false false = h

marker_short : (t : TableState) (x : TxnId) (d : Decision) (p : ℕ) → FitsOneBatch (marker_batch t x d p)
marker_short t x d p = by_test (is_some (marker_of (part_skeletons t.world p) x)) (is_sub (name_of t.world.names p))
  where
    by_test : (b c : Bool) → FitsOneBatch (if b then nothing else (if c then in_sub p (ack_marker x d) else in_topic p (topic_marker x d ∷ [])))
    by_test true c = omega arith
    by_test false true = omega arith
    by_test false false = omega arith

marker_part : (t : TableState) (x : TxnId) (d : Decision) (p : ℕ) → is_none (marker_of (part_skeletons t.world p) x) ≡ true → batch_part (marker_batch t x d p) ≡ Some p
marker_part t x d p h = by_test (marker_of (part_skeletons t.world p) x) (is_sub (name_of t.world.names p)) h
  where
    by_test : (o : Option Decision) (c : Bool) → is_none o ≡ true → batch_part (if is_some o then nothing else (if c then in_sub p (ack_marker x d) else in_topic p (topic_marker x d ∷ []))) ≡ Some p
    by_test (Some e) c h = absurd (no_true h)
    by_test None true h = refl
    by_test None false h = refl

-- one part is whole and gets its marker
record Step (x : TxnId) (d : Decision) (p : ℕ) (t mid : TableState) : Type 0 where
  marks : Marked x d (p ∷ []) t (marked x d p mid)
  led : Led t (marked x d p mid)

marked_step : (x : TxnId) (d : Decision) (p : ℕ) (t mid : TableState) → LawfulState t → 1 ≤ p → p ≤ length t.world.names → decision_of (log_of t.world) x ≡ Some d → Rebuilds p t mid → Step x d p t mid
marked_step x d p t mid s low high decided h =
    let r : Keeps t mid × (is_unrebuilt mid p ≡ false) = rebuilds_keeps p t mid s h in
    let still : decision_of (log_of mid.world) x ≡ Some d = subst (λ cs. decision_of (coord_skeletons cs) x ≡ Some d) (sym (rebuilds_coord p t mid low h)) decided in
    let up : p ≤ length mid.world.names = subst (λ names. p ≤ length names) (sym r.0.names) high in
    record {
      marks = marks_keep x d (p ∷ []) t (marked x d p mid) s (low, high, tt) decided (mid, h, refl);
      led = both_led t mid (marked x d p mid) (rebuilds_led p t mid s h)
          (given_led (marker_batch mid x d p) mid (given_after mid x d p) r.0.state (marker_granted mid x d p r.0.state.lawful low up still) (marker_whole mid x d p r.1) (marker_short mid x d p));
    }

marks_led : (x : TxnId) (d : Decision) (ps : List ℕ) (t t' : TableState) → LawfulState t → AreNamed (length t.world.names) ps → decision_of (log_of t.world) x ≡ Some d → MarksAll x d ps t t' → Led t t'
marks_led x d [] t t' s named decided h = eq_led t t' h
marks_led x d (p ∷ ps) t t' s named decided h =
    let m : Step x d p t h.0 = marked_step x d p t h.0 s named.0 named.1 decided h.1 in
    both_led t (marked x d p h.0) t' m.led
    (marks_led x d ps (marked x d p h.0) t' m.marks.keeps.state (subst (λ names. AreNamed (length names) ps) (sym m.marks.keeps.names) named.2)
    (subst (λ cs. decision_of (coord_skeletons cs) x ≡ Some d) (sym m.marks.coord) decided) h.2)

module _ (rose : ℕ → Type 0) where
  stop_led : (x : TxnId) (d : Decision) (p : ℕ) (t : TableState) (reason : Why) (t' : TableState) → LawfulState t → 1 ≤ p → p ≤ length t.world.names → decision_of (log_of t.world) x ≡ Some d → StopsAt rose x d p t reason t' → Led t t'
  stop_led x d p t reason t' s low high decided (recovery_fault h r w) = unrebuilt_led p t t' s h
  stop_led x d p t reason t' s low high decided (recovery_memory h w) = unrebuilt_led p t t' s h
  stop_led x d p t reason t' s low high decided (marker_memory f r n w) = rebuilds_led p t t' s r
  stop_led x d p t reason t' s low high decided (marker_fault mid r n z e w) =
      let k : Keeps t mid × (is_unrebuilt mid p ≡ false) = rebuilds_keeps p t mid s r in
      let still : decision_of (log_of mid.world) x ≡ Some d = subst (λ cs. decision_of (coord_skeletons cs) x ≡ Some d) (sym (rebuilds_coord p t mid low r)) decided in
      let g : Granted (marker_batch mid x d p) mid.world = marker_granted mid x d p k.0.state.lawful low (subst (λ names. p ≤ length names) (sym k.0.names) high) still in
      both_led t mid t' (rebuilds_led p t mid s r)
      (subst (Led mid) (sym e) (batch_led (marker_batch mid x d p) p mid (marker_part mid x d p n) k.0.state g (marker_whole mid x d p k.1) (marker_short mid x d p)))

  stops_led : (x : TxnId) (d : Decision) (ps : List ℕ) (p : ℕ) (t : TableState) (reason : Why) (t' : TableState) → LawfulState t → AreNamed (length t.world.names) ps → decision_of (log_of t.world) x ≡ Some d
      → StopsWithin rose x d ps p t reason t' → Led t t'
  stops_led x d [] p t reason t' s named decided h = absurd h
  stops_led x d (q ∷ qs) p t reason t' s named decided (inl h) = stop_led x d q t reason t' s named.0 named.1 decided h.1
  stops_led x d (q ∷ qs) p t reason t' s named decided (inr h) =
      let m : Step x d q t h.0 = marked_step x d q t h.0 s named.0 named.1 decided h.1 in
      both_led t (marked x d q h.0) t' m.led
      (stops_led x d qs p (marked x d q h.0) reason t' m.marks.keeps.state (subst (λ names. AreNamed (length names) qs) (sym m.marks.keeps.names) named.2)
      (subst (λ cs. decision_of (coord_skeletons cs) x ≡ Some d) (sym m.marks.coord) decided) h.2)

-- ---- The parts of a transaction.

filter_named : (n : ℕ) (f : ℕ → Bool) (ks : List ℕ) → ((q : ℕ) → f q ≡ true → (1 ≤ q) × (q ≤ n)) → AreNamed n (filter f ks)
filter_named n f [] each = tt
filter_named n f (k ∷ ks) each = by_test (f k) refl (filter_named n f ks each)
  where
    by_test : (b : Bool) → f k ≡ b → AreNamed n (filter f ks) → AreNamed n (if b then k ∷ filter f ks else filter f ks)
    by_test true e rest = let r = each k e in (r.0, r.1, rest)
    by_test false e rest = rest

parts_named : (w : World) (x : TxnId) → Lawful w → AreNamed (length w.names) (parts_of (log_of w) x)
parts_named w x l = filter_named (length w.names) (in_parts (log_of w) x) (numbers_from 1 62) (λ q i. parts_within (length w.names) (log_of w) x q l.coord i)

pub has_first : (q : ℕ) (ks : List ℕ) → has (q ∷ ks) q ≡ true
has_first q ks = ap (λ b. if b then true else has ks q) (eq-eqb q q refl)

pub has_later : (k q : ℕ) (ks : List ℕ) → has ks q ≡ true → has (k ∷ ks) q ≡ true
has_later k q ks h = by_test (q == k)
  where
    by_test : (b : Bool) → (if b then true else has ks q) ≡ true
    by_test true = refl
    by_test false = h

filter_has : (f : ℕ → Bool) (k count q : ℕ) → k ≤ q → q < k + count → f q ≡ true → has (filter f (numbers_from k count)) q ≡ true
filter_has f k zero q low high h = absurd (omega (arith, low, high))
filter_has f k (suc count) q low high h =
    elim (ℕ_discrete q k) [
      | yes e ↦ here (f k) (subst (λ j. f j ≡ true) e h) e
      | no m ↦ there (f k) (filter_has f (suc k) count q (omega (arith, low, m)) (omega (arith, high)) h)
    ]
  where
    rest : List ℕ
    rest = filter f (numbers_from (suc k) count)

    here : (b : Bool) → b ≡ true → q ≡ k → has (if b then k ∷ rest else rest) q ≡ true
    here true e z = subst (λ j. has (j ∷ rest) q ≡ true) z (has_first q rest)
    here false e z = absurd (no_true e)

    there : (b : Bool) → has rest q ≡ true → has (if b then k ∷ rest else rest) q ≡ true
    there true t = has_later k q rest t
    there false t = t

among_parts : (w : World) (x : TxnId) (p : ℕ) → Lawful w → in_parts (log_of w) x p ≡ true → has (parts_of (log_of w) x) p ≡ true
among_parts w x p l h =
    let range : (1 ≤ p) × (p ≤ length w.names) = parts_within (length w.names) (log_of w) x p l.coord h in
    let few : length w.names ≤ 62 = few_names w.names l.names in
    filter_has (in_parts (log_of w) x) 1 62 p range.0 (omega (arith, range.1, few)) h

closing_granted : (x : TxnId) (d : Decision) (t mid : TableState) → LawfulState t → closing_of (log_of t.world) x ≡ None → decision_of (log_of t.world) x ≡ Some d → Marked x d (parts_of (log_of t.world) x) t mid → Granted (closing_batch x d) mid.world
closing_granted x d t mid s unclosed decided m =
    let log : log_of mid.world ≡ log_of t.world = ap coord_skeletons m.coord in
    record {
      fits = tt;
      allowed = closing_allowed mid.world x d m.keeps.state.lawful (ap (λ c. closing_of c x) log ∙ unclosed) (ap (λ c. decision_of c x) log ∙ decided)
          (λ p i. m.stand p (among_parts t.world x p s.lawful (subst (λ c. in_parts c x p ≡ true) log i)));
    }

-- ---- The decision, and the drive.

decision_whole : (t : TableState) (x : TxnId) (d : Decision) → is_unrebuilt t 0 ≡ false → IsPartRebuilt (decision_batch t x d) t
decision_whole t x d whole = by_test (is_open (status_of (log_of t.world) x))
  where
    by_test : (b : Bool) → IsPartRebuilt (if b then in_coord (decision_entry x d) else nothing) t
    by_test true = whole
    by_test false = tt

decision_short : (t : TableState) (x : TxnId) (d : Decision) → FitsOneBatch (decision_batch t x d)
decision_short t x d = by_test (is_open (status_of (log_of t.world) x))
  where
    by_test : (b : Bool) → FitsOneBatch (if b then in_coord (decision_entry x d) else nothing)
    by_test true = omega arith
    by_test false = omega arith

drive_led : (rose : ℕ → Type 0) (x : TxnId) (t : TableState) (outcome : Outcome) (t' : TableState) → LawfulState t → is_unrebuilt t 0 ≡ false → Drives rose x t outcome t' → Led t t'
drive_led rose x t outcome t' s whole (already d c o e) = eq_led t t' e
drive_led rose x t outcome t' s whole (closes d c k mid h o e) =
    let m : Marked x d (parts_of (log_of t.world) x) t mid = marks_keep x d (parts_of (log_of t.world) x) t mid s (parts_named t.world x s.lawful) k h in
    let g : Granted (closing_batch x d) mid.world = closing_granted x d t mid s c k m in
    both_led t mid t' (marks_led x d (parts_of (log_of t.world) x) t mid s (parts_named t.world x s.lawful) k h)
    (subst (Led mid) (sym e) (settled_led (closing_batch x d) mid m.keeps.state g (m.keeps.whole 0 whole) (omega arith)))
drive_led rose x t outcome t' s whole (close_fault d c k mid h f o e) =
    let m : Marked x d (parts_of (log_of t.world) x) t mid = marks_keep x d (parts_of (log_of t.world) x) t mid s (parts_named t.world x s.lawful) k h in
    let g : Granted (closing_batch x d) mid.world = closing_granted x d t mid s c k m in
    both_led t mid t' (marks_led x d (parts_of (log_of t.world) x) t mid s (parts_named t.world x s.lawful) k h)
    (subst (Led mid) (sym e) (batch_led (closing_batch x d) 0 mid refl m.keeps.state g (m.keeps.whole 0 whole) (omega arith)))
drive_led rose x t outcome t' s whole (stops d c k p reason h o) =
    stops_led rose x d (parts_of (log_of t.world) x) p t reason t' s (parts_named t.world x s.lawful) k h

pub end_led : (rose : ℕ → Type 0) (t : TableState) (x : TxnId) (d : Decision) (outcome : Outcome) (t' : TableState) → LawfulState t → is_unrebuilt t 0 ≡ false → Ends rose t x d outcome t' → Led t t'
end_led rose t x d outcome t' s whole h =
    let g : Granted (decision_batch t x d) t.world = decision_granted t x d s.lawful in
    let mid : TableState = with_batch (decision_batch t x d) t in
    both_led t mid t' (settled_led (decision_batch t x d) t s g (decision_whole t x d whole) (decision_short t x d))
    (drive_led rose x mid outcome t' (settled_state (decision_batch t x d) t s g.fits (decision_whole t x d whole) g.allowed) whole h)

pub decides_led : (rose : ℕ → Type 0) (t : TableState) (x : TxnId) (d : Decision) (told : Reply) (t' : TableState) → LawfulState t → is_unrebuilt t 0 ≡ false → AppendFails rose (decision_batch t x d) t told t' → Led t t'
decides_led rose t x d told t' s whole h = fails_led rose (decision_batch t x d) t told t' s (decision_granted t x d s.lawful) (decision_whole t x d whole) (decision_short t x d) h
