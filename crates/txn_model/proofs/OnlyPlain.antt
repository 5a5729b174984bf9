-- Where nothing fails and every part is whole, the only answer beside want of memory is the plain one.
use Rattle.std.proofs.Common.{◌≡◌, ◌⊎◌, inl, inr, ℕ, Bool, true, List, [], ◌∷◌, None, sym, ap, ◌∙◌, subst}
use Rattle.txn_model.proofs.Words.{MatchBool, option_or, Limits, TxnId, Decision, Request, Reply, Outcome, Why, nowhere, decision_of, parts_of, log_of, TableState, with_batch, marked, rebuilt, is_unrebuilt, decision_batch, closing_batch, late_refusal, Rebuilds, RebuildsAll, RefusedAt, MarksAll, StopsAt, recovery_fault, recovery_memory, marker_memory, marker_fault, StopsWithin, Drives, already, closes, close_fault, stops, uses, Succeeds, Answers, early, unrecovered, unread, late, granted, no_memory, no_memory_later, all_marked, drive_by, drive_of, end_of, plain_success, or_refused, plain_answer}
use Rattle.txn_base.specs.declared.reply.Reply.TheVariants as reply
use Rattle.txn_base.specs.declared.reply.Refusal.TheVariants as no
use Rattle.txn_model.proofs.Bools.{no_true}
use Rattle.txn_model.proofs.Moves.{Way, by_row, is_idle, by_end, way}

-- this was told, and this stands afterwards
abbrev pub Is : {A : Type 0} → A → TableState → A × TableState → Type 0
Is told t' done = (told ≡ done.0) × (t' ≡ done.1)

rebuilds_same : (p : ℕ) (t t' : TableState) → t.unrebuilt ≡ nowhere → Rebuilds p t t' → t' ≡ t
rebuilds_same p t t' e h = subst (λ f. MatchBool (f p) ((stays : Bool) × (t' ≡ rebuilt p stays t)) (t' ≡ t)) e h

still : (t t' : TableState) → t' ≡ t → t.unrebuilt ≡ nowhere → t'.unrebuilt ≡ nowhere
still t t' m e = ap (λ s. s.unrebuilt) m ∙ e

all_same : (ps : List ℕ) (t t' : TableState) → t.unrebuilt ≡ nowhere → RebuildsAll ps t t' → t' ≡ t
all_same [] t t' e h = h
all_same (p ∷ ps) t t' e h = let m : h.0 ≡ t = rebuilds_same p t h.0 e h.1 in all_same ps h.0 t' (still t h.0 m e) h.2 ∙ m

not_unrebuilt : (p : ℕ) (t : TableState) → t.unrebuilt ≡ nowhere → is_unrebuilt t p ≡ true → ⊥
not_unrebuilt p t e h = no_true (sym (ap (λ f. f p) e) ∙ h)

not_refused : (ps : List ℕ) (p : ℕ) (t t' : TableState) → t.unrebuilt ≡ nowhere → RefusedAt ps p t t' → ⊥
not_refused [] p t t' e h = h
not_refused (q ∷ qs) p t t' e (inl h) = not_unrebuilt q t e h.1.0
not_refused (q ∷ qs) p t t' e (inr h) = not_refused qs p h.0 t' (still t h.0 (rebuilds_same q t h.0 e h.1) e) h.2

marks_same : (x : TxnId) (d : Decision) (ps : List ℕ) (t t' : TableState) → t.unrebuilt ≡ nowhere → MarksAll x d ps t t' → t' ≡ all_marked x d ps t
marks_same x d [] t t' e h = h
marks_same x d (p ∷ ps) t t' e h =
    let m : h.0 ≡ t = rebuilds_same p t h.0 e h.1 in
    marks_same x d ps (marked x d p h.0) t' (still t h.0 m e) h.2 ∙ ap (λ s. all_marked x d ps (marked x d p s)) m

module _ (rose : ℕ → Type 0) (quiet : (p : ℕ) → rose p → ⊥) where
  not_stopped : (x : TxnId) (d : Decision) (p : ℕ) (t : TableState) (reason : Why) (t' : TableState) → t.unrebuilt ≡ nowhere → StopsAt rose x d p t reason t' → ⊥
  not_stopped x d p t reason t' e (recovery_fault h r w) = not_unrebuilt p t e h.0
  not_stopped x d p t reason t' e (recovery_memory h w) = not_unrebuilt p t e h.0
  not_stopped x d p t reason t' e (marker_memory f r n w) = not_unrebuilt p t e f
  not_stopped x d p t reason t' e (marker_fault mid r n f s w) = quiet p f

  not_stopped_within : (x : TxnId) (d : Decision) (ps : List ℕ) (p : ℕ) (t : TableState) (reason : Why) (t' : TableState) → t.unrebuilt ≡ nowhere → StopsWithin rose x d ps p t reason t' → ⊥
  not_stopped_within x d [] p t reason t' e h = h
  not_stopped_within x d (q ∷ qs) p t reason t' e (inl h) = not_stopped x d q t reason t' e h.1
  not_stopped_within x d (q ∷ qs) p t reason t' e (inr h) = not_stopped_within x d qs p (marked x d q h.0) reason t' (still t h.0 (rebuilds_same q t h.0 e h.1) e) h.2

  drives_plain : (x : TxnId) (t : TableState) (outcome : Outcome) (t' : TableState) → t.unrebuilt ≡ nowhere → Drives rose x t outcome t' → Is outcome t' (drive_of x t)
  drives_plain x t outcome t' e (already d c o s) =
      subst (λ k. Is outcome t' (drive_by x t k (decision_of (log_of t.world) x))) (sym c) (o, s)
  drives_plain x t outcome t' e (closes d c k mid m o s) =
      subst (λ a. Is outcome t' (drive_by x t a (decision_of (log_of t.world) x))) (sym c)
      (subst (λ b. Is outcome t' (drive_by x t None b)) (sym k) (o, s ∙ ap (with_batch (closing_batch x d)) (marks_same x d (parts_of (log_of t.world) x) t mid e m)))
  drives_plain x t outcome t' e (close_fault d c k mid m f o s) = absurd (quiet 0 f)
  drives_plain x t outcome t' e (stops d c k p reason h o) = absurd (not_stopped_within x d (parts_of (log_of t.world) x) p t reason t' e h)

  way_plain : (limits : Limits) (t : TableState) (r : Request) (told : Reply) (t' : TableState) → t.unrebuilt ≡ nowhere → Way limits rose t r told t' → Is told t' (plain_success limits t r)
  way_plain limits t r told t' e (by_row plain safe (inl h)) = subst (Is told t') (sym plain) h
  way_plain limits t r told t' e (by_row plain safe (inr h)) = absurd (quiet h.0 h.2)
  way_plain limits t r told t' e (is_idle plain o s) = subst (Is told t') (sym plain) (o, s)
  way_plain limits t r told t' e (by_end x d say safe plain u (inl h)) =
      let s : Is h.0 t' (end_of t x d) = drives_plain x (with_batch (decision_batch t x d) t) h.0 t' e h.1 in
      let one : (told, t') ≡ plain_success limits t r = h.2 ∙ ap say (λ i. (s.0 i, s.1 i)) ∙ sym plain in
      (ap (λ o. o.0) one, ap (λ o. o.1) one)
  way_plain limits t r told t' e (by_end x d say safe plain u (inr h)) = absurd (quiet h.0 h.2)

  -- with every part whole and no fault, the answer is the plain one, or want of memory
  pub only_plain : (limits : Limits) (t : TableState) (r : Request) (told : Reply) (t' : TableState) → t.unrebuilt ≡ nowhere → Answers limits rose t r told t'
      → ((told ≡ reply.No no.NoMemory) ⊎ Is told t' (plain_answer limits t r))
  only_plain limits t r told t' e (early row h o s) =
      inr (subst (λ k. Is told t' (or_refused t (option_or k (late_refusal limits t r)) (plain_success limits t r))) (sym h) (o, s))
  only_plain limits t r told t' e (unrecovered h p f q o) = absurd (quiet p q)
  only_plain limits t r told t' e (unread h mid w g) = absurd (quiet g.0 g.2)
  only_plain limits t r told t' e (late h w row k o) =
      let m : t' ≡ t = all_same (uses t.world r) t t' e w in
      inr (subst (λ a. Is told t' (or_refused t (option_or a (late_refusal limits t r)) (plain_success limits t r))) (sym h)
      (subst (λ b. Is told t' (or_refused t b (plain_success limits t r))) (sym (ap (λ s. late_refusal limits s r) (sym m) ∙ k)) (o, m)))
  only_plain limits t r told t' e (granted h mid w k g) =
      let m : mid ≡ t = all_same (uses t.world r) t mid e w in
      inr (subst (λ a. Is told t' (or_refused t (option_or a (late_refusal limits t r)) (plain_success limits t r))) (sym h)
      (subst (λ b. Is told t' (or_refused t b (plain_success limits t r))) (sym (ap (λ s. late_refusal limits s r) (sym m) ∙ k))
      (way_plain limits t r told t' e (way limits rose t r told t' (subst (λ s. Succeeds limits rose s r told t') m g)))))
  only_plain limits t r told t' e (no_memory o s) = inl o
  only_plain limits t r told t' e (no_memory_later h o w) = inl o
