-- A line whose parts are rebuilt first is told what it would be told over them.
use Rattle.std.proofs.Common.{◌≡◌, ◌⊎◌, inl, inr, ℕ, ◌==◌, Bool, true, false, if◌then◌else◌, List, [], ◌∷◌, Some, None, MatchBool, eq-eqb, refl, sym, ap, ◌∙◌, subst}
use Rattle.std.proofs.lemmas.Bool.{false≢true}
use Rattle.txn_base.specs.declared.limits.Limits.{Limits}
use Rattle.txn_base.specs.declared.request.Request.{Request}
use Rattle.txn_base.specs.declared.reply.Reply.{Reply}
use Rattle.txn_model.specs.Answers.{Answers, ReadFails, Succeeds, early, unrecovered, unread, late, granted, no_memory, no_memory_later, uses}
use Rattle.txn_model.specs.Drive.{Rebuilds, RebuildsAll, RefusedAt}
use Rattle.txn_model.specs.EarlyRows.{early_refusal}
use Rattle.txn_model.specs.LateRows.{late_refusal}
use Rattle.txn_model.specs.Table.{TableState, is_unrebuilt, rebuilt}
use Rattle.txn_model.specs.Words.{has}
use Rattle.txn_model.proofs.Laws.Grants.{early_same}
use Rattle.txn_model.proofs.Laws.States.{all_stay, all_are_whole, uses_same}

-- ---- Over parts that are whole, recovery changes nothing, and none is refused.

has_first : (p : ℕ) (ps : List ℕ) → has (p ∷ ps) p ≡ true
has_first p ps = ap (λ (b : Bool). if b then true else has ps p) (eq-eqb p p refl)

has_rest : (q p : ℕ) (ps : List ℕ) → has ps p ≡ true → has (q ∷ ps) p ≡ true
has_rest q p ps h = by_test (p == q) h
  where
    by_test : (b : Bool) → has ps p ≡ true → (if b then true else has ps p) ≡ true
    by_test true h = refl
    by_test false h = h

abbrev AreWhole : List ℕ → TableState → Type 0
AreWhole ps t = (p : ℕ) → has ps p ≡ true → is_unrebuilt t p ≡ false

rebuilds_none : (p : ℕ) (t t' : TableState) → is_unrebuilt t p ≡ false → Rebuilds p t t' → t' ≡ t
rebuilds_none p t t' whole h = subst (λ (b : Bool). MatchBool b ((stays : Bool) × (t' ≡ rebuilt p stays t)) (t' ≡ t)) whole h

all_none : (ps : List ℕ) (t t' : TableState) → AreWhole ps t → RebuildsAll ps t t' → t' ≡ t
all_none [] t t' whole h = h
all_none (p ∷ ps) t t' whole h =
    let same : h.0 ≡ t = rebuilds_none p t h.0 (whole p (has_first p ps)) h.1 in
    all_none ps h.0 t' (subst (AreWhole ps) (sym same) (λ q i. whole q (has_rest p q ps i))) h.2 ∙ same

none_refused : (ps : List ℕ) (p : ℕ) (t t' : TableState) → AreWhole ps t → RefusedAt ps p t t' → ⊥
none_refused [] p t t' whole h = absurd h
none_refused (q ∷ qs) p t t' whole (inl h) = absurd (false≢true (sym (whole q (has_first q qs)) ∙ h.1.0))
none_refused (q ∷ qs) p t t' whole (inr h) =
    let same : h.0 ≡ t = rebuilds_none q t h.0 (whole q (has_first q qs)) h.1 in
    none_refused qs p h.0 t' (subst (AreWhole qs) (sym same) (λ k i. whole k (has_rest q k qs i))) h.2

-- ---- A line.

module _ (limits : Limits) (rose : ℕ → Type 0) (t mid : TableState) (r : Request) (none : early_refusal limits t.world r ≡ None) (all : RebuildsAll (uses t.world r) t mid) where
  after_names : mid.world.names ≡ t.world.names
  after_names = (all_stay (uses t.world r) t mid all).names

  after_whole : AreWhole (uses mid.world r) mid
  after_whole p i = all_are_whole (uses t.world r) t mid all p (subst (λ (ps : List ℕ). has ps p ≡ true) (uses_same t.world mid.world r after_names) i)

  after_same : (u : TableState) → RebuildsAll (uses mid.world r) mid u → u ≡ mid
  after_same u h = all_none (uses mid.world r) mid u after_whole h

  -- what it is told over the parts that it uses, where these were rebuilt, it is told of the whole line
  pub answers_after : (told : Reply) (t' : TableState) → Answers limits rose mid r told t' → Answers limits rose t r told t'
  answers_after told t' (early row h o s) = absurd (apart (sym (early_same limits t.world mid.world r after_names none) ∙ h))
    where
      apart : {A : Type 0} {x : A} → None ≡ Some x → ⊥
      apart e = cc
  answers_after told t' (unrecovered h p f q o) = absurd (none_refused (uses mid.world r) p mid t' after_whole f)
  answers_after told t' (unread h mid' w g) = unread none mid all (subst (λ (u : TableState). ReadFails rose u r told t') (after_same mid' w) g)
  answers_after told t' (late h w row k o) = late none (subst (RebuildsAll (uses t.world r) t) (sym (after_same t' w)) all) row k o
  answers_after told t' (granted h mid' w k g) =
      granted none mid all (subst (λ (u : TableState). late_refusal limits u r ≡ None) (after_same mid' w) k) (subst (λ (u : TableState). Succeeds limits rose u r told t') (after_same mid' w) g)
  answers_after told t' (no_memory o s) = no_memory_later none o (inr (subst (RebuildsAll (uses t.world r) t) (sym s) all))
  answers_after told t' (no_memory_later h o (inl f)) = absurd (none_refused (uses mid.world r) f.0 mid t' after_whole f.1)
  answers_after told t' (no_memory_later h o (inr w)) = no_memory_later none o (inr (subst (RebuildsAll (uses t.world r) t) (sym (after_same t' w)) all))
