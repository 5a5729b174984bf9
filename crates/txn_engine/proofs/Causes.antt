-- A refusal comes exactly by its row.
use Rattle.std.proofs.Common.{◌≡◌, ◌⊎◌, inl, inr, ℕ, Bool, true, false, if◌then◌else◌, List, [], ◌∷◌, Option, Some, None, MatchBool, refl, sym, ap, ◌∙◌, subst}
use Rattle.std.specs.Option.{option_or}
use Rattle.txn_base.specs.declared.limits.Limits.{Limits}
use Rattle.txn_base.specs.declared.request.Request.{Request}
use Rattle.txn_base.specs.declared.request.Request.TheVariants as request
use Rattle.txn_base.specs.declared.reply.Reply.{Reply}
use Rattle.txn_base.specs.declared.reply.Reply.TheVariants as reply
use Rattle.txn_base.specs.declared.reply.Refusal.{Refusal}
use Rattle.txn_base.specs.declared.reply.Refusal.TheVariants as no
use Rattle.txn_model.specs.declared.world.World.{World}
use Rattle.txn_model.specs.Answers.{Answers, AnswersAt, AppendFails, Succeeds, early, unrecovered, unread, late, granted, no_memory, no_memory_later, read_topic, uses, reads_clock, moved}
use Rattle.txn_model.specs.Drive.{Rebuilds, RebuildsAll, RefusedAt}
use Rattle.txn_model.specs.EarlyRows.{early_refusal}
use Rattle.txn_model.specs.LateRows.{late_refusal}
use Rattle.txn_model.specs.Names.{name_of}
use Rattle.txn_model.specs.Replies.{is_fault}
use Rattle.txn_model.specs.Successes.{success_of}
use Rattle.txn_model.specs.Table.{TableState, EntryBatch, is_unrebuilt, at_moment}
use Rattle.txn_engine.specs.Causes.{first_refusal, IsByRow}
use Rattle.txn_engine.specs.Table.{table_of}
use Rattle.txn_engine.specs.Told.{IsAsked}
use Rattle.txn_engine.specs.View.{EngineView, IsWhole}
use Rattle.txn_engine.proofs.Opened.{not_unrebuilt}

same_row : (a b : Refusal) → reply.No a ≡ reply.No b → a ≡ b
same_row a b e = cc

same_some : (a b : Refusal) → Some a ≡ Some b → a ≡ b
same_some a b e = cc

none_some : (a : Refusal) → None ≡ Some a → ⊥
none_some a e = cc

not_both : {b : Bool} → b ≡ true → b ≡ false → ⊥
not_both e h = cc

-- a fault, or want of memory, isn't by a row
by_row : (a row : Refusal) → (IsByRow a → ⊥) → IsByRow row → (told : Reply) → told ≡ reply.No a → told ≡ reply.No row → ⊥
by_row a row none by told e is = none (subst IsByRow (sym (same_row a row (sym e ∙ is))) by)

-- It isn't that of a fault.
abbrev NotFault : Refusal → Type 0
NotFault row = (part : List ℕ) → row ≡ no.Fault part → ⊥

by_not_fault : (row : Refusal) → IsByRow row → NotFault row
by_not_fault row by part e = subst IsByRow e by

pub quiet_not_fault : (row : Refusal) (told : Reply) → told ≡ reply.No row → is_fault told ≡ false → NotFault row
quiet_not_fault row told is quiet part e = not_both (ap (λ (x : Refusal). is_fault (reply.No x)) e) (ap is_fault (sym is) ∙ quiet)

fault_told : (part : List ℕ) (row : Refusal) → NotFault row → (told : Reply) → told ≡ reply.No (no.Fault part) → told ≡ reply.No row → ⊥
fault_told part row not told e is = not part (same_row row (no.Fault part) (sym is ∙ e))

-- ---- What a request that isn't refused is told.

fails_not : (rose : ℕ → Type 0) (b : EntryBatch) (t : TableState) (told : Reply) (t' : TableState) → AppendFails rose b t told t' → (row : Refusal) → NotFault row → told ≡ reply.No row → ⊥
fails_not rose b t told t' h row not is = fault_told (name_of t.world.names h.0) row not told h.3 is

-- a reply that tells something else than a refusal
abbrev is_refusal : Reply → Bool
is_refusal (reply.No row) = true
is_refusal _ = false

other_reply : (told said : Reply) (row : Refusal) → is_refusal said ≡ false → told ≡ said → told ≡ reply.No row → ⊥
other_reply told said row kind e is = not_both (sym (ap is_refusal (sym is ∙ e))) kind

success_not : (limits : Limits) (rose : ℕ → Type 0) (t : TableState) (r : Request) → IsAsked r → (told : Reply) (t' : TableState) → Succeeds limits rose t r told t' → (row : Refusal) → NotFault row → told ≡ reply.No row → ⊥
success_not limits rose t (request.New timeout) asked told t' (inl h) row by is = other_reply told (success_of limits t (request.New timeout)).reply row refl h.0 is
success_not limits rose t (request.New timeout) asked told t' (inr h) row by is = fails_not rose (success_of limits t (request.New timeout)).adds t told t' h row by is
success_not limits rose t (request.Add x part) asked told t' (inl h) row by is = other_reply told (success_of limits t (request.Add x part)).reply row refl h.0 is
success_not limits rose t (request.Add x part) asked told t' (inr h) row by is = fails_not rose (success_of limits t (request.Add x part)).adds t told t' h row by is
success_not limits rose t (request.Publish topic who bodies) asked told t' (inl h) row by is = other_reply told (success_of limits t (request.Publish topic who bodies)).reply row refl h.0 is
success_not limits rose t (request.Publish topic who bodies) asked told t' (inr h) row by is = fails_not rose (success_of limits t (request.Publish topic who bodies)).adds t told t' h row by is
success_not limits rose t (request.Read topic first max) asked told t' (inl h) row by is = other_reply told (success_of limits t (request.Read topic first max)).reply row refl h.0 is
success_not limits rose t (request.Read topic first max) asked told t' (inr h) row by is = fails_not rose (success_of limits t (request.Read topic first max)).adds t told t' h row by is
success_not limits rose t (request.Status x) asked told t' (inl h) row by is = other_reply told (success_of limits t (request.Status x)).reply row refl h.0 is
success_not limits rose t (request.Status x) asked told t' (inr h) row by is = fails_not rose (success_of limits t (request.Status x)).adds t told t' h row by is
success_not limits rose t (request.Commit x) asked told t' (inl h) row by is = other_reply told _ row refl h.2 is
success_not limits rose t (request.Commit x) asked told t' (inr h) row by is = fails_not rose _ t told t' h row by is
success_not limits rose t (request.Abort x) asked told t' (inl h) row by is = other_reply told _ row refl h.2 is
success_not limits rose t (request.Abort x) asked told t' (inr h) row by is = fails_not rose _ t told t' h row by is
success_not limits rose t (request.Ack sub x places) asked told t' h row by is = asked
success_not limits rose t (request.AckUpTo sub x place) asked told t' h row by is = asked
success_not limits rose t (request.Receive sub max) asked told t' h row by is = asked
success_not limits rose t (request.Redeliver sub) asked told t' h row by is = asked
success_not limits rose t request.Tick asked told t' h row by is = asked
success_not limits rose t request.Stop asked told t' h row by is = asked

-- a read is refused by none of the later rows
read_free : (limits : Limits) (t : TableState) (w : World) (r : Request) (p : ℕ) → IsAsked r → read_topic w r ≡ Some p → late_refusal limits t r ≡ None
read_free limits t w (request.Read topic first max) p asked e = refl
read_free limits t w (request.New timeout) p asked e = cc
read_free limits t w (request.Add x part) p asked e = cc
read_free limits t w (request.Publish topic who bodies) p asked e = cc
read_free limits t w (request.Status x) p asked e = cc
read_free limits t w (request.Commit x) p asked e = cc
read_free limits t w (request.Abort x) p asked e = cc
read_free limits t w (request.Ack sub x places) p asked e = absurd asked
read_free limits t w (request.AckUpTo sub x place) p asked e = absurd asked
read_free limits t w (request.Receive sub max) p asked e = absurd asked
read_free limits t w (request.Redeliver sub) p asked e = absurd asked
read_free limits t w request.Tick p asked e = absurd asked
read_free limits t w request.Stop p asked e = absurd asked

-- ---- Over a table whose parts are rebuilt.

module _ (limits : Limits) (rose : ℕ → Type 0) (t : TableState) (whole : (p : ℕ) → is_unrebuilt t p ≡ false) (r : Request) (asked : IsAsked r) where
  rebuilds_same : (p : ℕ) (mid : TableState) → Rebuilds p t mid → mid ≡ t
  rebuilds_same p mid h = by_test (is_unrebuilt t p) _ (whole p) h
    where
      by_test : (b : Bool) (A : Type 0) → b ≡ false → MatchBool b A (mid ≡ t) → mid ≡ t
      by_test true A e h = absurd (not_both refl e)
      by_test false A e h = h

  all_same : (ps : List ℕ) (t' : TableState) → RebuildsAll ps t t' → t' ≡ t
  all_same [] t' h = h
  all_same (p ∷ ps) t' h = all_same ps t' (subst (λ (s : TableState). RebuildsAll ps s t') (rebuilds_same p h.0 h.1) h.2)

  never_refused : (ps : List ℕ) (p : ℕ) (t' : TableState) → RefusedAt ps p t t' → ⊥
  never_refused [] p t' h = h
  never_refused (q ∷ qs) p t' (inl h) = not_both h.1.0 (whole q)
  never_refused (q ∷ qs) p t' (inr h) = never_refused qs p t' (subst (λ (s : TableState). RefusedAt qs p s t') (rebuilds_same q h.0 h.1) h.2)

  abbrev row_here : Option Refusal
  row_here = first_refusal limits t r

  by_early : (o : Option Refusal) → early_refusal limits t.world r ≡ o → row_here ≡ option_or o (late_refusal limits t r)
  by_early o e = ap (λ (x : Option Refusal). option_or x (late_refusal limits t r)) e

  by_late : (t' : TableState) → RebuildsAll (uses t.world r) t t' → (o : Option Refusal) → late_refusal limits t' r ≡ o → late_refusal limits t r ≡ o
  by_late t' all o l = subst (λ (s : TableState). late_refusal limits s r ≡ o) (all_same (uses t.world r) t' all) l

  -- it is told by its row alone
  pub by_its_row : (told : Reply) (t' : TableState) → Answers limits rose t r told t' → (row : Refusal) → IsByRow row → told ≡ reply.No row → row_here ≡ Some row
  by_its_row told t' (early first e o s) row by is = by_early (Some first) e ∙ ap (λ (x : Refusal). Some x) (same_row first row (sym o ∙ is))
  by_its_row told t' (unrecovered e p h grew o) row by is = absurd (never_refused (uses t.world r) p t' h)
  by_its_row told t' (unread e mid all h) row by is = absurd (by_row (no.Fault (name_of mid.world.names h.0)) row (λ x. x) by told h.3 is)
  by_its_row told t' (late e all first l o) row by is = by_early None e ∙ by_late t' all (Some first) l ∙ ap (λ (x : Refusal). Some x) (same_row first row (sym o ∙ is))
  by_its_row told t' (granted e mid all l s) row by is = absurd (success_not limits rose mid r asked told t' s row (by_not_fault row by) is)
  by_its_row told t' (no_memory o s) row by is = absurd (by_row no.NoMemory row (λ x. x) by told o is)
  by_its_row told t' (no_memory_later e o s) row by is = absurd (by_row no.NoMemory row (λ x. x) by told o is)

  -- where its row is the first, it is told, unless memory runs out
  pub row_is_told : (told : Reply) (t' : TableState) → Answers limits rose t r told t' → (row : Refusal) → row_here ≡ Some row → (told ≡ reply.No row) ⊎ (told ≡ reply.No no.NoMemory)
  row_is_told told t' (early first e o s) row is = inl (o ∙ ap (λ (x : Refusal). reply.No x) (same_some first row (sym (by_early (Some first) e) ∙ is)))
  row_is_told told t' (unrecovered e p h grew o) row is = absurd (never_refused (uses t.world r) p t' h)
  row_is_told told t' (unread e mid all h) row is = absurd (none_some row (sym (by_early None e ∙ read_free limits t mid.world r h.0 asked h.1) ∙ is))
  row_is_told told t' (late e all first l o) row is = inl (o ∙ ap (λ (x : Refusal). reply.No x) (same_some first row (sym (by_early None e ∙ by_late t' all (Some first) l) ∙ is)))
  row_is_told told t' (granted e mid all l s) row is = absurd (none_some row (sym (by_early None e ∙ by_late mid all None l) ∙ is))
  row_is_told told t' (no_memory o s) row is = inr o
  row_is_told told t' (no_memory_later e o s) row is = inr o

  -- what is refused leaves the table as it was, but for a fault
  pub refused_changes_nothing : (told : Reply) (t' : TableState) → Answers limits rose t r told t' → (row : Refusal) → NotFault row → told ≡ reply.No row → t' ≡ t
  refused_changes_nothing told t' (early first e o s) row not is = s
  refused_changes_nothing told t' (unrecovered e p h grew o) row not is = absurd (never_refused (uses t.world r) p t' h)
  refused_changes_nothing told t' (unread e mid all h) row not is = absurd (fault_told (name_of mid.world.names h.0) row not told h.3 is)
  refused_changes_nothing told t' (late e all first l o) row not is = all_same (uses t.world r) t' all
  refused_changes_nothing told t' (granted e mid all l s) row not is = absurd (success_not limits rose mid r asked told t' s row not is)
  refused_changes_nothing told t' (no_memory o s) row not is = s
  refused_changes_nothing told t' (no_memory_later e o (inl h)) row not is = absurd (never_refused (uses t.world r) h.0 t' h.1)
  refused_changes_nothing told t' (no_memory_later e o (inr all)) row not is = all_same (uses t.world r) t' all

-- ---- Over an engine whose parts are rebuilt, at a moment.

whole_moved : (v : EngineView) → IsWhole v → (r : Request) (m p : ℕ) → is_unrebuilt (moved r m (table_of v)) p ≡ false
whole_moved v whole r m p = by_test (reads_clock r)
  where
    by_test : (b : Bool) → is_unrebuilt (if b then at_moment m (table_of v) else table_of v) p ≡ false
    by_test true = not_unrebuilt v whole p
    by_test false = not_unrebuilt v whole p

module _ (v : EngineView) (whole : IsWhole v) (rose : ℕ → Type 0) (r : Request) (asked : IsAsked r) (m : ℕ) (told : Reply) (t' : TableState) (answers : AnswersAt v.limits rose (table_of v) r m told t') where
  pub rows_clause : (row : Refusal) → IsByRow row → told ≡ reply.No row → first_refusal v.limits (moved r m (table_of v)) r ≡ Some row
  rows_clause row by is = by_its_row v.limits rose (moved r m (table_of v)) (whole_moved v whole r m) r asked told t' answers row by is

  pub causes_clause : (row : Refusal) → first_refusal v.limits (moved r m (table_of v)) r ≡ Some row → (told ≡ reply.No row) ⊎ (told ≡ reply.No no.NoMemory)
  causes_clause row is = row_is_told v.limits rose (moved r m (table_of v)) (whole_moved v whole r m) r asked told t' answers row is

  pub unchanged_clause : (row : Refusal) → told ≡ reply.No row → is_fault told ≡ false → t' ≡ moved r m (table_of v)
  unchanged_clause row is quiet = refused_changes_nothing v.limits rose (moved r m (table_of v)) (whole_moved v whole r m) r asked told t' answers row (quiet_not_fault row told is quiet) is
