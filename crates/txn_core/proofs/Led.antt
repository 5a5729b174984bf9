-- Changes of the table's state that are lists of core steps, one after another, and those of recovery.
use Rattle.std.proofs.Common.{◌≡◌, inl, inr, ℕ, Bool, true, false, List, [], ◌∷◌, length, Some, refl, sym, ◌∙◌, subst}
use Rattle.std.specs.Prelude.{MatchBool}
use Rattle.txn_base.specs.declared.reply.Reply.{Reply}
use Rattle.txn_model.specs.declared.world.World.{World}
use Rattle.txn_model.specs.Table.{TableState, EntryBatch, nothing, in_coord, in_topic, in_sub, batch_part, world_with, with_batch, with_failed_batch, resolved, rebuilt, is_unrebuilt}
use Rattle.txn_model.specs.Drive.{Rebuilds, RebuildsAll, StaysUnrebuilt, RefusedAt}
use Rattle.txn_model.specs.Answers.{AppendFails}
use Rattle.txn_model.specs.Allowed.{IsPartRebuilt, LawfulState}
use Rattle.txn_model.proofs.Laws.States.{Keeps, rebuilds_keeps}
use Rattle.txn_model.proofs.Laws.Grants.{Granted}
use Rattle.txn_core.specs.Tables.{AreSteps, FitsOneBatch}
use Rattle.txn_core.proofs.Moves.{same_steps, both_reach}
use Rattle.txn_core.proofs.TableSteps.{settled_steps, failed_steps, resolved_steps, rebuilt_steps}

-- the change is a list of core steps, and the names stay
pub record Led (t t' : TableState) : Type 0 where
  pub steps : AreSteps (length t.world.names) t t'
  pub names : t'.world.names ≡ t.world.names

-- ---- Changes one after another.

pub both_led : (a b c : TableState) → Led a b → Led b c → Led a c
both_led a b c f g = record { steps = both_reach (length a.world.names) a b c f.steps (subst (λ names. AreSteps (length names) b c) f.names g.steps); names = g.names ∙ f.names }

pub eq_led : (t t' : TableState) → t' ≡ t → Led t t'
eq_led t t' e = subst (Led t) (sym e) (record { steps = same_steps (length t.world.names) t t refl refl; names = refl })

resolved_led : (p : ℕ) (stays : Bool) (t : TableState) → LawfulState t → Led t (resolved p stays t)
resolved_led p true t s = record { steps = resolved_steps p t s true; names = refl }
resolved_led p false t s = record { steps = resolved_steps p t s false; names = refl }

rebuilt_led : (p : ℕ) (stays : Bool) (t : TableState) → LawfulState t → Led t (rebuilt p stays t)
rebuilt_led p true t s = record { steps = rebuilt_steps p true t s; names = refl }
rebuilt_led p false t s = record { steps = rebuilt_steps p false t s; names = refl }

settled_names : (b : EntryBatch) (w : World) → (world_with b w).names ≡ w.names
settled_names nothing w = refl
settled_names (in_coord e) w = refl
settled_names (in_topic p es) w = refl
settled_names (in_sub p e) w = refl

pub settled_led : (b : EntryBatch) (t : TableState) → LawfulState t → Granted b t.world → IsPartRebuilt b t → FitsOneBatch b → Led t (with_batch b t)
settled_led b t s g whole short = record { steps = settled_steps b t s g.fits whole g.allowed short; names = settled_names b t.world }

pub given_led : (b : EntryBatch) (t : TableState) (given : ℕ → ℕ → Bool) → LawfulState t → Granted b t.world → IsPartRebuilt b t → FitsOneBatch b → Led t (record (with_batch b t) { given = given })
given_led b t given s g whole short =
    both_led t (with_batch b t) (record (with_batch b t) { given = given }) (settled_led b t s g whole short)
    (record { steps = same_steps (length (with_batch b t).world.names) (with_batch b t) (record (with_batch b t) { given = given }) refl refl; names = refl })

pub batch_led : (b : EntryBatch) (p : ℕ) (t : TableState) → batch_part b ≡ Some p → LawfulState t → Granted b t.world → IsPartRebuilt b t → FitsOneBatch b → Led t (with_failed_batch b p t)
batch_led b p t e s g whole short = record { steps = failed_steps b p t e s g.fits whole g.allowed short; names = refl }

-- ---- Recovery.

pub rebuilds_led : (p : ℕ) (t t' : TableState) → LawfulState t → Rebuilds p t t' → Led t t'
rebuilds_led p t t' s h = by_test (is_unrebuilt t p) h
  where
    by_test : (b : Bool) → MatchBool b ((stays : Bool) × (t' ≡ rebuilt p stays t)) (t' ≡ t) → Led t t'
    by_test true h = subst (Led t) (sym h.1) (rebuilt_led p h.0 t s)
    by_test false h = eq_led t t' h

pub all_led : (ps : List ℕ) (t t' : TableState) → LawfulState t → RebuildsAll ps t t' → Led t t'
all_led [] t t' s h = eq_led t t' h
all_led (p ∷ ps) t t' s h = let k : Keeps t h.0 = (rebuilds_keeps p t h.0 s h.1).0 in both_led t h.0 t' (rebuilds_led p t h.0 s h.1) (all_led ps h.0 t' k.state h.2)

pub unrebuilt_led : (p : ℕ) (t t' : TableState) → LawfulState t → StaysUnrebuilt p t t' → Led t t'
unrebuilt_led p t t' s h =
    elim h.1 [
      | inl e ↦ eq_led t t' e
      | inr k ↦ subst (Led t) (sym k.1) (resolved_led p k.0 t s)
    ]

pub refused_led : (ps : List ℕ) (p : ℕ) (t t' : TableState) → LawfulState t → RefusedAt ps p t t' → Led t t'
refused_led [] p t t' s h = absurd h
refused_led (q ∷ qs) p t t' s (inl h) = unrebuilt_led q t t' s h.1
refused_led (q ∷ qs) p t t' s (inr h) = let k : Keeps t h.0 = (rebuilds_keeps q t h.0 s h.1).0 in both_led t h.0 t' (rebuilds_led q t h.0 s h.1) (refused_led qs p h.0 t' k.state h.2)

-- ---- An append that fails.

pub fails_led : (rose : ℕ → Type 0) (b : EntryBatch) (t : TableState) (told : Reply) (t' : TableState) → LawfulState t → Granted b t.world → IsPartRebuilt b t → FitsOneBatch b → AppendFails rose b t told t' → Led t t'
fails_led rose b t told t' s g whole short h = subst (Led t) (sym h.4) (batch_led b h.0 t h.1 s g whole short)
