-- The same over an equal view.
use Rattle.std.proofs.Common.{◌≡◌, ℕ, true, sym, subst}
use Rattle.txn_base.specs.declared.disk.Disk.{Ghosts}
use Rattle.txn_model.specs.Replies.{is_fault}
use Rattle.txn_base.specs.declared.request.Request.{Request}
use Rattle.txn_base.specs.declared.reply.Reply.{Reply}
use Rattle.txn_engine.specs.Told.{MayTell, EngineGoesOn}
use Rattle.txn_engine.specs.View.{EngineView}

pub told_at : (f g : ℕ) (fs gs : ℕ → ℕ) (v w v' : EngineView) (r : Request) (m : ℕ) (told : Reply) → v ≡ w → MayTell f g fs gs v r m told v' → MayTell f g fs gs w r m told v'
told_at f g fs gs v w v' r m told e h = subst (λ (x : EngineView). MayTell f g fs gs x r m told v') e h

pub tell_at : (f g : ℕ) (fs gs : ℕ → ℕ) (v v' : EngineView) (r : Request) (m : ℕ) (told told' : Reply) → told ≡ told' → MayTell f g fs gs v r m told v' → MayTell f g fs gs v r m told' v'
tell_at f g fs gs v v' r m told told' e h = subst (λ (x : Reply). MayTell f g fs gs v r m x v') e h

pub told_both : (f g : ℕ) (fs gs : ℕ → ℕ) (v w : EngineView) (r : Request) (m : ℕ) (told : Reply) → v ≡ w → MayTell f g fs gs v r m told v → MayTell f g fs gs w r m told w
told_both f g fs gs v w r m told e h = subst (λ (x : EngineView). MayTell f g fs gs x r m told x) e h

module _ {D : Type 0} (on : Ghosts D) where
  pub goes_at : (X : Type 0) (v w v' : EngineView) (old new : D) → v ≡ w → EngineGoesOn on X v v' old new → EngineGoesOn on X w v' old new
  goes_at X v w v' old new e h = subst (λ (x : EngineView). EngineGoesOn on X x v' old new) e h

  pub goes_both : (X : Type 0) (v w : EngineView) (old new : D) → v ≡ w → EngineGoesOn on X v v old new → EngineGoesOn on X w w old new
  goes_both X v w old new e h = subst (λ (x : EngineView). EngineGoesOn on X x x old new) e h

  -- by an equal reply
  pub goes_for : (told told' : Reply) (v v' : EngineView) (old new : D) → told ≡ told' → EngineGoesOn on (is_fault told ≡ true) v v' old new → EngineGoesOn on (is_fault told' ≡ true) v v' old new
  goes_for told told' v v' old new e h = subst (λ (x : Reply). EngineGoesOn on (is_fault x ≡ true) v v' old new) e h

  -- from one view to another, by an equal reply
  pub goes_to : (told told' : Reply) (v w v' w' : EngineView) (old new : D) → v ≡ w → told ≡ told' → v' ≡ w' → EngineGoesOn on (is_fault told ≡ true) v v' old new → EngineGoesOn on (is_fault told' ≡ true) w w' old new
  goes_to told told' v w v' w' old new e r e' h =
      subst (λ (x : EngineView). EngineGoesOn on (is_fault told' ≡ true) x w' old new) e
      (subst (λ (x : Reply). EngineGoesOn on (is_fault x ≡ true) v w' old new) r
      (subst (λ (x : EngineView). EngineGoesOn on (is_fault told ≡ true) v x old new) e' h))

pub told_to : (f g : ℕ) (fs gs : ℕ → ℕ) (v w v' w' : EngineView) (r : Request) (told told' : Reply) → v ≡ w → told ≡ told' → v' ≡ w' → {m : ℕ} → MayTell f g fs gs v r m told v' → MayTell f g fs gs w r m told' w'
told_to f g fs gs v w v' w' r told told' e t e' {m} h =
    subst (λ (x : EngineView). MayTell f g fs gs x r m told' w') e (subst (λ (x : Reply). MayTell f g fs gs v r m x w') t (subst (λ (x : EngineView). MayTell f g fs gs v r m told x) e' h))

-- the same request
pub asked_so : (f g : ℕ) (fs gs : ℕ → ℕ) (v v' : EngineView) (r r' : Request) (m : ℕ) (told : Reply) → r ≡ r' → MayTell f g fs gs v r' m told v' → MayTell f g fs gs v r m told v'
asked_so f g fs gs v v' r r' m told e h = subst (λ (x : Request). MayTell f g fs gs v x m told v') (sym e) h
