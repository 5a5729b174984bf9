-- From the opening to the last table.
use Rattle.std.proofs.Common.{◌≡◌, ℕ, List, [], ◌∷◌, Option, Result, Ok, refl, sym, ap, ◌∙◌, subst}
use Rattle.txn_base.specs.declared.disk.Disk.{Ghosts}
use Rattle.txn_base.specs.Moves.{After}
use Rattle.txn_base.specs.Disk.{Files}
use Rattle.txn_base.specs.declared.file_id.FileId.{FileId}
use Rattle.txn_base.proofs.Laws.{weaker, goes_on}
use Rattle.txn_model.specs.declared.world.World.{World}
use Rattle.txn_model.specs.Opening.{table_over}
use Rattle.txn_model.specs.Sound.{StandsFor}
use Rattle.txn_model.specs.Table.{TableState}
use Rattle.txn_model.specs.World.{EachLawful, Lawful}
use Rattle.txn_engine.specs.Above.{KeepsAbove, KeepsAboveIf}
use Rattle.txn_engine.specs.Growing.{GrowsWorld}
use Rattle.txn_engine.specs.Kept.{IsEngine}
use Rattle.txn_engine.specs.Opening.{KeepsWorld}
use Rattle.txn_engine.specs.Table.{table_of}
use Rattle.txn_engine.specs.View.{EngineView, IsBacked}
use Rattle.txn_engine.specs.declared.opening.EngineError.{EngineError}
use Rattle.txn_engine.specs.declared.opening.EngineError.TheVariants as engine_error
use Rattle.txn_engine.proofs.Laws.{lists_worlds, left_kept, worlds_then}
use Rattle.txn_run.specs.Going.{run_state}
use Rattle.txn_run.specs.Run.{StandsForSome, Leaves, IsEarly, IsAnswered, IsAtRest, first_run_state}
use Rattle.txn_run.specs.Status.{status_unopened}
use Rattle.txn_run.specs.declared.status.RunStatus.TheVariants as status
use Rattle.txn_run.proofs.FirstState.{first_table}

module _ {D : Type 0} (on : Ghosts D) (names : List (List ℕ)) where
  world_above : (d c : Files) → KeepsWorld names d c → KeepsAbove names d c
  world_above d c keeps floor above =
      let was = above.sound in
      record { sound = record { world = was.world; stands = keeps was.world was.stands; lawful = was.lawful }; extends = above.extends }

  pub opening_above : (old mid : D) → After on (KeepsWorld names) old mid → After on (KeepsAbove names) old mid
  opening_above old mid opened = weaker on (KeepsWorld names) (KeepsAbove names) old mid (λ d c at keeps. world_above d c keeps) opened

  -- by what holds where an image in between stands for a lawful world
  pub running_above : (X : Type 0) (old mid new : D) → ((c : Files) → on.image mid c → (w : World) → StandsFor names c w → Lawful w → X) → (other : List (List ℕ)) → other ≡ names
      → After on (KeepsWorld names) old mid → After on (KeepsAboveIf X other) mid new → After on (KeepsAbove names) old new
  running_above X old mid new holds other same opened ran =
      goes_on on (KeepsAbove names) (KeepsAboveIf X names) (KeepsAbove names) old mid new (opening_above old mid opened)
      (subst (λ (ns : List (List ℕ)). After on (KeepsAboveIf X ns) mid new) same ran)
      (λ d c at is. is)
      (λ d e c at one mid_at two floor above.
      let here = one floor above in
      two (holds e mid_at here.sound.world here.sound.stands here.sound.lawful) floor here)

  -- lawful or not
  pub running_worlds : (old mid new : D) (other : List (List ℕ)) → other ≡ names → After on (KeepsWorld names) old mid → After on (GrowsWorld other) mid new → After on (GrowsWorld names) old new
  running_worlds old mid new other same opened ran = worlds_then on names old mid new (lists_worlds on names old mid opened) (subst (λ (ns : List (List ℕ)). After on (GrowsWorld ns) mid new) same ran)

  -- an image that is left, where each at the call stood for a world
  pub image_stands : (old new : D) → After on (GrowsWorld names) old new → ((c : Files) → on.image old c → StandsForSome names c) → (c : Files) → on.image new c → StandsForSome names c
  image_stands old new since stood c at =
      let from = since.at_end c at in
      let was = stood from.0 from.1 in
      let now = from.2 was.0 was.1 in
      (now.0, now.1)

-- the table from which the lines begin
pub first_is : (names : List (List ℕ)) (v : EngineView) (w : World) → w.names ≡ names → table_of v ≡ table_over w → (ms : Option (List ℕ)) (f : ℕ) (fs : ℕ → ℕ) → run_state v ms f fs ≡ first_run_state names w ms f fs
first_is names v w named table ms f fs = ap (λ (t : TableState). record { table = t; moments = ms; faults = f; faults_of = fs }) (table ∙ sym (first_table w names named))

-- what a stop leaves
pub leaves_here : (names : List (List ℕ)) (v : EngineView) → IsEngine v → v.names ≡ names → (image : Files → Type 0) → IsBacked image v → (c : Files) → image c → StandsForSome names c → Leaves names (table_of v) c
leaves_here names v is same image backed c at stands =
    subst (λ (ns : List (List ℕ)). Leaves ns (table_of v) c) same (left_kept v is image backed c at stands.0 (subst (λ (ns : List (List ℕ)). StandsFor ns c stands.0) (sym same) stands.1))

-- ---- The names of a command line.

pub named_as : {E : Type 0} (command : Result (List ℕ) E) (names : List (List ℕ)) (a b : List ℕ) → names ≡ a ∷ [] → command ≡ Ok a → command ≡ Ok b → names ≡ b ∷ []
named_as command names a b is p q = is ∙ ap (λ (n : List ℕ). n ∷ []) (same_name command a b p q)
  where
    same_name : {E : Type 0} (command : Result (List ℕ) E) (a b : List ℕ) → command ≡ Ok a → command ≡ Ok b → a ≡ b
    same_name command a b p q = cc

pub run_named : (seen : Files) (P : List (List ℕ) → World → Type 0) (names these : List (List ℕ)) → names ≡ these → ((w : World) → StandsFor names seen w → P names w) → (w : World) → StandsFor these seen w → P these w
run_named seen P names these e h = subst (λ (ns : List (List ℕ)). (w : World) → StandsFor ns seen w → P ns w) e h

-- ---- The statuses of an opening.

pub early_here : (w : World) (error : EngineError) → ((file : FileId) (entry : ℕ) → error ≡ engine_error.Damaged file entry → EachLawful w → ⊥) → IsEarly w (status_unopened error)
early_here w (engine_error.Damaged file entry) none = none file entry refl
early_here w engine_error.Fault none = tt
early_here w engine_error.NoMemory none = tt

pub damage_of : (error : EngineError) (file : FileId) (entry : ℕ) → status_unopened error ≡ status.Damaged file entry → error ≡ engine_error.Damaged file entry
damage_of (engine_error.Damaged at place) file entry e = cc
damage_of engine_error.Fault file entry e = cc
damage_of engine_error.NoMemory file entry e = cc

pub fault_of : (error : EngineError) → status_unopened error ≡ status.DiskFault → error ≡ engine_error.Fault
fault_of (engine_error.Damaged at place) e = cc
fault_of engine_error.Fault e = refl
fault_of engine_error.NoMemory e = cc

pub not_answered : (error : EngineError) → IsAnswered (status_unopened error) → ⊥
not_answered (engine_error.Damaged at place) is = is
not_answered engine_error.Fault is = is
not_answered engine_error.NoMemory is = is

pub not_at_rest : (error : EngineError) → IsAtRest (status_unopened error) → ⊥
not_at_rest (engine_error.Damaged at place) is = is
not_at_rest engine_error.Fault is = is
not_at_rest engine_error.NoMemory is = is
