-- How calls that answer lines follow each other.
use Rattle.std.proofs.Common.{◌≡◌, ◌≤◌, ℕ, List, Result, Err, length, subst, refl, arith, ◌∙◌}
use Rattle.txn_base.specs.declared.disk.Disk as disk
use Rattle.txn_base.specs.declared.sink.Sink as sink
use Rattle.txn_base.specs.Moves.{After}
use Rattle.txn_base.proofs.Laws.{started, goes_on}
use Rattle.txn_engine.specs.Above.{KeepsAboveIf}
use Rattle.txn_engine.specs.Files.{OnlyLedgers}
use Rattle.txn_engine.specs.Growing.{GrowsWorld}
use Rattle.txn_engine.specs.Kept.{IsEngine}
use Rattle.txn_engine.specs.Told.{IsSure, FaultsWithin, EngineGoesOn}
use Rattle.txn_engine.specs.View.{EngineView, IsBacked}
use Rattle.txn_engine.proofs.Laws.{files_first, files_then, worlds_first, worlds_then}
use Rattle.txn_run.specs.Files.{LeavesOthers}
use Rattle.txn_run.specs.Serving.{Serves, TellsTo}
use Rattle.txn_run.specs.declared.lines.Stop.{Stop}
use Rattle.txn_run.specs.declared.lines.Stop.TheVariants as stop
use Rattle.txn_run.proofs.Keeping.{keeps_first, keeps_then, leaves_none, leaves_then, counts_first, counts_but, counts_then}
use Rattle.txn_run.proofs.Telling.{grows_then, grows_none, ends_after}

module _ {D : Type 0} (on : disk.Ghosts D) where
  -- before the first of them
  pub serves_none : {X : Type 0} (v : EngineView) (at : D) → IsEngine v → IsBacked (on.image at) v → (X → ⊥) → Serves on X v v at at
  serves_none {X} v at is backed none = record {
    names = refl;
    limits = refl;
    engine = is;
    tied = λ told t. t;
    backed = backed;
    lawful = λ was. was.lawful;
    images = keeps_first on (IsSure on v) v.names at;
    grows = files_first on at;
    worlds = worlds_first on v.names at;
    elsewhere = leaves_none on (length v.names) at;
    cause = counts_but _ _ _ (on.part_faults at) (on.part_faults at) _ _ (λ x. none x) (counts_first (length v.names) (on.faults at) (on.part_faults at));
  }

  -- what was sure stays so
  sure_then : {X : Type 0} {u v : EngineView} {old mid : D} → Serves on X u v old mid → IsSure on u → IsSure on v
  sure_then one was = record { told = was.told; tied = one.tied was.told was.tied; lawful = one.lawful was }

  -- one call more
  pub serves_then : {X Y : Type 0} {u v w : EngineView} {old mid new : D} → Serves on X u v old mid → Serves on Y v w mid new → Serves on Y u w old new
  serves_then {X} {Y} {u} {v} {w} {old} {mid} {new} one two = record {
    names = two.names ∙ one.names;
    limits = two.limits ∙ one.limits;
    engine = two.engine;
    tied = λ told t. two.tied told (one.tied told t);
    backed = two.backed;
    lawful = λ was. two.lawful (sure_then one was);
    images = keeps_then on _ _ u.names v.names old mid new one.names (sure_then one) one.images two.images;
    grows = files_then on old mid new one.grows two.grows;
    worlds = worlds_then on u.names old mid new one.worlds (subst (λ (ns : List (List ℕ)). After on (GrowsWorld ns) mid new) one.names two.worlds);
    elsewhere = leaves_then on u.names v.names old mid new one.names one.elsewhere two.elsewhere;
    cause = counts_then u.names v.names _ _ _ (on.part_faults old) (on.part_faults mid) (on.part_faults new) _ _ one.names one.cause two.cause;
  }

  -- where this answer means that of the call
  pub serves_as : {X Y : Type 0} {v w : EngineView} {old new : D} → (Y → X) → Serves on X v w old new → Serves on Y v w old new
  serves_as {X} {Y} {v} {w} {old} {new} means one = record {
    names = one.names;
    limits = one.limits;
    engine = one.engine;
    tied = one.tied;
    backed = one.backed;
    lawful = one.lawful;
    images = one.images;
    grows = one.grows;
    worlds = one.worlds;
    elsewhere = one.elsewhere;
    cause = counts_but _ _ _ (on.part_faults old) (on.part_faults new) _ _ means one.cause;
  }

  -- of an engine's answer
  pub serves_once : {X : Type 0} {v w : EngineView} {old new : D} → w.limits ≡ v.limits → IsEngine w → EngineGoesOn on X v w old new → Serves on X v w old new
  serves_once {X} {v} {w} {old} {new} limits engine goes = record {
    names = goes.names;
    limits = limits;
    engine = engine;
    tied = goes.tied;
    backed = goes.backed;
    lawful = goes.lawful;
    images = goes.images;
    grows = goes.grows;
    worlds = goes.worlds;
    elsewhere = record { now = goes.others; since = goes.elsewhere };
    cause = goes.cause;
  }

module _ {O : Type 0} (on : sink.Ghosts O) where
  pub tells_none : (result : Result (Unit {0}) Stop) (at : O) → (result ≡ Err stop.Sink → ⊥) → (result ≡ Err stop.Disk → ⊥) → TellsTo on result at at
  tells_none result at sink disk = record { grown = grows_none _; beside = refl; later = omega arith; failed = λ is. absurd (sink is); stopped = λ is. absurd (disk is) }

  -- after calls that told
  pub tells_then : (one two : Result (Unit {0}) Stop) (old mid new : O) → TellsTo on one old mid → TellsTo on two mid new → TellsTo on two old new
  tells_then one two old mid new first call = record {
    grown = grows_then _ _ _ first.grown call.grown;
    beside = call.beside ∙ first.beside;
    later = omega (arith, first.later, call.later);
    failed = λ is. grind (arith, first.later, call.failed is);
    stopped = λ is. ends_after _ _ _ first.grown (call.stopped is);
  }
