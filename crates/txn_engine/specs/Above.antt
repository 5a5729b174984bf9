-- What the files of a disk must stand for at every moment.
use Rattle.std.specs.Prelude.{ℕ, List}
use Rattle.txn_base.specs.Disk.{Files}
use Rattle.txn_model.specs.declared.world.World.{World}
use Rattle.txn_model.specs.World.{Extends}
use Rattle.txn_model.specs.Sound.{Sound}

-- With these names, the files are sound, and their world extends this one.
pub record StandsAbove (names : List (List ℕ)) (floor : World) (files : Files) : Type 0 where
  pub sound : Sound names files
  pub extends : Extends floor sound.world

-- With these names, whatever world the files before extend soundly, those after do.
abbrev pub KeepsAbove : List (List ℕ) → Files → Files → Type 0
KeepsAbove names before after = (floor : World) → StandsAbove names floor before → StandsAbove names floor after

-- The same, where this holds.
abbrev pub KeepsAboveIf : Type 0 → List (List ℕ) → Files → Files → Type 0
KeepsAboveIf holds names before after = holds → KeepsAbove names before after
