-- A replay reads a log, and no more.
use Rattle.std.specs.Prelude.{◌≡◌, ◌≤◌, ℕ, List, length}
use Rattle.txn_base.specs.declared.disk.Disk.{Ghosts}
use Rattle.txn_base.specs.Content.{LedgerContent}
use Rattle.txn_base.specs.Disk.{Same}
use Rattle.txn_base.specs.Frames.{records}
use Rattle.txn_base.specs.Moves.{After, FaultsIn}
use Rattle.txn_ledger.specs.declared.log.RecordLog as log
use Rattle.txn_ledger.specs.Reading.{ReadsOn}
use Rattle.txn_replay.specs.declared.grammar.Grammar as grammar

-- Nothing changes on the disk but its counts, and those as the calls on files of this part failed.
pub record OnlyReads {D : Type 0} (disk : Ghosts D) (part : ℕ) (is_fault : Type 0) (old new : D) : Type 0 where
  pub seen_same : disk.seen new ≡ disk.seen old
  pub images : After disk Same old new
  pub cause : FaultsIn disk part old new is_fault

-- Entries that are lawful by a rule were read of a log up to this place, and the log reads on behind them.
pub record IsReadTo {S E L D : Type 0} (g : grammar.Ghosts S E) (rule : ℕ) (front : List E) (at : ℕ) (on : log.Ghosts L) (disk : Ghosts D) (now : D) (content : LedgerContent) : Type 0 where
  pub at_is : at ≡ length front
  pub within : at ≤ length (records content.batches)
  pub lawful : g.lawful rule front
  pub reads : ReadsOn on disk now content
