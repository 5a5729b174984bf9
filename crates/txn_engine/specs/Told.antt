-- What an engine may tell, and how it goes on.
use Rattle.std.specs.Prelude.{◌≡◌, ◌⊎◌, ℕ, ◌<◌, ◌≤◌, true, false, length}
use Rattle.txn_base.specs.declared.request.Request.{Request}
use Rattle.txn_base.specs.declared.request.Request.TheVariants as request
use Rattle.txn_base.specs.declared.reply.Reply.{Reply}
use Rattle.txn_base.specs.declared.reply.Reply.TheVariants as reply
use Rattle.txn_base.specs.declared.reply.Refusal.TheVariants as no
use Rattle.txn_base.specs.declared.disk.Disk.{Ghosts}
use Rattle.txn_base.specs.Moves.{After}
use Rattle.txn_base.specs.Outside.{Rose}
use Rattle.txn_model.specs.Allowed.{LawfulState}
use Rattle.txn_model.specs.Answers.{AnswersAt}
use Rattle.txn_wire.specs.Short.{IsShort, is_long}
use Rattle.txn_engine.specs.Above.{KeepsAboveIf}
use Rattle.txn_engine.specs.Files.{OnlyLedgers}
use Rattle.txn_engine.specs.Growing.{Grows, GrowsWorld}
use Rattle.txn_engine.specs.Table.{table_of}
use Rattle.txn_engine.specs.View.{EngineView, IsWhole, IsTied, IsBacked}

-- A request that may be asked: one of the forms that an engine knows so far, with at least one text or message.
abbrev pub IsAsked : Request → Type 0
IsAsked (request.New timeout) = Unit {0}
IsAsked (request.Add x part) = Unit {0}
IsAsked (request.Publish topic who bodies) = 1 ≤ length bodies
IsAsked (request.Read topic first max) = 1 ≤ max
IsAsked (request.Status x) = Unit {0}
IsAsked (request.Commit x) = Unit {0}
IsAsked (request.Abort x) = Unit {0}
IsAsked _ = ⊥

-- The disk's count and that of this part rose.
abbrev pub RoseFor : ℕ → ℕ → (ℕ → ℕ) → (ℕ → ℕ) → ℕ → Type 0
RoseFor before now parts_before parts_now p = Rose before now × Rose (parts_before p) (parts_now p)

-- From the table of v, at this moment, the request may be told this, and leave the table of v'; and where the text of the
-- reply is long, want of memory may be told instead.
pub record MayTell (before now : ℕ) (parts_before parts_now : ℕ → ℕ) (v : EngineView) (r : Request) (m : ℕ) (told : Reply) (v' : EngineView) : Type 0 where
  pub answers : AnswersAt v.limits (RoseFor before now parts_before parts_now) (table_of v) r m told (table_of v')
  pub instead : is_long told ≡ true → AnswersAt v.limits (RoseFor before now parts_before parts_now) (table_of v) r m (reply.No no.NoMemory) (table_of v')

-- The same between two disks, by their counts.
abbrev pub MayTellOn : {D : Type 0} → Ghosts D → D → D → EngineView → Request → ℕ → Reply → EngineView → Type 0
MayTellOn disk old new v r m told v' =
    MayTell (disk.faults old) (disk.faults new) (disk.part_faults old) (disk.part_faults new) v r m told v'

-- A reply has a long text, or one within the room.
abbrev pub IsTellable : Reply → Type 0
IsTellable r = is_long r ≡ false → IsShort r

-- A call on the files of n parts and of the coordinator may answer a fault, which comes only where the count rose, and that of
-- one of these parts. No count falls, and those of other parts stay.
pub record CountsWithin (n before now : ℕ) (parts_before parts_now : ℕ → ℕ) (is_fault : Type 0) : Type 0 where
  pub later : before ≤ now
  pub parts_later : (p : ℕ) → parts_before p ≤ parts_now p
  pub failed : is_fault → (p : ℕ) × (p ≤ n) × RoseFor before now parts_before parts_now p
  pub others : (p : ℕ) → n < p → p < 128 → parts_now p ≡ parts_before p

-- The same between two disks, by their counts.
abbrev pub FaultsWithin : {D : Type 0} → Ghosts D → ℕ → D → D → Type 0 → Type 0
FaultsWithin disk n old new is_fault =
    CountsWithin n (disk.faults old) (disk.faults new) (disk.part_faults old) (disk.part_faults new) is_fault

-- The disk tells what it holds; what was rebuilt is what the ledgers hold; and the state of the table is lawful.
pub record IsSure {D : Type 0} (disk : Ghosts D) (v : EngineView) : Type 0 where
  pub told : disk.tells
  pub tied : IsTied v
  pub lawful : LawfulState (table_of v)

-- From v to v', over these disks: where all was rebuilt it stays so, or a fault is told; on a disk that tells, what is rebuilt
-- stays tied to the ledgers; the ledgers stay backed by each image; a state of the table that is lawful stays so, and then
-- whatever world each image at the call extends soundly, the images since do, each above what one at the call extended; lawful
-- or not, what files stand for only grows, list by list and world by world; and no file but the ledgers of the engine changes,
-- as it reads and in each image.
pub record EngineGoesOn {D : Type 0} (disk : Ghosts D) (is_fault : Type 0) (v v' : EngineView) (old new : D) : Type 0 where
  pub names : v'.names ≡ v.names
  pub whole : (IsWhole v → IsWhole v') ⊎ is_fault
  pub tied : disk.tells → IsTied v → IsTied v'
  pub lawful : IsSure disk v → LawfulState (table_of v')
  pub backed : IsBacked (disk.image new) v'
  pub images : After disk (KeepsAboveIf (IsSure disk v) v.names) old new
  pub grows : After disk Grows old new
  pub worlds : After disk (GrowsWorld v.names) old new
  pub elsewhere : After disk (OnlyLedgers (length v.names)) old new
  pub others : OnlyLedgers (length v.names) (disk.seen old) (disk.seen new)
  pub cause : FaultsWithin disk (length v.names) old new is_fault
