-- How a run ends.
use Rattle.std.specs.Prelude.{◌≡◌, ◌⊎◌, ℕ, ◌+◌, ◌-◌, ◌^◌, ◌<◌, ◌≤◌, min, false, List, [], ◌∷◌, ◌++◌, length, Option, Ok}
use Rattle.std.specs.Io.KnownBytes.{Consumes, Keeps, IsAtEnd}
use Rattle.txn_base.specs.declared.clock.Clock as clock
use Rattle.txn_base.specs.declared.disk.Disk as disk
use Rattle.txn_base.specs.declared.sink.Sink as sink
use Rattle.txn_base.specs.declared.source.Source as source
use Rattle.txn_base.specs.Disk.{Files}
use Rattle.txn_base.specs.Moves.{After}
use Rattle.txn_base.specs.declared.limits.Limits.{Limits}
use Rattle.txn_base.specs.declared.reply.Reply.{Reply}
use Rattle.txn_engine.specs.Files.{IsJustFrames}
use Rattle.txn_engine.specs.Opening.{AreParts, KeepsFiles, KeepsAllDamaged}
use Rattle.txn_model.specs.declared.world.World.{World}
use Rattle.txn_model.specs.Cut.{whole_lines, lines_of}
use Rattle.txn_model.specs.Opening.{first_state}
use Rattle.txn_model.specs.Replies.{RunState, count_faults}
use Rattle.txn_model.specs.Sound.{StandsFor, StandsForKept, ledger_file}
use Rattle.txn_model.specs.Table.{TableState, is_unrebuilt}
use Rattle.txn_model.specs.World.{EachLawful}
use Rattle.txn_run.specs.Words.{command_of}
use Rattle.txn_run.specs.Told.{AllRebuilt, AnsweredLines, Broken, Stopped, EndsWithFault}
use Rattle.txn_run.specs.declared.status.RunStatus.{RunStatus}
use Rattle.txn_run.specs.declared.status.RunStatus.TheVariants as status

-- With these names, the files stand for a world: each list is in its grammar.
abbrev pub StandsForSome : List (List ℕ) → Files → Type 0
StandsForSome names files = (w : World) × StandsFor names files w

-- With these names, the files stand for what the table keeps of a stop, for some choice of the batches in flight.
abbrev pub Leaves : List (List ℕ) → TableState → Files → Type 0
Leaves names t c = StandsForKept names c t.world t.flights

-- These lines came with what was taken: those that had ended; or all, where the input ended below its limit.
abbrev pub AreLines : Limits → List ℕ → Option (List ℕ) → List (List ℕ) → Type 0
AreLines limits taken left all = (all ≡ whole_lines taken) ⊎ (IsAtEnd left × (length taken < limits.input) × (all ≡ lines_of taken))

-- From s, these bytes were taken, and what was put is the texts of the replies of the table, which leave s': to all lines
-- (0); to the lines that had ended (3, 7); to a front of the lines, and of the text of the last reply a front (4); those up
-- to a fault that leaves a part not rebuilt, which is the last (5). With 0, 3 and 7 every part is rebuilt.
abbrev pub Ended : RunStatus → Limits → RunState → Option (List ℕ) → List ℕ → RunState → Option (List ℕ) → Option (List ℕ) → Type 0
Ended status.Ok limits s old taken s' new left = IsAtEnd left × (length taken < limits.input) × AllRebuilt s'.table × AnsweredLines limits s (lines_of taken) s' old new
Ended status.ReadFault limits s old taken s' new left = (length taken < limits.input) × AllRebuilt s'.table × AnsweredLines limits s (whole_lines taken) s' old new
Ended status.WriteFault limits s old taken s' new left = (length taken ≤ limits.input) × (all : List (List ℕ)) × AreLines limits taken left all × Broken limits s old all s' new
Ended status.DiskFault limits s old taken s' new left = (length taken ≤ limits.input) × (all : List (List ℕ)) × AreLines limits taken left all × Stopped limits s old all s' new
Ended status.TooMuch limits s old taken s' new left = (length taken ≡ limits.input) × AllRebuilt s'.table × AnsweredLines limits s (whole_lines taken) s' old new
Ended status.NoMemory limits s old taken s' new left = ⊥
Ended (status.Usage u) limits s old taken s' new left = ⊥
Ended (status.Damaged file entry) limits s old taken s' new left = ⊥

-- The replies that were told in such an end.
abbrev pub replies_in : (ended : RunStatus) (limits : Limits) (s : RunState) (old : Option (List ℕ)) (taken : List ℕ) (s' : RunState) (new left : Option (List ℕ)) → Ended ended limits s old taken s' new left → List Reply
replies_in status.Ok limits s old taken s' new left (at_end, within, rebuilt, so) = so.told
replies_in status.ReadFault limits s old taken s' new left (within, rebuilt, so) = so.told
replies_in status.WriteFault limits s old taken s' new left (within, all, are, (lines, more, split, so)) = so.told ++ so.last ∷ []
replies_in status.DiskFault limits s old taken s' new left (within, all, are, (lines, more, split, so)) = so.told ++ so.last ∷ []
replies_in status.TooMuch limits s old taken s' new left (all, rebuilt, so) = so.told
replies_in status.NoMemory limits s old taken s' new left never = []
replies_in (status.Usage u) limits s old taken s' new left never = []
replies_in (status.Damaged file entry) limits s old taken s' new left never = []

-- The statuses that a run over files that stand for the world w may have before its first line: a fault of the disk, want of
-- memory; and damage, but not where each list is lawful by itself.
abbrev pub IsEarly : World → RunStatus → Type 0
IsEarly w status.DiskFault = Unit {0}
IsEarly w status.NoMemory = Unit {0}
IsEarly w (status.Damaged file entry) = EachLawful w → ⊥
IsEarly w _ = ⊥

-- The statuses of a run that came to its first line.
abbrev pub CameToLines : RunStatus → Type 0
CameToLines status.Ok = Unit {0}
CameToLines status.ReadFault = Unit {0}
CameToLines status.WriteFault = Unit {0}
CameToLines status.DiskFault = Unit {0}
CameToLines status.TooMuch = Unit {0}
CameToLines _ = ⊥

-- Those of a run whose words are a command line.
abbrev pub IsOpened : RunStatus → Type 0
IsOpened (status.Usage u) = ⊥
IsOpened _ = Unit {0}

-- Damage and want of memory come before the first line only.
abbrev pub IsQuiet : RunStatus → Type 0
IsQuiet (status.Damaged file entry) = Unit {0}
IsQuiet status.NoMemory = Unit {0}
IsQuiet _ = ⊥

-- What was taken is at most the bound; exactly that with 7; less with 0, which comes at the end of the input, and with 3.
-- Where nothing was taken, the clock told nothing.
pub record Took {K : Type 0} (ended : RunStatus) (limits : Limits) (left left' : Option (List ℕ)) (clock clock' : K) : Type 0 where
  pub taken : List ℕ
  pub came : Consumes left left' taken
  pub within : length taken ≤ limits.input
  pub too_much : ended ≡ status.TooMuch → length taken ≡ limits.input
  pub ok : ended ≡ status.Ok → IsAtEnd left' × (length taken < limits.input)
  pub read_fault : ended ≡ status.ReadFault → length taken < limits.input
  pub untold : taken ≡ [] → clock' ≡ clock

-- Something was taken, and what was put ends with the text of a reply that tells of a fault.
pub record FaultIsLast (left left' held held' : Option (List ℕ)) : Type 0 where
  pub taken : List ℕ
  pub some : 1 ≤ length taken
  pub came : Consumes left left' taken
  pub told : EndsWithFault held held'

-- The statuses of a run to which the clock told nothing: those before the first line alone.
abbrev pub IsUnstarted : RunStatus → Type 0
IsUnstarted (status.Usage u) = Unit {0}
IsUnstarted (status.Damaged file entry) = Unit {0}
IsUnstarted status.NoMemory = Unit {0}
IsUnstarted _ = ⊥

-- Over files that stand for the world w, the run ended before its first line: nothing was taken, nothing put, and no moment
-- told.
pub record Early (ended : RunStatus) (w : World) (moments moments' left left' held held' : Option (List ℕ)) : Type 0 where
  pub is_early : IsEarly w ended
  pub not_told : moments' ≡ moments
  pub not_taken : Keeps left left'
  pub not_put : Keeps held held'

-- The table over the world of the files, where opening finds all as it is; with what the clock has to tell, and the counts.
abbrev pub first_run_state : List (List ℕ) → World → Option (List ℕ) → ℕ → (ℕ → ℕ) → RunState
first_run_state names w moments faults faults_of = record { table = first_state w names; moments = moments; faults = faults; faults_of = faults_of }

-- A run over the files that stood for the world w and were opened, when the counts stood at f and fs, which is not before
-- those of the call: its lines are answered by the table, and the clock is left where the last of them leaves it. The replies
-- that tell of a fault are at most as many as the disk's count rose by since the call, unless it stands at its end. Where each
-- image at the call stood for a world, lawful or not, each image that is left is one that the last table keeps; and in each the
-- ledger of a part that is rebuilt then is its frames and no more.
pub record Ran (ended : RunStatus) (limits : Limits) (names : List (List ℕ)) (w : World) (moments moments' : Option (List ℕ)) (image_before image : Files → Type 0) (before after : ℕ) (parts_before parts_after : ℕ → ℕ) (left left' held held' : Option (List ℕ)) : Type 0 where
  pub faults : ℕ
  pub faults_of : ℕ → ℕ
  pub faults_later : before ≤ faults
  pub parts_later : (p : ℕ) → parts_before p ≤ faults_of p
  pub last : RunState
  pub last_moments : last.moments ≡ moments'
  pub last_faults : last.faults ≡ after
  pub last_parts : last.faults_of ≡ parts_after
  pub taken : List ℕ
  pub came : Consumes left left' taken
  pub told : Ended ended limits (first_run_state names w moments faults faults_of) held taken last held' left'
  pub counted : min (before + count_faults (replies_in ended limits (first_run_state names w moments faults faults_of) held taken last held' left' told)) (2 ^ 64 - 1) ≤ after
  pub leaves : ((c : Files) → image_before c → StandsForSome names c) → (c : Files) → image c → Leaves names last.table c
  pub tidy : (c : Files) → image c → (p : ℕ) → p ≤ length names → is_unrebuilt last.table p ≡ false → IsJustFrames (c (ledger_file p))

-- Ended before its first line, or ran. Damage is no end of a run over files that are each lawful by itself.
abbrev pub RunOn : {D I O K : Type 0} → disk.Ghosts D → source.Ghosts I → sink.Ghosts O → clock.Ghosts K
    → RunStatus → Limits → List (List ℕ) → World → (d d' : D) → (i i' : I) → (o o' : O) → (k k' : K) → Type 0
RunOn D I O K ended limits names w d d' i i' o o' k k' =
    Early ended w (K.moments k) (K.moments k') (I.left i) (I.left i') (O.held o) (O.held o')
    ⊎ Ran ended limits names w (K.moments k) (K.moments k') (D.image d) (D.image d') (D.faults d) (D.faults d') (D.part_faults d) (D.part_faults d')
    (I.left i) (I.left i') (O.held o) (O.held o')

-- The same of a disk that tells, over whatever world its files stand for with these names. Its lists needn't be lawful, be it
-- together or each by itself.
abbrev pub RunsOn : {D I O K : Type 0} → disk.Ghosts D → source.Ghosts I → sink.Ghosts O → clock.Ghosts K
    → RunStatus → Limits → List (List ℕ) → (d d' : D) → (i i' : I) → (o o' : O) → (k k' : K) → Type 0
RunsOn D I O K ended limits names d d' i i' o o' k k' =
    D.tells → (w : World) → StandsFor names (D.seen d) w → RunOn D I O K ended limits names w d d' i i' o o' k k'

-- Where the words are a command line, this holds of the names of its topics.
abbrev pub Asks : List (List ℕ) → (List (List ℕ) → Type 0) → Type 0
Asks words holds = (name : List ℕ) → command_of words ≡ Ok name → holds (name ∷ [])

-- With 5, source, sink and clock are as they were, each file stands for its list, and one in which an open gate begins no frame
-- stays as it was; or the reply to the last line told of a fault, and the files of n parts had been read.
abbrev pub DiskStopped : {D I O K : Type 0} → disk.Ghosts D → source.Ghosts I → sink.Ghosts O → ℕ → (d d' : D) → (i i' : I) → (o o' : O) → (k k' : K) → Type 0
DiskStopped D I O n d d' i i' o o' k k' =
    ((i' ≡ i) × (o' ≡ o) × (k' ≡ k) × After D KeepsFiles d d' × (D.tells → KeepsAllDamaged (D.seen d) (D.seen d')))
    ⊎ (FaultIsLast (I.left i) (I.left i') (O.held o) (O.held o') × (D.tells → AreParts n (D.seen d)))

-- The statuses of a run after which no append is in doubt.
abbrev pub IsAtRest : RunStatus → Type 0
IsAtRest status.Ok = Unit {0}
IsAtRest status.ReadFault = Unit {0}
IsAtRest status.TooMuch = Unit {0}
IsAtRest _ = ⊥

-- The statuses of a run that took all its input, or whose source or sink failed, or that took too much.
abbrev pub IsAnswered : RunStatus → Type 0
IsAnswered status.Ok = Unit {0}
IsAnswered status.ReadFault = Unit {0}
IsAnswered status.WriteFault = Unit {0}
IsAnswered status.TooMuch = Unit {0}
IsAnswered _ = ⊥
