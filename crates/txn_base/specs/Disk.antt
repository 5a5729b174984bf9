-- What the calls of a disk do to its files, and what a crash may leave of them.
use Rattle.std.specs.Prelude.{◌≡◌, ◌⊎◌, ℕ, ◌+◌, ◌-◌, ◌<◌, ◌≤◌, ◌==◌, ◌&&◌, Bool, if◌then◌else◌, List, ◌++◌, length, take, drop, replicate, Result, OnErr}
use Rattle.txn_base.specs.declared.file_id.FileId.{FileId}
use Rattle.txn_base.specs.Outside.{Rose}

-- what each file holds
abbrev pub Files : Type 0
Files = FileId → List ℕ

-- no file but this one changes
abbrev pub Elsewhere : FileId → Files → Files → Type 0
Elsewhere file before after = (other : FileId) → (other ≡ file → ⊥) → after other ≡ before other

-- no file changes but these
abbrev pub ChangesOnly : (FileId → Type 0) → Files → Files → Type 0
ChangesOnly mine before after = (other : FileId) → (mine other → ⊥) → after other ≡ before other

-- this file changes so, and no other does
pub record Changes (file : FileId) (step : List ℕ → List ℕ → Type 0) (before after : Files) : Type 0 where
  pub here : step (before file) (after file)
  pub others : Elsewhere file before after

-- both name the same file
abbrev pub same_file : FileId → FileId → Bool
same_file a b = a.part == b.part && a.row == b.row

-- of this file what c has, of every other one what d has
abbrev pub mixed : FileId → Files → Files → Files
mixed file c d other = if same_file other file then c other else d other

-- nothing changes
abbrev pub Same : Files → Files → Type 0
Same before after = after ≡ before

-- a write of n bytes that a crash may cut short: any bytes in the range, the same outside
pub record Torn (at n : ℕ) (before after : List ℕ) : Type 0 where
  pub size : length after ≡ length before
  pub front : take at after ≡ take at before
  pub back : drop (at + n) after ≡ drop (at + n) before

-- the front of these bytes, or these bytes and zeros
abbrev pub resized : ℕ → List ℕ → List ℕ
resized size bytes = take size bytes ++ replicate (size - length bytes) 0

-- after a change of the size that a crash may undo
abbrev pub OldOrResized : ℕ → List ℕ → List ℕ → Type 0
OldOrResized size before after = (after ≡ before) ⊎ (after ≡ resized size before)

-- these bytes stand at the offset
abbrev pub overwritten : ℕ → List ℕ → List ℕ → List ℕ
overwritten at bytes old = take at old ++ bytes ++ drop (at + length bytes) old

-- a crash leaves this file with these bytes
abbrev pub Only : FileId → List ℕ → (Files → Type 0) → Type 0
Only file bytes image = (c : Files) → image c → c file ≡ bytes

-- Each image at a moment between the two disks is an image of the first after this step.
pub record Since {D : Type 0} (moment : D → ℕ) (image : D → Files → Type 0) (left_since : D → ℕ → Files → Type 0) (step : Files → Files → Type 0) (old new : D) : Type 0 where
  pub time : moment old ≤ moment new
  pub at_end : (c : Files) → image new c → (d : Files) × image old d × step d c
  pub between : (t : ℕ) (c : Files) → t ≤ moment old → left_since new t c → left_since old t c ⊎ ((d : Files) × image old d × step d c)
  pub keeps : (t : ℕ) (c : Files) → t ≤ moment old → left_since old t c → left_since new t c

-- A call on a file of this part fails only where the count and that of the part rose. No count falls.
pub record HasPartCause {T E : Type 0} (part before now : ℕ) (parts_before parts_now : ℕ → ℕ) (result : Result T E) : Type 0 where
  pub later : before ≤ now
  pub parts_later : (p : ℕ) → parts_before p ≤ parts_now p
  pub failed : OnErr result (Rose before now × Rose (parts_before part) (parts_now part))
  pub others : (p : ℕ) → p < 128 → (p ≡ part → ⊥) → parts_now p ≡ parts_before p

-- A call on files of this part may answer, among other refusals, a fault, which comes only where the count and that of
-- the part rose. No count falls.
pub record CountsFaults (part before now : ℕ) (parts_before parts_now : ℕ → ℕ) (is_fault : Type 0) : Type 0 where
  pub later : before ≤ now
  pub parts_later : (p : ℕ) → parts_before p ≤ parts_now p
  pub failed : is_fault → Rose before now × Rose (parts_before part) (parts_now part)
  pub others : (p : ℕ) → p < 128 → (p ≡ part → ⊥) → parts_now p ≡ parts_before p
