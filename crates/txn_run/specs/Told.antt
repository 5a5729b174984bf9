-- What was put into the sink for lines that were answered.
use Rattle.std.specs.Prelude.{◌≡◌, ◌⊎◌, ℕ, List, [], ◌∷◌, ◌++◌, take, flat_map, Bool, true, false, Option, Some, None}
use Rattle.std.specs.Io.KnownBytes.{Appends}
use Rattle.txn_base.specs.declared.limits.Limits.{Limits}
use Rattle.txn_base.specs.declared.reply.Reply.{Reply}
use Rattle.txn_base.specs.declared.reply.Reply.TheVariants as reply
use Rattle.txn_base.specs.declared.reply.Refusal.TheVariants as no
use Rattle.txn_model.specs.Replies.{RunState, LineKind, Replied, Replies, is_fault}
use Rattle.txn_model.specs.Table.{TableState, is_unrebuilt}
use Rattle.txn_wire.specs.Replies.{text_of}
use Rattle.txn_wire.specs.Short.{is_long}
use Rattle.txn_run.specs.Kinds.{line_kinds}

-- The texts of replies, one behind the other.
abbrev pub texts : List Reply → List ℕ
texts told = flat_map text_of told

-- There is a reply, and it tells of a fault.
abbrev pub tells_fault : Option Reply → Bool
tells_fault None = false
tells_fault (Some r) = is_fault r

-- In this table every part is rebuilt; a part isn't.
abbrev pub AllRebuilt : TableState → Type 0
AllRebuilt t = (p : ℕ) → is_unrebuilt t p ≡ false

abbrev pub SomeUnrebuilt : TableState → Type 0
SomeUnrebuilt t = (p : ℕ) × (is_unrebuilt t p ≡ true)

-- Something was put, or nothing.
abbrev pub OnlyAppends : Option (List ℕ) → Option (List ℕ) → Type 0
OnlyAppends old new = (bytes : List ℕ) × Appends old new bytes

-- What was put ends with the text of a reply that tells of a fault.
pub record EndsWithFault (old new : Option (List ℕ)) : Type 0 where
  pub before : List ℕ
  pub last : Reply
  pub fault : is_fault last ≡ true
  pub put : Appends old new (before ++ text_of last)

-- A line of this kind was told so, and the texts of that were put; or it was told one reply, and a front of its text was put.
abbrev pub ToldLine : Limits → RunState → LineKind → RunState → Option (List ℕ) → Option (List ℕ) → Type 0
ToldLine limits s kind s' old new = (told : List Reply) × Replied limits s kind told s' × Appends old new (texts told)

abbrev pub ToldFront : Limits → RunState → LineKind → RunState → Option (List ℕ) → Option (List ℕ) → Type 0
ToldFront limits s kind s' old new = (one : Reply) × (count : ℕ) × Replied limits s kind (one ∷ []) s' × Appends old new (take count (text_of one))

-- A line of this kind was told a fault, after which a part isn't rebuilt.
abbrev pub ToldFault : Limits → RunState → LineKind → RunState → Option (List ℕ) → Option (List ℕ) → Type 0
ToldFault limits s kind s' old new = (one : Reply) × Replied limits s kind (one ∷ []) s' × (is_fault one ≡ true) × SomeUnrebuilt s'.table × Appends old new (texts (one ∷ []))

-- From s, these lines were answered and leave s', and the texts of the replies were put.
pub record AnsweredLines (limits : Limits) (s : RunState) (lines : List (List ℕ)) (s' : RunState) (old new : Option (List ℕ)) : Type 0 where
  pub told : List Reply
  pub replies : Replies limits s (line_kinds limits lines) told s'
  pub put : Appends old new (texts told)

-- The same, and the last reply is a fault, after which a part isn't rebuilt.
pub record ToldToFault (limits : Limits) (s : RunState) (lines : List (List ℕ)) (s' : RunState) (old new : Option (List ℕ)) : Type 0 where
  pub told : List Reply
  pub last : Reply
  pub replies : Replies limits s (line_kinds limits lines) (told ++ last ∷ []) s'
  pub fault : is_fault last ≡ true
  pub unrebuilt : SomeUnrebuilt s'.table
  pub put : Appends old new (texts (told ++ last ∷ []))

-- The same, but of the text of the last reply only a front was put.
pub record CutOff (limits : Limits) (s : RunState) (lines : List (List ℕ)) (s' : RunState) (old new : Option (List ℕ)) : Type 0 where
  pub told : List Reply
  pub last : Reply
  pub count : ℕ
  pub replies : Replies limits s (line_kinds limits lines) (told ++ last ∷ []) s'
  pub put : Appends old new (texts told ++ take count (text_of last))

-- The first of these lines were answered, and of the text of the last reply only a front was put.
abbrev pub Broken : Limits → RunState → Option (List ℕ) → List (List ℕ) → RunState → Option (List ℕ) → Type 0
Broken limits s old all s' new = (lines more : List (List ℕ)) × (all ≡ lines ++ more) × CutOff limits s lines s' old new

-- The first of these lines were answered, the last of them by a fault, after which a part isn't rebuilt.
abbrev pub Stopped : Limits → RunState → Option (List ℕ) → List (List ℕ) → RunState → Option (List ℕ) → Type 0
Stopped limits s old all s' new = (lines more : List (List ℕ)) × (all ≡ lines ++ more) × ToldToFault limits s lines s' old new

-- Told in the place of a reply: it, or want of memory for its text.
abbrev pub IsToldFor : Reply → Reply → Type 0
IsToldFor r told = (told ≡ r) ⊎ ((told ≡ reply.No no.NoMemory) × (is_long r ≡ true))

-- A line of this kind may be told this reply, and where its text is long, want of memory instead.
pub record LineMayTell (limits : Limits) (s : RunState) (kind : LineKind) (r : Reply) (s' : RunState) : Type 0 where
  pub told : Replied limits s kind (r ∷ []) s'
  pub instead : is_long r ≡ true → Replied limits s kind (reply.No no.NoMemory ∷ []) s'
