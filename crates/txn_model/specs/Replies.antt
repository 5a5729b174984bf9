-- The replies to the lines of an input.
use Rattle.std.specs.Prelude.{◌≡◌, ◌⊎◌, ℕ, ◌≤◌, nat_lt, if◌then◌else◌, List, [], ◌∷◌, ◌++◌, length, count_by, Bool, true, false, Option, Some, None, MatchBool}
use Rattle.txn_base.specs.Outside.{TellsMoment, Rose}
use Rattle.txn_base.specs.declared.limits.Limits.{Limits}
use Rattle.txn_base.specs.declared.request.Request.{Request}
use Rattle.txn_base.specs.declared.reply.Reply.{Reply}
use Rattle.txn_base.specs.declared.reply.Reply.TheVariants as reply
use Rattle.txn_base.specs.declared.reply.Refusal.TheVariants as no
use Rattle.txn_base.specs.declared.reply.Stuck.{Stuck}
use Rattle.txn_base.specs.declared.reply.Why.{Why}
use Rattle.txn_base.specs.declared.reply.Why.TheVariants as why
use Rattle.txn_model.specs.Cut.{is_blank}
use Rattle.txn_model.specs.Table.{TableState}
use Rattle.txn_model.specs.Answers.{AnswersAt, reads_clock}

-- What stands between two lines: the table, the moments that the clock has to tell where it tells them, the disk's
-- count of faults, and that of each part.
pub record RunState : Type 0 where
  pub table : TableState
  pub moments : Option (List ℕ)
  pub faults : ℕ
  pub faults_of : ℕ → ℕ

-- From s to s', the disk's count and that of the part p rose.
abbrev pub RoseAt : RunState → RunState → ℕ → Type 0
RoseAt s s' p = Rose s.faults s'.faults × Rose (s.faults_of p) (s'.faults_of p)

-- From s to s', no count fell.
pub record NoneFell (s s' : RunState) : Type 0 where
  pub faults : s.faults ≤ s'.faults
  pub faults_of : (p : ℕ) → s.faults_of p ≤ s'.faults_of p

-- A line: too long, without anything, or one whose form gives a request or none.
pub data LineKind : Type 0 where
  too_long : LineKind
  blank : LineKind
  form : Option Request → LineKind

-- What a line is, where `request_of` gives the request of a form, and a line may have so many bytes.
abbrev pub line_kind_of : (List ℕ → Option Request) → Limits → List ℕ → LineKind
line_kind_of request_of limits line = if nat_lt limits.line (length line) then too_long else (if is_blank line then blank else form (request_of line))

-- From s, a request may be told this, and leave s'. It is told so at the next moment where it reads the clock; or
-- memory ran out before, and nothing changed.
abbrev pub TellsFor : Request → Option (List ℕ) → ℕ → Option (List ℕ) → Type 0
TellsFor r moments m moments' = MatchBool (reads_clock r) (TellsMoment moments m moments') (moments' ≡ moments)

abbrev pub AnswersFrom : Limits → RunState → Request → Reply → RunState → Type 0
AnswersFrom limits s r told s' =
    ((told ≡ reply.No no.NoMemory) × (s' ≡ s))
    ⊎ ((m : ℕ) × TellsFor r s.moments m s'.moments × AnswersAt limits (RoseAt s s') s.table r m told s'.table × NoneFell s s')

-- From s, a line of this kind may be told this, and leave s'. A blank line is told nothing.
abbrev pub Replied : Limits → RunState → LineKind → List Reply → RunState → Type 0
Replied limits s too_long told s' = (told ≡ reply.No no.TooLong ∷ []) × (s' ≡ s)
Replied limits s blank told s' = (told ≡ []) × (s' ≡ s)
Replied limits s (form None) told s' = ((told ≡ reply.No no.BadLine ∷ []) ⊎ (told ≡ reply.No no.NoMemory ∷ [])) × (s' ≡ s)
Replied limits s (form (Some r)) told s' = (one : Reply) × (told ≡ one ∷ []) × AnswersFrom limits s r one s'

-- From s, lines of these kinds may be told this, one after another, and leave s'.
abbrev pub Replies : Limits → RunState → List LineKind → List Reply → RunState → Type 0
Replies limits s [] told s' = (told ≡ []) × (s' ≡ s)
Replies limits s (kind ∷ kinds) told s' =
    (mid : RunState) × (first rest : List Reply) × Replied limits s kind first mid × Replies limits mid kinds rest s' × (told ≡ first ++ rest)

-- An end was stopped by a fault.
abbrev pub is_fault_why : Why → Bool
is_fault_why why.Fault = true
is_fault_why _ = false

abbrev pub is_stopped : Option Stuck → Bool
is_stopped None = false
is_stopped (Some s) = is_fault_why s.why

-- A reply tells of a fault: a refusal by one, or an end that was stopped by one.
abbrev pub is_fault : Reply → Bool
is_fault (reply.No (no.Fault part)) = true
is_fault (reply.Ended d outcome) = is_stopped outcome.stuck
is_fault (reply.Tick latest left (Some drove)) = is_stopped drove.outcome.stuck
is_fault _ = false

-- How many of these replies tell of a fault.
abbrev pub count_faults : List Reply → ℕ
count_faults told = count_by is_fault told
