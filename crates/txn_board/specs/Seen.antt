-- What a reader's answer is, by the loads that its call made.
use Rattle.std.specs.Prelude.{◌≡◌, ◌<◌, ◌≤◌, ◌+◌, ◌&&◌, ℕ, ◌==◌, nat_le, nat_lt, Bool, true, false, if◌then◌else◌, List, [], ◌∷◌, map, Option, Some, None}
use Rattle.std.specs.Int.{bit_at}
use Rattle.txn_base.specs.declared.core_entry.CoreEntry.{CoreEntry}
use Rattle.txn_base.specs.declared.txn.TxnId.{TxnId}
use Rattle.txn_base.specs.declared.txn.Decision.{Decision}
use Rattle.txn_base.specs.declared.txn.Decision.TheVariants.{Commit, Abort}
use Rattle.txn_base.specs.declared.txn.Status.{Status}
use Rattle.txn_base.specs.declared.txn.Status.TheVariants.{Open, Committing, Committed, Aborting, Aborted}
use Rattle.txn_model.specs.Coord.{CoordLawful, status_of, decision_of, in_parts}
use Rattle.txn_model.specs.Deadlines.{txn}
use Rattle.txn_core.specs.Steps.{CoreState, settled_of}
use Rattle.txn_board.specs.declared.view.Load.{Load}
use Rattle.txn_board.specs.declared.view.View.{View}
use Rattle.txn_board.specs.declared.words.Word.{Word}
use Rattle.txn_board.specs.declared.words.Word.TheVariants.{Registered, Decided, Done}
use Rattle.txn_board.specs.Words.{window, IsIn, is_in, word_at, as_bit, is_bit_set, tells}
use Rattle.txn_board.specs.Rows.{list_in, low_in, with_loads}
use Rattle.txn_board.specs.Rule.{Found, AreFound, ShowsOn, ShowOn, IsTold}

abbrev pub place_of : Load → ℕ
place_of l = l.place

-- The value of the last load of this place, or one given before where there is none.
abbrev pub last_value : ℕ → List Load → ℕ → ℕ
last_value before [] place = before
last_value before (l ∷ ls) place = last_value (if l.place == place then l.value else before) ls place

-- By these loads, the bit p of this word of the transaction x. Below the low watermark the lists of the opening say it; a
-- word that wasn't loaded has no bit, and so has one past the window.
abbrev pub bit_seen : List (List CoreEntry) → List Load → ℕ → Word → ℕ → Bool
bit_seen lists loads x w p = if nat_lt x (low_in lists) then tells (list_in lists) (txn x) w p else is_bit_set (last_value 0 loads (word_at (low_in lists) x w)) p

-- The status of a transaction, by whether it is begun, decided by a commit, by an abort, and closed.
abbrev pub status_by : Bool → Bool → Bool → Bool → Option Status
status_by false commit abort closed = None
status_by true true abort closed = Some (if closed then Committed else Committing)
status_by true false true closed = Some (if closed then Aborted else Aborting)
status_by true false false closed = Some Open

abbrev pub decision_by : Bool → Bool → Option Decision
decision_by true abort = Some Commit
decision_by false true = Some Abort
decision_by false false = None

-- By the bits that these lists say of x, its status, its decision.
abbrev pub status_told : (ℕ → List CoreEntry) → TxnId → Option Status
status_told lists x = status_by (tells lists x Registered 0) (tells lists x Decided 0) (tells lists x Decided 1) (tells lists x Done 0)

abbrev pub decision_told : (ℕ → List CoreEntry) → TxnId → Option Decision
decision_told lists x = decision_by (tells lists x Decided 0) (tells lists x Decided 1)

-- Of lists, this is so of each transaction.
abbrev pub OfAnyLists : ((ℕ → List CoreEntry) → TxnId → Type 0) → Type 0
OfAnyLists fact = (lists : ℕ → List CoreEntry) (x : TxnId) → fact lists x

-- Of lists with a lawful log, this is so of each transaction.
abbrev pub OfLawfulLogs : ((ℕ → List CoreEntry) → TxnId → Type 0) → Type 0
OfLawfulLogs fact = (n : ℕ) (lists : ℕ → List CoreEntry) (x : TxnId) → CoordLawful n (lists 0) → fact lists x

-- By these loads, the status of x, its decision.
abbrev pub status_seen : List (List CoreEntry) → List Load → ℕ → Option Status
status_seen lists loads x = status_by (bit_seen lists loads x Registered 0) (bit_seen lists loads x Decided 0) (bit_seen lists loads x Decided 1) (bit_seen lists loads x Done 0)

abbrev pub decision_seen : List (List CoreEntry) → List Load → ℕ → Option Decision
decision_seen lists loads x = decision_by (bit_seen lists loads x Decided 0) (bit_seen lists loads x Decided 1)

-- The words that it takes to tell a status.
abbrev pub words_of : Option Status → List Word
words_of None = Registered ∷ []
words_of (Some Open) = Registered ∷ Decided ∷ []
words_of (Some Committing) = Registered ∷ Decided ∷ Done ∷ []
words_of (Some Committed) = Registered ∷ Decided ∷ Done ∷ []
words_of (Some Aborting) = Registered ∷ Decided ∷ Done ∷ []
words_of (Some Aborted) = Registered ∷ Decided ∷ Done ∷ []

-- The places of these words of x, in order, where x is in the window; it has none elsewhere.
abbrev pub word_places : List (List CoreEntry) → ℕ → List Word → List ℕ
word_places lists x ws = if is_in (low_in lists) window x then map (word_at (low_in lists) x) ws else []

-- The loads of one word of x with this value.
abbrev pub looked : List (List CoreEntry) → ℕ → Word → ℕ → List Load
looked lists x w n = if is_in (low_in lists) window x then record { place = word_at (low_in lists) x w; value = n } ∷ [] else []

-- What the value of one word of x is: below the low watermark, what the lists of the opening say; past the window, nothing;
-- and in it, what stood at the place of the word, with every bit that the seat's earlier loads showed there.
pub record Looked (made : Type 0) (lists : List (List CoreEntry)) (x : ℕ) (w : Word) (n : ℕ) (v : View) : Type 0 where
  pub below : x < low_in lists → (p : ℕ) → p < 64 → bit_at n p ≡ as_bit (tells (list_in lists) (txn x) w p)
  pub past : low_in lists + window ≤ x → n ≡ 0
  pub found : made → IsIn (low_in lists) window x → Found lists (word_at (low_in lists) x w) n v
  pub grows : IsIn (low_in lists) window x → ShowsOn (word_at (low_in lists) x w) n v.loads

-- A call loaded just these words of x: the view has those loads more, and nothing else changed; where the promise is made,
-- each load showed what stood at its place; and whatever is promised, every bit that an earlier one of the seat showed there.
pub record Reads (made : Type 0) (lists : List (List CoreEntry)) (x : ℕ) (ws : List Word) (loads : List Load) (before now : View) : Type 0 where
  pub view : now ≡ with_loads loads before
  pub places : map place_of loads ≡ word_places lists x ws
  pub found : made → AreFound lists before loads
  pub grows : ShowOn before loads

-- A status is told by the loads of the words that it takes; a decision, a registered part and the parts that are done by that
-- of their word.
pub record ReadsStatus (made : Type 0) (lists : List (List CoreEntry)) (x : ℕ) (told : Option Status) (loads : List Load) (before now : View) : Type 0 where
  pub reads : Reads made lists x (words_of told) loads before now
  pub is : told ≡ status_seen lists loads x

pub record ReadsDecision (made : Type 0) (lists : List (List CoreEntry)) (x : ℕ) (told : Option Decision) (loads : List Load) (before now : View) : Type 0 where
  pub reads : Reads made lists x (Decided ∷ []) loads before now
  pub is : told ≡ decision_seen lists loads x

pub record ReadsPart (made : Type 0) (lists : List (List CoreEntry)) (x part : ℕ) (told : Bool) (loads : List Load) (before now : View) : Type 0 where
  pub reads : Reads made lists x (Registered ∷ []) loads before now
  pub is : told ≡ (nat_le 1 part && nat_lt part 64 && bit_seen lists loads x Registered part)

pub record ReadsDone (made : Type 0) (lists : List (List CoreEntry)) (x told : ℕ) (loads : List Load) (before now : View) : Type 0 where
  pub reads : Reads made lists x (Done ∷ []) loads before now
  pub is : (p : ℕ) → p < 64 → is_bit_set told p ≡ bit_seen lists loads x Done p

-- By some loads it is told so.
abbrev pub StatusIsRead : Type 0 → List (List CoreEntry) → ℕ → Option Status → View → View → Type 0
StatusIsRead made lists x told before now = (loads : List Load) × ReadsStatus made lists x told loads before now

abbrev pub DecisionIsRead : Type 0 → List (List CoreEntry) → ℕ → Option Decision → View → View → Type 0
DecisionIsRead made lists x told before now = (loads : List Load) × ReadsDecision made lists x told loads before now

abbrev pub PartIsRead : Type 0 → List (List CoreEntry) → ℕ → ℕ → Bool → View → View → Type 0
PartIsRead made lists x part told before now = (loads : List Load) × ReadsPart made lists x part told loads before now

abbrev pub DoneIsRead : Type 0 → List (List CoreEntry) → ℕ → ℕ → View → View → Type 0
DoneIsRead made lists x told before now = (loads : List Load) × ReadsDone made lists x told loads before now

-- A reader who is told a status of a transaction that isn't closed knows that it lies in the window.
abbrev pub ToldWithin : Type 0 → List (List CoreEntry) → ℕ → Status → Type 0
ToldWithin made lists x st = (loads : List Load) (v w : View) → ReadsStatus made lists x (Some st) loads v w → IsIn (low_in lists) window x

-- ---- What the readers tell of the core's state.

-- The bits of the number are what the settled lists say by this word of x.
abbrev pub IsWordIn : ℕ → Word → ℕ → CoreState → Type 0
IsWordIn x w n c = (p : ℕ) → p < 64 → is_bit_set n p ≡ tells (settled_of c) (txn x) w p

-- What the settled lists have of x: the status; the decision; that the part, from 1 to 63, is registered; and those of the
-- parts 1 to 63 that have a marker and, in bit 0, that it is closed.
abbrev pub IsStatusIn : ℕ → Option Status → CoreState → Type 0
IsStatusIn x told c = told ≡ status_of (settled_of c 0) (txn x)

abbrev pub IsDecisionIn : ℕ → Option Decision → CoreState → Type 0
IsDecisionIn x told c = told ≡ decision_of (settled_of c 0) (txn x)

abbrev pub IsRegisteredIn : ℕ → ℕ → Bool → CoreState → Type 0
IsRegisteredIn x part told c = told ≡ (nat_le 1 part && nat_lt part 64 && in_parts (settled_of c 0) (txn x) part)

abbrev pub IsDoneIn : ℕ → ℕ → CoreState → Type 0
IsDoneIn x told c = IsWordIn x Done told c

-- A status is told by loads, and it is so of the core's state.
abbrev pub StatusIsTold : Type 0 → List (List CoreEntry) → ℕ → Option Status → View → View → Type 0
StatusIsTold made lists x told before now = StatusIsRead made lists x told before now × IsTold made lists x before now (IsStatusIn x told)
