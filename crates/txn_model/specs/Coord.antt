-- The coordinator's log, as a list of skeletons.
use Rattle.std.specs.Prelude.{ℕ, ◌==◌, ◌&&◌, not, nat_le, Bool, true, false, if◌then◌else◌, List, Option, Some, None, unwrap_or, count_by, filter}
use Rattle.std.specs.List.{list_any}
use Rattle.txn_base.specs.declared.txn.TxnId.{TxnId}
use Rattle.txn_base.specs.declared.txn.Decision.{Decision}
use Rattle.txn_base.specs.declared.txn.Decision.TheVariants.{Commit, Abort}
use Rattle.txn_base.specs.declared.txn.Status.{Status}
use Rattle.txn_base.specs.declared.txn.Status.TheVariants.{Open, Committing, Committed, Aborting, Aborted}
use Rattle.txn_base.specs.declared.core_entry.CoreEntry.{CoreEntry}
use Rattle.txn_base.specs.declared.core_entry.CoreEntry.TheVariants as core
use Rattle.txn_model.specs.Words.{first_of, last_of, IsLawfulBy, numbers_from}
use Rattle.txn_model.specs.Skeletons.{same_txn}

-- The status while a decision stands and isn't closed; the status once it is closed.
abbrev pub deciding : Decision → Status
deciding Commit = Committing
deciding Abort = Aborting

abbrev pub closed : Decision → Status
closed Commit = Committed
closed Abort = Aborted

-- The entry that decides x by d; the one that closes it.
abbrev pub decision_skeleton : TxnId → Decision → CoreEntry
decision_skeleton x Commit = core.Committing x
decision_skeleton x Abort = core.Aborting x

abbrev pub closing_skeleton : TxnId → Decision → CoreEntry
closing_skeleton x Commit = core.Committed x
closing_skeleton x Abort = core.Aborted x

-- For x, the entry is its New.
abbrev pub is_new : TxnId → CoreEntry → Bool
is_new x (core.New y) = same_txn x y
is_new x _ = false

-- To x, the part p is added by the entry.
abbrev pub is_add : TxnId → ℕ → CoreEntry → Bool
is_add x p (core.AddPart y q) = same_txn x y && p == q
is_add x p _ = false

-- Of x, the status that an entry says; the decision; how it is closed.
abbrev pub says_status : TxnId → CoreEntry → Option Status
says_status x (core.Committing y) = if same_txn x y then Some Committing else None
says_status x (core.Committed y) = if same_txn x y then Some Committed else None
says_status x (core.Aborting y) = if same_txn x y then Some Aborting else None
says_status x (core.Aborted y) = if same_txn x y then Some Aborted else None
says_status x _ = None

abbrev pub says_decision : TxnId → CoreEntry → Option Decision
says_decision x (core.Committing y) = if same_txn x y then Some Commit else None
says_decision x (core.Aborting y) = if same_txn x y then Some Abort else None
says_decision x _ = None

abbrev pub says_closing : TxnId → CoreEntry → Option Decision
says_closing x (core.Committed y) = if same_txn x y then Some Commit else None
says_closing x (core.Aborted y) = if same_txn x y then Some Abort else None
says_closing x _ = None

-- In the log c, there is a New of x.
abbrev pub has_new : List CoreEntry → TxnId → Bool
has_new c x = list_any (is_new x) c

-- In the log c, x has no status where there is no New of it; otherwise it has the one that the last entry
-- that says any says, and is open where none does.
abbrev pub status_of : List CoreEntry → TxnId → Option Status
status_of c x = if has_new c x then Some (unwrap_or (last_of (says_status x) c) Open) else None

-- In the log c, the decision of x is the logged one, and x is undecided where none is.
abbrev pub decision_of : List CoreEntry → TxnId → Option Decision
decision_of c x = first_of (says_decision x) c

-- In the log c, how x was closed, if it was.
abbrev pub closing_of : List CoreEntry → TxnId → Option Decision
closing_of c x = first_of (says_closing x) c

-- In the log c, of x, p is a part: an entry adds it.
abbrev pub in_parts : List CoreEntry → TxnId → ℕ → Bool
in_parts c x p = list_any (is_add x p) c

-- In the log c, the parts of x are those that entries add, in order of their number.
abbrev pub parts_of : List CoreEntry → TxnId → List ℕ
parts_of c x = filter (in_parts c x) (numbers_from 1 62)

-- How many transactions the log c has begun.
abbrev pub is_begin : CoreEntry → Bool
is_begin (core.New x) = true
is_begin _ = false

abbrev pub count_new : List CoreEntry → ℕ
count_new c = count_by is_begin c

-- It is the status open.
abbrev pub is_open : Option Status → Bool
is_open (Some Open) = true
is_open _ = false

-- By the decision d, it is the status while d stands and isn't closed.
abbrev pub is_deciding : Decision → Option Status → Bool
is_deciding Commit (Some Committing) = true
is_deciding Abort (Some Aborting) = true
is_deciding _ _ = false

-- Where there are n named parts, after the log c: New of the next number; a part from 1 to n that isn't
-- there yet, while open; a decision, while open; a closing, while that decision stands.
abbrev pub coord_allows : ℕ → List CoreEntry → CoreEntry → Bool
coord_allows n c (core.New x) = same_txn x (record { most = 0; least = count_new c })
coord_allows n c (core.AddPart x p) = is_open (status_of c x) && nat_le 1 p && nat_le p n && not (in_parts c x p)
coord_allows n c (core.Committing x) = is_open (status_of c x)
coord_allows n c (core.Aborting x) = is_open (status_of c x)
coord_allows n c (core.Committed x) = is_deciding Commit (status_of c x)
coord_allows n c (core.Aborted x) = is_deciding Abort (status_of c x)
coord_allows n c _ = false

-- Where there are n named parts, each entry of the log c is allowed after those before it.
abbrev pub CoordLawful : ℕ → List CoreEntry → Type 0
CoordLawful n c = IsLawfulBy (coord_allows n) c
