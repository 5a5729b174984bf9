-- How the words lie, and what they say of the settled lists. This module alone knows it: another layout replaces this one
-- and its laws, and no other.
use Rattle.std.specs.Prelude.{◌≡◌, ℕ, zero, suc, ◌+◌, ◌-◌, ◌*◌, ◌^◌, ◌==◌, nat_le, nat_lt, ◌&&◌, not, ◌<◌, ◌≤◌, Bool, false, if◌then◌else◌, List, ◌++◌, length, filter, slice_index, slice_set, Option, Some, None, is_some, find, unwrap_or}
use Rattle.std.specs.Int.{bit_at}
use Rattle.std.specs.Int.Bits.{bit_or}
use Rattle.std.specs.List.{list_any}
use Rattle.txn_base.specs.declared.txn.TxnId.{TxnId}
use Rattle.txn_base.specs.declared.txn.Decision.{Decision}
use Rattle.txn_base.specs.declared.txn.Decision.TheVariants.{Commit, Abort}
use Rattle.txn_base.specs.declared.core_entry.CoreEntry.{CoreEntry}
use Rattle.txn_base.specs.declared.core_entry.CoreEntry.TheVariants as core
use Rattle.txn_model.specs.Coord.{is_new, is_add, says_decision, says_closing, count_new}
use Rattle.txn_model.specs.Words.{below}
use Rattle.txn_model.specs.Topic.{marks}
use Rattle.txn_model.specs.Skeletons.{same_txn}
use Rattle.txn_model.specs.Deadlines.{txn}
use Rattle.txn_core.specs.Steps.{is_decision}
use Rattle.txn_board.specs.declared.words.Word.{Word}
use Rattle.txn_board.specs.declared.words.Word.TheVariants.{Registered, Decided, Done}
use Rattle.txn_board.specs.declared.words.Mark.{Mark}

-- How many transactions have words, from the low watermark on.
abbrev pub window : ℕ
window = 65536

-- It is the number of one of so many transactions, from the first on.
pub record IsIn (first count x : ℕ) : Type 0 where
  pub least : first ≤ x
  pub most : x < first + count

abbrev pub is_in : ℕ → ℕ → ℕ → Bool
is_in first count x = nat_le first x && nat_lt x (first + count)

-- Where a word stands among the three of its transaction, and in a list of the words from the first transaction on.
abbrev pub offset : Word → ℕ
offset Registered = 0
offset Decided = 1
offset Done = 2

abbrev pub word_at : ℕ → ℕ → Word → ℕ
word_at first x w = 3 * (x - first) + offset w

-- Where the word stands that a call loads whose step needs none.
abbrev pub own_place : ℕ
own_place = 0

-- ---- What the bits say.

abbrev pub as_bit : Bool → ℕ
as_bit b = if b then 1 else 0

abbrev pub is_bit_set : ℕ → ℕ → Bool
is_bit_set n p = bit_at n p == 1

-- Of x, the entry is the decision d, a closing, a marker.
abbrev pub decides : TxnId → Decision → CoreEntry → Bool
decides x d e = is_decision (says_decision x e) d

abbrev pub closes : TxnId → CoreEntry → Bool
closes x e = is_some (says_closing x e)

abbrev pub ends : TxnId → CoreEntry → Bool
ends x e = is_some (marks x e)

-- Of the word of x, the bit p stands for an entry of this kind. Of the registered parts, bit 0 for New and bit p for
-- AddPart of p; of the decision, bit 0 for a commit and bit 1 for an abort; of those done, bit 0 for a closing and bit p
-- for a marker.
abbrev pub sets : Word → ℕ → TxnId → CoreEntry → Bool
sets Registered zero x e = is_new x e
sets Registered (suc p) x e = is_add x (suc p) e
sets Decided zero x e = decides x Commit e
sets Decided (suc zero) x e = decides x Abort e
sets Decided (suc (suc p)) x e = false
sets Done zero x e = closes x e
sets Done (suc p) x e = ends x e

-- The part in whose list such an entry stands.
abbrev pub teller : Word → ℕ → ℕ
teller Registered p = 0
teller Decided p = 0
teller Done p = p

-- The lists say the bit p of this word of x.
abbrev pub tells : (ℕ → List CoreEntry) → TxnId → Word → ℕ → Bool
tells lists x w p = list_any (sets w p x) (lists (teller w p))

-- The words of so many transactions from the first on say what the lists say.
pub record WordsSay (first count : ℕ) (words : List ℕ) (lists : ℕ → List CoreEntry) : Type 0 where
  pub size : length words ≡ 3 * count
  pub bits : (x : ℕ) (w : Word) (p : ℕ) → IsIn first count x → p < 64 → bit_at (slice_index words (word_at first x w)) p ≡ as_bit (tells lists (txn x) w p)

-- ---- What an entry changes.

-- The bit that an entry of the part's list sets, if it sets one. A part past 63 and a transaction of another coordinator
-- have no bit.
abbrev pub mark_where : Bool → TxnId → Word → ℕ → Option Mark
mark_where holds x w p = if holds && x.most == 0 then Some (record { txn = x.least; word = w; bit = p }) else None

abbrev pub mark_of : ℕ → CoreEntry → Option Mark
mark_of p core.Plain = None
mark_of p (core.Inside x) = None
mark_of p (core.Marker x d) = mark_where (nat_le 1 p && nat_lt p 64) x Done p
mark_of p (core.New x) = mark_where (p == 0) x Registered 0
mark_of p (core.AddPart x q) = mark_where (p == 0 && nat_le 1 q && nat_lt q 64) x Registered q
mark_of p (core.Committing x) = mark_where (p == 0) x Decided 0
mark_of p (core.Aborting x) = mark_where (p == 0) x Decided 1
mark_of p (core.Committed x) = mark_where (p == 0) x Done 0
mark_of p (core.Aborted x) = mark_where (p == 0) x Done 0

-- The words once this bit is set.
abbrev pub set_bit : List ℕ → ℕ → ℕ → List ℕ
set_bit words place p = slice_set words place (bit_or (slice_index words place) (2 ^ p))

abbrev pub with_mark : ℕ → ℕ → Option Mark → List ℕ → List ℕ
with_mark first count None words = words
with_mark first count (Some m) words = if is_in first count m.txn then set_bit words (word_at first m.txn m.word) m.bit else words

-- The lists where that of the part p has these entries more.
abbrev pub with_more : (ℕ → List CoreEntry) → ℕ → List CoreEntry → ℕ → List CoreEntry
with_more lists p es q = if q == p then lists q ++ es else lists q

-- A value that a word had has only bits that the word has now.
pub record StillHolds (words : List ℕ) (place value : ℕ) : Type 0 where
  pub bits : (p : ℕ) → bit_at value p ≤ bit_at (slice_index words place) p

-- ---- The entries of a transaction.

-- The entry is one of x; those of a list that are.
abbrev pub is_of : TxnId → CoreEntry → Bool
is_of x core.Plain = false
is_of x (core.Inside y) = same_txn x y
is_of x (core.Marker y d) = same_txn x y
is_of x (core.New y) = same_txn x y
is_of x (core.AddPart y p) = same_txn x y
is_of x (core.Committing y) = same_txn x y
is_of x (core.Aborting y) = same_txn x y
is_of x (core.Committed y) = same_txn x y
is_of x (core.Aborted y) = same_txn x y

abbrev pub entries_of : TxnId → List CoreEntry → List CoreEntry
entries_of x es = filter (is_of x) es

-- ---- The low watermark.

-- In the log c, the transaction of this number is closed.
abbrev pub has_closing : List CoreEntry → ℕ → Bool
has_closing c k = list_any (closes (txn k)) c

-- In the log c, the least number of a transaction that isn't closed, or their count.
abbrev pub low_of_log : List CoreEntry → ℕ
low_of_log c = unwrap_or (find (λ k. not (has_closing c k)) (below (count_new c))) (count_new c)
