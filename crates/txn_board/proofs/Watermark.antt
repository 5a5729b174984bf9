-- The low watermark: what lies below it is closed, and it is the model's of the coordinator's log.
use Rattle.std.proofs.Common.{◌≡◌, ℕ, zero, suc, ◌+◌, ◌<◌, ◌≤◌, arith, Bool, true, false, not, if◌then◌else◌, List, Option, Some, None, refl, sym, ap, ◌∙◌, subst}
use Rattle.std.specs.Prelude.{find, unwrap_or, is_some}
use native.Mathlib.Decide.{ℕ_discrete}
use Rattle.txn_base.specs.declared.txn.TxnId.{TxnId}
use Rattle.txn_base.specs.declared.txn.Decision.{Decision}
use Rattle.txn_base.specs.declared.txn.Decision.TheVariants.{Commit, Abort}
use Rattle.txn_base.specs.declared.txn.Status.{Status}
use Rattle.txn_base.specs.declared.txn.Status.TheVariants.{Open}
use Rattle.txn_base.specs.declared.core_entry.CoreEntry.{CoreEntry}
use Rattle.txn_base.specs.declared.entry.CoordEntry.{CoordEntry}
use Rattle.txn_model.specs.Words.{last_of, numbers_from}
use Rattle.txn_model.specs.Skeletons.{coord_skeletons}
use Rattle.txn_model.specs.Coord.{says_status, says_closing, has_new, status_of, decision_of, closing_of, count_new, CoordLawful}
use Rattle.txn_model.specs.Deadlines.{txn, is_closed, low_of}
use Rattle.txn_model.proofs.Laws.Tests.{no_true}
use Rattle.txn_model.proofs.Laws.Logs.{last_by, lawful_agrees}
use Rattle.txn_board.specs.Words.{has_closing, low_of_log}
use Rattle.txn_board.proofs.Meanings.{any_some}

-- the first number from k on, of so many, that isn't closed
abbrev pub open_from : (ℕ → Bool) → ℕ → ℕ → ℕ
open_from is_closed zero k = k
open_from is_closed (suc left) k = if is_closed k then open_from is_closed left (k + 1) else k

-- each number from k on that lies below the first open one is closed
closed_before : (closed : ℕ → Bool) (left k x : ℕ) → k ≤ x → x < open_from closed left k → closed x ≡ true
closed_before closed zero k x le lt = absurd (omega (arith, le, lt))
closed_before closed (suc left) k x le lt = go (closed k) refl lt (closed_before closed left (k + 1) x)
  where
    go : (b : Bool) → closed k ≡ b → x < (if closed k then open_from closed left (k + 1) else k) → (k + 1 ≤ x → x < open_from closed left (k + 1) → closed x ≡ true) → closed x ≡ true
    go true e l more = elim (ℕ_discrete x k) [ yes is ↦ ap closed is ∙ e | no n ↦ more (omega (arith, le, n)) (subst (λ b. x < (if b then open_from closed left (k + 1) else k)) e l) ]
    go false e l more = let m : x < k = subst (λ b. x < (if b then open_from closed left (k + 1) else k)) e l in absurd (omega (arith, le, m))

first_open : (closed shut : ℕ → Bool) (left k : ℕ) → ((j : ℕ) → closed j ≡ shut j) → open_from closed left k ≡ unwrap_or (find (λ j. not (shut j)) (numbers_from k left)) (k + left)
first_open closed shut zero k same = omega arith
first_open closed shut (suc left) k same = go (shut k) refl (first_open closed shut left (suc k) same)
  where
    more : k + 1 ≡ suc k
    more = omega arith

    last : suc k + left ≡ k + suc left
    last = omega arith

    go : (b : Bool) → shut k ≡ b → open_from closed left (suc k) ≡ unwrap_or (find (λ j. not (shut j)) (numbers_from (suc k) left)) (suc k + left)
        → (if closed k then open_from closed left (k + 1) else k) ≡ unwrap_or (if not (shut k) then Some k else find (λ j. not (shut j)) (numbers_from (suc k) left)) (k + suc left)
    go true e rest =
        ap (λ b. if b then open_from closed left (k + 1) else k) (same k ∙ e)
        ∙ (ap (open_from closed left) more ∙ (rest ∙ (ap (unwrap_or (find (λ j. not (shut j)) (numbers_from (suc k) left))) last ∙ sym (ap (λ b. unwrap_or (if not b then Some k else find (λ j. not (shut j)) (numbers_from (suc k) left)) (k + suc left)) e))))
    go false e rest = ap (λ b. if b then open_from closed left (k + 1) else k) (same k ∙ e) ∙ sym (ap (λ b. unwrap_or (if not b then Some k else find (λ j. not (shut j)) (numbers_from (suc k) left)) (k + suc left)) e)

pub low_is : (c : List CoreEntry) → open_from (has_closing c) (count_new c) 0 ≡ low_of_log c
low_is c = first_open (has_closing c) (has_closing c) (count_new c) 0 (λ j. refl) ∙ ap (unwrap_or (find (λ k. not (has_closing c k)) (numbers_from 0 (count_new c)))) (nothing (count_new c))
  where
    nothing : (n : ℕ) → 0 + n ≡ n
    nothing n = omega arith

pub closed_below : (c : List CoreEntry) (x : ℕ) → x < low_of_log c → has_closing c x ≡ true
closed_below c x lt = closed_before (has_closing c) (count_new c) 0 x (omega arith) (subst (λ n. x < n) (sym (low_is c)) lt)

-- in a lawful log a status is closed where a closing is logged
pub closed_is : (n : ℕ) (c : List CoreEntry) (x : TxnId) → CoordLawful n c → is_closed (status_of c x) ≡ is_some (closing_of c x)
closed_is n c x law =
    let a = lawful_agrees n c x law in
    by (has_new c x) (last_of (says_status x) c) (closing_of c x) (decision_of c x) a.said a.when_closed a.when_decided
  where
    by : (b : Bool) (l : Option Status) (k d : Option Decision) → l ≡ last_by k d → ((w : Decision) → k ≡ Some w → d ≡ Some w) → ((w : Decision) → d ≡ Some w → b ≡ true) → is_closed (if b then Some (unwrap_or l Open) else None) ≡ is_some k
    by false l (Some w) d said shut made = absurd (no_true (made w (shut w refl)))
    by false l None d said shut made = refl
    by true l (Some Commit) d said shut made = ap (λ o. is_closed (Some (unwrap_or o Open))) said
    by true l (Some Abort) d said shut made = ap (λ o. is_closed (Some (unwrap_or o Open))) said
    by true l None (Some Commit) said shut made = ap (λ o. is_closed (Some (unwrap_or o Open))) said
    by true l None (Some Abort) said shut made = ap (λ o. is_closed (Some (unwrap_or o Open))) said
    by true l None None said shut made = ap (λ o. is_closed (Some (unwrap_or o Open))) said

pub closing_is : (c : List CoreEntry) (k : ℕ) → has_closing c k ≡ is_some (closing_of c (txn k))
closing_is c k = any_some (says_closing (txn k)) c

-- the low watermark of the words is that of the model
pub low_same : (n : ℕ) (c : List CoordEntry) → CoordLawful n (coord_skeletons c) → low_of_log (coord_skeletons c) ≡ low_of c
low_same n c law =
    let cs = coord_skeletons c in
    ap (λ (f : ℕ → Bool). unwrap_or (find f (numbers_from 0 (count_new cs))) (count_new cs)) (λ i k. ap not (closing_is cs k ∙ sym (closed_is n cs (txn k) law)) i)
