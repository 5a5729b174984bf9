-- What the bits are in the words of the model.
use Rattle.std.proofs.Common.{◌≡◌, ℕ, suc, ◌+◌, arith, Bool, true, false, ◌||◌, List, [], ◌∷◌, Option, Some, None, refl, sym, ap, ◌∙◌, subst}
use Rattle.std.specs.Prelude.{is_some, unwrap_or, if◌then◌else◌}
use Rattle.std.specs.List.{list_any}
use Rattle.std.specs.Option.{option_or}
use Rattle.txn_base.specs.declared.txn.TxnId.{TxnId}
use Rattle.txn_base.specs.declared.txn.Decision.{Decision}
use Rattle.txn_base.specs.declared.txn.Decision.TheVariants.{Commit, Abort}
use Rattle.txn_base.specs.declared.txn.Status.{Status}
use Rattle.txn_base.specs.declared.txn.Status.TheVariants.{Open}
use Rattle.txn_base.specs.declared.core_entry.CoreEntry.{CoreEntry}
use Rattle.txn_model.specs.Words.{first_of, last_of}
use Rattle.txn_model.specs.Coord.{CoordLawful, says_status, says_decision, says_closing, has_new, status_of, decision_of, closing_of, in_parts}
use Rattle.txn_model.specs.Topic.{marker_of}
use Rattle.txn_model.proofs.Laws.Tests.{no_true}
use Rattle.txn_model.proofs.Laws.Logs.{last_by, lawful_agrees}
use Rattle.txn_core.specs.Steps.{is_decision}
use Rattle.txn_core.proofs.Laws.{decision_is, decision_test}
use Rattle.txn_board.specs.declared.words.Word.TheVariants.{Registered, Decided, Done}
use Rattle.txn_board.specs.Words.{decides, tells}
use Rattle.txn_board.specs.Seen.{status_by, decision_by}
use Rattle.txn_board.proofs.Startings.{decided}

pub any_some : {E V : Type 0} (f : E → Option V) (es : List E) → list_any (λ e. is_some (f e)) es ≡ is_some (first_of f es)
any_some f [] = refl
any_some f (e ∷ es) = go (f e) (any_some f es)
  where
    go : (o : Option _) → list_any (λ e. is_some (f e)) es ≡ is_some (first_of f es) → (is_some o || list_any (λ e. is_some (f e)) es) ≡ is_some (option_or o (first_of f es))
    go (Some v) h = refl
    go None h = h

pub said_any : (x : TxnId) (d : Decision) (c : List CoreEntry) → decision_of c x ≡ Some d → list_any (decides x d) c ≡ true
said_any x d [] h = absurd (cc h)
said_any x d (e ∷ c) h = go (says_decision x e) refl h (said_any x d c)
  where
    go : (o : Option Decision) → says_decision x e ≡ o → option_or (says_decision x e) (decision_of c x) ≡ Some d → (decision_of c x ≡ Some d → list_any (decides x d) c ≡ true) → (is_decision (says_decision x e) d || list_any (decides x d) c) ≡ true
    go (Some w) is k later = ap (λ b. b || list_any (decides x d) c) (decision_test (says_decision x e) d (is ∙ (ap (λ o. option_or o (decision_of c x)) (sym is) ∙ k)))
    go None is k later = ap (λ o. is_decision o d || list_any (decides x d) c) is ∙ later (ap (λ o. option_or o (decision_of c x)) (sym is) ∙ k)

pub decides_is : (n : ℕ) (c : List CoreEntry) (x : TxnId) (d : Decision) → CoordLawful n c → list_any (decides x d) c ≡ is_decision (decision_of c x) d
decides_is n c x d law = go (list_any (decides x d) c) refl (is_decision (decision_of c x) d) refl
  where
    go : (a : Bool) → list_any (decides x d) c ≡ a → (b : Bool) → is_decision (decision_of c x) d ≡ b → list_any (decides x d) c ≡ is_decision (decision_of c x) d
    go true e b f = e ∙ sym (decision_test (decision_of c x) d (decided n c x d law e))
    go false e true f = absurd (no_true (sym e ∙ said_any x d c (decision_is (decision_of c x) d f)))
    go false e false f = e ∙ sym f

pub part_bits : (lists : ℕ → List CoreEntry) (x : TxnId) (p : ℕ) → tells lists x Registered (p + 1) ≡ in_parts (lists 0) x (p + 1)
part_bits lists x p = subst (λ q. tells lists x Registered q ≡ in_parts (lists 0) x q) (more p) refl
  where
    more : (p : ℕ) → suc p ≡ p + 1
    more p = omega arith

pub marker_bits : (lists : ℕ → List CoreEntry) (x : TxnId) (p : ℕ) → tells lists x Done (p + 1) ≡ is_some (marker_of (lists (p + 1)) x)
marker_bits lists x p = subst (λ q. tells lists x Done q ≡ is_some (marker_of (lists q) x)) (more p) (any_some _ (lists (suc p)))
  where
    more : (p : ℕ) → suc p ≡ p + 1
    more p = omega arith

-- ---- The status and the decision.

only_one : (o : Option Decision) → is_decision o Abort ≡ true → is_decision o Commit ≡ false
only_one None h = refl
only_one (Some Commit) h = absurd (no_true h)
only_one (Some Abort) h = refl

-- in a lawful log the bits of a transaction make its status
pub status_is : (n : ℕ) (lists : ℕ → List CoreEntry) (x : TxnId) → CoordLawful n (lists 0)
    → status_by (tells lists x Registered 0) (tells lists x Decided 0) (tells lists x Decided 1) (tells lists x Done 0) ≡ status_of (lists 0) x
status_is n lists x law =
    let a = lawful_agrees n (lists 0) x law in
    ap (λ t. status_by (has_new (lists 0) x) t (tells lists x Decided 1) (tells lists x Done 0)) (decides_is n (lists 0) x Commit law)
    ∙ (ap (λ t. status_by (has_new (lists 0) x) (is_decision (decision_of (lists 0) x) Commit) t (tells lists x Done 0)) (decides_is n (lists 0) x Abort law)
    ∙ (ap (λ t. status_by (has_new (lists 0) x) (is_decision (decision_of (lists 0) x) Commit) (is_decision (decision_of (lists 0) x) Abort) t) (any_some (says_closing x) (lists 0))
    ∙ by (has_new (lists 0) x) (last_of (says_status x) (lists 0)) (closing_of (lists 0) x) (decision_of (lists 0) x) a.said a.when_closed))
  where
    by : (b : Bool) (l : Option Status) (k d : Option Decision) → l ≡ last_by k d → ((w : Decision) → k ≡ Some w → d ≡ Some w)
        → status_by b (is_decision d Commit) (is_decision d Abort) (is_some k) ≡ (if b then Some (unwrap_or l Open) else None)
    by false l k d said shut = refl
    by true l None None said shut = sym (ap (λ o. Some (unwrap_or o Open)) said)
    by true l None (Some Commit) said shut = sym (ap (λ o. Some (unwrap_or o Open)) said)
    by true l None (Some Abort) said shut = sym (ap (λ o. Some (unwrap_or o Open)) said)
    by true l (Some w) None said shut = absurd (cc (shut w refl))
    by true l (Some Commit) (Some Commit) said shut = sym (ap (λ o. Some (unwrap_or o Open)) said)
    by true l (Some Abort) (Some Abort) said shut = sym (ap (λ o. Some (unwrap_or o Open)) said)
    by true l (Some Abort) (Some Commit) said shut = absurd (no_true (ap (λ o. is_decision o Abort) (shut Abort refl)))
    by true l (Some Commit) (Some Abort) said shut = absurd (no_true (ap (λ o. is_decision o Commit) (shut Commit refl)))

pub said_decision : (n : ℕ) (lists : ℕ → List CoreEntry) (x : TxnId) → CoordLawful n (lists 0) → decision_by (tells lists x Decided 0) (tells lists x Decided 1) ≡ decision_of (lists 0) x
said_decision n lists x law =
    ap (λ t. decision_by t (tells lists x Decided 1)) (decides_is n (lists 0) x Commit law)
    ∙ (ap (λ t. decision_by (is_decision (decision_of (lists 0) x) Commit) t) (decides_is n (lists 0) x Abort law) ∙ by (decision_of (lists 0) x))
  where
    by : (d : Option Decision) → decision_by (is_decision d Commit) (is_decision d Abort) ≡ d
    by None = refl
    by (Some Commit) = refl
    by (Some Abort) = refl

-- no two decisions are said
pub one_decision : (n : ℕ) (lists : ℕ → List CoreEntry) (x : TxnId) → CoordLawful n (lists 0) → tells lists x Decided 1 ≡ true → tells lists x Decided 0 ≡ false
one_decision n lists x law h = decides_is n (lists 0) x Commit law ∙ only_one (decision_of (lists 0) x) (sym (decides_is n (lists 0) x Abort law) ∙ h)
