-- In a lawful log the status is what the decision and the closing make it, and no transaction is decided twice.
use Rattle.std.proofs.Common.{◌≡◌, ℕ, eq-eqb, eqb-true, ◌==◌, Bool, true, false, ◌&&◌, ◌||◌, if◌then◌else◌, List, [], ◌∷◌, ◌++◌, Some, None, refl, sym, ap, ◌∙◌, subst, append_assoc}
use Rattle.std.proofs.lemmas.List.Folds.{list_any-append}
use Rattle.txn_model.proofs.Words.{Option, unwrap_or, option_or, TxnId, Decision, Commit, Abort, Status, Open, CoreEntry, last_of, all_follow, same_txn, decision_skeleton, closing_skeleton, deciding, closed, is_new, says_status, says_decision, says_closing, has_new, status_of, decision_of, closing_of, is_open, is_deciding, coord_allows, CoordLawful}
use Rattle.txn_base.specs.declared.core_entry.CoreEntry.TheVariants as core
use Rattle.txn_model.proofs.Bools.{no_true, and_l, and_r, and_both, or_l, none_some}
use Rattle.txn_model.proofs.Prefixes.{or_none, first_of-append, all_follow-append}

-- the status that is said last, by how x is closed and decided
abbrev pub last_by : Option Decision → Option Decision → Option Status
last_by (Some e) decision = Some (closed e)
last_by None (Some d) = Some (deciding d)
last_by None None = None

abbrev pub status_by : Bool → Option Status → Option Status
status_by begun last = if begun then Some (unwrap_or last Open) else None

-- what a log says of x: whether it was begun, the status said last, how it is closed, how it is decided
pub record Agree (begun : Bool) (last : Option Status) (closing decision : Option Decision) : Type 0 where
  pub said : last ≡ last_by closing decision
  pub when_closed : (d : Decision) → closing ≡ Some d → decision ≡ Some d
  pub when_decided : (d : Decision) → decision ≡ Some d → begun ≡ true

abbrev pub Agrees : List CoreEntry → TxnId → Type 0
Agrees c x = Agree (has_new c x) (last_of (says_status x) c) (closing_of c x) (decision_of c x)

last_snoc : {E V : Type 0} (f : E → Option V) (xs : List E) (e : E) → last_of f (xs ++ e ∷ []) ≡ option_or (f e) (last_of f xs)
last_snoc f [] e = nothing_before (f e)
  where
    nothing_before : {V : Type 0} (o : Option V) → o ≡ option_or o None
    nothing_before None = refl
    nothing_before (Some v) = refl
last_snoc f (y ∷ xs) e = ap (λ o. option_or o (f y)) (last_snoc f xs e) ∙ three (f e) (last_of f xs) (f y)
  where
    three : {V : Type 0} (a b c : Option V) → option_or (option_or a b) c ≡ option_or a (option_or b c)
    three None b c = refl
    three (Some v) b c = refl

pub same_self : (x : TxnId) → same_txn x x ≡ true
same_self x = and_both _ _ (eq-eqb x.most x.most refl) (eq-eqb x.least x.least refl)

pub txn_equal : (x y : TxnId) → same_txn x y ≡ true → x ≡ y
txn_equal x y h =
    ap (λ m. make m x.least) (eqb-true x.most y.most (and_l (x.most == y.most) (x.least == y.least) h)) ∙ ap (λ l. make y.most l) (eqb-true x.least y.least (and_r (x.most == y.most) (x.least == y.least) h))
  where
    make : ℕ → ℕ → TxnId
    make m l = record { most = m; least = l }

pub open_means : (n : Bool) (k d : Option Decision) → is_open (status_by n (last_by k d)) ≡ true → (n ≡ true) × (k ≡ None) × (d ≡ None)
open_means false k d h = absurd (no_true h)
open_means true (Some Commit) d h = absurd (no_true h)
open_means true (Some Abort) d h = absurd (no_true h)
open_means true None (Some Commit) h = absurd (no_true h)
open_means true None (Some Abort) h = absurd (no_true h)
open_means true None None h = (refl, refl, refl)

deciding_means : (w : Decision) (n : Bool) (k d : Option Decision) → is_deciding w (status_by n (last_by k d)) ≡ true → (n ≡ true) × (k ≡ None) × (d ≡ Some w)
deciding_means Commit false k d h = absurd (no_true h)
deciding_means Abort false k d h = absurd (no_true h)
deciding_means Commit true (Some Commit) d h = absurd (no_true h)
deciding_means Commit true (Some Abort) d h = absurd (no_true h)
deciding_means Abort true (Some Commit) d h = absurd (no_true h)
deciding_means Abort true (Some Abort) d h = absurd (no_true h)
deciding_means Commit true None (Some Commit) h = (refl, refl, refl)
deciding_means Commit true None (Some Abort) h = absurd (no_true h)
deciding_means Abort true None (Some Commit) h = absurd (no_true h)
deciding_means Abort true None (Some Abort) h = (refl, refl, refl)
deciding_means Commit true None None h = absurd (no_true h)
deciding_means Abort true None None h = absurd (no_true h)

-- an entry that says nothing of x
quiet : (n b : Bool) (l : Option Status) (k d : Option Decision) → Agree n l k d → Agree (n || b) l (option_or k None) (option_or d None)
quiet n b l k d a =
    record {
      said = a.said ∙ ap (λ u. last_by u d) (sym (or_none k)) ∙ ap (λ u. last_by (option_or k None) u) (sym (or_none d));
      when_closed = λ w h. or_none d ∙ a.when_closed w (sym (or_none k) ∙ h);
      when_decided = λ w h. or_l n b (a.when_decided w (sym (or_none d) ∙ h));
    }

decide_step : (n : Bool) (l : Option Status) (k d : Option Decision) (w : Decision) (b : Bool) → Agree n l k d → (b ≡ true → is_open (status_by n l) ≡ true)
    → Agree (n || false) (option_or (if b then Some (deciding w) else None) l) (option_or k None) (option_or d (if b then Some w else None))
decide_step n l k d w false a may = quiet n false l k d a
decide_step n l k d w true a may =
    let m : (n ≡ true) × (k ≡ None) × (d ≡ None) = open_means n k d (subst (λ u. is_open (status_by n u) ≡ true) a.said (may refl)) in
    subst (λ u. Agree (n || false) (Some (deciding w)) (option_or u None) (option_or d (Some w))) (sym m.1)
    (subst (λ u. Agree (n || false) (Some (deciding w)) None (option_or u (Some w))) (sym m.2)
    (record { said = refl; when_closed = λ v h. absurd (none_some h); when_decided = λ v h. or_l n false m.0 }))

close_step : (n : Bool) (l : Option Status) (k d : Option Decision) (w : Decision) (b : Bool) → Agree n l k d → (b ≡ true → is_deciding w (status_by n l) ≡ true)
    → Agree (n || false) (option_or (if b then Some (closed w) else None) l) (option_or k (if b then Some w else None)) (option_or d None)
close_step n l k d w false a may = quiet n false l k d a
close_step n l k d w true a may =
    let m : (n ≡ true) × (k ≡ None) × (d ≡ Some w) = deciding_means w n k d (subst (λ u. is_deciding w (status_by n u) ≡ true) a.said (may refl)) in
    subst (λ u. Agree (n || false) (Some (closed w)) (option_or u (Some w)) (option_or d None)) (sym m.1)
    (subst (λ u. Agree (n || false) (Some (closed w)) (Some w) (option_or u None)) (sym m.2)
    (record { said = refl; when_closed = λ v h. h; when_decided = λ v h. or_l n false m.0 }))

-- the four after one more entry
after_entry : (c : List CoreEntry) (e : CoreEntry) (x : TxnId) → Agree (has_new c x || (is_new x e || false)) (option_or (says_status x e) (last_of (says_status x) c)) (option_or (closing_of c x) (option_or (says_closing x e) None)) (option_or (decision_of c x) (option_or (says_decision x e) None))
    → Agrees (c ++ e ∷ []) x
after_entry c e x a =
    subst (λ n. Agree n (last_of (says_status x) (c ++ e ∷ [])) (closing_of (c ++ e ∷ []) x) (decision_of (c ++ e ∷ []) x)) (sym (list_any-append (is_new x) c (e ∷ [])))
    (subst (λ l. Agree (has_new c x || (is_new x e || false)) l (closing_of (c ++ e ∷ []) x) (decision_of (c ++ e ∷ []) x)) (sym (last_snoc (says_status x) c e))
    (subst (λ k. Agree (has_new c x || (is_new x e || false)) (option_or (says_status x e) (last_of (says_status x) c)) k (decision_of (c ++ e ∷ []) x)) (sym (first_of-append (says_closing x) c (e ∷ [])))
    (subst (λ d. Agree (has_new c x || (is_new x e || false)) (option_or (says_status x e) (last_of (says_status x) c)) (option_or (closing_of c x) (option_or (says_closing x e) None)) d) (sym (first_of-append (says_decision x) c (e ∷ []))) a)))

status_is : (c : List CoreEntry) (x y : TxnId) (f : Option Status → Bool) → f (status_of c y) ≡ true → same_txn x y ≡ true → f (status_by (has_new c x) (last_of (says_status x) c)) ≡ true
status_is c x y f h e = subst (λ z. f (status_of c z) ≡ true) (sym (txn_equal x y e)) h

decided_step : (n : ℕ) (c : List CoreEntry) (y : TxnId) (d : Decision) (x : TxnId) → Agrees c x → is_open (status_of c y) ≡ true → Agrees (c ++ decision_skeleton y d ∷ []) x
decided_step n c y Commit x a h =
    after_entry c (core.Committing y) x
    (subst (λ o. Agree (has_new c x || false) (option_or (if same_txn x y then Some (deciding Commit) else None) (last_of (says_status x) c)) (option_or (closing_of c x) None) (option_or (decision_of c x) o)) (sym (or_none (if same_txn x y then Some Commit else None)))
    (decide_step (has_new c x) (last_of (says_status x) c) (closing_of c x) (decision_of c x) Commit (same_txn x y) a (status_is c x y is_open h)))
decided_step n c y Abort x a h =
    after_entry c (core.Aborting y) x
    (subst (λ o. Agree (has_new c x || false) (option_or (if same_txn x y then Some (deciding Abort) else None) (last_of (says_status x) c)) (option_or (closing_of c x) None) (option_or (decision_of c x) o)) (sym (or_none (if same_txn x y then Some Abort else None)))
    (decide_step (has_new c x) (last_of (says_status x) c) (closing_of c x) (decision_of c x) Abort (same_txn x y) a (status_is c x y is_open h)))

closed_step : (n : ℕ) (c : List CoreEntry) (y : TxnId) (d : Decision) (x : TxnId) → Agrees c x → is_deciding d (status_of c y) ≡ true → Agrees (c ++ closing_skeleton y d ∷ []) x
closed_step n c y Commit x a h =
    after_entry c (core.Committed y) x
    (subst (λ o. Agree (has_new c x || false) (option_or (if same_txn x y then Some (closed Commit) else None) (last_of (says_status x) c)) (option_or (closing_of c x) o) (option_or (decision_of c x) None)) (sym (or_none (if same_txn x y then Some Commit else None)))
    (close_step (has_new c x) (last_of (says_status x) c) (closing_of c x) (decision_of c x) Commit (same_txn x y) a (status_is c x y (is_deciding Commit) h)))
closed_step n c y Abort x a h =
    after_entry c (core.Aborted y) x
    (subst (λ o. Agree (has_new c x || false) (option_or (if same_txn x y then Some (closed Abort) else None) (last_of (says_status x) c)) (option_or (closing_of c x) o) (option_or (decision_of c x) None)) (sym (or_none (if same_txn x y then Some Abort else None)))
    (close_step (has_new c x) (last_of (says_status x) c) (closing_of c x) (decision_of c x) Abort (same_txn x y) a (status_is c x y (is_deciding Abort) h)))

agrees_step : (n : ℕ) (c : List CoreEntry) (e : CoreEntry) (x : TxnId) → Agrees c x → coord_allows n c e ≡ true → Agrees (c ++ e ∷ []) x
agrees_step n c core.Plain x a h = absurd (no_true h)
agrees_step n c (core.Inside y) x a h = absurd (no_true h)
agrees_step n c (core.Marker y d) x a h = absurd (no_true h)
agrees_step n c (core.New y) x a h = after_entry c (core.New y) x (quiet (has_new c x) (same_txn x y || false) (last_of (says_status x) c) (closing_of c x) (decision_of c x) a)
agrees_step n c (core.AddPart y p) x a h = after_entry c (core.AddPart y p) x (quiet (has_new c x) false (last_of (says_status x) c) (closing_of c x) (decision_of c x) a)
agrees_step n c (core.Committing y) x a h = decided_step n c y Commit x a h
agrees_step n c (core.Aborting y) x a h = decided_step n c y Abort x a h
agrees_step n c (core.Committed y) x a h = closed_step n c y Commit x a h
agrees_step n c (core.Aborted y) x a h = closed_step n c y Abort x a h

agrees_along : (n : ℕ) (c es : List CoreEntry) (x : TxnId) → Agrees c x → all_follow (coord_allows n) c es ≡ true → Agrees (c ++ es) x
agrees_along n c [] x a h = subst (λ l. Agrees l x) (append_nil c) a
  where
    append_nil : {E : Type 0} (xs : List E) → xs ≡ xs ++ []
    append_nil [] = refl
    append_nil (x ∷ xs) = ap (λ l. x ∷ l) (append_nil xs)
agrees_along n c (e ∷ es) x a h =
    subst (λ l. Agrees l x) (append_assoc c (e ∷ []) es)
    (agrees_along n (c ++ e ∷ []) es x (agrees_step n c e x a (and_l (coord_allows n c e) (all_follow (coord_allows n) (c ++ e ∷ []) es) h)) (and_r (coord_allows n c e) (all_follow (coord_allows n) (c ++ e ∷ []) es) h))

-- in a lawful log all four agree
pub lawful_agrees : (n : ℕ) (c : List CoreEntry) (x : TxnId) → CoordLawful n c → Agrees c x
lawful_agrees n c x h = agrees_along n [] c x (record { said = refl; when_closed = λ d k. absurd (none_some k); when_decided = λ d k. absurd (none_some k) }) h

-- the entry that decides is allowed where the transaction is open
decides_open : (n : ℕ) (c : List CoreEntry) (x : TxnId) (d : Decision) → coord_allows n c (decision_skeleton x d) ≡ is_open (status_of c x)
decides_open n c x Commit = refl
decides_open n c x Abort = refl

-- where a decision is logged in a lawful log, none was logged before it
pub undecided_before : (n : ℕ) (c : List CoreEntry) (x : TxnId) (d : Decision) (more : List CoreEntry) → CoordLawful n (c ++ decision_skeleton x d ∷ more) → decision_of c x ≡ None
undecided_before n c x d more h =
    let both : (all_follow (coord_allows n) [] c && all_follow (coord_allows n) ([] ++ c) (decision_skeleton x d ∷ more)) ≡ true = sym (all_follow-append (coord_allows n) [] c (decision_skeleton x d ∷ more)) ∙ h in
    let a : Agrees c x = lawful_agrees n c x (and_l (all_follow (coord_allows n) [] c) (all_follow (coord_allows n) ([] ++ c) (decision_skeleton x d ∷ more)) both) in
    let may : is_open (status_of c x) ≡ true = sym (decides_open n c x d) ∙ and_l (coord_allows n c (decision_skeleton x d)) (all_follow (coord_allows n) (c ++ decision_skeleton x d ∷ []) more) (and_r (all_follow (coord_allows n) [] c) (all_follow (coord_allows n) ([] ++ c) (decision_skeleton x d ∷ more)) both) in
    (open_means (has_new c x) (closing_of c x) (decision_of c x) (subst (λ u. is_open (status_by (has_new c x) u) ≡ true) a.said may)).2
