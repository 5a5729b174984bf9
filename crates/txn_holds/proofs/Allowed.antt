-- What each kind of entry does where it is allowed; and what follows for a lawful list.
use Rattle.std.proofs.Common.{◌≡◌, ◌<◌, ◌≤◌, ◌⊎◌, inl, inr, ⊎_elim, ℕ, zero, suc, ◌+◌, ◌==◌, eqb-true, Bool, true, false, ◌&&◌, ◌||◌, if◌then◌else◌, List, [], ◌∷◌, ◌++◌, Some, None, refl, sym, ap, ◌∙◌, subst, true≢false, arith}
use Rattle.std.proofs.Common.{append_assoc, append-nil}
use Rattle.std.specs.Prelude.{Option, is_none, nat_le, not}
use Rattle.std.specs.List.{list_any, list_all}
use Rattle.std.proofs.lemmas.Bool.{cases_eq, cases_lt}
use Rattle.txn_base.specs.declared.txn.TxnId.{TxnId}
use Rattle.txn_base.specs.declared.txn.Decision.TheVariants.{Commit, Abort}
use Rattle.txn_base.specs.declared.entry.AckEntry.{AckEntry}
use Rattle.txn_base.specs.declared.entry.AckEntry.TheVariants as ack
use Rattle.txn_model.specs.Words.{has, below, numbers_from, all_follow}
use Rattle.txn_model.specs.Skeletons.{same_txn}
use Rattle.txn_model.specs.Ack.{is_commit, is_acked, holder_of, is_free, is_held_by, is_foreign, places_allow, ack_allows, AckLawful}
use Rattle.txn_model.proofs.Laws.Lists.{all_follow-append}
use Rattle.txn_model.proofs.Laws.Tests.{and_l, and_r}
use Rattle.txn_holds.proofs.Covering.{true_le}
use Rattle.txn_holds.proofs.Entries.{mark, Ends, same_equal, same_self}
use Rattle.txn_holds.proofs.Snoc.{Adds, One, adds_one, ends_one}

pub none_of : {V : Type 0} (o : Option V) → is_none o ≡ true → o ≡ None
none_of None h = refl
none_of (Some v) h = absurd (true≢false (sym h))

pub all_has : (f : ℕ → Bool) (ps : List ℕ) (q : ℕ) → list_all f ps ≡ true → has ps q ≡ true → f q ≡ true
all_has f [] q all h = absurd (true≢false (sym h))
all_has f (p ∷ ps) q all h = by_test (q == p) refl (all_has f ps q (and_r (f p) (list_all f ps) all))
  where
    by_test : (b : Bool) → (q == p) ≡ b → (has ps q ≡ true → f q ≡ true) → f q ≡ true
    by_test true e more = ap f (eqb-true q p e) ∙ and_l (f p) (list_all f ps) all
    by_test false e more = more (ap (λ b. if b then true else has ps q) (sym e) ∙ h)

pub all_numbers : (f : ℕ → Bool) (k n q : ℕ) → k ≤ q → q < k + n → list_all f (numbers_from k n) ≡ true → f q ≡ true
all_numbers f k zero q le lt all = absurd (omega (arith, le, lt))
all_numbers f k (suc n) q le lt all = ⊎_elim
    (λ e. ap f e ∙ and_l (f k) (list_all f (numbers_from (suc k) n)) all)
    (λ ne. let more : suc k ≤ q = ⊎_elim (λ l. omega (arith, l)) (λ g. absurd (ne (omega (arith, g, le)))) (cases_lt k q) in
    all_numbers f (suc k) n q more (omega (arith, lt)) (and_r (f k) (list_all f (numbers_from (suc k) n)) all))
    (cases_eq q k)

pub record Found (f : ℕ → Bool) (k n : ℕ) : Type 0 where
  pub at : ℕ
  pub within : at < k + n
  pub passes : f at ≡ true

pub any_numbers : (f : ℕ → Bool) (k n : ℕ) → list_any f (numbers_from k n) ≡ true → Found f k n
any_numbers f k zero any = absurd (true≢false (sym any))
any_numbers f k (suc n) any = by_test (f k) refl (any_numbers f (suc k) n)
  where
    by_test : (b : Bool) → f k ≡ b → (list_any f (numbers_from (suc k) n) ≡ true → Found f (suc k) n) → Found f k (suc n)
    by_test true e more = record { at = k; within = omega arith; passes = e }
    by_test false e more =
        let m = more (ap (λ b. b || list_any f (numbers_from (suc k) n)) (sym e) ∙ any) in let within = m.within in
        record { at = m.at; within = omega (arith, within); passes = m.passes }

not_true : (b : Bool) → not b ≡ true → b ≡ false
not_true true h = absurd (true≢false (sym h))
not_true false h = refl

pub free_parts : (a : List AckEntry) (q : ℕ) → is_free a q ≡ true → (is_acked a q ≡ false) × (holder_of a q ≡ None)
free_parts a q h = (not_true (is_acked a q) (and_l (not (is_acked a q)) (is_none (holder_of a q)) h), none_of (holder_of a q) (and_r (not (is_acked a q)) (is_none (holder_of a q)) h))

own_or_none : (x : TxnId) (o : Option TxnId) → not (is_foreign (Some x) o) ≡ true → (o ≡ None) ⊎ (o ≡ Some x)
own_or_none x None h = inl refl
own_or_none x (Some y) h = by_test (same_txn x y) refl
  where
    by_test : (b : Bool) → same_txn x y ≡ b → (Some y ≡ None) ⊎ (Some y ≡ Some x)
    by_test true e = inr (ap Some (sym (same_equal x y e)))
    by_test false e = absurd (true≢false (sym (ap (λ b. not (not b)) (sym e) ∙ h)))

pick_none : (b : Bool) → (if b then None else None) ≡ (let o : Option TxnId = None in o)
pick_none true = refl
pick_none false = refl

module _ (a : List AckEntry) where
  pub plain_adds : (ps : List ℕ) → ack_allows a (ack.Plain ps) ≡ true → Adds a (ack.Plain ps) (has ps) (λ q. None)
  plain_adds ps h = record {
    quiet = λ x. refl;
    acked = λ q. refl;
    held = λ q. pick_none (has ps q);
    fresh = λ q there. (free_parts a q (all_has (is_free a) ps q (and_l (list_all (is_free a) ps) true h) there)).1;
    apart = λ q there. refl;
    own = λ q x e free. absurd (none_is x (sym e));
  }
    where
      none_is : (z : TxnId) → Some z ≡ None → ⊥
      none_is z e = cc

  pub up_to_adds : (c : ℕ) → ack_allows a (ack.PlainUpTo c) ≡ true → Adds a (ack.PlainUpTo c) (λ q. nat_le q c) (λ q. None)
  up_to_adds c h = record {
    quiet = λ x. refl;
    acked = λ q. refl;
    held = λ q. pick_none (nat_le q c);
    fresh = λ q there. let le = true_le q c there in
        none_of (holder_of a q) (all_numbers (λ p. is_none (holder_of a p)) 0 (suc c) q (omega arith) (omega (arith, le)) (and_l (list_all (λ p. is_none (holder_of a p)) (below (suc c))) _ (and_l _ true h)));
    apart = λ q there. refl;
    own = λ q x e free. absurd (none_is x (sym e));
  }
    where
      none_is : (z : TxnId) → Some z ≡ None → ⊥
      none_is z e = cc

  module _ (x : TxnId) (unmarked : mark a x ≡ None) (n : AckEntry) where
    hold_counts : (b : Bool) → (is_commit (mark a x) && b) ≡ false
    hold_counts b = ap (λ o. is_commit o && b) unmarked

    hold_names : (b : Bool) → (if b then (if is_none (mark a x) then Some x else None) else None) ≡ (if b then Some x else None)
    hold_names b = ap (λ o. if b then (if is_none o then Some x else None) else None) unmarked

  one_x : (x y : TxnId) (b : Bool) → (if b then Some x else None) ≡ Some y → (b ≡ true) × (x ≡ y)
  one_x x y true h = (refl, some_one h)
    where
      some_one : Some x ≡ Some y → x ≡ y
      some_one e = cc
  one_x x y false h = absurd (none_is h)
    where
      none_is : None ≡ Some y → ⊥
      none_is e = cc

  pub hold_unmarked : (x : TxnId) (ps : List ℕ) → ack_allows a (ack.Hold x ps) ≡ true → mark a x ≡ None
  hold_unmarked x ps h = none_of (mark a x) (and_r (places_allow a (ack.Hold x ps)) (is_none (mark a x)) h)

  pub hold_adds : (x : TxnId) (ps : List ℕ) → ack_allows a (ack.Hold x ps) ≡ true → Adds a (ack.Hold x ps) (λ q. false) (λ q. if has ps q then Some x else None)
  hold_adds x ps h = record {
    quiet = λ y. refl;
    acked = λ q. hold_counts x (hold_unmarked x ps h) (ack.Hold x ps) (has ps q);
    held = λ q. hold_names x (hold_unmarked x ps h) (ack.Hold x ps) (has ps q);
    fresh = λ q there. absurd (true≢false (sym there));
    apart = λ q there. absurd (true≢false (sym there));
    own = λ q y e free. inl (free_parts a q (all_has (is_free a) ps q (and_l (list_all (is_free a) ps) (is_none (mark a x)) h) (one_x x y (has ps q) e).0)).1;
  }

  pub hold_up_to_unmarked : (x : TxnId) (c : ℕ) → ack_allows a (ack.HoldUpTo x c) ≡ true → mark a x ≡ None
  hold_up_to_unmarked x c h = none_of (mark a x) (and_r (places_allow a (ack.HoldUpTo x c)) (is_none (mark a x)) h)

  -- no place that it covers is another's
  pub hold_up_to_own : (x : TxnId) (c : ℕ) → ack_allows a (ack.HoldUpTo x c) ≡ true → (q : ℕ) → q ≤ c → (holder_of a q ≡ None) ⊎ (holder_of a q ≡ Some x)
  hold_up_to_own x c h q le = own_or_none x (holder_of a q)
      (all_numbers (λ p. not (is_foreign (Some x) (holder_of a p))) 0 (suc c) q (omega arith) (omega (arith, le))
      (and_l (list_all (λ p. not (is_foreign (Some x) (holder_of a p))) (below (suc c))) _ (and_l (places_allow a (ack.HoldUpTo x c)) (is_none (mark a x)) h)))

  pub hold_up_to_adds : (x : TxnId) (c : ℕ) → ack_allows a (ack.HoldUpTo x c) ≡ true → Adds a (ack.HoldUpTo x c) (λ q. false) (λ q. if nat_le q c then Some x else None)
  hold_up_to_adds x c h = record {
    quiet = λ y. refl;
    acked = λ q. hold_counts x (hold_up_to_unmarked x c h) (ack.HoldUpTo x c) (nat_le q c);
    held = λ q. hold_names x (hold_up_to_unmarked x c h) (ack.HoldUpTo x c) (nat_le q c);
    fresh = λ q there. absurd (true≢false (sym there));
    apart = λ q there. absurd (true≢false (sym there));
    own = λ q y e free. let is = one_x x y (nat_le q c) e in ⊎_elim (λ none. inl none) (λ own. inr (own ∙ ap Some is.1)) (hold_up_to_own x c h q (true_le q c is.0));
  }

  -- a place that it covers was neither acknowledged nor held
  pub record Fresh (c : ℕ) : Type 0 where
    pub at : ℕ
    pub within : at ≤ c
    pub acked : is_acked a at ≡ false
    pub free : holder_of a at ≡ None

  pub hold_up_to_fresh : (x : TxnId) (c : ℕ) → ack_allows a (ack.HoldUpTo x c) ≡ true → Fresh c
  hold_up_to_fresh x c h =
      let found = any_numbers (λ q. not (is_acked a q) && not (is_held_by x (holder_of a q))) 0 (suc c)
      (and_r (list_all (λ p. not (is_foreign (Some x) (holder_of a p))) (below (suc c))) _ (and_l (places_allow a (ack.HoldUpTo x c)) (is_none (mark a x)) h)) in
      let within = found.within in
      record {
        at = found.at;
        within = omega (arith, within);
        acked = not_true (is_acked a found.at) (and_l (not (is_acked a found.at)) (not (is_held_by x (holder_of a found.at))) found.passes);
        free = ⊎_elim (λ none. none)
            (λ own. absurd (true≢false (sym (same_self x) ∙ ap (is_held_by x) (sym own) ∙ not_true (is_held_by x (holder_of a found.at)) (and_r (not (is_acked a found.at)) (not (is_held_by x (holder_of a found.at))) found.passes))))
            (hold_up_to_own x c h found.at (omega (arith, within)));
      }

  pub commit_ends : (x : TxnId) → ack_allows a (ack.Commit x) ≡ true → Ends a (ack.Commit x) x Commit
  commit_ends x h = record { kind = refl; first = none_of (mark a x) h; blank = λ q. refl; lists = λ y. refl; counted = refl }

  pub abort_ends : (x : TxnId) → ack_allows a (ack.Abort x) ≡ true → Ends a (ack.Abort x) x Abort
  abort_ends x h = record { kind = refl; first = none_of (mark a x) h; blank = λ q. refl; lists = λ y. refl; counted = refl }

  pub one_more : (e : AckEntry) → One a → ack_allows a e ≡ true → One (a ++ e ∷ [])
  one_more (ack.Plain ps) one h = adds_one a (ack.Plain ps) (has ps) (λ q. None) (plain_adds ps h) one
  one_more (ack.PlainUpTo c) one h = adds_one a (ack.PlainUpTo c) (λ q. nat_le q c) (λ q. None) (up_to_adds c h) one
  one_more (ack.Hold x ps) one h = adds_one a (ack.Hold x ps) (λ q. false) (λ q. if has ps q then Some x else None) (hold_adds x ps h) one
  one_more (ack.HoldUpTo x c) one h = adds_one a (ack.HoldUpTo x c) (λ q. false) (λ q. if nat_le q c then Some x else None) (hold_up_to_adds x c h) one
  one_more (ack.Commit x) one h = ends_one a (ack.Commit x) x Commit (commit_ends x h) one
  one_more (ack.Abort x) one h = ends_one a (ack.Abort x) x Abort (abort_ends x h) one

one_from : (before es : List AckEntry) → One before → all_follow ack_allows before es ≡ true → One (before ++ es)
one_from before [] one h = subst One (sym (append-nil before)) one
one_from before (e ∷ es) one h =
    subst One (append_assoc before (e ∷ []) es)
    (one_from (before ++ e ∷ []) es (one_more before e one (and_l (ack_allows before e) (all_follow ack_allows (before ++ e ∷ []) es) h)) (and_r (ack_allows before e) (all_follow ack_allows (before ++ e ∷ []) es) h))

-- In a lawful list each place has one holder.
pub lawful_one : (a : List AckEntry) → AckLawful a → One a
lawful_one a h = one_from [] a (λ q free. tt) h

pub lawful_more : (a : List AckEntry) (e : AckEntry) → AckLawful a → ack_allows a e ≡ true → AckLawful (a ++ e ∷ [])
lawful_more a e lawful h = all_follow-append ack_allows [] a (e ∷ []) ∙ ap (λ b. b && (ack_allows a e && true)) lawful ∙ ap (λ b. b && true) h

pub hold_free : (a : List AckEntry) (x : TxnId) (ps : List ℕ) → ack_allows a (ack.Hold x ps) ≡ true → (q : ℕ) → has ps q ≡ true → (is_acked a q ≡ false) × (holder_of a q ≡ None)
hold_free a x ps h q there = free_parts a q (all_has (is_free a) ps q (and_l (list_all (is_free a) ps) (is_none (mark a x)) h) there)

pub plain_free : (a : List AckEntry) (ps : List ℕ) → ack_allows a (ack.Plain ps) ≡ true → (q : ℕ) → has ps q ≡ true → (is_acked a q ≡ false) × (holder_of a q ≡ None)
plain_free a ps h q there = free_parts a q (all_has (is_free a) ps q (and_l (list_all (is_free a) ps) true h) there)
