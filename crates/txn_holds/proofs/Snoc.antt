-- Which places are acknowledged, and whose they are, after one entry more.
use Rattle.std.proofs.Common.{◌≡◌, ◌⊎◌, inl, inr, ⊎_elim, ℕ, Bool, true, false, ◌&&◌, ◌||◌, if◌then◌else◌, List, [], ◌∷◌, ◌++◌, Some, None, refl, sym, ap, ◌∙◌, subst, true≢false}
use Rattle.std.specs.Prelude.{Option}
use Rattle.std.specs.Option.{option_or}
use Rattle.std.specs.List.{list_any}
use Rattle.std.proofs.lemmas.List.Folds.{list_any-append}
use Rattle.txn_base.specs.declared.txn.TxnId.{TxnId}
use Rattle.txn_base.specs.declared.txn.Decision.{Decision}
use Rattle.txn_base.specs.declared.entry.AckEntry.{AckEntry}
use Rattle.txn_model.specs.Words.{first_of}
use Rattle.txn_model.specs.Ack.{covers, is_commit, counts, is_acked, pending, holder_of, is_held_by}
use Rattle.txn_model.proofs.Laws.Lists.{first_of-append}
use Rattle.txn_model.proofs.Laws.Tests.{and_r}
use Rattle.txn_holds.specs.Holds.{without}
use Rattle.txn_holds.proofs.Entries.{Quiet, Ends, quiet_counts, quiet_pending, ends_counts, ends_pending}
use Rattle.txn_holds.proofs.Only.{Only, any_same, first_same, only_same, only_none, only_push, only_without, first_without, any_held}

-- The transaction without a marker whose hold of a place an entry is.
abbrev pub names : List AckEntry → ℕ → AckEntry → Option TxnId
names a q e = if covers e q then pending a e else None

abbrev pub named : List AckEntry → ℕ → Option TxnId
named a q = first_of (names a q) a

pub holder_named : (a : List AckEntry) (q : ℕ) → is_acked a q ≡ false → holder_of a q ≡ named a q
holder_named a q h = ap (λ b. if b then None else named a q) h

pub holder_acked : (a : List AckEntry) (q : ℕ) → is_acked a q ≡ true → holder_of a q ≡ None
holder_acked a q h = ap (λ b. if b then None else named a q) h

-- A place that isn't acknowledged has one holder: each pending hold of it is his.
abbrev pub One : List AckEntry → Type 0
One a = (q : ℕ) → is_acked a q ≡ false → Only (named a q) (names a q) a

or_false : (b : Bool) → (b || false) ≡ b
or_false true = refl
or_false false = refl

or_none : {V : Type 0} (o : Option V) → option_or o None ≡ o
or_none None = refl
or_none (Some d) = refl

or_l_false : (a b : Bool) → (a || b) ≡ false → a ≡ false
or_l_false true b h = absurd (true≢false h)
or_l_false false b h = refl

-- ---- An entry that is no marker.

-- What it adds: the places that it acknowledges had no holder, and those that it holds had none but its own.
pub record Adds (a : List AckEntry) (n : AckEntry) (acks : ℕ → Bool) (holds : ℕ → Option TxnId) : Type 0 where
  pub quiet : Quiet n
  pub acked : (q : ℕ) → (counts a n && covers n q) ≡ acks q
  pub held : (q : ℕ) → names a q n ≡ holds q
  pub fresh : (q : ℕ) → acks q ≡ true → holder_of a q ≡ None
  pub apart : (q : ℕ) → acks q ≡ true → holds q ≡ None
  pub own : (q : ℕ) (x : TxnId) → holds q ≡ Some x → is_acked a q ≡ false → (holder_of a q ≡ None) ⊎ (holder_of a q ≡ Some x)

module _ (a : List AckEntry) (n : AckEntry) (acks : ℕ → Bool) (holds : ℕ → Option TxnId) (adds : Adds a n acks holds) where
  pub adds_acked : (q : ℕ) → is_acked (a ++ n ∷ []) q ≡ (is_acked a q || acks q)
  adds_acked q =
      list_any-append (λ e. counts (a ++ n ∷ []) e && covers e q) a (n ∷ [])
      ∙ ap (λ b. b || ((counts (a ++ n ∷ []) n && covers n q) || false)) (any_same (λ e. counts (a ++ n ∷ []) e && covers e q) (λ e. counts a e && covers e q) (λ e. ap (λ b. b && covers e q) (quiet_counts a n adds.quiet e)) a)
      ∙ ap (λ b. is_acked a q || b) (or_false (counts (a ++ n ∷ []) n && covers n q) ∙ ap (λ b. b && covers n q) (quiet_counts a n adds.quiet n) ∙ adds.acked q)

  names_kept : (q : ℕ) (e : AckEntry) → names (a ++ n ∷ []) q e ≡ names a q e
  names_kept q e = ap (λ o. if covers e q then o else None) (quiet_pending a n adds.quiet e)

  named_kept : (q : ℕ) → named (a ++ n ∷ []) q ≡ option_or (named a q) (holds q)
  named_kept q =
      first_of-append (names (a ++ n ∷ []) q) a (n ∷ [])
      ∙ ap (λ o. option_or o (option_or (names (a ++ n ∷ []) q n) None)) (first_same (names (a ++ n ∷ []) q) (names a q) (names_kept q) a)
      ∙ ap (option_or (named a q)) (or_none (names (a ++ n ∷ []) q n) ∙ names_kept q n ∙ adds.held q)

  -- whoever it holds a place for is the holder
  pub adds_holder : (q : ℕ) → holder_of (a ++ n ∷ []) q ≡ (if is_acked a q then None else option_or (holds q) (holder_of a q))
  adds_holder q = by_acked (is_acked a q) (acks q) refl refl
    where
      pick : (o p : Option TxnId) → holds q ≡ o → named a q ≡ p → is_acked a q ≡ false → option_or p o ≡ option_or o p
      pick None p e f h = or_none p
      pick (Some x) None e f h = refl
      pick (Some x) (Some y) e f h = ⊎_elim
          (λ none. absurd (none_is y (sym f ∙ sym (holder_named a q h) ∙ none)))
          (λ is. sym f ∙ sym (holder_named a q h) ∙ is)
          (adds.own q x e h)
        where
          none_is : (z : TxnId) → Some z ≡ None → ⊥
          none_is z e = cc

      by_acked : (b c : Bool) → is_acked a q ≡ b → acks q ≡ c → holder_of (a ++ n ∷ []) q ≡ (if b then None else option_or (holds q) (holder_of a q))
      by_acked true c e f = holder_acked (a ++ n ∷ []) q (adds_acked q ∙ ap (λ b. b || acks q) e)
      by_acked false true e f =
          holder_acked (a ++ n ∷ []) q (adds_acked q ∙ ap (λ b. b || acks q) e ∙ f)
          ∙ sym (ap (λ o. option_or o (holder_of a q)) (adds.apart q f) ∙ adds.fresh q f)
      by_acked false false e f =
          holder_named (a ++ n ∷ []) q (adds_acked q ∙ ap (λ b. b || acks q) e ∙ f) ∙ named_kept q
          ∙ pick (holds q) (named a q) refl refl e ∙ ap (option_or (holds q)) (sym (holder_named a q e))

  pub adds_one : One a → One (a ++ n ∷ [])
  adds_one one q h =
      let free : is_acked a q ≡ false = or_l_false (is_acked a q) (acks q) (sym (adds_acked q) ∙ h) in
      subst (λ o. Only o (names (a ++ n ∷ []) q) (a ++ n ∷ [])) (sym (named_kept q))
      (only_same (option_or (named a q) (holds q)) (names a q) (names (a ++ n ∷ []) q) (names_kept q) (a ++ n ∷ [])
      (only_push (option_or (named a q) (holds q)) (names a q) a n (before free (holds q) (named a q) refl refl (one q free)) (last free (holds q) (named a q) refl refl)))
    where
      none_is : (z : TxnId) → Some z ≡ None → ⊥
      none_is z e = cc

      before : is_acked a q ≡ false → (o p : Option TxnId) → holds q ≡ o → named a q ≡ p → Only (named a q) (names a q) a → Only (option_or p o) (names a q) a
      before free o None e f only = only_none o (names a q) a (subst (λ r. Only r (names a q) a) f only)
      before free o (Some y) e f only = subst (λ r. Only r (names a q) a) f only

      last : is_acked a q ≡ false → (o p : Option TxnId) → holds q ≡ o → named a q ≡ p → (names a q n ≡ None) ⊎ (names a q n ≡ option_or p o)
      last free None p e f = inl (adds.held q ∙ e)
      last free (Some x) None e f = inr (adds.held q ∙ e)
      last free (Some x) (Some y) e f = ⊎_elim
          (λ none. absurd (none_is y (sym f ∙ sym (holder_named a q free) ∙ none)))
          (λ is. inr (adds.held q ∙ e ∙ sym (sym f ∙ sym (holder_named a q free) ∙ is)))
          (adds.own q x e free)

-- ---- A marker.

module _ (a : List AckEntry) (n : AckEntry) (x : TxnId) (d : Decision) (is : Ends a n x d) (one : One a) where
  names_ended : (q : ℕ) (e : AckEntry) → names (a ++ n ∷ []) q e ≡ without x (names a q e)
  names_ended q e = ap (λ o. if covers e q then o else None) (ends_pending a n x d is e) ∙ pick (covers e q)
    where
      pick : (b : Bool) → (if b then without x (pending a e) else None) ≡ without x (if b then pending a e else None)
      pick true = refl
      pick false = refl

  names_none : (q : ℕ) → names (a ++ n ∷ []) q n ≡ None
  names_none q = ap (λ b. if b then pending (a ++ n ∷ []) n else None) (is.blank q)

  named_ended : (q : ℕ) → is_acked a q ≡ false → named (a ++ n ∷ []) q ≡ without x (named a q)
  named_ended q free =
      first_of-append (names (a ++ n ∷ []) q) a (n ∷ [])
      ∙ ap (λ o. option_or (first_of (names (a ++ n ∷ []) q) a) (option_or o None)) (names_none q)
      ∙ or_none (first_of (names (a ++ n ∷ []) q) a)
      ∙ first_same (names (a ++ n ∷ []) q) (λ e. without x (names a q e)) (names_ended q) a
      ∙ first_without x (named a q) (names a q) a (one q free)

  counted : (q : ℕ) (e : AckEntry) → (counts (a ++ n ∷ []) e && covers e q) ≡ ((counts a e && covers e q) || (is_commit (Some d) && is_held_by x (names a q e)))
  counted q e = ap (λ b. b && covers e q) (ends_counts a n x d is e) ∙ pick (counts a e) (is_commit (Some d)) (covers e q)
    where
      pick : (b k c : Bool) → ((b || (k && is_held_by x (pending a e))) && c) ≡ ((b && c) || (k && is_held_by x (if c then pending a e else None)))
      pick true k true = refl
      pick true true false = refl
      pick true false false = refl
      pick false true true = and_true (is_held_by x (pending a e))
        where
          and_true : (b : Bool) → (b && true) ≡ b
          and_true true = refl
          and_true false = refl
      pick false true false = and_false (is_held_by x (pending a e))
        where
          and_false : (b : Bool) → (b && false) ≡ false
          and_false true = refl
          and_false false = refl
      pick false false c = refl

  any_or : (f g : AckEntry → Bool) (k : Bool) (es : List AckEntry) → list_any (λ e. f e || (k && g e)) es ≡ (list_any f es || (k && list_any g es))
  any_or f g true [] = refl
  any_or f g false [] = refl
  any_or f g k (e ∷ es) = ap (λ b. (f e || (k && g e)) || b) (any_or f g k es) ∙ pick (f e) k (g e) (list_any f es) (list_any g es)
    where
      pick : (b k c u v : Bool) → ((b || (k && c)) || (u || (k && v))) ≡ ((b || u) || (k && (c || v)))
      pick true k c u v = refl
      pick false true true true v = refl
      pick false true true false v = refl
      pick false true false u v = refl
      pick false false c u v = refl

  any_more : (q : ℕ) → is_acked (a ++ n ∷ []) q ≡ (is_acked a q || (is_commit (Some d) && list_any (λ e. is_held_by x (names a q e)) a))
  any_more q =
      list_any-append (λ e. counts (a ++ n ∷ []) e && covers e q) a (n ∷ [])
      ∙ ap (λ b. list_any (λ e. counts (a ++ n ∷ []) e && covers e q) a || ((counts (a ++ n ∷ []) n && b) || false)) (is.blank q)
      ∙ ap (λ b. list_any (λ e. counts (a ++ n ∷ []) e && covers e q) a || (b || false)) (and_false (counts (a ++ n ∷ []) n))
      ∙ or_false (list_any (λ e. counts (a ++ n ∷ []) e && covers e q) a)
      ∙ any_same (λ e. counts (a ++ n ∷ []) e && covers e q) (λ e. (counts a e && covers e q) || (is_commit (Some d) && is_held_by x (names a q e))) (counted q) a
      ∙ any_or (λ e. counts a e && covers e q) (λ e. is_held_by x (names a q e)) (is_commit (Some d)) a
    where
      and_false : (b : Bool) → (b && false) ≡ false
      and_false true = refl
      and_false false = refl

  -- a commit acknowledges what its transaction held
  pub ends_acked : (q : ℕ) → is_acked (a ++ n ∷ []) q ≡ (is_acked a q || (is_commit (Some d) && is_held_by x (holder_of a q)))
  ends_acked q = any_more q ∙ by_acked (is_acked a q) refl
    where
      by_acked : (b : Bool) → is_acked a q ≡ b → (is_acked a q || (is_commit (Some d) && list_any (λ e. is_held_by x (names a q e)) a)) ≡ (is_acked a q || (is_commit (Some d) && is_held_by x (holder_of a q)))
      by_acked true e = ap (λ b. b || (is_commit (Some d) && list_any (λ e. is_held_by x (names a q e)) a)) e ∙ sym (ap (λ b. b || (is_commit (Some d) && is_held_by x (holder_of a q))) e)
      by_acked false e = ap (λ b. is_acked a q || (is_commit (Some d) && b)) (any_held x (named a q) (names a q) a (one q e) ∙ ap (is_held_by x) (sym (holder_named a q e)))

  -- and any marker lets go what it held
  pub ends_holder : (q : ℕ) → holder_of (a ++ n ∷ []) q ≡ without x (holder_of a q)
  ends_holder q = by_acked (is_acked a q) (is_acked (a ++ n ∷ []) q) refl refl
    where
      by_acked : (b c : Bool) → is_acked a q ≡ b → is_acked (a ++ n ∷ []) q ≡ c → holder_of (a ++ n ∷ []) q ≡ without x (holder_of a q)
      by_acked true c e f = holder_acked (a ++ n ∷ []) q (ends_acked q ∙ ap (λ b. b || (is_commit (Some d) && is_held_by x (holder_of a q))) e) ∙ sym (ap (without x) (holder_acked a q e))
      by_acked false true e f =
          holder_acked (a ++ n ∷ []) q f
          ∙ sym (ap (λ b. if b then None else holder_of a q) (and_r (is_commit (Some d)) (is_held_by x (holder_of a q)) (ap (λ b. b || (is_commit (Some d) && is_held_by x (holder_of a q))) (sym e) ∙ sym (ends_acked q) ∙ f)))
      by_acked false false e f = holder_named (a ++ n ∷ []) q f ∙ named_ended q e ∙ ap (without x) (sym (holder_named a q e))

  pub ends_one : One (a ++ n ∷ [])
  ends_one q h =
      let free : is_acked a q ≡ false = or_l_false (is_acked a q) (is_commit (Some d) && is_held_by x (holder_of a q)) (sym (ends_acked q) ∙ h) in
      subst (λ o. Only o (names (a ++ n ∷ []) q) (a ++ n ∷ [])) (sym (named_ended q free))
      (only_push (without x (named a q)) (names (a ++ n ∷ []) q) a n
      (only_same (without x (named a q)) (λ e. without x (names a q e)) (names (a ++ n ∷ []) q) (names_ended q) a (only_without x (named a q) (names a q) a (one q free)))
      (inl (names_none q)))
