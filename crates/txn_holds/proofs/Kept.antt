-- What is kept of the entries, after one more.
use Rattle.std.proofs.Common.{◌≡◌, ◌<◌, ◌≤◌, ◌⊎◌, ⊎_elim, ℕ, ◌+◌, Bool, true, false, ◌&&◌, ◌||◌, if◌then◌else◌, List, [], ◌∷◌, ◌++◌, length, Some, None, refl, sym, ap, ◌∙◌, subst, true≢false, arith}
use Rattle.std.specs.Prelude.{Option, is_none, nat_le, All}
use Rattle.std.specs.Option.{option_or}
use Rattle.std.proofs.lemmas.Bool.{cases_lt}
use Rattle.std.proofs.lemmas.List.Elements.{All-append, All-cons, All-nil}
use Rattle.txn_base.specs.declared.txn.TxnId.{TxnId}
use Rattle.txn_base.specs.declared.txn.Decision.{Decision}
use Rattle.txn_base.specs.Records.{IsAckEntry}
use Rattle.txn_base.specs.declared.entry.AckEntry.{AckEntry}
use Rattle.txn_base.specs.declared.entry.AckEntry.TheVariants as ack
use Rattle.txn_model.specs.Words.{has}
use Rattle.txn_model.specs.Skeletons.{same_txn}
use Rattle.txn_model.specs.Ack.{is_commit, is_acked, holder_of, held_by, is_held_by, ack_allows}
use Rattle.txn_holds.specs.Spans.{set_each}
use Rattle.txn_holds.specs.Holds.{listed, held_places, without, is_ack, is_single, holder_up_to, holder_at, IsLive, IsHolds}
use Rattle.txn_holds.proofs.Covering.{le_true, le_false, true_le}
use Rattle.txn_holds.proofs.Entries.{mark, Ends, same_equal, same_self, quiet_marks, ends_marks}
use Rattle.txn_holds.proofs.Snoc.{Adds, One, adds_acked, adds_holder, ends_acked, ends_holder, holder_acked}
use Rattle.txn_holds.proofs.Allowed.{Fresh, lawful_one, lawful_more, hold_adds, hold_unmarked, hold_free, hold_up_to_adds, hold_up_to_own, hold_up_to_fresh}
use Rattle.txn_holds.proofs.Counts.{count_quiet, count_ends, places_same, places_more, places_ends, has-append}

abbrev Taking : Type 0
Taking = ℕ → Option (Option TxnId)

none_some : {V : Type 0} (v : V) (o : Option V) → o ≡ None → o ≡ Some v → ⊥
none_some v o h k = cc

some_one : {V : Type 0} (x y : V) → Some x ≡ Some y → x ≡ y
some_one x y h = cc

each_more : (a : List AckEntry) (e : AckEntry) → All IsAckEntry a → IsAckEntry e → All IsAckEntry (a ++ e ∷ [])
each_more a e each fits = All-append IsAckEntry a (e ∷ []) each (All-cons IsAckEntry e [] fits (All-nil IsAckEntry))

or_none : (b : Bool) → (b || false) ≡ b
or_none true = refl
or_none false = refl

-- what has a holder isn't acknowledged
pub held_unacked : (a : List AckEntry) (q : ℕ) (x : TxnId) → holder_of a q ≡ Some x → is_acked a q ≡ false
held_unacked a q x h = by_acked (is_acked a q) refl
  where
    by_acked : (b : Bool) → is_acked a q ≡ b → is_acked a q ≡ false
    by_acked true e = absurd (none_some x (holder_of a q) (holder_acked a q e) h)
    by_acked false e = e

acked_none : (a : List AckEntry) (q : ℕ) → is_acked a q ≡ true → holder_of a q ≡ None
acked_none a q h = by_holder (holder_of a q) refl
  where
    by_holder : (o : Option TxnId) → holder_of a q ≡ o → holder_of a q ≡ None
    by_holder None e = e
    by_holder (Some x) e = absurd (true≢false (sym h ∙ held_unacked a q x e))

-- a place of a transaction alone is held by it
pub single_held : (a : List AckEntry) (t : Taking) (up : Option (ℕ × TxnId)) (rows : TxnId → List ℕ) (ends : TxnId → Option Decision) (held : ℕ) → IsHolds a t up rows ends held
    → (x : TxnId) (q : ℕ) → has (rows x) q ≡ true → t q ≡ Some (Some x)
single_held a t up rows ends held is x q h = by_taken (t q) refl (sym (is.singles x q) ∙ ap (λ l. has l q) (sym (is.rows_are x)) ∙ h)
  where
    by_taken : (m : Option (Option TxnId)) → t q ≡ m → is_single x (t q) ≡ true → t q ≡ Some (Some x)
    by_taken None e k = absurd (true≢false (sym k ∙ ap (is_single x) e))
    by_taken (Some None) e k = absurd (true≢false (sym k ∙ ap (is_single x) e))
    by_taken (Some (Some y)) e k = e ∙ ap (λ z. Some (Some z)) (sym (same_equal x y (sym (ap (is_single x) e) ∙ k)))

-- a place that is neither acknowledged nor held isn't taken
pub free_taken : (a : List AckEntry) (t : Taking) (up : Option (ℕ × TxnId)) (rows : TxnId → List ℕ) (ends : TxnId → Option Decision) (held : ℕ) → IsHolds a t up rows ends held
    → (q : ℕ) → is_acked a q ≡ false → holder_of a q ≡ None → t q ≡ None
free_taken a t up rows ends held is q free none = by_taken (t q) refl
  where
    by_taken : (m : Option (Option TxnId)) → t q ≡ m → t q ≡ None
    by_taken None e = e
    by_taken (Some None) e = absurd (true≢false (sym (is.acked q ∙ ap is_ack e) ∙ free))
    by_taken (Some (Some y)) e = absurd (none_some y (holder_of a q) none (is.holder q ∙ ap (holder_at up q) e))

-- ---- An entry that is no marker.

module _ (a : List AckEntry) (n : AckEntry) (acks : ℕ → Bool) (holds : ℕ → Option TxnId) (adds : Adds a n acks holds) where
  pub holder_kept : (q : ℕ) (x : TxnId) → holder_of a q ≡ Some x → holder_of (a ++ n ∷ []) q ≡ Some x
  holder_kept q x h =
      let free = held_unacked a q x h in
      adds_holder a n acks holds adds q ∙ ap (λ b. if b then None else option_or (holds q) (holder_of a q)) free ∙ by_holds free (holds q) refl
    where
      by_holds : is_acked a q ≡ false → (o : Option TxnId) → holds q ≡ o → option_or (holds q) (holder_of a q) ≡ Some x
      by_holds free None e = ap (λ o. option_or o (holder_of a q)) e ∙ h
      by_holds free (Some y) e = ⊎_elim
          (λ none. absurd (none_some x (holder_of a q) none h))
          (λ own. ap (λ o. option_or o (holder_of a q)) e ∙ sym own ∙ h)
          (adds.own q y e free)

  pub live_kept : (u : ℕ) (x : TxnId) → IsLive a u x → IsLive (a ++ n ∷ []) u x
  live_kept u x live = record { at = live.at; within = live.within; held = holder_kept live.at x live.held }

  still_free : (q : ℕ) → is_acked (a ++ n ∷ []) q ≡ false → is_acked a q ≡ false
  still_free q h = by_acked (is_acked a q) refl
    where
      by_acked : (b : Bool) → is_acked a q ≡ b → is_acked a q ≡ false
      by_acked true e = absurd (true≢false (sym (adds_acked a n acks holds adds q ∙ ap (λ b. b || acks q) e) ∙ h))
      by_acked false e = e

-- A plain entry: the places that it acknowledges are.
module _ (a : List AckEntry) (n : AckEntry) (acks : ℕ → Bool) (adds : Adds a n acks (λ q. None)) (t t' : Taking) (up : Option (ℕ × TxnId)) (rows : TxnId → List ℕ) (ends : TxnId → Option Decision) (held : ℕ)
    (is : IsHolds a t up rows ends held) (fits : IsAckEntry n) (allowed : ack_allows a n ≡ true) (none : (x : TxnId) → listed x n ≡ []) (zero : (l : List AckEntry) → held_by l n ≡ 0)
    (new : (q : ℕ) → t' q ≡ (if acks q then Some None else t q)) where
  same_holder : (q : ℕ) → holder_of (a ++ n ∷ []) q ≡ holder_of a q
  same_holder q = adds_holder a n acks (λ p. None) adds q ∙ by_acked (is_acked a q) refl
    where
      by_acked : (b : Bool) → is_acked a q ≡ b → (if b then None else holder_of a q) ≡ holder_of a q
      by_acked true e = sym (acked_none a q e)
      by_acked false e = refl

  pub plain_kept : IsHolds (a ++ n ∷ []) t' up rows ends held
  plain_kept = record {
    lawful = lawful_more a n is.lawful allowed;
    each = each_more a n is.each fits;
    acked = λ q. adds_acked a n acks (λ p. None) adds q ∙ by_acks q (acks q) refl;
    holder = λ q. same_holder q ∙ by_fresh q (acks q) refl;
    whole = λ u x e q le free. same_holder q ∙ is.whole u x e q le (still_free a n acks (λ p. None) adds q free);
    live = λ u x e. live_kept a n acks (λ p. None) adds u x (is.live u x e);
    rows_are = λ x. is.rows_are x ∙ sym (places_same a n adds.quiet x (none x));
    singles = λ x q. ap (λ l. has l q) (places_same a n adds.quiet x (none x)) ∙ is.singles x q ∙ by_single x q (acks q) refl;
    marked = λ x. is.marked x ∙ sym (quiet_marks a n adds.quiet x);
    held_is = let c = count_quiet a n adds.quiet in let z = zero a in let h = is.held_is in omega (arith, c, z, h);
  }
    where
      by_acks : (q : ℕ) (b : Bool) → acks q ≡ b → (is_acked a q || acks q) ≡ is_ack (t' q)
      by_acks q true e = ap (λ b. is_acked a q || b) e ∙ or_true (is_acked a q) ∙ sym (ap is_ack (new q ∙ ap (λ b. if b then Some None else t q) e))
        where
          or_true : (b : Bool) → (b || true) ≡ true
          or_true true = refl
          or_true false = refl
      by_acks q false e = ap (λ b. is_acked a q || b) e ∙ or_none (is_acked a q) ∙ is.acked q ∙ sym (ap is_ack (new q ∙ ap (λ b. if b then Some None else t q) e))

      by_fresh : (q : ℕ) (b : Bool) → acks q ≡ b → holder_of a q ≡ holder_at up q (t' q)
      by_fresh q true e = adds.fresh q e ∙ sym (ap (holder_at up q) (new q ∙ ap (λ b. if b then Some None else t q) e))
      by_fresh q false e = is.holder q ∙ sym (ap (holder_at up q) (new q ∙ ap (λ b. if b then Some None else t q) e))

      by_single : (x : TxnId) (q : ℕ) (b : Bool) → acks q ≡ b → is_single x (t q) ≡ is_single x (t' q)
      by_single x q true e = by_taken (t q) refl ∙ sym (ap (is_single x) (new q ∙ ap (λ b. if b then Some None else t q) e))
        where
          by_taken : (m : Option (Option TxnId)) → t q ≡ m → is_single x (t q) ≡ false
          by_taken None k = ap (is_single x) k
          by_taken (Some None) k = ap (is_single x) k
          by_taken (Some (Some y)) k = absurd (none_some y (holder_of a q) (adds.fresh q e) (is.holder q ∙ ap (holder_at up q) k))
      by_single x q false e = sym (ap (is_single x) (new q ∙ ap (λ b. if b then Some None else t q) e))

-- An individual hold.
module _ (a : List AckEntry) (x : TxnId) (ps : List ℕ) (t t' : Taking) (up : Option (ℕ × TxnId)) (rows rows' : TxnId → List ℕ) (ends : TxnId → Option Decision) (held held' : ℕ)
    (is : IsHolds a t up rows ends held) (fits : IsAckEntry (ack.Hold x ps)) (allowed : ack_allows a (ack.Hold x ps) ≡ true)
    (new : (q : ℕ) → t' q ≡ set_each t ps (Some (Some x)) q) (grown : (y : TxnId) → rows' y ≡ (if same_txn y x then rows y ++ ps else rows y)) (more : held' ≡ held + length ps) where
  adds : Adds a (ack.Hold x ps) (λ q. false) (λ q. if has ps q then Some x else None)
  adds = hold_adds a x ps allowed

  unmarked : mark a x ≡ None
  unmarked = hold_unmarked a x ps allowed

  free : (q : ℕ) → has ps q ≡ true → (is_acked a q ≡ false) × (holder_of a q ≡ None)
  free q h = hold_free a x ps allowed q h

  places : (y : TxnId) → held_places (a ++ ack.Hold x ps ∷ []) y ≡ (if same_txn y x then held_places a y ++ ps else held_places a y)
  places y = by_test (same_txn y x) refl
    where
      by_test : (b : Bool) → same_txn y x ≡ b → held_places (a ++ ack.Hold x ps ∷ []) y ≡ (if b then held_places a y ++ ps else held_places a y)
      by_test true e = places_more a (ack.Hold x ps) (λ z. refl) y (ap (mark a) (same_equal y x e) ∙ unmarked) ∙ ap (λ b. held_places a y ++ (if b then ps else [])) e
      by_test false e = places_same a (ack.Hold x ps) (λ z. refl) y (ap (λ b. if b then ps else []) e)

  pub hold_kept : IsHolds (a ++ ack.Hold x ps ∷ []) t' up rows' ends held'
  hold_kept = record {
    lawful = lawful_more a (ack.Hold x ps) is.lawful allowed;
    each = each_more a (ack.Hold x ps) is.each fits;
    acked = λ q. adds_acked a (ack.Hold x ps) _ _ adds q ∙ or_none (is_acked a q) ∙ by_acked q (has ps q) refl;
    holder = λ q. adds_holder a (ack.Hold x ps) _ _ adds q ∙ by_holder q (has ps q) refl;
    whole = λ u y e q le none. holder_kept a (ack.Hold x ps) _ _ adds q y (is.whole u y e q le (still_free a (ack.Hold x ps) _ _ adds q none));
    live = λ u y e. live_kept a (ack.Hold x ps) _ _ adds u y (is.live u y e);
    rows_are = λ y. grown y ∙ ap (λ l. if same_txn y x then l ++ ps else l) (is.rows_are y) ∙ sym (places y);
    singles = λ y q. ap (λ l. has l q) (places y) ∙ by_single y q (same_txn y x) (has ps q) refl refl;
    marked = λ y. is.marked y ∙ sym (quiet_marks a (ack.Hold x ps) (λ z. refl) y);
    held_is = let c = count_quiet a (ack.Hold x ps) (λ z. refl) in let l : held_by a (ack.Hold x ps) ≡ length ps = ap (λ o. if is_none o then length ps else 0) unmarked in let h = is.held_is in omega (arith, c, l, h, more);
  }
    where
      taken_in : (q : ℕ) → has ps q ≡ true → t' q ≡ Some (Some x)
      taken_in q h = new q ∙ ap (λ b. if b then Some (Some x) else t q) h

      taken_out : (q : ℕ) → has ps q ≡ false → t' q ≡ t q
      taken_out q h = new q ∙ ap (λ b. if b then Some (Some x) else t q) h

      by_acked : (q : ℕ) (b : Bool) → has ps q ≡ b → is_acked a q ≡ is_ack (t' q)
      by_acked q true e = (free q e).0 ∙ sym (ap is_ack (taken_in q e))
      by_acked q false e = is.acked q ∙ sym (ap is_ack (taken_out q e))

      by_holder : (q : ℕ) (b : Bool) → has ps q ≡ b → (if is_acked a q then None else option_or (if has ps q then Some x else None) (holder_of a q)) ≡ holder_at up q (t' q)
      by_holder q true e =
          ap (λ b. if b then None else option_or (if has ps q then Some x else None) (holder_of a q)) (free q e).0
          ∙ ap (λ b. option_or (if b then Some x else None) (holder_of a q)) e ∙ sym (ap (holder_at up q) (taken_in q e))
      by_holder q false e =
          ap (λ b. if is_acked a q then None else option_or (if b then Some x else None) (holder_of a q)) e
          ∙ plain (is_acked a q) refl ∙ is.holder q ∙ sym (ap (holder_at up q) (taken_out q e))
        where
          plain : (b : Bool) → is_acked a q ≡ b → (if b then None else holder_of a q) ≡ holder_of a q
          plain true k = sym (acked_none a q k)
          plain false k = refl

      by_single : (y : TxnId) (q : ℕ) (b c : Bool) → same_txn y x ≡ b → has ps q ≡ c → has (if same_txn y x then held_places a y ++ ps else held_places a y) q ≡ is_single y (t' q)
      by_single y q true true e h =
          ap (λ b. has (if b then held_places a y ++ ps else held_places a y) q) e ∙ has-append (held_places a y) ps q ∙ ap (λ b. has (held_places a y) q || b) h ∙ or_true (has (held_places a y) q)
          ∙ sym (ap (is_single y) (taken_in q h) ∙ e)
        where
          or_true : (b : Bool) → (b || true) ≡ true
          or_true true = refl
          or_true false = refl
      by_single y q true false e h =
          ap (λ b. has (if b then held_places a y ++ ps else held_places a y) q) e ∙ has-append (held_places a y) ps q ∙ ap (λ b. has (held_places a y) q || b) h ∙ or_none (has (held_places a y) q)
          ∙ is.singles y q ∙ sym (ap (is_single y) (taken_out q h))
      by_single y q false true e h =
          ap (λ b. has (if b then held_places a y ++ ps else held_places a y) q) e ∙ is.singles y q
          ∙ ap (is_single y) (free_taken a t up rows ends held is q (free q h).0 (free q h).1) ∙ sym (ap (is_single y) (taken_in q h) ∙ e)
      by_single y q false false e h =
          ap (λ b. has (if b then held_places a y ++ ps else held_places a y) q) e ∙ is.singles y q ∙ sym (ap (is_single y) (taken_out q h))

-- A cumulative hold: there's none of another.
module _ (a : List AckEntry) (x : TxnId) (c : ℕ) (t : Taking) (up : Option (ℕ × TxnId)) (rows : TxnId → List ℕ) (ends : TxnId → Option Decision) (held : ℕ)
    (is : IsHolds a t up rows ends held) (fits : IsAckEntry (ack.HoldUpTo x c)) (allowed : ack_allows a (ack.HoldUpTo x c) ≡ true) where
  adds_up : Adds a (ack.HoldUpTo x c) (λ q. false) (λ q. if nat_le q c then Some x else None)
  adds_up = hold_up_to_adds a x c allowed

  -- a pending cumulative hold is of the same transaction
  pub one_up : (u : ℕ) (y : TxnId) → up ≡ Some (u, y) → y ≡ x
  one_up u y e = by_place (is.live u y e) (hold_up_to_fresh a x c allowed)
    where
      by_place : IsLive a u y → Fresh a c → y ≡ x
      by_place live fresh = let within = live.within in let near = fresh.within in ⊎_elim
          (λ lt. absurd (none_some y (holder_of a fresh.at) fresh.free (is.whole u y e fresh.at (omega (arith, lt, near, within)) fresh.acked)))
          (λ ge. ⊎_elim
          (λ none. absurd (none_some y (holder_of a live.at) none live.held))
          (λ own. some_one y x (sym live.held ∙ own))
          (hold_up_to_own a x c allowed live.at ge))
          (cases_lt c live.at)

  now_held : (q : ℕ) → q ≤ c → is_acked a q ≡ false → holder_of (a ++ ack.HoldUpTo x c ∷ []) q ≡ Some x
  now_held q le free =
      adds_holder a (ack.HoldUpTo x c) _ _ adds_up q ∙ ap (λ b. if b then None else option_or (if nat_le q c then Some x else None) (holder_of a q)) free
      ∙ ap (λ b. option_or (if b then Some x else None) (holder_of a q)) (le_true q c le)

  module _ (last : ℕ) (upper : c ≤ last) (old : (u : ℕ) (y : TxnId) → up ≡ Some (u, y) → u ≤ last)
      (either : (q : ℕ) → q ≤ last → (q ≤ c) ⊎ (holder_up_to up q ≡ Some x)) where
    past_all : (q : ℕ) → last < q → holder_up_to up q ≡ None
    past_all q lt = by_up up refl
      where
        by_up : (o : Option (ℕ × TxnId)) → up ≡ o → holder_up_to up q ≡ None
        by_up None e = ap (λ o. holder_up_to o q) e
        by_up (Some p) e = let most = old p.0 p.1 e in ap (λ o. holder_up_to o q) e ∙ ap (λ b. if b then Some p.1 else None) (le_false q p.0 (omega (arith, most, lt)))

    up_whole : (q : ℕ) → q ≤ last → is_acked a q ≡ false → holder_of (a ++ ack.HoldUpTo x c ∷ []) q ≡ Some x
    up_whole q le free = ⊎_elim
        (λ near. now_held q near free)
        (λ own. holder_kept a (ack.HoldUpTo x c) _ _ adds_up q x (by_up up refl own))
        (either q le)
      where
        by_up : (o : Option (ℕ × TxnId)) → up ≡ o → holder_up_to up q ≡ Some x → holder_of a q ≡ Some x
        by_up None e h = absurd (none_some x None refl (sym (ap (λ o. holder_up_to o q) e) ∙ h))
        by_up (Some p) e h = by_test (nat_le q p.0) refl
          where
            by_test : (b : Bool) → nat_le q p.0 ≡ b → holder_of a q ≡ Some x
            by_test true k = is.whole p.0 p.1 e q (true_le q p.0 k) free ∙ ap Some (one_up p.0 p.1 e)
            by_test false k = absurd (none_some x None refl (sym (ap (λ o. holder_up_to o q) e ∙ ap (λ b. if b then Some p.1 else None) k) ∙ h))

    pub hold_up_to_kept : IsHolds (a ++ ack.HoldUpTo x c ∷ []) t (Some (last, x)) rows ends held
    hold_up_to_kept = record {
      lawful = lawful_more a (ack.HoldUpTo x c) is.lawful allowed;
      each = each_more a (ack.HoldUpTo x c) is.each fits;
      acked = λ q. adds_acked a (ack.HoldUpTo x c) _ _ adds_up q ∙ or_none (is_acked a q) ∙ is.acked q;
      holder = λ q. by_taken q (t q) refl;
      whole = λ u y e q le free. up_whole q (omega (arith, le, ap (λ p. p.0) (some_one (last, x) (u, y) e))) (still_free a (ack.HoldUpTo x c) _ _ adds_up q free) ∙ ap Some (ap (λ p. p.1) (some_one (last, x) (u, y) e));
      live = λ u y e. subst (λ p. IsLive (a ++ ack.HoldUpTo x c ∷ []) p.0 p.1) (some_one (last, x) (u, y) e) live_now;
      rows_are = λ y. is.rows_are y ∙ sym (places_same a (ack.HoldUpTo x c) (λ z. refl) y refl);
      singles = λ y q. ap (λ l. has l q) (places_same a (ack.HoldUpTo x c) (λ z. refl) y refl) ∙ is.singles y q;
      marked = λ y. is.marked y ∙ sym (quiet_marks a (ack.HoldUpTo x c) (λ z. refl) y);
      held_is = let n = count_quiet a (ack.HoldUpTo x c) (λ z. refl) in let h = is.held_is in omega (arith, n, h);
    }
      where
        live_now : IsLive (a ++ ack.HoldUpTo x c ∷ []) last x
        live_now =
            let fresh = hold_up_to_fresh a x c allowed in let within = fresh.within in
            record { at = fresh.at; within = omega (arith, within, upper); held = now_held fresh.at within fresh.acked }

        by_taken : (q : ℕ) (m : Option (Option TxnId)) → t q ≡ m → holder_of (a ++ ack.HoldUpTo x c ∷ []) q ≡ holder_at (Some (last, x)) q (t q)
        by_taken q (Some None) e =
            adds_holder a (ack.HoldUpTo x c) _ _ adds_up q ∙ ap (λ b. if b then None else option_or (if nat_le q c then Some x else None) (holder_of a q)) (is.acked q ∙ ap is_ack e)
            ∙ sym (ap (holder_at (Some (last, x)) q) e)
        by_taken q (Some (Some y)) e =
            holder_kept a (ack.HoldUpTo x c) _ _ adds_up q y (is.holder q ∙ ap (holder_at up q) e) ∙ sym (ap (holder_at (Some (last, x)) q) e)
        by_taken q None e = ⊎_elim
            (λ lt. adds_holder a (ack.HoldUpTo x c) _ _ adds_up q ∙ ap (λ b. if b then None else option_or (if nat_le q c then Some x else None) (holder_of a q)) (is.acked q ∙ ap is_ack e)
            ∙ ap (λ b. option_or (if b then Some x else None) (holder_of a q)) (le_false q c (omega (arith, lt, upper)))
            ∙ is.holder q ∙ ap (holder_at up q) e ∙ past_all q lt
            ∙ sym (ap (holder_at (Some (last, x)) q) e ∙ ap (λ b. if b then Some x else None) (le_false q last lt)))
            (λ ge. up_whole q ge (is.acked q ∙ ap is_ack e) ∙ sym (ap (holder_at (Some (last, x)) q) e ∙ ap (λ b. if b then Some x else None) (le_true q last ge)))
            (cases_lt last q)

-- ---- A marker.

-- What is left of the places that were taken: those that x held by itself are acknowledged or free, and then all up to the place of its
-- cumulative hold are acknowledged where it commits.
module _ (a : List AckEntry) (n : AckEntry) (x : TxnId) (d : Decision) (end : Ends a n x d) (t t' : Taking) (up up' : Option (ℕ × TxnId)) (rows rows' : TxnId → List ℕ) (ends ends' : TxnId → Option Decision) (held held' : ℕ)
    (is : IsHolds a t up rows ends held) (fits : IsAckEntry n) (allowed : ack_allows a n ≡ true)
    (new : (q : ℕ) → t' q ≡ (if is_held_by x (holder_of a q) then (if is_commit (Some d) then Some None else None) else t q))
    (up_new : (u : ℕ) (y : TxnId) → up' ≡ Some (u, y) → (up ≡ Some (u, y)) × (same_txn x y ≡ false))
    (up_gone : (q : ℕ) → holder_up_to up' q ≡ without x (holder_up_to up q))
    (rows_new : (y : TxnId) → rows' y ≡ (if same_txn x y then [] else rows y)) (ends_new : (y : TxnId) → ends' y ≡ (if same_txn x y then Some d else ends y))
    (less : held' + length (rows x) ≡ held) where
  one : One a
  one = lawful_one a is.lawful

  other_held : (q : ℕ) (y : TxnId) → same_txn x y ≡ false → holder_of a q ≡ Some y → holder_of (a ++ n ∷ []) q ≡ Some y
  other_held q y other h = ends_holder a n x d end one q ∙ ap (without x) h ∙ ap (λ b. if b then None else Some y) other

  was_free : (q : ℕ) → is_acked (a ++ n ∷ []) q ≡ false → is_acked a q ≡ false
  was_free q h = by_acked (is_acked a q) refl
    where
      by_acked : (b : Bool) → is_acked a q ≡ b → is_acked a q ≡ false
      by_acked true e = absurd (true≢false (sym (ends_acked a n x d end one q ∙ ap (λ b. b || (is_commit (Some d) && is_held_by x (holder_of a q))) e) ∙ h))
      by_acked false e = e

  new_in : (q : ℕ) → is_held_by x (holder_of a q) ≡ true → t' q ≡ (if is_commit (Some d) then Some None else None)
  new_in q h = new q ∙ ap (λ b. if b then (if is_commit (Some d) then Some None else None) else t q) h

  new_out : (q : ℕ) → is_held_by x (holder_of a q) ≡ false → t' q ≡ t q
  new_out q h = new q ∙ ap (λ b. if b then (if is_commit (Some d) then Some None else None) else t q) h

  pub ended_kept : IsHolds (a ++ n ∷ []) t' up' rows' ends' held'
  ended_kept = record {
    lawful = lawful_more a n is.lawful allowed;
    each = each_more a n is.each fits;
    acked = λ q. ends_acked a n x d end one q ∙ by_acked q (is_held_by x (holder_of a q)) refl;
    holder = λ q. ends_holder a n x d end one q ∙ by_holder q (is_held_by x (holder_of a q)) refl;
    whole = λ u y e q le free. let was = up_new u y e in other_held q y was.1 (is.whole u y was.0 q le (was_free q free));
    live = λ u y e. let was = up_new u y e in let live = is.live u y was.0 in record { at = live.at; within = live.within; held = other_held live.at y was.1 live.held };
    rows_are = λ y. rows_new y ∙ ap (λ l. if same_txn x y then [] else l) (is.rows_are y) ∙ sym (places_ends a n x d end y);
    singles = λ y q. ap (λ l. has l q) (places_ends a n x d end y) ∙ by_single y q (same_txn x y) refl;
    marked = λ y. ends_new y ∙ ap (λ o. if same_txn x y then Some d else o) (is.marked y) ∙ sym (ends_marks a n x d end y);
    held_is = let c = count_ends a n x d end in let h = is.held_is in let r = ap length (is.rows_are x) in omega (arith, c, h, r, less);
  }
    where
      ack_of : (k : Bool) → k ≡ is_ack (if k then Some None else None)
      ack_of true = refl
      ack_of false = refl

      and_true : (b : Bool) → (b && true) ≡ b
      and_true true = refl
      and_true false = refl

      and_false : (b : Bool) → (b && false) ≡ false
      and_false true = refl
      and_false false = refl

      held_free : (q : ℕ) → is_held_by x (holder_of a q) ≡ true → is_acked a q ≡ false
      held_free q h = by_acks (is_acked a q) refl
        where
          by_acks : (b : Bool) → is_acked a q ≡ b → is_acked a q ≡ false
          by_acks true e = absurd (true≢false (sym h ∙ ap (is_held_by x) (acked_none a q e)))
          by_acks false e = e

      by_acked : (q : ℕ) (b : Bool) → is_held_by x (holder_of a q) ≡ b → (is_acked a q || (is_commit (Some d) && is_held_by x (holder_of a q))) ≡ is_ack (t' q)
      by_acked q true e =
          ap (λ b. b || (is_commit (Some d) && is_held_by x (holder_of a q))) (held_free q e) ∙ ap (λ b. is_commit (Some d) && b) e ∙ and_true (is_commit (Some d))
          ∙ ack_of (is_commit (Some d)) ∙ sym (ap is_ack (new_in q e))
      by_acked q false e =
          ap (λ b. is_acked a q || (is_commit (Some d) && b)) e ∙ ap (λ b. is_acked a q || b) (and_false (is_commit (Some d))) ∙ or_none (is_acked a q)
          ∙ is.acked q ∙ sym (ap is_ack (new_out q e))

      by_holder : (q : ℕ) (b : Bool) → is_held_by x (holder_of a q) ≡ b → without x (holder_of a q) ≡ holder_at up' q (t' q)
      by_holder q true e = ap (λ b. if b then None else holder_of a q) e ∙ sym (ap (holder_at up' q) (new_in q e) ∙ by_commit (is_commit (Some d)))
        where
          no_more : holder_up_to up' q ≡ None
          no_more = up_gone q ∙ by_up (holder_up_to up q) refl
            where
              by_held : (u : ℕ) (y : TxnId) → up ≡ Some (u, y) → q ≤ u → without x (Some y) ≡ None
              by_held u y k le = ap (without x) (sym (is.whole u y k q le (held_free q e))) ∙ ap (λ b. if b then None else holder_of a q) e

              by_up : (o : Option TxnId) → holder_up_to up q ≡ o → without x (holder_up_to up q) ≡ None
              by_up None k = ap (without x) k
              by_up (Some y) k = ap (without x) k ∙ at_up up refl
                where
                  at_up : (o : Option (ℕ × TxnId)) → up ≡ o → without x (Some y) ≡ None
                  at_up None l = absurd (none_some y None refl (sym (ap (λ o. holder_up_to o q) l) ∙ k))
                  at_up (Some p) l = at_test (nat_le q p.0) refl
                    where
                      at_test : (b : Bool) → nat_le q p.0 ≡ b → without x (Some y) ≡ None
                      at_test true m = ap (without x) (sym k ∙ ap (λ o. holder_up_to o q) l ∙ ap (λ b. if b then Some p.1 else None) m) ∙ by_held p.0 p.1 l (true_le q p.0 m)
                      at_test false m = absurd (none_some y None refl (sym (ap (λ o. holder_up_to o q) l ∙ ap (λ b. if b then Some p.1 else None) m) ∙ k))

          by_commit : (k : Bool) → holder_at up' q (if k then Some None else None) ≡ None
          by_commit true = refl
          by_commit false = no_more
      by_holder q false e = ap (λ b. if b then None else holder_of a q) e ∙ by_taken (t q) refl ∙ sym (ap (holder_at up' q) (new_out q e))
        where
          by_taken : (m : Option (Option TxnId)) → t q ≡ m → holder_of a q ≡ holder_at up' q (t q)
          by_taken None k =
              let up_is : holder_of a q ≡ holder_up_to up q = is.holder q ∙ ap (holder_at up q) k in
              sym (ap (λ b. if b then None else holder_of a q) e) ∙ ap (without x) up_is ∙ sym (up_gone q) ∙ sym (ap (holder_at up' q) k)
          by_taken (Some o) k = is.holder q ∙ ap (holder_at up q) k ∙ sym (ap (holder_at up' q) k)

      by_single : (y : TxnId) (q : ℕ) (b : Bool) → same_txn x y ≡ b → has (if same_txn x y then [] else held_places a y) q ≡ is_single y (t' q)
      by_single y q true e = ap (λ b. has (if b then [] else held_places a y) q) e ∙ sym (ap (λ z. is_single z (t' q)) (sym (same_equal x y e)) ∙ by_held (is_held_by x (holder_of a q)) refl)
        where
          by_commit : (k : Bool) → is_single x (if k then Some None else None) ≡ false
          by_commit true = refl
          by_commit false = refl

          by_held : (b : Bool) → is_held_by x (holder_of a q) ≡ b → is_single x (t' q) ≡ false
          by_held true k = ap (is_single x) (new_in q k) ∙ by_commit (is_commit (Some d))
          by_held false k = ap (is_single x) (new_out q k) ∙ by_taken (t q) refl
            where
              by_taken : (m : Option (Option TxnId)) → t q ≡ m → is_single x (t q) ≡ false
              by_taken None l = ap (is_single x) l
              by_taken (Some o) l = ap (is_single x) l ∙ ap (is_held_by x) (sym (is.holder q ∙ ap (holder_at up q) l)) ∙ k
      by_single y q false e = ap (λ b. has (if b then [] else held_places a y) q) e ∙ is.singles y q ∙ by_held (is_held_by x (holder_of a q)) refl
        where
          by_commit : (k : Bool) → is_single y (if k then Some None else None) ≡ false
          by_commit true = refl
          by_commit false = refl

          differ : same_txn y x ≡ true → ⊥
          differ h = true≢false (sym (same_self x) ∙ ap (same_txn x) (sym (same_equal y x h)) ∙ e)

          not_y : (o : Option TxnId) → is_held_by x o ≡ true → is_held_by y o ≡ false
          not_y None h = refl
          not_y (Some z) h = by_same (same_txn y z) refl
            where
              by_same : (b : Bool) → same_txn y z ≡ b → same_txn y z ≡ false
              by_same true k = absurd (differ (k_to k))
                where
                  k_to : same_txn y z ≡ true → same_txn y x ≡ true
                  k_to m = ap (same_txn y) (same_equal x z h) ∙ m
              by_same false k = k

          by_held : (b : Bool) → is_held_by x (holder_of a q) ≡ b → is_single y (t q) ≡ is_single y (t' q)
          by_held true k = by_taken (t q) refl ∙ sym (ap (is_single y) (new_in q k) ∙ by_commit (is_commit (Some d)))
            where
              by_taken : (m : Option (Option TxnId)) → t q ≡ m → is_single y (t q) ≡ false
              by_taken None l = ap (is_single y) l
              by_taken (Some o) l = ap (is_single y) l ∙ not_y o (ap (is_held_by x) (sym (is.holder q ∙ ap (holder_at up q) l)) ∙ k)
          by_held false k = sym (ap (is_single y) (new_out q k))
