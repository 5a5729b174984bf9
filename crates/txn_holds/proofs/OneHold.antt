-- In a lawful list one cumulative hold at most is pending.
use Rattle.std.proofs.Common.{◌≡◌, ◌≤◌, ◌⊎◌, ⊎_elim, ℕ, Bool, true, false, ◌&&◌, if◌then◌else◌, List, [], ◌∷◌, ◌++◌, Some, None, refl, sym, ap, ◌∙◌, subst, arith}
use Rattle.std.proofs.Common.{append_assoc, append-nil}
use Rattle.std.specs.Prelude.{Option, is_none, nat_le}
use Rattle.std.specs.Option.{option_or}
use Rattle.std.proofs.lemmas.Bool.{cases_lt}
use Rattle.txn_base.specs.declared.txn.TxnId.{TxnId}
use Rattle.txn_base.specs.declared.txn.Decision.{Decision}
use Rattle.txn_base.specs.declared.txn.Decision.TheVariants.{Commit, Abort}
use Rattle.txn_base.specs.declared.entry.AckEntry.{AckEntry}
use Rattle.txn_base.specs.declared.entry.AckEntry.TheVariants as ack
use Rattle.txn_model.specs.Words.{has, all_follow}
use Rattle.txn_model.specs.Skeletons.{same_txn, ack_skeleton, ack_skeletons}
use Rattle.txn_model.specs.Topic.{marks, marker_of}
use Rattle.txn_model.specs.Ack.{pending, holder_of, ack_allows, AckLawful}
use Rattle.txn_model.proofs.Laws.Lists.{first_stays, map_append, all_follow-append}
use Rattle.txn_model.proofs.Laws.Tests.{and_l, and_r}
use Rattle.txn_holds.specs.Holds.{without, IsLive}
use Rattle.txn_holds.proofs.Covering.{le_true}
use Rattle.txn_holds.proofs.Entries.{mark, Ends, ends_marks}
use Rattle.txn_holds.proofs.Only.{Only}
use Rattle.txn_holds.proofs.Snoc.{One, names, named, holder_named, ends_holder, adds_holder}
use Rattle.txn_holds.proofs.Allowed.{Fresh, lawful_one, one_more, plain_adds, up_to_adds, hold_adds, hold_up_to_adds, hold_up_to_fresh, commit_ends, abort_ends}
use Rattle.txn_holds.proofs.Kept.{holder_kept, held_unacked}

none_some : {V : Type 0} (v : V) (o : Option V) → o ≡ None → o ≡ Some v → ⊥
none_some v o h k = cc

some_one : {V : Type 0} (x y : V) → Some x ≡ Some y → x ≡ y
some_one x y h = cc

-- a marker of its holder alone takes a place from it
end_keeps : (a : List AckEntry) (n : AckEntry) (z : TxnId) (d : Decision) → Ends a n z d → One a → (q : ℕ) (x : TxnId) → holder_of a q ≡ Some x → mark (a ++ n ∷ []) x ≡ None → holder_of (a ++ n ∷ []) q ≡ Some x
end_keeps a n z d is one q x h unmarked = ends_holder a n z d is one q ∙ ap (without z) h ∙ by_same (same_txn z x) refl
  where
    by_same : (b : Bool) → same_txn z x ≡ b → (if same_txn z x then None else Some x) ≡ Some x
    by_same true e = absurd (none_some d (mark (a ++ n ∷ []) x) unmarked (ends_marks a n z d is x ∙ ap (λ b. if b then Some d else mark a x) e))
    by_same false e = ap (λ b. if b then None else Some x) e

one_keeps : (a : List AckEntry) (e : AckEntry) → One a → ack_allows a e ≡ true → (q : ℕ) (x : TxnId) → holder_of a q ≡ Some x → mark (a ++ e ∷ []) x ≡ None → holder_of (a ++ e ∷ []) q ≡ Some x
one_keeps a (ack.Plain ps) one may q x h unmarked = holder_kept a (ack.Plain ps) (has ps) (λ p. None) (plain_adds a ps may) q x h
one_keeps a (ack.PlainUpTo c) one may q x h unmarked = holder_kept a (ack.PlainUpTo c) (λ p. nat_le p c) (λ p. None) (up_to_adds a c may) q x h
one_keeps a (ack.Hold y ps) one may q x h unmarked = holder_kept a (ack.Hold y ps) (λ p. false) (λ p. if has ps p then Some y else None) (hold_adds a y ps may) q x h
one_keeps a (ack.HoldUpTo y c) one may q x h unmarked = holder_kept a (ack.HoldUpTo y c) (λ p. false) (λ p. if nat_le p c then Some y else None) (hold_up_to_adds a y c may) q x h
one_keeps a (ack.Commit z) one may q x h unmarked = end_keeps a (ack.Commit z) z Commit (commit_ends a z may) one q x h unmarked
one_keeps a (ack.Abort z) one may q x h unmarked = end_keeps a (ack.Abort z) z Abort (abort_ends a z may) one q x h unmarked

-- what had no marker later has none before
unmarked_before : (a more : List AckEntry) (x : TxnId) → mark (a ++ more) x ≡ None → mark a x ≡ None
unmarked_before a more x h = by_mark (mark a x) refl
  where
    by_mark : (o : Option Decision) → mark a x ≡ o → mark a x ≡ None
    by_mark None e = e
    by_mark (Some d) e = absurd (none_some d (mark (a ++ more) x) h
        (ap (λ l. marker_of l x) (map_append ack_skeleton a more) ∙ first_stays (marks x) (ack_skeletons a) (ack_skeletons more) d e))

-- A place stays with its holder until a marker of it, whatever follows.
pub holder_stays : (a more : List AckEntry) → One a → all_follow ack_allows a more ≡ true → (q : ℕ) (x : TxnId) → holder_of a q ≡ Some x → mark (a ++ more) x ≡ None → holder_of (a ++ more) q ≡ Some x
holder_stays a [] one may q x h unmarked = ap (λ l. holder_of l q) (append-nil a) ∙ h
holder_stays a (e ∷ es) one may q x h unmarked =
    let allowed : ack_allows a e ≡ true = and_l (ack_allows a e) (all_follow ack_allows (a ++ e ∷ []) es) may in
    let later : mark ((a ++ e ∷ []) ++ es) x ≡ None = ap (λ l. mark l x) (append_assoc a (e ∷ []) es) ∙ unmarked in
    ap (λ l. holder_of l q) (sym (append_assoc a (e ∷ []) es))
    ∙ holder_stays (a ++ e ∷ []) es (one_more a e one allowed) (and_r (ack_allows a e) (all_follow ack_allows (a ++ e ∷ []) es) may) q x
    (one_keeps a e one allowed q x h (unmarked_before (a ++ e ∷ []) es x later)) later

only_at : (o : Option TxnId) (h : AckEntry → Option TxnId) (b m : List AckEntry) (e : AckEntry) → Only o h (b ++ e ∷ m) → (h e ≡ None) ⊎ (h e ≡ o)
only_at o h [] m e only = only.0
only_at o h (d ∷ b) m e only = only_at o h b m e only.1

-- A pending cumulative hold holds a place.
held_up_to : (b m : List AckEntry) (x : TxnId) (c : ℕ) → AckLawful (b ++ ack.HoldUpTo x c ∷ m) → mark (b ++ ack.HoldUpTo x c ∷ m) x ≡ None → IsLive (b ++ ack.HoldUpTo x c ∷ m) c x
held_up_to b m x c lawful unmarked =
    let both : (all_follow ack_allows [] b && all_follow ack_allows b (ack.HoldUpTo x c ∷ m)) ≡ true = sym (all_follow-append ack_allows [] b (ack.HoldUpTo x c ∷ m)) ∙ lawful in
    let one : One b = lawful_one b (and_l (all_follow ack_allows [] b) (all_follow ack_allows b (ack.HoldUpTo x c ∷ m)) both) in
    let rest : all_follow ack_allows b (ack.HoldUpTo x c ∷ m) ≡ true = and_r (all_follow ack_allows [] b) (all_follow ack_allows b (ack.HoldUpTo x c ∷ m)) both in
    let may : ack_allows b (ack.HoldUpTo x c) ≡ true = and_l (ack_allows b (ack.HoldUpTo x c)) (all_follow ack_allows (b ++ ack.HoldUpTo x c ∷ []) m) rest in
    let fresh : Fresh b c = hold_up_to_fresh b x c may in
    let now : holder_of (b ++ ack.HoldUpTo x c ∷ []) fresh.at ≡ Some x =
    adds_holder b (ack.HoldUpTo x c) (λ q. false) (λ q. if nat_le q c then Some x else None) (hold_up_to_adds b x c may) fresh.at
    ∙ ap (λ k. if k then None else option_or (if nat_le fresh.at c then Some x else None) (holder_of b fresh.at)) fresh.acked
    ∙ ap (λ k. option_or (if k then Some x else None) (holder_of b fresh.at)) (le_true fresh.at c fresh.within) in
    let later : mark ((b ++ ack.HoldUpTo x c ∷ []) ++ m) x ≡ None = ap (λ l. mark l x) (append_assoc b (ack.HoldUpTo x c ∷ []) m) ∙ unmarked in
    record {
      at = fresh.at;
      within = fresh.within;
      held = ap (λ l. holder_of l fresh.at) (sym (append_assoc b (ack.HoldUpTo x c ∷ []) m))
          ∙ holder_stays (b ++ ack.HoldUpTo x c ∷ []) m (one_more b (ack.HoldUpTo x c) one may) (and_r (ack_allows b (ack.HoldUpTo x c)) (all_follow ack_allows (b ++ ack.HoldUpTo x c ∷ []) m) rest) fresh.at x now later;
    }

-- a pending cumulative hold is of the holder of each place up to its own
covers_own : (a b m : List AckEntry) (y : TxnId) (d : ℕ) → a ≡ b ++ ack.HoldUpTo y d ∷ m → AckLawful a → mark a y ≡ None → (q : ℕ) (x : TxnId) → q ≤ d → holder_of a q ≡ Some x → x ≡ y
covers_own a b m y d is lawful unmarked q x le h =
    let free = held_unacked a q x h in
    let says : names a q (ack.HoldUpTo y d) ≡ Some y = ap (λ k. if k then pending a (ack.HoldUpTo y d) else None) (le_true q d le) ∙ ap (λ o. if is_none o then Some y else None) unmarked in
    ⊎_elim
    (λ none. absurd (none_some y (names a q (ack.HoldUpTo y d)) none says))
    (λ own. some_one x y (sym h ∙ holder_named a q free ∙ sym own ∙ says))
    (only_at (named a q) (names a q) b m (ack.HoldUpTo y d) (subst (Only (named a q) (names a q)) is (lawful_one a lawful q free)))

-- Two pending cumulative holds are of one transaction.
pub one_hold_up_to : (a b m b' m' : List AckEntry) (x y : TxnId) (c d : ℕ) → AckLawful a → a ≡ b ++ ack.HoldUpTo x c ∷ m → a ≡ b' ++ ack.HoldUpTo y d ∷ m' → mark a x ≡ None → mark a y ≡ None → x ≡ y
one_hold_up_to a b m b' m' x y c d lawful first second no_x no_y =
    by_places
    (subst (λ l. IsLive l c x) (sym first) (held_up_to b m x c (subst AckLawful first lawful) (ap (λ l. mark l x) (sym first) ∙ no_x)))
    (subst (λ l. IsLive l d y) (sym second) (held_up_to b' m' y d (subst AckLawful second lawful) (ap (λ l. mark l y) (sym second) ∙ no_y)))
  where
    by_places : IsLive a c x → IsLive a d y → x ≡ y
    by_places p q = let of_p = p.within in let of_q = q.within in ⊎_elim
        (λ lt. covers_own a b' m' y d second lawful no_y p.at x (omega (arith, lt, of_q)) p.held)
        (λ ge. sym (covers_own a b m x c first lawful no_x q.at y (omega (arith, ge, of_p)) q.held))
        (cases_lt p.at q.at)
