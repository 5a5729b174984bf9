-- What is kept, by the code's steps.
use Rattle.std.proofs.Common.{◌≡◌, ◌<◌, ◌≤◌, ◌⊎◌, inl, inr, ⊎_elim, ℕ, suc, ◌+◌, ◌-◌, Bool, true, false, cond, if◌then◌else◌, List, [], ◌∷◌, ◌++◌, length, Some, None, refl, sym, ap, ◌∙◌, subst, true≢false, arith}
use Rattle.std.specs.Prelude.{Option, nat_le, AllPairs}
use Rattle.std.proofs.lemmas.Bool.{cases_lt}
use Rattle.std.proofs.lemmas.List.Kept.{AllPairs-from_increasing}
use Rattle.txn_base.specs.declared.txn.TxnId.{TxnId}
use Rattle.txn_base.specs.declared.txn.Decision.{Decision}
use Rattle.txn_base.specs.declared.txn.Decision.TheVariants.{Commit, Abort}
use Rattle.txn_base.specs.Records.{IsAckEntry, IsTxnId}
use Rattle.txn_base.specs.declared.entry.AckEntry.{AckEntry}
use Rattle.txn_base.specs.declared.entry.AckEntry.TheVariants as ack
use Rattle.txn_model.specs.Words.{has}
use Rattle.txn_model.specs.Skeletons.{same_txn}
use Rattle.txn_model.specs.Table.{ack_marker}
use Rattle.txn_model.specs.Ack.{is_commit, is_acked, holder_of, is_held_by, ack_allows}
use Rattle.txn_holds.specs.Spans.{Rises, set_each, up_to}
use Rattle.txn_holds.specs.Rows.{key_of, same_key, row_grown, row_ended}
use Rattle.txn_holds.specs.Holds.{without, is_ack, is_single, holder_up_to, holder_at, raised, left_by, own_up, left_up, after_up, IsHolds}
use Rattle.txn_holds.proofs.Covering.{le_true, le_false, true_le}
use Rattle.txn_holds.proofs.Puts.{tested}
use Rattle.txn_holds.proofs.Entries.{Ends, same_equal, same_self}
use Rattle.txn_holds.proofs.Allowed.{plain_adds, up_to_adds, plain_free, hold_free, commit_ends, abort_ends}
use Rattle.txn_holds.proofs.Counts.{count_ends}
use Rattle.txn_holds.proofs.Kept.{single_held, free_taken, plain_kept, hold_kept, one_up, hold_up_to_kept, ended_kept}

abbrev Taking : Type 0
Taking = ℕ → Option (Option TxnId)

abbrev Up : Type 0
Up = Option (ℕ × TxnId)

some_one : {V : Type 0} (x y : V) → Some x ≡ Some y → x ≡ y
some_one x y h = cc

none_some : {V : Type 0} (v : V) (o : Option V) → o ≡ None → o ≡ Some v → ⊥
none_some v o h k = cc

-- ---- Places of an entry.

rises_pairs : (ps : List ℕ) → AllPairs (λ (j k : ℕ). j < k) ps → Rises ps
rises_pairs [] h = tt
rises_pairs (p ∷ ps) h = (λ k d lt. h 0 (suc k) d (omega arith) (omega (arith, lt)), rises_pairs ps (λ i j d lt within. h (suc i) (suc j) d (omega (arith, lt)) (omega (arith, within))))

pub plain_rises : (e : AckEntry) (ps : List ℕ) → e ≡ ack.Plain ps → IsAckEntry e → Rises ps
plain_rises e ps kind fits = let are : IsAckEntry (ack.Plain ps) = subst IsAckEntry kind fits in rises_pairs ps (AllPairs-from_increasing ps are.ascending)

pub hold_rises : (e : AckEntry) (x : TxnId) (ps : List ℕ) → e ≡ ack.Hold x ps → IsAckEntry e → Rises ps
hold_rises e x ps kind fits = let are : IsAckEntry (ack.Hold x ps) = subst IsAckEntry kind fits in rises_pairs ps (AllPairs-from_increasing ps are.1.ascending)

allowed_kind : (a front : List AckEntry) (e k : AckEntry) → a ≡ front → e ≡ k → ack_allows front e ≡ true → ack_allows a k ≡ true
allowed_kind a front e k same kind allowed = subst (λ j. ack_allows a j ≡ true) kind (ap (λ l. ack_allows l e) same ∙ allowed)

-- ---- The steps.

module _ (a front a' : List AckEntry) (e : AckEntry) (t t' : Taking) (up : Up) (rows rows' : TxnId → List ℕ) (ends : TxnId → Option Decision) (held held' : ℕ)
    (same : a ≡ front) (fits : IsAckEntry e) (allowed : ack_allows front e ≡ true) (more : a' ≡ a ++ e ∷ []) (is : IsHolds a t up rows ends held) where
  pub plain_step : (ps : List ℕ) → e ≡ ack.Plain ps → ((q : ℕ) → t' q ≡ set_each t ps (Some None) q) → IsHolds a' t' up rows ends held
  plain_step ps kind new =
      let may = allowed_kind a front e (ack.Plain ps) same kind allowed in
      subst (λ l. IsHolds l t' up rows ends held) (sym (more ∙ ap (λ k. a ++ k ∷ []) kind))
      (plain_kept a (ack.Plain ps) (has ps) (plain_adds a ps may) t t' up rows ends held is (subst IsAckEntry kind fits) may (λ x. refl) (λ l. refl) new)

  pub up_to_step : (c : ℕ) → e ≡ ack.PlainUpTo c → ((q : ℕ) → t' q ≡ up_to t c q) → IsHolds a' t' up rows ends held
  up_to_step c kind new =
      let may = allowed_kind a front e (ack.PlainUpTo c) same kind allowed in
      subst (λ l. IsHolds l t' up rows ends held) (sym (more ∙ ap (λ k. a ++ k ∷ []) kind))
      (plain_kept a (ack.PlainUpTo c) (λ q. nat_le q c) (up_to_adds a c may) t t' up rows ends held is (subst IsAckEntry kind fits) may (λ x. refl) (λ l. refl) new)

  pub hold_step : (x : TxnId) (ps : List ℕ) → e ≡ ack.Hold x ps → ((q : ℕ) → t' q ≡ set_each t ps (Some (Some x)) q) → ((y : TxnId) → rows' y ≡ row_grown rows x ps y) → held' ≡ held + length ps → IsHolds a' t' up rows' ends held'
  hold_step x ps kind new grown count =
      let may = allowed_kind a front e (ack.Hold x ps) same kind allowed in
      subst (λ l. IsHolds l t' up rows' ends held') (sym (more ∙ ap (λ k. a ++ k ∷ []) kind))
      (hold_kept a x ps t t' up rows rows' ends held held' is (subst IsAckEntry kind fits) may new grown count)

  pub plain_open : (ps : List ℕ) → e ≡ ack.Plain ps → (q : ℕ) → has ps q ≡ true → t q ≡ None
  plain_open ps kind q h = let free = plain_free a ps (allowed_kind a front e (ack.Plain ps) same kind allowed) q h in free_taken a t up rows ends held is q free.0 free.1

  pub hold_open : (x : TxnId) (ps : List ℕ) → e ≡ ack.Hold x ps → (q : ℕ) → has ps q ≡ true → t q ≡ None
  hold_open x ps kind q h = let free = hold_free a x ps (allowed_kind a front e (ack.Hold x ps) same kind allowed) q h in free_taken a t up rows ends held is q free.0 free.1

  pub hold_up_to_step : (x : TxnId) (c last : ℕ) → e ≡ ack.HoldUpTo x c → last ≡ raised up c → IsHolds a' t (Some (last, x)) rows ends held
  hold_up_to_step x c last kind is_last =
      let may = allowed_kind a front e (ack.HoldUpTo x c) same kind allowed in
      subst (λ l. IsHolds l t (Some (last, x)) rows ends held) (sym (more ∙ ap (λ k. a ++ k ∷ []) kind))
      (hold_up_to_kept a x c t up rows ends held is (subst IsAckEntry kind fits) may last (upper up refl) (λ u y k. old u y k) (λ q le. either may q le up refl))
    where
      upper : (o : Up) → up ≡ o → c ≤ last
      upper None k = let l = is_last ∙ ap (λ o. raised o c) k in omega (arith, l)
      upper (Some p) k = let l = is_last ∙ ap (λ o. raised o c) k in omega (arith, l)

      old : (u : ℕ) (y : TxnId) → up ≡ Some (u, y) → u ≤ last
      old u y k = let l = is_last ∙ ap (λ o. raised o c) k in omega (arith, l)

      either : ack_allows a (ack.HoldUpTo x c) ≡ true → (q : ℕ) → q ≤ last → (o : Up) → up ≡ o → (q ≤ c) ⊎ (holder_up_to up q ≡ Some x)
      either may q le None k = let l = is_last ∙ ap (λ o. raised o c) k in inl (omega (arith, l, le))
      either may q le (Some p) k = let l = is_last ∙ ap (λ o. raised o c) k in ⊎_elim
          (λ lt. inr (ap (λ o. holder_up_to o q) k ∙ ap (λ b. if b then Some p.1 else None) (le_true q p.0 (omega (arith, l, le, lt))) ∙ ap Some (one_up a x c t up rows ends held is (subst IsAckEntry kind fits) may p.0 p.1 k)))
          (λ ge. inl ge)
          (cases_lt c q)

-- Nothing changes where places are taken as before, and the rows are the same.
pub same_step : (a : List AckEntry) (t t' : Taking) (up : Up) (rows rows' : TxnId → List ℕ) (ends : TxnId → Option Decision) (held : ℕ) → ((q : ℕ) → t' q ≡ t q) → ((x : TxnId) → rows' x ≡ rows x)
    → IsHolds a t up rows ends held → IsHolds a t' up rows' ends held
same_step a t t' up rows rows' ends held taken row is = record {
  lawful = is.lawful;
  each = is.each;
  acked = λ q. is.acked q ∙ sym (ap is_ack (taken q));
  holder = λ q. is.holder q ∙ sym (ap (holder_at up q) (taken q));
  whole = is.whole;
  live = is.live;
  rows_are = λ x. row x ∙ is.rows_are x;
  singles = λ x q. is.singles x q ∙ sym (ap (is_single x) (taken q));
  marked = is.marked;
  held_is = is.held_is;
}

-- Places that weren't taken are let go again.
pub put_back : (t t' t'' : Taking) (ps : List ℕ) (x : TxnId) → ((q : ℕ) → has ps q ≡ true → t q ≡ None) → ((q : ℕ) → t' q ≡ set_each t ps (Some (Some x)) q) → ((q : ℕ) → t'' q ≡ set_each t' ps None q) → (q : ℕ) → t'' q ≡ t q
put_back t t' t'' ps x free put gone q = by_has (has ps q) refl
  where
    by_has : (b : Bool) → has ps q ≡ b → t'' q ≡ t q
    by_has true e = gone q ∙ ap (λ b. if b then None else t' q) e ∙ sym (free q e)
    by_has false e = gone q ∙ ap (λ b. if b then None else t' q) e ∙ put q ∙ ap (λ b. if b then Some (Some x) else t q) e

pub just_put : (t t' : Taking) (ps : List ℕ) (x : TxnId) → ((q : ℕ) → t' q ≡ set_each t ps (Some (Some x)) q) → (q : ℕ) → has ps q ≡ true → t' q ≡ Some (Some x)
just_put t t' ps x put q h = put q ∙ ap (λ b. if b then Some (Some x) else t q) h

-- ---- A marker.

marker_ends : (a : List AckEntry) (x : TxnId) (d : Decision) → ack_allows a (ack_marker x d) ≡ true → Ends a (ack_marker x d) x d
marker_ends a x Commit may = commit_ends a x may
marker_ends a x Abort may = abort_ends a x may

marker_fits : (x : TxnId) (d : Decision) → IsTxnId x → IsAckEntry (ack_marker x d)
marker_fits x Commit fits = fits
marker_fits x Abort fits = fits

left_is : (d : Decision) → left_by d ≡ (if is_commit (Some d) then Some None else None)
left_is Commit = refl
left_is Abort = refl

module _ (a front : List AckEntry) (t : Taking) (up : Up) (rows : TxnId → List ℕ) (ends : TxnId → Option Decision) (held : ℕ) (x : TxnId) (d : Decision)
    (same : a ≡ front) (fits : IsTxnId x) (allowed : ack_allows front (ack_marker x d) ≡ true) (is : IsHolds a t up rows ends held) where
  may : ack_allows a (ack_marker x d) ≡ true
  may = ap (λ l. ack_allows l (ack_marker x d)) same ∙ allowed

  pub row_within : length (rows x) ≤ held
  row_within = let c = count_ends a (ack_marker x d) x d (marker_ends a x d may) in let h = is.held_is in let r = ap length (is.rows_are x) in omega (arith, c, h, r)

  module _ (t1 t2 : Taking) (row_new : (q : ℕ) → t1 q ≡ set_each t (rows x) (left_by d) q) (up_new : (q : ℕ) → t2 q ≡ after_up (own_up x up) d t1 q) where
    -- what x held by itself, and what it didn't
    in_row : (q : ℕ) → has (rows x) q ≡ true → t1 q ≡ left_by d
    in_row q h = row_new q ∙ ap (λ b. if b then left_by d else t q) h

    out_row : (q : ℕ) → has (rows x) q ≡ false → t1 q ≡ t q
    out_row q h = row_new q ∙ ap (λ b. if b then left_by d else t q) h

    row_held : (q : ℕ) → has (rows x) q ≡ true → holder_of a q ≡ Some x
    row_held q h = is.holder q ∙ ap (holder_at up q) (single_held a t up rows ends held is x q h)

    not_in_row : (q : ℕ) → is_held_by x (holder_of a q) ≡ false → has (rows x) q ≡ false
    not_in_row q no_x = ⊎_elim (λ h. absurd (true≢false (sym (same_self x) ∙ ap (is_held_by x) (sym (row_held q h)) ∙ no_x))) (λ h. h) (tested (rows x) q)

    held_row : (q : ℕ) → t q ≡ Some (Some x) → has (rows x) q ≡ true
    held_row q h = ap (λ l. has l q) (is.rows_are x) ∙ is.singles x q ∙ ap (is_single x) h ∙ same_self x

    own : (u : ℕ) (y : TxnId) → up ≡ Some (u, y) → same_txn x y ≡ true → own_up x up ≡ Some u
    own u y k s = ap (own_up x) k ∙ ap (λ b. if b then Some u else None) s

    -- where nothing of x is pending up to a place
    stays : (q : ℕ) → is_held_by x (holder_of a q) ≡ false → t2 q ≡ t q
    stays q no_x = up_new q ∙ by_up (own_up x up) refl
      where
        acked_now : is_acked a q ≡ true → t q ≡ Some None
        acked_now h = by_taken (t q) refl
          where
            by_taken : (m : Option (Option TxnId)) → t q ≡ m → t q ≡ Some None
            by_taken None k = absurd (true≢false (sym h ∙ is.acked q ∙ ap is_ack k))
            by_taken (Some None) k = k
            by_taken (Some (Some y)) k = absurd (true≢false (sym h ∙ is.acked q ∙ ap is_ack k))

        covered : (u : ℕ) → own_up x up ≡ Some u → q ≤ u → t q ≡ Some None
        covered u k le = by_acked (is_acked a q) refl up refl
          where
            by_acked : (b : Bool) → is_acked a q ≡ b → (o : Up) → up ≡ o → t q ≡ Some None
            by_acked true h o l = acked_now h
            by_acked false h None l = absurd (none_some u None refl (sym (ap (own_up x) l) ∙ k))
            by_acked false h (Some p) l = by_same (same_txn x p.1) refl
              where
                by_same : (b : Bool) → same_txn x p.1 ≡ b → t q ≡ Some None
                by_same true s =
                    let u_is : p.0 ≡ u = some_one p.0 u (sym (own p.0 p.1 l s) ∙ k) in
                    absurd (true≢false (sym s ∙ ap (is_held_by x) (sym (is.whole p.0 p.1 l q (omega (arith, le, u_is)) h)) ∙ no_x))
                by_same false s = absurd (none_some u None refl (sym (ap (own_up x) l ∙ ap (λ b. if b then Some p.0 else None) s) ∙ k))

        by_up : (o : Option ℕ) → own_up x up ≡ o → after_up (own_up x up) d t1 q ≡ t q
        by_up None k = ap (λ o. after_up o d t1 q) k ∙ out_row q (not_in_row q no_x)
        by_up (Some u) k = ap (λ o. after_up o d t1 q) k ∙ by_decision d
          where
            by_decision : (c : Decision) → after_up (Some u) c t1 q ≡ t q
            by_decision Abort = out_row q (not_in_row q no_x)
            by_decision Commit = ⊎_elim
                (λ lt. ap (λ b. if b then Some None else t1 q) (le_false q u lt) ∙ out_row q (not_in_row q no_x))
                (λ ge. ap (λ b. if b then Some None else t1 q) (le_true q u ge) ∙ sym (covered u k ge))
                (cases_lt u q)

    -- what x held is acknowledged or let go
    goes : (q : ℕ) → is_held_by x (holder_of a q) ≡ true → t2 q ≡ left_by d
    goes q of_x = up_new q ∙ by_taken (t q) refl
      where
        after_left : (o : Option ℕ) (c : Decision) (s : Taking) → s q ≡ left_by c → after_up o c s q ≡ left_by c
        after_left None c s h = h
        after_left (Some u) Abort s h = h
        after_left (Some u) Commit s h = pick (nat_le q u)
          where
            pick : (b : Bool) → (if b then Some None else s q) ≡ Some None
            pick true = refl
            pick false = h

        owner_x : (o : Option TxnId) → holder_of a q ≡ o → o ≡ Some x
        owner_x None h = absurd (true≢false (sym of_x ∙ ap (is_held_by x) h))
        owner_x (Some y) h = ap Some (sym (same_equal x y (ap (is_held_by x) (sym h) ∙ of_x)))

        by_taken : (m : Option (Option TxnId)) → t q ≡ m → after_up (own_up x up) d t1 q ≡ left_by d
        by_taken (Some None) k = absurd (none_some x None refl (sym (is.holder q ∙ ap (holder_at up q) k) ∙ owner_x (holder_of a q) refl))
        by_taken (Some (Some y)) k =
            let y_is : y ≡ x = some_one y x (sym (is.holder q ∙ ap (holder_at up q) k) ∙ owner_x (holder_of a q) refl) in
            after_left (own_up x up) d t1 (in_row q (held_row q (k ∙ ap (λ z. Some (Some z)) y_is)))
        by_taken None k = by_up up refl (sym (is.holder q ∙ ap (holder_at up q) k) ∙ owner_x (holder_of a q) refl)
          where
            no_row : has (rows x) q ≡ false
            no_row = ⊎_elim (λ h. absurd (none_some (Some x) (t q) k (single_held a t up rows ends held is x q h))) (λ h. h) (tested (rows x) q)

            by_decision : (u : ℕ) (c : Decision) (s : Taking) → q ≤ u → s q ≡ None → after_up (Some u) c s q ≡ left_by c
            by_decision u Commit s le h = ap (λ b. if b then Some None else s q) (le_true q u le)
            by_decision u Abort s le h = h

            by_up : (o : Up) → up ≡ o → holder_up_to up q ≡ Some x → after_up (own_up x up) d t1 q ≡ left_by d
            by_up None l h = absurd (none_some x None refl (sym (ap (λ o. holder_up_to o q) l) ∙ h))
            by_up (Some p) l h = by_le (nat_le q p.0) refl
              where
                by_le : (b : Bool) → nat_le q p.0 ≡ b → after_up (own_up x up) d t1 q ≡ left_by d
                by_le true m =
                    let y_is : p.1 ≡ x = some_one p.1 x (sym (ap (λ o. holder_up_to o q) l ∙ ap (λ b. if b then Some p.1 else None) m) ∙ h) in
                    ap (λ o. after_up o d t1 q) (own p.0 p.1 l (ap (same_txn x) y_is ∙ same_self x)) ∙ by_decision p.0 d t1 (true_le q p.0 m) (out_row q no_row ∙ k)
                by_le false m = absurd (none_some x None refl (sym (ap (λ o. holder_up_to o q) l ∙ ap (λ b. if b then Some p.1 else None) m) ∙ h))

    ended : (q : ℕ) → t2 q ≡ (if is_held_by x (holder_of a q) then (if is_commit (Some d) then Some None else None) else t q)
    ended q = by_held (is_held_by x (holder_of a q)) refl
      where
        by_held : (b : Bool) → is_held_by x (holder_of a q) ≡ b → t2 q ≡ (if b then (if is_commit (Some d) then Some None else None) else t q)
        by_held true e = goes q e ∙ left_is d
        by_held false e = stays q e

    left_was : (up' : Up) → up' ≡ left_up x up → (u : ℕ) (y : TxnId) → up' ≡ Some (u, y) → (up ≡ Some (u, y)) × (same_txn x y ≡ false)
    left_was up' left u y k = by_up up refl
      where
        by_up : (o : Up) → up ≡ o → (up ≡ Some (u, y)) × (same_txn x y ≡ false)
        by_up None l = absurd (none_some (u, y) None refl (sym (left ∙ ap (left_up x) l) ∙ k))
        by_up (Some p) l = by_same (same_txn x p.1) refl
          where
            by_same : (b : Bool) → same_txn x p.1 ≡ b → (up ≡ Some (u, y)) × (same_txn x y ≡ false)
            by_same true s = absurd (none_some (u, y) None refl (sym (left ∙ ap (left_up x) l ∙ ap (λ b. if b then None else Some p) s) ∙ k))
            by_same false s =
                let p_is : p ≡ (u, y) = some_one p (u, y) (sym (left ∙ ap (left_up x) l ∙ ap (λ b. if b then None else Some p) s) ∙ k) in
                (l ∙ ap Some p_is, ap (λ r. same_txn x r.1) (sym p_is) ∙ s)

    left_holder : (up' : Up) → up' ≡ left_up x up → (q : ℕ) → holder_up_to up' q ≡ without x (holder_up_to up q)
    left_holder up' left q = ap (λ o. holder_up_to o q) left ∙ by_up up
      where
        by_up : (o : Up) → holder_up_to (left_up x o) q ≡ without x (holder_up_to o q)
        by_up None = refl
        by_up (Some p) = by_le (same_txn x p.1) (nat_le q p.0) refl
          where
            by_le : (b c : Bool) → same_txn x p.1 ≡ b → holder_up_to (if b then None else Some p) q ≡ without x (if nat_le q p.0 then Some p.1 else None)
            by_le true c s = by_test (nat_le q p.0)
              where
                by_test : (e : Bool) → None ≡ without x (if e then Some p.1 else None)
                by_test true = ap (λ b. if b then None else Some p.1) (sym s)
                by_test false = refl
            by_le false c s = by_test (nat_le q p.0)
              where
                by_test : (e : Bool) → (if e then Some p.1 else None) ≡ without x (if e then Some p.1 else None)
                by_test true = ap (λ b. if b then None else Some p.1) (sym s)
                by_test false = refl

    pub marker_step : (a' : List AckEntry) (n : AckEntry) (up' : Up) (rows' : TxnId → List ℕ) (ends' : TxnId → Option Decision) (held' count : ℕ) → a' ≡ a ++ n ∷ [] → n ≡ ack_marker x d → up' ≡ left_up x up
        → ((y : TxnId) → rows' y ≡ row_ended rows x y) → ((y : TxnId) → ends' y ≡ cond (same_key (key_of x) (key_of y)) (Some d) (ends y)) → count ≡ length (rows x) → held' ≡ held - count → IsHolds a' t2 up' rows' ends' held'
    marker_step a' n up' rows' ends' held' count more kind left row end counted less =
        let within = row_within in
        subst (λ l. IsHolds l t2 up' rows' ends' held') (sym (more ∙ ap (λ k. a ++ k ∷ []) kind))
        (ended_kept a (ack_marker x d) x d (marker_ends a x d may) t t2 up up' rows rows' ends ends' held held' is (marker_fits x d fits) may ended (left_was up' left) (left_holder up' left) row
        (λ y. end y ∙ pick (same_txn x y) (ends y)) (omega (arith, within, counted, less)))
      where
        pick : (b : Bool) (o : Option Decision) → cond b (Some d) o ≡ (if b then Some d else o)
        pick true o = refl
        pick false o = refl
