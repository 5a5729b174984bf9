-- What one entry more means for the entries before it.
use Rattle.std.proofs.Common.{◌≡◌, ℕ, ◌+◌, ◌==◌, eqb-true, eq-eqb, Bool, true, false, ◌&&◌, ◌||◌, if◌then◌else◌, List, [], ◌∷◌, ◌++◌, length, Some, None, refl, sym, ap, ◌∙◌, true≢false, arith}
use Rattle.std.specs.Prelude.{Option, is_none}
use Rattle.std.specs.Option.{option_or}
use Rattle.txn_base.specs.declared.txn.TxnId.{TxnId}
use Rattle.txn_base.specs.declared.txn.Decision.{Decision}
use Rattle.txn_base.specs.declared.core_entry.CoreEntry.TheVariants as core
use Rattle.txn_base.specs.declared.entry.AckEntry.{AckEntry}
use Rattle.txn_base.specs.declared.entry.AckEntry.TheVariants as ack
use Rattle.txn_model.specs.Skeletons.{same_txn, ack_skeleton, ack_skeletons}
use Rattle.txn_model.specs.Topic.{marks, marker_of}
use Rattle.txn_model.specs.Ack.{covers, is_commit, counts, pending, held_by, is_held_by}
use Rattle.txn_model.proofs.Laws.Lists.{first_of-append, map_append}
use Rattle.txn_holds.specs.Holds.{listed, without}

-- ---- Transactions.

pub same_equal : (x y : TxnId) → same_txn x y ≡ true → x ≡ y
same_equal x y h = both (x.most == y.most) (x.least == y.least) refl refl h
  where
    make : {m m' l l' : ℕ} → m ≡ m' → l ≡ l' → (let one : TxnId = record { most = m; least = l } in one) ≡ record { most = m'; least = l' }
    make e f = λ i. record { most = e i; least = f i }

    both : (a b : Bool) → (x.most == y.most) ≡ a → (x.least == y.least) ≡ b → (a && b) ≡ true → x ≡ y
    both true true e f k = make (eqb-true x.most y.most e) (eqb-true x.least y.least f)
    both true false e f k = absurd (true≢false (sym k))
    both false b e f k = absurd (true≢false (sym k))

pub same_self : (x : TxnId) → same_txn x x ≡ true
same_self x = both (x.most == x.most) (x.least == x.least) (eq-eqb x.most x.most refl) (eq-eqb x.least x.least refl)
  where
    both : (a b : Bool) → a ≡ true → b ≡ true → (a && b) ≡ true
    both true true h k = refl
    both true false h k = absurd (true≢false (sym k))
    both false b h k = absurd (true≢false (sym h))

-- ---- Markers.

abbrev pub mark : List AckEntry → TxnId → Option Decision
mark a x = marker_of (ack_skeletons a) x

or_none : {V : Type 0} (o : Option V) → option_or o None ≡ o
or_none None = refl
or_none (Some d) = refl

pub marker_push : (a : List AckEntry) (n : AckEntry) (x : TxnId) → mark (a ++ n ∷ []) x ≡ option_or (mark a x) (marks x (ack_skeleton n))
marker_push a n x =
    ap (λ l. marker_of l x) (map_append ack_skeleton a (n ∷ [])) ∙ first_of-append (marks x) (ack_skeletons a) (ack_skeleton n ∷ [])
    ∙ ap (option_or (mark a x)) (or_none (marks x (ack_skeleton n)))

-- An entry that is no marker.
abbrev pub Quiet : AckEntry → Type 0
Quiet n = (x : TxnId) → marks x (ack_skeleton n) ≡ None

pub quiet_marks : (a : List AckEntry) (n : AckEntry) → Quiet n → (x : TxnId) → mark (a ++ n ∷ []) x ≡ mark a x
quiet_marks a n quiet x = marker_push a n x ∙ ap (option_or (mark a x)) (quiet x) ∙ or_none (mark a x)

-- An entry that is the first marker of x.
pub record Ends (a : List AckEntry) (n : AckEntry) (x : TxnId) (d : Decision) : Type 0 where
  pub kind : ack_skeleton n ≡ core.Marker x d
  pub first : mark a x ≡ None
  pub blank : (q : ℕ) → covers n q ≡ false
  pub lists : (y : TxnId) → listed y n ≡ []
  pub counted : held_by (a ++ n ∷ []) n ≡ 0

pub ends_marks : (a : List AckEntry) (n : AckEntry) (x : TxnId) (d : Decision) → Ends a n x d → (y : TxnId) → mark (a ++ n ∷ []) y ≡ (if same_txn x y then Some d else mark a y)
ends_marks a n x d is y = marker_push a n y ∙ ap (λ s. option_or (mark a y) (marks y s)) is.kind ∙ by_test (same_txn x y) (same_txn y x) refl refl
  where
    by_test : (b c : Bool) → same_txn x y ≡ b → same_txn y x ≡ c → option_or (mark a y) (if c then Some d else None) ≡ (if b then Some d else mark a y)
    by_test true true e f = ap (λ o. option_or o (Some d)) (ap (mark a) (sym (same_equal x y e)) ∙ is.first)
    by_test true false e f = absurd (true≢false (sym (same_self x) ∙ ap (λ z. same_txn z x) (same_equal x y e) ∙ f))
    by_test false true e f = absurd (true≢false (sym (same_self y) ∙ ap (λ z. same_txn z y) (same_equal y x f) ∙ e))
    by_test false false e f = or_none (mark a y)

-- ---- What entries before a quiet one are still.

module _ (a : List AckEntry) (n : AckEntry) (quiet : Quiet n) where
  pub quiet_counts : (e : AckEntry) → counts (a ++ n ∷ []) e ≡ counts a e
  quiet_counts (ack.Plain ps) = refl
  quiet_counts (ack.PlainUpTo p) = refl
  quiet_counts (ack.Hold x ps) = ap is_commit (quiet_marks a n quiet x)
  quiet_counts (ack.HoldUpTo x p) = ap is_commit (quiet_marks a n quiet x)
  quiet_counts (ack.Commit x) = refl
  quiet_counts (ack.Abort x) = refl

  pub quiet_pending : (e : AckEntry) → pending (a ++ n ∷ []) e ≡ pending a e
  quiet_pending (ack.Plain ps) = refl
  quiet_pending (ack.PlainUpTo p) = refl
  quiet_pending (ack.Hold x ps) = ap (λ o. if is_none o then Some x else None) (quiet_marks a n quiet x)
  quiet_pending (ack.HoldUpTo x p) = ap (λ o. if is_none o then Some x else None) (quiet_marks a n quiet x)
  quiet_pending (ack.Commit x) = refl
  quiet_pending (ack.Abort x) = refl

  pub quiet_held : (e : AckEntry) → held_by (a ++ n ∷ []) e ≡ held_by a e
  quiet_held (ack.Plain ps) = refl
  quiet_held (ack.PlainUpTo p) = refl
  quiet_held (ack.Hold x ps) = ap (λ o. if is_none o then length ps else 0) (quiet_marks a n quiet x)
  quiet_held (ack.HoldUpTo x p) = refl
  quiet_held (ack.Commit x) = refl
  quiet_held (ack.Abort x) = refl

-- ---- What entries before a marker are then.

module _ (a : List AckEntry) (n : AckEntry) (x : TxnId) (d : Decision) (is : Ends a n x d) where
  -- by the test of x, and by what the marker of another is
  commits : (y : TxnId) → is_commit (mark (a ++ n ∷ []) y) ≡ (is_commit (mark a y) || (is_commit (Some d) && is_held_by x (if is_none (mark a y) then Some y else None)))
  commits y = ap is_commit (ends_marks a n x d is y) ∙ by_test (same_txn x y) refl
    where
      and_false : (b : Bool) → (b && false) ≡ false
      and_false true = refl
      and_false false = refl

      or_false : (b : Bool) → (b || false) ≡ b
      or_false true = refl
      or_false false = refl

      and_true : (b : Bool) → (b && true) ≡ b
      and_true true = refl
      and_true false = refl

      other : (o : Option Decision) → same_txn x y ≡ false → is_held_by x (if is_none o then Some y else None) ≡ false
      other None e = e
      other (Some e') e = refl

      by_test : (b : Bool) → same_txn x y ≡ b → is_commit (if b then Some d else mark a y) ≡ (is_commit (mark a y) || (is_commit (Some d) && is_held_by x (if is_none (mark a y) then Some y else None)))
      by_test true e =
          let none : mark a y ≡ None = ap (mark a) (sym (same_equal x y e)) ∙ is.first in
          sym (ap (λ o. is_commit o || (is_commit (Some d) && is_held_by x (if is_none o then Some y else None))) none ∙ ap (λ b. is_commit (Some d) && b) e ∙ and_true (is_commit (Some d)))
      by_test false e = sym (ap (λ b. is_commit (mark a y) || (is_commit (Some d) && b)) (other (mark a y) e) ∙ ap (λ b. is_commit (mark a y) || b) (and_false (is_commit (Some d))) ∙ or_false (is_commit (mark a y)))

  pends : (y : TxnId) → (if is_none (mark (a ++ n ∷ []) y) then Some y else None) ≡ without x (if is_none (mark a y) then Some y else None)
  pends y = ap (λ o. if is_none o then Some y else None) (ends_marks a n x d is y) ∙ by_test (same_txn x y) refl
    where
      gone : (o : Option Decision) → same_txn x y ≡ true → None ≡ without x (if is_none o then Some y else None)
      gone None e = ap (λ b. if b then None else Some y) (sym e)
      gone (Some d') e = refl

      stays : (o : Option Decision) → same_txn x y ≡ false → (if is_none o then Some y else None) ≡ without x (if is_none o then Some y else None)
      stays None e = ap (λ b. if b then None else Some y) (sym e)
      stays (Some d') e = refl

      by_test : (b : Bool) → same_txn x y ≡ b → (if is_none (if b then Some d else mark a y) then Some y else None) ≡ without x (if is_none (mark a y) then Some y else None)
      by_test true e = gone (mark a y) e
      by_test false e = stays (mark a y) e

  none_more : (b : Bool) (c : Bool) → c ≡ (c || (b && false))
  none_more true true = refl
  none_more true false = refl
  none_more false true = refl
  none_more false false = refl

  pub ends_counts : (e : AckEntry) → counts (a ++ n ∷ []) e ≡ (counts a e || (is_commit (Some d) && is_held_by x (pending a e)))
  ends_counts (ack.Plain ps) = refl
  ends_counts (ack.PlainUpTo p) = refl
  ends_counts (ack.Hold y ps) = commits y
  ends_counts (ack.HoldUpTo y p) = commits y
  ends_counts (ack.Commit y) = none_more (is_commit (Some d)) false
  ends_counts (ack.Abort y) = none_more (is_commit (Some d)) false

  pub ends_pending : (e : AckEntry) → pending (a ++ n ∷ []) e ≡ without x (pending a e)
  ends_pending (ack.Plain ps) = refl
  ends_pending (ack.PlainUpTo p) = refl
  ends_pending (ack.Hold y ps) = pends y
  ends_pending (ack.HoldUpTo y p) = pends y
  ends_pending (ack.Commit y) = refl
  ends_pending (ack.Abort y) = refl

  pub ends_held : (e : AckEntry) → held_by (a ++ n ∷ []) e + length (listed x e) ≡ held_by a e
  ends_held (ack.Plain ps) = refl
  ends_held (ack.PlainUpTo p) = refl
  ends_held (ack.Hold y ps) = ap (λ o. (if is_none o then length ps else 0) + length (if same_txn x y then ps else [])) (ends_marks a n x d is y) ∙ by_test (same_txn x y) refl
    where
      add_none : (k : ℕ) → k + 0 ≡ k
      add_none k = omega arith

      zero_more : (k : ℕ) → 0 + k ≡ k
      zero_more k = omega arith

      by_test : (b : Bool) → same_txn x y ≡ b → (if is_none (if b then Some d else mark a y) then length ps else 0) + length (if b then ps else []) ≡ (if is_none (mark a y) then length ps else 0)
      by_test true e = zero_more (length ps) ∙ ap (λ o. if is_none o then length ps else 0) (sym (ap (mark a) (sym (same_equal x y e)) ∙ is.first))
      by_test false e = add_none (if is_none (mark a y) then length ps else 0)
  ends_held (ack.HoldUpTo y p) = refl
  ends_held (ack.Commit y) = refl
  ends_held (ack.Abort y) = refl
