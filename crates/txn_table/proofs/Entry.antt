-- What one entry more says of a transaction.
use Rattle.std.proofs.Common.{◌≡◌, ℕ, ◌*◌, ◌%◌, ◌^◌, ◌<◌, ◌==◌, eqb-true, eq-eqb, w64, arith, Bool, true, false, ◌&&◌, ◌||◌, if◌then◌else◌, List, [], ◌∷◌, ◌++◌, Some, None, refl, sym, ap, ◌∙◌, subst, true≢false}
use Rattle.std.specs.Prelude.{Option, unwrap_or, bit_or}
use Rattle.std.specs.Option.{option_or}
use Rattle.std.specs.Int.{bit_at}
use Rattle.std.proofs.lemmas.List.{map-append}
use Rattle.std.proofs.lemmas.List.Folds.{list_any-append}
use Rattle.std.proofs.lemmas.Nat.Bits.{bit_at_set_same, bit_at_set_other, bit_at-zero}
use Rattle.txn_base.specs.declared.txn.TxnId.{TxnId}
use Rattle.txn_base.specs.declared.txn.Decision.TheVariants.{Commit, Abort}
use Rattle.txn_base.specs.declared.txn.Status.{Status}
use Rattle.txn_base.specs.declared.txn.Status.TheVariants.{Open, Committing, Committed, Aborting, Aborted}
use Rattle.txn_base.specs.declared.entry.CoordEntry.{CoordEntry}
use Rattle.txn_base.specs.declared.entry.CoordEntry.TheVariants as coord
use Rattle.txn_base.specs.declared.core_entry.CoreEntry.{CoreEntry}
use Rattle.txn_base.specs.Records.{IsCoordEntry}
use Rattle.txn_model.specs.Words.{first_of, last_of}
use Rattle.txn_model.specs.Skeletons.{same_txn, coord_skeleton, coord_skeletons}
use Rattle.txn_model.specs.Coord.{has_new, is_new, is_add, says_status, status_of, in_parts, is_open, is_deciding, coord_allows}
use Rattle.txn_model.specs.Deadlines.{says_deadline}
use Rattle.txn_model.proofs.Laws.Lists.{first_of-append}
use Rattle.txn_table.specs.declared.row.Row.{Row}
use Rattle.txn_table.specs.Table.{IsRow, IsBlank, IsRowOf, txn_in, row_after, row_grown, row_with}

-- ---- One entry more, in each of the words.

pub skeletons-push : (c : List CoordEntry) (e : CoordEntry) → coord_skeletons (c ++ e ∷ []) ≡ coord_skeletons c ++ coord_skeleton e ∷ []
skeletons-push c e = map-append coord_skeleton c (e ∷ [])

or_nothing : (a b : Bool) → (a || (b || false)) ≡ (a || b)
or_nothing true b = refl
or_nothing false true = refl
or_nothing false false = refl

pub has_new-push : (c : List CoordEntry) (e : CoordEntry) (x : TxnId) → has_new (coord_skeletons (c ++ e ∷ [])) x ≡ (has_new (coord_skeletons c) x || is_new x (coord_skeleton e))
has_new-push c e x =
    ap (λ l. has_new l x) (skeletons-push c e) ∙ list_any-append (is_new x) (coord_skeletons c) (coord_skeleton e ∷ []) ∙ or_nothing (has_new (coord_skeletons c) x) (is_new x (coord_skeleton e))

pub in_parts-push : (c : List CoordEntry) (e : CoordEntry) (x : TxnId) (p : ℕ) → in_parts (coord_skeletons (c ++ e ∷ [])) x p ≡ (in_parts (coord_skeletons c) x p || is_add x p (coord_skeleton e))
in_parts-push c e x p =
    ap (λ l. in_parts l x p) (skeletons-push c e) ∙ list_any-append (is_add x p) (coord_skeletons c) (coord_skeleton e ∷ [])
    ∙ or_nothing (in_parts (coord_skeletons c) x p) (is_add x p (coord_skeleton e))

last_of-push : {E V : Type 0} (f : E → Option V) (xs : List E) (e : E) → last_of f (xs ++ e ∷ []) ≡ option_or (f e) (last_of f xs)
last_of-push f [] e = nothing_before (f e)
  where
    nothing_before : {V : Type 0} (o : Option V) → o ≡ option_or o None
    nothing_before None = refl
    nothing_before (Some v) = refl
last_of-push f (y ∷ xs) e = ap (λ o. option_or o (f y)) (last_of-push f xs e) ∙ three (f e) (last_of f xs) (f y)
  where
    three : {V : Type 0} (a b c : Option V) → option_or (option_or a b) c ≡ option_or a (option_or b c)
    three None b c = refl
    three (Some v) b c = refl

pub status-push : (c : List CoordEntry) (e : CoordEntry) (x : TxnId) → last_of (says_status x) (coord_skeletons (c ++ e ∷ [])) ≡ option_or (says_status x (coord_skeleton e)) (last_of (says_status x) (coord_skeletons c))
status-push c e x = ap (last_of (says_status x)) (skeletons-push c e) ∙ last_of-push (says_status x) (coord_skeletons c) (coord_skeleton e)

or_none : {V : Type 0} (o : Option V) → option_or o None ≡ o
or_none None = refl
or_none (Some v) = refl

pub deadline-push : (c : List CoordEntry) (e : CoordEntry) (x : TxnId) → first_of (says_deadline x) (c ++ e ∷ []) ≡ option_or (first_of (says_deadline x) c) (says_deadline x e)
deadline-push c e x = first_of-append (says_deadline x) c (e ∷ []) ∙ ap (option_or (first_of (says_deadline x) c)) (or_none (says_deadline x e))

-- ---- Equal transactions.

pub same_itself : (x : TxnId) → same_txn x x ≡ true
same_itself x = both (x.most == x.most) (x.least == x.least) (eqb_refl x.most) (eqb_refl x.least)
  where
    both : (a b : Bool) → a ≡ true → b ≡ true → (a && b) ≡ true
    both true true h k = refl
    both true false h k = absurd (true≢false (sym k))
    both false b h k = absurd (true≢false (sym h))

    eqb_refl : (n : ℕ) → (n == n) ≡ true
    eqb_refl n = eq-eqb n n refl

-- ---- An entry of another transaction.

other_new : (x : TxnId) (e : CoordEntry) → same_txn x (txn_in e) ≡ false → is_new x (coord_skeleton e) ≡ false
other_new x (coord.New y d) h = h
other_new x (coord.AddPart y p) h = refl
other_new x (coord.Committing y) h = refl
other_new x (coord.Committed y) h = refl
other_new x (coord.Aborting y) h = refl
other_new x (coord.Aborted y) h = refl

other_add : (x : TxnId) (e : CoordEntry) (p : ℕ) → same_txn x (txn_in e) ≡ false → is_add x p (coord_skeleton e) ≡ false
other_add x (coord.New y d) p h = refl
other_add x (coord.AddPart y q) p h = ap (λ b. b && (p == q)) h
other_add x (coord.Committing y) p h = refl
other_add x (coord.Committed y) p h = refl
other_add x (coord.Aborting y) p h = refl
other_add x (coord.Aborted y) p h = refl

other_status : (x : TxnId) (e : CoordEntry) → same_txn x (txn_in e) ≡ false → says_status x (coord_skeleton e) ≡ None
other_status x (coord.New y d) h = refl
other_status x (coord.AddPart y q) h = refl
other_status x (coord.Committing y) h = ap (λ b. if b then Some Committing else None) h
other_status x (coord.Committed y) h = ap (λ b. if b then Some Committed else None) h
other_status x (coord.Aborting y) h = ap (λ b. if b then Some Aborting else None) h
other_status x (coord.Aborted y) h = ap (λ b. if b then Some Aborted else None) h

other_deadline : (x : TxnId) (e : CoordEntry) → same_txn x (txn_in e) ≡ false → says_deadline x e ≡ None
other_deadline x (coord.New y d) h = ap (λ b. if b then Some d else None) h
other_deadline x (coord.AddPart y q) h = refl
other_deadline x (coord.Committing y) h = refl
other_deadline x (coord.Committed y) h = refl
other_deadline x (coord.Aborting y) h = refl
other_deadline x (coord.Aborted y) h = refl

or_false : (a b : Bool) → b ≡ false → (a || b) ≡ a
or_false true b h = refl
or_false false b h = h

module _ (c : List CoordEntry) (e : CoordEntry) (x : TxnId) (other : same_txn x (txn_in e) ≡ false) where
  begun_stays : has_new (coord_skeletons (c ++ e ∷ [])) x ≡ has_new (coord_skeletons c) x
  begun_stays = has_new-push c e x ∙ or_false (has_new (coord_skeletons c) x) (is_new x (coord_skeleton e)) (other_new x e other)

  status_stays : last_of (says_status x) (coord_skeletons (c ++ e ∷ [])) ≡ last_of (says_status x) (coord_skeletons c)
  status_stays = status-push c e x ∙ ap (λ o. option_or o (last_of (says_status x) (coord_skeletons c))) (other_status x e other)

  deadline_stays : first_of (says_deadline x) (c ++ e ∷ []) ≡ first_of (says_deadline x) c
  deadline_stays = deadline-push c e x ∙ ap (option_or (first_of (says_deadline x) c)) (other_deadline x e other) ∙ or_none (first_of (says_deadline x) c)

  parts_stay : (p : ℕ) → in_parts (coord_skeletons (c ++ e ∷ [])) x p ≡ in_parts (coord_skeletons c) x p
  parts_stay p = in_parts-push c e x p ∙ or_false (in_parts (coord_skeletons c) x p) (is_add x p (coord_skeleton e)) (other_add x e p other)

  -- its row stays
  pub row_stays : (row : Row) → IsRow c x row → IsRow (c ++ e ∷ []) x row
  row_stays row is = record {
    begun = begun_stays ∙ is.begun;
    status = ap (λ o. unwrap_or o Open) status_stays ∙ is.status;
    deadline = deadline_stays ∙ is.deadline;
    parts = λ p. is.parts p ∙ ap (λ b. if b then 1 else 0) (sym (parts_stay p));
  }

  -- and it stays blank
  pub blank_stays : IsBlank c x → IsBlank (c ++ e ∷ []) x
  blank_stays is = record {
    begun = begun_stays ∙ is.begun;
    status = status_stays ∙ is.status;
    deadline = deadline_stays ∙ is.deadline;
    parts = λ p. parts_stay p ∙ is.parts p;
  }

-- ---- An entry of the transaction itself.

or_same : (a b d : Bool) → b ≡ true → (a || (b && d)) ≡ (a || d)
or_same a true d h = refl
or_same a false d h = absurd (true≢false (sym h))

or_true : (a b : Bool) → b ≡ true → (a || b) ≡ true
or_true true b h = refl
or_true false b h = h

-- the bits after a part was added
part_added : (parts q p : ℕ) (had : Bool) → q < 64 → bit_at parts p ≡ (if had then 1 else 0) → bit_at (bit_or parts (1 * 2 ^ q % 2 ^ 64)) p ≡ (if had || p == q then 1 else 0)
part_added parts q p had within is = by_test (p == q) refl
  where
    by_test : (b : Bool) → (p == q) ≡ b → bit_at (bit_or parts (1 * 2 ^ q % 2 ^ 64)) p ≡ (if had || b then 1 else 0)
    by_test true e =
        subst (λ j. bit_at (bit_or parts (1 * 2 ^ q % 2 ^ 64)) j ≡ (if had || true then 1 else 0)) (sym (eqb-true p q e))
        (bit_at_set_same w64 parts q within ∙ sym (ap (λ b. if b then 1 else 0) (or_true had true refl)))
    by_test false e =
        bit_at_set_other w64 parts q within p (λ h. true≢false (sym (eq-eqb p q h) ∙ e)) ∙ is ∙ sym (ap (λ b. if b then 1 else 0) (or_false had false refl))

module _ (c : List CoordEntry) (x : TxnId) where
  -- the row of a new transaction
  pub row_begins : (deadline : ℕ) → IsBlank c x → IsRow (c ++ coord.New x deadline ∷ []) x (record { deadline = deadline; status = Open; parts = 0 })
  row_begins deadline is = record {
    begun = has_new-push c (coord.New x deadline) x ∙ or_true (has_new (coord_skeletons c) x) (same_txn x x) (same_itself x);
    status = ap (λ o. unwrap_or o Open) (status-push c (coord.New x deadline) x ∙ is.status);
    deadline = deadline-push c (coord.New x deadline) x ∙ ap (λ o. option_or o (says_deadline x (coord.New x deadline))) is.deadline ∙ ap (λ b. if b then Some deadline else None) (same_itself x);
    parts = λ p. bit_at-zero p ∙ sym (ap (λ b. if b then 1 else 0) (in_parts-push c (coord.New x deadline) x p ∙ or_false (in_parts (coord_skeletons c) x p) false refl ∙ is.parts p));
  }

  -- a second beginning changes nothing
  pub row_repeats : (deadline : ℕ) (row : Row) → IsRow c x row → IsRow (c ++ coord.New x deadline ∷ []) x row
  row_repeats deadline row is = record {
    begun = has_new-push c (coord.New x deadline) x ∙ or_true (has_new (coord_skeletons c) x) (same_txn x x) (same_itself x);
    status = ap (λ o. unwrap_or o Open) (status-push c (coord.New x deadline) x) ∙ is.status;
    deadline = deadline-push c (coord.New x deadline) x ∙ ap (λ o. option_or o (says_deadline x (coord.New x deadline))) is.deadline ∙ sym is.deadline ∙ is.deadline;
    parts = λ p. is.parts p ∙ sym (ap (λ b. if b then 1 else 0) (in_parts-push c (coord.New x deadline) x p ∙ or_false (in_parts (coord_skeletons c) x p) false refl));
  }

  -- its row with a part more
  pub row_adds : (q : ℕ) (row : Row) → q < 64 → IsRow c x row → IsRow (c ++ coord.AddPart x q ∷ []) x (row_after (coord.AddPart x q) row)
  row_adds q row within is = record {
    begun = has_new-push c (coord.AddPart x q) x ∙ or_false (has_new (coord_skeletons c) x) false refl ∙ is.begun;
    status = ap (λ o. unwrap_or o Open) (status-push c (coord.AddPart x q) x) ∙ is.status;
    deadline = deadline-push c (coord.AddPart x q) x ∙ or_none (first_of (says_deadline x) c) ∙ is.deadline;
    parts = λ p. part_added row.parts q p (in_parts (coord_skeletons c) x p) within (is.parts p) ∙ sym (ap (λ b. if b then 1 else 0) (in_parts-push c (coord.AddPart x q) x p ∙ or_same (in_parts (coord_skeletons c) x p) (same_txn x x) (p == q) (same_itself x)));
  }

  -- its row with another status
  row_turns : (e : CoordEntry) (status : Status) (row : Row) → is_new x (coord_skeleton e) ≡ false → says_status x (coord_skeleton e) ≡ (if same_txn x x then Some status else None) → says_deadline x e ≡ None
      → ((p : ℕ) → is_add x p (coord_skeleton e) ≡ false) → IsRow c x row → IsRow (c ++ e ∷ []) x (record { deadline = row.deadline; status = status; parts = row.parts })
  row_turns e status row new says late adds is = record {
    begun = has_new-push c e x ∙ or_false (has_new (coord_skeletons c) x) (is_new x (coord_skeleton e)) new ∙ is.begun;
    status = ap (λ o. unwrap_or o Open) (status-push c e x ∙ ap (λ o. option_or o (last_of (says_status x) (coord_skeletons c))) (says ∙ ap (λ b. if b then Some status else None) (same_itself x)));
    deadline = deadline-push c e x ∙ ap (option_or (first_of (says_deadline x) c)) late ∙ or_none (first_of (says_deadline x) c) ∙ is.deadline;
    parts = λ p. is.parts p ∙ sym (ap (λ b. if b then 1 else 0) (in_parts-push c e x p ∙ or_false (in_parts (coord_skeletons c) x p) (is_add x p (coord_skeleton e)) (adds p)));
  }

-- an entry begins no transaction, and the part that it adds fits a bit
abbrev pub Turns : CoordEntry → Type 0
Turns (coord.New x deadline) = ⊥
Turns (coord.AddPart x part) = part < 64
Turns (coord.Committing x) = Unit {0}
Turns (coord.Committed x) = Unit {0}
Turns (coord.Aborting x) = Unit {0}
Turns (coord.Aborted x) = Unit {0}

pub row_goes_on : (c : List CoordEntry) (e : CoordEntry) (row : Row) → Turns e → IsRow c (txn_in e) row → IsRow (c ++ e ∷ []) (txn_in e) (row_after e row)
row_goes_on c (coord.New x d) row may is = absurd may
row_goes_on c (coord.AddPart x q) row may is = row_adds c x q row may is
row_goes_on c (coord.Committing x) row may is = row_turns c x (coord.Committing x) Committing row refl refl refl (λ p. refl) is
row_goes_on c (coord.Committed x) row may is = row_turns c x (coord.Committed x) Committed row refl refl refl (λ p. refl) is
row_goes_on c (coord.Aborting x) row may is = row_turns c x (coord.Aborting x) Aborting row refl refl refl (λ p. refl) is
row_goes_on c (coord.Aborted x) row may is = row_turns c x (coord.Aborted x) Aborted row refl refl refl (λ p. refl) is

-- ---- A transaction's row, or none.

pub txn_equal : (x y : TxnId) → same_txn x y ≡ true → x ≡ y
txn_equal x y h =
    ap (λ m. make m x.least) (eqb-true x.most y.most (both (x.most == y.most) (x.least == y.least) h).0) ∙ ap (λ l. make y.most l) (eqb-true x.least y.least (both (x.most == y.most) (x.least == y.least) h).1)
  where
    make : ℕ → ℕ → TxnId
    make m l = record { most = m; least = l }

    both : (a b : Bool) → (a && b) ≡ true → (a ≡ true) × (b ≡ true)
    both true true h = (refl, refl)
    both true false h = absurd (true≢false (sym h))
    both false b h = absurd (true≢false (sym h))

-- a status says that the transaction was begun
pub status_begun : (c : List CoreEntry) (x : TxnId) → (f : Option Status → Bool) → f None ≡ false → f (status_of c x) ≡ true → has_new c x ≡ true
status_begun c x f none h = by_test (has_new c x) refl
  where
    by_test : (b : Bool) → has_new c x ≡ b → has_new c x ≡ true
    by_test true e = e
    by_test false e = absurd (true≢false (sym h ∙ ap (λ b. f (if b then Some (unwrap_or (last_of (says_status x) c) Open) else None)) e ∙ none))

and_first : (a b : Bool) → (a && b) ≡ true → a ≡ true
and_first true b h = refl
and_first false b h = absurd (true≢false (sym h))

-- an entry that begins nothing is one of a transaction that was begun
pub turns_begun : (c : List CoordEntry) (e : CoordEntry) → Turns e → coord_allows 62 (coord_skeletons c) (coord_skeleton e) ≡ true → has_new (coord_skeletons c) (txn_in e) ≡ true
turns_begun c (coord.New x d) may h = absurd may
turns_begun c (coord.AddPart x q) may h = status_begun (coord_skeletons c) x is_open refl (and_first _ _ (and_first _ _ (and_first _ _ h)))
turns_begun c (coord.Committing x) may h = status_begun (coord_skeletons c) x is_open refl h
turns_begun c (coord.Committed x) may h = status_begun (coord_skeletons c) x (is_deciding Commit) refl h
turns_begun c (coord.Aborting x) may h = status_begun (coord_skeletons c) x is_open refl h
turns_begun c (coord.Aborted x) may h = status_begun (coord_skeletons c) x (is_deciding Abort) refl h

row_itself : (c : List CoordEntry) (e : CoordEntry) (row : Option Row) → IsCoordEntry e → coord_allows 62 (coord_skeletons c) (coord_skeleton e) ≡ true → IsRowOf c (txn_in e) row → IsRowOf (c ++ e ∷ []) (txn_in e) (row_grown e row)
row_itself c (coord.New x d) None fits h is = row_begins c x d is
row_itself c (coord.New x d) (Some row) fits h is = row_repeats c x d row is
row_itself c (coord.AddPart x q) None fits h is = absurd (true≢false (sym (turns_begun c (coord.AddPart x q) (omega (arith, fits.2)) h) ∙ is.begun))
row_itself c (coord.AddPart x q) (Some row) fits h is = row_goes_on c (coord.AddPart x q) row (omega (arith, fits.2)) is
row_itself c (coord.Committing x) None fits h is = absurd (true≢false (sym (turns_begun c (coord.Committing x) tt h) ∙ is.begun))
row_itself c (coord.Committing x) (Some row) fits h is = row_goes_on c (coord.Committing x) row tt is
row_itself c (coord.Committed x) None fits h is = absurd (true≢false (sym (turns_begun c (coord.Committed x) tt h) ∙ is.begun))
row_itself c (coord.Committed x) (Some row) fits h is = row_goes_on c (coord.Committed x) row tt is
row_itself c (coord.Aborting x) None fits h is = absurd (true≢false (sym (turns_begun c (coord.Aborting x) tt h) ∙ is.begun))
row_itself c (coord.Aborting x) (Some row) fits h is = row_goes_on c (coord.Aborting x) row tt is
row_itself c (coord.Aborted x) None fits h is = absurd (true≢false (sym (turns_begun c (coord.Aborted x) tt h) ∙ is.begun))
row_itself c (coord.Aborted x) (Some row) fits h is = row_goes_on c (coord.Aborted x) row tt is

row_beside : (c : List CoordEntry) (e : CoordEntry) (x : TxnId) (row : Option Row) → same_txn x (txn_in e) ≡ false → IsRowOf c x row → IsRowOf (c ++ e ∷ []) x row
row_beside c e x None other is = blank_stays c e x other is
row_beside c e x (Some row) other is = row_stays c e x other row is

-- the row after an allowed entry
pub row_more : (c : List CoordEntry) (e : CoordEntry) (x : TxnId) (row : Option Row) → IsCoordEntry e → coord_allows 62 (coord_skeletons c) (coord_skeleton e) ≡ true → IsRowOf c x row → IsRowOf (c ++ e ∷ []) x (row_with x row e)
row_more c e x row fits h is = by_test (same_txn x (txn_in e)) refl
  where
    by_test : (b : Bool) → same_txn x (txn_in e) ≡ b → IsRowOf (c ++ e ∷ []) x (if b then row_grown e row else row)
    by_test true t =
        let i : x ≡ txn_in e = txn_equal x (txn_in e) t in
        subst (λ (y : TxnId). IsRowOf (c ++ e ∷ []) y (row_grown e row)) (sym i) (row_itself c e row fits h (subst (λ (y : TxnId). IsRowOf c y row) i is))
    by_test false t = row_beside c e x row t is
