-- What a list says of a transaction is what its entries of that transaction say.
use Rattle.std.proofs.Common.{◌≡◌, inl, inr, ℕ, zero, suc, ◌+◌, ◌<◌, arith, Bool, true, false, ◌&&◌, ◌||◌, ◌==◌, if◌then◌else◌, List, [], ◌∷◌, ◌++◌, length, replicate, Some, None, refl, sym, ap, ◌∙◌, subst, append_assoc, length-append}
use Rattle.std.specs.Prelude.{Option, filter, is_some, unwrap_or, nat_le, not}
use Rattle.std.specs.List.{list_any}
use Rattle.std.proofs.lemmas.Bool.{ne_eqb}
use Rattle.std.proofs.lemmas.List.{append-nil}
use Rattle.std.proofs.lemmas.List.Elements.{filter-append}
use Rattle.std.proofs.lemmas.List.Folds.{list_any-append}
use Rattle.std.proofs.lemmas.List.Sums.{sum_by-append}
use Rattle.txn_base.specs.declared.txn.TxnId.{TxnId}
use Rattle.txn_base.specs.declared.txn.Decision.{Decision}
use Rattle.txn_base.specs.declared.txn.Decision.TheVariants.{Commit, Abort}
use Rattle.txn_base.specs.declared.txn.Status.{Status}
use Rattle.txn_base.specs.declared.txn.Status.TheVariants.{Open}
use Rattle.txn_base.specs.declared.core_entry.CoreEntry.{CoreEntry}
use Rattle.txn_base.specs.declared.core_entry.CoreEntry.TheVariants as core
use Rattle.txn_model.specs.Words.{all_follow, last_of}
use Rattle.txn_model.specs.Skeletons.{same_txn}
use Rattle.txn_model.specs.Coord.{is_new, is_add, has_new, in_parts, says_status, status_of, is_open, is_deciding, count_new, coord_allows, CoordLawful}
use Rattle.txn_model.specs.Deadlines.{txn}
use Rattle.txn_model.proofs.Laws.Tests.{no_true, and_l, and_r, or_cases, or_l, or_r}
use Rattle.txn_model.proofs.Laws.Lists.{all_follow-append}
use Rattle.txn_model.proofs.Laws.Logs.{txn_equal}
use Rattle.txn_core.specs.Steps.{is_decision}
use Rattle.txn_board.specs.declared.words.Word.{Word}
use Rattle.txn_board.specs.declared.words.Word.TheVariants.{Registered, Decided, Done}
use Rattle.txn_board.specs.Words.{decides, closes, ends, sets, is_of, entries_of}

where_true : {V : Type 0} (b : Bool) (v : V) → is_some (if b then Some v else None) ≡ true → b ≡ true
where_true true v h = refl
where_true false v h = absurd (no_true h)

decided_true : (b : Bool) (v d : Decision) → is_decision (if b then Some v else None) d ≡ true → b ≡ true
decided_true true v d h = refl
decided_true false v d h = absurd (no_true h)

new_of : (x : TxnId) (e : CoreEntry) → is_new x e ≡ true → is_of x e ≡ true
new_of x core.Plain h = absurd (no_true h)
new_of x (core.Inside y) h = absurd (no_true h)
new_of x (core.Marker y d) h = absurd (no_true h)
new_of x (core.New y) h = h
new_of x (core.AddPart y q) h = absurd (no_true h)
new_of x (core.Committing y) h = absurd (no_true h)
new_of x (core.Committed y) h = absurd (no_true h)
new_of x (core.Aborting y) h = absurd (no_true h)
new_of x (core.Aborted y) h = absurd (no_true h)

add_of : (x : TxnId) (p : ℕ) (e : CoreEntry) → is_add x p e ≡ true → is_of x e ≡ true
add_of x p core.Plain h = absurd (no_true h)
add_of x p (core.Inside y) h = absurd (no_true h)
add_of x p (core.Marker y d) h = absurd (no_true h)
add_of x p (core.New y) h = absurd (no_true h)
add_of x p (core.AddPart y q) h = and_l (same_txn x y) (p == q) h
add_of x p (core.Committing y) h = absurd (no_true h)
add_of x p (core.Committed y) h = absurd (no_true h)
add_of x p (core.Aborting y) h = absurd (no_true h)
add_of x p (core.Aborted y) h = absurd (no_true h)

decides_of : (x : TxnId) (w : Decision) (e : CoreEntry) → decides x w e ≡ true → is_of x e ≡ true
decides_of x w core.Plain h = absurd (no_true h)
decides_of x w (core.Inside y) h = absurd (no_true h)
decides_of x w (core.Marker y d) h = absurd (no_true h)
decides_of x w (core.New y) h = absurd (no_true h)
decides_of x w (core.AddPart y q) h = absurd (no_true h)
decides_of x w (core.Committing y) h = decided_true (same_txn x y) Commit w h
decides_of x w (core.Committed y) h = absurd (no_true h)
decides_of x w (core.Aborting y) h = decided_true (same_txn x y) Abort w h
decides_of x w (core.Aborted y) h = absurd (no_true h)

closes_of : (x : TxnId) (e : CoreEntry) → closes x e ≡ true → is_of x e ≡ true
closes_of x core.Plain h = absurd (no_true h)
closes_of x (core.Inside y) h = absurd (no_true h)
closes_of x (core.Marker y d) h = absurd (no_true h)
closes_of x (core.New y) h = absurd (no_true h)
closes_of x (core.AddPart y q) h = absurd (no_true h)
closes_of x (core.Committing y) h = absurd (no_true h)
closes_of x (core.Committed y) h = where_true (same_txn x y) Commit h
closes_of x (core.Aborting y) h = absurd (no_true h)
closes_of x (core.Aborted y) h = where_true (same_txn x y) Abort h

ends_of : (x : TxnId) (e : CoreEntry) → ends x e ≡ true → is_of x e ≡ true
ends_of x core.Plain h = absurd (no_true h)
ends_of x (core.Inside y) h = absurd (no_true h)
ends_of x (core.Marker y d) h = where_true (same_txn x y) d h
ends_of x (core.New y) h = absurd (no_true h)
ends_of x (core.AddPart y q) h = absurd (no_true h)
ends_of x (core.Committing y) h = absurd (no_true h)
ends_of x (core.Committed y) h = absurd (no_true h)
ends_of x (core.Aborting y) h = absurd (no_true h)
ends_of x (core.Aborted y) h = absurd (no_true h)

-- an entry that sets a bit of x is one of x
pub sets_of : (w : Word) (p : ℕ) (x : TxnId) (e : CoreEntry) → sets w p x e ≡ true → is_of x e ≡ true
sets_of Registered zero x e h = new_of x e h
sets_of Registered (suc p) x e h = add_of x (suc p) e h
sets_of Decided zero x e h = decides_of x Commit e h
sets_of Decided (suc zero) x e h = decides_of x Abort e h
sets_of Decided (suc (suc p)) x e h = absurd (no_true h)
sets_of Done zero x e h = closes_of x e h
sets_of Done (suc p) x e h = ends_of x e h

pub any_more : (f g : CoreEntry → Bool) → ((e : CoreEntry) → f e ≡ true → g e ≡ true) → (es : List CoreEntry) → list_any f es ≡ true → list_any g es ≡ true
any_more f g fg [] h = absurd (no_true h)
any_more f g fg (e ∷ es) h =
    elim (or_cases (f e) (list_any f es) h) [
      | inl now ↦ or_l (g e) (list_any g es) (fg e now)
      | inr later ↦ or_r (g e) (list_any g es) (any_more f g fg es later)
    ]

any_of : (f g : CoreEntry → Bool) → ((e : CoreEntry) → f e ≡ true → g e ≡ true) → (es : List CoreEntry) → list_any f es ≡ list_any f (filter g es)
any_of f g fg [] = refl
any_of f g fg (e ∷ es) = go (f e) refl (g e) refl (any_of f g fg es)
  where
    go : (a : Bool) → f e ≡ a → (b : Bool) → g e ≡ b → list_any f es ≡ list_any f (filter g es) → (f e || list_any f es) ≡ list_any f (if g e then e ∷ filter g es else filter g es)
    go a k true m rest = ap (λ b. f e || b) rest ∙ sym (ap (λ b. list_any f (if b then e ∷ filter g es else filter g es)) m)
    go true k false m rest = absurd (no_true (sym m ∙ fg e k))
    go false k false m rest = ap (λ b. b || list_any f es) k ∙ (rest ∙ sym (ap (λ b. list_any f (if b then e ∷ filter g es else filter g es)) m))

-- lists with the same entries of x say the same of it
pub said_by : (w : Word) (p : ℕ) (x : TxnId) (xs ys : List CoreEntry) → entries_of x xs ≡ entries_of x ys → list_any (sets w p x) xs ≡ list_any (sets w p x) ys
said_by w p x xs ys h = any_of (sets w p x) (is_of x) (sets_of w p x) xs ∙ (ap (list_any (sets w p x)) h ∙ sym (any_of (sets w p x) (is_of x) (sets_of w p x) ys))

nil_of : {A : Type 0} (xs : List A) → length xs ≡ 0 → xs ≡ []
nil_of [] h = refl
nil_of (x ∷ xs) h = absurd (omega (arith, h))

-- where nothing follows the front that passes the test, neither piece behind it has anything
pub cut_off : (g : CoreEntry → Bool) (front more flight : List CoreEntry) → filter g ((front ++ more) ++ flight) ≡ filter g front → (filter g more ≡ []) × (filter g flight ≡ [])
cut_off g front more flight h =
    let whole : (filter g front ++ filter g more) ++ filter g flight ≡ filter g front = sym (filter-append g (front ++ more) flight ∙ ap (λ l. l ++ filter g flight) (filter-append g front more)) ∙ h in
    let count : length ((filter g front ++ filter g more) ++ filter g flight) ≡ length (filter g front) = ap length whole in
    let a = length-append (filter g front ++ filter g more) (filter g flight) in
    let b = length-append (filter g front) (filter g more) in
    (nil_of (filter g more) (omega (arith, count, a, b)), nil_of (filter g flight) (omega (arith, count, a, b)))

-- ---- A transaction with any entry is begun.

pub count_more : (c es : List CoreEntry) → count_new (c ++ es) ≡ count_new c + count_new es
count_more c es = sum_by-append _ c es

has_status : (f : Option Status → Bool) (c : List CoreEntry) (y : TxnId) → f None ≡ false → f (status_of c y) ≡ true → has_new c y ≡ true
has_status f c y none h = go (has_new c y) refl
  where
    go : (b : Bool) → has_new c y ≡ b → has_new c y ≡ true
    go true e = e
    go false e = absurd (no_true (sym none ∙ (ap (λ b. f (if b then Some (unwrap_or (last_of (says_status y) c) Open) else None)) (sym e) ∙ h)))

abbrev Below : ℕ → List CoreEntry → Type 0
Below x c = list_any (is_of (txn x)) c ≡ true → x < count_new c

module _ (n x : ℕ) (c : List CoreEntry) (so : Below x c) where
  old : (y : TxnId) → same_txn (txn x) y ≡ true → has_new c y ≡ true → x < count_new c
  old y same has = so (any_more (is_new (txn x)) (is_of (txn x)) (new_of (txn x)) c (subst (λ z. has_new c z ≡ true) (sym (txn_equal (txn x) y same)) has))

  later : (e : CoreEntry) → x < count_new c → x < count_new (c ++ e ∷ [])
  later e lt = omega (arith, lt, count_more c (e ∷ []))

  now : (e : CoreEntry) → coord_allows n c e ≡ true → is_of (txn x) e ≡ true → x < count_new (c ++ e ∷ [])
  now core.Plain a h = absurd (no_true h)
  now (core.Inside y) a h = absurd (no_true a)
  now (core.Marker y d) a h = absurd (no_true a)
  now (core.New y) a h =
      let e : x ≡ count_new c = ap (λ (z : TxnId). z.least) (txn_equal (txn x) y h ∙ txn_equal y (txn (count_new c)) a) in
      omega (arith, e, count_more c (core.New y ∷ []))
  now (core.AddPart y p) a h = later (core.AddPart y p) (old y h (has_status is_open c y refl (and_l (is_open (status_of c y)) (nat_le 1 p) (and_l (is_open (status_of c y) && nat_le 1 p) (nat_le p n) (and_l (is_open (status_of c y) && nat_le 1 p && nat_le p n) (not (in_parts c y p)) a)))))
  now (core.Committing y) a h = later (core.Committing y) (old y h (has_status is_open c y refl a))
  now (core.Aborting y) a h = later (core.Aborting y) (old y h (has_status is_open c y refl a))
  now (core.Committed y) a h = later (core.Committed y) (old y h (has_status (is_deciding Commit) c y refl a))
  now (core.Aborted y) a h = later (core.Aborted y) (old y h (has_status (is_deciding Abort) c y refl a))

  step : (e : CoreEntry) → coord_allows n c e ≡ true → Below x (c ++ e ∷ [])
  step e a h =
      elim (or_cases (list_any (is_of (txn x)) c) (is_of (txn x) e || false) (sym (list_any-append (is_of (txn x)) c (e ∷ [])) ∙ h)) [
        | inl before ↦ later e (so before)
        | inr here ↦ now e a (one (is_of (txn x) e) here)
      ]
    where
      one : (b : Bool) → (b || false) ≡ true → b ≡ true
      one true k = refl
      one false k = absurd (no_true k)

along : (n x : ℕ) (c es : List CoreEntry) → Below x c → all_follow (coord_allows n) c es ≡ true → Below x (c ++ es)
along n x c [] so a = subst (Below x) (sym (append-nil c)) so
along n x c (e ∷ es) so a =
    subst (Below x) (append_assoc c (e ∷ []) es)
    (along n x (c ++ e ∷ []) es (step n x c so e (and_l (coord_allows n c e) (all_follow (coord_allows n) (c ++ e ∷ []) es) a)) (and_r (coord_allows n c e) (all_follow (coord_allows n) (c ++ e ∷ []) es) a))

-- in a lawful log the number of a transaction that has any entry is below the count of those begun
pub begun_below : (n x : ℕ) (c : List CoreEntry) → CoordLawful n c → list_any (is_of (txn x)) c ≡ true → x < count_new c
begun_below n x c law h = along n x [] c (λ k. absurd (no_true k)) law h

-- a New that the coordinator may start has the next number
pub new_next : (n x : ℕ) (c : List CoreEntry) → CoordLawful n (c ++ core.New (txn x) ∷ []) → x ≡ count_new c
new_next n x c law =
    ap (λ (z : TxnId). z.least)
    (txn_equal (txn x) (txn (count_new c)) (and_l (coord_allows n c (core.New (txn x))) true (and_r (all_follow (coord_allows n) [] c) (all_follow (coord_allows n) c (core.New (txn x) ∷ [])) (sym (all_follow-append (coord_allows n) [] c (core.New (txn x) ∷ [])) ∙ law))))

-- ---- Entries of one transaction are none of another.

pub other_txn : (x y : ℕ) → (x ≡ y → ⊥) → same_txn (txn x) (txn y) ≡ false
other_txn x y away = ne_eqb x y away

pub none_plain : (x : TxnId) (count : ℕ) → entries_of x (replicate count core.Plain) ≡ []
none_plain x zero = refl
none_plain x (suc count) = none_plain x count

pub none_inside : (x y : TxnId) (count : ℕ) → same_txn x y ≡ false → entries_of x (replicate count (core.Inside y)) ≡ []
none_inside x y zero away = refl
none_inside x y (suc count) away = ap (λ b. if b then core.Inside y ∷ entries_of x (replicate count (core.Inside y)) else entries_of x (replicate count (core.Inside y))) away ∙ none_inside x y count away

pub none_one : (x : TxnId) (e : CoreEntry) → is_of x e ≡ false → entries_of x (e ∷ []) ≡ []
none_one x e away = ap (λ b. if b then e ∷ [] else []) away

pub no_new_plain : (count : ℕ) → count_new (replicate count core.Plain) ≡ 0
no_new_plain zero = refl
no_new_plain (suc count) = no_new_plain count

pub no_new_inside : (y : TxnId) (count : ℕ) → count_new (replicate count (core.Inside y)) ≡ 0
no_new_inside y zero = refl
no_new_inside y (suc count) = no_new_inside y count
