-- The places that are held one by one, after one entry more.
use Rattle.std.proofs.Common.{◌≡◌, ℕ, ◌+◌, Bool, true, false, ◌||◌, ◌==◌, if◌then◌else◌, List, [], ◌∷◌, ◌++◌, length, Some, None, refl, sym, ap, ◌∙◌, arith}
use Rattle.std.proofs.Common.{append-nil}
use Rattle.std.specs.Prelude.{is_none, sum_by}
use Rattle.std.specs.List.{flat_map}
use Rattle.std.proofs.lemmas.List.Sums.{sum_by-append, sum_by-cons}
use Rattle.std.proofs.lemmas.List.Concat.{flat_map-append, length-flat_map}
use Rattle.txn_base.specs.declared.txn.TxnId.{TxnId}
use Rattle.txn_base.specs.declared.txn.Decision.{Decision}
use Rattle.txn_base.specs.declared.entry.AckEntry.{AckEntry}
use Rattle.txn_model.specs.Words.{has}
use Rattle.txn_model.specs.Skeletons.{same_txn}
use Rattle.txn_model.specs.Ack.{held_by, held_count}
use Rattle.txn_holds.specs.Holds.{listed, held_places}
use Rattle.txn_holds.proofs.Entries.{mark, Quiet, Ends, quiet_marks, ends_marks, quiet_held, ends_held}

sum_same : (f g : AckEntry → ℕ) → ((e : AckEntry) → f e ≡ g e) → (es : List AckEntry) → sum_by f es ≡ sum_by g es
sum_same f g same [] = refl
sum_same f g same (e ∷ es) = omega (arith, same e, sum_same f g same es, sum_by-cons f e es, sum_by-cons g e es)

sum_apart : (f g h : AckEntry → ℕ) → ((e : AckEntry) → f e + g e ≡ h e) → (es : List AckEntry) → sum_by f es + sum_by g es ≡ sum_by h es
sum_apart f g h apart [] = refl
sum_apart f g h apart (e ∷ es) = omega (arith, apart e, sum_apart f g h apart es, sum_by-cons f e es, sum_by-cons g e es, sum_by-cons h e es)

pub count_quiet : (a : List AckEntry) (n : AckEntry) → Quiet n → held_count (a ++ n ∷ []) ≡ held_count a + held_by a n
count_quiet a n quiet =
    let both = sum_by-append (held_by (a ++ n ∷ [])) a (n ∷ []) in let front = sum_same (held_by (a ++ n ∷ [])) (held_by a) (quiet_held a n quiet) a in let last = quiet_held a n quiet n in
    omega (arith, both, front, last)

pub count_ends : (a : List AckEntry) (n : AckEntry) (x : TxnId) (d : Decision) → Ends a n x d → held_count (a ++ n ∷ []) + length (held_places a x) ≡ held_count a
count_ends a n x d is =
    let both = sum_by-append (held_by (a ++ n ∷ [])) a (n ∷ []) in
    let front = sum_apart (held_by (a ++ n ∷ [])) (λ e. length (listed x e)) (held_by a) (ends_held a n x d is) a in
    let places : length (held_places a x) ≡ length (flat_map (listed x) a) = ap (λ o. length (if is_none o then flat_map (listed x) a else [])) is.first in
    let counted = length-flat_map (listed x) a in let none = is.counted in
    omega (arith, both, front, places, counted, none)

places_push : (a : List AckEntry) (n : AckEntry) → Quiet n → (y : TxnId) → held_places (a ++ n ∷ []) y ≡ (if is_none (mark a y) then flat_map (listed y) a ++ listed y n else [])
places_push a n quiet y =
    ap (λ o. if is_none o then flat_map (listed y) (a ++ n ∷ []) else []) (quiet_marks a n quiet y)
    ∙ ap (λ l. if is_none (mark a y) then l else []) (flat_map-append (listed y) a (n ∷ []) ∙ ap (λ l. flat_map (listed y) a ++ l) (append-nil (listed y n)))

pub places_same : (a : List AckEntry) (n : AckEntry) → Quiet n → (y : TxnId) → listed y n ≡ [] → held_places (a ++ n ∷ []) y ≡ held_places a y
places_same a n quiet y none =
    places_push a n quiet y ∙ ap (λ l. if is_none (mark a y) then flat_map (listed y) a ++ l else []) none
    ∙ ap (λ l. if is_none (mark a y) then l else []) (append-nil (flat_map (listed y) a))

pub places_more : (a : List AckEntry) (n : AckEntry) → Quiet n → (y : TxnId) → mark a y ≡ None → held_places (a ++ n ∷ []) y ≡ held_places a y ++ listed y n
places_more a n quiet y none =
    places_push a n quiet y ∙ ap (λ o. if is_none o then flat_map (listed y) a ++ listed y n else []) none
    ∙ sym (ap (λ o. (if is_none o then flat_map (listed y) a else []) ++ listed y n) none)

pub places_ends : (a : List AckEntry) (n : AckEntry) (x : TxnId) (d : Decision) → Ends a n x d → (y : TxnId) → held_places (a ++ n ∷ []) y ≡ (if same_txn x y then [] else held_places a y)
places_ends a n x d is y =
    ap (λ o. if is_none o then flat_map (listed y) (a ++ n ∷ []) else []) (ends_marks a n x d is y)
    ∙ ap (λ l. if is_none (if same_txn x y then Some d else mark a y) then l else []) (flat_map-append (listed y) a (n ∷ []) ∙ ap (λ l. flat_map (listed y) a ++ (l ++ [])) (is.lists y) ∙ append-nil (flat_map (listed y) a))
    ∙ pick (same_txn x y)
  where
    pick : (b : Bool) → (if is_none (if b then Some d else mark a y) then flat_map (listed y) a else []) ≡ (if b then [] else held_places a y)
    pick true = refl
    pick false = refl

pub has-append : (ps qs : List ℕ) (q : ℕ) → has (ps ++ qs) q ≡ (has ps q || has qs q)
has-append [] qs q = refl
has-append (p ∷ ps) qs q = pick (q == p) (has-append ps qs q)
  where
    pick : (b : Bool) → has (ps ++ qs) q ≡ (has ps q || has qs q) → (if b then true else has (ps ++ qs) q) ≡ ((if b then true else has ps q) || has qs q)
    pick true h = refl
    pick false h = h
