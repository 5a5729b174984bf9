-- A list of entries that name one holder of a place.
use Rattle.std.proofs.Common.{◌≡◌, ◌⊎◌, inl, inr, ⊎_elim, Bool, true, false, ◌||◌, if◌then◌else◌, List, [], ◌∷◌, ◌++◌, Some, None, refl, sym, ap, ◌∙◌}
use Rattle.std.specs.Prelude.{Option}
use Rattle.std.specs.Option.{option_or}
use Rattle.std.specs.List.{list_any}
use Rattle.txn_base.specs.declared.txn.TxnId.{TxnId}
use Rattle.txn_base.specs.declared.entry.AckEntry.{AckEntry}
use Rattle.txn_model.specs.Words.{first_of}
use Rattle.txn_model.specs.Skeletons.{same_txn}
use Rattle.txn_model.specs.Ack.{is_held_by}
use Rattle.txn_holds.specs.Holds.{without}

-- Each of these entries names this holder, or none.
abbrev pub Only : Option TxnId → (AckEntry → Option TxnId) → List AckEntry → Type 0
Only o h [] = Unit {0}
Only o h (e ∷ es) = ((h e ≡ None) ⊎ (h e ≡ o)) × Only o h es

pub any_same : (f g : AckEntry → Bool) → ((e : AckEntry) → f e ≡ g e) → (es : List AckEntry) → list_any f es ≡ list_any g es
any_same f g same [] = refl
any_same f g same (e ∷ es) = ap (λ b. b || list_any f es) (same e) ∙ ap (λ b. g e || b) (any_same f g same es)

pub first_same : (f g : AckEntry → Option TxnId) → ((e : AckEntry) → f e ≡ g e) → (es : List AckEntry) → first_of f es ≡ first_of g es
first_same f g same [] = refl
first_same f g same (e ∷ es) = ap (λ o. option_or o (first_of f es)) (same e) ∙ ap (option_or (g e)) (first_same f g same es)

pub only_same : (o : Option TxnId) (h k : AckEntry → Option TxnId) → ((e : AckEntry) → k e ≡ h e) → (es : List AckEntry) → Only o h es → Only o k es
only_same o h k same [] only = tt
only_same o h k same (e ∷ es) only = (⊎_elim (λ n. inl (same e ∙ n)) (λ is. inr (same e ∙ is)) only.0, only_same o h k same es only.1)

-- Where no holder is named, all is the same for any.
pub only_none : (o : Option TxnId) (h : AckEntry → Option TxnId) (es : List AckEntry) → Only None h es → Only o h es
only_none o h [] only = tt
only_none o h (e ∷ es) only = (⊎_elim (λ n. inl n) (λ n. inl n) only.0, only_none o h es only.1)

pub only_push : (o : Option TxnId) (h : AckEntry → Option TxnId) (es : List AckEntry) (n : AckEntry) → Only o h es → (h n ≡ None) ⊎ (h n ≡ o) → Only o h (es ++ n ∷ [])
only_push o h [] n only last = (last, tt)
only_push o h (e ∷ es) n only last = (only.0, only_push o h es n only.1 last)

pub only_without : (x : TxnId) (o : Option TxnId) (h : AckEntry → Option TxnId) (es : List AckEntry) → Only o h es → Only (without x o) (λ e. without x (h e)) es
only_without x o h [] only = tt
only_without x o h (e ∷ es) only = (⊎_elim (λ n. inl (ap (without x) n)) (λ is. inr (ap (without x) is)) only.0, only_without x o h es only.1)

-- Where the holder is left out, none is named.
first_gone : (x : TxnId) (o : Option TxnId) (h : AckEntry → Option TxnId) (es : List AckEntry) → Only o h es → without x o ≡ None → first_of (λ e. without x (h e)) es ≡ None
first_gone x o h [] only gone = refl
first_gone x o h (e ∷ es) only gone =
    ap (λ p. option_or p (first_of (λ d. without x (h d)) es)) (⊎_elim (λ n. ap (without x) n) (λ is. ap (without x) is ∙ gone) only.0) ∙ first_gone x o h es only.1 gone

-- The first that is named but for x is the first one, where that isn't x.
pub first_without : (x : TxnId) (o : Option TxnId) (h : AckEntry → Option TxnId) (es : List AckEntry) → Only o h es → first_of (λ e. without x (h e)) es ≡ without x (first_of h es)
first_without x o h [] only = refl
first_without x o h (e ∷ es) only = by_said (h e) refl only.0 (first_without x o h es only.1)
  where
    kept : (y : TxnId) (b : Bool) → same_txn x y ≡ b → (without x (Some y) ≡ None → (first_of (λ d. without x (h d)) es) ≡ None) → option_or (without x (Some y)) (first_of (λ d. without x (h d)) es) ≡ without x (Some y)
    kept y true e none =
        let gone : without x (Some y) ≡ None = ap (λ b. if b then None else Some y) e in ap (λ p. option_or p (first_of (λ d. without x (h d)) es)) gone ∙ none gone ∙ sym gone
    kept y false e none = let stays : without x (Some y) ≡ Some y = ap (λ b. if b then None else Some y) e in ap (λ p. option_or p (first_of (λ d. without x (h d)) es)) stays ∙ sym stays

    by_said : (p : Option TxnId) → h e ≡ p → (h e ≡ None) ⊎ (h e ≡ o) → (first_of (λ d. without x (h d)) es) ≡ without x (first_of h es) → option_or (without x (h e)) (first_of (λ d. without x (h d)) es) ≡ without x (option_or (h e) (first_of h es))
    by_said None said one more = ap (λ p. option_or (without x p) (first_of (λ d. without x (h d)) es)) said ∙ more ∙ ap (λ p. without x (option_or p (first_of h es))) (sym said)
    by_said (Some y) said one more =
        ap (λ p. option_or (without x p) (first_of (λ d. without x (h d)) es)) said
        ∙ kept y (same_txn x y) refl (λ gone. ⊎_elim
        (λ n. absurd (none_is y (sym said ∙ n)))
        (λ is. first_gone x o h es only.1 (ap (without x) (sym is ∙ said) ∙ gone))
        one)
        ∙ ap (λ p. without x (option_or p (first_of h es))) (sym said)
      where
        none_is : (z : TxnId) → Some z ≡ None → ⊥
        none_is z e = cc

not_held : (x : TxnId) (o : Option TxnId) (h : AckEntry → Option TxnId) (es : List AckEntry) → Only o h es → is_held_by x o ≡ false → list_any (λ e. is_held_by x (h e)) es ≡ false
not_held x o h [] only none = refl
not_held x o h (e ∷ es) only none =
    ap (λ b. b || list_any (λ d. is_held_by x (h d)) es) (⊎_elim (λ n. ap (is_held_by x) n) (λ is. ap (is_held_by x) is ∙ none) only.0) ∙ not_held x o h es only.1 none

-- One of them names x where the first does.
pub any_held : (x : TxnId) (o : Option TxnId) (h : AckEntry → Option TxnId) (es : List AckEntry) → Only o h es → list_any (λ e. is_held_by x (h e)) es ≡ is_held_by x (first_of h es)
any_held x o h [] only = refl
any_held x o h (e ∷ es) only = by_said (h e) refl only.0 (any_held x o h es only.1)
  where
    none_is : (z : TxnId) → Some z ≡ None → ⊥
    none_is z e = cc

    held : (y : TxnId) (b : Bool) → same_txn x y ≡ b → (same_txn x y ≡ false → list_any (λ d. is_held_by x (h d)) es ≡ false) → (same_txn x y || list_any (λ d. is_held_by x (h d)) es) ≡ same_txn x y
    held y true e none = ap (λ b. b || list_any (λ d. is_held_by x (h d)) es) e ∙ sym e
    held y false e none = ap (λ b. b || list_any (λ d. is_held_by x (h d)) es) e ∙ none e ∙ sym e

    by_said : (p : Option TxnId) → h e ≡ p → (h e ≡ None) ⊎ (h e ≡ o) → list_any (λ d. is_held_by x (h d)) es ≡ is_held_by x (first_of h es)
        → (is_held_by x (h e) || list_any (λ d. is_held_by x (h d)) es) ≡ is_held_by x (option_or (h e) (first_of h es))
    by_said None said one more = ap (λ p. is_held_by x p || list_any (λ d. is_held_by x (h d)) es) said ∙ more ∙ ap (λ p. is_held_by x (option_or p (first_of h es))) (sym said)
    by_said (Some y) said one more =
        ap (λ p. is_held_by x p || list_any (λ d. is_held_by x (h d)) es) said
        ∙ held y (same_txn x y) refl (λ not. ⊎_elim
        (λ n. absurd (none_is y (sym said ∙ n)))
        (λ is. not_held x o h es only.1 (ap (is_held_by x) (sym is ∙ said) ∙ not))
        one)
        ∙ ap (λ p. is_held_by x (option_or p (first_of h es))) (sym said)
