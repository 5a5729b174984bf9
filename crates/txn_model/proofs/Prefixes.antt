-- What stays of a list that is made longer.
use Rattle.std.proofs.Common.{◌≡◌, inl, inr, ℕ, Bool, true, ◌&&◌, List, [], ◌∷◌, ◌++◌, Some, None, refl, ap, ◌∙◌, append_assoc}
use Rattle.txn_model.proofs.Words.{option_or, list_any, Option, map, TxnId, Decision, Commit, Abort, AckEntry, first_of, all_follow, ack_skeleton, ack_skeletons, marks, marker_of, covers, is_commit, counts, is_acked}
use Rattle.txn_base.specs.declared.entry.AckEntry.TheVariants as ack
use Rattle.txn_model.proofs.Bools.{no_true, and_l, and_r, and_both, and_assoc, or_cases, or_l, or_r}

pub or_none : {V : Type 0} (o : Option V) → option_or o None ≡ o
or_none None = refl
or_none (Some v) = refl

option_or-assoc : {V : Type 0} (a b c : Option V) → option_or a (option_or b c) ≡ option_or (option_or a b) c
option_or-assoc None b c = refl
option_or-assoc (Some d) b c = refl

pub first_of-append : {E V : Type 0} (f : E → Option V) (xs ys : List E) → first_of f (xs ++ ys) ≡ option_or (first_of f xs) (first_of f ys)
first_of-append f [] ys = refl
first_of-append f (e ∷ xs) ys = ap (option_or (f e)) (first_of-append f xs ys) ∙ option_or-assoc (f e) (first_of f xs) (first_of f ys)

-- what was said first stays
pub first_stays : {E V : Type 0} (f : E → Option V) (xs ys : List E) (d : V) → first_of f xs ≡ Some d → first_of f (xs ++ ys) ≡ Some d
first_stays f xs ys d h = first_of-append f xs ys ∙ ap (λ o. option_or o (first_of f ys)) h

pub map_append : {A B : Type 0} (f : A → B) (xs ys : List A) → map f (xs ++ ys) ≡ map f xs ++ map f ys
map_append f [] ys = refl
map_append f (x ∷ xs) ys = ap (λ l. f x ∷ l) (map_append f xs ys)

append_nil : {E : Type 0} (xs : List E) → xs ≡ xs ++ []
append_nil [] = refl
append_nil (x ∷ xs) = ap (λ l. x ∷ l) (append_nil xs)

-- the entries of two lists in a row are allowed where those of each are
pub all_follow-append : {E : Type 0} (allows : List E → E → Bool) (before xs ys : List E) → all_follow allows before (xs ++ ys) ≡ (all_follow allows before xs && all_follow allows (before ++ xs) ys)
all_follow-append allows before [] ys = ap (λ l. all_follow allows l ys) (append_nil before)
all_follow-append allows before (e ∷ xs) ys =
    ap (λ b. allows before e && b) (all_follow-append allows (before ++ e ∷ []) xs ys ∙ ap (λ l. all_follow allows (before ++ e ∷ []) xs && all_follow allows l ys) (append_assoc before (e ∷ []) xs))
    ∙ and_assoc (allows before e) (all_follow allows (before ++ e ∷ []) xs) (all_follow allows (before ++ e ∷ xs) ys)

-- ---- Acknowledged places.

commit_is : (o : Option Decision) → is_commit o ≡ true → o ≡ Some Commit
commit_is None h = absurd (no_true h)
commit_is (Some Commit) h = refl
commit_is (Some Abort) h = absurd (no_true h)

commit_stays : (a more : List AckEntry) (x : TxnId) → is_commit (marker_of (ack_skeletons a) x) ≡ true → is_commit (marker_of (ack_skeletons (a ++ more)) x) ≡ true
commit_stays a more x h =
    ap is_commit (ap (λ all. marker_of all x) (map_append ack_skeleton a more) ∙ first_stays (marks x) (ack_skeletons a) (ack_skeletons more) Commit (commit_is (marker_of (ack_skeletons a) x) h))

counts_stay : (a more : List AckEntry) (e : AckEntry) → counts a e ≡ true → counts (a ++ more) e ≡ true
counts_stay a more (ack.Plain places) h = refl
counts_stay a more (ack.PlainUpTo place) h = refl
counts_stay a more (ack.Hold x places) h = commit_stays a more x h
counts_stay a more (ack.HoldUpTo x place) h = commit_stays a more x h
counts_stay a more (ack.Commit x) h = h
counts_stay a more (ack.Abort x) h = h

any_stays : (f g : AckEntry → Bool) (xs ys : List AckEntry) → ((e : AckEntry) → f e ≡ true → g e ≡ true) → list_any f xs ≡ true → list_any g (xs ++ ys) ≡ true
any_stays f g [] ys stays h = absurd (no_true h)
any_stays f g (e ∷ xs) ys stays h =
    elim (or_cases (f e) (list_any f xs) h) [
      | inl k ↦ or_l (g e) (list_any g (xs ++ ys)) (stays e k)
      | inr k ↦ or_r (g e) (list_any g (xs ++ ys)) (any_stays f g xs ys stays k)
    ]

-- what is acknowledged stays so
pub acked_stays : (a more : List AckEntry) (q : ℕ) → is_acked a q ≡ true → is_acked (a ++ more) q ≡ true
acked_stays a more q h =
    any_stays (λ e. counts a e && covers e q) (λ e. counts (a ++ more) e && covers e q) a more
    (λ e k. and_both (counts (a ++ more) e) (covers e q) (counts_stay a more e (and_l (counts a e) (covers e q) k)) (and_r (counts a e) (covers e q) k)) h
