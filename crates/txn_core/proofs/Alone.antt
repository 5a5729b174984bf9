-- What stays of lists that are made longer.
use Rattle.std.proofs.Common.{◌≡◌, ◌⊎◌, inl, inr, ℕ, ◌≤◌, Bool, true, false, ◌||◌, ◌&&◌, ◌==◌, if◌then◌else◌, List, [], ◌∷◌, ◌++◌, length, get_or, Some, None, refl, sym, ap, ◌∙◌, subst, arith}
use Rattle.std.proofs.lemmas.List.{append-nil}
use Rattle.std.proofs.lemmas.List.Folds.{list_any-append}
use Rattle.std.specs.Prelude.{Option}
use Rattle.std.specs.Option.{option_or}
use Rattle.txn_base.specs.declared.txn.TxnId.{TxnId}
use Rattle.txn_base.specs.declared.txn.Decision.{Decision}
use Rattle.txn_base.specs.declared.core_entry.CoreEntry.{CoreEntry}
use Rattle.txn_base.specs.declared.core_entry.CoreEntry.TheVariants as core
use Rattle.txn_model.specs.Words.{all_follow, first_of}
use Rattle.txn_model.specs.Coord.{is_add, says_closing, closing_of, in_parts, coord_allows, CoordLawful}
use Rattle.txn_model.specs.Topic.{part_allows}
use Rattle.txn_model.specs.World.{is_inside, has_inside}
use Rattle.txn_model.proofs.Laws.Tests.{no_true, and_l, or_cases, or_l}
use Rattle.txn_model.proofs.Laws.Lists.{first_of-append, all_follow-append}
use Rattle.txn_model.proofs.Laws.Logs.{closed_parts}
use Rattle.txn_core.specs.Together.{core_allows, is_alone, IsAlone}

pub none_some : {V : Type 0} {v : V} → None ≡ Some v → ⊥
none_some h = cc

pub alone_front : (n p : ℕ) (xs ys : List CoreEntry) → IsAlone n p (xs ++ ys) → IsAlone n p xs
alone_front n p xs ys h = and_l (all_follow (core_allows n p) [] xs) (all_follow (core_allows n p) xs ys) (sym (all_follow-append (core_allows n p) [] xs ys) ∙ h)

-- a list in two pieces is lawful where the first is and the second follows it
pub alone_split : (n p : ℕ) (xs ys : List CoreEntry) → is_alone n p (xs ++ ys) ≡ (is_alone n p xs && all_follow (core_allows n p) xs ys)
alone_split n p xs ys = all_follow-append (core_allows n p) [] xs ys

-- the coordinator's list in two pieces, and another part's
pub log_split : (n p : ℕ) (xs ys : List CoreEntry) → p ≡ 0 → is_alone n p (xs ++ ys) ≡ (all_follow (coord_allows n) [] xs && all_follow (coord_allows n) xs ys)
log_split n p xs ys h = ap (λ q. is_alone n q (xs ++ ys)) h ∙ alone_split n 0 xs ys

pub part_split : (n p : ℕ) (xs ys : List CoreEntry) → (p == 0) ≡ false → is_alone n p (xs ++ ys) ≡ (all_follow part_allows [] xs && all_follow part_allows xs ys)
part_split n p xs ys h = ap (λ b. all_follow (λ c e. if b then coord_allows n c e else part_allows c e) [] (xs ++ ys)) h ∙ all_follow-append part_allows [] xs ys

and_true : (b : Bool) → (b && true) ≡ b
and_true true = refl
and_true false = refl

-- one entry behind the coordinator's list
pub one_follows : (n : ℕ) (xs ys : List CoreEntry) (d : CoreEntry) → length ys ≡ 1 → all_follow (coord_allows n) xs ys ≡ coord_allows n xs (get_or ys 0 d)
one_follows n xs [] d h = absurd (omega (arith, h))
one_follows n xs (e ∷ []) d h = and_true (coord_allows n xs e)
one_follows n xs (e ∷ f ∷ ys) d h = absurd (omega (arith, h))

-- the coordinator's list
pub alone_log : (n : ℕ) (c : List CoreEntry) → IsAlone n 0 c → CoordLawful n c
alone_log n c h = h

pub inside_stays : (xs ys : List CoreEntry) (x : TxnId) → has_inside xs x ≡ true → has_inside (xs ++ ys) x ≡ true
inside_stays xs ys x h = list_any-append (is_inside x) xs ys ∙ or_l (has_inside xs x) (has_inside ys x) h

pub inside_cases : (xs ys : List CoreEntry) (x : TxnId) → has_inside (xs ++ ys) x ≡ true → (has_inside xs x ≡ true) ⊎ (has_inside ys x ≡ true)
inside_cases xs ys x h = or_cases (has_inside xs x) (has_inside ys x) (sym (list_any-append (is_inside x) xs ys) ∙ h)

pub some_cases : {V : Type 0} (a b : Option V) (d : V) → option_or a b ≡ Some d → (a ≡ Some d) ⊎ (b ≡ Some d)
some_cases None b d h = inr h
some_cases (Some v) b d h = inl h

pub first_cases : {V : Type 0} (f : CoreEntry → Option V) (xs ys : List CoreEntry) (d : V) → first_of f (xs ++ ys) ≡ Some d → (first_of f xs ≡ Some d) ⊎ (first_of f ys ≡ Some d)
first_cases f xs ys d h = some_cases (first_of f xs) (first_of f ys) d (sym (first_of-append f xs ys) ∙ h)

or_none : {V : Type 0} (o : Option V) → option_or o None ≡ o
or_none None = refl
or_none (Some v) = refl

or_false : (b : Bool) → (b || false) ≡ b
or_false true = refl
or_false false = refl

-- an entry that closes adds no part
closing_adds_none : (x : TxnId) (p : ℕ) (d : Decision) (e : CoreEntry) → says_closing x e ≡ Some d → is_add x p e ≡ true → ⊥
closing_adds_none x p d core.Plain h k = no_true k
closing_adds_none x p d (core.Inside y) h k = no_true k
closing_adds_none x p d (core.Marker y w) h k = no_true k
closing_adds_none x p d (core.New y) h k = no_true k
closing_adds_none x p d (core.AddPart y q) h k = none_some h
closing_adds_none x p d (core.Committing y) h k = no_true k
closing_adds_none x p d (core.Committed y) h k = no_true k
closing_adds_none x p d (core.Aborting y) h k = no_true k
closing_adds_none x p d (core.Aborted y) h k = no_true k

-- where x is closed, also in flight, each of its parts is added among the settled entries
pub parts_settled : (n : ℕ) (x : TxnId) (p : ℕ) (es fs : List CoreEntry) (d : Decision) → CoordLawful n (es ++ fs) → length fs ≤ 1 → closing_of (es ++ fs) x ≡ Some d → in_parts (es ++ fs) x p ≡ true → in_parts es x p ≡ true
parts_settled n x p es [] d lawful one cl h = subst (λ l. in_parts l x p ≡ true) (append-nil es) h
parts_settled n x p es (e ∷ []) d lawful one cl h =
    elim (first_cases (says_closing x) es (e ∷ []) d cl) [
      | inl before ↦ closed_parts n es (e ∷ []) x d p lawful before h
      | inr now ↦ elim (or_cases (in_parts es x p) (in_parts (e ∷ []) x p) (sym (list_any-append (is_add x p) es (e ∷ [])) ∙ h)) [
        | inl there ↦ there
        | inr new ↦ absurd (closing_adds_none x p d e (sym (or_none (says_closing x e)) ∙ now) (sym (or_false (is_add x p e)) ∙ new))
      ]
    ]
parts_settled n x p es (e ∷ f ∷ fs) d lawful one cl h = absurd (omega (arith, one))
