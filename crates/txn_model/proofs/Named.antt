-- A name that the catalog has, its number, and its kind.
use Rattle.std.proofs.Common.{◌≡◌, ℕ, zero, suc, ◌+◌, ◌-◌, ◌==◌, ◌≤◌, ◌<◌, arith, eq-eqb, eqb-true, Bool, true, false, ◌&&◌, if◌then◌else◌, List, [], ◌∷◌, ◌++◌, length, length-append, Some, None, refl, sym, ap, ◌∙◌, subst, get_or}
use Rattle.txn_model.proofs.Words.{Option, option_map, position, bytes_eq, codes, nat_lt, not, ◌||◌, has, all_follow, part_of, name_of, has_name, name_allows, NamesLawful, is_name, is_sub, topic_of, numbered}
use Rattle.std.proofs.lemmas.Bool.{ltb-true}
use Rattle.std.proofs.lemmas.Slice.Eq.{bytes_eq-Decides}
use Rattle.std.proofs.lemmas.List.Quantifiers.{position-Some}
use Rattle.txn_model.proofs.Bools.{and_l, and_r, none_some}
use Rattle.txn_model.proofs.LawfulSteps.{part_or}

same_bytes : (xs ys : List ℕ) → bytes_eq xs ys ≡ true → xs ≡ ys
same_bytes xs ys h = (bytes_eq-Decides xs ys).0 h

-- the name at this number among those from k on
pub numbered_has : (test : List ℕ → Bool) (k i p : ℕ) (names : List (List ℕ)) → p ≡ k + i → i < length names → test (get_or names i []) ≡ true → has (numbered test k names) p ≡ true
numbered_has test k i p [] e h t = absurd (never i h)
  where
    never : (i : ℕ) → i < 0 → ⊥
    never i h = omega (arith, h)
numbered_has test k zero p (name ∷ names) e h t =
    ap (λ b. has (if b then k ∷ numbered test (suc k) names else numbered test (suc k) names) p) t ∙ ap (λ b. if b then true else has (numbered test (suc k) names) p) (eq-eqb p k (plus_none k p e))
  where
    plus_none : (k p : ℕ) → p ≡ k + 0 → p ≡ k
    plus_none k p e = omega (arith, e)
numbered_has test k (suc i) p (name ∷ names) e h t = by_test (test name) (p == k) (numbered_has test (suc k) i p names (omega (arith, e)) (omega (arith, h)) t)
  where
    by_test : (b c : Bool) → has (numbered test (suc k) names) p ≡ true → has (if b then k ∷ numbered test (suc k) names else numbered test (suc k) names) p ≡ true
    by_test true c found = among (p == k) (has (numbered test (suc k) names) p) found
      where
        among : (b c : Bool) → c ≡ true → (if b then true else c) ≡ true
        among true c h = refl
        among false c h = h
    by_test false c found = found

-- the name of this number, counted from 1
name_at : (names : List (List ℕ)) (p : ℕ) → 1 ≤ p → name_of names p ≡ get_or names (p - 1) []
name_at names p h = by_test (p == 0) refl
  where
    never : (p : ℕ) → 1 ≤ p → p ≡ 0 → ⊥
    never p h e = omega (arith, h, e)

    by_test : (b : Bool) → (p == 0) ≡ b → name_of names p ≡ get_or names (p - 1) []
    by_test true e = absurd (never p h (eqb-true p 0 e))
    by_test false e = ap (λ b. if b then codes "@coordinator" else get_or names (p - 1) []) e

-- a part from 1 to the number of names is one of the kind of its name
pub named_part : (test : List ℕ → Bool) (names : List (List ℕ)) (p : ℕ) → 1 ≤ p → p ≤ length names → test (name_of names p) ≡ true → has (numbered test 1 names) p ≡ true
named_part test names p low high t =
    numbered_has test 1 (p - 1) p names (omega (arith, low)) (omega (arith, low, high)) (subst (λ name. test name ≡ true) (name_at names p low) t)

-- what a catalog says of a name that it has
pub record Known (names : List (List ℕ)) (name : List ℕ) (p : ℕ) : Type 0 where
  pub low : 1 ≤ p
  pub high : p ≤ length names
  pub named : name_of names p ≡ name

known_by : (names : List (List ℕ)) (name : List ℕ) (o : Option ℕ) (p : ℕ) → position (bytes_eq name) names ≡ o → option_map suc o ≡ Some p → Known names name p
known_by names name None p e h = absurd (none_some h)
known_by names name (Some i) p e h =
    let is : suc i ≡ p = ap (part_or 0) h in
    let at = position-Some (bytes_eq name) names i [] e in
    record {
      low = omega (arith, is);
      high = let within = at.0 in omega (arith, is, within);
      named = name_at names p (omega (arith, is)) ∙ (ap (λ j. get_or names j []) (before i p is) ∙ sym (same_bytes name (get_or names i []) at.1));
    }
  where
    before : (i p : ℕ) → suc i ≡ p → p - 1 ≡ i
    before i p e = omega (arith, e)

pub known : (names : List (List ℕ)) (name : List ℕ) (p : ℕ) → part_of names name ≡ Some p → Known names name p
known names name p h = known_by names name (position (bytes_eq name) names) p refl h

-- ---- There are at most 62 names.

name_bound : (before : List (List ℕ)) (names : List (List ℕ)) → length before ≤ 62 → all_follow name_allows before names ≡ true → length before + length names ≤ 62
name_bound before [] few h = omega (arith, few)
name_bound before (name ∷ names) few h =
    let room : length before < 62 = ltb-true (length before) 62 (and_r (is_name name && not (has_name before name) && (not (is_sub name) || has_name before (topic_of name))) (nat_lt (length before) 62) (and_l (name_allows before name) (all_follow name_allows (before ++ name ∷ []) names) h)) in
    let rest : length (before ++ name ∷ []) + length names ≤ 62 = name_bound (before ++ name ∷ []) names (omega (arith, room, length-append before (name ∷ []))) (and_r (name_allows before name) (all_follow name_allows (before ++ name ∷ []) names) h) in
    omega (arith, rest, length-append before (name ∷ []))

pub few_names : (names : List (List ℕ)) → NamesLawful names → length names ≤ 62
few_names names h = let most = name_bound [] names (omega arith) h in omega (arith, most)
