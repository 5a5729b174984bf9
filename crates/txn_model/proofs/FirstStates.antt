-- The first state is lawful, where the world that was read is.
use Rattle.std.proofs.Common.{◌≡◌, inl, inr, ℕ, zero, suc, ◌+◌, ◌-◌, ◌==◌, ◌≤◌, ◌<◌, arith, eq-eqb, eqb-true, leb-true, le-leb, Bool, true, false, ◌&&◌, not, if◌then◌else◌, List, [], ◌∷◌, ◌++◌, length, length-append, drop, get_or, refl, sym, ap, ◌∙◌, subst}
use Rattle.std.proofs.lemmas.Bool.{cases_lt}
use Rattle.std.proofs.lemmas.List.{get_or_append_left}
use Rattle.txn_model.proofs.Words.{map, codes, nat_le, CoreEntry, TopicEntry, AckEntry, is_sub, World, has, list_at, all_follow, topic_skeletons, ack_skeletons, name_of, NamesLawful, status_of, in_parts, is_open, coord_allows, TopicLawful, marker_of, AckLawful, log_of, part_skeletons, has_inside, Lawful, numbered, is_topic, parts_with, Shaped, LawfulState, names_with, lists_for, world_named, first_state}
use mathlib.Core.List.{IsPrefix}
use Rattle.txn_base.specs.declared.core_entry.CoreEntry.TheVariants as core
use Rattle.txn_model.proofs.Bools.{no_true, and_l, and_r, and_both}
use Rattle.txn_model.proofs.Parts.{numbered_within}
use Rattle.txn_model.proofs.Shapes.{names_grow, shaped_words}
use Rattle.txn_model.proofs.FlightsOver.{no_flights_allowed}

-- ---- Empty lists behind the others are no matter.

empties : (E : Type 0) (ps : List ℕ) (p : ℕ) → list_at (map (λ (q : ℕ). let none : List E = [] in (q, none)) ps) p ≡ []
empties E [] p = refl
empties E (q ∷ ps) p = by_test (q == p) (empties E ps p)
  where
    by_test : (b : Bool) → list_at (map (λ (q : ℕ). let none : List E = [] in (q, none)) ps) p ≡ [] → (if b then [] else list_at (map (λ (q : ℕ). let none : List E = [] in (q, none)) ps) p) ≡ []
    by_test true h = refl
    by_test false h = h

at_within : {E : Type 0} (ls ys : List (ℕ × List E)) (p : ℕ) → list_at ys p ≡ [] → list_at (ls ++ ys) p ≡ list_at ls p
at_within [] ys p h = h
at_within (l ∷ ls) ys p h = ap (λ rest. if l.0 == p then l.1 else rest) (at_within ls ys p h)

-- a part without a list
absent : {E : Type 0} (ls : List (ℕ × List E)) (p : ℕ) → (has (parts_with ls) p ≡ true → ⊥) → list_at ls p ≡ []
absent [] p h = refl
absent (l ∷ ls) p h = by_test (l.0 == p) (p == l.0) refl (λ e. eq-eqb p l.0 (sym (eqb-true l.0 p e))) h (absent ls p)
  where
    by_test : (b c : Bool) → (l.0 == p) ≡ b → ((l.0 == p) ≡ true → c ≡ true) → ((if c then true else has (parts_with ls) p) ≡ true → ⊥) → ((has (parts_with ls) p ≡ true → ⊥) → list_at ls p ≡ []) → (if b then l.1 else list_at ls p) ≡ []
    by_test true c e turn none rest = absurd (none (ap (λ t. if t then true else has (parts_with ls) p) (turn e)))
    by_test false true e turn none rest = absurd (none refl)
    by_test false false e turn none rest = rest none

-- ---- More names allow what fewer do.

pub more_allowed : (n m : ℕ) (c : List CoreEntry) (e : CoreEntry) → n ≤ m → coord_allows n c e ≡ true → coord_allows m c e ≡ true
more_allowed n m c (core.AddPart x p) h a =
    let up : (is_open (status_of c x) && nat_le 1 p && nat_le p n) ≡ true = and_l (is_open (status_of c x) && nat_le 1 p && nat_le p n) (not (in_parts c x p)) a in
    let high : p ≤ n = leb-true p n (and_r (is_open (status_of c x) && nat_le 1 p) (nat_le p n) up) in
    and_both (is_open (status_of c x) && nat_le 1 p && nat_le p m) (not (in_parts c x p))
    (and_both (is_open (status_of c x) && nat_le 1 p) (nat_le p m) (and_l (is_open (status_of c x) && nat_le 1 p) (nat_le p n) up) (le-leb p m (omega (arith, h, high))))
    (and_r (is_open (status_of c x) && nat_le 1 p && nat_le p n) (not (in_parts c x p)) a)
more_allowed n m c core.Plain h a = a
more_allowed n m c (core.Inside x) h a = a
more_allowed n m c (core.Marker x d) h a = a
more_allowed n m c (core.New x) h a = a
more_allowed n m c (core.Committing x) h a = a
more_allowed n m c (core.Committed x) h a = a
more_allowed n m c (core.Aborting x) h a = a
more_allowed n m c (core.Aborted x) h a = a

pub more_follow : (n m : ℕ) (before c : List CoreEntry) → n ≤ m → all_follow (coord_allows n) before c ≡ true → all_follow (coord_allows m) before c ≡ true
more_follow n m before [] h a = refl
more_follow n m before (e ∷ c) h a =
    and_both (coord_allows m before e) (all_follow (coord_allows m) (before ++ e ∷ []) c)
    (more_allowed n m before e h (and_l (coord_allows n before e) (all_follow (coord_allows n) (before ++ e ∷ []) c) a))
    (more_follow n m (before ++ e ∷ []) c h (and_r (coord_allows n before e) (all_follow (coord_allows n) (before ++ e ∷ []) c) a))

-- ---- The names that were keep their numbers.

name_same : (names more : List (List ℕ)) (p : ℕ) → p ≤ length names → name_of (names ++ more) p ≡ name_of names p
name_same names more p h = by_test (p == 0) refl
  where
    below : (p n : ℕ) → p ≤ n → (p ≡ 0 → ⊥) → p - 1 < n
    below p n h z = by_zero p h z
      where
        by_zero : (p : ℕ) → p ≤ n → (p ≡ 0 → ⊥) → p - 1 < n
        by_zero zero h z = absurd (z refl)
        by_zero (suc q) h z = omega (arith, h)

    not_zero : (p == 0) ≡ false → p ≡ 0 → ⊥
    not_zero e z = no_true (sym e ∙ eq-eqb p 0 z)

    by_test : (b : Bool) → (p == 0) ≡ b → (if b then codes "@coordinator" else get_or (names ++ more) (p - 1) []) ≡ (if b then codes "@coordinator" else get_or names (p - 1) [])
    by_test true e = refl
    by_test false e = get_or_append_left names more [] (p - 1) (below p (length names) h (not_zero e))

module _ (w : World) (more : List (List ℕ)) (lawful_names : NamesLawful (w.names ++ more)) (s : Shaped w) (l : Lawful w) where
  named : World
  named = world_named w (w.names ++ more)

  topics_same : (p : ℕ) → list_at (world_named w (w.names ++ more)).topics p ≡ list_at w.topics p
  topics_same p = at_within w.topics (lists_for is_topic (length w.names + 1) (drop (length w.names) (w.names ++ more))) p (empties TopicEntry (numbered is_topic (length w.names + 1) (drop (length w.names) (w.names ++ more))) p)

  subs_same : (p : ℕ) → list_at (world_named w (w.names ++ more)).subs p ≡ list_at w.subs p
  subs_same p = at_within w.subs (lists_for is_sub (length w.names + 1) (drop (length w.names) (w.names ++ more))) p (empties AckEntry (numbered is_sub (length w.names + 1) (drop (length w.names) (w.names ++ more))) p)

  past_names : (test : List ℕ → Bool) (ps : List ℕ) (p : ℕ) → ps ≡ numbered test 1 w.names → length w.names < p → has ps p ≡ true → ⊥
  past_names test ps p e past h =
      let range : (1 ≤ p) × (p < 1 + length w.names) = numbered_within test 1 p w.names (subst (λ qs. has qs p ≡ true) e h) in
      no_room p (length w.names) past range.1
    where
      no_room : (p n : ℕ) → n < p → p < 1 + n → ⊥
      no_room p n a b = omega (arith, a, b)

  part_same : (p : ℕ) → part_skeletons (world_named w (w.names ++ more)) p ≡ part_skeletons w p
  part_same p =
      elim (cases_lt (length w.names) p) [
        | inl past ↦
            both_none (is_sub (name_of (w.names ++ more) p)) (is_sub (name_of w.names p))
            (topics_same p ∙ absent w.topics p (past_names is_topic (parts_with w.topics) p s.topics past)) (subs_same p ∙ absent w.subs p (past_names is_sub (parts_with w.subs) p s.subs past))
            (absent w.topics p (past_names is_topic (parts_with w.topics) p s.topics past)) (absent w.subs p (past_names is_sub (parts_with w.subs) p s.subs past))
        | inr within ↦
            (λ i. if is_sub (name_same w.names more p within i) then ack_skeletons (subs_same p i) else topic_skeletons (topics_same p i))
      ]
    where
      both_none : (b c : Bool) {es es' : List TopicEntry} {a a' : List AckEntry} → es ≡ [] → a ≡ [] → es' ≡ [] → a' ≡ [] → (if b then ack_skeletons a else topic_skeletons es) ≡ (if c then ack_skeletons a' else topic_skeletons es')
      both_none true true e f g h = ap ack_skeletons f ∙ sym (ap ack_skeletons h)
      both_none true false e f g h = ap ack_skeletons f ∙ sym (ap topic_skeletons g)
      both_none false true e f g h = ap topic_skeletons e ∙ sym (ap ack_skeletons h)
      both_none false false e f g h = ap topic_skeletons e ∙ sym (ap topic_skeletons g)

  pub named_lawful : Lawful (world_named w (w.names ++ more))
  named_lawful =
      record {
        names = lawful_names;
        coord = more_follow (length w.names) (length (w.names ++ more)) [] (log_of w) (omega (arith, length-append w.names more)) l.coord;
        topics = λ p. subst TopicLawful (sym (topics_same p)) (l.topics p);
        subs = λ p. subst AckLawful (sym (subs_same p)) (l.subs p);
        registered = λ p x h. l.registered p x (sym (ap (λ k. has_inside k x) (part_same p)) ∙ h);
        decided = λ p x d h. l.decided p x d (sym (ap (λ k. marker_of k x) (part_same p)) ∙ h);
        closed = λ x d p h i. ap (λ k. marker_of k x) (part_same p) ∙ l.closed x d p h i;
      }

words_lawful : (w : World) (words : List (List ℕ)) → NamesLawful (names_with w.names words) → Shaped w → Lawful w → Lawful (world_named w (names_with w.names words))
words_lawful w words names s l =
    let grown : IsPrefix w.names (names_with w.names words) = names_grow w.names words in
    subst (λ ns. Lawful (world_named w ns)) grown.1 (named_lawful w grown.0 (subst NamesLawful (sym grown.1) names) s l)

pub first_lawful : (w : World) (words : List (List ℕ)) → NamesLawful (names_with w.names words) → Shaped w → Lawful w → LawfulState (first_state w words)
first_lawful w words names s l =
    record {
      shaped = shaped_words w words s;
      lawful = words_lawful w words names s l;
      flights = no_flights_allowed (world_named w (names_with w.names words)) (words_lawful w words names s l);
      unrebuilt = record { coord = λ h. refl; topics = λ p h. refl; subs = λ p h. refl };
    }
