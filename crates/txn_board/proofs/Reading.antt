-- What a reader's answer is, by the words that it looked at.
use Rattle.std.proofs.Common.{◌≡◌, ◌≢◌, ℕ, ◌+◌, ◌<◌, arith, ◌==◌, Bool, true, false, not, ◌&&◌, if◌then◌else◌, List, [], ◌∷◌, ◌++◌, Option, Some, None, refl, sym, ap, ◌∙◌, subst, append_assoc}
use Rattle.std.specs.Prelude.{map, nat_le}
use Rattle.std.proofs.lemmas.Bool.{eq-eqb, ne_eqb, lt-ltb, le-ltb}
use Rattle.std.proofs.lemmas.List.{append-nil}
use native.Mathlib.Decide.{dec_lt}
use Rattle.txn_base.specs.declared.core_entry.CoreEntry.{CoreEntry}
use Rattle.txn_base.specs.declared.txn.Status.{Status}
use Rattle.txn_base.specs.declared.txn.Status.TheVariants.{Open}
use Rattle.txn_model.specs.Deadlines.{txn}
use Rattle.txn_board.specs.declared.view.Load.{Load}
use Rattle.txn_board.specs.declared.view.View.{View}
use Rattle.txn_board.specs.declared.words.Word.{Word}
use Rattle.txn_board.specs.declared.words.Word.TheVariants.{Registered, Decided, Done}
use Rattle.txn_board.specs.Words.{window, IsIn, is_in, offset, word_at, as_bit, is_bit_set, tells}
use Rattle.txn_board.specs.Rows.{list_in, low_in, loaded, with_loads}
use Rattle.txn_board.specs.Rule.{EachInTurn, Found, AreFound, ShowsOn, ShowOn}
use Rattle.txn_board.specs.Seen.{place_of, last_value, bit_seen, status_by, words_of, word_places, looked, Looked, Reads, ReadsStatus}
use Rattle.txn_board.proofs.Marks.{in_by, in_of}

last_append : (b : ℕ) (xs ys : List Load) (place : ℕ) → last_value b (xs ++ ys) place ≡ last_value (last_value b xs place) ys place
last_append b [] ys place = refl
last_append b (x ∷ xs) ys place = last_append (if x.place == place then x.value else b) xs ys place

places_append : (xs ys : List Load) → map place_of (xs ++ ys) ≡ map place_of xs ++ map place_of ys
places_append [] ys = refl
places_append (x ∷ xs) ys = ap (λ (l : List ℕ). x.place ∷ l) (places_append xs ys)

-- ---- Loads that showed what stood.

pub none_more : (v : View) → with_loads [] v ≡ v
none_more v = ap (λ ms. record { rows = v.rows; loads = ms }) (append-nil v.loads)

pub turn_append : (fact : ℕ → ℕ → View → Type 0) (v : View) (xs ys : List Load) → EachInTurn fact v xs → EachInTurn fact (with_loads xs v) ys → EachInTurn fact v (xs ++ ys)
turn_append fact v [] ys a b = subst (λ u. EachInTurn fact u ys) (none_more v) b
turn_append fact v (x ∷ xs) ys a b =
    let onto : with_loads (x ∷ xs) v ≡ with_loads xs (loaded x.place x.value v) = ap (λ ms. record { rows = v.rows; loads = ms }) (sym (append_assoc v.loads (x ∷ []) xs)) in
    (a.0, turn_append fact (loaded x.place x.value v) xs ys a.1 (subst (λ u. EachInTurn fact u ys) onto b))

pub found_one : (made : Type 0) (lists : List (List CoreEntry)) (x : ℕ) (w : Word) (n : ℕ) (v : View) → Looked made lists x w n v → made → AreFound lists v (looked lists x w n)
found_one made lists x w n v k m = go (is_in (low_in lists) window x) refl
  where
    go : (b : Bool) → is_in (low_in lists) window x ≡ b → AreFound lists v (if b then record { place = word_at (low_in lists) x w; value = n } ∷ [] else [])
    go true i = (k.found m (in_of (low_in lists) window x i), tt)
    go false i = tt

pub shows_one : (made : Type 0) (lists : List (List CoreEntry)) (x : ℕ) (w : Word) (n : ℕ) (v : View) → Looked made lists x w n v → ShowOn v (looked lists x w n)
shows_one made lists x w n v k = go (is_in (low_in lists) window x) refl
  where
    go : (b : Bool) → is_in (low_in lists) window x ≡ b → ShowOn v (if b then record { place = word_at (low_in lists) x w; value = n } ∷ [] else [])
    go true i = (k.grows (in_of (low_in lists) window x i), tt)
    go false i = tt

module _ (made : Type 0) (lists : List (List CoreEntry)) (x : ℕ) where
  last_hit : (b : ℕ) (w : Word) (n : ℕ) → is_in (low_in lists) window x ≡ true → last_value b (looked lists x w n) (word_at (low_in lists) x w) ≡ n
  last_hit b w n i = ap (λ t. last_value b (if t then record { place = word_at (low_in lists) x w; value = n } ∷ [] else []) (word_at (low_in lists) x w)) i ∙ ap (λ t. if t then n else b) (eq-eqb (word_at (low_in lists) x w) (word_at (low_in lists) x w) refl)

  last_miss : (b : ℕ) (w v : Word) (n : ℕ) → offset w ≢ offset v → last_value b (looked lists x w n) (word_at (low_in lists) x v) ≡ b
  last_miss b w v n away = go (is_in (low_in lists) window x)
    where
      go : (t : Bool) → last_value b (if t then record { place = word_at (low_in lists) x w; value = n } ∷ [] else []) (word_at (low_in lists) x v) ≡ b
      go true = ap (λ t. if t then n else b) (ne_eqb (word_at (low_in lists) x w) (word_at (low_in lists) x v) (λ e. away (omega (arith, e))))
      go false = refl

  places_one : (w : Word) (n : ℕ) → map place_of (looked lists x w n) ≡ word_places lists x (w ∷ [])
  places_one w n = go (is_in (low_in lists) window x)
    where
      go : (t : Bool) → map place_of (if t then record { place = word_at (low_in lists) x w; value = n } ∷ [] else []) ≡ (if t then word_at (low_in lists) x w ∷ [] else [])
      go true = refl
      go false = refl

  places_more : (w : Word) (ws : List Word) → word_places lists x (w ∷ []) ++ word_places lists x ws ≡ word_places lists x (w ∷ ws)
  places_more w ws = go (is_in (low_in lists) window x)
    where
      go : (t : Bool) → (if t then word_at (low_in lists) x w ∷ [] else []) ++ (if t then map (word_at (low_in lists) x) ws else []) ≡ (if t then word_at (low_in lists) x w ∷ map (word_at (low_in lists) x) ws else [])
      go true = refl
      go false = refl

  -- a load in the window
  pub looked_at : (w : Word) (n : ℕ) (v v1 : View) → IsIn (low_in lists) window x → v1 ≡ loaded (word_at (low_in lists) x w) n v → v1 ≡ with_loads (looked lists x w n) v
  looked_at w n v v1 inside e = e ∙ sym (ap (λ t. with_loads (if t then record { place = word_at (low_in lists) x w; value = n } ∷ [] else []) v) (in_by (low_in lists) window x inside))

  pub looked_in : (w : Word) (n : ℕ) (v : View) → IsIn (low_in lists) window x → (made → Found lists (word_at (low_in lists) x w) n v) → ShowsOn (word_at (low_in lists) x w) n v.loads → Looked made lists x w n v
  looked_in w n v inside found on = record { below = λ lt. absurd (omega (arith, lt, inside.least)); past = λ le. absurd (omega (arith, le, inside.most)); found = λ m i. found m; grows = λ i. on }

  -- a word that was looked at, whose last load is this
  bit_of : (loads : List Load) (w : Word) (n p : ℕ) (u : View) → p < 64 → Looked made lists x w n u → (is_in (low_in lists) window x ≡ true → last_value 0 loads (word_at (low_in lists) x w) ≡ n) → (is_in (low_in lists) window x ≡ false → loads ≡ [])
      → bit_seen lists loads x w p ≡ is_bit_set n p
  bit_of loads w n p u small k last none = go (dec_lt x (low_in lists))
    where
      bit : (b : Bool) → b ≡ (as_bit b == 1)
      bit true = refl
      bit false = refl

      go : Dec (x < low_in lists) → bit_seen lists loads x w p ≡ is_bit_set n p
      go (yes lt) =
          ap (λ t. if t then tells (list_in lists) (txn x) w p else is_bit_set (last_value 0 loads (word_at (low_in lists) x w)) p) (lt-ltb x (low_in lists) lt)
          ∙ (bit (tells (list_in lists) (txn x) w p) ∙ sym (ap (λ m. m == 1) (k.below lt p small)))
      go (no m) =
          ap (λ t. if t then tells (list_in lists) (txn x) w p else is_bit_set (last_value 0 loads (word_at (low_in lists) x w)) p) (le-ltb x (low_in lists) (omega (arith, m)))
          ∙ ap (λ v. is_bit_set v p) (side (dec_lt x (low_in lists + window)))
        where
          side : Dec (x < low_in lists + window) → last_value 0 loads (word_at (low_in lists) x w) ≡ n
          side (yes l) = last (in_by (low_in lists) window x (record { least = omega (arith, m); most = l }))
          side (no q) =
              ap (λ ls. last_value 0 ls (word_at (low_in lists) x w)) (none (ap (λ b. nat_le (low_in lists) x && b) (le-ltb x (low_in lists + window) (omega (arith, q))) ∙ off (nat_le (low_in lists) x)))
              ∙ sym (k.past (omega (arith, q)))
            where
              off : (b : Bool) → (b && false) ≡ false
              off true = refl
              off false = refl

  no_looked : (w : Word) (n : ℕ) → is_in (low_in lists) window x ≡ false → looked lists x w n ≡ []
  no_looked w n i = ap (λ t. if t then record { place = word_at (low_in lists) x w; value = n } ∷ [] else []) i

  pub one_bit : (w : Word) (n p : ℕ) (u : View) → p < 64 → Looked made lists x w n u → bit_seen lists (looked lists x w n) x w p ≡ is_bit_set n p
  one_bit w n p u small k = bit_of (looked lists x w n) w n p u small k (last_hit 0 w n) (no_looked w n)

  pub one_reads : (w : Word) (n : ℕ) (v v' : View) → Looked made lists x w n v → v' ≡ with_loads (looked lists x w n) v → Reads made lists x (w ∷ []) (looked lists x w n) v v'
  one_reads w n v v' k e = record { view = e; places = places_one w n; found = found_one made lists x w n v k; grows = shows_one made lists x w n v k }

  abbrev pub two : ℕ → ℕ → List Load
  two a b = looked lists x Registered a ++ looked lists x Decided b

  abbrev three : ℕ → ℕ → ℕ → List Load
  three a b c = two a b ++ looked lists x Done c

  two_none : (a b : ℕ) → is_in (low_in lists) window x ≡ false → two a b ≡ []
  two_none a b i = ap (λ l. l ++ looked lists x Decided b) (no_looked Registered a i) ∙ no_looked Decided b i

  two_places : (a b : ℕ) → map place_of (two a b) ≡ word_places lists x (Registered ∷ Decided ∷ [])
  two_places a b =
      places_append (looked lists x Registered a) (looked lists x Decided b)
      ∙ (ap (λ l. l ++ map place_of (looked lists x Decided b)) (places_one Registered a) ∙ (ap (λ l. word_places lists x (Registered ∷ []) ++ l) (places_one Decided b) ∙ places_more Registered (Decided ∷ [])))

  three_places : (a b c : ℕ) → map place_of (three a b c) ≡ word_places lists x (Registered ∷ Decided ∷ Done ∷ [])
  three_places a b c =
      places_append (two a b) (looked lists x Done c) ∙ (ap (λ l. l ++ map place_of (looked lists x Done c)) (two_places a b) ∙ (ap (λ l. word_places lists x (Registered ∷ Decided ∷ []) ++ l) (places_one Done c) ∙ last_of_all (is_in (low_in lists) window x)))
    where
      last_of_all : (t : Bool) → (if t then map (word_at (low_in lists) x) (Registered ∷ Decided ∷ []) else []) ++ (if t then map (word_at (low_in lists) x) (Done ∷ []) else []) ≡ (if t then map (word_at (low_in lists) x) (Registered ∷ Decided ∷ Done ∷ []) else [])
      last_of_all true = refl
      last_of_all false = refl

  two_registered : (a b p : ℕ) (u : View) → p < 64 → Looked made lists x Registered a u → bit_seen lists (two a b) x Registered p ≡ is_bit_set a p
  two_registered a b p u small k =
      bit_of (two a b) Registered a p u small k
      (λ i. last_append 0 (looked lists x Registered a) (looked lists x Decided b) (word_at (low_in lists) x Registered) ∙ (last_miss (last_value 0 (looked lists x Registered a) (word_at (low_in lists) x Registered)) Decided Registered b (λ e. omega (arith, e)) ∙ last_hit 0 Registered a i))
      (two_none a b)

  two_decided : (a b p : ℕ) (u : View) → p < 64 → Looked made lists x Decided b u → bit_seen lists (two a b) x Decided p ≡ is_bit_set b p
  two_decided a b p u small k =
      bit_of (two a b) Decided b p u small k
      (λ i. last_append 0 (looked lists x Registered a) (looked lists x Decided b) (word_at (low_in lists) x Decided) ∙ last_hit (last_value 0 (looked lists x Registered a) (word_at (low_in lists) x Decided)) Decided b i)
      (two_none a b)

  three_none : (a b c : ℕ) → is_in (low_in lists) window x ≡ false → three a b c ≡ []
  three_none a b c i = ap (λ l. l ++ looked lists x Done c) (two_none a b i) ∙ no_looked Done c i

  -- a word of the first two, behind which the third was looked at
  three_old : (a b c p : ℕ) (w : Word) (n : ℕ) (u : View) → offset Done ≢ offset w → p < 64 → Looked made lists x w n u → (is_in (low_in lists) window x ≡ true → last_value 0 (two a b) (word_at (low_in lists) x w) ≡ n)
      → bit_seen lists (three a b c) x w p ≡ is_bit_set n p
  three_old a b c p w n u away small k last =
      bit_of (three a b c) w n p u small k (λ i. last_append 0 (two a b) (looked lists x Done c) (word_at (low_in lists) x w) ∙ (last_miss (last_value 0 (two a b) (word_at (low_in lists) x w)) Done w c away ∙ last i)) (three_none a b c)

  three_done : (a b c p : ℕ) (u : View) → p < 64 → Looked made lists x Done c u → bit_seen lists (three a b c) x Done p ≡ is_bit_set c p
  three_done a b c p u small k =
      bit_of (three a b c) Done c p u small k (λ i. last_append 0 (two a b) (looked lists x Done c) (word_at (low_in lists) x Done) ∙ last_hit (last_value 0 (two a b) (word_at (low_in lists) x Done)) Done c i) (three_none a b c)

  -- ---- The status.

  abbrev pub IsStatus : View → View → Option Status → Type 0
  IsStatus v v' s = (loads : List Load) × ReadsStatus made lists x s loads v v'

  pub two_view : (a b : ℕ) (v v1 v2 : View) → v1 ≡ with_loads (looked lists x Registered a) v → v2 ≡ with_loads (looked lists x Decided b) v1 → v2 ≡ with_loads (two a b) v
  two_view a b v v1 v2 e f =
      f ∙ (ap (with_loads (looked lists x Decided b)) e ∙ ap (λ ms. record { rows = v.rows; loads = ms }) (append_assoc v.loads (looked lists x Registered a) (looked lists x Decided b)))

  two_found : (a b : ℕ) (v v1 : View) → Looked made lists x Registered a v → Looked made lists x Decided b v1 → v1 ≡ with_loads (looked lists x Registered a) v → made → AreFound lists v (two a b)
  two_found a b v v1 k l e m =
      turn_append (Found lists) v (looked lists x Registered a) (looked lists x Decided b) (found_one made lists x Registered a v k m) (subst (λ u. AreFound lists u (looked lists x Decided b)) e (found_one made lists x Decided b v1 l m))

  two_shows : (a b : ℕ) (v v1 : View) → Looked made lists x Registered a v → Looked made lists x Decided b v1 → v1 ≡ with_loads (looked lists x Registered a) v → ShowOn v (two a b)
  two_shows a b v v1 k l e =
      turn_append (λ place value u. ShowsOn place value u.loads) v (looked lists x Registered a) (looked lists x Decided b) (shows_one made lists x Registered a v k) (subst (λ u. ShowOn u (looked lists x Decided b)) e (shows_one made lists x Decided b v1 l))

  pub not_begun : (a : ℕ) (v v1 : View) → Looked made lists x Registered a v → v1 ≡ with_loads (looked lists x Registered a) v → is_bit_set a 0 ≡ false → IsStatus v v1 None
  not_begun a v v1 k e h =
      let ls = looked lists x Registered a in (
        ls,
        record {
          reads = one_reads Registered a v v1 k e;
          is = sym (ap (λ t. status_by t (bit_seen lists ls x Decided 0) (bit_seen lists ls x Decided 1) (bit_seen lists ls x Done 0)) (one_bit Registered a 0 v (omega arith) k ∙ h));
        },
      )

  pub still_open : (a b : ℕ) (v v1 v2 : View) → Looked made lists x Registered a v → Looked made lists x Decided b v1 → v1 ≡ with_loads (looked lists x Registered a) v → v2 ≡ with_loads (looked lists x Decided b) v1
      → is_bit_set a 0 ≡ true → is_bit_set b 0 ≡ false → is_bit_set b 1 ≡ false → IsStatus v v2 (Some Open)
  still_open a b v v1 v2 k l e f h c d =
      let ls = two a b in (
        ls,
        record {
          reads = record { view = two_view a b v v1 v2 e f; places = two_places a b; found = two_found a b v v1 k l e; grows = two_shows a b v v1 k l e };
          is = sym (ap (λ t. status_by t (bit_seen lists ls x Decided 0) (bit_seen lists ls x Decided 1) (bit_seen lists ls x Done 0)) (two_registered a b 0 v (omega arith) k ∙ h)
              ∙ (ap (λ t. status_by true t (bit_seen lists ls x Decided 1) (bit_seen lists ls x Done 0)) (two_decided a b 0 v1 (omega arith) l ∙ c) ∙ ap (λ t. status_by true false t (bit_seen lists ls x Done 0)) (two_decided a b 1 v1 (omega arith) l ∙ d)));
        },
      )

  -- what isn't a commit is an abort
  pub other_way : (sent lost shut : Bool) → ((sent ≡ false) × (lost ≡ false) → ⊥) → status_by true sent (not sent) shut ≡ status_by true sent lost shut
  other_way true lost shut m = refl
  other_way false true shut m = refl
  other_way false false shut m = absurd (m (refl, refl))

  decided_words : (sent lost shut : Bool) → ((sent ≡ false) × (lost ≡ false) → ⊥) → words_of (status_by true sent lost shut) ≡ Registered ∷ Decided ∷ Done ∷ []
  decided_words true lost true m = refl
  decided_words true lost false m = refl
  decided_words false true true m = refl
  decided_words false true false m = refl
  decided_words false false shut m = absurd (m (refl, refl))

  pub once_decided : (a b c : ℕ) (v v1 v2 v3 : View) → Looked made lists x Registered a v → Looked made lists x Decided b v1 → Looked made lists x Done c v2
      → v1 ≡ with_loads (looked lists x Registered a) v → v2 ≡ with_loads (looked lists x Decided b) v1 → v3 ≡ with_loads (looked lists x Done c) v2
      → is_bit_set a 0 ≡ true → ((is_bit_set b 0 ≡ false) × (is_bit_set b 1 ≡ false) → ⊥) → IsStatus v v3 (status_by true (is_bit_set b 0) (is_bit_set b 1) (is_bit_set c 0))
  once_decided a b c v v1 v2 v3 k l m e f g h d =
      let ls = three a b c in (
        ls,
        record {
          reads = record {
            view = g ∙ (ap (with_loads (looked lists x Done c)) front ∙ ap (λ ms. record { rows = v.rows; loads = ms }) (append_assoc v.loads (two a b) (looked lists x Done c)));
            places = three_places a b c ∙ ap (word_places lists x) (sym (decided_words (is_bit_set b 0) (is_bit_set b 1) (is_bit_set c 0) d));
            found = λ q. turn_append (Found lists) v (two a b) (looked lists x Done c) (two_found a b v v1 k l e q) (subst (λ u. AreFound lists u (looked lists x Done c)) front (found_one made lists x Done c v2 m q));
            grows = turn_append (λ place value u. ShowsOn place value u.loads) v (two a b) (looked lists x Done c) (two_shows a b v v1 k l e) (subst (λ u. ShowOn u (looked lists x Done c)) front (shows_one made lists x Done c v2 m));
          };
          is = sym (ap (λ t. status_by t (bit_seen lists ls x Decided 0) (bit_seen lists ls x Decided 1) (bit_seen lists ls x Done 0))
              (three_old a b c 0 Registered a v (λ q. omega (arith, q)) (omega arith) k
              (λ i. last_append 0 (looked lists x Registered a) (looked lists x Decided b) (word_at (low_in lists) x Registered) ∙ (last_miss (last_value 0 (looked lists x Registered a) (word_at (low_in lists) x Registered)) Decided Registered b (λ q. omega (arith, q)) ∙ last_hit 0 Registered a i)) ∙ h)
              ∙ (ap (λ t. status_by true t (bit_seen lists ls x Decided 1) (bit_seen lists ls x Done 0)) (three_old a b c 0 Decided b v1 (λ q. omega (arith, q)) (omega arith) l dec)
              ∙ (ap (λ t. status_by true (is_bit_set b 0) t (bit_seen lists ls x Done 0)) (three_old a b c 1 Decided b v1 (λ q. omega (arith, q)) (omega arith) l dec)
              ∙ ap (λ t. status_by true (is_bit_set b 0) (is_bit_set b 1) t) (three_done a b c 0 v2 (omega arith) m))));
        },
      )
    where
      front : v2 ≡ with_loads (two a b) v
      front = two_view a b v v1 v2 e f

      dec : is_in (low_in lists) window x ≡ true → last_value 0 (two a b) (word_at (low_in lists) x Decided) ≡ b
      dec i = last_append 0 (looked lists x Registered a) (looked lists x Decided b) (word_at (low_in lists) x Decided) ∙ last_hit (last_value 0 (looked lists x Registered a) (word_at (low_in lists) x Decided)) Decided b i
