-- A world keeps its shape.
use Rattle.std.proofs.Common.{◌≡◌, ℕ, suc, ◌+◌, arith, Bool, true, false, if◌then◌else◌, List, [], ◌∷◌, ◌++◌, length, refl, sym, ap, ◌∙◌, subst, append_assoc}
use Rattle.std.proofs.Math.Seq.{drop-append_seam}
use Rattle.std.proofs.lemmas.List.{append-nil}
use Rattle.txn_model.proofs.Words.{map, is_sub, TopicEntry, AckEntry, World, has, list_at, has_name, Flights, with_kept, EntryBatch, nothing, in_coord, in_topic, in_sub, world_with, numbered, is_topic, parts_with, Shaped, IsFor, names_with, lists_for, world_named}
use mathlib.Core.List.{IsPrefix}
use Rattle.txn_model.proofs.Lists.{parts_with_list, parts_followed}
use Rattle.txn_model.proofs.Prefixes.{map_append}

-- a batch for a part of its kind
pub shaped_with : (b : EntryBatch) (w : World) → Shaped w → IsFor b w.names → Shaped (world_with b w)
shaped_with nothing w s fits = s
shaped_with (in_coord e) w s fits = record { topics = s.topics; subs = s.subs }
shaped_with (in_topic p es) w s fits =
    record { topics = parts_with_list w.topics p (list_at w.topics p ++ es) (subst (λ ps. has ps p ≡ true) (sym s.topics) fits) ∙ s.topics; subs = s.subs }
shaped_with (in_sub p e) w s fits =
    record { topics = s.topics; subs = parts_with_list w.subs p (list_at w.subs p ++ e ∷ []) (subst (λ ps. has ps p ≡ true) (sym s.subs) fits) ∙ s.subs }

-- what a stop keeps
pub shaped_kept : (w : World) (f : Flights) (stays : ℕ → Bool) → Shaped w → Shaped (with_kept w f stays)
shaped_kept w f stays s = record { topics = parts_followed stays f.topics w.topics ∙ s.topics; subs = parts_followed stays f.subs w.subs ∙ s.subs }

-- ---- New names.

numbered_step : (b : Bool) (k : ℕ) (xs ys zs : List ℕ) → xs ≡ ys ++ zs → (if b then k ∷ xs else xs) ≡ (if b then k ∷ ys else ys) ++ zs
numbered_step true k xs ys zs h = ap (λ l. k ∷ l) h
numbered_step false k xs ys zs h = h

numbered_append : (test : List ℕ → Bool) (k n : ℕ) (xs ys : List (List ℕ)) → n ≡ k + length xs → numbered test k (xs ++ ys) ≡ numbered test k xs ++ numbered test n ys
numbered_append test k n [] ys e = ap (λ j. numbered test j ys) (same k n e)
  where
    same : (k n : ℕ) → n ≡ k + 0 → k ≡ n
    same k n e = omega (arith, e)
numbered_append test k n (x ∷ xs) ys e =
    numbered_step (test x) k (numbered test (suc k) (xs ++ ys)) (numbered test (suc k) xs) (numbered test n ys) (numbered_append test (suc k) n xs ys (omega (arith, e)))

parts_for : (E : Type 0) (test : List ℕ → Bool) (k : ℕ) (names : List (List ℕ)) → parts_with (lists_for {E = E} test k names) ≡ numbered test k names
parts_for E test k names = each (numbered test k names)
  where
    each : (ps : List ℕ) → map (λ (l : ℕ × List E). l.0) (map (λ (p : ℕ). let none : List E = [] in (p, none)) ps) ≡ ps
    each [] = refl
    each (p ∷ ps) = ap (λ l. p ∷ l) (each ps)

parts_named : {E : Type 0} (test : List ℕ → Bool) (names more : List (List ℕ)) (ls : List (ℕ × List E)) → parts_with ls ≡ numbered test 1 names
    → parts_with (ls ++ lists_for {E = E} test (length names + 1) more) ≡ numbered test 1 (names ++ more)
parts_named {E} test names more ls h =
    map_append (λ (l : ℕ × List E). l.0) ls (lists_for {E = E} test (length names + 1) more)
    ∙ ap (λ ps. ps ++ parts_with (lists_for {E = E} test (length names + 1) more)) h
    ∙ ap (λ ps. numbered test 1 names ++ ps) (parts_for E test (length names + 1) more)
    ∙ sym (numbered_append test 1 (length names + 1) names more (omega arith))

-- the catalog with new names behind it
pub shaped_named : (w : World) (more : List (List ℕ)) → Shaped w → Shaped (world_named w (w.names ++ more))
shaped_named w more s =
    record {
      topics = ap (λ names. parts_with (w.topics ++ lists_for {E = TopicEntry} is_topic (length w.names + 1) names)) (drop-append_seam w.names more) ∙ parts_named {E = TopicEntry} is_topic w.names more w.topics s.topics;
      subs = ap (λ names. parts_with (w.subs ++ lists_for {E = AckEntry} is_sub (length w.names + 1) names)) (drop-append_seam w.names more) ∙ parts_named {E = AckEntry} is_sub w.names more w.subs s.subs;
    }

-- the words come behind the names
grow_step : (b : Bool) (names : List (List ℕ)) (word : List ℕ) (rest : List (List ℕ) → List (List ℕ)) → ((ns : List (List ℕ)) → IsPrefix ns (rest ns))
    → IsPrefix names (rest (if b then names else names ++ word ∷ []))
grow_step true names word rest h = h names
grow_step false names word rest h =
    let more : IsPrefix (names ++ word ∷ []) (rest (names ++ word ∷ [])) = h (names ++ word ∷ []) in
    (word ∷ more.0, sym (append_assoc names (word ∷ []) more.0) ∙ more.1)

pub names_grow : (names words : List (List ℕ)) → IsPrefix names (names_with names words)
names_grow names [] = ([], append-nil names)
names_grow names (word ∷ words) = grow_step (has_name names word) names word (λ ns. names_with ns words) (λ ns. names_grow ns words)

pub shaped_words : (w : World) (words : List (List ℕ)) → Shaped w → Shaped (world_named w (names_with w.names words))
shaped_words w words s =
    let grown : IsPrefix w.names (names_with w.names words) = names_grow w.names words in
    subst (λ names. Shaped (world_named w names)) grown.1 (shaped_named w grown.0 s)
