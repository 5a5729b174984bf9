-- Files stand for one world.
use Rattle.std.proofs.Common.{◌≡◌, ℕ, suc, ◌==◌, ◌≤◌, ◌<◌, arith, eq-eqb, eqb-true, Bool, true, false, if◌then◌else◌, List, [], ◌∷◌, ◌++◌, refl, sym, ap, ◌∙◌, subst}
use Rattle.txn_model.proofs.Words.{All, map, is_sub, World, has, list_at, numbered, is_topic, topic_parts, sub_parts, parts_with}
use Rattle.std.proofs.lemmas.List.Elements.{All-head, All-tail}
use Rattle.txn_base.specs.Disk.{Files}
use Rattle.txn_base.specs.Decoded.{coord_entry_of, topic_entry_of, ack_entry_of}
use Rattle.txn_base.specs.Frames.{Record, Batch, Stands, records}
use Rattle.txn_base.specs.Records.{IsCoordRecord, IsAckRecord}
use Rattle.txn_base.proofs.Laws.{stands_one}
use Rattle.txn_model.specs.Sound.{ledger_file, RecordsOf, StandsForEntries, IsBareRecord, StandsFor}
use Rattle.txn_model.proofs.Bools.{no_true}
use Rattle.txn_model.proofs.Decodings.{coord_of, topic_of_record, ack_of_record}

-- the entries are read off the records
pub entries_of_records : {E : Type 0} (is : Record → E → Type 0) (of : Record → E) → ((r : Record) (e : E) → is r e → of r ≡ e) → (rs : List Record) (es : List E) → RecordsOf is rs es → map of rs ≡ es
entries_of_records is of one [] [] h = refl
entries_of_records is of one [] (e ∷ es) h = absurd h
entries_of_records is of one (r ∷ rs) [] h = absurd h
entries_of_records is of one (r ∷ rs) (e ∷ es) h = λ i. one r e h.0 i ∷ entries_of_records is of one rs es h.1 i

-- bytes stand for one list of entries
one_list : {E : Type 0} (is : Record → E → Type 0) (of : Record → E) → ((r : Record) (e : E) → is r e → of r ≡ e) → (bytes : List ℕ) (es es' : List E) → StandsForEntries is bytes es → StandsForEntries is bytes es' → es ≡ es'
one_list is of one bytes es es' s s' =
    sym (entries_of_records is of one (records s.batches) es s.each)
    ∙ ap (λ (bs : List Batch). map of (records bs)) (stands_one bytes s.batches s'.batches s.stands s'.stands)
    ∙ entries_of_records is of one (records s'.batches) es' s'.each

-- ---- Lists beside the same parts, each once.

abbrev Rising : ℕ → List ℕ → Type 0
Rising k [] = Unit {0}
Rising k (q ∷ qs) = (k ≤ q) × Rising (suc q) qs

rising_from : (k j : ℕ) (qs : List ℕ) → k ≤ j → Rising j qs → Rising k qs
rising_from k j [] h r = tt
rising_from k j (q ∷ qs) h r = (omega (arith, h, r.0), r.1)

numbered_rising : (test : List ℕ → Bool) (k : ℕ) (names : List (List ℕ)) → Rising k (numbered test k names)
numbered_rising test k [] = tt
numbered_rising test k (name ∷ names) = by_test (test name) k (numbered test (suc k) names) (numbered_rising test (suc k) names)
  where
    by_test : (b : Bool) (k : ℕ) (qs : List ℕ) → Rising (suc k) qs → Rising k (if b then k ∷ qs else qs)
    by_test true k qs r = (omega arith, r)
    by_test false k qs r = rising_from k (suc k) qs (omega arith) r

rising_has : (k p : ℕ) (qs : List ℕ) → Rising k qs → has qs p ≡ true → k ≤ p
rising_has k p [] r h = absurd (no_true h)
rising_has k p (q ∷ qs) r h = by_test (p == q) refl h (λ i. rising_has (suc q) p qs r.1 i)
  where
    by_test : (b : Bool) → (p == q) ≡ b → (if b then true else has qs p) ≡ true → (has qs p ≡ true → suc q ≤ p) → k ≤ p
    by_test true e h more = let same = eqb-true p q e in omega (arith, same, r.0)
    by_test false e h more = let rest = more h in omega (arith, rest, r.0)

self : (p : ℕ) → (p == p) ≡ true
self p = eq-eqb p p refl

not_below : (a b : ℕ) → a < b → (a == b) ≡ false
not_below a b h = by_test (a == b) refl
  where
    never : a ≡ b → ⊥
    never e = omega (arith, e, h)

    by_test : (c : Bool) → (a == b) ≡ c → c ≡ false
    by_test true e = absurd (never (eqb-true a b e))
    by_test false e = refl

abbrev head_or : ℕ → List ℕ → ℕ
head_or d [] = d
head_or d (x ∷ xs) = x

abbrev tail_of : List ℕ → List ℕ
tail_of [] = []
tail_of (x ∷ xs) = xs

lists_one : {E : Type 0} (k : ℕ) (xs ys : List (ℕ × List E)) → parts_with xs ≡ parts_with ys → Rising k (parts_with xs) → ((p : ℕ) → has (parts_with xs) p ≡ true → list_at xs p ≡ list_at ys p) → xs ≡ ys
lists_one k [] [] e r same = refl
lists_one k [] (y ∷ ys) e r same = absurd (never e)
  where
    never : {q : ℕ} {qs : List ℕ} → [] ≡ q ∷ qs → ⊥
    never h = cc
lists_one k (x ∷ xs) [] e r same = absurd (never e)
  where
    never : {q : ℕ} {qs : List ℕ} → q ∷ qs ≡ [] → ⊥
    never h = cc
lists_one k (x ∷ xs) (y ∷ ys) e r same =
    let here : x.0 ≡ y.0 = ap (head_or 0) e in
    let one : x.1 ≡ y.1 =
    sym (ap (λ b. if b then x.1 else list_at xs x.0) (self x.0))
    ∙ same x.0 (ap (λ b. if b then true else has (parts_with xs) x.0) (self x.0))
    ∙ ap (λ b. if b then y.1 else list_at ys x.0) (eq-eqb y.0 x.0 (sym here)) in
    let rest : xs ≡ ys =
    lists_one (suc x.0) xs ys (ap tail_of e) r.1
    (λ p h. let above : suc x.0 ≤ p = rising_has (suc x.0) p (parts_with xs) r.1 h in
    sym (ap (λ b. if b then x.1 else list_at xs p) (not_below x.0 p above))
    ∙ same p (among (p == x.0) (has (parts_with xs) p) h)
    ∙ ap (λ b. if b then y.1 else list_at ys p) (not_below y.0 p (subst (λ q. q < p) here above))) in
    λ i. (here i, one i) ∷ rest i
  where
    among : (b c : Bool) → c ≡ true → (if b then true else c) ≡ true
    among true c h = refl
    among false c h = h

-- ---- Worlds.

pub stands_for_one : (names : List (List ℕ)) (files : Files) (a b : World) → StandsFor names files a → StandsFor names files b → a ≡ b
stands_for_one names files a b s t =
    let same_names : a.names ≡ b.names = s.named ∙ sym t.named in
    let same_coord : a.coord ≡ b.coord = one_list IsCoordRecord coord_entry_of coord_of (files (ledger_file 0)) a.coord b.coord s.coord t.coord in
    let topics_there : parts_with a.topics ≡ topic_parts names = s.shaped.topics ∙ ap topic_parts s.named in
    let subs_there : parts_with a.subs ≡ sub_parts names = s.shaped.subs ∙ ap sub_parts s.named in
    let same_topics : a.topics ≡ b.topics =
    lists_one 1 a.topics b.topics (topics_there ∙ sym (t.shaped.topics ∙ ap topic_parts t.named)) (subst (Rising 1) (sym topics_there) (numbered_rising is_topic 1 names))
    (λ p h. let there : has (topic_parts names) p ≡ true = subst (λ ps. has ps p ≡ true) topics_there h in
    one_list IsBareRecord topic_entry_of topic_of_record (files (ledger_file p)) (list_at a.topics p) (list_at b.topics p) (s.topics p there) (t.topics p there)) in
    let same_subs : a.subs ≡ b.subs =
    lists_one 1 a.subs b.subs (subs_there ∙ sym (t.shaped.subs ∙ ap sub_parts t.named)) (subst (Rising 1) (sym subs_there) (numbered_rising is_sub 1 names))
    (λ p h. let there : has (sub_parts names) p ≡ true = subst (λ ps. has ps p ≡ true) subs_there h in
    one_list IsAckRecord ack_entry_of ack_of_record (files (ledger_file p)) (list_at a.subs p) (list_at b.subs p) (s.subs p there) (t.subs p there)) in
    λ i. record { names = same_names i; coord = same_coord i; topics = same_topics i; subs = same_subs i }

-- ---- Bytes that stand for batches.

pub entries_of_batches : {E : Type 0} (is : Record → E → Type 0) (of : Record → E) → ((r : Record) (e : E) → is r e → of r ≡ e) → (bytes : List ℕ) (batches : List Batch) (es : List E)
    → StandsForEntries is bytes es → Stands bytes batches → map of (records batches) ≡ es
entries_of_batches is of one bytes batches es s stands =
    ap (λ (bs : List Batch). map of (records bs)) (stands_one bytes batches s.batches stands s.stands) ∙ entries_of_records is of one (records s.batches) es s.each

pub records_with : {E : Type 0} (is : Record → E → Type 0) (of : Record → E) (rs : List Record) → All (λ r. is r (of r)) rs → RecordsOf is rs (map of rs)
records_with is of [] all = tt
records_with is of (r ∷ rs) all = (All-head (λ r. is r (of r)) r rs all, records_with is of rs (All-tail (λ r. is r (of r)) r rs all))

pub stands_with : {E : Type 0} (is : Record → E → Type 0) (of : Record → E) (bytes : List ℕ) (batches : List Batch) → Stands bytes batches → All (λ r. is r (of r)) (records batches) → StandsForEntries is bytes (map of (records batches))
stands_with is of bytes batches stands all = record { batches = batches; stands = stands; each = records_with is of (records batches) all }

pub records_behind : {E : Type 0} (is : Record → E → Type 0) (rs more : List Record) (es also : List E) → RecordsOf is rs es → RecordsOf is more also → RecordsOf is (rs ++ more) (es ++ also)
records_behind is [] more [] also h k = k
records_behind is [] more (e ∷ es) also h k = absurd h
records_behind is (r ∷ rs) more [] also h k = absurd h
records_behind is (r ∷ rs) more (e ∷ es) also h k = (h.0, records_behind is rs more es also h.1 k)
