-- The visible messages from a place on.
use Rattle.std.proofs.Common.{◌≡◌, ℕ, zero, suc, ◌+◌, ◌<◌, ◌≤◌, min, Bool, true, false, if◌then◌else◌, List, [], ◌∷◌, ◌++◌, length, get_or, take, drop, drop-cons, Some, None, refl, sym, ap, ◌∙◌, subst, arith}
use Rattle.std.specs.Prelude.{Option, All, nat_le, filter, option_to_list}
use Rattle.std.proofs.lemmas.Bool.{le-leb, lt-leb}
use Rattle.std.proofs.lemmas.List.Elements.{All-append, All-cons, All-nil, All-head, All-tail}
use Rattle.txn_base.specs.declared.txn.Decision.{Decision}
use Rattle.txn_base.specs.declared.txn.Decision.TheVariants.{Commit, Abort}
use Rattle.txn_base.specs.declared.messages.Message.{Message}
use Rattle.txn_base.specs.declared.core_entry.CoreEntry.{CoreEntry}
use Rattle.txn_base.specs.declared.entry.TopicEntry.{TopicEntry}
use Rattle.txn_base.specs.declared.entry.TopicEntry.TheVariants as topic
use Rattle.txn_base.specs.declared.limits.Limits.{Limits}
use Rattle.txn_model.specs.Skeletons.{topic_skeleton, topic_skeletons}
use Rattle.txn_model.specs.Topic.{marker_of, is_undecided, limit_from, limit_of, shown_where, shows, read_slice, cut_short, first_and_fitting}
use Rattle.txn_model.specs.Entries.{message_at}
use Rattle.txn_model.proofs.Laws.Topics.{visible_split, visible_from, visible_fused}
use Rattle.txn_buffer.specs.Reading.{rest_of, visible_later}

-- what an entry shows stands at its place
shows_at : (P : ℕ → Type 0) (all : List CoreEntry) (k : ℕ) (e : TopicEntry) → P k → All (λ m. P m.place) (option_to_list (shows all k e))
shows_at P all k (topic.Plain body) h = All-cons (λ (m : Message). P m.place) (message_at k body.bytes) [] h (All-nil (λ (m : Message). P m.place))
shows_at P all k (topic.Opened x body) h = at (marker_of all x)
  where
    at : (o : Option Decision) → All (λ m. P m.place) (option_to_list (shown_where o (message_at k body.bytes)))
    at None = All-nil (λ (m : Message). P m.place)
    at (Some Abort) = All-nil (λ (m : Message). P m.place)
    at (Some Commit) = All-cons (λ (m : Message). P m.place) (message_at k body.bytes) [] h (All-nil (λ (m : Message). P m.place))
shows_at P all k (topic.Commit x) h = All-nil (λ (m : Message). P m.place)
shows_at P all k (topic.Abort x) h = All-nil (λ (m : Message). P m.place)

-- the visible messages from place k on stand at k or later
pub all_later : (all : List CoreEntry) (j k : ℕ) (es : List TopicEntry) → j ≤ k → All (λ m. j ≤ m.place) (visible_from all k es)
all_later all j k [] h = All-nil (λ (m : Message). j ≤ m.place)
all_later all j k (e ∷ es) h =
    subst (All (λ m. j ≤ m.place)) (sym (visible_split all k e es)) (pick (is_undecided all (topic_skeleton e)) (all_later all j (suc k) es (omega (arith, h))))
  where
    pick : (b : Bool) → All (λ m. j ≤ m.place) (visible_from all (suc k) es) → All (λ m. j ≤ m.place) (if b then [] else option_to_list (shows all k e) ++ visible_from all (suc k) es)
    pick true later = All-nil (λ (m : Message). j ≤ m.place)
    pick false later = All-append (λ (m : Message). j ≤ m.place) (option_to_list (shows all k e)) (visible_from all (suc k) es) (shows_at (λ p. j ≤ p) all k e h) later

limit_above : (all : List CoreEntry) (k : ℕ) (es : List CoreEntry) → k ≤ limit_from all k es
limit_above all k [] = omega arith
limit_above all k (e ∷ es) = pick (is_undecided all e) (limit_above all (suc k) es)
  where
    pick : (b : Bool) → suc k ≤ limit_from all (suc k) es → k ≤ (if b then k else limit_from all (suc k) es)
    pick true h = omega arith
    pick false h = omega (arith, h)

limit_below : (all : List CoreEntry) (k : ℕ) (es : List CoreEntry) → limit_from all k es ≤ k + length es
limit_below all k [] = omega arith
limit_below all k (e ∷ es) = pick (is_undecided all e) (limit_below all (suc k) es)
  where
    pick : (b : Bool) → limit_from all (suc k) es ≤ suc k + length es → (if b then k else limit_from all (suc k) es) ≤ k + suc (length es)
    pick true h = omega arith
    pick false h = omega (arith, h)

-- and below the limit
visible_below : (all : List CoreEntry) (k n : ℕ) (es : List TopicEntry) → limit_from all k (topic_skeletons es) ≤ n → All (λ m. m.place < n) (visible_from all k es)
visible_below all k n [] h = All-nil (λ (m : Message). m.place < n)
visible_below all k n (e ∷ es) h =
    subst (All (λ m. m.place < n)) (sym (visible_split all k e es)) (pick (is_undecided all (topic_skeleton e)) h (visible_below all (suc k) n es) (limit_above all (suc k) (topic_skeletons es)))
  where
    pick : (b : Bool) → (if b then k else limit_from all (suc k) (topic_skeletons es)) ≤ n → (limit_from all (suc k) (topic_skeletons es) ≤ n → All (λ m. m.place < n) (visible_from all (suc k) es))
        → suc k ≤ limit_from all (suc k) (topic_skeletons es) → All (λ m. m.place < n) (if b then [] else option_to_list (shows all k e) ++ visible_from all (suc k) es)
    pick true h next above = All-nil (λ (m : Message). m.place < n)
    pick false h next above = All-append (λ (m : Message). m.place < n) (option_to_list (shows all k e)) (visible_from all (suc k) es) (shows_at (λ p. p < n) all k e (omega (arith, h, above))) (next h)

-- below the limit nothing is undecided
below_limit : (all : List CoreEntry) (j i : ℕ) (es : List TopicEntry) (d : TopicEntry) → j + i < limit_from all j (topic_skeletons es) → (i < length es) × (is_undecided all (topic_skeleton (get_or es i d)) ≡ false)
below_limit all j i [] d h = absurd (omega (arith, h))
below_limit all j i (e ∷ es) d h = pick (is_undecided all (topic_skeleton e)) i refl h (λ n. below_limit all (suc j) n es d)
  where
    pick : (b : Bool) (i : ℕ) → is_undecided all (topic_skeleton e) ≡ b → j + i < (if b then j else limit_from all (suc j) (topic_skeletons es))
        → ((n : ℕ) → suc j + n < limit_from all (suc j) (topic_skeletons es) → (n < length es) × (is_undecided all (topic_skeleton (get_or es n d)) ≡ false))
        → (i < suc (length es)) × (is_undecided all (topic_skeleton (get_or (e ∷ es) i d)) ≡ false)
    pick true i is h next = absurd (omega (arith, h))
    pick false zero is h next = (omega arith, is)
    pick false (suc n) is h next = let one = next n (omega (arith, h)) in (omega (arith, one.0), one.1)

-- from the limit on nothing is visible
at_limit : (all : List CoreEntry) (j i : ℕ) (es : List TopicEntry) → limit_from all j (topic_skeletons es) ≡ j + i → visible_from all (j + i) (drop i es) ≡ []
at_limit all j zero [] h = refl
at_limit all j (suc i) [] h = refl
at_limit all j zero (e ∷ es) h = visible_split all (j + 0) e es ∙ pick (is_undecided all (topic_skeleton e)) h (limit_above all (suc j) (topic_skeletons es))
  where
    pick : (b : Bool) → (if b then j else limit_from all (suc j) (topic_skeletons es)) ≡ j + 0 → suc j ≤ limit_from all (suc j) (topic_skeletons es)
        → (if b then [] else option_to_list (shows all (j + 0) e) ++ visible_from all (suc (j + 0)) es) ≡ []
    pick true h above = refl
    pick false h above = absurd (omega (arith, h, above))
at_limit all j (suc i) (e ∷ es) h = ap (λ n. visible_from all n (drop i es)) (omega arith) ∙ at_limit all (suc j) i es (pick (is_undecided all (topic_skeleton e)) h)
  where
    pick : (b : Bool) → (if b then j else limit_from all (suc j) (topic_skeletons es)) ≡ j + suc i → limit_from all (suc j) (topic_skeletons es) ≡ suc j + i
    pick true h = absurd (omega (arith, h))
    pick false h = omega (arith, h)

filter_all : (n : ℕ) (ms : List Message) → All (λ m. n ≤ m.place) ms → filter (λ m. nat_le n m.place) ms ≡ ms
filter_all n [] h = refl
filter_all n (m ∷ ms) h =
    ap (λ b. if b then m ∷ filter (λ m. nat_le n m.place) ms else filter (λ m. nat_le n m.place) ms) (le-leb n m.place (All-head (λ (m : Message). n ≤ m.place) m ms h))
    ∙ ap (λ l. m ∷ l) (filter_all n ms (All-tail (λ (m : Message). n ≤ m.place) m ms h))

filter_none : (n : ℕ) (ms : List Message) → All (λ m. m.place < n) ms → filter (λ m. nat_le n m.place) ms ≡ []
filter_none n [] h = refl
filter_none n (m ∷ ms) h =
    ap (λ b. if b then m ∷ filter (λ m. nat_le n m.place) ms else filter (λ m. nat_le n m.place) ms) (lt-leb n m.place (All-head (λ (m : Message). m.place < n) m ms h))
    ∙ filter_none n ms (All-tail (λ (m : Message). m.place < n) m ms h)

filter_append : (n : ℕ) (xs ys : List Message) → filter (λ m. nat_le n m.place) (xs ++ ys) ≡ filter (λ m. nat_le n m.place) xs ++ filter (λ m. nat_le n m.place) ys
filter_append n [] ys = refl
filter_append n (m ∷ xs) ys = pick (nat_le n m.place) (filter_append n xs ys)
  where
    pick : (b : Bool) → filter (λ m. nat_le n m.place) (xs ++ ys) ≡ filter (λ m. nat_le n m.place) xs ++ filter (λ m. nat_le n m.place) ys
        → (if b then m ∷ filter (λ m. nat_le n m.place) (xs ++ ys) else filter (λ m. nat_le n m.place) (xs ++ ys)) ≡ (if b then m ∷ filter (λ m. nat_le n m.place) xs else filter (λ m. nat_le n m.place) xs) ++ filter (λ m. nat_le n m.place) ys
    pick true h = ap (λ l. m ∷ l) h
    pick false h = h

-- up to the limit, the visible messages from a place on are those of the entries from there on
later_are : (all : List CoreEntry) (j i : ℕ) (es : List TopicEntry) → j + i ≤ limit_from all j (topic_skeletons es) → filter (λ m. nat_le (j + i) m.place) (visible_from all j es) ≡ visible_from all (j + i) (drop i es)
later_are all j zero es h =
    filter_all (j + 0) (visible_from all j es) (all_later all (j + 0) j es (omega arith)) ∙ ap (λ n. visible_from all n es) (omega arith)
later_are all j (suc i) [] h = refl
later_are all j (suc i) (e ∷ es) h =
    ap (filter (λ m. nat_le (j + suc i) m.place)) (visible_split all j e es)
    ∙ pick (is_undecided all (topic_skeleton e)) h (λ k. ap (λ n. filter (λ m. nat_le n m.place) (visible_from all (suc j) es)) (omega arith) ∙ later_are all (suc j) i es k ∙ ap (λ n. visible_from all n (drop i es)) (omega arith))
  where
    pick : (b : Bool) → j + suc i ≤ (if b then j else limit_from all (suc j) (topic_skeletons es))
        → (suc j + i ≤ limit_from all (suc j) (topic_skeletons es) → filter (λ m. nat_le (j + suc i) m.place) (visible_from all (suc j) es) ≡ visible_from all (j + suc i) (drop i es))
        → filter (λ m. nat_le (j + suc i) m.place) (if b then [] else option_to_list (shows all j e) ++ visible_from all (suc j) es) ≡ visible_from all (j + suc i) (drop i es)
    pick true h next = absurd (omega (arith, h))
    pick false h next =
        filter_append (j + suc i) (option_to_list (shows all j e)) (visible_from all (suc j) es)
        ∙ ap (λ l. l ++ filter (λ m. nat_le (j + suc i) m.place) (visible_from all (suc j) es)) (filter_none (j + suc i) (option_to_list (shows all j e)) (shows_at (λ p. p < j + suc i) all j e (omega arith)))
        ∙ next (omega (arith, h))

-- ---- A read.

pub limit_within : (es : List TopicEntry) → limit_of es ≤ length es
limit_within es = let h = limit_below (topic_skeletons es) 0 (topic_skeletons es) in omega (arith, h, lengths es)
  where
    lengths : (es : List TopicEntry) → length (topic_skeletons es) ≡ length es
    lengths [] = refl
    lengths (e ∷ es) = ap suc (lengths es)

pub visible_begins : (es : List TopicEntry) (first : ℕ) → first ≤ limit_of es → visible_later es first ≡ visible_from (topic_skeletons es) first (drop first es)
visible_begins es first h =
    ap (filter (λ m. nat_le first m.place)) (visible_fused es) ∙ ap (λ n. filter (λ m. nat_le n m.place) (visible_from (topic_skeletons es) 0 es)) (omega arith) ∙ later_are (topic_skeletons es) 0 first es (omega (arith, h)) ∙ ap (λ n. visible_from (topic_skeletons es) n (drop first es)) (omega arith)

pub ends : (es : List TopicEntry) (place : ℕ) → limit_of es ≡ place → visible_from (topic_skeletons es) place (drop place es) ≡ []
ends es place h = ap (λ n. visible_from (topic_skeletons es) n (drop place es)) (omega arith) ∙ at_limit (topic_skeletons es) 0 place es (h ∙ omega arith)

pub nothing_later : (es : List TopicEntry) (first : ℕ) → limit_of es ≤ first → visible_later es first ≡ []
nothing_later es first h =
    ap (filter (λ m. nat_le first m.place)) (visible_fused es) ∙ filter_none first (visible_from (topic_skeletons es) 0 es) (visible_below (topic_skeletons es) 0 first es h)

pub one_more : (es : List TopicEntry) (place : ℕ) (d : TopicEntry) → place < limit_of es
    → visible_from (topic_skeletons es) place (drop place es) ≡ option_to_list (shows (topic_skeletons es) place (get_or es place d)) ++ visible_from (topic_skeletons es) (suc place) (drop (suc place) es)
one_more es place d h =
    let all = topic_skeletons es in
    let one : (place < length es) × (is_undecided all (topic_skeleton (get_or es place d)) ≡ false) = below_limit all 0 place es d (omega (arith, h)) in
    ap (visible_from all place) (drop-cons es place d one.0) ∙ visible_split all place (get_or es place d) (drop (suc place) es)
    ∙ ap (λ b. if b then [] else option_to_list (shows all place (get_or es place d)) ++ visible_from all (suc place) (drop (suc place) es)) one.1

pub take_nothing : {X : Type 0} (n : ℕ) → ◌≡◌ {A = List X} (take n []) []
take_nothing zero = refl
take_nothing (suc n) = refl

pub empty_slice : (limits : Limits) (es : List TopicEntry) (first max : ℕ) → limit_of es ≤ first → read_slice limits es first max ≡ []
empty_slice limits es first max h =
    ap (cut_short limits max) (nothing_later es first h) ∙ ap (first_and_fitting limits.read_bytes) (take_nothing (min max limits.read_messages))

pub whole_slice : (limits : Limits) (es : List TopicEntry) (first max : ℕ) → first ≤ limit_of es
    → rest_of limits.read_bytes 0 (min max limits.read_messages) [] (visible_from (topic_skeletons es) first (drop first es)) ≡ read_slice limits es first max
whole_slice limits es first max h = ap (cut_short limits max) (sym (visible_begins es first h))
