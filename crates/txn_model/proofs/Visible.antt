-- The visible messages in one go: entry by entry, up to the first undecided one. They are the same, and so what is visible
-- begins what is visible later, and their places are the visible places.
use Rattle.std.proofs.Common.{◌≡◌, ℕ, zero, suc, ◌+◌, ◌<◌, ◌≤◌, arith, Bool, true, false, if◌then◌else◌, List, [], ◌∷◌, ◌++◌, length, take, Some, None, refl, sym, ap, ◌∙◌, subst}
use mathlib.Core.List.{IsPrefix}
use Rattle.txn_base.specs.declared.core_entry.CoreEntry.TheVariants as core
use Rattle.txn_base.specs.declared.entry.TopicEntry.TheVariants as topic
use Rattle.txn_model.proofs.Words.{option_to_list, Option, map, is_none, Decision, Commit, Abort, Message, CoreEntry, TopicEntry, topic_skeleton, topic_skeletons, message_at, message_of, marks, marker_of, is_undecided, limit_from, limit_of, shown_where, shows, shown_from, visible_of, shown_place, visible_places_from, visible_places}
use Rattle.txn_model.proofs.Bools.{no_true}
use Rattle.txn_model.proofs.Prefixes.{first_stays, map_append}

-- A message by the marker of its transaction: shown where it is a commit, passed over where it is an abort; and
-- where there is none, the limit stands here, and neither it nor the rest is shown.
abbrev pub shown : Option Decision → Message → List Message → List Message
shown (Some Commit) m rest = m ∷ rest
shown (Some Abort) m rest = rest
shown None m rest = []

-- By its kind, where all are the whole list, an entry's message before the rest: shown where it is plain, by the marker
-- where it is of a transaction, and left out where the entry is a marker.
abbrev pub shown_by : List CoreEntry → CoreEntry → Message → List Message → List Message
shown_by all core.Plain m rest = m ∷ rest
shown_by all (core.Inside x) m rest = shown (marker_of all x) m rest
shown_by all _ m rest = rest

-- From place k on, where all are the whole list, the visible messages.
abbrev pub visible_from : List CoreEntry → ℕ → List TopicEntry → List Message
visible_from all k [] = []
visible_from all k (e ∷ es) = shown_by all (topic_skeleton e) (message_of k e) (visible_from all (suc k) es)

shown_split : (o : Option Decision) (m : Message) (rest : List Message) → shown o m rest ≡ (if is_none o then [] else option_to_list (shown_where o m) ++ rest)
shown_split None m rest = refl
shown_split (Some Commit) m rest = refl
shown_split (Some Abort) m rest = refl

-- nothing from an undecided entry on, and else what it shows and the rest
pub visible_split : (all : List CoreEntry) (k : ℕ) (e : TopicEntry) (es : List TopicEntry) →
    visible_from all k (e ∷ es) ≡ (if is_undecided all (topic_skeleton e) then [] else option_to_list (shows all k e) ++ visible_from all (suc k) es)
visible_split all k (topic.Plain body) es = refl
visible_split all k (topic.Opened x body) es = shown_split (marker_of all x) (message_at k body.bytes) (visible_from all (suc k) es)
visible_split all k (topic.Commit x) es = refl
visible_split all k (topic.Abort x) es = refl

-- ---- The limit.

pick_above : (b : Bool) (k m : ℕ) → k ≤ m → k ≤ (if b then k else m)
pick_above true k m h = omega arith
pick_above false k m h = h

pub limit_above : (all : List CoreEntry) (k : ℕ) (es : List CoreEntry) → k ≤ limit_from all k es
limit_above all k [] = omega arith
limit_above all k (e ∷ es) =
    let h : suc k ≤ limit_from all (suc k) es = limit_above all (suc k) es in pick_above (is_undecided all e) k (limit_from all (suc k) es) (omega (arith, h))

-- ---- The visible messages are what the entries below the limit show.

-- of the entries from k on, those below the limit
below : (all : List CoreEntry) (k : ℕ) (es : List TopicEntry) (m : ℕ) → limit_from all k (topic_skeletons es) ≡ k + m → visible_from all k es ≡ shown_from all k (take m es)
below all k [] zero h = refl
below all k [] (suc m) h = refl
below all k (e ∷ es) zero h =
    visible_split all k e es ∙ pick (is_undecided all (topic_skeleton e)) h (limit_above all (suc k) (topic_skeletons es))
  where
    pick : (b : Bool) → (if b then k else limit_from all (suc k) (topic_skeletons es)) ≡ k + 0 → suc k ≤ limit_from all (suc k) (topic_skeletons es)
        → (if b then [] else option_to_list (shows all k e) ++ visible_from all (suc k) es) ≡ []
    pick true h above = refl
    pick false h above = absurd (omega (arith, h, above))
below all k (e ∷ es) (suc m) h =
    visible_split all k e es ∙ pick (is_undecided all (topic_skeleton e)) h (below all (suc k) es m)
  where
    pick : (b : Bool) → (if b then k else limit_from all (suc k) (topic_skeletons es)) ≡ k + suc m
        → (limit_from all (suc k) (topic_skeletons es) ≡ suc k + m → visible_from all (suc k) es ≡ shown_from all (suc k) (take m es))
        → (if b then [] else option_to_list (shows all k e) ++ visible_from all (suc k) es) ≡ option_to_list (shows all k e) ++ shown_from all (suc k) (take m es)
    pick true h rest = absurd (omega (arith, h))
    pick false h rest = ap (λ l. option_to_list (shows all k e) ++ l) (rest (omega (arith, h)))

pub visible_fused : (es : List TopicEntry) → visible_of es ≡ visible_from (topic_skeletons es) 0 es
visible_fused es = sym (below (topic_skeletons es) 0 es (limit_of es) (omega arith))

-- ---- The limit lies within the list; before it stands no undecided message, and one stands at it.

pub limit_within : (all : List CoreEntry) (k : ℕ) (es : List TopicEntry) → limit_from all k (topic_skeletons es) ≤ k + length es
limit_within all k [] = omega arith
limit_within all k (e ∷ es) = pick (is_undecided all (topic_skeleton e)) (limit_within all (suc k) es)
  where
    pick : (b : Bool) → limit_from all (suc k) (topic_skeletons es) ≤ suc k + length es
        → (if b then k else limit_from all (suc k) (topic_skeletons es)) ≤ k + suc (length es)
    pick true rest = omega arith
    pick false rest = omega (arith, rest)

pub decided_below : (all : List CoreEntry) (k : ℕ) (before : List TopicEntry) (e : TopicEntry) (after : List TopicEntry)
    → k + length before < limit_from all k (topic_skeletons (before ++ e ∷ after)) → is_undecided all (topic_skeleton e) ≡ false
decided_below all k [] e after h = pick (is_undecided all (topic_skeleton e)) h
  where
    pick : (b : Bool) → k + 0 < (if b then k else limit_from all (suc k) (topic_skeletons after)) → b ≡ false
    pick true h = absurd (omega (arith, h))
    pick false h = refl
decided_below all k (x ∷ before) e after h = pick (is_undecided all (topic_skeleton x)) h (decided_below all (suc k) before e after)
  where
    pick : (b : Bool) → k + suc (length before) < (if b then k else limit_from all (suc k) (topic_skeletons (before ++ e ∷ after)))
        → (suc k + length before < limit_from all (suc k) (topic_skeletons (before ++ e ∷ after)) → is_undecided all (topic_skeleton e) ≡ false)
        → is_undecided all (topic_skeleton e) ≡ false
    pick true h rest = absurd (omega (arith, h))
    pick false h rest = rest (omega (arith, h))

pub undecided_at : (all : List CoreEntry) (k : ℕ) (before : List TopicEntry) (e : TopicEntry) (after : List TopicEntry)
    → k + length before ≡ limit_from all k (topic_skeletons (before ++ e ∷ after)) → is_undecided all (topic_skeleton e) ≡ true
undecided_at all k [] e after h = pick (is_undecided all (topic_skeleton e)) h (limit_above all (suc k) (topic_skeletons after))
  where
    pick : (b : Bool) → k + 0 ≡ (if b then k else limit_from all (suc k) (topic_skeletons after)) → suc k ≤ limit_from all (suc k) (topic_skeletons after)
        → b ≡ true
    pick true h above = refl
    pick false h above = absurd (omega (arith, h, above))
undecided_at all k (x ∷ before) e after h = pick (is_undecided all (topic_skeleton x)) h (undecided_at all (suc k) before e after)
  where
    pick : (b : Bool) → k + suc (length before) ≡ (if b then k else limit_from all (suc k) (topic_skeletons (before ++ e ∷ after)))
        → (suc k + length before ≡ limit_from all (suc k) (topic_skeletons (before ++ e ∷ after)) → is_undecided all (topic_skeleton e) ≡ true)
        → is_undecided all (topic_skeleton e) ≡ true
    pick true h rest = absurd (omega (arith, h))
    pick false h rest = rest (omega (arith, h))

-- ---- What is visible begins what is visible later, and the limit never falls.

cons_prefix : (m : Message) (xs ys : List Message) → IsPrefix xs ys → IsPrefix (m ∷ xs) (m ∷ ys)
cons_prefix m xs ys p = (p.0, ap (λ l. m ∷ l) p.1)

shown_longer : (o o' : Option Decision) (m : Message) (xs ys : List Message) → ((d : Decision) → o ≡ Some d → o' ≡ Some d) → IsPrefix xs ys → IsPrefix (shown o m xs) (shown o' m ys)
shown_longer None o' m xs ys stays p = (shown o' m ys, refl)
shown_longer (Some Commit) o' m xs ys stays p = subst (λ q. IsPrefix (m ∷ xs) (shown q m ys)) (sym (stays Commit refl)) (cons_prefix m xs ys p)
shown_longer (Some Abort) o' m xs ys stays p = subst (λ q. IsPrefix xs (shown q m ys)) (sym (stays Abort refl)) p

longer : (all more : List CoreEntry) (k : ℕ) (es rest : List TopicEntry) → IsPrefix (visible_from all k es) (visible_from (all ++ more) k (es ++ rest))
longer all more k [] rest = (visible_from (all ++ more) k rest, refl)
longer all more k (topic.Plain body ∷ es) rest = cons_prefix (message_at k body.bytes) (visible_from all (suc k) es) (visible_from (all ++ more) (suc k) (es ++ rest)) (longer all more (suc k) es rest)
longer all more k (topic.Opened x body ∷ es) rest =
    shown_longer (marker_of all x) (marker_of (all ++ more) x) (message_at k body.bytes) (visible_from all (suc k) es) (visible_from (all ++ more) (suc k) (es ++ rest))
    (λ d h. first_stays (marks x) all more d h) (longer all more (suc k) es rest)
longer all more k (topic.Commit x ∷ es) rest = longer all more (suc k) es rest
longer all more k (topic.Abort x ∷ es) rest = longer all more (suc k) es rest

pub visible_longer : (es more : List TopicEntry) → IsPrefix (visible_of es) (visible_of (es ++ more))
visible_longer es more =
    subst (λ ms. IsPrefix ms (visible_of (es ++ more))) (sym (visible_fused es)) (subst (IsPrefix (visible_from (topic_skeletons es) 0 es)) (sym (visible_fused (es ++ more)))
    (subst (λ all. IsPrefix (visible_from (topic_skeletons es) 0 es) (visible_from all 0 (es ++ more))) (sym (map_append topic_skeleton es more)) (longer (topic_skeletons es) (topic_skeletons more) 0 es more)))

none_before : (o o' : Option Decision) → ((d : Decision) → o ≡ Some d → o' ≡ Some d) → is_none o' ≡ true → is_none o ≡ true
none_before None o' stays h = refl
none_before (Some d) o' stays h = absurd (no_true (ap is_none (sym (stays d refl)) ∙ h))

-- what has no marker later has none before
undecided_before : (all more : List CoreEntry) (e : CoreEntry) → is_undecided (all ++ more) e ≡ true → is_undecided all e ≡ true
undecided_before all more (core.Inside x) h = none_before (marker_of all x) (marker_of (all ++ more) x) (λ d k. first_stays (marks x) all more d k) h
undecided_before all more core.Plain h = h
undecided_before all more (core.Marker x d) h = h
undecided_before all more (core.New x) h = h
undecided_before all more (core.AddPart x p) h = h
undecided_before all more (core.Committing x) h = h
undecided_before all more (core.Committed x) h = h
undecided_before all more (core.Aborting x) h = h
undecided_before all more (core.Aborted x) h = h

limit_step : (b b' : Bool) (k m m' : ℕ) → (b' ≡ true → b ≡ true) → m ≤ m' → k ≤ m' → (if b then k else m) ≤ (if b' then k else m')
limit_step true b' k m m' before h j = pick_above b' k m' j
limit_step false true k m m' before h j = absurd (no_true (before refl))
limit_step false false k m m' before h j = h

limit_longer_from : (all more : List CoreEntry) (k : ℕ) (es rest : List CoreEntry) → limit_from all k es ≤ limit_from (all ++ more) k (es ++ rest)
limit_longer_from all more k [] rest = limit_above (all ++ more) k rest
limit_longer_from all more k (e ∷ es) rest =
    let h : suc k ≤ limit_from (all ++ more) (suc k) (es ++ rest) = limit_above (all ++ more) (suc k) (es ++ rest) in
    limit_step (is_undecided all e) (is_undecided (all ++ more) e) k (limit_from all (suc k) es) (limit_from (all ++ more) (suc k) (es ++ rest))
    (undecided_before all more e) (limit_longer_from all more (suc k) es rest) (omega (arith, h))

-- the limit never falls
pub limit_longer : (es more : List TopicEntry) → limit_of es ≤ limit_of (es ++ more)
limit_longer es more =
    subst (λ all. limit_of es ≤ limit_from all 0 all) (sym (map_append topic_skeleton es more)) (limit_longer_from (topic_skeletons es) (topic_skeletons more) 0 (topic_skeletons es) (topic_skeletons more))

-- ---- Their places.

abbrev places_of : List Message → List ℕ
places_of ms = map (λ m. m.place) ms

shown_places : (o : Option Decision) (k : ℕ) (body : List ℕ) (rest : List Message) (places : List ℕ) → places_of rest ≡ places → places_of (shown o (message_at k body) rest) ≡ shown_place o k places
shown_places (Some Commit) k body rest places h = ap (λ l. k ∷ l) h
shown_places (Some Abort) k body rest places h = h
shown_places None k body rest places h = refl

from : (all : List CoreEntry) (k : ℕ) (es : List TopicEntry) → places_of (visible_from all k es) ≡ visible_places_from all k (topic_skeletons es)
from all k [] = refl
from all k (topic.Plain body ∷ es) = ap (λ l. k ∷ l) (from all (suc k) es)
from all k (topic.Opened x body ∷ es) = shown_places (marker_of all x) k body.bytes (visible_from all (suc k) es) (visible_places_from all (suc k) (topic_skeletons es)) (from all (suc k) es)
from all k (topic.Commit x ∷ es) = from all (suc k) es
from all k (topic.Abort x ∷ es) = from all (suc k) es

pub places_are : (es : List TopicEntry) → places_of (visible_of es) ≡ visible_places (topic_skeletons es)
places_are es = ap places_of (visible_fused es) ∙ from (topic_skeletons es) 0 es
