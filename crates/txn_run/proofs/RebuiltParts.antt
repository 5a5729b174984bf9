-- Whether a part of an engine isn't rebuilt, in its table.
use Rattle.std.proofs.Common.{◌≡◌, ◌↔◌, ℕ, suc, ◌<◌, ◌≤◌, ◌==◌, Bool, true, false, true≢false, not, List, [], ◌∷◌, All, IsTrue, if◌then◌else◌, refl, sym, ap, ◌∙◌, arith}
use Rattle.std.proofs.lemmas.Bool.Decides.{nat_tests}
use Rattle.std.proofs.lemmas.List.Elements.{All-nil, All-cons, All-head, All-tail}
use Rattle.txn_buffer.specs.View.{TopicView}
use Rattle.txn_engine.specs.Table.{table_of, unrebuilt_from}
use Rattle.txn_engine.specs.View.{EngineView, IsWhole}
use Rattle.txn_run.specs.Told.{AllRebuilt, SomeUnrebuilt}

no_topic_by : (e whole : Bool) (rest : Bool) → IsTrue whole → rest ≡ false → (if e then not whole else rest) ≡ false
no_topic_by true whole rest is later = ap not is
no_topic_by false whole rest is later = later

no_topic : (k : ℕ) (ts : List TopicView) → All (λ t. IsTrue t.whole) ts → (p : ℕ) → unrebuilt_from k ts p ≡ false
no_topic k [] all p = refl
no_topic k (t ∷ ts) all p = no_topic_by (p == k) t.whole (unrebuilt_from (suc k) ts p) (All-head (λ t. IsTrue t.whole) t ts all) (no_topic (suc k) ts (All-tail (λ t. IsTrue t.whole) t ts all) p)

-- Where every part is rebuilt, the table says so.
pub all_rebuilt : (v : EngineView) → IsWhole v → AllRebuilt (table_of v)
all_rebuilt v whole p = no_topic_by (p == 0) v.coord.whole (unrebuilt_from 1 v.topics p) whole.coord (no_topic 1 v.topics whole.topics p)

same : (k : ℕ) → (k == k) ≡ true
same k = grind (arith, nat_tests)

later : (p k : ℕ) → k < p → (p == k) ≡ false
later p k below = grind (arith, nat_tests, below)

-- a topic that isn't rebuilt, or one of those behind it
abbrev Unrebuilt : ℕ → List TopicView → Type 0
Unrebuilt k ts = (p : ℕ) × (k ≤ p) × (unrebuilt_from k ts p ≡ true)

topic_by : (k : ℕ) (t : TopicView) (ts : List TopicView) (whole : Bool) → t.whole ≡ whole → (IsTrue t.whole → Unrebuilt (suc k) ts) → Unrebuilt k (t ∷ ts)
topic_by k t ts false is behind = (k, omega arith, ap (λ (e : Bool). if e then not t.whole else unrebuilt_from (suc k) ts k) (same k) ∙ ap not is)
topic_by k t ts true is behind =
    let rest = behind is in
    (rest.0, omega (arith, rest.1), ap (λ (e : Bool). if e then not t.whole else unrebuilt_from (suc k) ts rest.0) (later rest.0 k (omega (arith, rest.1))) ∙ rest.2)

some_topic : (k : ℕ) (ts : List TopicView) → (All (λ t. IsTrue t.whole) ts → ⊥) → Unrebuilt k ts
some_topic k [] none = absurd (none (All-nil (λ t. IsTrue t.whole)))
some_topic k (t ∷ ts) none = topic_by k t ts t.whole refl (λ is. some_topic (suc k) ts (λ all. none (All-cons (λ t. IsTrue t.whole) t ts is all)))

-- Where the test says that not every part is rebuilt, the table names one that isn't.
pub some_unrebuilt : (v : EngineView) (b : Bool) → b ≡ false → IsTrue b ↔ IsWhole v → SomeUnrebuilt (table_of v)
some_unrebuilt v b is_false test = by v.coord.whole refl
  where
    never : IsWhole v → ⊥
    never whole = true≢false (sym (test.1 whole) ∙ is_false)

    by : (whole : Bool) → v.coord.whole ≡ whole → SomeUnrebuilt (table_of v)
    by false is = (0, ap not is)
    by true is =
        let rest = some_topic 1 v.topics (λ all. never (record { coord = is; topics = all })) in
        (rest.0, ap (λ (e : Bool). if e then not v.coord.whole else unrebuilt_from 1 v.topics rest.0) (later rest.0 0 (omega (arith, rest.1))) ∙ rest.2)
