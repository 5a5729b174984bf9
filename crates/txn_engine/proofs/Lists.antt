-- Lists of topics: what a change of one leaves of the others.
use Rattle.std.proofs.Common.{◌≡◌, ℕ, zero, suc, ◌+◌, ◌<◌, ◌==◌, not, Bool, true, false, if◌then◌else◌, List, [], ◌∷◌, ◌++◌, length, All, IsTrue, refl, ap, ap₂, subst, arith}
use Rattle.std.proofs.Math.ListN.{set, get_or}
use Rattle.std.proofs.lemmas.Bool.Decides.{nat_tests}
use Rattle.std.proofs.lemmas.List.Elements.{All-head, All-tail, All-set}
use Rattle.txn_base.specs.declared.limits.Limits.{Limits}
use Rattle.txn_base.specs.declared.entry.TopicEntry.{TopicEntry}
use Rattle.txn_base.specs.Content.{settled}
use Rattle.txn_base.specs.Decoded.{topic_entries}
use Rattle.txn_model.specs.Words.{list_at, append_at}
use Rattle.txn_buffer.specs.View.{TopicView}
use Rattle.txn_engine.specs.Kept.{IsTopic, AreTopics}
use Rattle.txn_engine.specs.Table.{topic_flight, lists_from, flights_from, unrebuilt_from}
use Rattle.txn_engine.specs.View.{replaced}

pub never_below : (i : ℕ) → i < 0 → ⊥
never_below i h = omega (arith, h)

pub set_is : (ts : List TopicView) (i : ℕ) (t : TopicView) → set ts i t ≡ replaced ts i t
set_is [] i t = refl
set_is (u ∷ us) zero t = refl
set_is (u ∷ us) (suc i) t = ap (λ (xs : List TopicView). u ∷ xs) (set_is us i t)

pub length_replaced : (ts : List TopicView) (i : ℕ) (t : TopicView) → length (replaced ts i t) ≡ length ts
length_replaced [] i t = refl
length_replaced (u ∷ us) zero t = refl
length_replaced (u ∷ us) (suc i) t = ap suc (length_replaced us i t)

pub all_replaced : (P : TopicView → Type 0) (ts : List TopicView) (i : ℕ) (t : TopicView) → P t → All P ts → All P (replaced ts i t)
all_replaced P ts i t h all = subst (All P) (set_is ts i t) (All-set P ts i t h all)

pub at_index : (P : TopicView → Type 0) (ts : List TopicView) (i : ℕ) (d : TopicView) → i < length ts → All P ts → P (get_or ts i d)
at_index P [] i d h all = absurd (never_below i h)
at_index P (u ∷ us) zero d h all = All-head P u us all
at_index P (u ∷ us) (suc i) d h all = at_index P us i d (omega (arith, h)) (All-tail P u us all)

pub topic_at : (limits : Limits) (k : ℕ) (ts : List TopicView) (i : ℕ) (d : TopicView) (p : ℕ) → p ≡ k + i → i < length ts → AreTopics limits k ts → IsTopic limits p (get_or ts i d)
topic_at limits k [] i d p e h are = absurd (never_below i h)
topic_at limits k (u ∷ us) zero d p e h are = subst (λ (q : ℕ). IsTopic limits q u) (omega (arith, e)) are.0
topic_at limits k (u ∷ us) (suc i) d p e h are = topic_at limits (suc k) us i d p (omega (arith, e)) (omega (arith, h)) are.1

pub topics_replaced : (limits : Limits) (k : ℕ) (ts : List TopicView) (i : ℕ) (t : TopicView) (p : ℕ) → p ≡ k + i → IsTopic limits p t → AreTopics limits k ts → AreTopics limits k (replaced ts i t)
topics_replaced limits k [] i t p e is are = tt
topics_replaced limits k (u ∷ us) zero t p e is are = (subst (λ (q : ℕ). IsTopic limits q t) (omega (arith, e)) is, are.1)
topics_replaced limits k (u ∷ us) (suc i) t p e is are = (are.0, topics_replaced limits (suc k) us i t p (omega (arith, e)) is are.1)

-- ---- Tests of numbers.

pub here : (k p : ℕ) → p ≡ k + 0 → (k == p) ≡ true
here k p e = grind (arith, nat_tests, e)

pub past : (k i p : ℕ) → p ≡ k + suc i → (k == p) ≡ false
past k i p e = grind (arith, nat_tests, e)

-- ---- What the ledgers hold.

pub list_in : (k : ℕ) (ts : List TopicView) (i : ℕ) (d : TopicView) (p : ℕ) → p ≡ k + i → i < length ts → list_at (lists_from k ts) p ≡ topic_entries (get_or ts i d).content.batches
list_in k [] i d p e h = absurd (never_below i h)
list_in k (u ∷ us) zero d p e h = rw (here k p e) refl
list_in k (u ∷ us) (suc i) d p e h = rw (past k i p e) (list_in (suc k) us i d p (omega (arith, e)) (omega (arith, h)))

pub lists_replaced : (k : ℕ) (ts : List TopicView) (i : ℕ) (t d : TopicView) → i < length ts → topic_entries t.content.batches ≡ topic_entries (get_or ts i d).content.batches → lists_from k (replaced ts i t) ≡ lists_from k ts
lists_replaced k [] i t d h same = absurd (never_below i h)
lists_replaced k (u ∷ us) zero t d h same = ap (λ (es : List TopicEntry). (k, es) ∷ lists_from (suc k) us) same
lists_replaced k (u ∷ us) (suc i) t d h same = ap (λ (ls : List (ℕ × List TopicEntry)). (k, topic_entries u.content.batches) ∷ ls) (lists_replaced (suc k) us i t d (omega (arith, h)) same)

-- ---- What is in flight, and what isn't rebuilt.

pub flight_in : (k : ℕ) (ts : List TopicView) (i : ℕ) (d : TopicView) (p : ℕ) → p ≡ k + i → i < length ts → list_at (flights_from k ts) p ≡ topic_flight (get_or ts i d).content.standing
flight_in k [] i d p e h = absurd (never_below i h)
flight_in k (u ∷ us) zero d p e h = rw (here k p e) refl
flight_in k (u ∷ us) (suc i) d p e h = rw (past k i p e) (flight_in (suc k) us i d p (omega (arith, e)) (omega (arith, h)))

pub unrebuilt_in : (k : ℕ) (ts : List TopicView) (i : ℕ) (d : TopicView) (p : ℕ) → p ≡ k + i → i < length ts → unrebuilt_from k ts p ≡ not (get_or ts i d).whole
unrebuilt_in k [] i d p e h = absurd (never_below i h)
unrebuilt_in k (u ∷ us) zero d p e h = rw (there k p e) refl
  where
    there : (k p : ℕ) → p ≡ k + 0 → (p == k) ≡ true
    there k p e = grind (arith, nat_tests, e)
unrebuilt_in k (u ∷ us) (suc i) d p e h = rw (beyond k i p e) (unrebuilt_in (suc k) us i d p (omega (arith, e)) (omega (arith, h)))
  where
    beyond : (k i p : ℕ) → p ≡ k + suc i → (p == k) ≡ false
    beyond k i p e = grind (arith, nat_tests, e)

flight_step : (b : Bool) (es rest : List TopicEntry) → es ≡ [] → rest ≡ [] → (if b then es else rest) ≡ []
flight_step true es rest e h = e
flight_step false es rest e h = h

pub no_flight : (k : ℕ) (ts : List TopicView) → All (λ t. t.content.standing ≡ settled) ts → (p : ℕ) → list_at (flights_from k ts) p ≡ []
no_flight k [] all p = refl
no_flight k (u ∷ us) all p =
    flight_step (k == p) (topic_flight u.content.standing) (list_at (flights_from (suc k) us) p)
    (ap topic_flight (All-head (λ t. t.content.standing ≡ settled) u us all)) (no_flight (suc k) us (All-tail (λ t. t.content.standing ≡ settled) u us all) p)

not_true : (b : Bool) → IsTrue b → not b ≡ false
not_true b h = ap not h

unrebuilt_step : (b x rest : Bool) → x ≡ false → rest ≡ false → (if b then x else rest) ≡ false
unrebuilt_step true x rest e h = e
unrebuilt_step false x rest e h = h

pub none_unrebuilt : (k : ℕ) (ts : List TopicView) → All (λ t. IsTrue t.whole) ts → (p : ℕ) → unrebuilt_from k ts p ≡ false
none_unrebuilt k [] all p = refl
none_unrebuilt k (u ∷ us) all p =
    unrebuilt_step (p == k) (not u.whole) (unrebuilt_from (suc k) us p) (not_true u.whole (All-head (λ t. IsTrue t.whole) u us all)) (none_unrebuilt (suc k) us (All-tail (λ t. IsTrue t.whole) u us all) p)

-- With another one at an index.

-- whose list has grown
pub lists_more : (k : ℕ) (ts : List TopicView) (i : ℕ) (t d : TopicView) (more : List TopicEntry) (p : ℕ) → p ≡ k + i → i < length ts
    → topic_entries t.content.batches ≡ topic_entries (get_or ts i d).content.batches ++ more → lists_from k (replaced ts i t) ≡ append_at (lists_from k ts) p more
lists_more k [] i t d more p e h grown = absurd (never_below i h)
lists_more k (u ∷ us) zero t d more p e h grown =
    let same : k ≡ p = omega (arith, e) in
    rw (here k p e) (ap₂ (λ (q : ℕ) (es : List TopicEntry). (q, es) ∷ lists_from (suc k) us) same grown)
lists_more k (u ∷ us) (suc i) t d more p e h grown =
    rw (past k i p e) (ap (λ (ls : List (ℕ × List TopicEntry)). (k, topic_entries u.content.batches) ∷ ls) (lists_more (suc k) us i t d more p (omega (arith, e)) (omega (arith, h)) grown))

-- which has the same in flight; or something else
pub flights_still : (k : ℕ) (ts : List TopicView) (i : ℕ) (t d : TopicView) → i < length ts → topic_flight t.content.standing ≡ topic_flight (get_or ts i d).content.standing → flights_from k (replaced ts i t) ≡ flights_from k ts
flights_still k [] i t d h same = absurd (never_below i h)
flights_still k (u ∷ us) zero t d h same = ap (λ (es : List TopicEntry). (k, es) ∷ flights_from (suc k) us) same
flights_still k (u ∷ us) (suc i) t d h same = ap (λ (ls : List (ℕ × List TopicEntry)). (k, topic_flight u.content.standing) ∷ ls) (flights_still (suc k) us i t d (omega (arith, h)) same)

pub flights_set : (k : ℕ) (ts : List TopicView) (i : ℕ) (t : TopicView) (p0 : ℕ) → p0 ≡ k + i → i < length ts
    → (p : ℕ) → list_at (flights_from k (replaced ts i t)) p ≡ (if p == p0 then topic_flight t.content.standing else list_at (flights_from k ts) p)
flights_set k [] i t p0 e h p = absurd (never_below i h)
flights_set k (u ∷ us) zero t p0 e h p = by_test (k == p) refl
  where
    turned : (b : Bool) → (k == p) ≡ b → (p == p0) ≡ b
    turned true q = grind (arith, nat_tests, q, e)
    turned false q = grind (arith, nat_tests, q, e)

    by_test : (b : Bool) → (k == p) ≡ b
        → (if k == p then topic_flight t.content.standing else list_at (flights_from (suc k) us) p)
        ≡ (if p == p0 then topic_flight t.content.standing else (if k == p then topic_flight u.content.standing else list_at (flights_from (suc k) us) p))
    by_test true q = rw (q, turned true q) refl
    by_test false q = rw (q, turned false q) refl
flights_set k (u ∷ us) (suc i) t p0 e h p = by_test (k == p) refl (flights_set (suc k) us i t p0 (omega (arith, e)) (omega (arith, h)) p)
  where
    other : (k == p) ≡ true → (p == p0) ≡ false
    other q = grind (arith, nat_tests, q, e)

    by_test : (b : Bool) → (k == p) ≡ b → list_at (flights_from (suc k) (replaced us i t)) p ≡ (if p == p0 then topic_flight t.content.standing else list_at (flights_from (suc k) us) p)
        → (if k == p then topic_flight u.content.standing else list_at (flights_from (suc k) (replaced us i t)) p)
        ≡ (if p == p0 then topic_flight t.content.standing else (if k == p then topic_flight u.content.standing else list_at (flights_from (suc k) us) p))
    by_test true q rest = rw (q, other q) refl
    by_test false q rest = rw q rest

-- which is rebuilt where the other one is; or is or isn't
pub unrebuilt_still : (k : ℕ) (ts : List TopicView) (i : ℕ) (t d : TopicView) → i < length ts → t.whole ≡ (get_or ts i d).whole → (p : ℕ) → unrebuilt_from k (replaced ts i t) p ≡ unrebuilt_from k ts p
unrebuilt_still k [] i t d h same p = absurd (never_below i h)
unrebuilt_still k (u ∷ us) zero t d h same p = ap (λ (b : Bool). if p == k then not b else unrebuilt_from (suc k) us p) same
unrebuilt_still k (u ∷ us) (suc i) t d h same p = ap (λ (b : Bool). if p == k then not u.whole else b) (unrebuilt_still (suc k) us i t d (omega (arith, h)) same p)

pub unrebuilt_set : (k : ℕ) (ts : List TopicView) (i : ℕ) (t : TopicView) (p0 : ℕ) → p0 ≡ k + i → i < length ts
    → (p : ℕ) → unrebuilt_from k (replaced ts i t) p ≡ (if p == p0 then not t.whole else unrebuilt_from k ts p)
unrebuilt_set k [] i t p0 e h p = absurd (never_below i h)
unrebuilt_set k (u ∷ us) zero t p0 e h p = by_test (p == k) refl
  where
    turned : (b : Bool) → (p == k) ≡ b → (p == p0) ≡ b
    turned true q = grind (arith, nat_tests, q, e)
    turned false q = grind (arith, nat_tests, q, e)

    by_test : (b : Bool) → (p == k) ≡ b
        → (if p == k then not t.whole else unrebuilt_from (suc k) us p) ≡ (if p == p0 then not t.whole else (if p == k then not u.whole else unrebuilt_from (suc k) us p))
    by_test true q = rw (q, turned true q) refl
    by_test false q = rw (q, turned false q) refl
unrebuilt_set k (u ∷ us) (suc i) t p0 e h p = by_test (p == k) refl (unrebuilt_set (suc k) us i t p0 (omega (arith, e)) (omega (arith, h)) p)
  where
    other : (p == k) ≡ true → (p == p0) ≡ false
    other q = grind (arith, nat_tests, q, e)

    by_test : (b : Bool) → (p == k) ≡ b → unrebuilt_from (suc k) (replaced us i t) p ≡ (if p == p0 then not t.whole else unrebuilt_from (suc k) us p)
        → (if p == k then not u.whole else unrebuilt_from (suc k) (replaced us i t) p) ≡ (if p == p0 then not t.whole else (if p == k then not u.whole else unrebuilt_from (suc k) us p))
    by_test true q rest = rw (q, other q) refl
    by_test false q rest = rw q rest
