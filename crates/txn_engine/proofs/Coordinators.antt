-- What an engine keeps of its coordinator, through the calls of the coordinator.
use Rattle.std.proofs.Common.{◌≡◌, ◌⊎◌, inl, inr, ℕ, ◌+◌, ◌^◌, ◌≤◌, ◌==◌, nat_le, Bool, true, false, List, [], ◌∷◌, ◌++◌, length, Option, Some, None, Result, Ok, Err, MatchOption, IsTrue, refl, sym, ap, ◌∙◌, subst, arith, length-append}
use Rattle.std.proofs.lemmas.Bool.Decides.{nat_tests}
use Rattle.std.proofs.lemmas.Grind.{flat_map-append}
use Rattle.txn_base.specs.declared.core_entry.CoreEntry.{CoreEntry}
use Rattle.txn_base.specs.declared.core_entry.CoreEntry.TheVariants as core
use Rattle.txn_base.specs.declared.entry.CoordEntry.{CoordEntry}
use Rattle.txn_base.specs.declared.limits.Limits.{Limits}
use Rattle.txn_base.specs.declared.txn.TxnId.{TxnId}
use Rattle.txn_base.specs.declared.txn.Status.{Status}
use Rattle.txn_base.specs.declared.txn.Status.TheVariants.{Open, Committing, Committed, Aborting, Aborted}
use Rattle.txn_base.specs.Frames.{Batch as FrameBatch, records}
use Rattle.txn_model.specs.Coord.{coord_allows, status_of, in_parts, count_new, is_open}
use Rattle.txn_model.specs.Skeletons.{coord_skeleton, coord_skeletons}
use Rattle.txn_coordinator.specs.declared.error.CoordError.{CoordError}
use Rattle.txn_coordinator.specs.declared.error.CoordError.TheVariants as coord_error
use Rattle.txn_coordinator.specs.Calls.{MayFail, add_refusal_at}
use Rattle.txn_coordinator.proofs.Laws.{lawful_more}
use Rattle.txn_coordinator.specs.View.{CoordView, coord_batch, with_entry, with_failed_entry, reserving}
use Rattle.txn_engine.specs.Kept.{IsCoordinator, IsEngine}
use Rattle.txn_engine.specs.View.{EngineView}

-- ---- The coordinator after an entry.

one_more : (bs : List FrameBatch) (e : CoordEntry) → length (records (bs ++ coord_batch e ∷ [])) ≡ length (records bs) + 1
one_more bs e = ap length (flat_map-append (λ (b : FrameBatch). b) bs (coord_batch e ∷ [])) ∙ length-append (records bs) (records (coord_batch e ∷ []))

pub logged_is : (limits : Limits) (n : ℕ) (v : CoordView) (e : CoordEntry) → IsCoordinator limits n v → IsTrue v.whole → coord_allows n (coord_skeletons v.front) (coord_skeleton e) ≡ true → IsCoordinator limits n (with_entry v e)
logged_is limits n v e is whole allowed = record {
  key = is.key;
  limits_are = is.limits_are;
  named_is = is.named_is;
  lawful = lawful_more n v.front e is.lawful allowed;
  settled_is = λ w. refl;
  all = λ w. length-append v.front (e ∷ []) ∙ ap (λ (m : ℕ). m + 1) (is.all whole) ∙ sym (one_more v.content.batches e);
}

pub failed_is : (limits : Limits) (n : ℕ) (v : CoordView) (e : CoordEntry) → IsCoordinator limits n v → IsCoordinator limits n (with_failed_entry v e)
failed_is limits n v e is = record {
  key = is.key;
  limits_are = is.limits_are;
  named_is = is.named_is;
  lawful = refl;
  settled_is = λ w. absurd (never w);
  all = λ w. absurd (never w);
}
  where
    never : IsTrue false → ⊥
    never w = cc

pub reserving_is : (limits : Limits) (n k : ℕ) (v : CoordView) → IsCoordinator limits n v → IsCoordinator limits n (reserving k v)
reserving_is limits n k v is = record { key = is.key; limits_are = is.limits_are; named_is = is.named_is; lawful = is.lawful; settled_is = is.settled_is; all = is.all }

-- an engine with another coordinator
pub engine_with : (v : EngineView) → IsEngine v → (c : CoordView) → IsCoordinator v.limits (length v.names) c → (latest : ℕ) → latest ≤ 2 ^ 62 → IsEngine (record { names = v.names; coord = c; topics = v.topics; latest = latest; limits = v.limits })
engine_with v is c here latest few = record { range = is.range; names = is.names; topic_names = is.topic_names; coord = here; topics = is.topics; count = is.count; latest = few }

-- ---- Entries that are allowed.

same_number : (k : ℕ) → (k == k) ≡ true
same_number k = grind (arith, nat_tests)

pub new_allowed : (n : ℕ) (c : List CoreEntry) → coord_allows n c (core.New (record { most = 0; least = count_new c })) ≡ true
new_allowed n c = rw (same_number (count_new c)) refl

open_of : (s : Option Status) (has : Bool) (full : Option CoordError) → add_refusal_at s has full ≡ None → is_open s ≡ true
open_of None has full e = cc
open_of (Some Open) has full e = refl
open_of (Some Committing) has full e = cc
open_of (Some Committed) has full e = cc
open_of (Some Aborting) has full e = cc
open_of (Some Aborted) has full e = cc

le_is : (m n : ℕ) → m ≤ n → nat_le m n ≡ true
le_is m n h = grind (arith, nat_tests)

pub add_allowed : (n : ℕ) (c : List CoreEntry) (x : TxnId) (p : ℕ) (full : Option CoordError) → add_refusal_at (status_of c x) (in_parts c x p) full ≡ None → in_parts c x p ≡ false → 1 ≤ p → p ≤ n → coord_allows n c (core.AddPart x p) ≡ true
add_allowed n c x p full none fresh low high = rw (open_of (status_of c x) (in_parts c x p) full none, fresh, le_is 1 p low, le_is p n high) refl

-- ---- Refusals.

pub refusal_is : {A : Type 0} (o : Option CoordError) (r : Result A CoordError) (e : CoordError) → r ≡ Err e → MatchOption o (MayFail r) (λ x. r ≡ Err x) → (o ≡ Some e) ⊎ ((o ≡ None) × ((e ≡ coord_error.Fault) ⊎ (e ≡ coord_error.NoMemory)))
refusal_is None r e is h = inr (refl, subst (λ x. MayFail x) is h)
refusal_is (Some x) r e is h = inl (ap (λ y. Some y) (same r x e h is))
  where
    same : {A : Type 0} (r : Result A CoordError) (x e : CoordError) → r ≡ Err x → r ≡ Err e → x ≡ e
    same r x e p q = cc

pub not_refused : {A : Type 0} (o : Option CoordError) (r : Result A CoordError) (a : A) → r ≡ Ok a → MatchOption o (MayFail r) (λ x. r ≡ Err x) → o ≡ None
not_refused None r a is h = refl
not_refused (Some x) r a is h = absurd (never r x a h is)
  where
    never : {A : Type 0} (r : Result A CoordError) (x : CoordError) (a : A) → r ≡ Err x → r ≡ Ok a → ⊥
    never r x a p q = cc
