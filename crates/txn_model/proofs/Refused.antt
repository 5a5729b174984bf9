-- What is known of a request that no row refuses.
use Rattle.std.proofs.Common.{◌≡◌, ℕ, Bool, true, false, ◌&&◌, ◌||◌, not, if◌then◌else◌, List, [], ◌∷◌, Some, None, refl, sym, ap, ◌∙◌, subst}
use Rattle.txn_model.proofs.Words.{Option, option_map, option_and_then, unwrap_or, is_none, is_some, find, Limits, TxnId, Status, AckEntry, Ack, Request, Refusal, World, when, that, first_said, below, part_of, status_of, in_parts, marker_of, holder_of, is_foreign, log_of, part_skeletons, TableState, named, fits_kind, txn_of, ack_asked, adds_inside, number_of, name_in, part_in, ack_list, limit_in, asks, unread_place, conflict, unknown_name, wrong_kind, early_rows, early_refusal, is_not_found, forbids, has_ended, forbidding_status, unregistered, unread_in, acked_in, conflict_in, late_rows, late_refusal}
use Rattle.txn_base.specs.declared.reply.Refusal.TheVariants as no
use Rattle.txn_model.specs.EarlyRows as early_row
use Rattle.txn_model.proofs.Bools.{no_true, and_r, none_some, some_none}
use Rattle.txn_model.proofs.LawfulSteps.{part_or}
use Rattle.txn_model.proofs.Named.{Known, known}

abbrev tail_of : {V : Type 0} → List V → List V
tail_of [] = []
tail_of (x ∷ xs) = xs

-- ---- Rows.

pub first_none : {V : Type 0} (o : Option V) (os : List (Option V)) → first_said (o ∷ os) ≡ None → o ≡ None
first_none None os h = refl
first_none (Some v) os h = absurd (some_none h)

pub rest_none : {V : Type 0} (o : Option V) (os : List (Option V)) → first_said (o ∷ os) ≡ None → first_said os ≡ None
rest_none None os h = h
rest_none (Some v) os h = absurd (some_none h)

pub map_none : {A V : Type 0} (f : A → V) (o : Option A) → option_map f o ≡ None → o ≡ None
map_none f None h = refl
map_none f (Some a) h = absurd (some_none h)

pub when_none : {A : Type 0} (b : Bool) (x : A) → when b x ≡ None → b ≡ false
when_none true x h = absurd (some_none h)
when_none false x h = refl

not_some : {V : Type 0} (o : Option V) → is_none o ≡ false → (v : V) × (o ≡ Some v)
not_some None h = absurd (no_true (sym h))
not_some (Some v) h = (v, refl)

both_false : (a b : Bool) → (a || b) ≡ false → (a ≡ false) × (b ≡ false)
both_false true b h = absurd (no_true (sym h))
both_false false b h = (refl, h)

not_not : (b : Bool) → not b ≡ false → b ≡ true
not_not true h = refl
not_not false h = absurd (no_true (sym h))

fits_by : (a b : Bool) → a ≡ true → (a && not b) ≡ false → b ≡ true
fits_by true true e h = refl
fits_by true false e h = absurd (no_true (sym h))
fits_by false b e h = absurd (no_true e)

-- ---- Before recovery.

-- what is known of a request that names a part
pub record Naming (w : World) (r : Request) (name : List ℕ) (p : ℕ) : Type 0 where
  pub number : number_of w name ≡ p
  pub known : Known w.names name p
  pub kind : fits_kind r name ≡ true

naming_by : (w : World) (r : Request) (name : List ℕ) (o : Option ℕ) → part_of w.names name ≡ o → that (λ n. is_none (part_of w.names n)) (Some name) ≡ None
    → that (λ n. is_some (part_of w.names n) && not (fits_kind r n)) (Some name) ≡ None → (p : ℕ) × Naming w r name p
naming_by w r name None e h k = absurd (no_true (sym (when_none (is_none (part_of w.names name)) name h) ∙ ap is_none e))
naming_by w r name (Some p) e h k = (
  p,
  record {
    number = ap (λ o. unwrap_or o 0) e;
    known = known w.names name p e;
    kind = fits_by (is_some (part_of w.names name)) (fits_kind r name) (ap is_some e) (when_none (is_some (part_of w.names name) && not (fits_kind r name)) name k);
  },
)

pub naming : (limits : Limits) (w : World) (r : Request) (name : List ℕ) → named r ≡ Some name → early_refusal limits w r ≡ None → (p : ℕ) × Naming w r name p
naming limits w r name is h =
    let a : first_said (tail_of (early_rows limits w r)) ≡ None = rest_none (when (early_row.is_stop r) no.BadLine) (tail_of (early_rows limits w r)) h in
    let unknown : unknown_name w r ≡ None = map_none (λ n. no.UnknownPart n) (unknown_name w r) (first_none (option_map (λ n. no.UnknownPart n) (unknown_name w r)) (tail_of (tail_of (early_rows limits w r))) a) in
    let b : first_said (tail_of (tail_of (early_rows limits w r))) ≡ None = rest_none (option_map (λ n. no.UnknownPart n) (unknown_name w r)) (tail_of (tail_of (early_rows limits w r))) a in
    let wrong : wrong_kind w r ≡ None = map_none (λ n. no.WrongKind n) (wrong_kind w r) (first_none (option_map (λ n. no.WrongKind n) (wrong_kind w r)) (tail_of (tail_of (tail_of (early_rows limits w r)))) b) in
    naming_by w r name (part_of w.names name) refl
    (subst (λ o. that (λ n. is_none (part_of w.names n)) o ≡ None) is unknown) (subst (λ o. that (λ n. is_some (part_of w.names n) && not (fits_kind r n)) o ≡ None) is wrong)

-- the early rows go by the names alone
pub early_same : (limits : Limits) (w w' : World) (r : Request) → w'.names ≡ w.names → early_refusal limits w r ≡ None → early_refusal limits w' r ≡ None
early_same limits w w' r e h = by_names e h
  where
    over : List (List ℕ) → World
    over names = record { names = names; coord = w'.coord; topics = w'.topics; subs = w'.subs }

    by_names : w'.names ≡ w.names → early_refusal limits w r ≡ None → early_refusal limits w' r ≡ None
    by_names e h = subst (λ names. early_refusal limits (over names) r ≡ None) (sym e) h

-- ---- After recovery.

pub record Passed (limits : Limits) (t : TableState) (r : Request) : Type 0 where
  pub found : is_not_found t.world r ≡ false
  pub allowed : forbidding_status t.world r ≡ None
  pub registered : unregistered t.world r ≡ None
  pub read : unread_in t.world r ≡ None
  pub free : conflict_in t.world r ≡ None

pub passed : (limits : Limits) (t : TableState) (r : Request) → late_refusal limits t r ≡ None → Passed limits t r
passed limits t r h =
    let rows : List (Option Refusal) = late_rows limits t r in
    let a = rest_none (when (is_not_found t.world r) no.NotFound) (tail_of rows) h in
    let b = rest_none (option_map (λ s. no.NotOpen s) (forbidding_status t.world r)) (tail_of (tail_of rows)) a in
    let c = rest_none (option_map (λ n. no.NotRegistered n) (unregistered t.world r)) (tail_of (tail_of (tail_of rows))) b in
    let d = rest_none (option_map (λ q. no.Unread q (limit_in t.world r)) (unread_in t.world r)) (tail_of (tail_of (tail_of (tail_of rows)))) c in
    let e = rest_none (option_map (λ q. no.AlreadyAcked q) (acked_in t.world r)) (tail_of (tail_of (tail_of (tail_of (tail_of rows))))) d in
    record {
      found = when_none (is_not_found t.world r) no.NotFound (first_none (when (is_not_found t.world r) no.NotFound) (tail_of rows) h);
      allowed = map_none (λ s. no.NotOpen s) (forbidding_status t.world r) (first_none (option_map (λ s. no.NotOpen s) (forbidding_status t.world r)) (tail_of (tail_of rows)) a);
      registered = map_none (λ n. no.NotRegistered n) (unregistered t.world r) (first_none (option_map (λ n. no.NotRegistered n) (unregistered t.world r)) (tail_of (tail_of (tail_of rows))) b);
      read = map_none (λ q. no.Unread q (limit_in t.world r)) (unread_in t.world r) (first_none (option_map (λ q. no.Unread q (limit_in t.world r)) (unread_in t.world r)) (tail_of (tail_of (tail_of (tail_of rows)))) c);
      free = map_none (λ held. no.Conflict held.0 held.1) (conflict_in t.world r) (first_none (option_map (λ held. no.Conflict held.0 held.1) (conflict_in t.world r)) (tail_of (tail_of (tail_of (tail_of (tail_of (tail_of rows)))))) e);
    }

-- the transaction of a request has a status, which allows it, and the part that it adds to has no marker of it
pub status_known : (limits : Limits) (t : TableState) (r : Request) (x : TxnId) → txn_of r ≡ Some x → Passed limits t r → (s : Status) × (status_of (log_of t.world) x ≡ Some s) × (forbids r s ≡ false) × (has_ended t.world r x ≡ false)
status_known limits t r x is p =
    let there : (s : Status) × (status_of (log_of t.world) x ≡ Some s) =
    not_some (status_of (log_of t.world) x) (found_by (is_none (status_of (log_of t.world) x)) (subst (λ o. is_some (that (λ y. is_none (status_of (log_of t.world) y)) o) ≡ false) is p.found)) in
    let passes : when (forbids r there.0 || has_ended t.world r x) there.0 ≡ None =
    subst (λ o. that (λ s. forbids r s || has_ended t.world r x) o ≡ None) there.1 (subst (λ o. option_and_then (λ y. that (λ s. forbids r s || has_ended t.world r y) (status_of (log_of t.world) y)) o ≡ None) is p.allowed) in
    let neither = both_false (forbids r there.0) (has_ended t.world r x) (when_none (forbids r there.0 || has_ended t.world r x) there.0 passes) in
    (there.0, there.1, neither.0, neither.1)
  where
    found_by : (b : Bool) → is_some (when b x) ≡ false → b ≡ false
    found_by true h = absurd (no_true (sym h))
    found_by false h = refl

-- a request that adds a message or a hold of x: the part has no marker of x, and is registered
pub record Inside (w : World) (r : Request) (x : TxnId) : Type 0 where
  pub unmarked : marker_of (part_skeletons w (part_in w r)) x ≡ None
  pub in_its_parts : in_parts (log_of w) x (part_in w r) ≡ true

pub inside_known : (limits : Limits) (t : TableState) (r : Request) (x : TxnId) → txn_of r ≡ Some x → adds_inside r ≡ true → Passed limits t r → Inside t.world r x
inside_known limits t r x is adds p =
    record {
      unmarked = unmarked_by (adds_inside r) (marker_of (part_skeletons t.world (part_in t.world r)) x) adds (status_known limits t r x is p).3;
      in_its_parts = registered_by (adds_inside r) (in_parts (log_of t.world) x (part_in t.world r)) adds
          (when_none (adds_inside r && not (in_parts (log_of t.world) x (part_in t.world r))) (name_in r)
          (subst (λ o. option_and_then (λ y. when (adds_inside r && not (in_parts (log_of t.world) y (part_in t.world r))) (name_in r)) o ≡ None) is p.registered));
    }
  where
    unmarked_by : {V : Type 0} (a : Bool) (o : Option V) → a ≡ true → (a && is_some o) ≡ false → o ≡ None
    unmarked_by true None e h = refl
    unmarked_by true (Some v) e h = absurd (no_true (sym h))
    unmarked_by false o e h = absurd (no_true e)

    registered_by : (a b : Bool) → a ≡ true → (a && not b) ≡ false → b ≡ true
    registered_by true true e h = refl
    registered_by true false e h = absurd (no_true (sym h))
    registered_by false b e h = absurd (no_true e)

-- an acknowledgement: its place is read, and nobody else holds what it covers
pub unread_none : (limits : Limits) (t : TableState) (r : Request) (asked : Ack) → ack_asked r ≡ Some asked → Passed limits t r → unread_place (limit_in t.world r) asked ≡ None
unread_none limits t r asked is p = subst (λ o. option_and_then (unread_place (limit_in t.world r)) o ≡ None) is p.read

holder_some : (who : Option TxnId) (o : Option TxnId) → is_foreign who o ≡ true → (y : TxnId) × (o ≡ Some y)
holder_some who None h = absurd (no_true h)
holder_some who (Some y) h = (y, refl)

abbrev pair_of : ℕ → Option TxnId → Option (ℕ × TxnId)
pair_of q o = option_map (λ holder. (q, holder)) o

pub conflict_none : (limit : ℕ) (a : List AckEntry) (who : Option TxnId) (asked : Ack) → conflict limit a who asked ≡ None → find (λ q. asks asked q && is_foreign who (holder_of a q)) (below limit) ≡ None
conflict_none limit a who asked h = by_found (find (λ q. asks asked q && is_foreign who (holder_of a q)) (below limit)) refl h
  where
    found_holds : (test : ℕ → Bool) (xs : List ℕ) (q : ℕ) → find test xs ≡ Some q → test q ≡ true
    found_holds test [] q e = absurd (none_some e)
    found_holds test (x ∷ xs) q e = by_test (test x) refl e (found_holds test xs q)
      where
        by_test : (b : Bool) → test x ≡ b → (if b then Some x else find test xs) ≡ Some q → (find test xs ≡ Some q → test q ≡ true) → test q ≡ true
        by_test true t e rest = subst (λ k. test k ≡ true) (ap (part_or 0) e) t
        by_test false t e rest = rest e

    by_found : (o : Option ℕ) → find (λ q. asks asked q && is_foreign who (holder_of a q)) (below limit) ≡ o → option_and_then (λ q. pair_of q (holder_of a q)) o ≡ None → o ≡ None
    by_found None e k = refl
    by_found (Some q) e k =
        let foreign : is_foreign who (holder_of a q) ≡ true = and_r (asks asked q) (is_foreign who (holder_of a q)) (found_holds (λ j. asks asked j && is_foreign who (holder_of a j)) (below limit) q e) in
        let held = holder_some who (holder_of a q) foreign in
        absurd (some_none (subst (λ o. pair_of q o ≡ None) held.1 k))

pub conflict_free : (limits : Limits) (t : TableState) (r : Request) (asked : Ack) → ack_asked r ≡ Some asked → Passed limits t r
    → find (λ q. asks asked q && is_foreign (txn_of r) (holder_of (ack_list t.world r) q)) (below (limit_in t.world r)) ≡ None
conflict_free limits t r asked is p =
    conflict_none (limit_in t.world r) (ack_list t.world r) (txn_of r) asked (subst (λ o. option_and_then (conflict (limit_in t.world r) (ack_list t.world r) (txn_of r)) o ≡ None) is p.free)
