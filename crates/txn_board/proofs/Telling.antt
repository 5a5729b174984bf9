-- What a reader tells is so of the core's state.
use Rattle.std.proofs.Common.{◌≡◌, ℕ, zero, suc, ◌+◌, ◌<◌, ◌≤◌, arith, ◌==◌, Bool, true, false, ◌&&◌, if◌then◌else◌, List, [], ◌∷◌, ◌++◌, Option, Some, None, refl, sym, ap, ◌∙◌, subst}
use Rattle.std.specs.Prelude.{map, nat_le, nat_lt, slice_index}
use Rattle.std.specs.Int.{bit_at}
use Rattle.std.specs.List.{list_any}
use Rattle.std.specs.Option.{option_or}
use Rattle.std.proofs.lemmas.Bool.{eq-eqb, eqb-true, lt-ltb, le-ltb, ltb-true}
use Rattle.std.proofs.lemmas.Nat.Bits.{bit_at-lt, bit_at-zero}
use native.Mathlib.Decide.{dec_lt}
use Rattle.atomic_table.specs.Table as table
use Rattle.txn_base.specs.declared.txn.Decision.{Decision}
use Rattle.txn_base.specs.declared.txn.Decision.TheVariants.{Commit, Abort}
use Rattle.txn_base.specs.declared.txn.Status.{Status}
use Rattle.txn_base.specs.declared.txn.Status.TheVariants.{Open}
use Rattle.txn_base.specs.declared.core_entry.CoreEntry.{CoreEntry}
use Rattle.txn_model.specs.Coord.{count_new, in_parts}
use Rattle.txn_model.specs.Topic.{marks, marker_of}
use Rattle.txn_model.specs.Deadlines.{txn}
use Rattle.txn_model.proofs.Laws.Tests.{no_true}
use Rattle.txn_model.proofs.Laws.Lists.{first_of-append}
use Rattle.txn_core.specs.Steps.{CoreState, settled_of, flight_of}
use Rattle.txn_board.specs.declared.view.Load.{Load}
use Rattle.txn_board.specs.declared.view.View.{View}
use Rattle.txn_board.specs.declared.words.Word.{Word}
use Rattle.txn_board.specs.declared.words.Word.TheVariants.{Registered, Decided, Done}
use Rattle.txn_board.specs.Words.{window, IsIn, is_in, word_at, as_bit, is_bit_set, decides, ends, sets, teller, tells, is_of, StillHolds}
use Rattle.txn_board.specs.Rows.{parts_in, list_in, low_in, with_loads, loaded}
use Rattle.txn_board.specs.Rule.{LoadsHold, Holds, Found, AtLastLoad, IsTold}
use Rattle.txn_board.specs.Seen.{place_of, last_value, bit_seen, status_by, decision_by, word_places, looked, Looked, ReadsStatus, ReadsDecision, ReadsPart, ReadsDone, StatusIsTold, IsStatusIn, IsDecisionIn, IsRegisteredIn, IsDoneIn}
use Rattle.txn_board.proofs.Entries.{said_by, sets_of, any_more, begun_below, count_more}
use Rattle.txn_board.proofs.Marks.{in_by}
use Rattle.txn_board.proofs.Steps.{kept, log_lawful, below_settled}
use Rattle.txn_board.proofs.Closings.{some_marker}
use Rattle.txn_board.proofs.Reading.{none_more, one_bit, one_reads, two, two_view, not_begun, still_open, once_decided}
use Rattle.txn_board.proofs.Meanings.{said_any, status_is, said_decision, one_decision}

-- ---- A word as it stands, and one that was loaded before.

bit_is : (b : Bool) → (as_bit b == 1) ≡ b
bit_is true = refl
bit_is false = refl

module _ (lists : List (List CoreEntry)) (s : table.State ℕ View) (h : Holds lists s) (x : ℕ) where
  abbrev so : Word → ℕ → Bool
  so w p = tells (settled_of h.state) (txn x) w p

  pub stood : (w : Word) (p n : ℕ) → IsIn (low_in lists) window x → p < 64 → slice_index s.words (word_at (low_in lists) x w) ≡ n → is_bit_set n p ≡ so w p
  stood w p n inside small e = ap (λ k. is_bit_set k p) (sym e) ∙ (ap (λ k. k == 1) (h.words.bits x w p inside small) ∙ bit_is (so w p))

  held : (w : Word) (p n : ℕ) → IsIn (low_in lists) window x → p < 64 → StillHolds s.words (word_at (low_in lists) x w) n → is_bit_set n p ≡ true → so w p ≡ true
  held w p n inside small still b =
      let now : ℕ = slice_index s.words (word_at (low_in lists) x w) in
      let one : bit_at n p ≡ 1 = eqb-true (bit_at n p) 1 b in
      sym (stood w p now inside small refl) ∙ eq-eqb (bit_at now p) 1 (omega (arith, one, still.bits p, bit_at-lt now p))

  -- ---- Outside the window.

  pub below_same : (w : Word) (p : ℕ) → x < low_in lists → so w p ≡ tells (list_in lists) (txn x) w p
  below_same w p lt = said_by w p (txn x) (settled_of h.state (teller w p)) (list_in lists (teller w p)) (below_settled lists s h x (teller w p) lt).0

  pub logged_below : (w : Word) (p : ℕ) → list_any (sets w p (txn x)) (settled_of h.state 0) ≡ true → x < low_in lists + window
  logged_below w p b =
      let lt : x < count_new (settled_of h.state 0) = begun_below (parts_in lists) x (settled_of h.state 0) (log_lawful lists s h) (any_more (sets w p (txn x)) (is_of (txn x)) (sets_of w p (txn x)) (settled_of h.state 0) b) in
      omega (arith, lt, h.fits, count_more (settled_of h.state 0) (flight_of h.state 0))

  marked_below : (p : ℕ) → list_any (ends (txn x)) (settled_of h.state p) ≡ true → x < low_in lists + window
  marked_below p b =
      let m = some_marker (txn x) (settled_of h.state p) b in
      let long : marker_of (settled_of h.state p ++ flight_of h.state p) (txn x) ≡ Some m.0 = first_of-append (marks (txn x)) (settled_of h.state p) (flight_of h.state p) ∙ ap (λ o. option_or o (marker_of (flight_of h.state p) (txn x))) m.1 in
      logged m.0 (said_any (txn x) m.0 (settled_of h.state 0) ((kept lists s h).stands.decided p (txn x) m.0 long))
    where
      logged : (d : Decision) → list_any (decides (txn x) d) (settled_of h.state 0) ≡ true → x < low_in lists + window
      logged Commit k = logged_below Decided 0 k
      logged Abort k = logged_below Decided 1 k

  past_none : (w : Word) (p : ℕ) → low_in lists + window ≤ x → so w p ≡ false
  past_none w p le = go (so w p) refl
    where
      low : (w : Word) (p : ℕ) → so w p ≡ true → x < low_in lists + window
      low Registered p b = logged_below Registered p b
      low Decided p b = logged_below Decided p b
      low Done zero b = logged_below Done 0 b
      low Done (suc p) b = marked_below (suc p) b

      go : (b : Bool) → so w p ≡ b → so w p ≡ false
      go true e = let lt = low w p e in absurd (omega (arith, lt, le))
      go false e = e

  outside_bit : (loads : List Load) (w : Word) (p : ℕ) → is_in (low_in lists) window x ≡ false → loads ≡ [] → bit_seen lists loads x w p ≡ so w p
  outside_bit loads w p out none = go (dec_lt x (low_in lists))
    where
      go : Dec (x < low_in lists) → bit_seen lists loads x w p ≡ so w p
      go (yes lt) = ap (λ t. if t then tells (list_in lists) (txn x) w p else is_bit_set (last_value 0 loads (word_at (low_in lists) x w)) p) (lt-ltb x (low_in lists) lt) ∙ sym (below_same w p lt)
      go (no m) =
          ap (λ t. if t then tells (list_in lists) (txn x) w p else is_bit_set (last_value 0 loads (word_at (low_in lists) x w)) p) (le-ltb x (low_in lists) (omega (arith, m)))
          ∙ (ap (λ ls. is_bit_set (last_value 0 ls (word_at (low_in lists) x w)) p) none ∙ (ap (λ k. k == 1) (bit_at-zero p) ∙ sym (past_none w p (side (dec_lt x (low_in lists + window))))))
        where
          side : Dec (x < low_in lists + window) → low_in lists + window ≤ x
          side (yes l) = absurd (no_true (sym out ∙ in_by (low_in lists) window x (record { least = omega (arith, m); most = l })))
          side (no q) = omega (arith, q)

pub status_bits : {a b c d a' b' c' d' : Bool} → a ≡ a' → b ≡ b' → c ≡ c' → d ≡ d' → status_by a b c d ≡ status_by a' b' c' d'
status_bits {a} {b} {c} {d} {a'} {b'} {c'} {d'} e f g h = ap (λ t. status_by t b c d) e ∙ (ap (λ t. status_by a' t c d) f ∙ (ap (λ t. status_by a' b' t d) g ∙ ap (λ t. status_by a' b' c' t) h))

pub no_loads : (lists : List (List CoreEntry)) (x : ℕ) (ws : List Word) (loads : List Load) → is_in (low_in lists) window x ≡ false → map place_of loads ≡ word_places lists x ws → loads ≡ []
no_loads lists x ws loads out places = none loads (places ∙ ap (λ t. if t then map (word_at (low_in lists) x) ws else []) out)
  where
    none : (ls : List Load) → map place_of ls ≡ [] → ls ≡ []
    none [] e = refl
    none (l ∷ ls) e = absurd (cc e)

module _ (made : Type 0) (lists : List (List CoreEntry)) (x : ℕ) where
  -- ---- One word.

  seen_one : (w : Word) (n : ℕ) (v v1 : View) → IsIn (low_in lists) window x → v1 ≡ with_loads (looked lists x w n) v → v1 ≡ loaded (word_at (low_in lists) x w) n v
  seen_one w n v v1 inside e = e ∙ ap (λ t. with_loads (if t then record { place = word_at (low_in lists) x w; value = n } ∷ [] else []) v) (in_by (low_in lists) window x inside)

  -- the last load was of this word
  at_last : (fact : CoreState → Type 0) (w : Word) (n : ℕ) (front : List Load) (u v v1 : View) → IsIn (low_in lists) window x → v ≡ with_loads front u → v1 ≡ with_loads (looked lists x w n) v → (f : Found lists (word_at (low_in lists) x w) n v) → fact f.rule.state
      → AtLastLoad lists u v1 fact
  at_last fact w n front u v v1 inside from e f so = record { view = v; front = front; last = record { place = word_at (low_in lists) x w; value = n }; from = from; to = seen_one w n v v1 inside e; found = f; is = so }

  bits_at : (w : Word) (p n : ℕ) (v : View) (f : Found lists (word_at (low_in lists) x w) n v) → IsIn (low_in lists) window x → p < 64 → is_bit_set n p ≡ tells (settled_of f.rule.state) (txn x) w p
  bits_at w p n v f inside small = stood lists f.board f.rule x w p n inside small f.stood

  told_decision : (told : Option Decision) (n : ℕ) (loads : List Load) (v v1 : View) → Looked made lists x Decided n v → v1 ≡ with_loads (looked lists x Decided n) v → told ≡ decision_by (is_bit_set n 0) (is_bit_set n 1) → ReadsDecision made lists x told loads v v1
      → IsTold made lists x v v1 (IsDecisionIn x told)
  told_decision told n loads v v1 k view e r =
      record {
        within = λ m inside.
            let f = k.found m inside in
            at_last (IsDecisionIn x told) Decided n [] v v v1 inside (sym (none_more v)) view f
            (e ∙ (ap (λ t. decision_by t (is_bit_set n 1)) (bits_at Decided 0 n v f inside (omega arith)) ∙ (ap (λ t. decision_by (tells (settled_of f.rule.state) (txn x) Decided 0) t) (bits_at Decided 1 n v f inside (omega arith))
            ∙ said_decision (parts_in lists) (settled_of f.rule.state) (txn x) (log_lawful lists f.board f.rule))));
        outside = λ out s h.
            let none = no_loads lists x (Decided ∷ []) loads out r.reads.places in
            r.is ∙ (ap (λ t. decision_by t (bit_seen lists loads x Decided 1)) (outside_bit lists s h x loads Decided 0 out none)
            ∙ (ap (λ t. decision_by (tells (settled_of h.state) (txn x) Decided 0) t) (outside_bit lists s h x loads Decided 1 out none) ∙ said_decision (parts_in lists) (settled_of h.state) (txn x) (log_lawful lists s h)));
      }

  pub decision_told : (told : Option Decision) (n : ℕ) (v v1 : View) → Looked made lists x Decided n v → v1 ≡ with_loads (looked lists x Decided n) v → told ≡ decision_by (is_bit_set n 0) (is_bit_set n 1) → IsTold made lists x v v1 (IsDecisionIn x told)
  decision_told told n v v1 k view e =
      let ls = looked lists x Decided n in
      told_decision told n ls v v1 k view e
      (record {
        reads = one_reads made lists x Decided n v v1 k view;
        is = e ∙ sym (ap (λ t. decision_by t (bit_seen lists ls x Decided 1)) (one_bit made lists x Decided n 0 v (omega arith) k) ∙ ap (λ t. decision_by (is_bit_set n 0) t) (one_bit made lists x Decided n 1 v (omega arith) k));
      })

  registered_by : (part : ℕ) (a b : Bool) (c : CoreState) → (nat_le 1 part ≡ true → nat_lt part 64 ≡ true → a ≡ tells (settled_of c) (txn x) Registered part) → (nat_le 1 part && nat_lt part 64 && a) ≡ (nat_le 1 part && nat_lt part 64 && in_parts (settled_of c 0) (txn x) part)
  registered_by part a b c h = go (nat_le 1 part) (nat_lt part 64) refl refl
    where
      same : (part : ℕ) → nat_le 1 part ≡ true → tells (settled_of c) (txn x) Registered part ≡ in_parts (settled_of c 0) (txn x) part
      same zero l = absurd (no_true l)
      same (suc p) l = refl

      go : (l m : Bool) → nat_le 1 part ≡ l → nat_lt part 64 ≡ m → (nat_le 1 part && nat_lt part 64 && a) ≡ (nat_le 1 part && nat_lt part 64 && in_parts (settled_of c 0) (txn x) part)
      go true true e f = ap (λ t. nat_le 1 part && nat_lt part 64 && t) (h e f ∙ same part e)
      go true false e f = ap (λ t. (nat_le 1 part && t) && a) f ∙ (ap (λ t. (t && false) && a) e ∙ sym (ap (λ t. (nat_le 1 part && t) && in_parts (settled_of c 0) (txn x) part) f ∙ ap (λ t. (t && false) && in_parts (settled_of c 0) (txn x) part) e))
      go false m e f = ap (λ t. (t && nat_lt part 64) && a) e ∙ sym (ap (λ t. (t && nat_lt part 64) && in_parts (settled_of c 0) (txn x) part) e)

  told_part : (part : ℕ) (told : Bool) (n : ℕ) (loads : List Load) (v v1 : View) → Looked made lists x Registered n v → v1 ≡ with_loads (looked lists x Registered n) v → told ≡ (nat_le 1 part && nat_lt part 64 && is_bit_set n part) → ReadsPart made lists x part told loads v v1
      → IsTold made lists x v v1 (IsRegisteredIn x part told)
  told_part part told n loads v v1 k view e r =
      record {
        within = λ m inside.
            let f = k.found m inside in
            at_last (IsRegisteredIn x part told) Registered n [] v v v1 inside (sym (none_more v)) view f (e ∙ registered_by part (is_bit_set n part) true f.rule.state (λ l small. bits_at Registered part n v f inside (ltb-true part 64 small)));
        outside = λ out s h. r.is ∙ registered_by part (bit_seen lists loads x Registered part) true h.state (λ l f. outside_bit lists s h x loads Registered part out (no_loads lists x (Registered ∷ []) loads out r.reads.places));
      }

  pub part_told : (part : ℕ) (told : Bool) (n : ℕ) (v v1 : View) → Looked made lists x Registered n v → v1 ≡ with_loads (looked lists x Registered n) v → told ≡ (nat_le 1 part && nat_lt part 64 && is_bit_set n part) → IsTold made lists x v v1 (IsRegisteredIn x part told)
  part_told part told n v v1 k view e =
      told_part part told n (looked lists x Registered n) v v1 k view e (record { reads = one_reads made lists x Registered n v v1 k view; is = e ∙ go (nat_le 1 part) (nat_lt part 64) refl refl })
    where
      go : (l m : Bool) → nat_le 1 part ≡ l → nat_lt part 64 ≡ m → (nat_le 1 part && nat_lt part 64 && is_bit_set n part) ≡ (nat_le 1 part && nat_lt part 64 && bit_seen lists (looked lists x Registered n) x Registered part)
      go l true a b = ap (λ t. nat_le 1 part && nat_lt part 64 && t) (sym (one_bit made lists x Registered n part v (ltb-true part 64 b) k))
      go true false a b =
          ap (λ t. (nat_le 1 part && t) && is_bit_set n part) b
          ∙ (ap (λ t. (t && false) && is_bit_set n part) a ∙ sym (ap (λ t. (nat_le 1 part && t) && bit_seen lists (looked lists x Registered n) x Registered part) b ∙ ap (λ t. (t && false) && bit_seen lists (looked lists x Registered n) x Registered part) a))
      go false false a b = ap (λ t. (t && nat_lt part 64) && is_bit_set n part) a ∙ sym (ap (λ t. (t && nat_lt part 64) && bit_seen lists (looked lists x Registered n) x Registered part) a)

  told_done : (n : ℕ) (loads : List Load) (v v1 : View) → Looked made lists x Done n v → v1 ≡ with_loads (looked lists x Done n) v → ReadsDone made lists x n loads v v1 → IsTold made lists x v v1 (IsDoneIn x n)
  told_done n loads v v1 k view r =
      record { within = λ m inside. let f = k.found m inside in at_last (IsDoneIn x n) Done n [] v v v1 inside (sym (none_more v)) view f (λ p small. bits_at Done p n v f inside small); outside = λ out s h p small. r.is p small ∙ outside_bit lists s h x loads Done p out (no_loads lists x (Done ∷ []) loads out r.reads.places) }

  pub done_told : (n : ℕ) (v v1 : View) → Looked made lists x Done n v → v1 ≡ with_loads (looked lists x Done n) v → IsTold made lists x v v1 (IsDoneIn x n)
  done_told n v v1 k view =
      told_done n (looked lists x Done n) v v1 k view (record { reads = one_reads made lists x Done n v v1 k view; is = λ p small. sym (one_bit made lists x Done n p v small k) })

  -- ---- The status.

  outside_status : (told : Option Status) (loads : List Load) (v v1 : View) → ReadsStatus made lists x told loads v v1 → is_in (low_in lists) window x ≡ false → (s : table.State ℕ View) (h : Holds lists s) → IsStatusIn x told h.state
  outside_status told loads v v1 r out s h =
      let none = no_loads lists x _ loads out r.reads.places in
      let at = λ (w : Word) (p : ℕ). outside_bit lists s h x loads w p out none in
      r.is ∙ (status_bits (at Registered 0) (at Decided 0) (at Decided 1) (at Done 0) ∙ status_is (parts_in lists) (settled_of h.state) (txn x) (log_lawful lists s h))

  last_holds : (words : List ℕ) (ls : List Load) (l : Load) → LoadsHold words (ls ++ l ∷ []) → StillHolds words l.place l.value
  last_holds words [] l k = k.0
  last_holds words (m ∷ ls) l k = last_holds words ls l k.1

  front_hold : (words : List ℕ) (ls ms : List Load) → LoadsHold words (ls ++ ms) → LoadsHold words ls
  front_hold words [] ms k = tt
  front_hold words (l ∷ ls) ms k = (k.0, front_hold words ls ms k.1)

  -- of a view with a load of a word more: the load still holds, and so do those before it
  still : (words : List ℕ) (w : Word) (n : ℕ) (v v1 : View) → IsIn (low_in lists) window x → v1 ≡ with_loads (looked lists x w n) v → LoadsHold words v1.loads → StillHolds words (word_at (low_in lists) x w) n × LoadsHold words v.loads
  still words w n v v1 inside e k =
      let all : LoadsHold words (v.loads ++ looked lists x w n) = subst (LoadsHold words) (ap (λ (u : View). u.loads) e) k in (
        last_holds words v.loads (record { place = word_at (low_in lists) x w; value = n }) (subst (λ t. LoadsHold words (v.loads ++ (if t then record { place = word_at (low_in lists) x w; value = n } ∷ [] else []))) (in_by (low_in lists) window x inside) all),
        front_hold words v.loads (looked lists x w n) all,
      )

  pub told_none : (a : ℕ) (loads : List Load) (v v1 : View) → Looked made lists x Registered a v → v1 ≡ with_loads (looked lists x Registered a) v → is_bit_set a 0 ≡ false → ReadsStatus made lists x None loads v v1 → IsTold made lists x v v1 (IsStatusIn x None)
  told_none a loads v v1 k e h r =
      record {
        within = λ m inside.
            let f = k.found m inside in
            let t = tells (settled_of f.rule.state) (txn x) in
            let begun : t Registered 0 ≡ false = sym (stood lists f.board f.rule x Registered 0 a inside (omega arith) f.stood) ∙ h in
            at_last (IsStatusIn x None) Registered a [] v v v1 inside (sym (none_more v)) e f (sym (ap (λ b. status_by b (t Decided 0) (t Decided 1) (t Done 0)) begun) ∙ status_is (parts_in lists) (settled_of f.rule.state) (txn x) (log_lawful lists f.board f.rule));
        outside = outside_status None loads v v1 r;
      }

  pub told_open : (a b : ℕ) (loads : List Load) (v v1 v2 : View) → Looked made lists x Decided b v1 → v1 ≡ with_loads (looked lists x Registered a) v → v2 ≡ with_loads (looked lists x Decided b) v1 → is_bit_set a 0 ≡ true → is_bit_set b 0 ≡ false → is_bit_set b 1 ≡ false
      → ReadsStatus made lists x (Some Open) loads v v2 → IsTold made lists x v v2 (IsStatusIn x (Some Open))
  told_open a b loads v v1 v2 l e g h c d r =
      record {
        within = λ m inside.
            let f = l.found m inside in
            let t = tells (settled_of f.rule.state) (txn x) in
            let before = still f.board.words Registered a v v1 inside e (f.rule.loads f.seat v1 f.view) in
            let begun : t Registered 0 ≡ true = held lists f.board f.rule x Registered 0 a inside (omega arith) before.0 h in
            let commit : t Decided 0 ≡ false = sym (stood lists f.board f.rule x Decided 0 b inside (omega arith) f.stood) ∙ c in
            let abort : t Decided 1 ≡ false = sym (stood lists f.board f.rule x Decided 1 b inside (omega arith) f.stood) ∙ d in
            at_last (IsStatusIn x (Some Open)) Decided b (looked lists x Registered a) v v1 v2 inside e g f
            (sym (ap (λ u. status_by u (t Decided 0) (t Decided 1) (t Done 0)) begun ∙ (ap (λ u. status_by true u (t Decided 1) (t Done 0)) commit ∙ ap (λ u. status_by true false u (t Done 0)) abort))
            ∙ status_is (parts_in lists) (settled_of f.rule.state) (txn x) (log_lawful lists f.board f.rule));
        outside = outside_status (Some Open) loads v v2 r;
      }

  decided_same : (sent lost shut commit abort closed : Bool) → ((sent ≡ false) × (lost ≡ false) → ⊥) → (sent ≡ true → commit ≡ true) → (lost ≡ true → abort ≡ true) → (abort ≡ true → commit ≡ false) → shut ≡ closed
      → status_by true sent lost shut ≡ status_by true commit abort closed
  decided_same true lost shut commit abort closed some c d one e = sym (ap (λ u. status_by true u abort closed) (c refl) ∙ ap (λ u. status_by true true abort u) (sym e))
  decided_same false true shut commit abort closed some c d one e = sym (ap (λ u. status_by true u abort closed) (one (d refl)) ∙ (ap (λ u. status_by true false u closed) (d refl) ∙ ap (λ u. status_by true false true u) (sym e)))
  decided_same false false shut commit abort closed some c d one e = absurd (some (refl, refl))

  pub told_decided : (a b c : ℕ) (loads : List Load) (v v1 v2 v3 : View) → Looked made lists x Done c v2 → v1 ≡ with_loads (looked lists x Registered a) v → v2 ≡ with_loads (looked lists x Decided b) v1 → v3 ≡ with_loads (looked lists x Done c) v2
      → is_bit_set a 0 ≡ true → ((is_bit_set b 0 ≡ false) × (is_bit_set b 1 ≡ false) → ⊥) → ReadsStatus made lists x (status_by true (is_bit_set b 0) (is_bit_set b 1) (is_bit_set c 0)) loads v v3
      → IsTold made lists x v v3 (IsStatusIn x (status_by true (is_bit_set b 0) (is_bit_set b 1) (is_bit_set c 0)))
  told_decided a b c loads v v1 v2 v3 k e f last h some r =
      record {
        within = λ m inside.
            let g = k.found m inside in
            let t = tells (settled_of g.rule.state) (txn x) in
            let law = log_lawful lists g.board g.rule in
            let second = still g.board.words Decided b v1 v2 inside f (g.rule.loads g.seat v2 g.view) in
            let first = still g.board.words Registered a v v1 inside e second.1 in
            let begun : t Registered 0 ≡ true = held lists g.board g.rule x Registered 0 a inside (omega arith) first.0 h in
            at_last (IsStatusIn x (status_by true (is_bit_set b 0) (is_bit_set b 1) (is_bit_set c 0))) Done c (two made lists x a b) v v2 v3 inside (two_view made lists x a b v v1 v2 e f) last g
            (decided_same (is_bit_set b 0) (is_bit_set b 1) (is_bit_set c 0) (t Decided 0) (t Decided 1) (t Done 0) some (held lists g.board g.rule x Decided 0 b inside (omega arith) second.0) (held lists g.board g.rule x Decided 1 b inside (omega arith) second.0)
            (one_decision (parts_in lists) (settled_of g.rule.state) (txn x) law) (stood lists g.board g.rule x Done 0 c inside (omega arith) g.stood)
            ∙ (sym (ap (λ u. status_by u (t Decided 0) (t Decided 1) (t Done 0)) begun) ∙ status_is (parts_in lists) (settled_of g.rule.state) (txn x) law));
        outside = outside_status (status_by true (is_bit_set b 0) (is_bit_set b 1) (is_bit_set c 0)) loads v v3 r;
      }

  -- ---- The status, by the words that were looked at.

  pub none_is_told : (a : ℕ) (v v1 : View) → Looked made lists x Registered a v → v1 ≡ with_loads (looked lists x Registered a) v → is_bit_set a 0 ≡ false → StatusIsTold made lists x None v v1
  none_is_told a v v1 k e h = let r = not_begun made lists x a v v1 k e h in (r, told_none a r.0 v v1 k e h r.1)

  pub open_is_told : (a b : ℕ) (v v1 v2 : View) → Looked made lists x Registered a v → Looked made lists x Decided b v1 → v1 ≡ with_loads (looked lists x Registered a) v → v2 ≡ with_loads (looked lists x Decided b) v1
      → is_bit_set a 0 ≡ true → is_bit_set b 0 ≡ false → is_bit_set b 1 ≡ false → StatusIsTold made lists x (Some Open) v v2
  open_is_told a b v v1 v2 k l e f h c d = let r = still_open made lists x a b v v1 v2 k l e f h c d in (r, told_open a b r.0 v v1 v2 l e f h c d r.1)

  pub decided_is_told : (told : Option Status) (a b c : ℕ) (v v1 v2 v3 : View) → Looked made lists x Registered a v → Looked made lists x Decided b v1 → Looked made lists x Done c v2
      → v1 ≡ with_loads (looked lists x Registered a) v → v2 ≡ with_loads (looked lists x Decided b) v1 → v3 ≡ with_loads (looked lists x Done c) v2
      → is_bit_set a 0 ≡ true → ((is_bit_set b 0 ≡ false) × (is_bit_set b 1 ≡ false) → ⊥) → told ≡ status_by true (is_bit_set b 0) (is_bit_set b 1) (is_bit_set c 0) → StatusIsTold made lists x told v v3
  decided_is_told told a b c v v1 v2 v3 k l m e f g h some is =
      let r = once_decided made lists x a b c v v1 v2 v3 k l m e f g h some in
      subst (λ s. StatusIsTold made lists x s v v3) (sym is) (r, told_decided a b c r.0 v v1 v2 v3 m e f g h some r.1)
