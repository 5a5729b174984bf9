-- The first entry in flight of the one row of a seat settles, and its bit is set.
use Rattle.std.proofs.Common.{◌≡◌, ℕ, ◌+◌, ◌*◌, ◌^◌, ◌==◌, ◌<◌, ◌≤◌, arith, Bool, true, false, not, ◌&&◌, ◌||◌, if◌then◌else◌, List, [], ◌∷◌, ◌++◌, length, set, take, drop, Option, Some, None, refl, sym, ap, ◌∙◌, subst, append_assoc}
use Rattle.std.specs.Prelude.{slice_index, nat_lt, nat_le}
use Rattle.std.specs.Int.Bits.{bit_or, or_zero_r}
use Rattle.std.proofs.lemmas.Bool.{eq-eqb, ne_eqb, lt-ltb, lt-leb, le-ltb, le-leb}
use Rattle.std.proofs.lemmas.List.{get_or-set_same, get_or-set_other, set-get_or, take-append-drop}
use Rattle.std.proofs.lemmas.List.Elements.{filter-append}
use mathlib.Core.Option.{some}
use lib.ListN.{get_elem?}
use native.Mathlib.Decide.{ℕ_discrete}
use Rattle.atomic_table.specs.Table as table
use Rattle.txn_base.specs.declared.core_entry.CoreEntry.{CoreEntry}
use Rattle.txn_base.specs.declared.core_entry.CoreEntry.TheVariants as core
use Rattle.txn_board.specs.declared.words.Mark.{Mark}
use Rattle.txn_base.specs.declared.txn.Decision.{Decision}
use Rattle.txn_base.specs.declared.txn.Decision.TheVariants.{Commit, Abort}
use Rattle.txn_model.specs.Coord.{closing_skeleton, count_new}
use Rattle.txn_model.specs.Deadlines.{txn}
use Rattle.txn_board.specs.declared.words.Word.TheVariants.{Done}
use Rattle.txn_model.proofs.Laws.Tests.{and_both, no_true}
use Rattle.txn_core.specs.declared.step.CoreRow.{CoreRow}
use Rattle.txn_core.specs.declared.step.CoreStep.TheVariants as act
use Rattle.txn_core.specs.Steps.{no_row, row_of, settled_of, flight_of, with_row, settle_row, stop_row, is_flying, can}
use Rattle.txn_board.specs.declared.view.SeatRow.{SeatRow}
use Rattle.txn_board.specs.declared.view.Load.{Load}
use Rattle.txn_board.specs.declared.view.View.{View}
use Rattle.txn_board.specs.Words.{window, is_of, entries_of, WordsSay, mark_where, mark_of, with_mark, with_more, word_at, set_bit}
use Rattle.txn_board.specs.Rows.{IsNumberOf, parts_in, low_in, with_row_by, settle_view, drop_view, loaded}
use Rattle.txn_board.specs.Rule.{LoadsHold, Holds, AllowsTo}
use Rattle.txn_board.specs.Calls.{IsSettling, MayDrop, IsSetting, is_quiet, IsSettlingOwn, IsEnding, end_entry, ending_mark}
use Rattle.txn_board.proofs.Marks.{noted, in_by}
use Rattle.txn_board.proofs.Entries.{count_more}
use Rattle.txn_board.proofs.Steps.{RowStays, below_settled, row_fits, mine, row_changes, row_stays, loads_grow, loads_more, marked_grows}

module _ (lists : List (List CoreEntry)) (s : table.State ℕ View) (h : Holds lists s) (id : ℕ) (v : View) (seat : get_elem? s.views id ≡ some v) (r : SeatRow) (is : v.rows ≡ r ∷ []) where
  flying : (e : CoreEntry) (rest : List CoreEntry) → r.row.flight ≡ e ∷ rest → is_flying h.state r.part ≡ true
  flying e rest f =
      let m = mine lists s h id v seat r is in
      let l : 0 < length (flight_of h.state r.part) = subst (λ es. 0 < length es) (sym (ap (λ (x : CoreRow). x.flight) m.2 ∙ f)) (omega arith) in
      and_both (nat_lt r.part (length h.state.rows)) (nat_lt 0 (length (flight_of h.state r.part))) (lt-ltb r.part (length h.state.rows) m.1) (lt-ltb 0 (length (flight_of h.state r.part)) l)

  pub may_settle : (e : CoreEntry) (rest : List CoreEntry) → r.row.flight ≡ e ∷ rest → can (parts_in lists) h.state (act.Settle r.part) ≡ true
  may_settle e rest f = flying e rest f

  pub may_lose : (e : CoreEntry) (rest : List CoreEntry) → r.row.flight ≡ e ∷ rest → r.row.sure ≡ false → can (parts_in lists) h.state (act.Stop r.part false) ≡ true
  may_lose e rest f sure = and_both (is_flying h.state r.part) (false || not (row_of h.state r.part).sure) (flying e rest f) (ap (λ b. false || not b) (ap (λ (x : CoreRow). x.sure) (mine lists s h id v seat r is).2 ∙ sure))

  pub settles_to : (e : CoreEntry) (rest : List CoreEntry) → r.row.flight ≡ e ∷ rest → (words : List ℕ) → words ≡ with_mark (low_in lists) window (mark_of r.part e) s.words
      → (next : View) → next.rows ≡ with_row_by settle_row v.rows → LoadsHold s.words next.loads
      → Holds lists (record { words = words; homes = s.homes; views = set s.views id next })
  settles_to e rest f words bits next rows' loads' =
      row_changes lists s h id v seat r is (act.Settle r.part) (flying e rest f) (settle_row r.row) keep (ap (λ x. with_row h.state r.part (settle_row x)) m.2) next (rows' ∙ ap (with_row_by settle_row) is) words
      (subst (λ ws. WordsSay (low_in lists) window ws (settled_of (with_row h.state r.part (settle_row r.row)))) (sym bits)
      (subst (WordsSay (low_in lists) window (with_mark (low_in lists) window (mark_of r.part e) s.words)) (λ j q. sym (more q) j) (noted (low_in lists) window s.words (settled_of h.state) r.part e h.words)))
      grow (grow next.loads loads')
    where
      m : (h.owner r.part ≡ id) × (r.part < length h.state.rows) × (row_of h.state r.part ≡ r.row)
      m = mine lists s h id v seat r is

      same : (r.row.settled ++ take 1 r.row.flight) ++ drop 1 r.row.flight ≡ r.row.settled ++ r.row.flight
      same = append_assoc r.row.settled (take 1 r.row.flight) (drop 1 r.row.flight) ∙ ap (λ l. r.row.settled ++ l) (take-append-drop 1 r.row.flight)

      keep : RowStays lists r (settle_row r.row)
      keep = record { below = λ x lt. ap (entries_of (txn x)) same; fits = λ z. subst (λ l. count_new l ≤ low_in lists + window) (sym same) (row_fits lists s h id v seat r is z) }

      grow : (ls : List Load) → LoadsHold s.words ls → LoadsHold words ls
      grow ls k = subst (λ ws. LoadsHold ws ls) (sym bits) (loads_grow s.words (with_mark (low_in lists) window (mark_of r.part e) s.words) (marked_grows (low_in lists) window (mark_of r.part e) s.words h.words.size) ls k)

      more : (q : ℕ) → settled_of (with_row h.state r.part (settle_row r.row)) q ≡ with_more (settled_of h.state) r.part (e ∷ []) q
      more q = go (ℕ_discrete q r.part)
        where
          go : Dec (q ≡ r.part) → settled_of (with_row h.state r.part (settle_row r.row)) q ≡ (if q == r.part then settled_of h.state q ++ e ∷ [] else settled_of h.state q)
          go (yes k) =
              subst (λ j. settled_of (with_row h.state r.part (settle_row r.row)) j ≡ settled_of h.state j ++ e ∷ []) (sym k)
              (ap (λ (x : CoreRow). x.settled) (get_or-set_same h.state.rows r.part (settle_row r.row) no_row m.1)
              ∙ (ap (λ es. r.row.settled ++ take 1 es) f ∙ sym (ap (λ (x : CoreRow). x.settled ++ e ∷ []) m.2)))
              ∙ sym (ap (λ b. if b then settled_of h.state q ++ e ∷ [] else settled_of h.state q) (eq-eqb q r.part k))
          go (no n) = ap (λ (x : CoreRow). x.settled) (get_or-set_other h.state.rows r.part q (settle_row r.row) no_row n) ∙ sym (ap (λ b. if b then settled_of h.state q ++ e ∷ [] else settled_of h.state q) (ne_eqb q r.part n))

  pub drops_to : (e : CoreEntry) (rest : List CoreEntry) → r.row.flight ≡ e ∷ rest → r.row.sure ≡ false → (i : ℕ)
      → Holds lists (record { words = set s.words i (slice_index s.words i); homes = s.homes; views = set s.views id (loaded i (slice_index s.words i) (drop_view v)) })
  drops_to e rest f sure i =
      let m = mine lists s h id v seat r is in
      let keep : RowStays lists r (stop_row false r.row) =
      record {
        below = λ x lt.
            let none : entries_of (txn x) r.row.flight ≡ [] = ap (entries_of (txn x)) (sym (ap (λ (k : CoreRow). k.flight) m.2)) ∙ (below_settled lists s h x r.part lt).1 in
            filter-append (is_of (txn x)) r.row.settled [] ∙ (ap (λ l. entries_of (txn x) r.row.settled ++ l) (sym none) ∙ sym (filter-append (is_of (txn x)) r.row.settled r.row.flight));
        fits = λ z. let none : count_new [] ≡ 0 = refl in omega (arith, count_more r.row.settled [], count_more r.row.settled r.row.flight, none, row_fits lists s h id v seat r is z);
      } in
      row_stays lists s h id v seat r is (act.Stop r.part false)
      (may_lose e rest f sure)
      (stop_row false r.row) keep (ap (λ x. with_row h.state r.part (stop_row false x)) m.2) refl (loaded i (slice_index s.words i) (drop_view v)) (ap (with_row_by (stop_row false)) is) i refl

-- a step on a word at which the bit of the entry is set
pub settles : (lists : List (List CoreEntry)) (id : ℕ) (v : View) (part : ℕ) (e : CoreEntry) (i : ℕ) (f : ℕ → ℕ) → IsSettling part e v
    → ((words : List ℕ) → length words ≡ 3 * window → set words i (f (slice_index words i)) ≡ with_mark (low_in lists) window (mark_of part e) words)
    → AllowsTo (Holds lists) id v i f (λ n. settle_view v)
settles lists id v part e i f k bits =
    λ s h seat.
    settles_to lists s h id v seat (record { part = part; row = k.row }) k.one e k.rest k.first (set s.words i (f (slice_index s.words i))) (bits s.words h.words.size) (settle_view v) refl (h.loads id v seat)

-- a load at which an entry settles that has no bit
pub settles_own : (lists : List (List CoreEntry)) (id : ℕ) (v : View) (part : ℕ) (e : CoreEntry) → IsSettling part e v → mark_of part e ≡ None → AllowsTo (Holds lists) id v 0 (λ n. n) (λ n. loaded 0 n (settle_view v))
settles_own lists id v part e k none =
    λ s h seat.
    settles_to lists s h id v seat (record { part = part; row = k.row }) k.one e k.rest k.first (set s.words 0 (slice_index s.words 0))
    (set-get_or s.words 0 0 ∙ sym (ap (λ m. with_mark (low_in lists) window m s.words) none)) (loaded 0 (slice_index s.words 0) (settle_view v)) refl (loads_more s.words v.loads 0 (h.loads id v seat))

pub drops : (lists : List (List CoreEntry)) (id : ℕ) (v : View) → MayDrop v → AllowsTo (Holds lists) id v 0 (λ n. n) (λ n. loaded 0 n (drop_view v))
drops lists id v k = λ s h seat. drops_to lists s h id v seat k.row k.one k.entry k.rest k.first k.unsure 0

quiet_none : (part : ℕ) (e : CoreEntry) → is_quiet e ≡ true → mark_of part e ≡ None
quiet_none part core.Plain q = refl
quiet_none part (core.Inside x) q = refl
quiet_none part (core.Marker x d) q = absurd (no_true q)
quiet_none part (core.New x) q = absurd (no_true q)
quiet_none part (core.AddPart x p) q = absurd (no_true q)
quiet_none part (core.Committing x) q = absurd (no_true q)
quiet_none part (core.Committed x) q = absurd (no_true q)
quiet_none part (core.Aborting x) q = absurd (no_true q)
quiet_none part (core.Aborted x) q = absurd (no_true q)

pub settles_quiet : (lists : List (List CoreEntry)) (id : ℕ) (v : View) → IsSettlingOwn v → AllowsTo (Holds lists) id v 0 (λ n. n) (λ n. loaded 0 n (settle_view v))
settles_quiet lists id v k = settles_own lists id v k.part k.entry k.settling (quiet_none k.part k.entry k.quiet)

pub settles_mark : (lists : List (List CoreEntry)) (id : ℕ) (v : View) (m : Option Mark) (i mask : ℕ) → IsSetting m v
    → ((words : List ℕ) → length words ≡ 3 * window → set words i (bit_or (slice_index words i) mask) ≡ with_mark (low_in lists) window m words)
    → AllowsTo (Holds lists) id v i (λ n. bit_or n mask) (λ n. settle_view v)
settles_mark lists id v m i mask k bits = settles lists id v k.part k.entry i (λ n. bit_or n mask) k.settling (λ words size. bits words size ∙ ap (λ o. with_mark (low_in lists) window o words) (sym k.sets))

-- ---- Which bit that is.

pub no_bit : (low : ℕ) (words : List ℕ) → set words 0 (bit_or (slice_index words 0) 0) ≡ with_mark low window None words
no_bit low words = ap (λ n. set words 0 n) (or_zero_r (slice_index words 0)) ∙ set-get_or words 0 0

pub below_bit : (low : ℕ) (m : Mark) (words : List ℕ) → m.txn < low → set words 0 (bit_or (slice_index words 0) 0) ≡ with_mark low window (Some m) words
below_bit low m words lt =
    no_bit low words ∙ sym (ap (λ b. if b then set_bit words (word_at low m.txn m.word) m.bit else words) (ap (λ b. b && nat_lt m.txn (low + window)) (lt-leb low m.txn lt)))

pub past_bit : (low : ℕ) (m : Mark) (words : List ℕ) → low + window ≤ m.txn → set words 0 (bit_or (slice_index words 0) 0) ≡ with_mark low window (Some m) words
past_bit low m words le =
    no_bit low words ∙ sym (ap (λ b. if b then set_bit words (word_at low m.txn m.word) m.bit else words) (ap (λ b. nat_le low m.txn && b) (le-ltb m.txn (low + window) le) ∙ off (nat_le low m.txn)))
  where
    off : (b : Bool) → (b && false) ≡ false
    off true = refl
    off false = refl

pub window_bit : (low : ℕ) (m : Mark) (words : List ℕ) (place mask : ℕ) → low ≤ m.txn → m.txn < low + window → place ≡ word_at low m.txn m.word → mask ≡ 2 ^ m.bit
    → set words place (bit_or (slice_index words place) mask) ≡ with_mark low window (Some m) words
window_bit low m words place mask le lt at is =
    ap (λ i. set words i (bit_or (slice_index words i) mask)) at ∙ (ap (λ n. set words (word_at low m.txn m.word) (bit_or (slice_index words (word_at low m.txn m.word)) n)) is
    ∙ sym (ap (λ b. if b then set_bit words (word_at low m.txn m.word) m.bit else words) (in_by low window m.txn (record { least = le; most = lt }))))

-- ---- The bit of an end.

ends_by : (part x : ℕ) (d : Decision) → mark_of part (end_entry part x d) ≡ ending_mark (Some part) x
ends_by part x d = go part (ℕ_discrete part 0) d
  where
    go : (part : ℕ) → Dec (part ≡ 0) → (d : Decision) → mark_of part (end_entry part x d) ≡ ending_mark (Some part) x
    go part (yes e) Commit = subst (λ q. mark_of q (end_entry q x Commit) ≡ ending_mark (Some q) x) (sym e) refl
    go part (yes e) Abort = subst (λ q. mark_of q (end_entry q x Abort) ≡ ending_mark (Some q) x) (sym e) refl
    go part (no n) d =
        ap (λ b. mark_of part (if b then closing_skeleton (txn x) d else core.Marker (txn x) d)) (ne_eqb part 0 n)
        ∙ (ap (λ b. mark_where (b && nat_lt part 64) (txn x) Done part) (le-leb 1 part (omega (arith, n))) ∙ by (nat_lt part 64))
      where
        by : (b : Bool) → mark_where (true && b) (txn x) Done part ≡ (if b then Some (record { txn = x; word = Done; bit = part }) else None)
        by true = refl
        by false = refl

pub ending_sets : (x : ℕ) (number : Option ℕ) (v : View) → IsNumberOf number v.rows → IsEnding x v → IsSetting (ending_mark number x) v
ending_sets x number v numbered k =
    record {
      part = k.part;
      entry = end_entry k.part x k.decision;
      settling = k.settling;
      sets = ends_by k.part x k.decision ∙ ap (λ n. ending_mark n x) (sym (subst (IsNumberOf number) k.settling.one numbered));
    }
