-- Opening a board, dealing its rows to seats, joining seats, and closing the board.
use Rattle.std.proofs.Common.{◌≡◌, ◌≢◌, ◌⊎◌, ⊎_elim, inl, inr, ℕ, zero, suc, ◌+◌, ◌<◌, ◌≤◌, arith, Bool, true, false, ◌==◌, if◌then◌else◌, List, [], ◌∷◌, ◌++◌, length, get_or, set, refl, sym, ap, ◌∙◌, subst, length-append, append_assoc}
use Rattle.std.proofs.lemmas.List.{length-map, length-set, get_or_past, append-nil}
use Rattle.std.proofs.Math.Seq.{get_or-append_seam}
use Rattle.std.proofs.lemmas.Bool.{eq-eqb, ne_eqb}
use mathlib.Core.Option.{some, some-injective, some-ne-none}
use lib.ListN.{get_elem?}
use native.Mathlib.Decide.{ℕ_discrete, dec_lt}
use Rattle.atomic_table.specs.Table.{Splits, Joins, opening}
use Rattle.atomic_table.specs.Table as table
use Rattle.atomic_table.proofs.Lists.{at_set, at_longer, at_last, set_here, set_else}
use Rattle.txn_base.specs.declared.core_entry.CoreEntry.{CoreEntry}
use Rattle.txn_model.specs.Coord.{count_new}
use Rattle.txn_model.specs.Deadlines.{txn}
use Rattle.txn_core.specs.declared.step.CoreRow.{CoreRow}
use Rattle.txn_core.specs.declared.step.CoreStep.{CoreStep}
use Rattle.txn_core.specs.declared.step.CoreStep.TheVariants as act
use Rattle.txn_core.specs.Together.{AreLawful}
use Rattle.txn_core.specs.Steps.{CoreState, no_row, row_of, settled_of, start_row, settle_row, stop_row, can, core_after, run, kept_of}
use Rattle.txn_core.specs.Kept.{resting_row, resting_core}
use Rattle.txn_core.proofs.Laws.{stop_lawful}
use Rattle.txn_board.specs.declared.view.SeatRow.{SeatRow}
use Rattle.txn_board.specs.declared.view.View.{View}
use Rattle.txn_board.specs.Words.{window, WordsSay, entries_of}
use Rattle.txn_board.specs.Rows.{parts_in, list_in, low_in, AreSeatRows, NoneOf, AreApart, HasSeatRow, AreFrom, rows_from, opening_view, rest_rows, first_rows, rest_view, dealt_view, joined_view, spent_view, kept_rows}
use Rattle.txn_board.specs.Rule.{LoadsHold, KeepLoads, HasSeat, CanOpenBoard, Holds}
use Rattle.txn_board.proofs.Steps.{settled_at, row_at, kept, there_less, seat_set}

-- ---- Opening.

fits_from : (owner : ℕ → ℕ) (lists front : List (List CoreEntry)) (p : ℕ) (ls : List (List CoreEntry)) → ((q : ℕ) → owner q ≡ 0) → lists ≡ front ++ ls → length front ≡ p → AreSeatRows (resting_core lists) owner 0 (rows_from p ls)
fits_from owner lists front p [] mine is len = tt
fits_from owner lists front p (l ∷ ls) mine is len =
    let lt : p < length lists = omega (arith, ap length is, length-append front (l ∷ ls), len) in
    let here : list_in lists p ≡ l = ap (λ rs. get_or rs p []) is ∙ (ap (λ n. get_or (front ++ l ∷ ls) n []) (sym len) ∙ get_or-append_seam front l ls []) in (
      (mine p, subst (λ n. p < n) (sym (length-map lists resting_row)) lt, row_at lists p ∙ ap resting_row here),
      fits_from owner lists (front ++ l ∷ []) (suc p) ls mine (is ∙ sym (append_assoc front (l ∷ []) ls)) (omega (arith, length-append front (l ∷ []), len)),
    )

none_from : (q p : ℕ) (ls : List (List CoreEntry)) → q < p → NoneOf q (rows_from p ls)
none_from q p [] lt = tt
none_from q p (l ∷ ls) lt = ((λ e. omega (arith, e, lt)), none_from q (suc p) ls (omega (arith, lt)))

apart_from : (p : ℕ) (ls : List (List CoreEntry)) → AreApart (rows_from p ls)
apart_from p [] = tt
apart_from p (l ∷ ls) = (none_from p (suc p) ls (omega arith), apart_from (suc p) ls)

one_view : (P : ℕ → View → Type 0) (v : View) → P 0 v → (id : ℕ) (u : View) → get_elem? (v ∷ []) id ≡ some u → P id u
one_view P v h zero u e = subst (P 0) (some-injective v u e) h
one_view P v h (suc id) u e = absurd (some-ne-none u (sym e))

has_from : (k : ℕ) (ls : List (List CoreEntry)) (p : ℕ) → k ≤ p → p < k + length ls → HasSeatRow p (rows_from k ls)
has_from k [] p le lt = absurd (omega (arith, le, lt))
has_from k (l ∷ ls) p le lt = elim (ℕ_discrete p k) [ yes e ↦ inl e | no n ↦ inr (has_from (suc k) ls p (omega (arith, le, n)) (omega (arith, lt))) ]

pub opens : (lists : List (List CoreEntry)) (words : List ℕ) → CanOpenBoard lists → WordsSay (low_in lists) window words (list_in lists) → Holds lists (opening words [] (opening_view lists))
opens lists words may say =
    record {
      state = resting_core lists;
      owner = λ _. 0;
      may = may;
      steps = [];
      reached = refl;
      words = subst (WordsSay (low_in lists) window words) (λ i p. sym (settled_at lists p) i) say;
      settled_below = λ x p lt. ap (λ (r : CoreRow). entries_of (txn x) (r.settled ++ r.flight)) (row_at lists p) ∙ ap (entries_of (txn x)) (append-nil (list_in lists p));
      fits = subst (λ (r : CoreRow). count_new (r.settled ++ r.flight) ≤ low_in lists + window) (sym (row_at lists 0)) (subst (λ l. count_new l ≤ low_in lists + window) (sym (append-nil (list_in lists 0))) may.fits);
      seated = λ p lt. record { view = opening_view lists; there = refl; row = has_from 0 lists p (omega arith) (omega (arith, lt, length-map lists resting_row)) };
      rows = one_view (λ id u. AreSeatRows (resting_core lists) (λ _. 0) id u.rows) (opening_view lists) (fits_from (λ _. 0) lists [] 0 lists (λ _. refl) refl refl);
      apart = one_view (λ _ u. AreApart u.rows) (opening_view lists) (apart_from 0 lists);
      loads = one_view (λ _ u. LoadsHold words u.loads) (opening_view lists) tt;
    }

pub opening_keeps : (lists : List (List CoreEntry)) (words : List ℕ) → KeepLoads (opening words [] (opening_view lists))
opening_keeps lists words = one_view (λ _ u. LoadsHold words u.loads) (opening_view lists) tt

pub from_opening : (p : ℕ) (ls : List (List CoreEntry)) → AreFrom p (rows_from p ls)
from_opening p [] = tt
from_opening p (l ∷ ls) = (refl, from_opening (suc p) ls)

pub count_from : (p : ℕ) (ls : List (List CoreEntry)) → length (rows_from p ls) ≡ length ls
count_from p [] = refl
count_from p (l ∷ ls) = ap suc (count_from (suc p) ls)

-- ---- Dealing.

at_end : {A : Type 0} (l : List A) (a b : A) (j : ℕ) → get_elem? (l ++ a ∷ []) j ≡ some b → (get_elem? l j ≡ some b) ⊎ ((j ≡ length l) × (a ≡ b))
at_end [] a b zero e = inr (refl, some-injective a b e)
at_end [] a b (suc j) e = absurd (some-ne-none b (sym e))
at_end (x ∷ xs) a b zero e = inl e
at_end (x ∷ xs) a b (suc j) e = ⊎_elim (λ t. inl t) (λ (t : (j ≡ length xs) × (a ≡ b)). inr (ap suc t.0, t.1)) (at_end xs a b j e)

abbrev given : (ℕ → ℕ) → ℕ → ℕ → ℕ → ℕ
given owner p n q = if q == p then n else owner q

given_else : (owner : ℕ → ℕ) (p n q : ℕ) → q ≢ p → given owner p n q ≡ owner q
given_else owner p n q e = ap (λ b. if b then n else owner q) (ne_eqb q p e)

given_here : (owner : ℕ → ℕ) (p n : ℕ) → given owner p n p ≡ n
given_here owner p n = ap (λ b. if b then n else owner p) (eq-eqb p p refl)

-- rows of other parts keep their seat
keep_rows : (c : CoreState) (owner : ℕ → ℕ) (p n id : ℕ) (rs : List SeatRow) → NoneOf p rs → AreSeatRows c owner id rs → AreSeatRows c (given owner p n) id rs
keep_rows c owner p n id [] none f = tt
keep_rows c owner p n id (r ∷ rs) none f = ((given_else owner p n r.part (λ e. none.0 (sym e)) ∙ f.0.0, f.0.1, f.0.2), keep_rows c owner p n id rs none.1 f.1)

none_there : (c : CoreState) (owner : ℕ → ℕ) (p id j : ℕ) (rs : List SeatRow) → owner p ≡ id → j ≢ id → AreSeatRows c owner j rs → NoneOf p rs
none_there c owner p id j [] mine away f = tt
none_there c owner p id j (r ∷ rs) mine away f = ((λ e. away (sym f.0.0 ∙ (ap owner (sym e) ∙ mine))), none_there c owner p id j rs mine away f.1)

-- of the views after one was cut in two
each_dealt : (views : List View) (id : ℕ) (left right : View) (P : ℕ → View → Type 0) → P id left → P (length (set views id left)) right → ((j : ℕ) (u : View) → j ≢ id → get_elem? views j ≡ some u → P j u)
    → (j : ℕ) (u : View) → get_elem? (set views id left ++ right ∷ []) j ≡ some u → P j u
each_dealt views id left right P mine new others j u e =
    ⊎_elim
    (λ t. ⊎_elim
    (λ (k : (j ≡ id) × (left ≡ u)). subst (λ n. P n u) (sym k.0) (subst (P id) k.1 mine))
    (λ (k : (j ≢ id) × (get_elem? views j ≡ some u)). others j u k.0 k.1)
    (at_set views id j left u t))
    (λ (t : (j ≡ length (set views id left)) × (right ≡ u)). subst (λ n. P n u) (sym t.0) (subst (P (length (set views id left))) t.1 new))
    (at_end (set views id left) right u j e)

pub deal_keeps : (id : ℕ) (v : View) → Splits KeepLoads id v (rest_view v) (dealt_view v)
deal_keeps id v = λ s h seat. each_dealt s.views id (rest_view v) (dealt_view v) (λ _ u. LoadsHold s.words u.loads) (h id v seat) tt (λ j u away e. h j u e)

pub deals : (lists : List (List CoreEntry)) (id : ℕ) (v : View) → Splits (Holds lists) id v (rest_view v) (dealt_view v)
deals lists id v = λ s h seat. go s h seat v.rows refl
  where
    go : (s : table.State ℕ View) (h : Holds lists s) → get_elem? s.views id ≡ some v → (rows : List SeatRow) → v.rows ≡ rows → Holds lists (record { words = s.words; homes = s.homes; views = set s.views id (rest_view v) ++ dealt_view v ∷ [] })
    go s h seat rows is = record {
      state = h.state;
      owner = owner';
      may = h.may;
      steps = h.steps;
      reached = h.reached;
      words = h.words;
      settled_below = h.settled_below;
      fits = h.fits;
      seated = λ p lt. seats rows is p (h.seated p lt);
      rows = each (λ j u. AreSeatRows h.state owner' j u.rows) (rest_fit rows is) (first_fit rows is) (else_fit rows is);
      apart = each (λ _ u. AreApart u.rows) (rest_apart v.rows (h.apart id v seat)) (first_apart v.rows) (λ j u away e. h.apart j u e);
      loads = each (λ _ u. LoadsHold s.words u.loads) (h.loads id v seat) tt (λ j u away e. h.loads j u e);
    }
      where
        new : ℕ
        new = length (set s.views id (rest_view v))

        owner_by : List SeatRow → ℕ → ℕ
        owner_by [] = h.owner
        owner_by (r ∷ rs) = given h.owner r.part new

        owner' : ℕ → ℕ
        owner' = owner_by rows

        each : (P : ℕ → View → Type 0) → P id (rest_view v) → P new (dealt_view v) → ((j : ℕ) (u : View) → j ≢ id → get_elem? s.views j ≡ some u → P j u) → (j : ℕ) (u : View) → get_elem? (set s.views id (rest_view v) ++ dealt_view v ∷ []) j ≡ some u → P j u
        each = each_dealt s.views id (rest_view v) (dealt_view v)

        longer : (i p : ℕ) → HasSeat (set s.views id (rest_view v)) i p → HasSeat (set s.views id (rest_view v) ++ dealt_view v ∷ []) i p
        longer i p k = record { view = k.view; there = at_longer (set s.views id (rest_view v)) (dealt_view v ∷ []) i k.view k.there; row = k.row }

        seats : (rs : List SeatRow) → v.rows ≡ rs → (p : ℕ) → HasSeat s.views (h.owner p) p → HasSeat (set s.views id (rest_view v) ++ dealt_view v ∷ []) (owner_by rs p) p
        seats [] e p k = longer (h.owner p) p (seat_set s.views id v (rest_view v) seat (h.owner p) p (λ has. absurd (subst (HasSeatRow p) e has)) k)
        seats (r ∷ rs) e p k = pick (ℕ_discrete p r.part)
          where
            pick : Dec (p ≡ r.part) → HasSeat (set s.views id (rest_view v) ++ dealt_view v ∷ []) (given h.owner r.part new p) p
            pick (yes q) =
                record {
                  view = dealt_view v;
                  there = ap (get_elem? (set s.views id (rest_view v) ++ dealt_view v ∷ [])) (ap (given h.owner r.part new) q ∙ given_here h.owner r.part new) ∙ at_last (set s.views id (rest_view v)) (dealt_view v) new refl;
                  row = subst (λ l. HasSeatRow p (first_rows l)) (sym e) (inl q);
                }
            pick (no n) =
                subst (λ i. HasSeat (set s.views id (rest_view v) ++ dealt_view v ∷ []) i p) (sym (given_else h.owner r.part new p n))
                (longer (h.owner p) p (seat_set s.views id v (rest_view v) seat (h.owner p) p (λ has. subst (λ l. HasSeatRow p (rest_rows l)) (sym e) (⊎_elim (λ q. absurd (n q)) (λ m. m) (subst (HasSeatRow p) e has))) k))

        rest_apart : (rs : List SeatRow) → AreApart rs → AreApart (rest_rows rs)
        rest_apart [] a = tt
        rest_apart (r ∷ rs) a = a.1

        first_apart : (rs : List SeatRow) → AreApart (first_rows rs)
        first_apart [] = tt
        first_apart (r ∷ rs) = (tt, tt)

        all : (rs : List SeatRow) → v.rows ≡ rs → AreSeatRows h.state h.owner id rs
        all rs e = subst (λ l. AreSeatRows h.state h.owner id l) e (h.rows id v seat)

        apart : (rs : List SeatRow) → v.rows ≡ rs → AreApart rs
        apart rs e = subst AreApart e (h.apart id v seat)

        rest_fit : (rs : List SeatRow) → v.rows ≡ rs → AreSeatRows h.state (owner_by rs) id (rest_rows v.rows)
        rest_fit [] e = subst (λ l. AreSeatRows h.state h.owner id (rest_rows l)) (sym e) tt
        rest_fit (r ∷ rs) e = subst (λ l. AreSeatRows h.state (given h.owner r.part new) id (rest_rows l)) (sym e) (keep_rows h.state h.owner r.part new id rs (apart (r ∷ rs) e).0 (all (r ∷ rs) e).1)

        first_fit : (rs : List SeatRow) → v.rows ≡ rs → AreSeatRows h.state (owner_by rs) new (first_rows v.rows)
        first_fit [] e = subst (λ l. AreSeatRows h.state h.owner new (first_rows l)) (sym e) tt
        first_fit (r ∷ rs) e = subst (λ l. AreSeatRows h.state (given h.owner r.part new) new (first_rows l)) (sym e) (let f = (all (r ∷ rs) e).0 in ((given_here h.owner r.part new, f.1, f.2), tt))

        else_fit : (rs : List SeatRow) → v.rows ≡ rs → (j : ℕ) (u : View) → j ≢ id → get_elem? s.views j ≡ some u → AreSeatRows h.state (owner_by rs) j u.rows
        else_fit [] e j u away at = h.rows j u at
        else_fit (r ∷ rs) e j u away at = keep_rows h.state h.owner r.part new j u.rows (none_there h.state h.owner r.part id j u.rows (all (r ∷ rs) e).0.0 away (h.rows j u at)) (h.rows j u at)

-- ---- Joining.

abbrev moved : (ℕ → ℕ) → ℕ → ℕ → ℕ → ℕ
moved owner other id q = if owner q == other then id else owner q

moved_here : (owner : ℕ → ℕ) (other id q : ℕ) → owner q ≡ other → moved owner other id q ≡ id
moved_here owner other id q e = ap (λ b. if b then id else owner q) (eq-eqb (owner q) other e)

moved_else : (owner : ℕ → ℕ) (other id q j : ℕ) → owner q ≡ j → j ≢ other → moved owner other id q ≡ j
moved_else owner other id q j e n = ap (λ b. if b then id else owner q) (ne_eqb (owner q) other (λ k. n (sym e ∙ k))) ∙ e

fit_from : (c : CoreState) (owner : ℕ → ℕ) (other id : ℕ) (rs : List SeatRow) → AreSeatRows c owner other rs → AreSeatRows c (moved owner other id) id rs
fit_from c owner other id [] f = tt
fit_from c owner other id (r ∷ rs) f = ((moved_here owner other id r.part f.0.0, f.0.1, f.0.2), fit_from c owner other id rs f.1)

fit_else : (c : CoreState) (owner : ℕ → ℕ) (other id j : ℕ) (rs : List SeatRow) → j ≢ other → AreSeatRows c owner j rs → AreSeatRows c (moved owner other id) j rs
fit_else c owner other id j [] n f = tt
fit_else c owner other id j (r ∷ rs) n f = ((moved_else owner other id r.part j f.0.0 n, f.0.1, f.0.2), fit_else c owner other id j rs n f.1)

fit_append : (c : CoreState) (owner : ℕ → ℕ) (id : ℕ) (xs ys : List SeatRow) → AreSeatRows c owner id xs → AreSeatRows c owner id ys → AreSeatRows c owner id (xs ++ ys)
fit_append c owner id [] ys f g = g
fit_append c owner id (x ∷ xs) ys f g = (f.0, fit_append c owner id xs ys f.1 g)

none_apart : (c : CoreState) (owner : ℕ → ℕ) (p id other : ℕ) (rs : List SeatRow) → owner p ≡ id → other ≢ id → AreSeatRows c owner other rs → NoneOf p rs
none_apart c owner p id other [] e n f = tt
none_apart c owner p id other (r ∷ rs) e n f = ((λ k. n (sym f.0.0 ∙ (ap owner (sym k) ∙ e))), none_apart c owner p id other rs e n f.1)

none_append : (p : ℕ) (xs ys : List SeatRow) → NoneOf p xs → NoneOf p ys → NoneOf p (xs ++ ys)
none_append p [] ys f g = g
none_append p (x ∷ xs) ys f g = (f.0, none_append p xs ys f.1 g)

apart_append : (c : CoreState) (owner : ℕ → ℕ) (id other : ℕ) (xs ys : List SeatRow) → other ≢ id → AreSeatRows c owner id xs → AreSeatRows c owner other ys → AreApart xs → AreApart ys → AreApart (xs ++ ys)
apart_append c owner id other [] ys n f g a b = b
apart_append c owner id other (x ∷ xs) ys n f g a b = (none_append x.part xs ys a.0 (none_apart c owner x.part id other ys f.0.0 n g), apart_append c owner id other xs ys n f.1 g a.1 b)

has_left : (p : ℕ) (xs ys : List SeatRow) → HasSeatRow p xs → HasSeatRow p (xs ++ ys)
has_left p [] ys k = absurd k
has_left p (x ∷ xs) ys k = ⊎_elim (λ e. inl e) (λ m. inr (has_left p xs ys m)) k

has_right : (p : ℕ) (xs ys : List SeatRow) → HasSeatRow p ys → HasSeatRow p (xs ++ ys)
has_right p [] ys k = k
has_right p (x ∷ xs) ys k = inr (has_right p xs ys k)

seat_moved : (s : table.State ℕ View) (id : ℕ) (v : View) (other : ℕ) (w : View) (owner : ℕ → ℕ) → get_elem? s.views id ≡ some v → get_elem? s.views other ≡ some w → other ≢ id
    → (p : ℕ) → HasSeat s.views (owner p) p → HasSeat (set (set s.views id (joined_view v w)) other spent_view) (moved owner other id p) p
seat_moved s id v other w owner seat its away p k = go (ℕ_discrete (owner p) other)
  where
    go : Dec (owner p ≡ other) → HasSeat (set (set s.views id (joined_view v w)) other spent_view) (moved owner other id p) p
    go (yes e) =
        let is : k.view ≡ w = some-injective k.view w (sym k.there ∙ (ap (get_elem? s.views) e ∙ its)) in
        subst (λ i. HasSeat (set (set s.views id (joined_view v w)) other spent_view) i p) (sym (moved_here owner other id p e))
        (record {
          view = joined_view v w;
          there = set_else (set s.views id (joined_view v w)) other id spent_view (λ q. away (sym q)) ∙ set_here s.views id (joined_view v w) (there_less s.views id v seat);
          row = has_right p v.rows w.rows (subst (λ (u : View). HasSeatRow p u.rows) is k.row);
        })
    go (no n) =
        let first : HasSeat (set s.views id (joined_view v w)) (owner p) p = seat_set s.views id v (joined_view v w) seat (owner p) p (has_left p v.rows w.rows) k in
        subst (λ i. HasSeat (set (set s.views id (joined_view v w)) other spent_view) i p) (sym (moved_else owner other id p (owner p) refl n))
        (record { view = first.view; there = set_else (set s.views id (joined_view v w)) other (owner p) spent_view n ∙ first.there; row = first.row })

-- of the views after one took in another
each : (s : table.State ℕ View) (id : ℕ) (both : View) (other : ℕ) (P : ℕ → View → Type 0) → P id both → P other spent_view → ((j : ℕ) (u : View) → j ≢ id → j ≢ other → get_elem? s.views j ≡ some u → P j u)
    → (j : ℕ) (u : View) → get_elem? (set (set s.views id both) other spent_view) j ≡ some u → P j u
each s id both other P mine spent others j u e =
    ⊎_elim
    (λ (t : (j ≡ other) × (spent_view ≡ u)). subst (λ n. P n u) (sym t.0) (subst (P other) t.1 spent))
    (λ (t : (j ≢ other) × (get_elem? (set s.views id both) j ≡ some u)).
    ⊎_elim
    (λ (k : (j ≡ id) × (both ≡ u)). subst (λ n. P n u) (sym k.0) (subst (P id) k.1 mine))
    (λ (k : (j ≢ id) × (get_elem? s.views j ≡ some u)). others j u k.0 t.0 k.1)
    (at_set s.views id j both u t.1))
    (at_set (set s.views id both) other j spent_view u e)

pub join_keeps : (id : ℕ) (v : View) (other : ℕ) (w : View) → Joins KeepLoads id v other w (joined_view v w) spent_view
join_keeps id v other w = λ s h seat n there. each s id (joined_view v w) other (λ _ u. LoadsHold s.words u.loads) (h id v seat) tt (λ j u a b e. h j u e)

pub joins : (lists : List (List CoreEntry)) (id : ℕ) (v : View) (other : ℕ) (w : View) → Joins (Holds lists) id v other w (joined_view v w) spent_view
joins lists id v other w = λ s h seat n there.
    let n' : other ≢ id = n in
    let its : get_elem? s.views other ≡ some w =
    ⊎_elim (λ (t : (other ≡ id) × (joined_view v w ≡ w)). absurd (n' t.0)) (λ (t : (other ≢ id) × (get_elem? s.views other ≡ some w)). t.1) (at_set s.views id other (joined_view v w) w there) in
    let both = joined_view v w in
    record {
      state = h.state;
      owner = moved h.owner other id;
      may = h.may;
      steps = h.steps;
      reached = h.reached;
      words = h.words;
      settled_below = h.settled_below;
      fits = h.fits;
      seated = λ p lt. seat_moved s id v other w h.owner seat its n' p (h.seated p lt);
      rows = each s id both other (λ j u. AreSeatRows h.state (moved h.owner other id) j u.rows)
          (fit_append h.state (moved h.owner other id) id v.rows w.rows (fit_else h.state h.owner other id id v.rows (λ e. n' (sym e)) (h.rows id v seat)) (fit_from h.state h.owner other id w.rows (h.rows other w its)))
          tt (λ j u a b e. fit_else h.state h.owner other id j u.rows b (h.rows j u e));
      apart = each s id both other (λ _ u. AreApart u.rows) (apart_append h.state h.owner id other v.rows w.rows n' (h.rows id v seat) (h.rows other w its) (h.apart id v seat) (h.apart other w its)) tt (λ j u a b e. h.apart j u e);
      loads = each s id both other (λ _ u. LoadsHold s.words u.loads) (h.loads id v seat) tt (λ j u a b e. h.loads j u e);
    }

-- ---- Closing.

after_rows : (s : CoreState) (st : CoreStep) → length (core_after s st).rows ≡ length s.rows
after_rows s (act.Start p es) = length-set s.rows p (start_row es (row_of s p))
after_rows s (act.Settle p) = length-set s.rows p (settle_row (row_of s p))
after_rows s (act.Stop p stays) = length-set s.rows p (stop_row stays (row_of s p))
after_rows s (act.Tell topic first count) = refl

run_rows : (n : ℕ) (s : CoreState) (steps : List CoreStep) → length (run n steps s).rows ≡ length s.rows
run_rows n s [] = refl
run_rows n s (st ∷ steps) = run_rows n (if can n s st then core_after s st else s) steps ∙ either (can n s st)
  where
    either : (b : Bool) → length (if b then core_after s st else s).rows ≡ length s.rows
    either true = after_rows s st
    either false = refl

pub rows_of : (lists : List (List CoreEntry)) (s : table.State ℕ View) (h : Holds lists s) → length h.state.rows ≡ length lists
rows_of lists s h = ap (λ (c : CoreState). length c.rows) (sym h.reached) ∙ (run_rows (parts_in lists) (resting_core lists) h.steps ∙ length-map lists resting_row)

at_row : (c : CoreState) (owner : ℕ → ℕ) (id p : ℕ) (stays : ℕ → Bool) (rs : List SeatRow) → AreSeatRows c owner id rs → HasSeatRow p rs → kept_rows rs stays p ≡ kept_of c stays p
at_row c owner id p stays [] f has = absurd has
at_row c owner id p stays (r ∷ rs) f has = go (ℕ_discrete p r.part) (at_row c owner id p stays rs f.1)
  where
    mine : List CoreEntry
    mine = if stays p then r.row.settled ++ r.row.flight else r.row.settled

    go : Dec (p ≡ r.part) → (HasSeatRow p rs → kept_rows rs stays p ≡ kept_of c stays p) → (if p == r.part then mine else kept_rows rs stays p) ≡ kept_of c stays p
    go (yes e) more = ap (λ b. if b then mine else kept_rows rs stays p) (eq-eqb p r.part e) ∙ sym (ap (λ (x : CoreRow). if stays p then x.settled ++ x.flight else x.settled) (ap (λ q. row_of c q) e ∙ f.0.2))
    go (no n) more = ap (λ b. if b then mine else kept_rows rs stays p) (ne_eqb p r.part n) ∙ more (⊎_elim (λ k. absurd (n k)) (λ k. k) has)

no_list : (c : CoreState) (owner : ℕ → ℕ) (id p : ℕ) (stays : ℕ → Bool) (rs : List SeatRow) → AreSeatRows c owner id rs → length c.rows ≤ p → kept_rows rs stays p ≡ []
no_list c owner id p stays [] f le = refl
no_list c owner id p stays (r ∷ rs) f le =
    let lt = f.0.1 in
    ap (λ b. if b then (if stays p then r.row.settled ++ r.row.flight else r.row.settled) else kept_rows rs stays p) (ne_eqb p r.part (λ e. omega (arith, lt, le, e))) ∙ no_list c owner id p stays rs f.1 le

none_kept : (c : CoreState) (stays : ℕ → Bool) (p : ℕ) → length c.rows ≤ p → kept_of c stays p ≡ []
none_kept c stays p le = ap (λ (x : CoreRow). if stays p then x.settled ++ x.flight else x.settled) (get_or_past c.rows p no_row le) ∙ both (stays p)
  where
    both : (b : Bool) → (if b then no_row.settled ++ no_row.flight else no_row.settled) ≡ []
    both true = refl
    both false = refl

-- where a seat has every part's row, its lists are lawful together, whichever flights are kept
pub closes : (lists : List (List CoreEntry)) (s : table.State ℕ View) (id : ℕ) (v : View) → Holds lists s → get_elem? s.views id ≡ some v → ((p : ℕ) → p < length lists → HasSeatRow p v.rows) → (stays : ℕ → Bool) → AreLawful (parts_in lists) (kept_rows v.rows stays)
closes lists s id v h seat all stays =
    let same : (p : ℕ) → kept_rows v.rows stays p ≡ kept_of h.state stays p = λ p. go p (dec_lt p (length h.state.rows)) in
    subst (AreLawful (parts_in lists)) (λ i p. sym (same p) i) (stop_lawful (parts_in lists) (settled_of h.state) (λ p. (row_of h.state p).flight) (kept lists s h).stands stays)
  where
    go : (p : ℕ) → Dec (p < length h.state.rows) → kept_rows v.rows stays p ≡ kept_of h.state stays p
    go p (yes lt) = at_row h.state h.owner id p stays v.rows (h.rows id v seat) (all p (subst (λ n. p < n) (rows_of lists s h) lt))
    go p (no n) = no_list h.state h.owner id p stays v.rows (h.rows id v seat) (omega (arith, n)) ∙ sym (none_kept h.state stays p (omega (arith, n)))

-- ---- One seat for each part.

owner_is : (c : CoreState) (owner : ℕ → ℕ) (id p : ℕ) (rs : List SeatRow) → AreSeatRows c owner id rs → HasSeatRow p rs → owner p ≡ id
owner_is c owner id p [] f k = absurd k
owner_is c owner id p (r ∷ rs) f k = ⊎_elim (λ e. ap owner e ∙ f.0.0) (λ m. owner_is c owner id p rs f.1 m) k

-- two seats with a row of one part are one seat
pub one_seat : (lists : List (List CoreEntry)) (s : table.State ℕ View) (h : Holds lists s) (id other : ℕ) (v w : View) (p : ℕ) → get_elem? s.views id ≡ some v → get_elem? s.views other ≡ some w → HasSeatRow p v.rows → HasSeatRow p w.rows → id ≡ other
one_seat lists s h id other v w p seat its k m = sym (owner_is h.state h.owner id p v.rows (h.rows id v seat) k) ∙ owner_is h.state h.owner other p w.rows (h.rows other w its) m
