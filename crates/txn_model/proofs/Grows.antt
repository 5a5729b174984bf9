-- Whatever a line is told, each list of the world afterwards begins with what it was.
use Rattle.std.proofs.Common.{◌≡◌, ℕ, ◌==◌, eqb-true, Bool, true, false, if◌then◌else◌, List, [], ◌∷◌, ◌++◌, ◌+◌, length, drop, refl, sym, ap, ◌∙◌, subst, append_assoc}
use Rattle.std.proofs.lemmas.List.{append-nil}
use mathlib.Core.List.{IsPrefix}
use Rattle.txn_model.proofs.Words.{Limits, Reply, is_sub, World, list_at, with_list, append_at, Extends, Flights, followed, with_kept, TableState, EntryBatch, nothing, in_coord, in_topic, in_sub, world_with, resolved, is_topic, names_with, lists_for, world_named, RunState, LineKind, Replies}
use Rattle.txn_model.proofs.Shapes.{names_grow}
use Rattle.txn_model.proofs.Moves.{Moves, replies_go}

-- ---- Lists.

same : {E : Type 0} (xs : List E) → IsPrefix xs xs
same xs = ([], append-nil xs)

then_more : {E : Type 0} (xs more : List E) → IsPrefix xs (xs ++ more)
then_more xs more = (more, refl)

both : {E : Type 0} (xs ys zs : List E) → IsPrefix xs ys → IsPrefix ys zs → IsPrefix xs zs
both xs ys zs p q = (p.0 ++ q.0, sym (append_assoc xs p.0 q.0) ∙ (ap (λ w. w ++ q.0) p.1 ∙ q.1))

either : {E : Type 0} (b : Bool) (xs xs' ys ys' : List E) → IsPrefix xs xs' → IsPrefix ys ys' → IsPrefix (if b then xs else ys) (if b then xs' else ys')
either true xs xs' ys ys' p q = p
either false xs xs' ys ys' p q = q

set_step : {E : Type 0} (l : ℕ × List E) (ls : List (ℕ × List E)) (p : ℕ) (es : List E) (q : ℕ) (b : Bool) → (b ≡ true → l.0 ≡ p)
    → IsPrefix (if b then l.1 else list_at ls p) es → (IsPrefix (list_at ls p) es → IsPrefix (list_at ls q) (list_at (with_list ls p es) q))
    → IsPrefix (list_at (l ∷ ls) q) (list_at (if b then (p, es) ∷ ls else l ∷ with_list ls p es) q)
set_step l ls p es q true e h more =
    subst (λ k. IsPrefix (list_at (l ∷ ls) q) (if k == q then es else list_at ls q)) (e refl) (either (l.0 == q) l.1 es (list_at ls q) (list_at ls q) h (same (list_at ls q)))
set_step l ls p es q false e h more = either (l.0 == q) l.1 l.1 (list_at ls q) (list_at (with_list ls p es) q) (same l.1) (more h)

set_grows : {E : Type 0} (ls : List (ℕ × List E)) (p : ℕ) (es : List E) (q : ℕ) → IsPrefix (list_at ls p) es → IsPrefix (list_at ls q) (list_at (with_list ls p es) q)
set_grows [] p es q h = (list_at (with_list [] p es) q, refl)
set_grows (l ∷ ls) p es q h = set_step l ls p es q (l.0 == p) (eqb-true l.0 p) h (set_grows ls p es q)

append_grows : {E : Type 0} (ls : List (ℕ × List E)) (p : ℕ) (es : List E) (q : ℕ) → IsPrefix (list_at ls q) (list_at (append_at ls p es) q)
append_grows ls p es q = set_grows ls p (list_at ls p ++ es) q (then_more (list_at ls p) es)

if_grows : {E : Type 0} (b : Bool) (xs more : List E) → IsPrefix xs (if b then xs ++ more else xs)
if_grows true xs more = then_more xs more
if_grows false xs more = same xs

followed_grows : {E : Type 0} (stays : ℕ → Bool) (fs : ℕ → List E) (ls : List (ℕ × List E)) (q : ℕ) → IsPrefix (list_at ls q) (list_at (followed stays fs ls) q)
followed_grows stays fs [] q = same []
followed_grows stays fs (l ∷ ls) q =
    either (l.0 == q) l.1 (if stays l.0 then l.1 ++ fs l.0 else l.1) (list_at ls q) (list_at (followed stays fs ls) q) (if_grows (stays l.0) l.1 (fs l.0)) (followed_grows stays fs ls q)

-- ---- Worlds.

pub extends_same : (w : World) → Extends w w
extends_same w = record { names = same w.names; coord = same w.coord; topics = λ p. same (list_at w.topics p); subs = λ p. same (list_at w.subs p) }

pub extends_both : (a b c : World) → Extends a b → Extends b c → Extends a c
extends_both a b c f g =
    record {
      names = both a.names b.names c.names f.names g.names;
      coord = both a.coord b.coord c.coord f.coord g.coord;
      topics = λ p. both (list_at a.topics p) (list_at b.topics p) (list_at c.topics p) (f.topics p) (g.topics p);
      subs = λ p. both (list_at a.subs p) (list_at b.subs p) (list_at c.subs p) (f.subs p) (g.subs p);
    }

pub batch_grows : (b : EntryBatch) (w : World) → Extends w (world_with b w)
batch_grows nothing w = extends_same w
batch_grows (in_coord e) w = record { names = same w.names; coord = then_more w.coord (e ∷ []); topics = λ p. same (list_at w.topics p); subs = λ p. same (list_at w.subs p) }
batch_grows (in_topic q es) w = record { names = same w.names; coord = same w.coord; topics = λ p. append_grows w.topics q es p; subs = λ p. same (list_at w.subs p) }
batch_grows (in_sub q e) w = record { names = same w.names; coord = same w.coord; topics = λ p. same (list_at w.topics p); subs = λ p. append_grows w.subs q (e ∷ []) p }

append_within : {E : Type 0} (xs ys : List (ℕ × List E)) (q : ℕ) → IsPrefix (list_at xs q) (list_at (xs ++ ys) q)
append_within [] ys q = (list_at ys q, refl)
append_within (l ∷ xs) ys q = either (l.0 == q) l.1 l.1 (list_at xs q) (list_at (xs ++ ys) q) (same l.1) (append_within xs ys q)

pub named_grows : (w : World) (words : List (List ℕ)) → Extends w (world_named w (names_with w.names words))
named_grows w words =
    record {
      names = names_grow w.names words;
      coord = same w.coord;
      topics = λ p. append_within w.topics (lists_for is_topic (length w.names + 1) (drop (length w.names) (names_with w.names words))) p;
      subs = λ p. append_within w.subs (lists_for is_sub (length w.names + 1) (drop (length w.names) (names_with w.names words))) p;
    }

-- what a stop leaves extends what stood
pub kept_grows : (w : World) (f : Flights) (stays : ℕ → Bool) → Extends w (with_kept w f stays)
kept_grows w f stays =
    record { names = same w.names; coord = if_grows (stays 0) w.coord f.coord; topics = λ p. followed_grows stays f.topics w.topics p; subs = λ p. followed_grows stays f.subs w.subs p }

-- ---- Tables.

abbrev pub Grows : TableState → TableState → Type 0
Grows t t' = Extends t.world t'.world

resolved_grows : (p : ℕ) (stays : Bool) (t : TableState) → Grows t (resolved p stays t)
resolved_grows p true t = kept_grows t.world t.flights (λ q. q == p)
resolved_grows p false t = extends_same t.world

pub growing : (limits : Limits) → Moves limits Grows
growing limits =
    record {
      same = λ t. extends_same t.world;
      both = λ a b c f g. extends_both a.world b.world c.world f g;
      resolves = resolved_grows;
      rebuilds = resolved_grows;
      adds = λ b t given may. batch_grows b t.world;
      fails = λ b p t is may. extends_same t.world;
      hears = λ moment t. extends_same t.world;
    }

-- over any lines the world grows
pub replies_grow : (limits : Limits) (s : RunState) (kinds : List LineKind) (told : List Reply) (s' : RunState) → Replies limits s kinds told s' → Extends s.table.world s'.table.world
replies_grow limits = replies_go limits Grows (growing limits)
