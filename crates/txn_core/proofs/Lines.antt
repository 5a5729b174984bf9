-- Whatever a line is told, the change of the table's state is a list of core steps.
use Rattle.std.proofs.Common.{◌≡◌, ◌⊎◌, inl, inr, ◌||◌, ℕ, zero, suc, ◌+◌, ◌≤◌, ◌<◌, arith, Bool, true, false, if◌then◌else◌, List, [], ◌∷◌, length, Some, None, refl, sym, ap, ◌∙◌, subst}
use Rattle.std.specs.Prelude.{Option, MatchOption, map, nat_lt, slice_index_or}
use Rattle.std.proofs.lemmas.List.{length-map}
use Rattle.std.proofs.lemmas.Bool.{ltb-false}
use Rattle.std.specs.List.{list_any}
use Rattle.txn_base.specs.declared.limits.Limits.{Limits}
use Rattle.txn_base.specs.Limits.{InRange}
use Rattle.txn_base.specs.declared.txn.TxnId.{TxnId}
use Rattle.txn_base.specs.declared.txn.Decision.TheVariants.{Commit, Abort}
use Rattle.txn_base.specs.declared.core_entry.CoreEntry.{CoreEntry}
use Rattle.txn_base.specs.declared.entry.CoordEntry.{CoordEntry}
use Rattle.txn_base.specs.declared.entry.AckEntry.{AckEntry}
use Rattle.txn_base.specs.declared.request.Request.{Request}
use Rattle.txn_base.specs.declared.request.Request.TheVariants as request
use Rattle.txn_base.specs.declared.reply.Reply.{Reply}
use Rattle.txn_base.specs.declared.reply.Refusal.{Refusal}
use Rattle.txn_base.specs.declared.reply.Refusal.TheVariants as no
use Rattle.txn_base.specs.declared.reply.Outcome.{Outcome}
use Rattle.txn_base.specs.Names.{topic_of}
use Rattle.txn_model.specs.declared.world.World.{World}
use Rattle.txn_model.specs.Words.{when, has, numbers_from, first_said}
use Rattle.txn_model.specs.Skeletons.{topic_skeleton}
use Rattle.txn_model.specs.Entries.{message_entry}
use Rattle.txn_model.specs.Coord.{in_parts}
use Rattle.txn_model.specs.World.{log_of}
use Rattle.txn_model.specs.Table.{TableState, nothing, in_coord, in_topic, is_unrebuilt, at_moment, decision_batch}
use Rattle.txn_model.specs.Requests.{number_of}
use Rattle.txn_model.specs.EarlyRows.{early_rows, early_refusal, are_too_big}
use Rattle.txn_model.specs.LateRows.{late_refusal, acks_in}
use Rattle.txn_model.specs.Successes.{Success, success_of, acks_batch}
use Rattle.txn_model.specs.Answers.{uses, with_coord, AppendFails, Fulfils, Ends, Succeeds, Answers, early, unrecovered, unread, late, granted, no_memory, no_memory_later, tick_target, tick_reply, reads_clock, moved}
use Rattle.txn_model.specs.Replies.{RunState, RoseAt, LineKind, too_long, blank, form, AnswersFrom, Replied, Replies}
use Rattle.txn_model.specs.Allowed.{IsPartRebuilt, LawfulState}
use Rattle.txn_model.proofs.Laws.Tests.{no_true}
use Rattle.txn_model.proofs.Laws.States.{same_state, Keeps, all_keep, all_whole, from_keeps}
use Rattle.txn_model.proofs.Laws.Grants.{Granted, row_granted, rest_none, first_none, when_none, early_same}
use Rattle.txn_core.specs.Worlds.{skeletons_of, flights_of}
use Rattle.txn_core.specs.Steps.{no_row}
use Rattle.txn_core.specs.Kept.{resting_row, resting_core}
use Rattle.txn_core.specs.Tables.{row_by, Mirrors, AreSteps, FitsOneBatch}
use Rattle.txn_core.proofs.Moves.{same_steps}
use Rattle.txn_core.proofs.Led.{Led, both_led, eq_led, given_led, all_led, refused_led, fails_led}
use Rattle.txn_core.proofs.Driven.{has_first, has_later, end_led, decides_led}

-- ---- A row, and a tick.

row_led : (rose : ℕ → Type 0) (row : Success) (t : TableState) (told : Reply) (t' : TableState) → LawfulState t → Granted row.adds t.world → IsPartRebuilt row.adds t → FitsOneBatch row.adds
    → Fulfils row t told t' ⊎ AppendFails rose row.adds t told t' → Led t t'
row_led rose row t told t' s g whole short (inl h) = subst (Led t) (sym h.1) (given_led row.adds t row.given s g whole short)
row_led rose row t told t' s g whole short (inr h) = fails_led rose row.adds t told t' s g whole short h

tick_led : (rose : ℕ → Type 0) (t : TableState) (o : Option TxnId) (told : Reply) (t' : TableState) → LawfulState t → is_unrebuilt t 0 ≡ false
    → MatchOption o ((told ≡ tick_reply t None) × (t' ≡ t))
    (λ x. ((outcome : Outcome) × Ends rose t x Abort outcome t' × (told ≡ tick_reply t' (Some (x, outcome)))) ⊎ AppendFails rose (decision_batch t x Abort) t told t')
    → Led t t'
tick_led rose t None told t' s whole h = eq_led t t' h.1
tick_led rose t (Some x) told t' s whole (inl h) = end_led rose t x Abort h.0 t' s whole h.1
tick_led rose t (Some x) told t' s whole (inr h) = decides_led rose t x Abort told t' s whole h

-- ---- The parts that a request uses, and how much it adds.

abbrev WholeFor : World → Request → TableState → Type 0
WholeFor w r t = (p : ℕ) → has (uses w r) p ≡ true → is_unrebuilt t p ≡ false

uses_same : (w w' : World) (r : Request) → w'.names ≡ w.names → uses w' r ≡ uses w r
uses_same w w' r e = ap (λ names. uses (record { names = names; coord = w'.coord; topics = w'.topics; subs = w'.subs }) r) e

has_behind : (who : Option TxnId) (p : ℕ) (ps : List ℕ) → has ps p ≡ true → has (with_coord who ps) p ≡ true
has_behind None p ps h = h
has_behind (Some x) p ps h = has_later 0 p ps h

acks_whole : (t : TableState) (p : ℕ) (es : List AckEntry) → is_unrebuilt t p ≡ false → IsPartRebuilt (acks_batch p es) t
acks_whole t p [] h = tt
acks_whole t p (e ∷ es) h = h

acks_short : (p : ℕ) (es : List AckEntry) → FitsOneBatch (acks_batch p es)
acks_short p [] = omega arith
acks_short p (e ∷ es) = omega arith

add_whole : (t : TableState) (b : Bool) (e : CoordEntry) → is_unrebuilt t 0 ≡ false → IsPartRebuilt (if b then nothing else in_coord e) t
add_whole t true e h = tt
add_whole t false e h = h

add_short : (b : Bool) (e : CoordEntry) → FitsOneBatch (if b then nothing else in_coord e)
add_short true e = omega arith
add_short false e = omega arith

or_first : (a b : Bool) → (a || b) ≡ false → a ≡ false
or_first true b h = absurd (no_true (sym h))
or_first false b h = refl

abbrev tail_of : {A : Type 0} → List A → List A
tail_of [] = []
tail_of (x ∷ xs) = xs

tail_none : {V : Type 0} (os : List (Option V)) → first_said os ≡ None → first_said (tail_of os) ≡ None
tail_none [] h = refl
tail_none (o ∷ os) h = rest_none o os h

publish_short : (limits : Limits) (w : World) (topic : List ℕ) (who : Option TxnId) (bodies : List (List ℕ)) (p : ℕ) → InRange limits → early_refusal limits w (request.Publish topic who bodies) ≡ None
    → FitsOneBatch (in_topic p (map (message_entry who) bodies))
publish_short limits w topic who bodies p range h =
    let rows : List (Option Refusal) = early_rows limits w (request.Publish topic who bodies) in
    let a = tail_none rows h in
    let b = tail_none (tail_of rows) a in
    let c = tail_none (tail_of (tail_of rows)) b in
    let d = tail_none (tail_of (tail_of (tail_of rows))) c in
    let e = tail_none (tail_of (tail_of (tail_of (tail_of rows)))) d in
    let f = tail_none (tail_of (tail_of (tail_of (tail_of (tail_of rows))))) e in
    let small : are_too_big limits bodies ≡ false = when_none (are_too_big limits bodies) no.TooBig (first_none (when (are_too_big limits bodies) no.TooBig) [] f) in
    let within : length bodies ≤ limits.batch =
    ltb-false limits.batch (length bodies) (or_first (nat_lt limits.batch (length bodies)) (list_any (λ body. nat_lt limits.message (length body)) bodies) small) in
    let most : limits.batch ≤ 64 = range.batch.most in
    omega (arith, within, most, length-map (map (message_entry who) bodies) topic_skeleton, length-map bodies (message_entry who))

success_led : (rose : ℕ → Type 0) (limits : Limits) (t : TableState) (r : Request) (told : Reply) (t' : TableState) → InRange limits → LawfulState t → early_refusal limits t.world r ≡ None → late_refusal limits t r ≡ None → WholeFor t.world r t
    → Succeeds limits rose t r told t' → Led t t'
success_led rose limits t (request.Commit x) told t' range s e l whole (inl h) = end_led rose t x Commit h.0 t' s (whole 0 refl) h.1
success_led rose limits t (request.Commit x) told t' range s e l whole (inr h) = decides_led rose t x Commit told t' s (whole 0 refl) h
success_led rose limits t (request.Abort x) told t' range s e l whole (inl h) = end_led rose t x Abort h.0 t' s (whole 0 refl) h.1
success_led rose limits t (request.Abort x) told t' range s e l whole (inr h) = decides_led rose t x Abort told t' s (whole 0 refl) h
success_led rose limits t request.Tick told t' range s e l whole h = tick_led rose t (tick_target t) told t' s (whole 0 refl) h
success_led rose limits t (request.New timeout) told t' range s e l whole h =
    row_led rose (success_of limits t (request.New timeout)) t told t' s (row_granted limits t (request.New timeout) s.lawful e l) (whole 0 refl) (omega arith) h
success_led rose limits t (request.Add x part) told t' range s e l whole h =
    row_led rose (success_of limits t (request.Add x part)) t told t' s (row_granted limits t (request.Add x part) s.lawful e l)
    (add_whole t (in_parts (log_of t.world) x (number_of t.world part)) _ (whole 0 refl)) (add_short (in_parts (log_of t.world) x (number_of t.world part)) _) h
success_led rose limits t (request.Publish topic who bodies) told t' range s e l whole h =
    row_led rose (success_of limits t (request.Publish topic who bodies)) t told t' s (row_granted limits t (request.Publish topic who bodies) s.lawful e l)
    (whole (number_of t.world topic) (has_behind who (number_of t.world topic) (number_of t.world topic ∷ []) (has_first (number_of t.world topic) [])))
    (publish_short limits t.world topic who bodies (number_of t.world topic) range e) h
success_led rose limits t (request.Ack sub who places) told t' range s e l whole h =
    row_led rose (success_of limits t (request.Ack sub who places)) t told t' s (row_granted limits t (request.Ack sub who places) s.lawful e l)
    (acks_whole t (number_of t.world sub) (acks_in t.world (request.Ack sub who places))
    (whole (number_of t.world sub) (has_behind who (number_of t.world sub) (number_of t.world (topic_of sub) ∷ number_of t.world sub ∷ [])
    (has_later (number_of t.world (topic_of sub)) (number_of t.world sub) (number_of t.world sub ∷ []) (has_first (number_of t.world sub) [])))))
    (acks_short (number_of t.world sub) (acks_in t.world (request.Ack sub who places))) h
success_led rose limits t (request.AckUpTo sub who place) told t' range s e l whole h =
    row_led rose (success_of limits t (request.AckUpTo sub who place)) t told t' s (row_granted limits t (request.AckUpTo sub who place) s.lawful e l)
    (acks_whole t (number_of t.world sub) (acks_in t.world (request.AckUpTo sub who place))
    (whole (number_of t.world sub) (has_behind who (number_of t.world sub) (number_of t.world (topic_of sub) ∷ number_of t.world sub ∷ [])
    (has_later (number_of t.world (topic_of sub)) (number_of t.world sub) (number_of t.world sub ∷ []) (has_first (number_of t.world sub) [])))))
    (acks_short (number_of t.world sub) (acks_in t.world (request.AckUpTo sub who place))) h
success_led rose limits t (request.Status x) told t' range s e l whole h = row_led rose (success_of limits t (request.Status x)) t told t' s (row_granted limits t (request.Status x) s.lawful e l) tt (omega arith) h
success_led rose limits t (request.Read topic first max) told t' range s e l whole h =
    row_led rose (success_of limits t (request.Read topic first max)) t told t' s (row_granted limits t (request.Read topic first max) s.lawful e l) tt (omega arith) h
success_led rose limits t (request.Receive sub max) told t' range s e l whole h = row_led rose (success_of limits t (request.Receive sub max)) t told t' s (row_granted limits t (request.Receive sub max) s.lawful e l) tt (omega arith) h
success_led rose limits t (request.Redeliver sub) told t' range s e l whole h = row_led rose (success_of limits t (request.Redeliver sub)) t told t' s (row_granted limits t (request.Redeliver sub) s.lawful e l) tt (omega arith) h
success_led rose limits t request.Stop told t' range s e l whole h = row_led rose (success_of limits t request.Stop) t told t' s (row_granted limits t request.Stop s.lawful e l) tt (omega arith) h

-- ---- One request.

answers_led : (rose : ℕ → Type 0) (limits : Limits) (t : TableState) (r : Request) (told : Reply) (t' : TableState) → InRange limits → LawfulState t → Answers limits rose t r told t' → Led t t'
answers_led rose limits t r told t' range s (early row h o e) = eq_led t t' e
answers_led rose limits t r told t' range s (unrecovered h p f q o) = refused_led (uses t.world r) p t t' s f
answers_led rose limits t r told t' range s (unread h mid w g) =
    both_led t mid t' (all_led (uses t.world r) t mid s w) (eq_led mid t' g.4)
answers_led rose limits t r told t' range s (late h w row k o) = all_led (uses t.world r) t t' s w
answers_led rose limits t r told t' range s (granted h mid w k g) =
    let kept : Keeps t mid = all_keep (uses t.world r) t mid s w in
    both_led t mid t' (all_led (uses t.world r) t mid s w)
    (success_led rose limits mid r told t' range kept.state (early_same limits t.world mid.world r kept.names h) k
    (λ p i. all_whole (uses t.world r) t mid s w p (subst (λ ps. has ps p ≡ true) (uses_same t.world mid.world r kept.names) i)) g)
answers_led rose limits t r told t' range s (no_memory o e) = eq_led t t' e
answers_led rose limits t r told t' range s (no_memory_later h o (inl f)) = refused_led (uses t.world r) f.0 t t' s f.1
answers_led rose limits t r told t' range s (no_memory_later h o (inr w)) = all_led (uses t.world r) t t' s w

-- a request that reads the clock comes after its moment
moved_led : (rose : ℕ → Type 0) (limits : Limits) (t : TableState) (r : Request) (m : ℕ) (told : Reply) (t' : TableState) → InRange limits → LawfulState t → Answers limits rose (moved r m t) r told t' → Led t t'
moved_led rose limits t r m told t' range s a = by_test (reads_clock r) a
  where
    by_test : (b : Bool) → Answers limits rose (if b then at_moment m t else t) r told t' → Led t t'
    by_test true a =
        both_led t (at_moment m t) t' (record { steps = same_steps (length t.world.names) t (at_moment m t) refl refl; names = refl })
        (answers_led rose limits (at_moment m t) r told t' range (same_state t (at_moment m t) refl refl refl s) a)
    by_test false a = answers_led rose limits t r told t' range s a

-- ---- Lines.

from_led : (limits : Limits) (s : RunState) (r : Request) (told : Reply) (s' : RunState) → InRange limits → LawfulState s.table → AnswersFrom limits s r told s' → Led s.table s'.table
from_led limits s r told s' range l (inl h) = eq_led s.table s'.table (ap (λ (u : RunState). u.table) h.1)
from_led limits s r told s' range l (inr h) = moved_led (RoseAt s s') limits s.table r h.0 told s'.table range l h.2

still : (s s' : RunState) → s' ≡ s → LawfulState s.table → Led s.table s'.table × LawfulState s'.table
still s s' e l = (eq_led s.table s'.table (ap (λ (u : RunState). u.table) e), subst (λ u. LawfulState u.table) (sym e) l)

line_led : (limits : Limits) (s : RunState) (kind : LineKind) (told : List Reply) (s' : RunState) → InRange limits → LawfulState s.table → Replied limits s kind told s' → Led s.table s'.table × LawfulState s'.table
line_led limits s too_long told s' range l h = still s s' h.1 l
line_led limits s blank told s' range l h = still s s' h.1 l
line_led limits s (form None) told s' range l h = still s s' h.1 l
line_led limits s (form (Some r)) told s' range l h = (from_led limits s r h.0 s' range l h.2, from_keeps limits s r h.0 s' l h.2)

replies_led : (limits : Limits) (s : RunState) (kinds : List LineKind) (told : List Reply) (s' : RunState) → InRange limits → LawfulState s.table → Replies limits s kinds told s' → Led s.table s'.table
replies_led limits s [] told s' range l h = eq_led s.table s'.table (ap (λ (u : RunState). u.table) h.1)
replies_led limits s (kind ∷ kinds) told s' range l h =
    let now : Led s.table h.0.table × LawfulState h.0.table = line_led limits s kind h.1 h.0 range l h.3 in
    both_led s.table h.0.table s'.table now.0 (replies_led limits h.0 kinds h.2 s' range now.1 h.4)

pub request_steps : (limits : Limits) (s : RunState) (r : Request) (told : Reply) (s' : RunState) → InRange limits → LawfulState s.table → AnswersFrom limits s r told s' → AreSteps (length s.table.world.names) s.table s'.table
request_steps limits s r told s' range l h = (from_led limits s r told s' range l h).steps

pub lines_steps : (limits : Limits) (s : RunState) (kinds : List LineKind) (told : List Reply) (s' : RunState) → InRange limits → LawfulState s.table → Replies limits s kinds told s' → AreSteps (length s.table.world.names) s.table s'.table
lines_steps limits s kinds told s' range l h = (replies_led limits s kinds told s' range l h).steps

-- ---- The start.

numbered_at : (f : ℕ → List CoreEntry) (k count p : ℕ) → p < count → slice_index_or (map resting_row (map f (numbers_from k count))) p no_row ≡ resting_row (f (k + p))
numbered_at f k zero p h = absurd (omega (arith, h))
numbered_at f k (suc count) zero h = ap (λ j. resting_row (f j)) (omega arith)
numbered_at f k (suc count) (suc p) h = numbered_at f (suc k) count p (omega (arith, h)) ∙ ap (λ j. resting_row (f j)) (omega arith)

numbers_length : (k count : ℕ) → length (numbers_from k count) ≡ count
numbers_length k zero = refl
numbers_length k (suc count) = ap suc (numbers_length (suc k) count)

-- a state without flights has a core
pub rests_mirror : (n : ℕ) (t : TableState) → ((p : ℕ) → p ≤ n → flights_of t.world t.flights p ≡ []) → Mirrors n t (resting_core (map (skeletons_of t.world) (numbers_from 0 (n + 1))))
rests_mirror n t none =
    record {
      rows = length-map (map (skeletons_of t.world) (numbers_from 0 (n + 1))) resting_row ∙ length-map (numbers_from 0 (n + 1)) (skeletons_of t.world) ∙ numbers_length 0 (n + 1);
      row = λ p le.
          let none_before : 0 + p ≡ p = omega arith in
          numbered_at (skeletons_of t.world) 0 (n + 1) p (omega (arith, le)) ∙ ap (λ j. resting_row (skeletons_of t.world j)) none_before ∙ ap (λ f. row_by (skeletons_of t.world p) f false) (sym (none p le));
    }
