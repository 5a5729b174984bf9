-- The entries that were taken of a ledger, for any kind of entry.
use Rattle.std.proofs.Common.{⊎_elim, ◌≡◌, ℕ, ◌+◌, ◌<◌, ◌≤◌, List, [], ◌∷◌, ◌++◌, length, get_or, take, map, All, refl, sym, ap, ◌∙◌, subst, arith, length-append}
use Rattle.std.proofs.lemmas.Bool.{cases_lt}
use Rattle.std.proofs.lemmas.List.{take_more, take_all, take-append-le, get_or_append_left, get_or-map, map-append, length-map, append-nil}
use Rattle.std.proofs.lemmas.List.Concat.{flat_map-append}
use Rattle.std.proofs.lemmas.List.Elements.{All-append, All-push}
use Rattle.std.proofs.Math.Seq.{get_or-append_seam}
use Rattle.txn_base.specs.Content.{LedgerContent, Standing, settled, looked_at, in_flight, with_flight}
use Rattle.txn_base.specs.Frames.{Record, Batch, records}
use Rattle.txn_replay.specs.declared.grammar.Grammar.{Ghosts}
use Rattle.txn_replay.specs.Fronts.{record_at, entries_in, AreGrammatical, AreFirstOf, AreTakenFrom, AreEntriesOf, IsBadAfter, FirstBadRecord, Takes}
use Rattle.txn_replay.specs.Settling.{MayHaveSettled}

records-append : (a b : List Batch) → records (a ++ b) ≡ records a ++ records b
records-append a b = flat_map-append (λ batch. batch) a b

records-push : (batches : List Batch) (batch : Batch) → records (batches ++ batch ∷ []) ≡ records batches ++ batch
records-push batches batch = records-append batches (batch ∷ []) ∙ ap (λ (l : List Record). records batches ++ l) (append-nil batch)

-- What holds of batches, with any more or without, holds of them once what was in flight was settled.
once_settled : (P : List Batch → Type 0) (before after : LedgerContent) → MayHaveSettled before after → P before.batches → ((batch : Batch) → P (before.batches ++ batch ∷ [])) → P after.batches
once_settled P before after how was more = ⊎_elim (λ same. over after before.batches (ap (λ (l : LedgerContent). l.batches) same) was)
    (λ flight. ⊎_elim (λ is_kept. over after (with_flight before.batches before.standing) (ap (λ (l : LedgerContent). l.batches) is_kept) (either before.standing)) (λ is_dropped. over after before.batches (ap (λ (l : LedgerContent). l.batches) is_dropped) was) flight.1) how
  where
    over : (content : LedgerContent) (batches : List Batch) → content.batches ≡ batches → P batches → P content.batches
    over content batches same = subst P (sym same)

    either : (standing : Standing) → P (with_flight before.batches standing)
    either settled = was
    either looked_at = was
    either (in_flight batch) = more batch

module _ {S E : Type 0} (g : Ghosts S E) where
  pub no_front : (batches : List Batch) (front : List E) → front ≡ [] → AreTakenFrom g batches front
  no_front batches front none = subst (AreTakenFrom g batches) (sym none) (record { entries = refl; in_grammar = λ k d lt. absurd (omega (arith, lt)) })

  module _ (batches : List Batch) (front more : List E) (bytes : Record) (within : length front < length (records batches)) (is : bytes ≡ record_at batches (length front))
      (good : g.is_record bytes (g.entry_of bytes)) (added : more ≡ front ++ g.entry_of bytes ∷ []) where
    longer : length more ≡ length front + 1
    longer = omega (arith, ap length added, length-append front (g.entry_of bytes ∷ []))

    -- with the next record
    pub first_more : AreFirstOf g batches front → AreFirstOf g batches more
    first_more was =
        let rs = records batches in let n = length front in
        let next : get_or (entries_in g batches) n (g.entry_of bytes) ≡ g.entry_of bytes = get_or-map g.entry_of rs n [] (g.entry_of bytes) within ∙ ap g.entry_of (sym is) in
        added ∙ ap (λ (l : List E). l ++ g.entry_of bytes ∷ []) was ∙ ap (λ (x : E). take n (entries_in g batches) ++ x ∷ []) (sym next)
        ∙ sym (take_more (entries_in g batches) n (g.entry_of bytes) (omega (arith, within, length-map rs g.entry_of))) ∙ ap (λ k. take k (entries_in g batches)) (sym longer)

    pub front_more : AreTakenFrom g batches front → AreTakenFrom g batches more
    front_more was =
        let rs = records batches in let n = length front in
        record {
          entries = first_more was.entries;
          in_grammar =
              subst (All (λ r. g.is_record r (g.entry_of r))) (sym (ap (λ k. take k rs) longer ∙ take_more rs n [] within))
              (All-push (λ r. g.is_record r (g.entry_of r)) (take n rs) (get_or rs n []) was.in_grammar (subst (λ r. g.is_record r (g.entry_of r)) is good));
        }

    -- the same of those from a place on
    pub entries_more : (from : ℕ) → AreEntriesOf g batches from front → AreEntriesOf g batches from more
    entries_more from are = λ k d le lt. ⊎_elim
        (λ before. subst (λ (l : List E). g.is_record (record_at batches k) (get_or l k d)) (sym added)
        (subst (g.is_record (record_at batches k)) (sym (get_or_append_left front (g.entry_of bytes ∷ []) d k before)) (are k d le before)))
        (λ past.
        let i : k ≡ length front = omega (arith, past, lt, longer) in
        subst (λ (j : ℕ). g.is_record (record_at batches j) (get_or more j d)) (sym i)
        (subst (λ (l : List E). g.is_record (record_at batches (length front)) (get_or l (length front) d)) (sym added)
        (subst (g.is_record (record_at batches (length front))) (sym (get_or-append_seam front (g.entry_of bytes) [] d)) (subst (λ r. g.is_record r (g.entry_of bytes)) is good))))
        (cases_lt k (length front))

  -- nothing was taken
  pub takes_none : (rule : ℕ) (tells : Type 0) (batches : List Batch) (before after : List E) → after ≡ before → g.lawful rule before → Takes g rule tells batches before after
  takes_none rule tells batches before after same lawful = subst (Takes g rule tells batches before) (sym same) (record {
    extends = sym (take_all (length before) before (omega arith));
    lawful = lawful;
    read = λ told k e le lt. absurd (omega (arith, le, lt));
    first = λ told was. was;
    taken = λ told was. was;
  })

  -- a bad record behind them is the first one
  pub first_bad_at : (rule : ℕ) (batches : List Batch) (front : List E) (bytes : Record) (place : ℕ) → length front ≡ place → place < length (records batches) → bytes ≡ record_at batches place
      → g.lawful rule front → AreTakenFrom g batches front → IsBadAfter g rule front bytes → FirstBadRecord g rule batches place
  first_bad_at rule batches front bytes place at within is lawful was bad =
      let are : front ≡ take place (entries_in g batches) = was.entries ∙ ap (λ n. take n (entries_in g batches)) at in
      record {
        within = within;
        in_grammar = subst (AreGrammatical g batches) at was.in_grammar;
        before = subst (g.lawful rule) are lawful;
        bad = subst (λ (l : List E). IsBadAfter g rule l (record_at batches place)) are (subst (IsBadAfter g rule front) is bad);
      }

  -- with all records of a batch, where they were all
  pub front_batch : (before after : List Batch) (batch : Batch) (front more : List E) → length front ≡ length (records before) → after ≡ before ++ batch ∷ [] → more ≡ front ++ map g.entry_of batch
      → All (λ r. g.is_record r (g.entry_of r)) batch → AreTakenFrom g before front → AreTakenFrom g after more
  front_batch before after batch front more whole grown added good was =
      let rs = records before in
      let log : records after ≡ rs ++ batch = ap records grown ∙ records-push before batch in
      let are : front ≡ entries_in g before = was.entries ∙ take_all (length front) (entries_in g before) (omega (arith, whole, length-map rs g.entry_of)) in
      let now : more ≡ entries_in g after =
      added ∙ ap (λ (l : List E). l ++ map g.entry_of batch) are ∙ sym (map-append g.entry_of rs batch) ∙ ap (map g.entry_of) (sym log) in
      let long : length more ≡ length (records after) = ap length now ∙ length-map (records after) g.entry_of in
      let first : take (length front) rs ≡ rs = take_all (length front) rs (omega (arith, whole)) in
      record {
        entries = now ∙ sym (take_all (length more) (entries_in g after) (omega (arith, long, length-map (records after) g.entry_of)));
        in_grammar =
            subst (All (λ r. g.is_record r (g.entry_of r))) (sym (take_all (length more) (records after) (omega (arith, long)) ∙ log))
            (All-append (λ r. g.is_record r (g.entry_of r)) rs batch (subst (All (λ r. g.is_record r (g.entry_of r))) first was.in_grammar) good);
      }

  module _ (before after more : List Batch) (front : List E) (within : length front ≤ length (records before)) (grown : after ≡ before ++ more) where
    log : records after ≡ records before ++ records more
    log = ap records grown ∙ records-append before more

    -- with batches behind
    first_longer : AreFirstOf g before front → AreFirstOf g after front
    first_longer was =
        was ∙ sym (ap (λ l. take (length front) (map g.entry_of l)) log ∙ ap (take (length front)) (map-append g.entry_of (records before) (records more))
        ∙ take-append-le (length front) (entries_in g before) (map g.entry_of (records more)) (omega (arith, within, length-map (records before) g.entry_of)))

    front_longer : AreTakenFrom g before front → AreTakenFrom g after front
    front_longer was = record {
      entries = first_longer was.entries;
      in_grammar = subst (All (λ r. g.is_record r (g.entry_of r))) (sym (ap (take (length front)) log ∙ take-append-le (length front) (records before) (records more) within)) was.in_grammar;
    }

  -- once what was in flight was settled
  module _ (before after : LedgerContent) (front : List E) (within : length front ≤ length (records before.batches)) (how : MayHaveSettled before after) where
    pub first_settled : AreFirstOf g before.batches front → AreFirstOf g after.batches front
    first_settled was = once_settled (λ (l : List Batch). AreFirstOf g l front) before after how was (λ batch. first_longer before.batches (before.batches ++ batch ∷ []) (batch ∷ []) front within refl was)

    pub front_settled : AreTakenFrom g before.batches front → AreTakenFrom g after.batches front
    front_settled was = once_settled (λ (l : List Batch). AreTakenFrom g l front) before after how was (λ batch. front_longer before.batches (before.batches ++ batch ∷ []) (batch ∷ []) front within refl was)
