-- An engine that gives the parts of a transaction their markers, one after another.
use Rattle.std.proofs.Common.{◌≡◌, ◌⊎◌, inl, inr, ℕ, ◌+◌, ◌<◌, ◌≤◌, ◌↔◌, ◌==◌, not, Bool, true, false, if◌then◌else◌, List, length, is_some, is_none, Result, Ok, Err, IsOk, IsErr, OnOk, OnErr, IsTrue, MatchBool, refl, sym, ap, ◌∙◌, subst, arith, slice_index_or}
use Rattle.std.specs.Int.{bit_at}
use Rattle.std.proofs.lemmas.Bool.Decides.{nat_tests}
use Rattle.txn_base.specs.declared.disk.Disk.{Ghosts}
use Rattle.txn_base.specs.Moves.{RoseIn}
use Rattle.txn_base.specs.declared.core_entry.CoreEntry.{CoreEntry}
use Rattle.txn_base.specs.declared.failed.Failed.{Failed}
use Rattle.txn_base.specs.declared.reply.Why.TheVariants as why
use Rattle.txn_base.specs.declared.txn.TxnId.{TxnId}
use Rattle.txn_base.specs.declared.txn.Decision.{Decision}
use Rattle.txn_buffer.specs.View.{TopicView}
use Rattle.txn_model.specs.Coord.{CoordLawful, in_parts, parts_of}
use Rattle.txn_model.specs.Drive.{MarksAll, StopsWithin, marker_fault}
use Rattle.txn_model.specs.Skeletons.{coord_skeletons, topic_skeletons}
use Rattle.txn_model.specs.Table.{marker_batch, marked, with_failed_batch}
use Rattle.txn_model.specs.Topic.{marker_of}
use Rattle.txn_model.specs.World.{part_skeletons}
use Rattle.txn_model.proofs.Laws.Names.{few_names}
use Rattle.txn_engine.specs.Ending.{AreReady, IsMarked, AreMarked, IsElsewhere}
use Rattle.txn_engine.specs.Kept.{IsEngine}
use Rattle.txn_engine.specs.Table.{table_of}
use Rattle.txn_engine.specs.Told.{EngineGoesOn}
use Rattle.txn_engine.specs.View.{EngineView, IsWhole, IsTied, IsBacked}
use Rattle.txn_engine.proofs.Going.{goes_still, goes_then, goes_like, rose_then}
use Rattle.txn_engine.proofs.Opened.{not_unrebuilt}
use Rattle.txn_engine.proofs.Marked.{from_ok_err}
use Rattle.txn_engine.proofs.Rows.{one_stays}
use Rattle.txn_engine.proofs.Parts.{parts_past, rest_has, rest_without, rest_ends, Marking, marking_starts, marking_more, marking_ends, marking_stops}

-- ---- What the bits say.

pub parts_say : (log : List CoreEntry) (x : TxnId) (parts at : ℕ) (r : Bool) → ((p : ℕ) → bit_at parts p ≡ (if in_parts log x p then 1 else 0)) → (IsTrue r ↔ (bit_at parts (at + 1) ≡ 1)) → in_parts log x (1 + at) ≡ r
parts_say log x parts at r bits says = by_bits (in_parts log x (1 + at)) r (subst (λ (k : ℕ). bit_at parts (at + 1) ≡ (if in_parts log x k then 1 else 0)) (turned at) (bits (at + 1))) says
  where
    turned : (at : ℕ) → at + 1 ≡ 1 + at
    turned at = omega arith

    not_both : (k : ℕ) → k ≡ 0 → k ≡ 1 → ⊥
    not_both k e h = omega (arith, e, h)

    by_bits : (b r : Bool) {k : ℕ} → k ≡ (if b then 1 else 0) → (IsTrue r ↔ (k ≡ 1)) → b ≡ r
    by_bits true true e says = refl
    by_bits true false e says = sym (says.1 e)
    by_bits false true {k = k} e says = absurd (not_both k e (says.0 refl))
    by_bits false false e says = refl

-- over an equal view
pub parts_at : (v w : EngineView) → v ≡ w → (x : TxnId) (parts at : ℕ) (r : Bool) → ((p : ℕ) → bit_at parts p ≡ (if in_parts (coord_skeletons v.coord.front) x p then 1 else 0)) → (IsTrue r ↔ (bit_at parts (at + 1) ≡ 1)) → in_parts (coord_skeletons w.coord.front) x (1 + at) ≡ r
parts_at v w e x parts at r bits says = ap (λ (z : EngineView). in_parts (coord_skeletons z.coord.front) x (1 + at)) (sym e) ∙ parts_say (coord_skeletons v.coord.front) x parts at r bits says

pub below_at : (v w : EngineView) → v ≡ w → (n at : ℕ) → n ≡ length v.topics → at < n → at < length w.topics
below_at v w e n at is h = subst (λ (z : EngineView). at < length z.topics) e (subst (λ (k : ℕ). at < k) is h)

pub past_at : (v w : EngineView) → v ≡ w → (n at : ℕ) → n ≡ length v.topics → n ≤ at → length w.topics ≤ at
past_at v w e n at is h = subst (λ (z : EngineView). length z.topics ≤ at) e (subst (λ (k : ℕ). k ≤ at) is h)

-- ---- The loop.

-- From v to u, over these disks, the parts of x up to the index have their marker, and no other has one more.
pub record MarksUpTo {D : Type 0} (on : Ghosts D) (x : TxnId) (d : Decision) (v u : EngineView) (old now : D) (at : ℕ) : Type 0 where
  pub within : at ≤ length u.topics
  pub count : length u.topics ≡ length v.topics
  pub few : length v.topics ≤ 62
  pub coord : u.coord ≡ v.coord
  pub limits : u.limits ≡ v.limits
  pub whole : IsWhole u
  pub ready : (j : ℕ) (t : TopicView) → at ≤ j → j < length u.topics → in_parts (coord_skeletons v.coord.front) x (1 + j) ≡ true → (slice_index_or u.topics j t).reserved ≡ 1
  pub given : AreMarked x u at
  pub marking : on.tells → IsTied v → Marking x d (parts_of (coord_skeletons v.coord.front) x) (parts_past (coord_skeletons v.coord.front) x at) (table_of v) (table_of u)
  pub goes : EngineGoesOn on ⊥ v u old now

module _ {D : Type 0} (on : Ghosts D) (x : TxnId) (d : Decision) where
  abbrev UpTo : EngineView → EngineView → D → D → ℕ → Type 0
  UpTo v u old now at = MarksUpTo on x d v u old now at

  pub loop_starts : (v : EngineView) (old : D) → IsEngine v → IsWhole v → AreReady x v (length v.topics) → IsBacked (on.image old) v → UpTo v v old old 0
  loop_starts v old is whole ready backed = record {
    within = least (length v.topics);
    count = refl;
    few = subst (λ (n : ℕ). n ≤ 62) (sym is.count) (few_names v.names is.names);
    coord = refl;
    limits = refl;
    whole = whole;
    ready = λ j t from below has. ready j t below below has;
    given = λ j before. absurd (none j before);
    marking = λ told tied. marking_starts x d (parts_of (coord_skeletons v.coord.front) x) (table_of v);
    goes = goes_still on ⊥ (λ e. e) v v old backed refl refl refl;
  }
    where
      least : (n : ℕ) → 0 ≤ n
      least n = omega arith

      none : (j : ℕ) → j < 0 → ⊥
      none j h = omega (arith, h)

  module _ (v u : EngineView) (old now : D) (at : ℕ) (so : UpTo v u old now at) (below : at < length u.topics) where
    abbrev log : List CoreEntry
    log = coord_skeletons v.coord.front

    few_here : at < 62
    few_here = omega (arith, below, so.count, so.few)

    -- the part isn't one of them
    pub loop_skips : in_parts log x (1 + at) ≡ false → UpTo v u old now (at + 1)
    loop_skips has = record {
      within = omega (arith, below);
      count = so.count;
      few = so.few;
      coord = so.coord;
      limits = so.limits;
      whole = so.whole;
      ready = λ j t from. so.ready j t (earlier at j from);
      given = λ j before within in_it. given_by j (j == at) refl before within in_it;
      marking = λ told tied. subst (λ (ps : List ℕ). Marking x d (parts_of log x) ps (table_of v) (table_of u)) (rest_without log x at has few_here) (so.marking told tied);
      goes = so.goes;
    }
      where
        earlier : (at j : ℕ) → at + 1 ≤ j → at ≤ j
        earlier at j h = omega (arith, h)

        before_it : (at j : ℕ) → j < at + 1 → (j == at) ≡ false → j < at
        before_it at j h e = grind (arith, nat_tests, h, e)

        same_as : (at j : ℕ) → (j == at) ≡ true → j ≡ at
        same_as at j e = grind (arith, nat_tests, e)

        never : {b : Bool} → b ≡ true → b ≡ false → ⊥
        never e h = cc

        given_by : (j : ℕ) (b : Bool) → (j == at) ≡ b → j < at + 1 → j < length u.topics → in_parts (coord_skeletons u.coord.front) x (1 + j) ≡ true → IsMarked x u j
        given_by j true e before within in_it =
            absurd (never (subst (λ (i : ℕ). in_parts log x (1 + i) ≡ true) (same_as at j e) (ap (λ c. in_parts (coord_skeletons c.front) x (1 + j)) (sym so.coord) ∙ in_it)) has)
        given_by j false e before within in_it = so.given j (before_it at j before e) within in_it

    -- it is
    module _ (has : in_parts log x (1 + at) ≡ true) where
      pub loop_reserved : (t : TopicView) → (slice_index_or u.topics at t).reserved ≡ 1
      loop_reserved t = so.ready at t (self at) below has
        where
          self : (k : ℕ) → k ≤ k
          self k = omega arith

      module _ (w : EngineView) (new : D) (r : Result (Unit {0}) Failed) (elsewhere : IsElsewhere at u w) (goes : EngineGoesOn on (IsErr r) u w now new) where
        pub loop_marks : IsOk r → (on.tells → IsTied u → OnOk r (table_of w ≡ marked x d (1 + at) (table_of u))) → OnOk r (IsMarked x w at) → UpTo v w old new (at + 1)
        loop_marks is_ok ok stands = record {
          within = omega (arith, below, elsewhere.count);
          count = elsewhere.count ∙ so.count;
          few = so.few;
          coord = elsewhere.coord ∙ so.coord;
          limits = elsewhere.limits ∙ so.limits;
          whole = whole_now goes.whole;
          ready = λ j t from within in_it.
              ap (λ (k : TopicView). k.reserved) (elsewhere.topics j t (apart at j from)) ∙ so.ready j t (earlier at j from) (omega (arith, within, elsewhere.count)) in_it;
          given = λ j before within in_it. given_by j (j == at) refl before within in_it;
          marking = λ told tied.
              marking_more x d (parts_of log x) (1 + at) (parts_past log x at) (parts_past log x (at + 1)) (table_of v) (table_of u) (table_of w) (so.marking told tied) (rest_has log x at has few_here)
              (one_stays (table_of u) (1 + at) (not_unrebuilt u so.whole (1 + at))) (from_is_ok (ok told (so.goes.tied told tied)));
          goes = goes_like on (IsErr r) ⊥ v w old new (λ err. no_err err) (λ e. absurd e) (goes_then on ⊥ (IsErr r) v u w old now new (λ e. e) so.goes goes);
        }
          where
            no_err : IsErr r → ⊥
            no_err err = both r is_ok err
              where
                both : (r : Result (Unit {0}) Failed) → IsOk r → IsErr r → ⊥
                both (Ok a) ok err = cc
                both (Err e) ok err = cc

            from_is_ok : {P : Type 0} → OnOk r P → P
            from_is_ok h = by_result r is_ok h
              where
                by_result : {P : Type 0} (r : Result (Unit {0}) Failed) → IsOk r → OnOk r P → P
                by_result (Ok a) ok h = h
                by_result (Err e) ok h = cc

            whole_now : (IsWhole u → IsWhole w) ⊎ IsErr r → IsWhole w
            whole_now (inl stays) = stays so.whole
            whole_now (inr err) = absurd (no_err err)

            apart : (at j : ℕ) → at + 1 ≤ j → j ≡ at → ⊥
            apart at j h e = omega (arith, h, e)

            earlier : (at j : ℕ) → at + 1 ≤ j → at ≤ j
            earlier at j h = omega (arith, h)

            before_it : (at j : ℕ) → j < at + 1 → (j == at) ≡ false → j < at
            before_it at j h e = grind (arith, nat_tests, h, e)

            not_it : (at j : ℕ) → (j == at) ≡ false → j ≡ at → ⊥
            not_it at j e h = grind (arith, nat_tests, e, h)

            same_as : (at j : ℕ) → (j == at) ≡ true → j ≡ at
            same_as at j e = grind (arith, nat_tests, e)

            given_by : (j : ℕ) (b : Bool) → (j == at) ≡ b → j < at + 1 → j < length w.topics → in_parts (coord_skeletons w.coord.front) x (1 + j) ≡ true → IsMarked x w j
            given_by j true e before within in_it = subst (IsMarked x w) (sym (same_as at j e)) (from_is_ok stands)
            given_by j false e before within in_it =
                let was : IsMarked x u j = so.given j (before_it at j before e) (omega (arith, within, elsewhere.count)) (ap (λ c. in_parts (coord_skeletons c.front) x (1 + j)) (sym elsewhere.coord) ∙ in_it) in
                record {
                  whole = λ t. subst (λ (k : TopicView). IsTrue k.whole) (sym (elsewhere.topics j t (not_it at j e))) (was.whole t);
                  stands = λ t. ap (λ (k : TopicView). is_some (marker_of (topic_skeletons k.front) x)) (elsewhere.topics j t (not_it at j e)) ∙ was.stands t;
                }

        -- its append failed
        pub loop_stops : IsErr r → (on.tells → IsTied u → OnErr r ((is_none (marker_of (part_skeletons (table_of u).world (1 + at)) x) ≡ true) × (table_of w ≡ with_failed_batch (marker_batch (table_of u) x d (1 + at)) (1 + at) (table_of u))))
            → OnErr r (RoseIn on now new (1 + at)) → on.tells → IsTied v
            → StopsWithin (RoseIn on old new) x d (parts_of log x) (1 + at) (table_of v) why.Fault (table_of w)
        loop_stops is_err err rose told tied =
            let failed = from_ok_err r ((is_none (marker_of (part_skeletons (table_of u).world (1 + at)) x) ≡ true) × (table_of w ≡ with_failed_batch (marker_batch (table_of u) x d (1 + at)) (1 + at) (table_of u))) is_err (err told (so.goes.tied told tied)) in
            let grew = from_ok_err r (RoseIn on now new (1 + at)) is_err rose in
            marking_stops x d (parts_of log x) (RoseIn on old new) (1 + at) (parts_past log x at) (parts_past log x (at + 1)) (table_of v) (table_of u) why.Fault (table_of w) (so.marking told tied) (rest_has log x at has few_here)
            (marker_fault (table_of u) (one_stays (table_of u) (1 + at) (not_unrebuilt u so.whole (1 + at))) failed.0
            (rose_then (on.faults old) (on.faults now) (on.faults new) so.goes.cause.later grew.0, rose_then (on.part_faults old (1 + at)) (on.part_faults now (1 + at)) (on.part_faults new (1 + at)) (so.goes.cause.parts_later (1 + at)) grew.1) failed.1 refl)

        pub loop_fails : IsErr r → (Y : Type 0) → Y → EngineGoesOn on Y v w old new
        loop_fails is_err Y y = goes_like on (IsErr r) Y v w old new (λ err. y) (λ z. is_err) (goes_then on ⊥ (IsErr r) v u w old now new (λ e. e) so.goes goes)

  -- over an equal engine and disk
  pub loop_at : (v u u' : EngineView) (old now now' : D) (at : ℕ) → u' ≡ u → now' ≡ now → UpTo v u old now at → UpTo v u' old now' at
  loop_at v u u' old now now' at e h so = subst (λ (z : EngineView). UpTo v z old now' at) (sym e) (subst (λ (k : D). UpTo v u old k at) (sym h) so)

  pub loop_given : (v u : EngineView) (old now : D) (at : ℕ) → UpTo v u old now at → length u.topics ≤ at → AreMarked x u (length u.topics)
  loop_given v u old now at so past j before = so.given j (omega (arith, before, past))

  -- all have it
  pub loop_ends : (v u : EngineView) (old now : D) (at n : ℕ) → UpTo v u old now at → CoordLawful n (coord_skeletons v.coord.front) → n ≡ length v.topics → length u.topics ≤ at → on.tells → IsTied v → MarksAll x d (parts_of (coord_skeletons v.coord.front) x) (table_of v) (table_of u)
  loop_ends v u old now at n so lawful same past told tied =
      marking_ends x d (parts_of (coord_skeletons v.coord.front) x) (parts_past (coord_skeletons v.coord.front) x at) (table_of v) (table_of u) (so.marking told tied)
      (rest_ends (coord_skeletons v.coord.front) x n at lawful (omega (arith, same, so.count, past)))
