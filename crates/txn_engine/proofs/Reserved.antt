-- Room for the end of a transaction, part by part.
use Rattle.std.proofs.Common.{◌≡◌, ℕ, ◌+◌, ◌<◌, ◌≤◌, ◌==◌, Bool, true, false, length, Result, OnOk, OnErr, refl, sym, ap, ◌∙◌, subst, arith, slice_index_or}
use Rattle.std.proofs.Math.ListN.{get_or, set}
use Rattle.std.proofs.lemmas.Bool.Decides.{nat_tests}
use Rattle.txn_base.specs.declared.txn.TxnId.{TxnId}
use Rattle.txn_buffer.specs.Ending.{with_reserved}
use Rattle.txn_buffer.specs.View.{TopicView}
use Rattle.txn_coordinator.specs.View.{CoordView, reserving}
use Rattle.txn_model.specs.Coord.{in_parts}
use Rattle.txn_model.specs.Skeletons.{coord_skeletons}
use Rattle.txn_model.proofs.Laws.Names.{few_names}
use Rattle.txn_engine.specs.Ending.{AreSameTopics, IsSameBut, AreReady, IsReady, IsElsewhere}
use Rattle.txn_engine.specs.Kept.{IsEngine}
use Rattle.txn_engine.specs.View.{EngineView, IsWhole, with_coord, with_topics, replaced}
use Rattle.txn_engine.proofs.Decided.{on_ok, by_result, from_ok}
use Rattle.txn_engine.proofs.Lists.{set_is}
use Rattle.txn_engine.proofs.Same.{topics_same, reserved_one, same_then, same_itself, same_engine, same_whole}
use Rattle.txn_engine.proofs.Worlds.{IsTopicAt, some_topic}

-- ---- One topic.

module _ {E : Type 0} (v : EngineView) (w : EngineView) (view : v ≡ w) (j : ℕ) (below : j < length v.topics) (t t' : TopicView) (at : IsTopicAt v j t) (r : Result (Unit {0}) E) (ok : OnOk r (t' ≡ with_reserved t 1)) (err : OnErr r (t' ≡ t)) where
  with_room : (n : ℕ) → t' ≡ with_reserved t n → AreSameTopics v.topics (replaced v.topics j t')
  with_room n e = subst (λ (k : TopicView). AreSameTopics v.topics (replaced v.topics j k)) (sym (e ∙ ap (λ (k : TopicView). with_reserved k n) (sym at))) (reserved_one v.topics j n (some_topic v) below)

  topics_are : AreSameTopics v.topics (replaced v.topics j t')
  topics_are =
      by_result r (AreSameTopics v.topics (replaced v.topics j t')) (λ a is_ok. with_room 1 (from_ok r (t' ≡ with_reserved t 1) a is_ok ok))
      (λ e is_err. with_room t.reserved (subst (λ (x : Result (Unit {0}) E). OnErr x (t' ≡ t)) is_err err))

  pub reserve_same : IsSameBut w (with_topics v (set v.topics j t'))
  reserve_same =
      subst (λ (z : EngineView). IsSameBut z (with_topics v (set v.topics j t'))) view
      (record { names = refl; latest = refl; limits = refl; coord = refl; topics = subst (AreSameTopics v.topics) (sym (set_is v.topics j t')) topics_are })

  pub reserve_engine : IsEngine v → IsEngine (with_topics v (set v.topics j t'))
  reserve_engine is = same_engine v (with_topics v (set v.topics j t')) (subst (λ (z : EngineView). IsSameBut z (with_topics v (set v.topics j t'))) (sym view) reserve_same) is

-- ---- One after another.

-- From v to u, there is room at the parts of x up to the index.
pub record ReservesUpTo (x : TxnId) (v u : EngineView) (at : ℕ) : Type 0 where
  pub same : IsSameBut v u
  pub few : length u.topics ≤ 62
  pub whole : IsWhole u
  pub ready : AreReady x u at

parts_same : (v u : EngineView) → IsSameBut v u → (x : TxnId) (p : ℕ) → in_parts (coord_skeletons u.coord.front) x p ≡ in_parts (coord_skeletons v.coord.front) x p
parts_same v u same x p = ap (λ (c : CoordView). in_parts (coord_skeletons c.front) x p) same.coord

module _ (x : TxnId) (v : EngineView) where
  pub reserves_start : IsEngine v → IsWhole v → ReservesUpTo x v v 0
  reserves_start is whole = record { same = same_itself v; few = subst (λ (n : ℕ). n ≤ 62) (sym is.count) (few_names v.names is.names); whole = whole; ready = λ j t before. absurd (none j before) }
    where
      none : (j : ℕ) → j < 0 → ⊥
      none j h = omega (arith, h)

  module _ (u : EngineView) (at : ℕ) (so : ReservesUpTo x v u at) where
    earlier : (j : ℕ) → j < at + 1 → (j == at) ≡ false → j < at
    earlier j h e = grind (arith, nat_tests, h, e)

    same_as : (j : ℕ) → (j == at) ≡ true → j ≡ at
    same_as j e = grind (arith, nat_tests, e)

    not_it : (j : ℕ) → (j == at) ≡ false → j ≡ at → ⊥
    not_it j e h = grind (arith, nat_tests, e, h)

    never : {b : Bool} → b ≡ true → b ≡ false → ⊥
    never e h = cc

    pub reserves_skip : in_parts (coord_skeletons v.coord.front) x (1 + at) ≡ false → ReservesUpTo x v u (at + 1)
    reserves_skip has = record { same = so.same; few = so.few; whole = so.whole; ready = λ j t before within in_it. by_test j t (j == at) refl before within in_it }
      where
        by_test : (j : ℕ) (t : TopicView) (b : Bool) → (j == at) ≡ b → j < at + 1 → j < length u.topics → in_parts (coord_skeletons u.coord.front) x (1 + j) ≡ true → (slice_index_or u.topics j t).reserved ≡ 1
        by_test j t true e before within in_it =
            absurd (never (subst (λ (i : ℕ). in_parts (coord_skeletons v.coord.front) x (1 + i) ≡ true) (same_as j e) (sym (parts_same v u so.same x (1 + j)) ∙ in_it)) has)
        by_test j t false e before within in_it = so.ready j t (earlier j before e) within in_it

    pub reserves_more : (w : EngineView) → IsSameBut u w → IsElsewhere at u w → ((t : TopicView) → (slice_index_or w.topics at t).reserved ≡ 1) → ReservesUpTo x v w (at + 1)
    reserves_more w same elsewhere reserved = record {
      same = same_then v u w so.same same;
      few = subst (λ (n : ℕ). n ≤ 62) (sym elsewhere.count) so.few;
      whole = same_whole u w same so.whole;
      ready = λ j t before within in_it. by_test j t (j == at) refl before within in_it;
    }
      where
        by_test : (j : ℕ) (t : TopicView) (b : Bool) → (j == at) ≡ b → j < at + 1 → j < length w.topics → in_parts (coord_skeletons w.coord.front) x (1 + j) ≡ true → (slice_index_or w.topics j t).reserved ≡ 1
        by_test j t true e before within in_it = subst (λ (i : ℕ). (slice_index_or w.topics i t).reserved ≡ 1) (sym (same_as j e)) (reserved t)
        by_test j t false e before within in_it =
            ap (λ (k : TopicView). k.reserved) (elsewhere.topics j t (not_it j e))
            ∙ so.ready j t (earlier j before e) (omega (arith, within, elsewhere.count)) (ap (λ (c : CoordView). in_parts (coord_skeletons c.front) x (1 + j)) (sym elsewhere.coord) ∙ in_it)

  pub reserves_at : (u u' : EngineView) (at : ℕ) → u' ≡ u → ReservesUpTo x v u at → ReservesUpTo x v u' at
  reserves_at u u' at e so = subst (λ (z : EngineView). ReservesUpTo x v z at) (sym e) so
