-- A read that is under way: what was given, and what is still to come.
use Rattle.std.proofs.Common.{◌≡◌, ◌⊎◌, inl, inr, false, ℕ, suc, ◌+◌, ◌<◌, ◌≤◌, min, max, true, List, [], ◌∷◌, ◌++◌, get_or, drop, sym, ap, ◌∙◌, subst, arith, add-one, append_assoc}
use Rattle.std.specs.Prelude.{Option, All, option_to_list}
use Rattle.std.proofs.Math.Dec.{leb}
use Rattle.std.proofs.lemmas.Bool.Decides.{leb_tells}
use Rattle.std.proofs.lemmas.List.{append-nil, append_cancel_left}
use Rattle.std.proofs.lemmas.List.Elements.{All-head, All-tail}
use Rattle.txn_base.specs.declared.messages.Message.{Message}
use Rattle.txn_base.specs.declared.entry.TopicEntry.{TopicEntry}
use Rattle.txn_base.specs.declared.limits.Limits.{Limits}
use Rattle.txn_model.specs.Skeletons.{topic_skeletons}
use Rattle.txn_model.specs.Topic.{shows, limit_of, read_slice, fitting, first_and_fitting}
use Rattle.txn_model.proofs.Laws.Topics.{visible_from}
use Rattle.txn_buffer.specs.Reading.{rest_of, ReadGoesOn, IsCut, visible_later}
use Rattle.txn_buffer.proofs.Visible.{all_later, visible_begins, ends, nothing_later, one_more, take_nothing, empty_slice, whole_slice}

-- the visible messages of the entries from a place on
abbrev coming : List TopicEntry → ℕ → List Message
coming front place = visible_from (topic_skeletons front) place (drop place front)

-- The messages given so far and what is given of those to come are the slice, and with all of those to come they are the
-- visible messages from `first` on.
pub record IsSoFar (limits : Limits) (front : List TopicEntry) (first most bytes spent left : ℕ) (messages : List Message) (place : ℕ) : Type 0 where
  pub rest : messages ++ rest_of bytes spent left messages (coming front place) ≡ read_slice limits front first most
  pub given : messages ++ coming front place ≡ visible_later front first

pub so_far_starts : (limits : Limits) (front : List TopicEntry) (first most : ℕ) → first ≤ limit_of front → IsSoFar limits front first most limits.read_bytes 0 (min most limits.read_messages) [] first
so_far_starts limits front first most h = record {
  rest = whole_slice limits front first most h;
  given = sym (visible_begins front first h);
}

module _ (limits : Limits) (front : List TopicEntry) (first most bytes spent left : ℕ) (messages : List Message) (place : ℕ) (so_far : IsSoFar limits front first most bytes spent left messages place) where
  module _ (d : TopicEntry) (found : Option Message) (below : place < limit_of front) (is : found ≡ shows (topic_skeletons front) place (get_or front place d)) where
    split : coming front place ≡ option_to_list found ++ coming front (suc place)
    split = one_more front place d below ∙ ap (λ o. option_to_list o ++ coming front (suc place)) (sym is)

    pub so_far_goes_on : (after : List Message) (spent_after left_after : ℕ) → ReadGoesOn found messages after bytes spent left spent_after left_after → IsSoFar limits front first most bytes spent_after left_after after (place + 1)
    so_far_goes_on after spent_after left_after goes =
        subst (IsSoFar limits front first most bytes spent_after left_after after) (sym (add-one place))
        (record {
          rest =
              ap (λ l. l ++ rest_of bytes spent_after left_after after (coming front (suc place))) goes.given
              ∙ append_assoc messages (option_to_list found) (rest_of bytes spent_after left_after after (coming front (suc place)))
              ∙ ap (λ l. messages ++ l) (sym (goes.rest (coming front (suc place))) ∙ ap (rest_of bytes spent left messages) (sym split)) ∙ so_far.rest;
          given = ap (λ l. l ++ coming front (suc place)) goes.given ∙ append_assoc messages (option_to_list found) (coming front (suc place)) ∙ ap (λ l. messages ++ l) (sym split) ∙ so_far.given;
        })

    module _ (after : List Message) (cut : IsCut found messages after bytes spent left) where
      pub cut_is_slice : after ≡ read_slice limits front first most
      cut_is_slice = cut.given ∙ ap (λ l. messages ++ l) (sym (cut.rest (coming front (suc place))) ∙ ap (rest_of bytes spent left messages) (sym split)) ∙ so_far.rest

      pub cut_reads : (next : Message) (more : List Message) → visible_later front first ≡ after ++ next ∷ more → place ≤ next.place
      cut_reads next more e =
          later (cut.last) (subst (All (λ m. place ≤ m.place)) (append_cancel_left messages (coming front place) (cut.last ++ next ∷ more) (so_far.given ∙ e ∙ ap (λ l. l ++ next ∷ more) cut.given ∙ append_assoc messages cut.last (next ∷ more))) (all_later (topic_skeletons front) place place (drop place front) (omega arith)))
        where
          later : (xs : List Message) → All (λ m. place ≤ m.place) (xs ++ next ∷ more) → place ≤ next.place
          later [] h = All-head (λ (m : Message). place ≤ m.place) next more h
          later (x ∷ xs) h = later xs (All-tail (λ (m : Message). place ≤ m.place) x (xs ++ next ∷ more) h)

  module _ (at_end : limit_of front ≡ place) where
    nothing_comes : coming front place ≡ []
    nothing_comes = ends front place at_end

    no_rest : (ms : List Message) → rest_of bytes spent left ms [] ≡ []
    no_rest [] = ap (first_and_fitting bytes) (take_nothing left)
    no_rest (m ∷ ms) = ap (fitting bytes spent) (take_nothing left)

    pub end_is_slice : messages ≡ read_slice limits front first most
    end_is_slice = sym (append-nil messages) ∙ ap (λ l. messages ++ l) (sym (no_rest messages) ∙ ap (rest_of bytes spent left messages) (sym nothing_comes)) ∙ so_far.rest

    pub end_is_all : (next : Message) (more : List Message) → visible_later front first ≡ messages ++ next ∷ more → ⊥
    end_is_all next more e =
        let none : [] ≡ next ∷ more = append_cancel_left messages [] (next ∷ more) (ap (λ l. messages ++ l) (sym nothing_comes) ∙ so_far.given ∙ e) in cc

-- ---- At the limit.

-- from the limit on
nothing_is_slice : (limits : Limits) (front : List TopicEntry) (first most : ℕ) (messages : List Message) → limit_of front ≤ first → messages ≡ [] → messages ≡ read_slice limits front first most
nothing_is_slice limits front first most messages past none = none ∙ sym (empty_slice limits front first most past)

nothing_is_all : (front : List TopicEntry) (first : ℕ) (messages : List Message) → limit_of front ≤ first → messages ≡ [] → (next : Message) (more : List Message) → visible_later front first ≡ messages ++ next ∷ more → ⊥
nothing_is_all front first messages past none next more e = let h : [] ≡ next ∷ more = sym (nothing_later front first past) ∙ e ∙ ap (λ (l : List Message). l ++ next ∷ more) none in cc

module _ (limits : Limits) (front : List TopicEntry) (first most bytes spent left : ℕ) (messages : List Message) (place end : ℕ) (is_end : limit_of front ≡ end) (none : end ≤ first → messages ≡ [])
    (from : first ≤ place) (to : place ≤ max first end) (at_end : end ≤ place) (so_far : first ≤ end → IsSoFar limits front first most bytes spent left messages place) where
  pub ended_is_slice : messages ≡ read_slice limits front first most
  ended_is_slice = pick (leb_tells first end)
    where
      pick : ((leb first end ≡ true) × (first ≤ end)) ⊎ ((leb first end ≡ false) × (end < first)) → messages ≡ read_slice limits front first most
      pick (inl h) = let at : limit_of front ≡ place = omega (arith, is_end, to, at_end, h.1) in end_is_slice limits front first most bytes spent left messages place (so_far h.1) at
      pick (inr h) = let past : end ≤ first = omega (arith, h.1) in nothing_is_slice limits front first most messages (omega (arith, is_end, past)) (none past)

  pub ended_is_all : (next : Message) (more : List Message) → visible_later front first ≡ messages ++ next ∷ more → ⊥
  ended_is_all next more e = pick (leb_tells first end)
    where
      pick : ((leb first end ≡ true) × (first ≤ end)) ⊎ ((leb first end ≡ false) × (end < first)) → ⊥
      pick (inl h) = let at : limit_of front ≡ place = omega (arith, is_end, to, at_end, h.1) in end_is_all limits front first most bytes spent left messages place (so_far h.1) at next more e
      pick (inr h) = let past : end ≤ first = omega (arith, h.1) in nothing_is_all front first messages (omega (arith, is_end, past)) (none past) next more e
