-- A lawful world keeps the promises, and one that extends another lets nothing lapse.
use Rattle.std.proofs.Common.{◌≡◌, ℕ, ◌+◌, ◌<◌, ◌≤◌, Bool, false, if◌then◌else◌, List, ◌∷◌, ◌++◌, length, Some, refl, arith, sym, ap, ◌∙◌, subst}
use mathlib.Core.List.{IsPrefix}
use Rattle.txn_base.specs.declared.core_entry.CoreEntry.{CoreEntry}
use Rattle.txn_base.specs.declared.entry.CoordEntry.{CoordEntry}
use Rattle.txn_base.specs.declared.entry.TopicEntry.{TopicEntry}
use Rattle.txn_base.specs.declared.txn.Decision.TheVariants.{Commit}
use Rattle.txn_base.specs.Disk.{Files}
use Rattle.txn_base.specs.Names.{is_sub}
use Rattle.txn_model.specs.declared.world.World.{World}
use Rattle.txn_model.specs.Coord.{CoordLawful, decision_of}
use Rattle.txn_model.specs.Names.{name_of}
use Rattle.txn_model.specs.Skeletons.{coord_skeleton, coord_skeletons, topic_skeletons, ack_skeletons}
use Rattle.txn_model.specs.World.{Lawful, Extends, log_of, part_skeletons}
use Rattle.txn_model.specs.Words.{list_at}
use Rattle.txn_model.specs.Topic.{visible_of, limit_from, limit_of, marker_of}
use Rattle.txn_model.proofs.Laws.Topics.{visible_longer, limit_longer, limit_within, decided_below, undecided_at}
use Rattle.txn_model.proofs.Laws.Logs.{decision_stays, undecided_before}
use Rattle.txn_model.proofs.Laws.Lists.{map_append}
use Rattle.txn_engine.specs.Above.{StandsAbove}
use Rattle.txn_run.proofs.Effects.{all_effects}
use Rattle.txn_run.specs.Promises.{ReadsBeforeUndecided, Promises, NeverLapses, KeepsPromises}

-- the list of a topic is that of its part
topic_of : (w : World) (p : ℕ) → is_sub (name_of w.names p) ≡ false → part_skeletons w p ≡ topic_skeletons (list_at w.topics p)
topic_of w p topic = ap (λ (b : Bool). if b then ack_skeletons (list_at w.subs p) else topic_skeletons (list_at w.topics p)) topic

before_undecided : (es : List TopicEntry) → ReadsBeforeUndecided es
before_undecided es = record {
  reads = refl;
  within = omega (arith, limit_within (topic_skeletons es) 0 es);
  before = λ front behind e split below. decided_below (topic_skeletons es) 0 front e behind
      (subst (λ (l : List TopicEntry). 0 + length front < limit_from (topic_skeletons es) 0 (topic_skeletons l)) split (omega (arith, below)));
  at = λ front behind e split here. undecided_at (topic_skeletons es) 0 front e behind
      (subst (λ (l : List TopicEntry). 0 + length front ≡ limit_from (topic_skeletons es) 0 (topic_skeletons l)) split (omega (arith, here)));
}

promised : (w : World) → Lawful w → Promises w
promised w lawful = record {
  cursor = λ p. before_undecided (list_at w.topics p);
  registered = lawful.registered;
  effect = λ p topic. all_effects (log_of w) (list_at w.topics p) (λ x marked. lawful.decided p x Commit (ap (λ (c : List CoreEntry). marker_of c x) (topic_of w p topic) ∙ marked));
  decided = lawful.decided;
  complete = lawful.closed;
  once = λ c more x d e. undecided_before (length w.names) c x d more (subst (CoordLawful (length w.names)) e lawful.coord);
}

-- by a list that is a front of another
longer : {E : Type 0} (P : List E → List E → Type 0) → ((xs more : List E) → P xs (xs ++ more)) → (xs ys : List E) → IsPrefix xs ys → P xs ys
longer P more xs ys front = subst (P xs) front.1 (more xs front.0)

lapsed : (w w' : World) → Extends w w' → NeverLapses w w'
lapsed w w' grown = record {
  visible = λ p. longer (λ (xs ys : List TopicEntry). IsPrefix (visible_of xs) (visible_of ys)) visible_longer (list_at w.topics p) (list_at w'.topics p) (grown.topics p);
  limit = λ p. longer (λ (xs ys : List TopicEntry). limit_of xs ≤ limit_of ys) limit_longer (list_at w.topics p) (list_at w'.topics p) (grown.topics p);
  decision = λ x d h.
      longer (λ (xs ys : List CoordEntry). decision_of (coord_skeletons xs) x ≡ Some d → decision_of (coord_skeletons ys) x ≡ Some d)
      (λ xs more h. subst (λ (c : List CoreEntry). decision_of c x ≡ Some d) (sym (map_append coord_skeleton xs more)) (decision_stays (coord_skeletons xs) (coord_skeletons more) x d h)) w.coord w'.coord grown.coord h;
}

pub keeps_promises : (names : List (List ℕ)) (floor : World) (files : Files) → StandsAbove names floor files → KeepsPromises names floor files
keeps_promises names floor files above = record {
  world = above.sound.world;
  stands = above.sound.stands;
  promises = promised above.sound.world above.sound.lawful;
  lasts = lapsed floor above.sound.world above.extends;
}
