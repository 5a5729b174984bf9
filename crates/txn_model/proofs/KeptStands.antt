-- Where each ledger's file stands for its list with its flight or without, the files stand for what a stop keeps.
use Rattle.std.proofs.Common.{◌≡◌, inl, inr, ℕ, ◌≤◌, arith, Bool, true, false, if◌then◌else◌, List, ◌++◌, refl, sym, ap, ◌∙◌, subst}
use Rattle.txn_base.specs.Disk.{Files}
use Rattle.txn_base.specs.Frames.{Record}
use Rattle.txn_base.specs.Records.{IsCoordRecord, IsAckRecord}
use Rattle.txn_model.proofs.Words.{is_sub, World, has, list_at, Flights, with_kept, TableState, is_topic, topic_parts, sub_parts, LawfulState}
use Rattle.txn_model.specs.Sound.{ledger_file, StandsForEntries, IsBareRecord, Sound, StandsForKept, StandsForEither, LedgersStand}
use Rattle.txn_model.proofs.Bools.{no_true}
use Rattle.txn_model.proofs.Lists.{at_followed}
use Rattle.txn_model.proofs.Shapes.{shaped_kept}
use Rattle.txn_model.proofs.Chosen.{lawful_kept}
use Rattle.txn_model.proofs.Parts.{numbered_within, not_both_kinds}

-- the flight stands there
abbrev stands_with_flight : {E : Type 0} (is : Record → E → Type 0) (bytes : List ℕ) (es flight : List E) → StandsForEither is bytes es flight → Bool
stands_with_flight is bytes es flight (inl s) = false
stands_with_flight is bytes es flight (inr s) = true

stands_so : {E : Type 0} (is : Record → E → Type 0) (bytes : List ℕ) (es flight : List E) (s : StandsForEither is bytes es flight) → StandsForEntries is bytes (if stands_with_flight is bytes es flight s then es ++ flight else es)
stands_so is bytes es flight (inl s) = s
stands_so is bytes es flight (inr s) = s

module _ (names : List (List ℕ)) (files : Files) (w : World) (f : Flights) (l : LedgersStand names files w f) where
  -- by the kind of the part
  abbrev pick : (p : ℕ) (topic sub : Bool) → has (topic_parts names) p ≡ topic → has (sub_parts names) p ≡ sub → Bool
  pick p true sub e g = stands_with_flight IsBareRecord (files (ledger_file p)) (list_at w.topics p) (f.topics p) (l.topics p e)
  pick p false true e g = stands_with_flight IsAckRecord (files (ledger_file p)) (list_at w.subs p) (f.subs p) (l.subs p g)
  pick p false false e g = stands_with_flight IsCoordRecord (files (ledger_file 0)) w.coord f.coord l.coord

  abbrev stays : ℕ → Bool
  stays p = pick p (has (topic_parts names) p) (has (sub_parts names) p) refl refl

  topic_so : (p : ℕ) (topic sub : Bool) (e : has (topic_parts names) p ≡ topic) (g : has (sub_parts names) p ≡ sub) → has (topic_parts names) p ≡ true
      → StandsForEntries IsBareRecord (files (ledger_file p)) (if pick p topic sub e g then list_at w.topics p ++ f.topics p else list_at w.topics p)
  topic_so p true sub e g h = stands_so IsBareRecord (files (ledger_file p)) (list_at w.topics p) (f.topics p) (l.topics p e)
  topic_so p false sub e g h = absurd (no_true (sym e ∙ h))

  sub_so : (p : ℕ) (topic sub : Bool) (e : has (topic_parts names) p ≡ topic) (g : has (sub_parts names) p ≡ sub) → has (sub_parts names) p ≡ true
      → StandsForEntries IsAckRecord (files (ledger_file p)) (if pick p topic sub e g then list_at w.subs p ++ f.subs p else list_at w.subs p)
  sub_so p true sub e g h = absurd (not_both_kinds 1 p names e h)
  sub_so p false true e g h = stands_so IsAckRecord (files (ledger_file p)) (list_at w.subs p) (f.subs p) (l.subs p g)
  sub_so p false false e g h = absurd (no_true (sym g ∙ h))

  coord_so : (topic sub : Bool) (e : has (topic_parts names) 0 ≡ topic) (g : has (sub_parts names) 0 ≡ sub)
      → StandsForEntries IsCoordRecord (files (ledger_file 0)) (if pick 0 topic sub e g then w.coord ++ f.coord else w.coord)
  coord_so true sub e g = absurd (never (numbered_within is_topic 1 0 names e).0)
    where
      never : 1 ≤ 0 → ⊥
      never h = omega (arith, h)
  coord_so false true e g = absurd (never (numbered_within is_sub 1 0 names g).0)
    where
      never : 1 ≤ 0 → ⊥
      never h = omega (arith, h)
  coord_so false false e g = stands_so IsCoordRecord (files (ledger_file 0)) w.coord f.coord l.coord

  pub ledgers_stand : StandsForKept names files w f
  ledgers_stand = (
    stays,
    record {
      named = l.named;
      shaped = shaped_kept w f stays l.shaped;
      coord = coord_so (has (topic_parts names) 0) (has (sub_parts names) 0) refl refl;
      topics = λ p h. subst (StandsForEntries IsBareRecord (files (ledger_file p)))
          (sym (at_followed stays f.topics w.topics p (subst (λ ps. has ps p ≡ true) (sym (l.shaped.topics ∙ ap topic_parts l.named)) h)))
          (topic_so p (has (topic_parts names) p) (has (sub_parts names) p) refl refl h);
      subs = λ p h. subst (StandsForEntries IsAckRecord (files (ledger_file p)))
          (sym (at_followed stays f.subs w.subs p (subst (λ ps. has ps p ≡ true) (sym (l.shaped.subs ∙ ap sub_parts l.named)) h)))
          (sub_so p (has (topic_parts names) p) (has (sub_parts names) p) refl refl h);
      others = l.others;
    },
  )

-- and they are sound where the state is lawful
pub kept_sound : (names : List (List ℕ)) (files : Files) (t : TableState) → LawfulState t → StandsForKept names files t.world t.flights → Sound names files
kept_sound names files t s k = record {
  world = with_kept t.world t.flights k.0;
  stands = k.1;
  lawful = lawful_kept t.world t.flights k.0 s.lawful s.flights;
}
