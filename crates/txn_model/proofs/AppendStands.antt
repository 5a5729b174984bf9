-- Where one ledger's file changes, the files stand for the world in which its list changed.
use Rattle.std.proofs.Common.{◌≡◌, ℕ, ◌+◌, ◌==◌, ◌≤◌, ◌<◌, arith, eq-eqb, eqb-true, Bool, true, false, if◌then◌else◌, List, [], ◌∷◌, ◌++◌, length, refl, sym, ap, ◌∙◌, subst}
use Rattle.txn_base.specs.declared.file_id.FileId.{FileId}
use Rattle.txn_model.proofs.Words.{CoordEntry, TopicEntry, AckEntry, is_sub, World, has, list_at, is_topic, topic_parts, sub_parts, Shaped, in_coord, in_topic, in_sub, world_with}
use Rattle.txn_base.specs.Disk.{Files, Elsewhere}
use Rattle.txn_base.specs.Frames.{Record, Stands}
use Rattle.txn_base.specs.Records.{IsCoordRecord, IsAckRecord}
use Rattle.txn_model.specs.Sound.{part_file, ledger_file, StandsForEntries, IsBareRecord, NoOthers, StandsFor}
use Rattle.txn_model.proofs.Bools.{no_true}
use Rattle.txn_model.proofs.Lists.{at_append}
use Rattle.txn_model.proofs.Shapes.{shaped_with}
use Rattle.txn_model.proofs.Parts.{numbered_within, not_both_kinds}

-- the same file stands for the same entries
moved : {E : Type 0} (is : Record → E → Type 0) (files files' : Files) (file : FileId) (es : List E) → files' file ≡ files file → StandsForEntries is (files file) es → StandsForEntries is (files' file) es
moved is files files' file es same s = subst (λ bytes. StandsForEntries is bytes es) (sym same) s

others_part : (p q row : ℕ) → (q ≡ p → ⊥) → part_file q row ≡ ledger_file p → ⊥
others_part p q row apart e = apart (ap (λ f. f.part) e)

-- a file of a part without a name isn't a ledger that changed
no_others : (names : List (List ℕ)) (files files' : Files) (p : ℕ) → p ≤ length names → Elsewhere (ledger_file p) files files' → NoOthers names files → NoOthers names files'
no_others names files files' p within elsewhere none q row past most few =
    subst (λ bytes. Stands bytes []) (sym (elsewhere (part_file q row) (others_part p q row (apart p q (length names) within past)))) (none q row past most few)
  where
    apart : (p q n : ℕ) → p ≤ n → n < q → q ≡ p → ⊥
    apart p q n h i e = omega (arith, h, i, e)

module _ (names : List (List ℕ)) (files files' : Files) (w w' : World) (s : StandsFor names files w) (named : w'.names ≡ names) (shaped : Shaped w') where
  -- the coordinator's
  coord_stands : Elsewhere (ledger_file 0) files files' → StandsForEntries IsCoordRecord (files' (ledger_file 0)) w'.coord → w'.topics ≡ w.topics → w'.subs ≡ w.subs → StandsFor names files' w'
  coord_stands elsewhere stands topics subs =
      record {
        named = named;
        shaped = shaped;
        coord = stands;
        topics = λ q h. subst (λ ls. StandsForEntries IsBareRecord (files' (ledger_file q)) (list_at ls q)) (sym topics)
            (moved IsBareRecord files files' (ledger_file q) (list_at w.topics q) (elsewhere (ledger_file q) (others_part 0 q 2 (not_zero q (numbered_within is_topic 1 q names h).0))) (s.topics q h));
        subs = λ q h. subst (λ ls. StandsForEntries IsAckRecord (files' (ledger_file q)) (list_at ls q)) (sym subs)
            (moved IsAckRecord files files' (ledger_file q) (list_at w.subs q) (elsewhere (ledger_file q) (others_part 0 q 2 (not_zero q (numbered_within is_sub 1 q names h).0))) (s.subs q h));
        others = no_others names files files' 0 (omega arith) elsewhere s.others;
      }
    where
      not_zero : (q : ℕ) → 1 ≤ q → q ≡ 0 → ⊥
      not_zero q h e = omega (arith, h, e)

  -- the coordinator's file isn't that of a named part
  coord_same : (p : ℕ) → 1 ≤ p → Elsewhere (ledger_file p) files files' → w'.coord ≡ w.coord → StandsForEntries IsCoordRecord (files' (ledger_file 0)) w'.coord
  coord_same p h elsewhere coord =
      subst (λ c. StandsForEntries IsCoordRecord (files' (ledger_file 0)) c) (sym coord)
      (moved IsCoordRecord files files' (ledger_file 0) w.coord (elsewhere (ledger_file 0) (others_part p 0 2 (not_zero p h))) s.coord)
    where
      not_zero : (q : ℕ) → 1 ≤ q → 0 ≡ q → ⊥
      not_zero q h e = omega (arith, h, e)

  -- the lists of one kind, of which that of p is `es` now
  kind_stands : {E : Type 0} (is : Record → E → Type 0) (p : ℕ) (es : List E) (ls ls' : List (ℕ × List E)) → Elsewhere (ledger_file p) files files' → StandsForEntries is (files' (ledger_file p)) es
      → ((q : ℕ) → list_at ls' q ≡ (if p == q then es else list_at ls q)) → (q : ℕ) → StandsForEntries is (files (ledger_file q)) (list_at ls q)
      → StandsForEntries is (files' (ledger_file q)) (list_at ls' q)
  kind_stands is p es ls ls' elsewhere stands at q old = subst (StandsForEntries is (files' (ledger_file q))) (sym (at q)) (by_test (p == q) refl)
    where
      by_test : (b : Bool) → (p == q) ≡ b → StandsForEntries is (files' (ledger_file q)) (if b then es else list_at ls q)
      by_test true e = subst (λ k. StandsForEntries is (files' (ledger_file k)) es) (eqb-true p q e) stands
      by_test false e = moved is files files' (ledger_file q) (list_at ls q) (elsewhere (ledger_file q) (others_part p q 2 (λ same. apart p q e same))) old
        where
          apart : (p q : ℕ) → (p == q) ≡ false → q ≡ p → ⊥
          apart p q e same = absurd (no_true (sym e ∙ eq-eqb p q (sym same)))

  -- the other kind's lists stay
  other_stands : {E : Type 0} (is : Record → E → Type 0) (p : ℕ) (ls ls' : List (ℕ × List E)) → Elsewhere (ledger_file p) files files' → ls' ≡ ls → (q : ℕ) → (q ≡ p → ⊥) → StandsForEntries is (files (ledger_file q)) (list_at ls q)
      → StandsForEntries is (files' (ledger_file q)) (list_at ls' q)
  other_stands is p ls ls' elsewhere same q apart old =
      subst (λ l. StandsForEntries is (files' (ledger_file q)) (list_at l q)) (sym same) (moved is files files' (ledger_file q) (list_at ls q) (elsewhere (ledger_file q) (others_part p q 2 apart)) old)

  within_names : (p n : ℕ) → p < 1 + n → p ≤ n
  within_names p n h = omega (arith, h)

  topic_stands : (p : ℕ) (es : List TopicEntry) → has (topic_parts names) p ≡ true → Elsewhere (ledger_file p) files files' → StandsForEntries IsBareRecord (files' (ledger_file p)) es
      → w'.coord ≡ w.coord → w'.subs ≡ w.subs → ((q : ℕ) → list_at w'.topics q ≡ (if p == q then es else list_at w.topics q)) → StandsFor names files' w'
  topic_stands p es is elsewhere stands coord subs at =
      let range : (1 ≤ p) × (p < 1 + length names) = numbered_within is_topic 1 p names is in
      record {
        named = named;
        shaped = shaped;
        coord = coord_same p range.0 elsewhere coord;
        topics = λ q h. kind_stands IsBareRecord p es w.topics w'.topics elsewhere stands at q (s.topics q h);
        subs = λ q h. other_stands IsAckRecord p w.subs w'.subs elsewhere subs q
            (λ same. not_both_kinds 1 p names is (subst (λ k. has (sub_parts names) k ≡ true) same h)) (s.subs q h);
        others = no_others names files files' p (within_names p (length names) range.1) elsewhere s.others;
      }

  sub_stands : (p : ℕ) (es : List AckEntry) → has (sub_parts names) p ≡ true → Elsewhere (ledger_file p) files files' → StandsForEntries IsAckRecord (files' (ledger_file p)) es
      → w'.coord ≡ w.coord → w'.topics ≡ w.topics → ((q : ℕ) → list_at w'.subs q ≡ (if p == q then es else list_at w.subs q)) → StandsFor names files' w'
  sub_stands p es is elsewhere stands coord topics at =
      let range : (1 ≤ p) × (p < 1 + length names) = numbered_within is_sub 1 p names is in
      record {
        named = named;
        shaped = shaped;
        coord = coord_same p range.0 elsewhere coord;
        topics = λ q h. other_stands IsBareRecord p w.topics w'.topics elsewhere topics q
            (λ same. not_both_kinds 1 p names (subst (λ k. has (topic_parts names) k ≡ true) same h) is) (s.topics q h);
        subs = λ q h. kind_stands IsAckRecord p es w.subs w'.subs elsewhere stands at q (s.subs q h);
        others = no_others names files files' p (within_names p (length names) range.1) elsewhere s.others;
      }

-- ---- An append, and a change that leaves the entries as they were.

at_self : {E : Type 0} (ls : List (ℕ × List E)) (p q : ℕ) → list_at ls q ≡ (if p == q then list_at ls p else list_at ls q)
at_self ls p q = by_test (p == q) refl
  where
    by_test : (b : Bool) → (p == q) ≡ b → list_at ls q ≡ (if b then list_at ls p else list_at ls q)
    by_test true e = ap (list_at ls) (sym (eqb-true p q e))
    by_test false e = refl

module _ (names : List (List ℕ)) (files files' : Files) (w : World) (s : StandsFor names files w) where
  pub coord_append_stands : (e : CoordEntry) → Elsewhere (ledger_file 0) files files' → StandsForEntries IsCoordRecord (files' (ledger_file 0)) (w.coord ++ e ∷ []) → StandsFor names files' (world_with (in_coord e) w)
  coord_append_stands e elsewhere stands =
      coord_stands names files files' w (world_with (in_coord e) w) s s.named (shaped_with (in_coord e) w s.shaped tt) elsewhere stands refl refl

  pub coord_change_stands : Elsewhere (ledger_file 0) files files' → StandsForEntries IsCoordRecord (files' (ledger_file 0)) w.coord → StandsFor names files' w
  coord_change_stands elsewhere stands = coord_stands names files files' w w s s.named s.shaped elsewhere stands refl refl

  pub topic_append_stands : (p : ℕ) (es : List TopicEntry) → has (topic_parts names) p ≡ true → Elsewhere (ledger_file p) files files' → StandsForEntries IsBareRecord (files' (ledger_file p)) (list_at w.topics p ++ es)
      → StandsFor names files' (world_with (in_topic p es) w)
  topic_append_stands p es is elsewhere stands =
      topic_stands names files files' w (world_with (in_topic p es) w) s s.named (shaped_with (in_topic p es) w s.shaped (subst (λ ns. has (topic_parts ns) p ≡ true) (sym s.named) is))
      p (list_at w.topics p ++ es) is elsewhere stands refl refl (at_append w.topics p es)

  pub topic_change_stands : (p : ℕ) → has (topic_parts names) p ≡ true → Elsewhere (ledger_file p) files files' → StandsForEntries IsBareRecord (files' (ledger_file p)) (list_at w.topics p) → StandsFor names files' w
  topic_change_stands p is elsewhere stands = topic_stands names files files' w w s s.named s.shaped p (list_at w.topics p) is elsewhere stands refl refl (at_self w.topics p)

  pub sub_append_stands : (p : ℕ) (e : AckEntry) → has (sub_parts names) p ≡ true → Elsewhere (ledger_file p) files files' → StandsForEntries IsAckRecord (files' (ledger_file p)) (list_at w.subs p ++ e ∷ [])
      → StandsFor names files' (world_with (in_sub p e) w)
  sub_append_stands p e is elsewhere stands =
      sub_stands names files files' w (world_with (in_sub p e) w) s s.named (shaped_with (in_sub p e) w s.shaped (subst (λ ns. has (sub_parts ns) p ≡ true) (sym s.named) is))
      p (list_at w.subs p ++ e ∷ []) is elsewhere stands refl refl (at_append w.subs p (e ∷ []))

  pub sub_change_stands : (p : ℕ) → has (sub_parts names) p ≡ true → Elsewhere (ledger_file p) files files' → StandsForEntries IsAckRecord (files' (ledger_file p)) (list_at w.subs p) → StandsFor names files' w
  sub_change_stands p is elsewhere stands = sub_stands names files files' w w s s.named s.shaped p (list_at w.subs p) is elsewhere stands refl refl (at_self w.subs p)
