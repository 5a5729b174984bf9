-- How a coordinator is rebuilt while it is opened.
use Rattle.std.proofs.Common.{◌≡◌, ◌↔◌, ◌<◌, ℕ, ◌≤◌, ◌+◌, ◌-◌, ◌||◌, min, if◌then◌else◌, Bool, true, false, List, length, All, IsTrue, refl, sym, ap, ◌∙◌, subst, arith, ⊎_elim, inr}
use Rattle.std.proofs.lemmas.Bool.{cases_lt}
use Rattle.std.proofs.lemmas.List.{take_all}
use Rattle.txn_base.specs.declared.limits.Limits.{Limits}
use Rattle.txn_base.specs.declared.part.MendError.TheVariants as mend
use Rattle.txn_base.specs.Content.{LedgerContent, Standing, settled, kept, with_flight}
use Rattle.txn_base.specs.Decoded.{coord_entry_of}
use Rattle.txn_base.specs.Frames.{Stands, records}
use Rattle.txn_base.specs.Records.{IsCoordRecord}
use Rattle.txn_model.specs.Coord.{CoordLawful}
use Rattle.txn_model.specs.Deadlines.{low_of}
use Rattle.txn_model.specs.Skeletons.{coord_skeletons}
use Rattle.txn_model.specs.Sound.{ledger_file}
use Rattle.txn_coordinator.specs.Mending.{IsSettledFrom, IsFirstBadRecord, AreReplayed, Mends}
use Rattle.txn_coordinator.specs.View.{CoordView, coord_total}
use Rattle.txn_engine.specs.Kept.{IsCoordinator}
use Rattle.txn_engine.specs.Opening.{IsDamagedLog, IsCoordinatorOf}
use Rattle.txn_engine.proofs.Logged.{coord_front}

-- The coordinator of n named parts is under these limits, nothing is in flight, and its front is lawful and within its log:
-- where it is whole, all of it, and the low watermark is that of the opening.
pub record IsOpeningLog (limits : Limits) (n : ℕ) (v : CoordView) : Type 0 where
  pub key : v.content.key ≡ ledger_file 0
  pub limits_are : v.limits ≡ limits
  pub named_is : v.named ≡ n
  pub settled_is : v.content.standing ≡ settled
  pub lawful : CoordLawful n (coord_skeletons v.front)
  pub within : length v.front ≤ coord_total v
  pub all : IsTrue v.whole → length v.front ≡ coord_total v
  pub was_whole : v.was_whole ≡ v.whole
  pub low : IsTrue v.whole → v.opened_low ≡ low_of v.front

-- What it has replayed is what its ledger holds, and these bytes stand for that.
pub record IsToldLog (n : ℕ) (bytes : List ℕ) (v : CoordView) : Type 0 where
  pub replayed : AreReplayed n v.content v.front
  pub stands : Stands bytes v.content.batches

-- The records that are not in the front, and a step that may find that there are none.
abbrev pub log_steps_left : CoordView → ℕ
log_steps_left v = (coord_total v - length v.front) + (if v.whole then 0 else 1)

-- ---- A step.

settled_same : (k : LedgerContent) → k.standing ≡ settled → record { key = k.key; batches = k.batches; standing = settled } ≡ k
settled_same k e = λ i. record { key = k.key; batches = k.batches; standing = (sym e) i }

kept_same : (k : LedgerContent) → k.standing ≡ settled → kept k ≡ k
kept_same k e = ap (λ (s : Standing). record { key = k.key; batches = with_flight k.batches s; standing = settled }) e ∙ settled_same k e

pub same_log_content : (v w : LedgerContent) → v.standing ≡ settled → IsSettledFrom v w → w ≡ v
same_log_content v w e from = ⊎_elim (λ kept. kept ∙ kept_same v e) (λ dropped. dropped ∙ settled_same v e) from

module _ (limits : Limits) (n : ℕ) (v w : CoordView) (is : IsOpeningLog limits n v) (going : v.whole ≡ false) (step : Mends v w) (lawful : CoordLawful n (coord_skeletons w.front)) where
  same : w.content ≡ v.content
  same = same_log_content v.content w.content is.settled_is step.settles

  total : coord_total w ≡ coord_total v
  total = ap (λ (k : LedgerContent). length (records k.batches)) same

  was : v.was_whole ≡ false
  was = is.was_whole ∙ going

  opened_by : (b c : Bool) (low old new : ℕ) → b ≡ false → IsTrue c → low ≡ (if b then old else (if c then new else old)) → low ≡ new
  opened_by true c low old new e h = cc
  opened_by false true low old new e h = λ is. is
  opened_by false false low old new e h = cc

  whole_by : (b c d : Bool) → b ≡ false → d ≡ (b || c) → d ≡ c
  whole_by true c d e h = cc
  whole_by false c d e h = h

  pub opening_step : IsOpeningLog limits n w
  opening_step = record {
    key = ap (λ (k : LedgerContent). k.key) same ∙ is.key;
    limits_are = step.limits ∙ is.limits_are;
    named_is = step.named ∙ is.named_is;
    settled_is = ap (λ (k : LedgerContent). k.standing) same ∙ is.settled_is;
    lawful = lawful;
    within = omega (arith, step.grows);
    all = step.whole.0;
    was_whole = whole_by v.was_whole w.whole w.was_whole was step.was_whole;
    low = λ whole. opened_by v.was_whole w.whole w.opened_low v.opened_low (low_of w.front) was whole step.opened;
  }

  pub told_step : (bytes : List ℕ) → IsToldLog n bytes v → AreReplayed n w.content w.front → IsToldLog n bytes w
  told_step bytes before replayed = record { replayed = replayed; stands = subst (λ (k : LedgerContent). Stands bytes k.batches) (sym same) before.stands }

-- a step leaves fewer
not_whole : (t f' : ℕ) → (IsTrue false ↔ (f' ≡ t)) → f' ≡ t → ⊥
not_whole t f' is same = cc (is.1 same)

fewer_by : (b : Bool) (t f f' s : ℕ) → (IsTrue b ↔ (f' ≡ t)) → f' ≡ min t (f + s) → f ≤ t → 1 ≤ s → (t - f') + (if b then 0 else 1) < (t - f) + 1
fewer_by true t f f' s is grows within some = let all : f' ≡ t = is.0 refl in omega (arith, all)
fewer_by false t f f' s is grows within some = ⊎_elim
    (λ more. omega (arith, more, grows, within, some))
    (λ past. absurd (not_whole t f' is (omega (arith, past, grows))))
    (cases_lt (f + s) t)

pub fewer : (limits : Limits) (n : ℕ) (v w : CoordView) → IsOpeningLog limits n v → v.whole ≡ false → Mends v w → 1 ≤ limits.step → log_steps_left w < log_steps_left v
fewer limits n v w is going step some =
    let total : coord_total w ≡ coord_total v = ap (λ (k : LedgerContent). length (records k.batches)) (same_log_content v.content w.content is.settled_is step.settles) in
    let bound : 1 ≤ v.limits.step = subst (λ (l : Limits). 1 ≤ l.step) (sym is.limits_are) some in
    let less : (coord_total w - length w.front) + (if w.whole then 0 else 1) < (coord_total w - length v.front) + 1 =
    fewer_by w.whole (coord_total w) (length v.front) (length w.front) v.limits.step step.whole step.grows (omega (arith, total, is.within)) bound in
    rw going (omega (arith, less, total))

-- ---- All of it.

pub opened_log : (limits : Limits) (n : ℕ) (v : CoordView) → IsOpeningLog limits n v → IsCoordinator limits n v
opened_log limits n v is = record { key = is.key; limits_are = is.limits_are; named_is = is.named_is; lawful = is.lawful; settled_is = λ whole. is.settled_is; all = is.all }

pub opening_is_log : (limits : Limits) (n : ℕ) (v : CoordView) (bytes : List ℕ) → IsOpeningLog limits n v → IsTrue v.whole → IsToldLog n bytes v → IsCoordinatorOf n v bytes
opening_is_log limits n v bytes is whole told = record {
  tied = told.replayed.entries;
  stands = told.stands;
  grammar = subst (All (λ r. IsCoordRecord r (coord_entry_of r))) (take_all (length v.front) (records v.content.batches) (omega (arith, is.all whole))) told.replayed.grammar;
  lawful = subst (λ es. CoordLawful n (coord_skeletons es)) (sym (coord_front limits n v (opened_log limits n v is) whole told.replayed.entries)) is.lawful;
}

-- ---- Damage.

module _ (n : ℕ) (v w : CoordView) (bytes : List ℕ) (same : w.content ≡ v.content) (told : IsToldLog n bytes v) where
  pub damaged_log : (place : ℕ) → IsFirstBadRecord n w.content place → IsDamagedLog n bytes place
  damaged_log place found =
      let bad : IsFirstBadRecord n v.content place = subst (λ (k : LedgerContent). IsFirstBadRecord n k place) same found in
      inr (v.content.batches, told.stands, bad.within, record { bad = bad.bad; lawful = bad.before; grammar = bad.grammar })

pub not_fault : (place : ℕ) → mend.Damaged place ≡ mend.Fault → ⊥
not_fault place e = cc
