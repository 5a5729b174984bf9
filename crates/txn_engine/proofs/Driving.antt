-- How an engine drives a decided transaction to its end.
use Rattle.std.proofs.Common.{◌≡◌, ℕ, ◌+◌, ◌<◌, ◌≤◌, Bool, true, false, List, [], length, Some, None, is_some, Result, Ok, Err, IsOk, OnOk, IsTrue, refl, sym, ap, ◌∙◌, subst, arith, codes}
use Rattle.std.proofs.Math.ListN.{get_or}
use Rattle.txn_base.specs.declared.core_entry.CoreEntry.{CoreEntry}
use Rattle.std.proofs.lemmas.List.{get_or_default}
use Rattle.txn_base.specs.declared.failed.Failed.{Failed}
use Rattle.txn_base.specs.declared.reply.Outcome.{Outcome}
use Rattle.txn_base.specs.declared.reply.Why.TheVariants as why
use Rattle.txn_base.specs.declared.txn.TxnId.{TxnId}
use Rattle.txn_base.specs.declared.txn.Decision.{Decision}
use Rattle.txn_base.specs.declared.txn.Status.{Status}
use Rattle.txn_coordinator.specs.View.{CoordView}
use Rattle.txn_model.specs.Coord.{decision_of, closing_of, parts_of, closed, deciding}
use Rattle.txn_model.specs.Drive.{MarksAll, StopsWithin, Drives, already, closes, close_fault, stops, ended}
use Rattle.txn_model.specs.Names.{name_of}
use Rattle.txn_model.specs.Skeletons.{coord_skeletons}
use Rattle.txn_model.specs.Table.{TableState, closing_batch, with_failed_batch, with_batch}
use Rattle.txn_wire.specs.Short.{IsPartName}
use Rattle.txn_engine.specs.Kept.{IsEngine}
use Rattle.txn_engine.specs.Table.{table_of}
use Rattle.txn_engine.specs.Told.{RoseFor}
use Rattle.txn_engine.specs.View.{EngineView, IsTied}
use Rattle.txn_engine.proofs.Closing.{closing_none, closing_is}
use Rattle.txn_engine.proofs.Going.{rose_then}
use Rattle.txn_engine.proofs.Marks.{name_here, name_form}
use Rattle.txn_engine.proofs.TopicNames.{part_name}
use Rattle.txn_engine.proofs.Logged.{logged_table, table_is}

-- Over the same coordinator the decision stands.
pub decided_after : (c c' : CoordView) → c' ≡ c → (x : TxnId) (d : Decision) → decision_of (coord_skeletons c.front) x ≡ Some d → decision_of (coord_skeletons c'.front) x ≡ Some d
decided_after c c' same x d decided = subst (λ (z : CoordView). decision_of (coord_skeletons z.front) x ≡ Some d) (sym same) decided

-- An end that a fault of this part stopped.
abbrev pub stuck_by : Decision → List ℕ → Outcome
stuck_by d part = record { status = deciding d; stuck = Some (record { part = part; why = why.Fault }) }

module _ (v : EngineView) (is : IsEngine v) (whole : IsTrue v.coord.whole) (tied : IsTied v) (x : TxnId) (d : Decision) (decided : decision_of (coord_skeletons v.coord.front) x ≡ Some d) (f g : ℕ) (fs gs : ℕ → ℕ) where
  abbrev log : List CoreEntry
  log = coord_skeletons v.coord.front

  abbrev rose : ℕ → Type 0
  rose = RoseFor f g fs gs

  -- what is told over the table of what it has rebuilt
  over_whole : (outcome told : Outcome) (t' : TableState) → told ≡ outcome → Drives rose x (logged_table v) outcome t' → Drives rose x (table_of v) told t'
  over_whole outcome told t' e h = subst (λ (t : TableState). Drives rose x t told t') (sym (table_is v is whole tied)) (subst (λ (o : Outcome). Drives rose x (logged_table v) o t') (sym e) h)

  pub already_told : (begun : Bool) → begun ≡ is_some (closing_of log x) → begun ≡ true → (s : Status) → s ≡ closed d → Drives rose x (table_of v) (record { status = s; stuck = None }) (table_of v)
  already_told begun is_it so s e =
      over_whole (ended (closed d)) (record { status = s; stuck = None }) (table_of v) (ap (λ (k : Status). ended k) e)
      (already d (closing_is (length v.names) log is.coord.lawful x d decided (sym is_it ∙ so)) refl (table_is v is whole tied))

  module _ (begun : Bool) (is_it : begun ≡ is_some (closing_of log x)) (not_yet : begun ≡ false) where
    unclosed : closing_of log x ≡ None
    unclosed = closing_none (closing_of log x) (sym is_it ∙ not_yet)

    pub stops_told : (told : Outcome) (at : ℕ) (part : List ℕ) (t' : TableState) → told ≡ stuck_by d part → at < length v.names → part ≡ get_or v.names at [] → StopsWithin rose x d (parts_of log x) (1 + at) (table_of v) why.Fault t' → Drives rose x (table_of v) told t'
    stops_told told at part t' e within named h =
        let same : part ≡ name_of v.names (1 + at) = named ∙ sym (name_here v is at (omega (arith, within, is.count))) in
        over_whole (stuck_by d part) told t' e
        (stops d unclosed decided (1 + at) why.Fault (subst (λ (t : TableState). StopsWithin rose x d (parts_of log x) (1 + at) t why.Fault t') (table_is v is whole tied) h) (ap (stuck_by d) same))

    module _ (mid : TableState) (marks : MarksAll x d (parts_of log x) (table_of v) mid) where
      marks_here : MarksAll x d (parts_of log x) (logged_table v) mid
      marks_here = subst (λ (t : TableState). MarksAll x d (parts_of log x) t mid) (table_is v is whole tied) marks

      pub close_fault_told : (told : Outcome) (t' : TableState) → told ≡ stuck_by d (codes "@coordinator") → rose 0 → t' ≡ with_failed_batch (closing_batch x d) 0 mid → Drives rose x (table_of v) told t'
      close_fault_told told t' e grew after = over_whole (stuck_by d (codes "@coordinator")) told t' e (close_fault d unclosed decided mid marks_here grew refl after)

      pub closes_told : (s : Status) (t' : TableState) → s ≡ closed d → t' ≡ with_batch (closing_batch x d) mid → Drives rose x (table_of v) (record { status = s; stuck = None }) t'
      closes_told s t' e after = over_whole (ended (closed d)) (record { status = s; stuck = None }) t' (ap (λ (k : Status). ended k) e) (closes d unclosed decided mid marks_here refl after)

-- the name at an index, after a call that left the names
pub named_at : (v u z : EngineView) → z ≡ u → u.names ≡ v.names → (at : ℕ) → at < length v.names → (s part : List ℕ) → s ≡ get_or z.names at s → part ≡ s → part ≡ get_or v.names at []
named_at v u z e same at within s part found is =
    is ∙ found ∙ ap (λ (ns : List (List ℕ)). get_or ns at s) (ap (λ (y : EngineView). y.names) e ∙ same) ∙ sym (get_or_default v.names at [] s within)

pub from_is_ok : (r : Result (Unit {0}) Failed) (P : Type 0) → IsOk r → OnOk r P → P
from_is_ok (Ok a) P ok h = h
from_is_ok (Err e) P ok h = cc

-- the name of a part is short
pub part_short : (v : EngineView) → IsEngine v → (at : ℕ) (part : List ℕ) → at < length v.names → part ≡ get_or v.names at [] → IsPartName part
part_short v is at part within named =
    let below : at < length v.topics = omega (arith, within, is.count) in
    subst IsPartName (sym (named ∙ sym (name_here v is at below))) (part_name (name_of v.names (1 + at)) (name_form v is at below))

-- a fault of a later call
pub rose_later : (p f g h : ℕ) (fs gs hs : ℕ → ℕ) → f ≤ g → fs p ≤ gs p → RoseFor g h gs hs p → RoseFor f h fs hs p
rose_later p f g h fs gs hs le les grew = (rose_then f g h le grew.0, rose_then (fs p) (gs p) (hs p) les grew.1)
