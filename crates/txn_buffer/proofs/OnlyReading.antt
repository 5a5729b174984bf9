-- Calls that only read a disk, in a row.
use Rattle.std.proofs.Common.{ℕ, refl, ◌∙◌, arith}
use Rattle.txn_base.specs.declared.disk.Disk.{Ghosts}
use Rattle.txn_base.specs.Disk.{Same, CountsFaults}
use Rattle.txn_base.proofs.Laws.{started, goes_on}
use Rattle.txn_replay.specs.Reading.{OnlyReads}

pub counts_none : (part count : ℕ) (parts : ℕ → ℕ) → CountsFaults part count count parts parts ⊥
counts_none part count parts = record {
  later = omega arith;
  parts_later = λ p. omega arith;
  failed = λ none. absurd none;
  others = λ p below apart. refl;
}

pub counts_on : (part before mid now : ℕ) (parts_before parts_mid parts_now : ℕ → ℕ) (is_fault : Type 0) → CountsFaults part before mid parts_before parts_mid ⊥ → CountsFaults part mid now parts_mid parts_now is_fault
    → CountsFaults part before now parts_before parts_now is_fault
counts_on part before mid now parts_before parts_mid parts_now is_fault one two = record {
  later = omega (arith, one.later, two.later);
  parts_later = λ p. omega (arith, one.parts_later p, two.parts_later p);
  failed = λ h. let rose = two.failed h in (omega (arith, one.later, rose.0), omega (arith, one.parts_later part, rose.1));
  others = λ p below apart. two.others p below apart ∙ one.others p below apart;
}

-- which fault it is doesn't matter
pub counts_as : (part before now : ℕ) (parts_before parts_now : ℕ → ℕ) (P Q : Type 0) → (Q → P) → CountsFaults part before now parts_before parts_now P → CountsFaults part before now parts_before parts_now Q
counts_as part before now parts_before parts_now P Q from one = record {
  later = one.later;
  parts_later = one.parts_later;
  failed = λ h. one.failed (from h);
  others = one.others;
}

module _ {D : Type 0} (on : Ghosts D) (part : ℕ) where
  pub reads_none : (disk : D) → OnlyReads on part ⊥ disk disk
  reads_none disk = record {
    seen_same = refl;
    images = started on disk Same (λ c at. refl);
    cause = counts_none part (on.faults disk) (on.part_faults disk);
  }

  pub reads_on : (is_fault : Type 0) (old mid new : D) → OnlyReads on part ⊥ old mid → OnlyReads on part is_fault mid new
      → OnlyReads on part is_fault old new
  reads_on is_fault old mid new one two = record {
    seen_same = two.seen_same ∙ one.seen_same;
    images = goes_on on Same Same Same old mid new one.images two.images (λ d c at is. is) (λ d e c at one_step mid_at two_step. two_step ∙ one_step);
    cause = counts_on part (on.faults old) (on.faults mid) (on.faults new) (on.part_faults old) (on.part_faults mid) (on.part_faults new) is_fault one.cause two.cause;
  }

  pub reads_as : (P Q : Type 0) (old new : D) → (Q → P) → OnlyReads on part P old new → OnlyReads on part Q old new
  reads_as P Q old new from one = record {
    seen_same = one.seen_same;
    images = one.images;
    cause = counts_as part (on.faults old) (on.faults new) (on.part_faults old) (on.part_faults new) P Q from one.cause;
  }
