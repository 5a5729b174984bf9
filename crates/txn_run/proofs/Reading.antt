-- A run that takes its last bytes.
use Rattle.std.proofs.Common.{◌≡◌, ℕ, ◌+◌, ◌≤◌, zero, suc, List, [], ◌++◌, length, take, Option, refl, sym, ap, ap₂, ◌∙◌, subst, append-nil, length-append, arith}
use Rattle.std.specs.Io.KnownBytes.{Consumes, Keeps}
use Rattle.std.proofs.KnownBytes.{Appends-nil, Consumes-nil, Consumes-trans, Consumes-kept}
use Rattle.txn_base.specs.declared.limits.Limits.{Limits}
use Rattle.txn_model.specs.Replies.{RunState}
use Rattle.txn_run.specs.Going.{IsLineSoFar, Going, HasTaken}
use Rattle.txn_run.specs.declared.partial_line.PartialLine.{PartialLine}
use Rattle.txn_run.specs.declared.status.RunStatus.TheVariants as status

none_of : (n : ℕ) (chunk : List ℕ) → n ≡ 0 → take n chunk ≡ []
none_of n chunk e = rw e refl

-- so many bytes were taken, and the run goes so
abbrev pub CameTo : Limits → RunState → Option (List ℕ) → Option (List ℕ) → ℕ → PartialLine → RunState → Option (List ℕ) → Option (List ℕ) → Type 0
CameTo limits s old left taken p u mid left' = (fed : List ℕ) × Consumes left left' fed × (length fed ≡ taken) × Going limits s old fed p u mid

pub reads_none : (limits : Limits) (s : RunState) (old left : Option (List ℕ)) (p : PartialLine) → IsLineSoFar limits.line p [] → HasTaken limits s old left 0 p s old left
reads_none limits s old left p piece = record {
  fed = [];
  count = refl;
  came = Consumes-nil left;
  going = record { piece = piece; told = record { told = []; replies = (refl, refl); put = Appends-nil old } };
}

pub reads_kept : (limits : Limits) (s : RunState) (old left : Option (List ℕ)) (taken : ℕ) (p : PartialLine) (u : RunState) (mid left' left'' : Option (List ℕ)) → HasTaken limits s old left taken p u mid left' → Keeps left' left'' → CameTo limits s old left taken p u mid left''
reads_kept limits s old left taken p u mid left' left'' r kept = (r.fed, Consumes-kept left left' left'' r.fed r.came kept, r.count, r.going)

pub came_none : (left left' left'' : Option (List ℕ)) (bytes chunk : List ℕ) (n : ℕ) → n ≡ 0 → Consumes left left' bytes → Consumes left' left'' (take n chunk) → Consumes left left'' bytes
came_none left left' left'' bytes chunk n none came last =
    subst (Consumes left left'') (append-nil bytes) (Consumes-trans left left' left'' bytes [] came (subst (Consumes left' left'') (none_of n chunk none) last))

pub reads_end : (limits : Limits) (s : RunState) (old left : Option (List ℕ)) (taken : ℕ) (p : PartialLine) (u : RunState) (mid left' left'' : Option (List ℕ)) (chunk : List ℕ) (n : ℕ) → n ≡ 0 → HasTaken limits s old left taken p u mid left' → Consumes left' left'' (take n chunk) → CameTo limits s old left taken p u mid left''
reads_end limits s old left taken p u mid left' left'' chunk n none r last = (r.fed, came_none left left' left'' r.fed chunk n none r.came last, r.count, r.going)

pub came_more : (left left' left'' : Option (List ℕ)) (bytes more : List ℕ) (taken n : ℕ) → Consumes left left' bytes → length bytes ≡ taken → Consumes left' left'' more → length more ≡ n → (all : List ℕ) × Consumes left left'' all × (length all ≡ taken + n)
came_more left left' left'' bytes more taken n came count last long =
    (bytes ++ more, Consumes-trans left left' left'' bytes more came last, length-append bytes more ∙ ap₂ (λ (a b : ℕ). a + b) count long)

-- ---- something was taken

pub none_taken : (taken n : ℕ) → (n ≡ 0 → ⊥) → taken + n ≡ 0 → ⊥
none_taken taken n some none = some (omega (arith, none))

above_none : (n : ℕ) → (n ≡ 0 → ⊥) → 1 ≤ n
above_none zero h = absurd (h refl)
above_none (suc n) h = omega arith

pub some_taken : (taken : ℕ) (bytes : List ℕ) → length bytes ≡ taken → (taken ≡ 0 → ⊥) → 1 ≤ length bytes
some_taken taken bytes long some = omega (arith, long, above_none taken some)

pub some_more : (taken n : ℕ) (bytes : List ℕ) → length bytes ≡ taken + n → (n ≡ 0 → ⊥) → 1 ≤ length bytes
some_more taken n bytes long some = omega (arith, long, above_none n some)

-- ---- nothing was taken

pub none_so_far : (taken : ℕ) (bytes : List ℕ) → length bytes ≡ taken → bytes ≡ [] → taken ≡ 0
none_so_far taken bytes long none = sym long ∙ ap length none

pub never_none : (taken n : ℕ) (bytes : List ℕ) → length bytes ≡ taken + n → (n ≡ 0 → ⊥) → bytes ≡ [] → ⊥
never_none taken n bytes long some none = none_taken taken n some (sym long ∙ ap length none)

-- ---- the ends are apart

pub write_no_too_much : status.WriteFault ≡ status.TooMuch → ⊥
write_no_too_much h = cc

pub write_no_ok : status.WriteFault ≡ status.Ok → ⊥
write_no_ok h = cc

pub write_no_read_fault : status.WriteFault ≡ status.ReadFault → ⊥
write_no_read_fault h = cc

pub disk_no_too_much : status.DiskFault ≡ status.TooMuch → ⊥
disk_no_too_much h = cc

pub disk_no_ok : status.DiskFault ≡ status.Ok → ⊥
disk_no_ok h = cc

pub disk_no_read_fault : status.DiskFault ≡ status.ReadFault → ⊥
disk_no_read_fault h = cc
