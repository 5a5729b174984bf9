-- The calls that find out what became of a batch.
use Rattle.std.proofs.Common.{◌≡◌, ℕ, ◌+◌, List, length, sym, ◌∙◌, ap, subst}
use Rattle.txn_base.specs.declared.disk.Disk.{Ghosts}
use Rattle.txn_base.specs.Moves.{After}
use Rattle.txn_base.specs.declared.file_id.FileId.{FileId}
use Rattle.txn_base.specs.Disk.{Files, Same, Changes, OldOrResized, Only, resized}
use Rattle.txn_base.specs.Frames.{Batch, frames, Stands}
use Rattle.txn_base.specs.Content.{LedgerContent, settled, kept, dropped, IsInFlight, KeptOrNot, Settles}
use Rattle.txn_base.proofs.Laws.{goes_on, stands_one, not_settled, same_backed, same_settles}
use Rattle.txn_ledger.specs.declared.settle.Behind.{Behind}
use Rattle.txn_ledger.specs.declared.settle.Behind.TheVariants.{Frame, More, NoFrame}
use Rattle.txn_ledger.specs.Gate.{IsFrameThere, IsBehind}
use Rattle.txn_ledger.specs.Ledger.{IsFile, StandsIn, ExactlyIn, Stored}
use Rattle.txn_ledger.specs.Tied.{IsSent}
use Rattle.txn_ledger.proofs.Chain.{same_on}
use Rattle.txn_ledger.proofs.Frames.{cut_is, only_frames}
use Rattle.txn_ledger.proofs.InFlight.{kept_stands, dropped_stands, without, within, kept_ends, cut_stands}

module _ (content : LedgerContent) (end sent : ℕ) (ends : end ≡ length (frames content.batches)) (doubt : IsInFlight content.standing) (is_sent : IsSent content.standing sent) where
  -- as it reads
  pub read_kept : (x : List ℕ) → KeptOrNot (Stands x) content.batches content.standing → IsFrameThere end sent x → Stands x (kept content).batches
  read_kept x either whole = kept_stands content.batches end sent ends content.standing doubt is_sent x either whole

  pub read_dropped : (x : List ℕ) → KeptOrNot (Stands x) content.batches content.standing → (IsFrameThere end sent x → ⊥) → Stands x (dropped content).batches
  read_dropped x either not_whole = dropped_stands content.batches end sent ends content.standing doubt is_sent x either not_whole

  -- cut behind what counts, or no longer than that, a file is just these frames
  pub kept_is : (x : List ℕ) → Stands x (kept content).batches → resized (end + sent) x ≡ frames (kept content).batches
  kept_is x stands = cut_is (kept content).batches (end + sent) (kept_ends content.batches end sent ends content.standing doubt is_sent) x stands

  pub kept_just : (x : List ℕ) → Stands x (kept content).batches → length x ≡ end + sent → x ≡ frames (kept content).batches
  kept_just x stands long = only_frames x (kept content).batches stands (long ∙ kept_ends content.batches end sent ends content.standing doubt is_sent)

  pub dropped_is : (x : List ℕ) → Stands x (dropped content).batches → resized end x ≡ frames (dropped content).batches
  dropped_is x stands = cut_is content.batches end ends x stands

  -- a sync, and then a look at the file
  module _ {D : Type 0} (on : Ghosts D) (image_is_told : (d : D) (c : Files) → on.image d c → on.tells)
      (file : FileId) (is : file ≡ content.key) (bytes : List ℕ) (old synced mid : D) (backed : Stored (on.image old) content)
      (syncing : After on Same old synced) (durable : Only file bytes (on.image synced)) (looking : After on Same synced mid) where
    looked : After on Same old mid
    looked = same_on on file end Same old synced mid syncing looking

    mid_backed : Stored (on.image mid) content
    mid_backed = same_backed StandsIn ExactlyIn on old mid content looked backed

    mid_settles : After on (Settles IsFile StandsIn content) old mid
    mid_settles = same_settles StandsIn ExactlyIn IsFile on old mid content looked backed

    -- each image is as the file read
    read_is : (e : Files) → on.image mid e → bytes ≡ e content.key
    read_is e at = let f = looking.at_end e at in sym (durable f.0 f.1) ∙ ap (λ (c : Files). c file) (sym f.2) ∙ ap e is

    read_so : (P : List ℕ → Type 0) → (on.tells → P bytes) → (e : Files) → on.image mid e → P (e content.key)
    read_so P so e at = subst P (read_is e at) (so (image_is_told mid e at))

    -- what the look found
    module _ (behind : Behind) (read : List ℕ) (as_read : read ≡ bytes) (found : on.tells → IsBehind end sent read behind) where
      pub not_there : behind ≡ NoFrame → on.tells → IsFrameThere end sent bytes → ⊥
      not_there e told is = subst (λ (b : Behind). IsBehind end sent read b) e (found told) (subst (λ (x : List ℕ). IsFrameThere end sent x) (sym as_read) is)

      pub is_more : behind ≡ More → on.tells → IsFrameThere end sent bytes
      is_more e told = subst (λ (x : List ℕ). IsFrameThere end sent x) as_read (subst (λ (b : Behind). IsBehind end sent read b) e (found told)).0

      pub is_there : behind ≡ Frame → on.tells → IsFrameThere end sent bytes × (length bytes ≡ end + sent)
      is_there e told = subst (λ (x : List ℕ). IsFrameThere end sent x × (length x ≡ end + sent)) as_read (subst (λ (b : Behind). IsBehind end sent read b) e (found told))

    -- and then a cut behind batches for which it stands
    module _ (batches : List Batch) (n : ℕ) (ends_there : n ≡ length (frames batches)) (there : (e : Files) → on.image mid e → Stands (e content.key) batches)
        (either : (x : List ℕ) → Stands x batches → KeptOrNot (Stands x) content.batches content.standing)
        (new : D) (cutting : After on (Changes file (OldOrResized n)) mid new) where
      cut_here : After on (Changes content.key (OldOrResized n)) mid new
      cut_here = subst (λ (f : FileId). After on (Changes f (OldOrResized n)) mid new) is cutting

      after : (e c : Files) → on.image mid e → Changes content.key (OldOrResized n) e c → Stands (c content.key) batches
      after e c at step = cut_stands batches n 0 ends_there (e content.key) (c content.key) (there e at) step.here

      in_doubt : Stored (on.image new) content
      in_doubt = record {
        each = λ c at. let e = cut_here.at_end c at in either (c content.key) (after e.0 c e.1 e.2);
        exact = λ settled. absurd (not_settled content.standing doubt settled);
      }

      settles : After on (Settles IsFile StandsIn content) old new
      settles = goes_on on _ _ _ old mid new mid_settles cut_here (λ d c at is. is)
          (λ d e c at one mid_at two. record {
            here = either (c content.key) (after e c mid_at two);
            still = λ others so. subst (λ (l : List Batch). Stands (c content.key) l) (stands_one (e content.key) batches others (there e mid_at) (one.still others so)) (after e c mid_at two);
            quiet = λ settled. absurd (not_settled content.standing doubt settled);
            others = λ other apart. two.others other apart ∙ one.others other apart;
          })

      backs : (read : List ℕ) → read ≡ bytes → (on.tells → Only file (resized n read) (on.image new))
          → Stored (on.image new) (record { key = content.key; batches = batches; standing = settled })
      backs read as_read done = record {
        each = λ c at. let e = cut_here.at_end c at in after e.0 c e.1 e.2;
        exact = λ settled c at.
            let e = cut_here.at_end c at in
            ap c (sym is) ∙ done (image_is_told new c at) c at ∙ ap (λ (x : List ℕ). resized n x) (as_read ∙ read_is e.0 e.1) ∙ cut_is batches n ends_there (e.0 content.key) (there e.0 e.1);
      }

    -- where the frame is there
    module _ (whole : on.tells → IsFrameThere end sent bytes) where
      kept_there : (e : Files) → on.image mid e → Stands (e content.key) (kept content).batches
      kept_there e at = read_kept (e content.key) (mid_backed.each e at) (read_so (λ (x : List ℕ). IsFrameThere end sent x) whole e at)

      -- and no more
      pub kept_backed : (on.tells → length bytes ≡ end + sent) → Stored (on.image mid) (kept content)
      kept_backed long = record {
        each = kept_there;
        exact = λ settled e at. kept_just (e content.key) (kept_there e at) (read_so (λ (x : List ℕ). length x ≡ end + sent) long e at);
      }

      -- or the file is cut behind it
      pub longer_in_doubt : (new : D) (cutting : After on (Changes file (OldOrResized (end + sent))) mid new) → Stored (on.image new) content
      longer_in_doubt = in_doubt (kept content).batches (end + sent) (kept_ends content.batches end sent ends content.standing doubt is_sent) kept_there (within content.batches end sent ends content.standing doubt)

      pub longer_settles : (new : D) (cutting : After on (Changes file (OldOrResized (end + sent))) mid new) → After on (Settles IsFile StandsIn content) old new
      longer_settles = settles (kept content).batches (end + sent) (kept_ends content.batches end sent ends content.standing doubt is_sent) kept_there (within content.batches end sent ends content.standing doubt)

      pub longer_backed : (new : D) (cutting : After on (Changes file (OldOrResized (end + sent))) mid new)
          → (read : List ℕ) → read ≡ bytes → (on.tells → Only file (resized (end + sent) read) (on.image new)) → Stored (on.image new) (kept content)
      longer_backed = backs (kept content).batches (end + sent) (kept_ends content.batches end sent ends content.standing doubt is_sent) kept_there (within content.batches end sent ends content.standing doubt)

    -- where it isn't, and the file is cut
    module _ (none : on.tells → IsFrameThere end sent bytes → ⊥) where
      dropped_there : (e : Files) → on.image mid e → Stands (e content.key) content.batches
      dropped_there e at = read_dropped (e content.key) (mid_backed.each e at) (read_so (λ (x : List ℕ). IsFrameThere end sent x → ⊥) none e at)

      pub cut_in_doubt : (new : D) (cutting : After on (Changes file (OldOrResized end)) mid new) → Stored (on.image new) content
      cut_in_doubt = in_doubt content.batches end ends dropped_there (without content.batches end sent ends content.standing)

      pub cut_settles : (new : D) (cutting : After on (Changes file (OldOrResized end)) mid new) → After on (Settles IsFile StandsIn content) old new
      cut_settles = settles content.batches end ends dropped_there (without content.batches end sent ends content.standing)

      pub cut_backed : (new : D) (cutting : After on (Changes file (OldOrResized end)) mid new)
          → (read : List ℕ) → read ≡ bytes → (on.tells → Only file (resized end read) (on.image new)) → Stored (on.image new) (dropped content)
      cut_backed = backs content.batches end ends dropped_there (without content.batches end sent ends content.standing)
