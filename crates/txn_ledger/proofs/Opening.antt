-- The frames read so far.
use Rattle.std.proofs.Common.{◌≡◌, ◌⊎◌, ⊎_elim, inl, inr, subst, ℕ, ◌+◌, ◌<◌, ◌^◌, List, [], ◌∷◌, ◌++◌, length, take, drop, sym, ap, ◌∙◌, arith, length-append}
use Rattle.std.proofs.lemmas.List.{append_assoc, drop_at, drop-drop}
use Rattle.txn_base.specs.declared.file_id.FileId.{FileId}
use Rattle.txn_base.specs.Disk.{Files, Same, Changes, OldOrResized}
use Rattle.std.specs.Prelude.{All}
use Rattle.txn_base.specs.declared.disk.Disk.{Ghosts}
use Rattle.txn_base.specs.Moves.{After}
use Rattle.byteorder.specs.Endian.{big_bytes}
use Rattle.txn_base.specs.Frames.{Batch, IsBatch, IsDamagedAt, body_of, frame, frames, records, Stands}
use Rattle.txn_base.proofs.Laws.{goes_on, stands_one, stands_not_damaged}
use Rattle.txn_ledger.specs.Found.{KeepsDamaged, KeepsFile}
use Rattle.txn_ledger.proofs.Bodies.{frame_length}
use Rattle.txn_ledger.proofs.Frames.{frames-push, cut_is}
use Rattle.txn_ledger.proofs.Heads.{frame_found, frame_body}

-- one frame more
scanned : (x : List ℕ) (batches : List Batch) (batch : Batch) (end next : ℕ) (after : List ℕ) → end ≡ length (frames batches) → x ≡ frames batches ++ drop end x → drop end x ≡ frame batch ++ after → next ≡ end + length (frame batch)
    → x ≡ frames (batches ++ batch ∷ []) ++ drop next x
scanned x batches batch end next after ends so_far found nexts =
    let all : x ≡ frames (batches ++ batch ∷ []) ++ after =
    so_far ∙ ap (λ (l : List ℕ). frames batches ++ l) found ∙ sym (append_assoc (frames batches) (frame batch) after) ∙ ap (λ (l : List ℕ). l ++ after) (sym (frames-push batches batch)) in
    let long : length (frames (batches ++ batch ∷ [])) ≡ next = omega (arith, ap length (frames-push batches batch), length-append (frames batches) (frame batch), ends, nexts) in
    all ∙ ap (λ (l : List ℕ). frames (batches ++ batch ∷ []) ++ l) (sym (ap (λ (l : List ℕ). drop next l) all ∙ drop_at (frames (batches ++ batch ∷ [])) after next long))

-- a head behind some frames, and the bytes behind it
module _ (x : List ℕ) (batches : List Batch) (end len : ℕ) (body : List ℕ) (so_far : x ≡ frames batches ++ drop end x) (head : drop end x ≡ 1 ∷ (big_bytes 4 len ++ drop 5 (drop end x))) (body_is : body ≡ take len (drop (end + 5) x)) where
  behind : body ≡ take len (drop 5 (drop end x))
  behind = body_is ∙ ap (λ (l : List ℕ). take len l) (sym (drop-drop 5 end x))

  pub scanned_frame : end ≡ length (frames batches) → length body ≡ len → (batch : Batch) → body ≡ body_of batch → (next : ℕ) → next ≡ end + 5 + length body → x ≡ frames (batches ++ batch ∷ []) ++ drop next x
  scanned_frame ends long batch is next nexts =
      scanned x batches batch end next (drop len (drop 5 (drop end x))) ends so_far (frame_found (drop end x) len body head behind batch long is) (omega (arith, nexts, ap length is, frame_length batch))

  pub damaged_frame : len < 2 ^ 32 → All IsBatch batches → (entry : ℕ) → entry ≡ length (records batches) → ((batch : Batch) → IsBatch batch → body ≡ body_of batch → ⊥) → IsDamagedAt x entry
  damaged_frame small each entry before none = record {
    batches = batches;
    each = each;
    rest = big_bytes 4 len ++ drop 5 (drop end x);
    split = so_far ∙ ap (λ (l : List ℕ). frames batches ++ l) head;
    no_frame = λ batch after is e. none batch is (frame_body (drop end x) len body head behind small batch after is (head ∙ e));
    before = before;
  }

-- a file that was seen to stand for batches isn't damaged
pub not_damaged : (file : FileId) (before seen after : Files) (batches : List Batch) → seen ≡ before → Stands (seen file) batches → KeepsDamaged (before file) (after file)
not_damaged file before seen after batches same stands = λ entry damaged. absurd (stands_not_damaged (before file) batches entry (subst (λ (f : Files). Stands (f file) batches) same stands) damaged)

-- the calls that look at a file, and then cut it behind the frames that it was seen to have
module _ {D : Type 0} (on : Ghosts D) (file : FileId) (old mid new : D) (looked : After on Same old mid)
    (batches : List Batch) (end : ℕ) (ends : end ≡ length (frames batches)) (at : (e : Files) → on.image mid e → Stands (e file) batches) (cutting : After on (Changes file (OldOrResized end)) mid new) where
  keeps : (d c : Files) → Same d c → Changes file KeepsFile d c
  keeps d c same = record {
    here = record {
      cut = λ batches stands. inl (ap (λ (f : Files). f file) same);
      damage = λ entry damaged. ap (λ (f : Files). f file) same;
    };
    others = λ other apart. ap (λ (f : Files). f other) same;
  }

  -- a cut behind these batches leaves their frames
  cut_or_not : (e c : Files) → on.image mid e → OldOrResized end (e file) (c file) → (c file ≡ e file) ⊎ (c file ≡ frames batches)
  cut_or_not e c now (inl is) = inl is
  cut_or_not e c now (inr is) = inr (is ∙ cut_is batches end ends (e file) (at e now))

  pub cut_keeps : After on (Changes file KeepsFile) old new
  cut_keeps = goes_on on _ _ _ old mid new looked cutting (λ d c was same. keeps d c same)
      (λ d e c was same now step. record {
        here = record {
          cut = λ others stands.
              let one : batches ≡ others = stands_one (e file) batches others (at e now) (subst (λ (f : Files). Stands (f file) others) (sym same) stands) in
              subst (λ (b : List Batch). (c file ≡ d file) ⊎ (c file ≡ frames b)) one
              (⊎_elim (λ is. inl (is ∙ ap (λ (f : Files). f file) same)) (λ is. inr is) (cut_or_not e c now step.here));
          damage = λ entry damaged. absurd (stands_not_damaged (e file) batches entry (at e now) (subst (λ (f : Files). IsDamagedAt (f file) entry) (sym same) damaged));
        };
        others = λ other apart. step.others other apart ∙ ap (λ (f : Files). f other) same;
      })
