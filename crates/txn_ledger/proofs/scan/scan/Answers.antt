use Rattle.std.specs.Prelude.{Err}
use Rattle.txn_ledger.specs.declared.error.OpenError.TheVariants.{Damaged}
use Rattle.std.proofs.Common.{◌≡◌, ℕ, ◌+◌, List, ◌∷◌, ◌++◌, take, drop, sym, ap, ◌∙◌, subst, arith, rules}
use Rattle.byteorder.specs.Endian.{big_bytes}
use Rattle.txn_base.specs.Disk.{Files}
use Rattle.txn_base.specs.Content.{LedgerContent, landed}
use Rattle.txn_base.specs.Frames.{Batch, frames}
use Rattle.txn_ledger.specs.Bodies.{batch_in}
use Rattle.txn_ledger.specs.Found.{IsPiece}
use Rattle.txn_ledger.proofs.Chain.{same_on}
use Rattle.txn_ledger.proofs.Opening.{scanned_frame, damaged_frame}
use Rattle.txn_ledger.proofs.scan.scan.Goals as goal

pub loop-window-preserved : goal.loop-window-preserved
loop-window-preserved g c =
    let before = c.loop-window.invariant in
    let x : List ℕ = g.D.Disk.seen c.args.disk.now c.args.file in
    let found = c.loop-window.found in
    let batch : Batch = batch_in c.slice.result.now in
    let pushed : c.add_frame.new.self.carrier.content ≡ landed found.carrier.content batch = c.in_ok-add_frame-in-Body.ensures.content in
    let fits = rw c.in-Body.is at c.in_ok-read_head.ensures.fits in
    let at_head : g.D.Disk.seen c.loop-window.disk c.args.file ≡ x = ap (λ (f : Files). f c.args.file) before.seen in
    let at_body : g.D.Disk.seen c.read_head.new.disk c.args.file ≡ x = ap (λ (f : Files). f c.args.file) c.read_head.ensures.seen ∙ at_head in
    record {
      key = ap (λ (s : LedgerContent). s.key) pushed ∙ before.key;
      scanned = c.in_ok-add_frame-in-Body.ensures.scanned;
      within = omega (arith, fits.0, before.within, c.in_ok-add_frame-in-Body.ensures.end, c.slice.ensures.len);
      piece = subst (λ (y : List ℕ). IsPiece g.D.Disk.tells y c.args.size c.fill.new.self.at c.fill.new.self.bytes.items) at_body c.in_ok-fill-in-Body.ensures.piece;
      told = λ told.
          let head : drop found.end x ≡ 1 ∷ (big_bytes 4 c.in-Body.len ++ drop 5 (drop found.end x)) =
          subst (λ (y : List ℕ). drop found.end y ≡ 1 ∷ (big_bytes 4 c.in-Body.len ++ drop 5 (drop found.end y))) at_head (rw c.in-Body.is at (c.in_ok-read_head.ensures.head told)) in
          let body_is : c.slice.result.now ≡ take c.in-Body.len (drop (found.end + 5) x) =
          c.slice.ensures.bytes (g.D.Disk.seen c.read_head.new.disk c.args.file) (c.in_ok-fill-in-Body.ensures.piece.read told) ∙ ap (λ (y : List ℕ). take c.in-Body.len (drop (found.end + 5) y)) at_body in
          scanned_frame x found.carrier.content.batches found.end c.in-Body.len c.slice.result.now (before.told told) head body_is before.scanned.tied.ends c.slice.ensures.len batch c.in_ok-add_frame-in-Body.ensures.filled c.add_frame.new.self.end c.in_ok-add_frame-in-Body.ensures.end
          ∙ ap (λ (s : LedgerContent). frames s.batches ++ drop c.add_frame.new.self.end x) (sym pushed);
      seen = c.fill.ensures.seen ∙ c.read_head.ensures.seen ∙ before.seen;
      images = same_on g.D.Disk c.args.file 0 _ _ _ _ (same_on g.D.Disk c.args.file 0 _ _ _ _ before.images c.read_head.ensures.images) c.fill.ensures.images;
      cause = search rules;
      writes = c.fill.ensures.writes ∙ c.read_head.ensures.writes ∙ before.writes;
    }

pub returns-in_err-add_frame-in-Body-clause-damaged : goal.returns-in_err-add_frame-in-Body-clause-damaged
returns-in_err-add_frame-in-Body-clause-damaged g c = λ entry is told.
    let before = c.loop-window.invariant in
    let x : List ℕ = g.D.Disk.seen c.args.disk.now c.args.file in
    let found = c.loop-window.found in
    let at_head : g.D.Disk.seen c.loop-window.disk c.args.file ≡ x = ap (λ (f : Files). f c.args.file) before.seen in
    let at_body : g.D.Disk.seen c.read_head.new.disk c.args.file ≡ x = ap (λ (f : Files). f c.args.file) c.read_head.ensures.seen ∙ at_head in
    let head : drop found.end x ≡ 1 ∷ (big_bytes 4 c.in-Body.len ++ drop 5 (drop found.end x)) =
    subst (λ (y : List ℕ). drop found.end y ≡ 1 ∷ (big_bytes 4 c.in-Body.len ++ drop 5 (drop found.end y))) at_head (rw c.in-Body.is at (c.in_ok-read_head.ensures.head told)) in
    let body_is : c.slice.result.now ≡ take c.in-Body.len (drop (found.end + 5) x) =
    c.slice.ensures.bytes (g.D.Disk.seen c.read_head.new.disk c.args.file) (c.in_ok-fill-in-Body.ensures.piece.read told) ∙ ap (λ (y : List ℕ). take c.in-Body.len (drop (found.end + 5) y)) at_body in
    let fits = rw c.in-Body.is at c.in_ok-read_head.ensures.fits in
    let raised : c.add_frame.result ≡ Err (Damaged entry) = search rules in
    damaged_frame x found.carrier.content.batches found.end c.in-Body.len c.slice.result.now (before.told told) head body_is (omega (arith, fits.1)) before.scanned.tied.each entry (c.add_frame.ensures.before entry raised) (c.add_frame.ensures.no_batch entry raised)
