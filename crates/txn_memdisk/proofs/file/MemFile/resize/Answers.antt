use Rattle.std.proofs.Common.{◌≡◌, ℕ, ◌++◌, ◌∷◌, [], ◌-◌, List, length, min, take, drop, ap, ◌∙◌, arith}
use Rattle.std.specs.Prelude.{replicate}
use Rattle.txn_base.specs.Disk.{resized}
use Rattle.txn_memdisk.specs.declared.change.Pending.{Pending}
use Rattle.txn_memdisk.specs.declared.change.Change.TheVariants.{Sized}
use Rattle.txn_memdisk.specs.declared.change.Undo.TheVariants.{Size}
use Rattle.txn_memdisk.proofs.Bytes.{from_on, sizes_back}
use Rattle.txn_memdisk.proofs.Undoing.{pending_push}
use Rattle.txn_memdisk.proofs.file.MemFile.resize.Goals as goal

pub returns-clause-ok : goal.returns-clause-ok
returns-clause-ok c =
    let x = c.args.self.now.bytes.items in
    let p : Pending = record { change = Sized c.args.size; undo = Size c.len-before.result c.in_ok-cut.cut } in
    let before : c.len-before.result ≡ length x = omega (arith, c.len-before.ensures, c.args.self.now.bytes.ok.0) in
    let kept : c.min-kept.result ≡ min (length x) c.args.size = c.min-kept.ensures ∙ ap (λ (n : ℕ). min n c.args.size) before in
    let cut : c.in_ok-cut.cut.items ≡ drop (min (length x) c.args.size) x =
    rw c.deref.ensures.value at (c.in_ok-cut.ensures.items_if_clones_equal (λ a b e. e)) ∙ from_on c.min-kept.result x ∙ ap (λ (n : ℕ). drop n x) kept in
    let after : c.resize.new.self.items ≡ resized c.args.size x = c.in_ok-resize.ensures.items ∙ ap (λ (n : ℕ). take c.args.size x ++ replicate (c.args.size - n) 0) c.args.self.now.bytes.ok.0 in
    let pushed = c.in_ok-push.ensures.items ∙ ap (λ (l : List Pending). l ++ p ∷ []) c.in_ok-reserve.ensures.items in
    pending_push c.args.self.now.pending.items c.push.new.self.items p x c.resize.new.self.items (resized c.args.size x) pushed after
    (ap (λ (n : ℕ). take n (resized c.args.size x) ++ c.in_ok-cut.cut.items) before ∙ sizes_back c.args.size c.in_ok-cut.cut.items x cut)
