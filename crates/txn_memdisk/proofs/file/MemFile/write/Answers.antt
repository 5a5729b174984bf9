use Rattle.std.proofs.Common.{◌≡◌, ◌+◌, ◌-◌, length, take, drop, ap, ◌∙◌, arith}
use Rattle.std.proofs.lemmas.List.{with_items_is}
use Rattle.txn_base.specs.Disk.{overwritten}
use Rattle.txn_memdisk.proofs.Bytes.{puts_back}
use Rattle.txn_memdisk.proofs.Undoing.{pending_push}
use Rattle.txn_memdisk.proofs.file.MemFile.write.Goals as goal

pub returns-clause-ok : goal.returns-clause-ok
returns-clause-ok c =
    let x = c.args.self.now.bytes.items in
    let bytes = c.args.bytes.now in
    let count : c.args.offset + length bytes - c.args.offset ≡ length bytes = omega arith in
    let old : c.in_ok-old.old.items ≡ take (length bytes) (drop c.args.offset x) =
    rw (c.deref.ensures.value, count) at (c.in_ok-old.ensures.items_if_clones_equal (λ a b e. e)) in
    let seen = overwritten c.args.offset bytes x in
    let long : length c.write_over.new.bytes ≡ c.args.self.now.bytes.len = omega (arith, c.write_over.auto.bytes, ap length c.deref_mut.ensures.value, c.args.self.now.bytes.ok.0) in
    let is = with_items_is c.args.self.now.bytes c.write_over.new.bytes long ∙ rw c.deref_mut.ensures.value at c.write_over.ensures in
    pending_push c.args.self.now.pending.items c.push.new.self.items _ x _ seen c.in_ok-push.ensures.items is
    (puts_back c.args.offset bytes c.in_ok-old.old.items x c.requires old)
