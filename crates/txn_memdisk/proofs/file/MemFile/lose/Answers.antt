use Rattle.std.proofs.Common.{refl, ap, ◌∙◌}
use Rattle.txn_memdisk.specs.Change.{bytes_put_back}
use Rattle.txn_memdisk.proofs.Bytes.{puts_nothing}
use Rattle.txn_memdisk.proofs.Undoing.{pending_push}
use Rattle.txn_memdisk.proofs.file.MemFile.lose.Goals as goal

pub returns-clause-ok : goal.returns-clause-ok
returns-clause-ok c =
    let x = c.args.self.now.bytes.items in
    pending_push c.args.self.now.pending.items c.push.new.self.items _ x x x c.in_ok-push.ensures.items refl
    (ap (λ old. bytes_put_back c.args.offset old x) c.new.ensures.items ∙ puts_nothing c.args.offset x)
