use Rattle.std.proofs.Common.{◌≡◌}
use Rattle.txn_memdisk.proofs.Since.{changed}
use Rattle.txn_memdisk.proofs.Images.{put_image}
use Rattle.txn_memdisk.proofs.disk.MemDisk.put_file.Goals as goal

pub returns-clause-images : goal.returns-clause-images
returns-clause-images c =
    let same : c.in_ok-bytes.bytes.items ≡ c.args.bytes.now = c.in_ok-bytes.ensures.items_if_clones_equal (λ a b e. e) in
    changed _ c.args.self.now _ c.in_ok-put.ensures.past (put_image _ _ c.args.file c.args.bytes.now (λ id. rw same at (c.in_ok-put.ensures.ok id)))
