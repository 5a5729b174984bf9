use Rattle.std.proofs.Common.{refl, inl}
use Rattle.txn_memdisk.proofs.Since.{changed, unchanged}
use Rattle.txn_memdisk.proofs.Images.{size_image}
use Rattle.txn_memdisk.proofs.disk.MemDiskDisk.resize.Goals as goal

pub returns-in-Ok-clause-images : goal.returns-in-Ok-clause-images
returns-in-Ok-clause-images c =
    changed _ c.args.self.now _ c.in-Ok.ensures.past (size_image _ _ c.args.file c.args.size c.in-Ok.ensures.ok)

pub returns-then-fires_at-clause-images : goal.returns-then-fires_at-clause-images
returns-then-fires_at-clause-images c = unchanged _ c.args.self.now _ (λ f. record { here = inl refl; others = λ other apart. refl }) (λ id. refl) refl

pub returns-then-size-gt-MAX_SIZE-clause-images : goal.returns-then-size-gt-MAX_SIZE-clause-images
returns-then-size-gt-MAX_SIZE-clause-images c = unchanged _ c.args.self.now _ (λ f. record { here = inl refl; others = λ other apart. refl }) (λ id. refl) refl

pub returns-in-Err-clause-images : goal.returns-in-Err-clause-images
returns-in-Err-clause-images c = unchanged _ c.args.self.now _ (λ f. record { here = inl refl; others = λ other apart. refl }) c.in-Err.ensures.err c.in-Err.ensures.past_err
