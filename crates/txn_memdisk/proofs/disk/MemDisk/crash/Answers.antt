use Rattle.std.proofs.Common.{List, subst}
use Rattle.txn_memdisk.specs.declared.file.MemFile.{MemFile}
use Rattle.txn_memdisk.specs.Crash.{AreCrashedFrom}
use Rattle.txn_memdisk.proofs.Mirrored.{mirrored, crash_image, crash_only}
use Rattle.txn_memdisk.proofs.disk.MemDisk.crash.Goals as goal

pub returns-clause-left : goal.returns-clause-left
returns-clause-left c =
    let m = subst (λ (l : List MemFile). AreCrashedFrom c.args.choice l c.in_ok-files.files.items) c.deref.ensures.value c.in_ok-files.ensures in
    mirrored c.args.choice c.args.self.now.files.items c.in_ok-files.files.items m

pub returns-clause-image : goal.returns-clause-image
returns-clause-image c =
    let m = subst (λ (l : List MemFile). AreCrashedFrom c.args.choice l c.in_ok-files.files.items) c.deref.ensures.value c.in_ok-files.ensures in
    crash_image c.args.choice c.args.self.now.files.items c.in_ok-files.files.items m

pub returns-clause-only : goal.returns-clause-only
returns-clause-only c =
    let m = subst (λ (l : List MemFile). AreCrashedFrom c.args.choice l c.in_ok-files.files.items) c.deref.ensures.value c.in_ok-files.ensures in
    crash_only c.args.choice c.args.self.now.files.items c.in_ok-files.files.items m
