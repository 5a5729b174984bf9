-- What a crash leaves of one file doesn't depend on what it leaves of the others.
use Rattle.std.specs.Prelude.{ℕ, Bool, true, false, if◌then◌else◌, List}
use Rattle.txn_base.specs.declared.file_id.FileId.{FileId}
use Rattle.txn_base.specs.Disk.{Files, mixed, same_file}
use Rattle.txn_memdisk.specs.declared.file.MemFile.{MemFile}
use Rattle.txn_memdisk.specs.Files.{Entry, entry_in, IsImage, IsImageOf}

either_image : (e : Entry) (x y : List ℕ) (b : Bool) → IsImageOf e x → IsImageOf e y → IsImageOf e (if b then x else y)
either_image e x y true at_x at_y = at_x
either_image e x y false at_x at_y = at_y

pub mixed_image : (files : List MemFile) (c d : Files) (file : FileId) → IsImage files c → IsImage files d → IsImage files (mixed file c d)
mixed_image files c d file at_c at_d id = either_image (entry_in files id) (c id) (d id) (same_file id file) (at_c id) (at_d id)
