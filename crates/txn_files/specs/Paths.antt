-- Where the files of a disk lie.
use Rattle.std.specs.Prelude.{ℕ, List, ◌++◌, codes}
use Rattle.txn_base.specs.declared.file_id.FileId.{FileId}
use Rattle.txn_base.specs.FileName.{file_name}

-- A file's path: the folder's, / and its name.
abbrev pub path_of : List ℕ → FileId → List ℕ
path_of folder file = folder ++ codes "/" ++ file_name file
