-- How the program ends.
use Rattle.std.specs.Prelude.{ℕ, List, [], ◌++◌, codes}
use Rattle.std.specs.Fmt.{decimal}
use Rattle.txn_base.specs.FileName.{file_name}
use Rattle.txn_run.specs.declared.status.RunStatus.{RunStatus}
use Rattle.txn_run.specs.declared.status.RunStatus.TheVariants as status

-- The program's status.
abbrev pub exit_status : RunStatus → ℕ
exit_status status.Ok = 0
exit_status (status.Usage u) = 1
exit_status (status.Damaged file entry) = 2
exit_status status.ReadFault = 3
exit_status status.WriteFault = 4
exit_status status.DiskFault = 5
exit_status status.NoMemory = 6
exit_status status.TooMuch = 7

-- The line that it says: nothing where all went well; of damage the name of the file and the entry.
abbrev pub line_of : RunStatus → List ℕ
line_of status.Ok = []
line_of (status.Usage u) = codes "usage\n"
line_of (status.Damaged file entry) = codes "damaged " ++ file_name file ++ codes " " ++ decimal entry ++ codes "\n"
line_of status.ReadFault = codes "read fault\n"
line_of status.WriteFault = codes "write fault\n"
line_of status.DiskFault = codes "disk fault\n"
line_of status.NoMemory = codes "no memory\n"
line_of status.TooMuch = codes "too much\n"
