-- How the files of a disk are named in its folder.
use Rattle.std.specs.Prelude.{ℕ, ◌-◌, ◌^◌, false, List, [], ◌++◌, codes}
use Rattle.std.specs.Fmt.{decimal, padded_integral, format_spec}
use Rattle.txn_base.specs.declared.file_id.FileId.{FileId}

-- A number in decimal digits, with zeros before it up to this width.
abbrev pub with_zeros : ℕ → ℕ → List ℕ
with_zeros width n = padded_integral (format_spec 32 0 4 width (2 ^ 64 - 1)) false [] (decimal n)

-- p and the part in two digits, - and r and the row in ten
abbrev pub file_name : FileId → List ℕ
file_name file = codes "p" ++ with_zeros 2 file.part ++ codes "-r" ++ with_zeros 10 file.row
