-- The words that the program is given.
use Rattle.std.specs.Prelude.{◌≡◌, ℕ, ◌==◌, not, if◌then◌else◌, Bool, true, false, List, [], ◌∷◌, Result, Err}
use Rattle.txn_base.specs.declared.usage.Usage.{Usage}
use Rattle.txn_base.specs.declared.usage.Usage.TheVariants as usage
use Rattle.txn_run.specs.Words.{command_of}

-- A word that isn't empty, and doesn't begin with -
abbrev pub is_folder : List ℕ → Bool
is_folder [] = false
is_folder (b ∷ bs) = not (b == 45)

-- The second of the words, the first of which is the program's name, is a folder.
abbrev pub has_folder : List (List ℕ) → Bool
has_folder [] = false
has_folder (program ∷ []) = false
has_folder (program ∷ folder ∷ words) = is_folder folder

-- These are the folder and the words behind it.
abbrev pub IsSplit : List (List ℕ) → List ℕ → List (List ℕ) → Type 0
IsSplit [] folder words = ⊥
IsSplit (program ∷ []) folder words = ⊥
IsSplit (program ∷ first ∷ more) folder words = (folder ≡ first) × (words ≡ more)

-- What the words behind the program's name come to.
abbrev pub given : List (List ℕ) → Result (List ℕ) Usage
given [] = Err usage.Words
given (program ∷ []) = Err usage.Words
given (program ∷ folder ∷ words) = if is_folder folder then command_of words else Err usage.Words
