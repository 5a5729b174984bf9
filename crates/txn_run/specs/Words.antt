-- The words of a command line.
use Rattle.std.specs.Prelude.{ℕ, ◌==◌, ◌||◌, Bool, true, false, if◌then◌else◌, List, [], ◌∷◌, Result, Ok, Err, bytes_eq, codes}
use Rattle.txn_base.specs.Names.{is_topic_name}
use Rattle.txn_base.specs.declared.usage.Usage.{Usage}
use Rattle.txn_base.specs.declared.usage.Usage.TheVariants as usage

-- A word is empty or begins with -
abbrev pub is_bad : List ℕ → Bool
is_bad [] = true
is_bad (b ∷ bs) = b == 45

abbrev pub any_bad : List (List ℕ) → Bool
any_bad [] = false
any_bad (word ∷ words) = is_bad word || any_bad words

-- A name is a topic's, or it is refused.
abbrev pub topic_or_refusal : List ℕ → Result (List ℕ) Usage
topic_or_refusal name = if is_topic_name name then Ok name else Err (usage.BadName name)

-- `lines` and one name.
abbrev pub lines_with : List (List ℕ) → Result (List ℕ) Usage
lines_with [] = Err usage.Words
lines_with (command ∷ []) = Err usage.Words
lines_with (command ∷ name ∷ []) = if bytes_eq command (codes "lines") then topic_or_refusal name else Err usage.Words
lines_with (command ∷ name ∷ more ∷ words) = Err usage.Words

-- The topic that a command line names. A word that is empty or begins with - comes before a name without a topic's form.
unfoldable pub command_of : List (List ℕ) → Result (List ℕ) Usage
command_of words = if any_bad words then Err usage.Words else lines_with words
