-- The lines of an input.
use Rattle.std.specs.Prelude.{ℕ, ◌==◌, ◌||◌, List, [], ◌∷◌, ◌++◌, fold, Bool, if◌then◌else◌}
use Rattle.std.specs.List.{list_all}

-- The lines that have ended, and the piece behind them.
abbrev pub Pieces : Type 0
Pieces = List (List ℕ) × List ℕ

-- These pieces and one more byte: a newline ends the piece, and another byte follows it.
abbrev pub cut_byte : Pieces → ℕ → Pieces
cut_byte p b = if b == 10 then (p.0 ++ p.1 ∷ [], []) else (p.0, p.1 ++ b ∷ [])

abbrev pub cut : List ℕ → Pieces
cut input = fold cut_byte ([], []) input

-- Of an input, the lines that a newline ends, and the piece after the last newline.
abbrev pub whole_lines : List ℕ → List (List ℕ)
whole_lines input = (cut input).0

abbrev pub last_piece : List ℕ → List ℕ
last_piece input = (cut input).1

-- A last piece that isn't empty is a line.
abbrev pub piece_lines : List ℕ → List (List ℕ)
piece_lines [] = []
piece_lines (b ∷ bs) = (b ∷ bs) ∷ []

-- The lines of an input.
abbrev pub lines_of : List ℕ → List (List ℕ)
lines_of input = whole_lines input ++ piece_lines (last_piece input)

-- The line has nothing but spaces, tabs and carriage returns.
abbrev pub is_blank : List ℕ → Bool
is_blank line = list_all (λ b. b == 32 || b == 9 || b == 13) line
