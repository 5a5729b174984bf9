-- What stands after bytes have come.
use Rattle.std.proofs.Common.{◌≡◌, ℕ, ◌+◌, List, [], ◌∷◌, ◌++◌, length, fold, Bool, true, false, cond, ◌==◌, Option, inl, refl, sym, ap, ap₂, ◌∙◌, subst, ◌≤◌, length-append, append_assoc, append-nil, arith}
use Rattle.std.proofs.lemmas.Bool.Decides.{nat_tests}
use Rattle.std.specs.Io.KnownBytes.{Consumes}
use Rattle.std.proofs.KnownBytes.{Consumes-trans}
use Rattle.std.proofs.lemmas.List.Sums.{fold-append}
use Rattle.txn_base.specs.declared.limits.Limits.{Limits}
use Rattle.txn_model.specs.Cut.{Pieces, cut_byte, cut, whole_lines, last_piece, lines_of, piece_lines}
use Rattle.txn_model.specs.Replies.{RunState}
use Rattle.txn_run.specs.Kinds.{line_kind}
use Rattle.txn_run.specs.Told.{ToldLine, ToldFront, ToldFault, AnsweredLines, Broken, Stopped}
use Rattle.txn_run.specs.Going.{IsLineSoFar, Going, RunGoesOn, BreaksOff, StopsIn, HasTaken}
use Rattle.txn_run.specs.Run.{AreLines}
use Rattle.txn_run.specs.declared.partial_line.PartialLine.{PartialLine}
use Rattle.txn_run.proofs.Telling.{told_push, cut_off_push, fault_push}

cut_newline : (fed : List ℕ) → cut (fed ++ 10 ∷ []) ≡ (whole_lines fed ++ last_piece fed ∷ [], [])
cut_newline fed = fold-append cut_byte ([], []) fed (10 ∷ [])

pub going_newline : (limits : Limits) (first : RunState) (old : Option (List ℕ)) (fed : List ℕ) (p : PartialLine) (s : RunState) (h : Option (List ℕ)) (p' : PartialLine) (s' : RunState) (h' : Option (List ℕ))
    → Going limits first old fed p s h → ToldLine limits s (line_kind limits (last_piece fed)) s' h h' → IsLineSoFar limits.line p' [] → Going limits first old (fed ++ 10 ∷ []) p' s' h'
going_newline limits first old fed p s h p' s' h' so line next = record {
  piece = subst (IsLineSoFar limits.line p') (sym (ap (λ (x : Pieces). x.1) (cut_newline fed))) next;
  told = subst (λ ls. AnsweredLines limits first ls s' old h') (sym (ap (λ (x : Pieces). x.0) (cut_newline fed))) (told_push limits first (whole_lines fed) s (last_piece fed) s' old h h' so.told line);
}

pub broken_newline : (limits : Limits) (first : RunState) (old : Option (List ℕ)) (fed : List ℕ) (p : PartialLine) (s : RunState) (h : Option (List ℕ)) (s' : RunState) (h' : Option (List ℕ))
    → Going limits first old fed p s h → ToldFront limits s (line_kind limits (last_piece fed)) s' h h' → Broken limits first old (whole_lines (fed ++ 10 ∷ [])) s' h'
broken_newline limits first old fed p s h s' h' so line =
    (whole_lines fed ++ last_piece fed ∷ [], [], ap (λ (x : Pieces). x.0) (cut_newline fed) ∙ sym (append-nil _), cut_off_push limits first (whole_lines fed) s (last_piece fed) s' old h h' so.told line)

pub stopped_newline : (limits : Limits) (first : RunState) (old : Option (List ℕ)) (fed : List ℕ) (p : PartialLine) (s : RunState) (h : Option (List ℕ)) (s' : RunState) (h' : Option (List ℕ))
    → Going limits first old fed p s h → ToldFault limits s (line_kind limits (last_piece fed)) s' h h' → Stopped limits first old (whole_lines (fed ++ 10 ∷ [])) s' h'
stopped_newline limits first old fed p s h s' h' so line =
    (whole_lines fed ++ last_piece fed ∷ [], [], ap (λ (x : Pieces). x.0) (cut_newline fed) ∙ sym (append-nil _), fault_push limits first (whole_lines fed) s (last_piece fed) s' old h h' so.told line)

-- lines that have ended stay, however the bytes go on
abbrev LinesStay : List ℕ → List (List ℕ) → List ℕ → Type 0
LinesStay bs ls piece = (more : List (List ℕ)) × ((fold cut_byte (ls, piece) bs).0 ≡ ls ++ more)

grown_at : (e : Bool) (b : ℕ) (bs : List ℕ) (ls : List (List ℕ)) (piece : List ℕ) → ((ms : List (List ℕ)) (part : List ℕ) → LinesStay bs ms part)
    → (more : List (List ℕ)) × ((fold cut_byte (cond e (ls ++ piece ∷ [], []) (ls, piece ++ b ∷ [])) bs).0 ≡ ls ++ more)
grown_at true b bs ls piece later = let rest = later (ls ++ piece ∷ []) [] in (piece ∷ rest.0, rest.1 ∙ append_assoc ls (piece ∷ []) rest.0)
grown_at false b bs ls piece later = later ls (piece ++ b ∷ [])

grown : (bs : List ℕ) (ls : List (List ℕ)) (piece : List ℕ) → LinesStay bs ls piece
grown [] ls piece = ([], sym (append-nil ls))
grown (b ∷ bs) ls piece = grown_at (b == 10) b bs ls piece (grown bs)

pub whole_more : (xs ys : List ℕ) → (more : List (List ℕ)) × (whole_lines (xs ++ ys) ≡ whole_lines xs ++ more)
whole_more xs ys =
    let g = grown ys (whole_lines xs) (last_piece xs) in (g.0, ap (λ (x : Pieces). x.0) (fold-append cut_byte ([], []) xs ys) ∙ g.1)

pub broken_more : (limits : Limits) (first : RunState) (old : Option (List ℕ)) (xs ys : List ℕ) (s' : RunState) (h' : Option (List ℕ)) → Broken limits first old (whole_lines xs) s' h' → Broken limits first old (whole_lines (xs ++ ys)) s' h'
broken_more limits first old xs ys s' h' (lines, more, e, off) =
    let g = whole_more xs ys in (lines, more ++ g.0, g.1 ∙ ap (λ x. x ++ g.0) e ∙ append_assoc lines more g.0, off)

pub stopped_more : (limits : Limits) (first : RunState) (old : Option (List ℕ)) (xs ys : List ℕ) (s' : RunState) (h' : Option (List ℕ)) → Stopped limits first old (whole_lines xs) s' h' → Stopped limits first old (whole_lines (xs ++ ys)) s' h'
stopped_more limits first old xs ys s' h' (lines, more, e, off) =
    let g = whole_more xs ys in (lines, more ++ g.0, g.1 ∙ ap (λ x. x ++ g.0) e ∙ append_assoc lines more g.0, off)

-- ---- one stretch of bytes after another

pub goes_then : (limits : Limits) (xs ys : List ℕ) (p : PartialLine) (s : RunState) (h : Option (List ℕ)) (q : PartialLine) (u : RunState) (k : Option (List ℕ)) (p' : PartialLine) (s' : RunState) (h' : Option (List ℕ))
    → RunGoesOn limits xs p s h q u k → RunGoesOn limits ys q u k p' s' h' → RunGoesOn limits (xs ++ ys) p s h p' s' h'
goes_then limits xs ys p s h q u k p' s' h' one two first old fed so =
    subst (λ bs. Going limits first old bs p' s' h') (append_assoc fed xs ys) (two first old (fed ++ xs) (one first old fed so))

pub goes_breaks : (limits : Limits) (xs ys zs : List ℕ) (p : PartialLine) (s : RunState) (h : Option (List ℕ)) (q : PartialLine) (u : RunState) (k : Option (List ℕ)) (s' : RunState) (h' : Option (List ℕ))
    → RunGoesOn limits xs p s h q u k → BreaksOff limits ys q u k s' h' → BreaksOff limits (xs ++ (ys ++ zs)) p s h s' h'
goes_breaks limits xs ys zs p s h q u k s' h' one two first old fed so =
    let broken = broken_more limits first old ((fed ++ xs) ++ ys) zs s' h' (two first old (fed ++ xs) (one first old fed so)) in
    subst (λ bs. Broken limits first old (whole_lines bs) s' h') (append_assoc (fed ++ xs) ys zs ∙ append_assoc fed xs (ys ++ zs)) broken

pub goes_stops : (limits : Limits) (xs ys zs : List ℕ) (p : PartialLine) (s : RunState) (h : Option (List ℕ)) (q : PartialLine) (u : RunState) (k : Option (List ℕ)) (s' : RunState) (h' : Option (List ℕ))
    → RunGoesOn limits xs p s h q u k → StopsIn limits ys q u k s' h' → StopsIn limits (xs ++ (ys ++ zs)) p s h s' h'
goes_stops limits xs ys zs p s h q u k s' h' one two first old fed so =
    let stopped = stopped_more limits first old ((fed ++ xs) ++ ys) zs s' h' (two first old (fed ++ xs) (one first old fed so)) in
    subst (λ bs. Stopped limits first old (whole_lines bs) s' h') (append_assoc (fed ++ xs) ys zs ∙ append_assoc fed xs (ys ++ zs)) stopped

pub goes_nowhere : (limits : Limits) (p : PartialLine) (s : RunState) (h : Option (List ℕ)) → RunGoesOn limits [] p s h p s h
goes_nowhere limits p s h first old fed so = subst (λ bs. Going limits first old bs p s h) (sym (append-nil fed)) so

-- ---- the end of the input

piece_none : (piece : List ℕ) → (length piece == 0) ≡ true → piece_lines piece ≡ []
piece_none [] h = refl
piece_none (b ∷ bs) h = absurd (grind (arith, nat_tests))

piece_some : (piece : List ℕ) → (length piece == 0) ≡ false → piece_lines piece ≡ piece ∷ []
piece_some [] h = absurd (grind (arith, nat_tests))
piece_some (b ∷ bs) h = refl

pub told_all : (limits : Limits) (first : RunState) (old : Option (List ℕ)) (fed : List ℕ) (p : PartialLine) (s : RunState) (h : Option (List ℕ)) → Going limits first old fed p s h → (length (last_piece fed) == 0) ≡ true → AnsweredLines limits first (lines_of fed) s old h
told_all limits first old fed p s h so e = subst (λ ls. AnsweredLines limits first ls s old h) (sym (ap (λ x. whole_lines fed ++ x) (piece_none (last_piece fed) e) ∙ append-nil (whole_lines fed))) so.told

pub told_last : (limits : Limits) (first : RunState) (old : Option (List ℕ)) (fed : List ℕ) (p : PartialLine) (s : RunState) (h : Option (List ℕ)) (s' : RunState) (h' : Option (List ℕ))
    → Going limits first old fed p s h → (length (last_piece fed) == 0) ≡ false → ToldLine limits s (line_kind limits (last_piece fed)) s' h h' → AnsweredLines limits first (lines_of fed) s' old h'
told_last limits first old fed p s h s' h' so e line =
    subst (λ ls. AnsweredLines limits first ls s' old h') (sym (ap (λ x. whole_lines fed ++ x) (piece_some (last_piece fed) e))) (told_push limits first (whole_lines fed) s (last_piece fed) s' old h h' so.told line)

pub broken_last : (limits : Limits) (first : RunState) (old : Option (List ℕ)) (fed : List ℕ) (p : PartialLine) (s : RunState) (h : Option (List ℕ)) (s' : RunState) (h' : Option (List ℕ))
    → Going limits first old fed p s h → (length (last_piece fed) == 0) ≡ false → ToldFront limits s (line_kind limits (last_piece fed)) s' h h' → Broken limits first old (lines_of fed) s' h'
broken_last limits first old fed p s h s' h' so e line =
    (whole_lines fed ++ last_piece fed ∷ [], [], ap (λ x. whole_lines fed ++ x) (piece_some (last_piece fed) e) ∙ sym (append-nil _), cut_off_push limits first (whole_lines fed) s (last_piece fed) s' old h h' so.told line)

pub stopped_last : (limits : Limits) (first : RunState) (old : Option (List ℕ)) (fed : List ℕ) (p : PartialLine) (s : RunState) (h : Option (List ℕ)) (s' : RunState) (h' : Option (List ℕ))
    → Going limits first old fed p s h → (length (last_piece fed) == 0) ≡ false → ToldFault limits s (line_kind limits (last_piece fed)) s' h h' → Stopped limits first old (lines_of fed) s' h'
stopped_last limits first old fed p s h s' h' so e line =
    (whole_lines fed ++ last_piece fed ∷ [], [], ap (λ x. whole_lines fed ++ x) (piece_some (last_piece fed) e) ∙ sym (append-nil _), fault_push limits first (whole_lines fed) s (last_piece fed) s' old h h' so.told line)

-- ---- at an equal list of bytes

pub goes_along : (limits : Limits) (xs ys : List ℕ) (p : PartialLine) (s : RunState) (h : Option (List ℕ)) (p' : PartialLine) (s' : RunState) (h' : Option (List ℕ)) → xs ≡ ys → RunGoesOn limits xs p s h p' s' h' → RunGoesOn limits ys p s h p' s' h'
goes_along limits xs ys p s h p' s' h' e = subst (λ zs. RunGoesOn limits zs p s h p' s' h') e

pub breaks_along : (limits : Limits) (xs ys : List ℕ) (p : PartialLine) (s : RunState) (h : Option (List ℕ)) (s' : RunState) (h' : Option (List ℕ)) → xs ≡ ys → BreaksOff limits xs p s h s' h' → BreaksOff limits ys p s h s' h'
breaks_along limits xs ys p s h s' h' e = subst (λ zs. BreaksOff limits zs p s h s' h') e

pub stops_along : (limits : Limits) (xs ys : List ℕ) (p : PartialLine) (s : RunState) (h : Option (List ℕ)) (s' : RunState) (h' : Option (List ℕ)) → xs ≡ ys → StopsIn limits xs p s h s' h' → StopsIn limits ys p s h s' h'
stops_along limits xs ys p s h s' h' e = subst (λ zs. StopsIn limits zs p s h s' h') e

-- ---- a run that takes more bytes

pub reads_more : (limits : Limits) (s : RunState) (old left : Option (List ℕ)) (taken : ℕ) (p : PartialLine) (u : RunState) (mid left' : Option (List ℕ)) (bytes : List ℕ) (n : ℕ) (left'' : Option (List ℕ)) (p' : PartialLine) (v : RunState) (new : Option (List ℕ))
    → HasTaken limits s old left taken p u mid left' → Consumes left' left'' bytes → length bytes ≡ n → RunGoesOn limits bytes p u mid p' v new → HasTaken limits s old left (taken + n) p' v new left''
reads_more limits s old left taken p u mid left' bytes n left'' p' v new r came long goes = record {
  fed = r.fed ++ bytes;
  count = length-append r.fed bytes ∙ ap₂ (λ a b. a + b) r.count long;
  came = Consumes-trans left left' left'' r.fed bytes r.came came;
  going = goes s old r.fed r.going;
}

pub reads_broken : (limits : Limits) (input : ℕ) (s : RunState) (old left : Option (List ℕ)) (taken : ℕ) (p : PartialLine) (u : RunState) (mid left' : Option (List ℕ)) (bytes : List ℕ) (n : ℕ) (left'' : Option (List ℕ)) (v : RunState) (new : Option (List ℕ))
    → HasTaken limits s old left taken p u mid left' → Consumes left' left'' bytes → length bytes ≡ n → taken + n ≤ input → BreaksOff limits bytes p u mid v new
    → (all : List ℕ) × Consumes left left'' all × ((length all ≤ input) × (lines : List (List ℕ)) × AreLines limits all left'' lines × Broken limits s old lines v new)
reads_broken limits input s old left taken p u mid left' bytes n left'' v new r came long within breaks =
    let all = r.fed ++ bytes in
    let count : length all ≡ taken + n = length-append r.fed bytes ∙ ap₂ (λ a b. a + b) r.count long in
    (all, Consumes-trans left left' left'' r.fed bytes r.came came, (omega (arith, count), whole_lines all, inl refl, breaks s old r.fed r.going))

pub reads_stopped : (limits : Limits) (input : ℕ) (s : RunState) (old left : Option (List ℕ)) (taken : ℕ) (p : PartialLine) (u : RunState) (mid left' : Option (List ℕ)) (bytes : List ℕ) (n : ℕ) (left'' : Option (List ℕ)) (v : RunState) (new : Option (List ℕ))
    → HasTaken limits s old left taken p u mid left' → Consumes left' left'' bytes → length bytes ≡ n → taken + n ≤ input → StopsIn limits bytes p u mid v new
    → (all : List ℕ) × Consumes left left'' all × ((length all ≤ input) × (lines : List (List ℕ)) × AreLines limits all left'' lines × Stopped limits s old lines v new)
reads_stopped limits input s old left taken p u mid left' bytes n left'' v new r came long within stops =
    let all = r.fed ++ bytes in
    let count : length all ≡ taken + n = length-append r.fed bytes ∙ ap₂ (λ a b. a + b) r.count long in
    (all, Consumes-trans left left' left'' r.fed bytes r.came came, (omega (arith, count), whole_lines all, inl refl, stops s old r.fed r.going))
