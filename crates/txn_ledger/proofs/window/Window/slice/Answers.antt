use Rattle.std.proofs.Common.{◌≡◌, ℕ, ◌+◌, ◌-◌, List, length, take, drop, sym, ap, ◌∙◌, ◌≤◌, arith}
use Rattle.std.proofs.lemmas.List.{drop-take, drop-drop, take-take}
use Rattle.txn_ledger.proofs.window.Window.slice.Goals as goal

-- a piece of a piece
piece : (file bytes : List ℕ) (at from count skip len : ℕ) → bytes ≡ take len (drop at file) → from ≡ at + skip → skip + count ≤ len → take count (drop skip bytes) ≡ take count (drop from file)
piece file bytes at from count skip len are is enough =
    let whole : len ≡ skip + (len - skip) = omega arith in
    ap (λ (l : List ℕ). take count (drop skip l)) (are ∙ ap (λ (n : ℕ). take n (drop at file)) whole)
    ∙ ap (λ (l : List ℕ). take count l) (drop-take skip (len - skip) (drop at file))
    ∙ take-take count (len - skip) (drop skip (drop at file)) (omega arith)
    ∙ ap (λ (l : List ℕ). take count l) (drop-drop skip at file)
    ∙ ap (λ (n : ℕ). take count (drop n file)) (sym is)

pub returns-clause-bytes : goal.returns-clause-bytes
returns-clause-bytes c = λ file are.
    c.split_at-2.ensures.front ∙ ap (λ (l : List ℕ). take c.args.count l) (c.split_at.ensures.back ∙ ap (λ (l : List ℕ). drop (c.args.from - c.args.self.now.at) l) c.as_slice.ensures.value)
    ∙ piece file c.args.self.now.bytes.items c.args.self.now.at c.args.from c.args.count (c.args.from - c.args.self.now.at) (length c.args.self.now.bytes.items) are (omega arith) (omega arith)
