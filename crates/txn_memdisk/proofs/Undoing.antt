-- Changes that are undone.
use Rattle.std.proofs.Common.{◌≡◌, ℕ, ◌+◌, ◌-◌, ◌<◌, ◌≤◌, List, [], ◌∷◌, ◌++◌, length, take, get_or, refl, sym, ◌∙◌, ap, arith}
use Rattle.std.proofs.lemmas.List.{take_more, map-append}
use Rattle.txn_memdisk.specs.declared.change.Pending.{Pending}
use Rattle.txn_memdisk.specs.Change.{undo_one, undone, changes_of}
use Rattle.txn_memdisk.specs.Files.{Entry}

-- the last change is undone first
pub undone_push : (ps : List Pending) (p : Pending) (x : List ℕ) → undone (ps ++ p ∷ []) x ≡ undone ps (undo_one p.undo x)
undone_push [] p x = refl
undone_push (q ∷ ps) p x = ap (undo_one q.undo) (undone_push ps p x)

one_less : (ps : List Pending) (j : ℕ) (d : Pending) (x y : List ℕ) → j < length ps → y ≡ undo_one (get_or ps j d).undo x → undone (take j ps) y ≡ undone (take (j + 1) ps) x
one_less ps j d x y below makes =
    ap (undone (take j ps)) makes ∙ sym (undone_push (take j ps) (get_or ps j d) x) ∙ ap (λ (qs : List Pending). undone qs x) (sym (take_more ps j d below))

-- one change less is left to undo
pub undone_less : (ps : List Pending) (i : ℕ) (d : Pending) (x y : List ℕ) → 0 < i → i ≤ length ps → y ≡ undo_one (get_or ps (i - 1) d).undo x → undone (take (i - 1) ps) y ≡ undone (take i ps) x
undone_less ps i d x y some below makes =
    one_less ps (i - 1) d x y (omega arith) makes ∙ ap (λ (k : ℕ). undone (take k ps) x) (let e : i - 1 + 1 ≡ i = omega arith in e)

-- One more change, which is undone to what there was.
pub pending_push : (ps all : List Pending) (p : Pending) (before after seen : List ℕ) → all ≡ ps ++ p ∷ [] → after ≡ seen → undo_one p.undo seen ≡ before
    → ◌≡◌ {A = Entry} (record { seen = after; sure = undone all after; pending = changes_of all }) (record { seen = seen; sure = undone ps before; pending = changes_of ps ++ p.change ∷ [] })
pending_push ps all p before after seen pushed is undoes = λ i. record { seen = is i; sure = sure i; pending = more i }
  where
    sure : undone all after ≡ undone ps before
    sure = ap (λ (qs : List Pending). undone qs after) pushed ∙ undone_push ps p after ∙ ap (λ (x : List ℕ). undone ps (undo_one p.undo x)) is ∙ ap (undone ps) undoes

    more : changes_of all ≡ changes_of ps ++ p.change ∷ []
    more = ap changes_of pushed ∙ map-append (λ (q : Pending). q.change) ps (p ∷ [])
