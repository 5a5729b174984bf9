-- The first state of the table over a world that has the names already.
use Rattle.std.proofs.Common.{◌≡◌, ℕ, ◌+◌, ◌||◌, Bool, true, if◌then◌else◌, List, [], ◌∷◌, ◌++◌, length, drop, refl, sym, ap, ◌∙◌, arith, append_assoc, append-nil}
use Rattle.std.specs.Prelude.{bytes_eq}
use Rattle.std.proofs.lemmas.List.{drop_all}
use Rattle.std.proofs.lemmas.Slice.Eq.{bytes_eq-Decides}
use Rattle.txn_base.specs.Names.{is_sub}
use Rattle.txn_model.specs.declared.world.World.{World}
use Rattle.txn_model.specs.Names.{has_name}
use Rattle.txn_model.specs.Opening.{names_with, lists_for, world_named, first_state, table_over}
use Rattle.txn_model.specs.Shape.{is_topic}

-- a name is among those with it
has_at : (front : List (List ℕ)) (name : List ℕ) (more : List (List ℕ)) → has_name (front ++ name ∷ more) name ≡ true
has_at [] name more = ap (λ (b : Bool). b || has_name more name) ((bytes_eq-Decides name name).1 refl)
has_at (other ∷ front) name more = either (bytes_eq name other) (has_name (front ++ name ∷ more) name) (has_at front name more)
  where
    either : (a b : Bool) → b ≡ true → (a || b) ≡ true
    either a b e = grind (arith, e)

-- no name of a front is new
known_names : (front names : List (List ℕ)) → names_with (front ++ names) names ≡ front ++ names
known_names front [] = refl
known_names front (name ∷ names) =
    ap (λ (b : Bool). names_with (if b then front ++ name ∷ names else (front ++ name ∷ names) ++ name ∷ []) names) (has_at front name names)
    ∙ ap (λ (ns : List (List ℕ)). names_with ns names) (sym (append_assoc front (name ∷ []) names))
    ∙ known_names (front ++ name ∷ []) names
    ∙ append_assoc front (name ∷ []) names

no_new : {E : Type 0} (test : List ℕ → Bool) (k : ℕ) (names : List (List ℕ)) (ls : List (ℕ × List E)) → ls ++ lists_for test k (drop (length names) names) ≡ ls
no_new {E} test k names ls = ap (λ (new : List (List ℕ)). ls ++ lists_for {E = E} test k new) (drop_all (length names) names (omega arith)) ∙ append-nil ls

world_same : (w : World) → world_named w w.names ≡ w
world_same w =
    let topics : w.topics ++ lists_for is_topic (length w.names + 1) (drop (length w.names) w.names) ≡ w.topics = no_new is_topic (length w.names + 1) w.names w.topics in
    let subs : w.subs ++ lists_for is_sub (length w.names + 1) (drop (length w.names) w.names) ≡ w.subs = no_new is_sub (length w.names + 1) w.names w.subs in
    λ i. record { names = w.names; coord = w.coord; topics = topics i; subs = subs i }

pub first_table : (w : World) (names : List (List ℕ)) → w.names ≡ names → first_state w names ≡ table_over w
first_table w names named =
    ap (first_state w) (sym named)
    ∙ ap (λ (ns : List (List ℕ)). table_over (world_named w ns)) (known_names [] w.names)
    ∙ ap table_over (world_same w)
