-- The state from which the lines begin: the world that was read, with the new names.
use Rattle.std.specs.Prelude.{ℕ, ◌+◌, Bool, if◌then◌else◌, List, [], ◌∷◌, ◌++◌, length, map, drop}
use Rattle.txn_base.specs.declared.txn.TxnId.{TxnId}
use Rattle.txn_base.specs.Names.{is_sub}
use Rattle.txn_model.specs.declared.world.World.{World}
use Rattle.txn_model.specs.Words.{nowhere}
use Rattle.txn_model.specs.Names.{has_name}
use Rattle.txn_model.specs.Coord.{status_of}
use Rattle.txn_model.specs.Deadlines.{transactions, is_undriven, low_of}
use Rattle.txn_model.specs.World.{log_of, no_flights}
use Rattle.txn_model.specs.Shape.{numbered, is_topic}
use Rattle.txn_model.specs.Table.{TableState}
use Rattle.txn_model.specs.Plain.{drive_of}

-- The catalog with these words behind it, but for those that it has by then.
abbrev pub names_with : List (List ℕ) → List (List ℕ) → List (List ℕ)
names_with names [] = names
names_with names (word ∷ words) = names_with (if has_name names word then names else names ++ word ∷ []) words

-- From k on, an empty list for each of these names that passes the test, beside its number.
abbrev pub lists_for : {E : Type 0} → (List ℕ → Bool) → ℕ → List (List ℕ) → List (ℕ × List E)
lists_for {E} test k names = map (λ (p : ℕ). let none : List E = [] in (p, none)) (numbered test k names)

-- The world with this catalog, which begins with its own, and an empty list for each new name.
abbrev pub world_named : World → List (List ℕ) → World
world_named w names =
    record {
      names = names;
      coord = w.coord;
      topics = w.topics ++ lists_for is_topic (length w.names + 1) (drop (length w.names) names);
      subs = w.subs ++ lists_for is_sub (length w.names + 1) (drop (length w.names) names);
    }

-- The world without names and entries.
abbrev pub no_world : World
no_world = record { names = []; coord = []; topics = []; subs = [] }

-- The table over a world, where nothing was told yet.
abbrev pub table_over : World → TableState
table_over w = record { world = w; flights = no_flights; unrebuilt = nowhere; latest = 0; opened_low = low_of w.coord; given = λ s. nowhere }

-- The table over empty lists of parts with these names.
abbrev pub fresh : List (List ℕ) → TableState
fresh names = table_over (world_named no_world names)

-- The first state, over the world that was read and the names of the command line, where opening drives nothing.
abbrev pub first_state : World → List (List ℕ) → TableState
first_state w words = table_over (world_named w (names_with w.names words))

-- Each of these transactions that is decided and not closed is driven, one after another.
abbrev pub all_driven : List TxnId → TableState → TableState
all_driven [] t = t
all_driven (x ∷ xs) t = all_driven xs (if is_undriven (status_of (log_of t.world) x) then (drive_of x t).1 else t)

-- The first state where opening drives what was left undriven. The low watermark is that before the drive.
abbrev pub opened : World → List (List ℕ) → TableState
opened w words = all_driven (transactions w.coord) (first_state w words)
