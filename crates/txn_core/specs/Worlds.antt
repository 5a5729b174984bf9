-- A world and what is in flight over it, as lists of skeletons: that of part p at p, where the coordinator is part 0.
use Rattle.std.specs.Prelude.{ℕ, ◌==◌, if◌then◌else◌, List}
use Rattle.txn_base.specs.declared.core_entry.CoreEntry.{CoreEntry}
use Rattle.txn_model.specs.declared.world.World.{World}
use Rattle.txn_model.specs.Skeletons.{coord_skeletons}
use Rattle.txn_model.specs.World.{Flights, log_of, part_skeletons}
use Rattle.txn_model.specs.Allowed.{flight_skeletons}

abbrev pub skeletons_of : World → ℕ → List CoreEntry
skeletons_of w p = if p == 0 then log_of w else part_skeletons w p

abbrev pub flights_of : World → Flights → ℕ → List CoreEntry
flights_of w f p = if p == 0 then coord_skeletons f.coord else flight_skeletons w f p
