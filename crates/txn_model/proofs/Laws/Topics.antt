-- Laws of a topic's list.

-- A marker stays, whatever follows.
pub use Rattle.txn_model.proofs.LawfulGrowth.{marker_stays}
-- The limit never falls, and what is visible begins what is visible later.
pub use Rattle.txn_model.proofs.Visible.{limit_longer, visible_longer}
-- The visible messages in one go, entry by entry: nothing from an undecided one on, and else what it shows and the rest.
pub use Rattle.txn_model.proofs.Visible.{shown, shown_by, visible_from, visible_split, visible_fused}
-- The limit lies within the list; before it stands no undecided message, and one stands at it.
pub use Rattle.txn_model.proofs.Visible.{limit_within, decided_below, undecided_at}
-- The places of the visible messages are the visible places of the skeletons.
pub use Rattle.txn_model.proofs.Visible.{places_are}
