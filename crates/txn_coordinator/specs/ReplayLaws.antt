-- What holds of the entries that a replay takes.
use Rattle.std.proofs.Common.{◌≡◌, ℕ, true, ◌&&◌, arith, List, [], ◌∷◌, ◌++◌, length-append, sym, ap, ◌∙◌, subst}
use Rattle.std.proofs.lemmas.List.Elements.{All-push}
use Rattle.std.proofs.lemmas.List.{map-append, get_or_append_left}
use Rattle.txn_base.specs.declared.entry.CoordEntry.{CoordEntry}
use Rattle.txn_base.specs.Frames.{Record}
use Rattle.txn_base.specs.Records.{IsCoordEntry, IsCoordRecord}
use Rattle.txn_model.specs.Words.{all_follow}
use Rattle.txn_model.specs.Skeletons.{coord_skeleton, coord_skeletons}
use Rattle.txn_model.specs.Coord.{coord_allows}
use Rattle.txn_model.proofs.Laws.Lists.{all_follow-append}
use Rattle.txn_model.proofs.Laws.Tests.{and_l, and_r}
use Rattle.txn_coordinator.specs.Mending.{AreNamedEntries}
use Rattle.txn_table.specs.Table.{may_follow}
use Rattle.txn_table.proofs.Laws.{lawful_more}

-- One more, which may follow; and one less.
pub named_more : (n : ℕ) (c : List CoordEntry) (bytes : Record) (e : CoordEntry) → AreNamedEntries n c → IsCoordRecord bytes e → may_follow n c e ≡ true → AreNamedEntries n (c ++ e ∷ [])
named_more n c bytes e are is h = record { few = are.few; entries = All-push IsCoordEntry c e are.entries is.fits; lawful = lawful_more n c e are.lawful h }

pub named_ends : (n : ℕ) (c : List CoordEntry) (e : CoordEntry) → AreNamedEntries n (c ++ e ∷ []) → AreNamedEntries n c × (may_follow n c e ≡ true)
named_ends n c e are =
    let sk = coord_skeletons c in
    let all : (all_follow (coord_allows n) [] sk && (coord_allows n sk (coord_skeleton e) && true)) ≡ true =
    sym (ap (all_follow (coord_allows n) []) (map-append coord_skeleton c (e ∷ [])) ∙ all_follow-append (coord_allows n) [] sk (coord_skeleton e ∷ [])) ∙ are.lawful in (
      record {
        few = are.few;
        entries = λ k d lt. subst IsCoordEntry (get_or_append_left c (e ∷ []) d k lt) (are.entries k d (omega (arith, lt, length-append c (e ∷ []))));
        lawful = and_l (all_follow (coord_allows n) [] sk) (coord_allows n sk (coord_skeleton e) && true) all;
      },
      and_l (coord_allows n sk (coord_skeleton e)) true (and_r (all_follow (coord_allows n) [] sk) (coord_allows n sk (coord_skeleton e) && true) all),
    )
