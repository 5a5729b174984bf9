-- Why a line is refused before the parts that it uses are recovered: by the request and the names alone.
use Rattle.std.specs.Prelude.{ℕ, ◌==◌, ◌&&◌, ◌||◌, not, nat_lt, Bool, true, false, List, [], ◌∷◌, length, Option, is_some, is_none, option_map}
use Rattle.std.specs.List.{list_any}
use Rattle.txn_base.specs.declared.limits.Limits.{Limits}
use Rattle.txn_base.specs.declared.request.Request.{Request}
use Rattle.txn_base.specs.declared.request.Request.TheVariants as request
use Rattle.txn_base.specs.declared.reply.Refusal.{Refusal}
use Rattle.txn_base.specs.declared.reply.Refusal.TheVariants as no
use Rattle.txn_model.specs.declared.world.World.{World}
use Rattle.txn_model.specs.Words.{when, that, first_said}
use Rattle.txn_model.specs.Names.{part_of}
use Rattle.txn_model.specs.Requests.{named, fits_kind, txn_of, ack_asked}
use Rattle.txn_model.specs.AckRules.{has_bad_places}

abbrev pub is_stop : Request → Bool
is_stop request.Stop = true
is_stop _ = false

-- A name that isn't in the catalog; one that is, and is of the other kind.
abbrev pub unknown_name : World → Request → Option (List ℕ)
unknown_name w r = that (λ name. is_none (part_of w.names name)) (named r)

abbrev pub wrong_kind : World → Request → Option (List ℕ)
wrong_kind w r = that (λ name. is_some (part_of w.names name) && not (fits_kind r name)) (named r)

-- The number of a coordinator that isn't there.
abbrev pub foreign_coordinator : Request → Option ℕ
foreign_coordinator r = that (λ k. not (k == 0)) (option_map (λ x. x.most) (txn_of r))

-- A timeout outside 1 to 86,400,000; too many or too long messages.
abbrev pub is_bad_timeout : ℕ → Bool
is_bad_timeout timeout = nat_lt timeout 1 || nat_lt 86400000 timeout

abbrev pub are_too_big : Limits → List (List ℕ) → Bool
are_too_big limits bodies = nat_lt limits.batch (length bodies) || list_any (λ body. nat_lt limits.message (length body)) bodies

abbrev pub has_bad_timeout : Request → Bool
has_bad_timeout (request.New timeout) = is_bad_timeout timeout
has_bad_timeout _ = false

abbrev pub is_too_big : Limits → Request → Bool
is_too_big limits (request.Publish topic who bodies) = are_too_big limits bodies
is_too_big limits _ = false

-- An acknowledgement whose list of places is empty or too long.
abbrev pub lists_bad_places : Limits → Request → Bool
lists_bad_places limits r = is_some (that (has_bad_places limits) (ack_asked r))

-- The rows in their order. The first that comes is the answer.
abbrev pub early_rows : Limits → World → Request → List (Option Refusal)
early_rows limits w r =
    when (is_stop r) no.BadLine
    ∷ option_map (λ name. no.UnknownPart name) (unknown_name w r)
    ∷ option_map (λ name. no.WrongKind name) (wrong_kind w r)
    ∷ option_map (λ number. no.UnknownCoordinator number) (foreign_coordinator r)
    ∷ when (has_bad_timeout r) no.BadTimeout
    ∷ when (lists_bad_places limits r) no.BadPlaces
    ∷ when (is_too_big limits r) no.TooBig
    ∷ []

abbrev pub early_refusal : Limits → World → Request → Option Refusal
early_refusal limits w r = first_said (early_rows limits w r)
