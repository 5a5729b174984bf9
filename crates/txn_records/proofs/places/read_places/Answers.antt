use Rattle.std.proofs.Common.{◌≡◌, sym, ◌∙◌, arith, subst}
use Rattle.std.proofs.lemmas.Bool.{false≢true}
use Rattle.std.specs.List.Sorted.{IsStrictlyIncreasing}
use Rattle.txn_base.specs.Records.{places_bytes}
use Rattle.txn_records.proofs.PlaceLists.{places_one, places_joined}
use Rattle.txn_records.proofs.places.read_places.Goals as goal

pub returns-then-not-is_ascending-clause-bad : goal.returns-then-not-is_ascending-clause-bad
returns-then-not-is_ascending-clause-bad c same places are e =
    let bytes : c.args.bytes.now ≡ places_bytes c.in-Ok.places = places_joined c.args.bytes.now c.in-Some.words.now c.in-Some.count c.in-Ok.places c.in-Some.ensures.some c.in-Ok.ensures.words c.in-Ok.ensures.count in
    let one : c.in-Ok.places ≡ places = places_one c.in-Ok.places places (omega (arith, c.in-Some.ensures.count.1, c.in-Ok.ensures.count)) c.in-Ok.ensures.fit are (sym bytes ∙ e) in
    false≢true (c.if-not-is_ascending.ensures.1 (subst IsStrictlyIncreasing (sym (c.as_slice.ensures ∙ one)) are.ascending))

pub returns-clause-bytes : goal.returns-clause-bytes
returns-clause-bytes c = places_joined c.args.bytes.now c.in-Some.words.now c.in-Some.count c.in-Ok.places c.in-Some.ensures.some c.in-Ok.ensures.words c.in-Ok.ensures.count
