use Rattle.std.proofs.Common.{◌<◌, length, ◌≡◌, ◌∙◌, ◌+◌, ◌++◌, ◌∷◌, [], ℕ, List, take, drop, get_or, Ok, refl, sym, ap, arith, append_assoc, take-append-drop}
use Rattle.std.proofs.lemmas.List.{take_more, take_all}
use Rattle.txn_run.proofs.Feeding.{goes_then, goes_breaks, goes_stops, goes_along, breaks_along, stops_along}
use Rattle.txn_run.proofs.Serving.{serves_then, serves_as, tells_then}
use Rattle.txn_run.proofs.lines.feed.Goals as goal

module _ (bs : List ℕ) (i : ℕ) where
  more : i < length bs → take (i + 1) bs ≡ take i bs ++ get_or bs i 0 ∷ []
  more h = take_more bs i 0 h

  whole : i < length bs → take i bs ++ (get_or bs i 0 ∷ [] ++ drop (i + 1) bs) ≡ bs
  whole h = sym (append_assoc (take i bs) (get_or bs i 0 ∷ []) (drop (i + 1) bs)) ∙ ap (λ xs. xs ++ drop (i + 1) bs) (sym (more h)) ∙ take-append-drop (i + 1) bs

pub returns-in-Err-clause-sink : goal.returns-in-Err-clause-sink
returns-in-Err-clause-sink g c is told tied =
    let bs = c.args.bytes.now in
    let i = c.loop-byte.byte-index in
    breaks_along c.args.limits.now _ bs _ _ _ _ _ (whole bs i c.loop-byte-test.true)
    (goes_breaks c.args.limits.now (take i bs) (get_or bs i 0 ∷ []) (drop (i + 1) bs) _ _ _ _ _ _ _ _ (c.loop-byte.invariant.so told tied) (c.in-Err.ensures.sink is told (c.loop-byte.invariant.serves.tied told tied)))

pub returns-in-Err-clause-disk : goal.returns-in-Err-clause-disk
returns-in-Err-clause-disk g c is told tied =
    let bs = c.args.bytes.now in
    let i = c.loop-byte.byte-index in
    stops_along c.args.limits.now _ bs _ _ _ _ _ (whole bs i c.loop-byte-test.true)
    (goes_stops c.args.limits.now (take i bs) (get_or bs i 0 ∷ []) (drop (i + 1) bs) _ _ _ _ _ _ _ _ (c.loop-byte.invariant.so told tied) (c.in-Err.ensures.disk is told (c.loop-byte.invariant.serves.tied told tied)))

pub loop-byte-preserved : goal.loop-byte-preserved
loop-byte-preserved g c =
    let bs = c.args.bytes.now in
    let i = c.loop-byte.byte-index in
    let was = c.loop-byte.invariant in
    let now = c.in-Ok.ensures in
    record {
      line = now.line;
      kept = omega (arith, was.kept, now.kept);
      tells = tells_then g.O.Sink (Ok tt) (Ok tt) _ _ _ was.tells now.tells;
      whole = now.whole;
      serves = serves_then g.D.Disk was.serves (serves_as g.D.Disk (λ none. absurd none) now.serves);
      so = λ told tied. goes_along c.args.limits.now _ (take (i + 1) bs) _ _ _ _ _ _ (sym (more bs i c.loop-byte-test.true)) (goes_then c.args.limits.now (take i bs) (get_or bs i 0 ∷ []) _ _ _ _ _ _ _ _ _ (was.so told tied) (now.ok refl told (was.serves.tied told tied)));
    }

pub returns-clause-ok : goal.returns-clause-ok
returns-clause-ok g c ok told tied =
    let all : take c.loop-byte.byte-index c.args.bytes.now ≡ c.args.bytes.now = take_all _ _ c.loop-byte-test.false in
    goes_along c.args.limits.now _ c.args.bytes.now _ _ _ _ _ _ all (c.loop-byte.invariant.so told tied)

pub returns-in-Err-clause-serves : goal.returns-in-Err-clause-serves
returns-in-Err-clause-serves g c = serves_then g.D.Disk c.loop-byte.invariant.serves c.in-Err.ensures.serves

pub returns-in-Err-clause-tells : goal.returns-in-Err-clause-tells
returns-in-Err-clause-tells g c = tells_then g.O.Sink (Ok tt) _ _ _ _ c.loop-byte.invariant.tells c.in-Err.ensures.tells

pub returns-clause-serves : goal.returns-clause-serves
returns-clause-serves g c = serves_as g.D.Disk (λ is. cc) c.loop-byte.invariant.serves

pub returns-clause-tells : goal.returns-clause-tells
returns-clause-tells g c = c.loop-byte.invariant.tells
