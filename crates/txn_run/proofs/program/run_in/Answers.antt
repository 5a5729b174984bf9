use Rattle.std.proofs.Common.{◌≡◌, ◌≤◌, ◌+◌, [], take, length, arith, length-take, refl, ap, Ok, Err, inr, ◌∙◌}
use Rattle.std.proofs.KnownBytes.{Consumes-nil, Consumes-kept}
use Rattle.txn_model.specs.Cut.{lines_of}
use Rattle.txn_run.proofs.RebuiltParts.{all_rebuilt}
use Rattle.txn_run.proofs.Feeding.{reads_more, reads_broken, reads_stopped}
use Rattle.txn_run.proofs.Serving.{serves_none, serves_then, serves_as, tells_none, tells_then}
use Rattle.txn_run.proofs.Reading.{reads_none, reads_kept, reads_end, came_none, came_more, none_taken, some_taken, some_more, none_so_far, never_none, write_no_too_much, write_no_ok, write_no_read_fault, disk_no_too_much, disk_no_ok, disk_no_read_fault}
use Rattle.txn_run.proofs.Telling.{ends_after}
use Rattle.txn_run.proofs.program.run_in.Goals as goal

pub returns-in-Err-clause-answers : goal.returns-in-Err-clause-answers
returns-in-Err-clause-answers g c told tied =
    let e = reads_kept c.args.limits.now _ _ _ c.loop-taken.taken c.loop-taken.pending _ _ _ _ (c.loop-taken.invariant.so told tied) c.in-Err.ensures.bytes in
    (e.0, e.1, (omega (arith, e.2, c.loop-taken-test.true), all_rebuilt _ c.loop-taken.invariant.whole, e.3.told))

pub returns-in-Err-clause-taken : goal.returns-in-Err-clause-taken
returns-in-Err-clause-taken g c =
    let so = c.loop-taken.invariant.came in
    record { taken = so.0; came = Consumes-kept _ _ _ so.0 so.1 c.in-Err.ensures.bytes; within = omega (arith, so.2, c.loop-taken.invariant.within); too_much = λ is. cc; ok = λ is. cc; read_fault = λ is. omega (arith, so.2, c.loop-taken-test.true); untold = λ e. c.loop-taken.invariant.clock (none_so_far c.loop-taken.taken so.0 so.2 e) }

pub returns-in-Ok-finish-clause-answers : goal.returns-in-Ok-finish-clause-answers
returns-in-Ok-finish-clause-answers g c told tied =
    let e = reads_end c.args.limits.now _ _ _ c.loop-taken.taken c.loop-taken.pending _ _ _ _ c.take_into.new.chunk c.in-Ok.count c.if-count-eq0.true (c.loop-taken.invariant.so told tied) c.in-Ok.ensures.bytes.0 in
    (e.0, e.1, (c.in-Ok.ensures.bytes.1 c.if-count-eq0.true (omega (arith, c.min-most.ensures, c.loop-taken-test.true)), omega (arith, e.2, c.loop-taken-test.true), all_rebuilt _ c.in-Ok-finish.ensures.whole, c.in-Ok-finish.ensures.ok refl told (c.loop-taken.invariant.serves.tied told tied) _ _ e.0 e.3))

pub returns-in-Err-Sink-clause-answers : goal.returns-in-Err-Sink-clause-answers
returns-in-Err-Sink-clause-answers g c told tied =
    let e = reads_end c.args.limits.now _ _ _ c.loop-taken.taken c.loop-taken.pending _ _ _ _ c.take_into.new.chunk c.in-Ok.count c.if-count-eq0.true (c.loop-taken.invariant.so told tied) c.in-Ok.ensures.bytes.0 in
    (e.0, e.1, (omega (arith, e.2, c.loop-taken-test.true), lines_of e.0, inr (c.in-Ok.ensures.bytes.1 c.if-count-eq0.true (omega (arith, c.min-most.ensures, c.loop-taken-test.true)), omega (arith, e.2, c.loop-taken-test.true), refl), c.in-Err-Sink.ensures.sink (ap Err c.in-Err-Sink.field-0-is) told (c.loop-taken.invariant.serves.tied told tied) _ _ e.0 e.3))

pub returns-in-Err-Disk-clause-answers : goal.returns-in-Err-Disk-clause-answers
returns-in-Err-Disk-clause-answers g c told tied =
    let e = reads_end c.args.limits.now _ _ _ c.loop-taken.taken c.loop-taken.pending _ _ _ _ c.take_into.new.chunk c.in-Ok.count c.if-count-eq0.true (c.loop-taken.invariant.so told tied) c.in-Ok.ensures.bytes.0 in
    (e.0, e.1, (omega (arith, e.2, c.loop-taken-test.true), lines_of e.0, inr (c.in-Ok.ensures.bytes.1 c.if-count-eq0.true (omega (arith, c.min-most.ensures, c.loop-taken-test.true)), omega (arith, e.2, c.loop-taken-test.true), refl), c.in-Err-Disk.ensures.disk (ap Err c.in-Err-Disk.field-0-is) told (c.loop-taken.invariant.serves.tied told tied) _ _ e.0 e.3))

pub loop-taken-init : goal.loop-taken-init
loop-taken-init g c = record {
  within = omega arith;
  chunk = c.requires.chunk;
  line = c.requires.line;
  out = c.requires.out;
  reads = omega arith;
  tells = tells_none g.O.Sink (Ok tt) c.args.sink.now (λ is. cc) (λ is. cc);
  fresh = λ e. c.requires.pending;
  clock = λ e. refl;
  whole = c.requires.ready.whole;
  serves = serves_none g.D.Disk _ _ c.requires.ready.engine c.requires.ready.backed (λ none. none);
  came = ([], Consumes-nil _, refl);
  so = λ told tied. reads_none c.args.limits.now _ _ _ _ c.requires.pending;
}

pub loop-taken-preserved : goal.loop-taken-preserved
loop-taken-preserved g c =
    let bytes = take c.in-Ok.count c.take_into.new.chunk in
    let long : length bytes ≡ c.in-Ok.count = omega (arith, length-take c.in-Ok.count c.take_into.new.chunk, c.in-Ok.ensures.bound, c.min-most.ensures, c.take_into.auto.chunk) in
    let was = c.loop-taken.invariant in
    let now = c.in-Ok-feed.ensures in
    record {
      within = omega (arith, c.in-Ok.ensures.bound, c.min-most.ensures);
      chunk = omega arith;
      line = now.line;
      out = omega (arith, now.kept);
      reads = omega (arith, was.reads, c.take_into.ensures.cause.later);
      tells = tells_then g.O.Sink (Ok tt) (Ok tt) _ _ _ was.tells now.tells;
      fresh = λ none. absurd (none_taken c.loop-taken.taken c.in-Ok.count c.if-count-eq0.false none);
      clock = λ none. absurd (none_taken c.loop-taken.taken c.in-Ok.count c.if-count-eq0.false none);
      whole = now.whole;
      serves = serves_then g.D.Disk was.serves (serves_as g.D.Disk (λ none. absurd none) now.serves);
      came = came_more _ _ _ was.came.0 bytes c.loop-taken.taken c.in-Ok.count was.came.1 was.came.2 c.in-Ok.ensures.bytes.0 long;
      so = λ told tied. reads_more c.args.limits.now _ _ _ c.loop-taken.taken c.loop-taken.pending _ _ _ bytes c.in-Ok.count _ c.feed.new.pending _ _ (was.so told tied) c.in-Ok.ensures.bytes.0 long (now.ok refl told (was.serves.tied told tied));
    }

pub returns-in-Err-Sink-feed-clause-answers : goal.returns-in-Err-Sink-feed-clause-answers
returns-in-Err-Sink-feed-clause-answers g c told tied =
    let bytes = take c.in-Ok.count c.take_into.new.chunk in
    let long : length bytes ≡ c.in-Ok.count = omega (arith, length-take c.in-Ok.count c.take_into.new.chunk, c.in-Ok.ensures.bound, c.min-most.ensures, c.take_into.auto.chunk) in
    let within : c.loop-taken.taken + c.in-Ok.count ≤ c.args.limits.now.input = omega (arith, c.in-Ok.ensures.bound, c.min-most.ensures) in
    reads_broken c.args.limits.now c.args.limits.now.input _ _ _ c.loop-taken.taken c.loop-taken.pending _ _ _ bytes c.in-Ok.count _ _ _ (c.loop-taken.invariant.so told tied) c.in-Ok.ensures.bytes.0 long within (c.in-Err-Sink-feed.ensures.sink (ap Err c.in-Err-Sink-feed.field-0-is) told (c.loop-taken.invariant.serves.tied told tied))

pub returns-in-Err-Sink-feed-clause-taken : goal.returns-in-Err-Sink-feed-clause-taken
returns-in-Err-Sink-feed-clause-taken g c =
    let bytes = take c.in-Ok.count c.take_into.new.chunk in
    let long : length bytes ≡ c.in-Ok.count = omega (arith, length-take c.in-Ok.count c.take_into.new.chunk, c.in-Ok.ensures.bound, c.min-most.ensures, c.take_into.auto.chunk) in
    let was = c.loop-taken.invariant in
    let all = came_more _ _ _ was.came.0 bytes c.loop-taken.taken c.in-Ok.count was.came.1 was.came.2 c.in-Ok.ensures.bytes.0 long in
    record { taken = all.0; came = all.1; within = omega (arith, all.2, c.in-Ok.ensures.bound, c.min-most.ensures); too_much = λ is. absurd (write_no_too_much is); ok = λ is. absurd (write_no_ok is); read_fault = λ is. absurd (write_no_read_fault is); untold = λ e. absurd (never_none c.loop-taken.taken c.in-Ok.count all.0 all.2 c.if-count-eq0.false e) }

pub returns-in-Err-Disk-feed-clause-answers : goal.returns-in-Err-Disk-feed-clause-answers
returns-in-Err-Disk-feed-clause-answers g c told tied =
    let bytes = take c.in-Ok.count c.take_into.new.chunk in
    let long : length bytes ≡ c.in-Ok.count = omega (arith, length-take c.in-Ok.count c.take_into.new.chunk, c.in-Ok.ensures.bound, c.min-most.ensures, c.take_into.auto.chunk) in
    let within : c.loop-taken.taken + c.in-Ok.count ≤ c.args.limits.now.input = omega (arith, c.in-Ok.ensures.bound, c.min-most.ensures) in
    reads_stopped c.args.limits.now c.args.limits.now.input _ _ _ c.loop-taken.taken c.loop-taken.pending _ _ _ bytes c.in-Ok.count _ _ _ (c.loop-taken.invariant.so told tied) c.in-Ok.ensures.bytes.0 long within (c.in-Err-Disk-feed.ensures.disk (ap Err c.in-Err-Disk-feed.field-0-is) told (c.loop-taken.invariant.serves.tied told tied))

pub returns-in-Err-Disk-feed-clause-taken : goal.returns-in-Err-Disk-feed-clause-taken
returns-in-Err-Disk-feed-clause-taken g c =
    let bytes = take c.in-Ok.count c.take_into.new.chunk in
    let long : length bytes ≡ c.in-Ok.count = omega (arith, length-take c.in-Ok.count c.take_into.new.chunk, c.in-Ok.ensures.bound, c.min-most.ensures, c.take_into.auto.chunk) in
    let was = c.loop-taken.invariant in
    let all = came_more _ _ _ was.came.0 bytes c.loop-taken.taken c.in-Ok.count was.came.1 was.came.2 c.in-Ok.ensures.bytes.0 long in
    record { taken = all.0; came = all.1; within = omega (arith, all.2, c.in-Ok.ensures.bound, c.min-most.ensures); too_much = λ is. absurd (disk_no_too_much is); ok = λ is. absurd (disk_no_ok is); read_fault = λ is. absurd (disk_no_read_fault is); untold = λ e. absurd (never_none c.loop-taken.taken c.in-Ok.count all.0 all.2 c.if-count-eq0.false e) }

pub returns-clause-answers : goal.returns-clause-answers
returns-clause-answers g c told tied =
    let r = c.loop-taken.invariant.so told tied in
    (r.fed, r.came, (omega (arith, r.count, c.loop-taken.invariant.within, c.loop-taken-test.false), all_rebuilt _ c.loop-taken.invariant.whole, r.going.told))

pub returns-in-Err-Disk-clause-taken : goal.returns-in-Err-Disk-clause-taken
returns-in-Err-Disk-clause-taken g c =
    let so = c.loop-taken.invariant.came in
    let none = λ (e : so.0 ≡ []). none_so_far c.loop-taken.taken so.0 so.2 e in
    record { taken = so.0; came = came_none _ _ _ so.0 c.take_into.new.chunk c.in-Ok.count c.if-count-eq0.true so.1 c.in-Ok.ensures.bytes.0; within = omega (arith, so.2, c.loop-taken.invariant.within); too_much = λ is. absurd (disk_no_too_much is); ok = λ is. absurd (disk_no_ok is); read_fault = λ is. absurd (disk_no_read_fault is); untold = λ e. c.in-Err-Disk.ensures.clock (c.loop-taken.invariant.fresh (none e)) ∙ c.loop-taken.invariant.clock (none e) }

pub returns-in-Err-Disk-clause-stopped : goal.returns-in-Err-Disk-clause-stopped
returns-in-Err-Disk-clause-stopped g c is =
    let was = c.loop-taken.invariant in
    let stopped = ap Err c.in-Err-Disk.field-0-is in
    record {
      taken = was.came.0;
      some = some_taken c.loop-taken.taken was.came.0 was.came.2 (λ none. c.in-Err-Disk.ensures.some stopped (was.fresh none));
      came = came_none _ _ _ was.came.0 c.take_into.new.chunk c.in-Ok.count c.if-count-eq0.true was.came.1 c.in-Ok.ensures.bytes.0;
      told = ends_after _ _ _ was.tells.grown (c.in-Err-Disk.ensures.tells.stopped stopped);
    }

pub returns-in-Err-Disk-feed-clause-stopped : goal.returns-in-Err-Disk-feed-clause-stopped
returns-in-Err-Disk-feed-clause-stopped g c is =
    let bytes = take c.in-Ok.count c.take_into.new.chunk in
    let long : length bytes ≡ c.in-Ok.count = omega (arith, length-take c.in-Ok.count c.take_into.new.chunk, c.in-Ok.ensures.bound, c.min-most.ensures, c.take_into.auto.chunk) in
    let was = c.loop-taken.invariant in
    let all = came_more _ _ _ was.came.0 bytes c.loop-taken.taken c.in-Ok.count was.came.1 was.came.2 c.in-Ok.ensures.bytes.0 long in
    record {
      taken = all.0;
      some = some_more c.loop-taken.taken c.in-Ok.count all.0 all.2 c.if-count-eq0.false;
      came = all.1;
      told = ends_after _ _ _ was.tells.grown (c.in-Err-Disk-feed.ensures.tells.stopped (ap Err c.in-Err-Disk-feed.field-0-is));
    }

pub returns-in-Ok-finish-clause-taken : goal.returns-in-Ok-finish-clause-taken
returns-in-Ok-finish-clause-taken g c =
    let so = c.loop-taken.invariant.came in
    let none = λ (e : so.0 ≡ []). none_so_far c.loop-taken.taken so.0 so.2 e in
    record { taken = so.0; came = came_none _ _ _ so.0 c.take_into.new.chunk c.in-Ok.count c.if-count-eq0.true so.1 c.in-Ok.ensures.bytes.0; within = omega (arith, so.2, c.loop-taken.invariant.within); too_much = λ is. cc; ok = λ is. (c.in-Ok.ensures.bytes.1 c.if-count-eq0.true (omega (arith, c.min-most.ensures, c.loop-taken-test.true)), omega (arith, so.2, c.loop-taken-test.true)); read_fault = λ is. cc; untold = λ e. c.in-Ok-finish.ensures.clock (c.loop-taken.invariant.fresh (none e)) ∙ c.loop-taken.invariant.clock (none e) }

pub returns-in-Err-Sink-clause-taken : goal.returns-in-Err-Sink-clause-taken
returns-in-Err-Sink-clause-taken g c =
    let so = c.loop-taken.invariant.came in
    let none = λ (e : so.0 ≡ []). none_so_far c.loop-taken.taken so.0 so.2 e in
    record { taken = so.0; came = came_none _ _ _ so.0 c.take_into.new.chunk c.in-Ok.count c.if-count-eq0.true so.1 c.in-Ok.ensures.bytes.0; within = omega (arith, so.2, c.loop-taken.invariant.within); too_much = λ is. absurd (write_no_too_much is); ok = λ is. absurd (write_no_ok is); read_fault = λ is. absurd (write_no_read_fault is); untold = λ e. c.in-Err-Sink.ensures.clock (c.loop-taken.invariant.fresh (none e)) ∙ c.loop-taken.invariant.clock (none e) }

pub returns-clause-taken : goal.returns-clause-taken
returns-clause-taken g c =
    let so = c.loop-taken.invariant.came in
    record { taken = so.0; came = so.1; within = omega (arith, so.2, c.loop-taken.invariant.within); too_much = λ is. omega (arith, so.2, c.loop-taken.invariant.within, c.loop-taken-test.false); ok = λ is. cc; read_fault = λ is. cc; untold = λ e. c.loop-taken.invariant.clock (none_so_far c.loop-taken.taken so.0 so.2 e) }

pub returns-in-Ok-finish-clause-serves : goal.returns-in-Ok-finish-clause-serves
returns-in-Ok-finish-clause-serves g c = serves_then g.D.Disk c.loop-taken.invariant.serves (serves_as g.D.Disk (λ is. cc) c.in-Ok-finish.ensures.serves)

pub returns-in-Err-Sink-clause-serves : goal.returns-in-Err-Sink-clause-serves
returns-in-Err-Sink-clause-serves g c = serves_then g.D.Disk c.loop-taken.invariant.serves (serves_as g.D.Disk (λ is. cc) c.in-Err-Sink.ensures.serves)

pub returns-in-Err-Disk-clause-serves : goal.returns-in-Err-Disk-clause-serves
returns-in-Err-Disk-clause-serves g c = serves_then g.D.Disk c.loop-taken.invariant.serves (serves_as g.D.Disk (λ is. ap Err c.in-Err-Disk.field-0-is) c.in-Err-Disk.ensures.serves)

pub returns-in-Err-Sink-feed-clause-serves : goal.returns-in-Err-Sink-feed-clause-serves
returns-in-Err-Sink-feed-clause-serves g c = serves_then g.D.Disk c.loop-taken.invariant.serves (serves_as g.D.Disk (λ is. cc) c.in-Err-Sink-feed.ensures.serves)

pub returns-in-Err-Disk-feed-clause-serves : goal.returns-in-Err-Disk-feed-clause-serves
returns-in-Err-Disk-feed-clause-serves g c = serves_then g.D.Disk c.loop-taken.invariant.serves (serves_as g.D.Disk (λ is. ap Err c.in-Err-Disk-feed.field-0-is) c.in-Err-Disk-feed.ensures.serves)

pub returns-clause-serves : goal.returns-clause-serves
returns-clause-serves g c = serves_as g.D.Disk (λ is. cc) c.loop-taken.invariant.serves

pub returns-in-Err-clause-serves : goal.returns-in-Err-clause-serves
returns-in-Err-clause-serves g c = serves_as g.D.Disk (λ is. cc) c.loop-taken.invariant.serves
