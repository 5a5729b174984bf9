use Rattle.std.proofs.Common.{◌∙◌, ◌≤◌, ℕ, List, length, inl, inr, refl, sym, ap, Err, subst}
use Rattle.std.proofs.KnownBytes.{Keeps-refl}
use Rattle.txn_model.specs.Replies.{RunState}
use Rattle.txn_model.specs.Sound.{StandsFor}
use Rattle.txn_engine.specs.Files.{AreJustFrames}
use Rattle.txn_engine.specs.Told.{IsSure}
use Rattle.txn_run.specs.Going.{run_state}
use Rattle.txn_run.specs.Run.{Ended, IsEarly, IsAnswered, IsAtRest, first_run_state}
use Rattle.txn_engine.proofs.Laws.{files_then, lists_files, lists_worlds, part_just, just_frames, opened_lawful}
use Rattle.txn_run.proofs.Counted.{counted_since}
use Rattle.txn_run.proofs.Keeping.{leaves_then, counts_then, counts_but}
use Rattle.txn_run.proofs.Running.{opening_above, running_above, running_worlds, image_stands, first_is, leaves_here, early_here, damage_of, fault_of, not_answered, not_at_rest}
use Rattle.txn_run.proofs.Undamaged.{lawful_not_damaged}
use Rattle.txn_run.proofs.program.run_over.Goals as goal

pub returns-in-Ok-open_disk-clause-images : goal.returns-in-Ok-open_disk-clause-images
returns-in-Ok-open_disk-clause-images g c =
    let opened = c.in-Ok-open_disk.ensures.opened in
    running_above g.D.Disk c.args.names.items (IsSure g.D.Disk c.in-Ok-open_disk.engine) c.args.disk.now c.open_disk.new.disk c.run_in.new.disk
    (λ image at w stands lawful. record {
      told = g.met.D.Disk.image_is_told _ image at;
      tied = c.in-Ok-open_disk.ensures.tied (g.met.D.Disk.image_is_told _ image at);
      lawful = opened_lawful c.in-Ok-open_disk.engine c.in-Ok-open_disk.ensures.kept opened.3 (g.D.Disk.image c.open_disk.new.disk) c.in-Ok-open_disk.ensures.backed image at w
          (subst (λ (ns : List (List ℕ)). StandsFor ns image w) (sym opened.0) stands) lawful;
    })
    c.in-Ok-open_disk.engine.names c.in-Ok-open_disk.ensures.opened.0 c.in-Ok-open_disk.ensures.images c.run_in.ensures.serves.images

pub returns-in-Ok-open_disk-clause-answers : goal.returns-in-Ok-open_disk-clause-answers
returns-in-Ok-open_disk-clause-answers g c told w stands =
    let opened = c.in-Ok-open_disk.ensures.opened in
    let ran = c.run_in.ensures.answers told (c.in-Ok-open_disk.ensures.tied told) in
    let first : RunState = first_run_state c.args.names.items w (g.K.Clock.moments c.args.clock.now) (g.D.Disk.faults c.open_disk.new.disk) (g.D.Disk.part_faults c.open_disk.new.disk) in
    let last : RunState = run_state c.run_in.new.engine (g.K.Clock.moments c.run_in.new.clock) (g.D.Disk.faults c.run_in.new.disk) (g.D.Disk.part_faults c.run_in.new.disk) in
    let ended : Ended c.run_in.result c.args.limits.now first (g.O.Sink.held c.args.sink.now) ran.0 last (g.O.Sink.held c.run_in.new.sink) (g.I.Source.left c.run_in.new.source) =
    subst (λ (s : RunState). Ended c.run_in.result c.args.limits.now s (g.O.Sink.held c.args.sink.now) ran.0 last (g.O.Sink.held c.run_in.new.sink) (g.I.Source.left c.run_in.new.source))
    (first_is c.args.names.items c.in-Ok-open_disk.engine w stands.named (c.in-Ok-open_disk.ensures.table told w stands) (g.K.Clock.moments c.args.clock.now) (g.D.Disk.faults c.open_disk.new.disk) (g.D.Disk.part_faults c.open_disk.new.disk))
    ran.2 in
    inr (record {
      faults = g.D.Disk.faults c.open_disk.new.disk;
      faults_of = g.D.Disk.part_faults c.open_disk.new.disk;
      faults_later = c.in-Ok-open_disk.ensures.cause.later;
      parts_later = c.in-Ok-open_disk.ensures.cause.parts_later;
      last = last;
      last_moments = refl;
      last_faults = refl;
      last_parts = refl;
      taken = ran.0;
      came = ran.1;
      told = ended;
      counted = counted_since (g.D.Disk.faults c.args.disk.now) c.run_in.result c.args.limits.now first (g.O.Sink.held c.args.sink.now) ran.0 last (g.O.Sink.held c.run_in.new.sink) (g.I.Source.left c.run_in.new.source) ended c.in-Ok-open_disk.ensures.cause.later;
      leaves = λ all image at.
          let since = running_worlds g.D.Disk c.args.names.items c.args.disk.now c.open_disk.new.disk c.run_in.new.disk
          c.in-Ok-open_disk.engine.names opened.0 c.in-Ok-open_disk.ensures.images c.run_in.ensures.serves.worlds in
          let stood = image_stands g.D.Disk c.args.names.items c.args.disk.now c.run_in.new.disk since all image at in
          leaves_here c.args.names.items c.run_in.new.engine c.run_in.ensures.serves.engine (c.run_in.ensures.serves.names ∙ opened.0) (g.D.Disk.image c.run_in.new.disk) c.run_in.ensures.serves.backed image at stood;
      tidy = λ image at p within rebuilt.
          part_just (g.D.Disk.image c.run_in.new.disk) image at c.run_in.new.engine c.run_in.ensures.serves.engine c.run_in.ensures.serves.backed p
          (subst (λ (ns : List (List ℕ)). p ≤ length ns) (sym (c.run_in.ensures.serves.names ∙ opened.0)) within) rebuilt;
    })

pub returns-in-Ok-open_disk-clause-undamaged : goal.returns-in-Ok-open_disk-clause-undamaged
returns-in-Ok-open_disk-clause-undamaged g c answered told = c.in-Ok-open_disk.ensures.undamaged told

pub returns-in-Ok-open_disk-clause-stopped : goal.returns-in-Ok-open_disk-clause-stopped
returns-in-Ok-open_disk-clause-stopped g c is = inr (c.run_in.ensures.stopped is, λ told. c.in-Ok-open_disk.ensures.undamaged told)

pub returns-in-Ok-open_disk-clause-disk : goal.returns-in-Ok-open_disk-clause-disk
returns-in-Ok-open_disk-clause-disk g c =
    counts_then c.args.names.items c.in-Ok-open_disk.engine.names _ _ _ (g.D.Disk.part_faults c.args.disk.now) (g.D.Disk.part_faults c.open_disk.new.disk) (g.D.Disk.part_faults c.run_in.new.disk) _ _ c.in-Ok-open_disk.ensures.opened.0 c.in-Ok-open_disk.ensures.cause c.run_in.ensures.serves.cause

pub returns-in-Ok-open_disk-clause-elsewhere : goal.returns-in-Ok-open_disk-clause-elsewhere
returns-in-Ok-open_disk-clause-elsewhere g c =
    leaves_then g.D.Disk c.args.names.items c.in-Ok-open_disk.engine.names c.args.disk.now c.open_disk.new.disk c.run_in.new.disk c.in-Ok-open_disk.ensures.opened.0
    (record { now = c.in-Ok-open_disk.ensures.others; since = c.in-Ok-open_disk.ensures.elsewhere }) c.run_in.ensures.serves.elsewhere

pub returns-in-Err-clause-images : goal.returns-in-Err-clause-images
returns-in-Err-clause-images g c = opening_above g.D.Disk c.args.names.items c.args.disk.now c.open_disk.new.disk c.in-Err.ensures.images

pub returns-in-Err-clause-damaged : goal.returns-in-Err-clause-damaged
returns-in-Err-clause-damaged g c file entry is = c.in-Err.ensures.damaged file entry (ap Err (damage_of c.in-Err.error file entry (sym c.unopened.ensures ∙ is)))

pub returns-in-Err-clause-undamaged : goal.returns-in-Err-clause-undamaged
returns-in-Err-clause-undamaged g c answered told = absurd (not_answered c.in-Err.error (subst IsAnswered c.unopened.ensures answered))

pub returns-in-Err-clause-answers : goal.returns-in-Err-clause-answers
returns-in-Err-clause-answers g c told w stands =
    inl (record {
      is_early = subst (IsEarly w) (sym c.unopened.ensures)
          (early_here w c.in-Err.error (λ file entry is each. lawful_not_damaged c.args.names.items c.requires.topics (g.D.Disk.seen c.args.disk.now) w stands each file entry ((c.in-Err.ensures.damaged file entry (ap Err is)).1 told)));
      not_told = refl;
      not_taken = Keeps-refl _;
      not_put = Keeps-refl _;
    })

pub returns-in-Err-clause-stopped : goal.returns-in-Err-clause-stopped
returns-in-Err-clause-stopped g c is = inl (refl, refl, refl, c.in-Err.ensures.lists, c.in-Err.ensures.uncut)

pub returns-in-Err-clause-disk : goal.returns-in-Err-clause-disk
returns-in-Err-clause-disk g c =
    counts_but _ _ _ (g.D.Disk.part_faults c.args.disk.now) (g.D.Disk.part_faults c.open_disk.new.disk) _ _ (λ is. ap Err (fault_of c.in-Err.error (sym c.unopened.ensures ∙ is))) c.in-Err.ensures.cause

pub returns-in-Ok-open_disk-clause-grows : goal.returns-in-Ok-open_disk-clause-grows
returns-in-Ok-open_disk-clause-grows g c =
    files_then g.D.Disk c.args.disk.now c.open_disk.new.disk c.run_in.new.disk (lists_files g.D.Disk c.args.disk.now c.open_disk.new.disk c.in-Ok-open_disk.ensures.lists) c.run_in.ensures.serves.grows

pub returns-in-Ok-open_disk-clause-worlds : goal.returns-in-Ok-open_disk-clause-worlds
returns-in-Ok-open_disk-clause-worlds g c =
    running_worlds g.D.Disk c.args.names.items c.args.disk.now c.open_disk.new.disk c.run_in.new.disk
    c.in-Ok-open_disk.engine.names c.in-Ok-open_disk.ensures.opened.0 c.in-Ok-open_disk.ensures.images c.run_in.ensures.serves.worlds

pub returns-in-Err-clause-grows : goal.returns-in-Err-clause-grows
returns-in-Err-clause-grows g c = lists_files g.D.Disk c.args.disk.now c.open_disk.new.disk c.in-Err.ensures.lists

pub returns-in-Err-clause-worlds : goal.returns-in-Err-clause-worlds
returns-in-Err-clause-worlds g c = lists_worlds g.D.Disk c.args.names.items c.args.disk.now c.open_disk.new.disk c.in-Err.ensures.images

pub returns-in-Ok-open_disk-clause-tidy : goal.returns-in-Ok-open_disk-clause-tidy
returns-in-Ok-open_disk-clause-tidy g c rests image at =
    let serves = c.run_in.ensures.serves in
    subst (λ (ns : List (List ℕ)). AreJustFrames (length ns) image) (serves.names ∙ c.in-Ok-open_disk.ensures.opened.0)
    (just_frames (g.D.Disk.image c.run_in.new.disk) image at c.run_in.new.engine serves.engine (c.run_in.ensures.statuses.1 rests) serves.backed)

pub returns-in-Err-clause-tidy : goal.returns-in-Err-clause-tidy
returns-in-Err-clause-tidy g c rests image at = absurd (not_at_rest c.in-Err.error (subst IsAtRest c.unopened.ensures rests))
