use Rattle.std.proofs.Common.{◌≡◌, ℕ, true, ◌<◌, [], ◌∷◌, ◌++◌, length, length-append, take, slice_index_or, ap, sym, ◌∙◌, subst, arith, rules}
use Rattle.std.proofs.lemmas.List.{get_or_read, take-append-le}
use Rattle.txn_base.specs.Frames.{records}
use Rattle.txn_replay.specs.Fronts.{record_at}
use Rattle.txn_replay.proofs.Fronts.{first_more, front_more, entries_more}
use Rattle.txn_replay.proofs.replays.replay_to.Goals as goal

pub loop-place-preserved : goal.loop-place-preserved
loop-place-preserved g c =
    let k = c.loop-place.invariant in let batches = (g.R.RecordLog.content c.args.log.now).batches in
    let front = g.S.Replays.front c.loop-place.state in
    let here : length front ≡ c.loop-place.place = omega (arith, k.size, c.len.ensures, c.if-place-len.false, c.requires.behind) in
    let within : length front < length (records batches) = omega (arith, here, c.loop-place-test.true, c.requires.range.1) in
    let read : g.D.Disk.tells → c.in-Ok.bytes.bytes ≡ record_at batches (length front) = λ told. get_or_read (records batches) (length front) c.in-Ok.bytes.bytes within (subst (λ p. c.in-Ok.bytes.bytes ≡ slice_index_or (records batches) p c.in-Ok.bytes.bytes) (sym here) (c.in-Ok.ensures.record told)) [] in
    let added : g.S.Replays.front c.take.new.self ≡ front ++ g.S.Grammar.entry_of c.in-Ok.bytes.bytes ∷ [] = search rules in
    let good : g.S.Grammar.is_record c.in-Ok.bytes.bytes (g.S.Grammar.entry_of c.in-Ok.bytes.bytes) = search rules in
    let before : g.S.Grammar.lawful (g.S.Replays.rule c.args.state.now) front = k.taken.lawful in
    let allowed : g.S.Grammar.allows (g.S.Replays.rule c.args.state.now) front (g.S.Grammar.entry_of c.in-Ok.bytes.bytes) ≡ true =
    ap (λ (n : ℕ). g.S.Grammar.allows n front (g.S.Grammar.entry_of c.in-Ok.bytes.bytes)) (sym k.rule) ∙ search rules in
    record {
      size = omega (arith, ap length added, length-append front (g.S.Grammar.entry_of c.in-Ok.bytes.bytes ∷ []), here, k.size);
      taken = record {
        extends = k.taken.extends ∙ sym (ap (take (length (g.S.Replays.front c.args.state.now))) added ∙ take-append-le (length (g.S.Replays.front c.args.state.now)) front (g.S.Grammar.entry_of c.in-Ok.bytes.bytes ∷ []) (omega (arith, k.size)));
        lawful = subst (g.S.Grammar.lawful (g.S.Replays.rule c.args.state.now)) (sym added) (search rules);
        read = λ told. entries_more g.S.Grammar batches front (g.S.Replays.front c.take.new.self) c.in-Ok.bytes.bytes within (read told) good added _ (k.taken.read told);
        first = λ told was. first_more g.S.Grammar batches front (g.S.Replays.front c.take.new.self) c.in-Ok.bytes.bytes within (read told) good added (k.taken.first told was);
        taken = λ told was. front_more g.S.Grammar batches front (g.S.Replays.front c.take.new.self) c.in-Ok.bytes.bytes within (read told) good added (k.taken.taken told was);
      };
      rule = search rules;
      own = search rules;
      counted = search rules;
      seen = search rules;
      images = search rules;
      cause = search rules;
    }
