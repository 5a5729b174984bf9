use Rattle.std.proofs.Common.{◌≡◌, List, Err, ◌++◌, length, take, append-nil, sym, ap, ◌∙◌, subst, rules}
use Rattle.std.proofs.lemmas.Result.{err_from_is_err_and}
use Rattle.txn_base.specs.declared.part.MendError.TheVariants.{Damaged}
use Rattle.txn_replay.specs.Fronts.{AreEntriesOf, AreFirstOf, AreTakenFrom}
use Rattle.txn_replay.proofs.stages.stage.Goals as goal

pub returns-in_err-replay_to-clause-damaged : goal.returns-in_err-replay_to-clause-damaged
returns-in_err-replay_to-clause-damaged g c = λ place is.
    let p = err_from_is_err_and c.from_residual.result c.from_residual.ensures.1 in
    let q = c.in_err-replay_to.was in
    let told_so : c.replay_to.result ≡ Err (Damaged place) = cc (p.1, p.2, q) in
    let front = g.S.Stages.front c.args.state.now in let batches = (g.R.RecordLog.content c.args.log.now).batches in
    let nothing : front ++ c.new.result.items ≡ front = ap (λ (l : List g.row.S-Entry.Denot). front ++ l) c.new.ensures.items ∙ append-nil front in
    let bad = c.replay_to.ensures.damaged place told_so in
    record {
      from_on = bad.from_on;
      before_end = bad.before_end;
      first_bad = λ told was.
          let so : AreTakenFrom g.S.Grammar batches (front ++ c.new.result.items) = subst (AreTakenFrom g.S.Grammar batches) (sym nothing) was in
          let first = bad.first_bad told (record { entries = so.entries; in_grammar = so.in_grammar }) in
          record { within = first.within; in_grammar = first.in_grammar; before = first.before; bad = first.bad };
    }

pub returns-clause-taken : goal.returns-clause-taken
returns-clause-taken g c =
    let front = g.S.Stages.front c.args.state.now in let batches = (g.R.RecordLog.content c.args.log.now).batches in
    let all = c.replay_to.new.state.own ++ c.replay_to.new.state.staged in
    let took = c.in_ok-replay_to.ensures.taken in
    let own : c.replay_to.new.state.own ≡ front = c.in_ok-replay_to.ensures.same.1 in
    let staged : c.replay_to.new.state.staged ≡ c.step.inside.staged.items = search rules in
    let after : all ≡ front ++ c.step.inside.staged.items = ap (λ (l : List g.row.S-Entry.Denot). l ++ c.replay_to.new.state.staged) own ∙ ap (λ (l : List g.row.S-Entry.Denot). front ++ l) staged in
    let before : front ++ c.new.result.items ≡ front = ap (λ (l : List g.row.S-Entry.Denot). front ++ l) c.new.ensures.items ∙ append-nil front in
    record {
      extends = sym before ∙ took.extends ∙ ap (λ (l : List g.row.S-Entry.Denot). take (length l) all) before ∙ ap (take (length front)) after;
      lawful = subst (g.S.Grammar.lawful (g.S.Stages.rule c.args.state.now)) after took.lawful;
      read = λ told. subst (AreEntriesOf g.S.Grammar batches (length front)) after (subst (λ (l : List g.row.S-Entry.Denot). AreEntriesOf g.S.Grammar batches (length l) all) before (took.read told));
      first = λ told was. subst (AreFirstOf g.S.Grammar batches) after (took.first told (subst (AreFirstOf g.S.Grammar batches) (sym before) was));
      taken = λ told was.
          let so : AreTakenFrom g.S.Grammar batches (front ++ c.new.result.items) = subst (AreTakenFrom g.S.Grammar batches) (sym before) was in
          let are = took.taken told (record { entries = so.entries; in_grammar = so.in_grammar }) in
          subst (AreTakenFrom g.S.Grammar batches) after (record { entries = are.entries; in_grammar = are.in_grammar });
    }
