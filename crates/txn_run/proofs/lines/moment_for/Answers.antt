use Rattle.std.proofs.Common.{◌∙◌, sym, refl}
use Rattle.txn_run.proofs.lines.moment_for.Goals as goal

pub returns-then-reads_clock : goal.returns-then-reads_clock
returns-then-reads_clock g c = rw (sym c.reads_clock.ensures ∙ c.if-reads_clock.true) c.now.ensures

pub returns : goal.returns
returns g c = rw (sym c.reads_clock.ensures ∙ c.if-reads_clock.false) refl
