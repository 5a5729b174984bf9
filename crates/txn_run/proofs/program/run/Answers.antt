use Rattle.std.proofs.Common.{◌≡◌, ⊎_elim, inl, inr, ℕ, List, [], ◌∷◌, subst, length, ap}
use Rattle.txn_base.specs.Moves.{After}
use Rattle.txn_model.specs.declared.world.World.{World}
use Rattle.txn_engine.specs.Above.{StandsAbove, KeepsAbove}
use Rattle.txn_engine.specs.Growing.{GrowsWorld}
use Rattle.txn_engine.specs.Opening.{AreParts, IsPartFile, IsFirstDamage}
use Rattle.txn_base.proofs.Laws.{at_any_moment}
use Rattle.txn_run.specs.Files.{LeavesOthers}
use Rattle.txn_run.specs.Run.{RunOn}
use Rattle.txn_run.specs.Words.{command_of}
use Rattle.txn_run.proofs.Promised.{keeps_promises}
use Rattle.txn_run.proofs.Running.{named_as, run_named}
use Rattle.txn_run.proofs.program.run.Goals as goal

pub returns-in-Ok-clause-answers : goal.returns-in-Ok-clause-answers
returns-in-Ok-clause-answers g c name command told =
    let named = c.in-Ok.ensures.words in
    run_named (g.D.Disk.seen c.args.disk.now)
    (λ (ns : List (List ℕ)) (w : World). RunOn g.D.Disk g.I.Source g.O.Sink g.K.Clock c.run_over.result c.args.limits.now ns w c.args.disk.now c.run_over.new.disk c.args.source.now c.run_over.new.source c.args.sink.now c.run_over.new.sink c.args.clock.now c.run_over.new.clock)
    c.in-Ok.names.items (name ∷ []) (named_as (command_of c.args.words.now) c.in-Ok.names.items named.0 name named.1 named.2 command) (c.run_over.ensures.answers told)

pub returns-in-Ok-clause-images : goal.returns-in-Ok-clause-images
returns-in-Ok-clause-images g c name command =
    let named = c.in-Ok.ensures.words in
    subst (λ (ns : List (List ℕ)). After g.D.Disk (KeepsAbove ns) c.args.disk.now c.run_over.new.disk) (named_as (command_of c.args.words.now) c.in-Ok.names.items named.0 name named.1 named.2 command) c.run_over.ensures.images

pub returns-in-Ok-clause-damaged : goal.returns-in-Ok-clause-damaged
returns-in-Ok-clause-damaged g c file entry is =
    let one : length c.in-Ok.names.items ≡ 1 = ap length c.in-Ok.ensures.words.1 in
    let damaged = c.run_over.ensures.damaged file entry is in
    (subst (λ (n : ℕ). IsPartFile n file) one damaged.0, λ told. subst (λ (n : ℕ). IsFirstDamage n (g.D.Disk.seen c.args.disk.now) file entry) one (damaged.1 told))

pub returns-in-Ok-clause-stopped : goal.returns-in-Ok-clause-stopped
returns-in-Ok-clause-stopped g c is =
    let one : length c.in-Ok.names.items ≡ 1 = ap length c.in-Ok.ensures.words.1 in
    ⊎_elim (λ still. inl still) (λ last. inr (last.0, λ told. subst (λ (n : ℕ). AreParts n (g.D.Disk.seen c.args.disk.now)) one (last.1 told))) (c.run_over.ensures.stopped is)

pub returns-in-Ok-clause-elsewhere : goal.returns-in-Ok-clause-elsewhere
returns-in-Ok-clause-elsewhere g c =
    let one : length c.in-Ok.names.items ≡ 1 = ap length c.in-Ok.ensures.words.1 in
    subst (λ (n : ℕ). LeavesOthers g.D.Disk n c.args.disk.now c.run_over.new.disk) one c.run_over.ensures.elsewhere

pub returns-in-Ok-clause-always : goal.returns-in-Ok-clause-always
returns-in-Ok-clause-always g c name command floor before image left =
    let named = c.in-Ok.ensures.words in
    let since = subst (λ (ns : List (List ℕ)). After g.D.Disk (KeepsAbove ns) c.args.disk.now c.run_over.new.disk) (named_as (command_of c.args.words.now) c.in-Ok.names.items named.0 name named.1 named.2 command) c.run_over.ensures.images in
    at_any_moment g.D.Disk (KeepsAbove (name ∷ [])) (StandsAbove (name ∷ []) floor) c.args.disk.now c.run_over.new.disk since
    (g.met.D.Disk.only_now c.args.disk.now) before (λ d e at keeps. keeps floor (before d at)) image left

pub returns-in-Ok-clause-promises : goal.returns-in-Ok-clause-promises
returns-in-Ok-clause-promises g c name command floor before image left =
    let named = c.in-Ok.ensures.words in
    let since = subst (λ (ns : List (List ℕ)). After g.D.Disk (KeepsAbove ns) c.args.disk.now c.run_over.new.disk) (named_as (command_of c.args.words.now) c.in-Ok.names.items named.0 name named.1 named.2 command) c.run_over.ensures.images in
    keeps_promises (name ∷ []) floor image
    (at_any_moment g.D.Disk (KeepsAbove (name ∷ [])) (StandsAbove (name ∷ []) floor) c.args.disk.now c.run_over.new.disk since
    (g.met.D.Disk.only_now c.args.disk.now) before (λ d e at keeps. keeps floor (before d at)) image left)

pub returns-in-Err-clause-promises : goal.returns-in-Err-clause-promises
returns-in-Err-clause-promises g c name command floor before image left = keeps_promises (name ∷ []) floor image (before image (g.met.D.Disk.only_now c.args.disk.now image left))

pub returns-in-Ok-clause-worlds : goal.returns-in-Ok-clause-worlds
returns-in-Ok-clause-worlds g c name command =
    let named = c.in-Ok.ensures.words in
    subst (λ (ns : List (List ℕ)). After g.D.Disk (GrowsWorld ns) c.args.disk.now c.run_over.new.disk) (named_as (command_of c.args.words.now) c.in-Ok.names.items named.0 name named.1 named.2 command) c.run_over.ensures.worlds

pub returns-in-Err-clause-always : goal.returns-in-Err-clause-always
returns-in-Err-clause-always g c name command floor before image left = before image (g.met.D.Disk.only_now c.args.disk.now image left)
