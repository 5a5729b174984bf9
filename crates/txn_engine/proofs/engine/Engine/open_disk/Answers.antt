use Rattle.std.proofs.Common.{◌≡◌, ℕ, ◌≤◌, List, length, Err, refl, sym, ap, ◌∙◌, subst, arith}
use Rattle.std.proofs.lemmas.Result.{err_from_is_err_and}
use Rattle.txn_base.specs.Moves.{After}
use Rattle.txn_model.specs.Sound.{ledger_file}
use Rattle.txn_model.proofs.Laws.Names.{few_names}
use Rattle.txn_coordinator.specs.View.{CoordView}
use Rattle.txn_engine.specs.declared.opening.EngineError.TheVariants as engine
use Rattle.txn_engine.specs.Files.{OnlyLedgers}
use Rattle.txn_engine.specs.Kept.{IsCoordinator}
use Rattle.txn_engine.specs.Table.{table_of}
use Rattle.txn_engine.specs.Opening.{IsCoordinatorOf, IsDamagedPart, IsFirstDamagedTopic}
use Rattle.txn_engine.specs.View.{IsBacked}
use Rattle.txn_engine.proofs.Files.{only_one, only_then, images_change, images_then}
use Rattle.txn_engine.proofs.OpeningAll.{told_before, damage_before, topics_elsewhere, parts_told, topic_damage, topic_file, log_damage, engine_opened, opened_table}
use Rattle.txn_engine.proofs.OpeningFiles.{keeps_of, keeps_then, backed_kept, worlds_kept, damaged_all, damaged_then}
use Rattle.txn_engine.proofs.engine.Engine.open_disk.Goals as goal

few : (names : List (List ℕ)) (n : ℕ) → n ≡ length names → length names ≤ 62 → n ≤ 62
few names n e h = omega (arith, e, h)

pub overflow_cast-named : goal.overflow_cast-named
overflow_cast-named g c =
    let count : c.len-named.result ≡ length c.args.names.items = omega (arith, c.len-named.ensures, c.args.names.ok) in
    let small : c.len-named.result ≤ 62 = few c.args.names.items c.len-named.result count (few_names c.args.names.items c.requires.names) in omega (arith, small)

pub open_coordinator-requires : goal.open_coordinator-requires
open_coordinator-requires g c =
    let count : c.len-named.result ≡ length c.args.names.items = omega (arith, c.len-named.ensures, c.args.names.ok) in
    record { named = few c.args.names.items c.len-named.result count (few_names c.args.names.items c.requires.names); limits = c.requires.limits }

pub open_topics-requires-clause-named : goal.open_topics-requires-clause-named
open_topics-requires-clause-named g c =
    let count : c.len-named.result ≡ length c.args.names.items = omega (arith, c.len-named.ensures, c.args.names.ok) in
    few c.args.names.items c.len-named.result count (few_names c.args.names.items c.requires.names)

pub returns-in_err-coordinator-clause-damaged : goal.returns-in_err-coordinator-clause-damaged
returns-in_err-coordinator-clause-damaged g c = λ file entry is.
    let count : c.len-named.result ≡ length c.args.names.items = omega (arith, c.len-named.ensures, c.args.names.ok) in
    let p = err_from_is_err_and c.from_residual.result c.from_residual.ensures.1 in
    let q = c.in_err-coordinator.was in
    let told_so : c.open_coordinator.result ≡ Err (engine.Damaged file entry) = cc (p.1, p.2, q) in
    let one = c.open_coordinator.ensures.damaged file entry told_so in (
      (0, omega arith, one.0),
      λ told. log_damage (length c.args.names.items) (g.D.Disk.seen c.args.disk.now) file entry one.0
          (subst (λ (n : ℕ). IsDamagedPart n 0 (g.D.Disk.seen c.args.disk.now (ledger_file 0)) entry) count (one.1 told)),
    )

pub returns-in_err-coordinator-clause-lists : goal.returns-in_err-coordinator-clause-lists
returns-in_err-coordinator-clause-lists g c =
    keeps_of g.D.Disk (ledger_file 0) c.args.disk.now c.open_coordinator.new.disk c.open_coordinator.ensures.images

pub returns-in_err-coordinator-clause-images : goal.returns-in_err-coordinator-clause-images
returns-in_err-coordinator-clause-images g c =
    worlds_kept g.D.Disk c.args.names.items c.args.disk.now c.open_coordinator.new.disk (returns-in_err-coordinator-clause-lists g c)

pub returns-in_err-topics-clause-damaged : goal.returns-in_err-topics-clause-damaged
returns-in_err-topics-clause-damaged g c = λ file entry is.
    let count : c.len-named.result ≡ length c.args.names.items = omega (arith, c.len-named.ensures, c.args.names.ok) in
    let p = err_from_is_err_and c.from_residual-in_err-topics.result c.from_residual-in_err-topics.ensures.1 in
    let q = c.in_err-topics.was in
    let told_so : c.open_topics.result ≡ Err (engine.Damaged file entry) = cc (p.1, p.2, q) in
    let n : ℕ = length c.args.names.items in
    let files = g.D.Disk.seen c.args.disk.now in
    let mid = g.D.Disk.seen c.open_coordinator.new.disk in
    let one : IsFirstDamagedTopic n g.D.Disk.tells files file entry =
    damage_before n g.D.Disk.tells files mid file entry (topics_elsewhere files mid c.open_coordinator.ensures.others)
    (subst (λ (m : ℕ). IsFirstDamagedTopic m g.D.Disk.tells mid file entry) count (c.open_topics.ensures.damaged file entry told_so)) in (
      topic_file n g.D.Disk.tells files file entry one,
      λ told. topic_damage n c.args.limits.now files c.in_ok-coordinator.coordinator
          (subst (λ (m : ℕ). IsCoordinatorOf m c.in_ok-coordinator.coordinator (files (ledger_file 0))) count (c.in_ok-coordinator.ensures.told told)) g.D.Disk.tells file entry told one,
    )

pub returns-in_err-topics-clause-lists : goal.returns-in_err-topics-clause-lists
returns-in_err-topics-clause-lists g c =
    keeps_then g.D.Disk c.args.disk.now c.open_coordinator.new.disk c.open_topics.new.disk
    (keeps_of g.D.Disk (ledger_file 0) c.args.disk.now c.open_coordinator.new.disk c.open_coordinator.ensures.images) c.open_topics.ensures.images

pub returns-in_err-topics-clause-images : goal.returns-in_err-topics-clause-images
returns-in_err-topics-clause-images g c = worlds_kept g.D.Disk c.args.names.items c.args.disk.now c.open_topics.new.disk (returns-in_err-topics-clause-lists g c)

pub returns-clause-backed : goal.returns-clause-backed
returns-clause-backed g c =
    let kept = backed_kept g.D.Disk c.in_ok-coordinator.coordinator.content c.open_coordinator.new.disk c.open_topics.new.disk c.open_topics.ensures.images c.in_ok-coordinator.ensures.backed in
    subst (IsBacked (g.D.Disk.image c.open_topics.new.disk)) (sym c.over.ensures) (record { coord = kept; topics = c.in_ok-topics.ensures.backed })

pub returns-clause-lists : goal.returns-clause-lists
returns-clause-lists g c =
    keeps_then g.D.Disk c.args.disk.now c.open_coordinator.new.disk c.open_topics.new.disk
    (keeps_of g.D.Disk (ledger_file 0) c.args.disk.now c.open_coordinator.new.disk c.open_coordinator.ensures.images) c.open_topics.ensures.images

pub returns-clause-images : goal.returns-clause-images
returns-clause-images g c = worlds_kept g.D.Disk c.args.names.items c.args.disk.now c.open_topics.new.disk (returns-clause-lists g c)

pub returns-clause-undamaged : goal.returns-clause-undamaged
returns-clause-undamaged g c = λ told.
    let count : c.len-named.result ≡ length c.args.names.items = omega (arith, c.len-named.ensures, c.args.names.ok) in
    let files = g.D.Disk.seen c.args.disk.now in
    let mid = g.D.Disk.seen c.open_coordinator.new.disk in
    let opened = c.in_ok-topics.ensures.opened in
    parts_told (length c.args.names.items) c.args.limits.now files c.in_ok-coordinator.coordinator
    (subst (λ (m : ℕ). IsCoordinatorOf m c.in_ok-coordinator.coordinator (files (ledger_file 0))) count (c.in_ok-coordinator.ensures.told told))
    c.in_ok-topics.topics.items (opened.1 ∙ count) opened.0
    (told_before c.args.limits.now 1 files mid c.in_ok-topics.topics.items (omega arith) (topics_elsewhere files mid c.open_coordinator.ensures.others) opened.0 (c.in_ok-topics.ensures.told told))

pub returns-clause-table : goal.returns-clause-table
returns-clause-table g c = λ told w stands.
    let count : c.len-named.result ≡ length c.args.names.items = omega (arith, c.len-named.ensures, c.args.names.ok) in
    let names = c.args.names.items in
    let files = g.D.Disk.seen c.args.disk.now in
    let mid = g.D.Disk.seen c.open_coordinator.new.disk in
    let coord : CoordView = c.in_ok-coordinator.coordinator in
    let log = c.in_ok-coordinator.ensures.opened in
    let opened = c.in_ok-topics.ensures.opened in
    let ts = c.in_ok-topics.topics.items in
    let is = engine_opened names c.args.limits.now coord ts c.requires.limits c.requires.names c.requires.topics
    (subst (λ (m : ℕ). IsCoordinator c.args.limits.now m coord) count log.0) opened.0 (opened.1 ∙ count) in
    ap table_of c.over.ensures
    ∙ opened_table names c.args.limits.now coord ts is (record { coord = log.1; topics = opened.2 }) log.2 files
    (subst (λ (m : ℕ). IsCoordinatorOf m coord (files (ledger_file 0))) count (c.in_ok-coordinator.ensures.told told))
    (told_before c.args.limits.now 1 files mid ts (omega arith) (topics_elsewhere files mid c.open_coordinator.ensures.others) opened.0 (c.in_ok-topics.ensures.told told)) w stands

pub returns-in_err-coordinator-clause-elsewhere : goal.returns-in_err-coordinator-clause-elsewhere
returns-in_err-coordinator-clause-elsewhere g c =
    images_change g.D.Disk (length c.args.names.items) 0 _ c.args.disk.now c.open_coordinator.new.disk (omega arith) c.open_coordinator.ensures.images

pub returns-in_err-coordinator-clause-others : goal.returns-in_err-coordinator-clause-others
returns-in_err-coordinator-clause-others g c =
    only_one (length c.args.names.items) 0 (ledger_file 0) (g.D.Disk.seen c.args.disk.now) (g.D.Disk.seen c.open_coordinator.new.disk) refl (omega arith) c.open_coordinator.ensures.others

pub returns-in_err-topics-clause-elsewhere : goal.returns-in_err-topics-clause-elsewhere
returns-in_err-topics-clause-elsewhere g c =
    let count : c.len-named.result ≡ length c.args.names.items = omega (arith, c.len-named.ensures, c.args.names.ok) in
    let n : ℕ = length c.args.names.items in
    images_then g.D.Disk n c.args.disk.now c.open_coordinator.new.disk c.open_topics.new.disk
    (images_change g.D.Disk n 0 _ c.args.disk.now c.open_coordinator.new.disk (omega arith) c.open_coordinator.ensures.images)
    (subst (λ (m : ℕ). After g.D.Disk (OnlyLedgers m) c.open_coordinator.new.disk c.open_topics.new.disk) count c.open_topics.ensures.elsewhere)

pub returns-in_err-topics-clause-others : goal.returns-in_err-topics-clause-others
returns-in_err-topics-clause-others g c =
    let count : c.len-named.result ≡ length c.args.names.items = omega (arith, c.len-named.ensures, c.args.names.ok) in
    let n : ℕ = length c.args.names.items in
    let files = g.D.Disk.seen c.args.disk.now in
    let mid = g.D.Disk.seen c.open_coordinator.new.disk in
    let new = g.D.Disk.seen c.open_topics.new.disk in
    only_then n files mid new (only_one n 0 (ledger_file 0) files mid refl (omega arith) c.open_coordinator.ensures.others) (subst (λ (m : ℕ). OnlyLedgers m mid new) count c.open_topics.ensures.others)

pub returns-clause-elsewhere : goal.returns-clause-elsewhere
returns-clause-elsewhere g c =
    let count : c.len-named.result ≡ length c.args.names.items = omega (arith, c.len-named.ensures, c.args.names.ok) in
    let n : ℕ = length c.args.names.items in
    images_then g.D.Disk n c.args.disk.now c.open_coordinator.new.disk c.open_topics.new.disk
    (images_change g.D.Disk n 0 _ c.args.disk.now c.open_coordinator.new.disk (omega arith) c.open_coordinator.ensures.images)
    (subst (λ (m : ℕ). After g.D.Disk (OnlyLedgers m) c.open_coordinator.new.disk c.open_topics.new.disk) count c.open_topics.ensures.elsewhere)

pub returns-clause-others : goal.returns-clause-others
returns-clause-others g c =
    let count : c.len-named.result ≡ length c.args.names.items = omega (arith, c.len-named.ensures, c.args.names.ok) in
    let n : ℕ = length c.args.names.items in
    let files = g.D.Disk.seen c.args.disk.now in
    let mid = g.D.Disk.seen c.open_coordinator.new.disk in
    let new = g.D.Disk.seen c.open_topics.new.disk in
    only_then n files mid new (only_one n 0 (ledger_file 0) files mid refl (omega arith) c.open_coordinator.ensures.others) (subst (λ (m : ℕ). OnlyLedgers m mid new) count c.open_topics.ensures.others)

pub returns-in_err-coordinator-clause-uncut : goal.returns-in_err-coordinator-clause-uncut
returns-in_err-coordinator-clause-uncut g c = λ tells.
    damaged_all (ledger_file 0) (g.D.Disk.seen c.args.disk.now) (g.D.Disk.seen c.open_coordinator.new.disk) c.open_coordinator.ensures.others (c.open_coordinator.ensures.uncut tells)

pub returns-in_err-topics-clause-uncut : goal.returns-in_err-topics-clause-uncut
returns-in_err-topics-clause-uncut g c = λ tells.
    damaged_then (g.D.Disk.seen c.args.disk.now) (g.D.Disk.seen c.open_coordinator.new.disk) (g.D.Disk.seen c.open_topics.new.disk)
    (damaged_all (ledger_file 0) (g.D.Disk.seen c.args.disk.now) (g.D.Disk.seen c.open_coordinator.new.disk) c.open_coordinator.ensures.others (c.open_coordinator.ensures.uncut tells)) (c.open_topics.ensures.uncut tells)

pub returns-clause-uncut : goal.returns-clause-uncut
returns-clause-uncut g c = λ tells.
    damaged_then (g.D.Disk.seen c.args.disk.now) (g.D.Disk.seen c.open_coordinator.new.disk) (g.D.Disk.seen c.open_topics.new.disk)
    (damaged_all (ledger_file 0) (g.D.Disk.seen c.args.disk.now) (g.D.Disk.seen c.open_coordinator.new.disk) c.open_coordinator.ensures.others (c.open_coordinator.ensures.uncut tells)) (c.open_topics.ensures.uncut tells)
