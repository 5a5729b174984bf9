use Rattle.std.proofs.Common.{◌≡◌, ◌∙◌, ℕ, List, sym, ap, subst, arith, length, rules}
use Rattle.txn_base.specs.declared.file_id.FileId.{FileId}
use Rattle.txn_base.specs.Disk.{Files}
use Rattle.txn_ledger.specs.declared.settle.Behind.{Behind}
use Rattle.txn_ledger.specs.Gate.{IsBehind, IsFrameThere}
use Rattle.txn_ledger.proofs.Bodies.{sent_small}
use Rattle.txn_ledger.proofs.Settling.{read_kept, read_dropped, not_there, is_there, is_more, kept_backed, cut_backed, cut_in_doubt, cut_settles, longer_backed, longer_in_doubt, longer_settles}
use Rattle.txn_ledger.proofs.settle.find_out.Goals as goal

pub look_behind-requires-clause-room : goal.look_behind-requires-clause-room
look_behind-requires-clause-room g c = omega (arith, c.requires.bound, sent_small c.args.carrier.now.content.standing c.args.sent c.requires.in_flight c.requires.sent)

pub returns-in_err-cut-in-NoFrame-clause-err : goal.returns-in_err-cut-in-NoFrame-clause-err
returns-in_err-cut-in-NoFrame-clause-err g c =
    let s = c.args.carrier.now.content in
    let same = ap (λ (f : Files). f c.args.file) c.sync.ensures.seen in
    let no = not_there s c.args.end c.args.sent c.requires.ends c.requires.in_flight c.requires.sent g.D.Disk g.met.D.Disk.image_is_told c.args.file c.requires.file _ _ _ _ c.requires.backed c.sync.ensures.images c.in_ok-sync.ensures.durable c.look_behind.ensures.images _ _ same c.in_ok-look_behind.ensures.found c.in-NoFrame.is in
    let doubt = cut_in_doubt s c.args.end c.args.sent c.requires.ends c.requires.in_flight c.requires.sent g.D.Disk g.met.D.Disk.image_is_told c.args.file c.requires.file _ _ _ _ c.requires.backed c.sync.ensures.images c.in_ok-sync.ensures.durable c.look_behind.ensures.images no _ c.cut.ensures.images in
    search rules

pub returns-in_err-cut-in-NoFrame-clause-images : goal.returns-in_err-cut-in-NoFrame-clause-images
returns-in_err-cut-in-NoFrame-clause-images g c =
    let s = c.args.carrier.now.content in
    let same = ap (λ (f : Files). f c.args.file) c.sync.ensures.seen in
    let no = not_there s c.args.end c.args.sent c.requires.ends c.requires.in_flight c.requires.sent g.D.Disk g.met.D.Disk.image_is_told c.args.file c.requires.file _ _ _ _ c.requires.backed c.sync.ensures.images c.in_ok-sync.ensures.durable c.look_behind.ensures.images _ _ same c.in_ok-look_behind.ensures.found c.in-NoFrame.is in
    cut_settles s c.args.end c.args.sent c.requires.ends c.requires.in_flight c.requires.sent g.D.Disk g.met.D.Disk.image_is_told c.args.file c.requires.file _ _ _ _ c.requires.backed c.sync.ensures.images c.in_ok-sync.ensures.durable c.look_behind.ensures.images no _ c.cut.ensures.images

pub returns-in_ok-cut-in-NoFrame-clause-images : goal.returns-in_ok-cut-in-NoFrame-clause-images
returns-in_ok-cut-in-NoFrame-clause-images g c =
    let s = c.args.carrier.now.content in
    let same = ap (λ (f : Files). f c.args.file) c.sync.ensures.seen in
    let no = not_there s c.args.end c.args.sent c.requires.ends c.requires.in_flight c.requires.sent g.D.Disk g.met.D.Disk.image_is_told c.args.file c.requires.file _ _ _ _ c.requires.backed c.sync.ensures.images c.in_ok-sync.ensures.durable c.look_behind.ensures.images _ _ same c.in_ok-look_behind.ensures.found c.in-NoFrame.is in
    cut_settles s c.args.end c.args.sent c.requires.ends c.requires.in_flight c.requires.sent g.D.Disk g.met.D.Disk.image_is_told c.args.file c.requires.file _ _ _ _ c.requires.backed c.sync.ensures.images c.in_ok-sync.ensures.durable c.look_behind.ensures.images no _ c.cut.ensures.images

pub returns-in_ok-cut-in-NoFrame-clause-ok : goal.returns-in_ok-cut-in-NoFrame-clause-ok
returns-in_ok-cut-in-NoFrame-clause-ok g c =
    let s = c.args.carrier.now.content in
    let same = ap (λ (f : Files). f c.args.file) c.sync.ensures.seen in
    let no = not_there s c.args.end c.args.sent c.requires.ends c.requires.in_flight c.requires.sent g.D.Disk g.met.D.Disk.image_is_told c.args.file c.requires.file _ _ _ _ c.requires.backed c.sync.ensures.images c.in_ok-sync.ensures.durable c.look_behind.ensures.images _ _ same c.in_ok-look_behind.ensures.found c.in-NoFrame.is in
    let read = ap (λ (f : Files). f c.args.file) (c.look_behind.ensures.seen ∙ c.sync.ensures.seen) in
    cut_backed s c.args.end c.args.sent c.requires.ends c.requires.in_flight c.requires.sent g.D.Disk g.met.D.Disk.image_is_told c.args.file c.requires.file _ _ _ _ c.requires.backed c.sync.ensures.images c.in_ok-sync.ensures.durable c.look_behind.ensures.images no _ c.cut.ensures.images _ read c.in_ok-cut-in-NoFrame.ensures.done

pub returns-in_ok-cut-in-NoFrame-clause-found : goal.returns-in_ok-cut-in-NoFrame-clause-found
returns-in_ok-cut-in-NoFrame-clause-found g c =
    let s = c.args.carrier.now.content in
    let same = ap (λ (f : Files). f c.args.file) c.sync.ensures.seen in
    let no = not_there s c.args.end c.args.sent c.requires.ends c.requires.in_flight c.requires.sent g.D.Disk g.met.D.Disk.image_is_told c.args.file c.requires.file _ _ _ _ c.requires.backed c.sync.ensures.images c.in_ok-sync.ensures.durable c.look_behind.ensures.images _ _ same c.in_ok-look_behind.ensures.found c.in-NoFrame.is in
    λ told. read_dropped s c.args.end c.args.sent c.requires.ends c.requires.in_flight c.requires.sent (g.D.Disk.seen c.args.disk.now s.key) (c.requires.backed.each _ (g.met.D.Disk.seen_is_image c.args.disk.now told))
    (λ is. no told (subst (λ (k : FileId). IsFrameThere c.args.end c.args.sent (g.D.Disk.seen c.args.disk.now k)) (sym c.requires.file) is))

pub returns-in_err-cut-in-More-clause-err : goal.returns-in_err-cut-in-More-clause-err
returns-in_err-cut-in-More-clause-err g c =
    let s = c.args.carrier.now.content in
    let same = ap (λ (f : Files). f c.args.file) c.sync.ensures.seen in
    let whole = is_more s c.args.end c.args.sent c.requires.ends c.requires.in_flight c.requires.sent g.D.Disk g.met.D.Disk.image_is_told c.args.file c.requires.file _ _ _ _ c.requires.backed c.sync.ensures.images c.in_ok-sync.ensures.durable c.look_behind.ensures.images _ _ same c.in_ok-look_behind.ensures.found c.in-More.is in
    let doubt = longer_in_doubt s c.args.end c.args.sent c.requires.ends c.requires.in_flight c.requires.sent g.D.Disk g.met.D.Disk.image_is_told c.args.file c.requires.file _ _ _ _ c.requires.backed c.sync.ensures.images c.in_ok-sync.ensures.durable c.look_behind.ensures.images whole _ c.cut-in-More.ensures.images in
    search rules

pub returns-in_err-cut-in-More-clause-images : goal.returns-in_err-cut-in-More-clause-images
returns-in_err-cut-in-More-clause-images g c =
    let s = c.args.carrier.now.content in
    let same = ap (λ (f : Files). f c.args.file) c.sync.ensures.seen in
    let whole = is_more s c.args.end c.args.sent c.requires.ends c.requires.in_flight c.requires.sent g.D.Disk g.met.D.Disk.image_is_told c.args.file c.requires.file _ _ _ _ c.requires.backed c.sync.ensures.images c.in_ok-sync.ensures.durable c.look_behind.ensures.images _ _ same c.in_ok-look_behind.ensures.found c.in-More.is in
    longer_settles s c.args.end c.args.sent c.requires.ends c.requires.in_flight c.requires.sent g.D.Disk g.met.D.Disk.image_is_told c.args.file c.requires.file _ _ _ _ c.requires.backed c.sync.ensures.images c.in_ok-sync.ensures.durable c.look_behind.ensures.images whole _ c.cut-in-More.ensures.images

pub returns-in_ok-cut-in-More-clause-images : goal.returns-in_ok-cut-in-More-clause-images
returns-in_ok-cut-in-More-clause-images g c =
    let s = c.args.carrier.now.content in
    let same = ap (λ (f : Files). f c.args.file) c.sync.ensures.seen in
    let whole = is_more s c.args.end c.args.sent c.requires.ends c.requires.in_flight c.requires.sent g.D.Disk g.met.D.Disk.image_is_told c.args.file c.requires.file _ _ _ _ c.requires.backed c.sync.ensures.images c.in_ok-sync.ensures.durable c.look_behind.ensures.images _ _ same c.in_ok-look_behind.ensures.found c.in-More.is in
    longer_settles s c.args.end c.args.sent c.requires.ends c.requires.in_flight c.requires.sent g.D.Disk g.met.D.Disk.image_is_told c.args.file c.requires.file _ _ _ _ c.requires.backed c.sync.ensures.images c.in_ok-sync.ensures.durable c.look_behind.ensures.images whole _ c.cut-in-More.ensures.images

pub returns-in_ok-cut-in-More-clause-ok : goal.returns-in_ok-cut-in-More-clause-ok
returns-in_ok-cut-in-More-clause-ok g c =
    let s = c.args.carrier.now.content in
    let same = ap (λ (f : Files). f c.args.file) c.sync.ensures.seen in
    let whole = is_more s c.args.end c.args.sent c.requires.ends c.requires.in_flight c.requires.sent g.D.Disk g.met.D.Disk.image_is_told c.args.file c.requires.file _ _ _ _ c.requires.backed c.sync.ensures.images c.in_ok-sync.ensures.durable c.look_behind.ensures.images _ _ same c.in_ok-look_behind.ensures.found c.in-More.is in
    let read = ap (λ (f : Files). f c.args.file) (c.look_behind.ensures.seen ∙ c.sync.ensures.seen) in
    longer_backed s c.args.end c.args.sent c.requires.ends c.requires.in_flight c.requires.sent g.D.Disk g.met.D.Disk.image_is_told c.args.file c.requires.file _ _ _ _ c.requires.backed c.sync.ensures.images c.in_ok-sync.ensures.durable c.look_behind.ensures.images whole _ c.cut-in-More.ensures.images _ read c.in_ok-cut-in-More.ensures.done

pub returns-in_ok-cut-in-More-clause-found : goal.returns-in_ok-cut-in-More-clause-found
returns-in_ok-cut-in-More-clause-found g c =
    let s = c.args.carrier.now.content in
    let same = ap (λ (f : Files). f c.args.file) c.sync.ensures.seen in
    let whole = is_more s c.args.end c.args.sent c.requires.ends c.requires.in_flight c.requires.sent g.D.Disk g.met.D.Disk.image_is_told c.args.file c.requires.file _ _ _ _ c.requires.backed c.sync.ensures.images c.in_ok-sync.ensures.durable c.look_behind.ensures.images _ _ same c.in_ok-look_behind.ensures.found c.in-More.is in
    λ told. read_kept s c.args.end c.args.sent c.requires.ends c.requires.in_flight c.requires.sent (g.D.Disk.seen c.args.disk.now s.key) (c.requires.backed.each _ (g.met.D.Disk.seen_is_image c.args.disk.now told))
    (subst (λ (k : FileId). IsFrameThere c.args.end c.args.sent (g.D.Disk.seen c.args.disk.now k)) c.requires.file (whole told))

pub returns-in-Frame-clause-ok : goal.returns-in-Frame-clause-ok
returns-in-Frame-clause-ok g c =
    let s = c.args.carrier.now.content in
    let same = ap (λ (f : Files). f c.args.file) c.sync.ensures.seen in
    let whole = is_there s c.args.end c.args.sent c.requires.ends c.requires.in_flight c.requires.sent g.D.Disk g.met.D.Disk.image_is_told c.args.file c.requires.file _ _ _ _ c.requires.backed c.sync.ensures.images c.in_ok-sync.ensures.durable c.look_behind.ensures.images _ _ same c.in_ok-look_behind.ensures.found c.in-Frame.is in
    kept_backed s c.args.end c.args.sent c.requires.ends c.requires.in_flight c.requires.sent g.D.Disk g.met.D.Disk.image_is_told c.args.file c.requires.file _ _ _ _ c.requires.backed c.sync.ensures.images c.in_ok-sync.ensures.durable c.look_behind.ensures.images (λ told. (whole told).0) (λ told. (whole told).1)

pub returns-in-Frame-clause-found : goal.returns-in-Frame-clause-found
returns-in-Frame-clause-found g c =
    let s = c.args.carrier.now.content in
    let same = ap (λ (f : Files). f c.args.file) c.sync.ensures.seen in
    let whole = is_there s c.args.end c.args.sent c.requires.ends c.requires.in_flight c.requires.sent g.D.Disk g.met.D.Disk.image_is_told c.args.file c.requires.file _ _ _ _ c.requires.backed c.sync.ensures.images c.in_ok-sync.ensures.durable c.look_behind.ensures.images _ _ same c.in_ok-look_behind.ensures.found c.in-Frame.is in
    λ told. read_kept s c.args.end c.args.sent c.requires.ends c.requires.in_flight c.requires.sent (g.D.Disk.seen c.args.disk.now s.key) (c.requires.backed.each _ (g.met.D.Disk.seen_is_image c.args.disk.now told))
    (subst (λ (k : FileId). IsFrameThere c.args.end c.args.sent (g.D.Disk.seen c.args.disk.now k)) c.requires.file (whole told).0)
