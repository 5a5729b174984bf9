use Rattle.std.proofs.Common.{◌+◌, ◌-◌, ◌≤◌, sym, ap, ◌∙◌, length, drop, arith, length-append, length-take, length-drop}
use Rattle.std.proofs.lemmas.List.{drop_all}
use Rattle.txn_memdisk.specs.Streams.{SourceState}
use Rattle.txn_memdisk.proofs.Pieces.{gives}
use Rattle.txn_memdisk.proofs.source.MemSourceSource.take.Goals as goal

pub returns-clause-bytes : goal.returns-clause-bytes
returns-clause-bytes c =
    let bs = c.self.inside.bytes.bytes in
    let at = c.self.inside.at in
    let n = c.min-count.result in
    let is = c.as_slice.ensures in
    let count = rw is at c.min-count.ensures in
    let long = length-take (length bs - at) (drop at bs) in
    let left = length-drop at bs in
    let within : n ≤ length bs - at = omega (arith, count, long, left) in
    let after = rw is at c.copy_from_slice.ensures.after in
    let into = c.args.into.now in (
      sym (ap (λ (v : SourceState). v.left) c.self.view_is) ∙ gives bs at n c.copy_from_slice.new.self (drop n into) after within,
      λ none some. drop_all (at + n) bs
          (omega (arith, none, some, count, long, left, c.min.ensures, c.self.invariant.1, c.copy_from_slice.ensures.len, length-append c.copy_from_slice.new.self (drop n into), length-take n into, length-drop n into)),
    )
