use Rattle.std.proofs.Common.{◌≡◌, All, IsUtf8, take}
use Rattle.txn_base.specs.Bytes.{contents_of}
use Rattle.txn_engine.proofs.publish.bytes_of.Given as goal

abbrev pub invariant-loop-text : goal.invariant-loop-text
invariant-loop-text l = (contents_of l.all.items ≡ take l.text-index l.texts) × All IsUtf8 (take l.text-index l.texts)
