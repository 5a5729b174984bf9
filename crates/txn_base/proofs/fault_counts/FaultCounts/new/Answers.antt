use Rattle.std.proofs.Common.{◌≡◌, ℕ, Bool, true, false, List, get_or, refl, ltb-true}
use Rattle.std.specs.Prelude.{nat_lt, if◌then◌else◌}
use Rattle.std.proofs.Math.ListN.{replicate}
use Rattle.std.proofs.lemmas.List.{get_or-replicate}
use Rattle.txn_base.proofs.fault_counts.FaultCounts.new.Goals as goal

zero_either_way : (b : Bool) (n : ℕ) → (b ≡ true → n ≡ 0) → (if b then n else 0) ≡ 0
zero_either_way true n e = e refl
zero_either_way false n e = refl

pub returns-clause-parts : goal.returns-clause-parts
returns-clause-parts c = λ p. let zeros : List ℕ = replicate 128 0 in zero_either_way (nat_lt p 128) (get_or zeros p 0) (λ is. get_or-replicate 128 p 0 0 (ltb-true p 128 is))
