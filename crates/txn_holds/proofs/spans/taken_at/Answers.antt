use Rattle.std.proofs.Common.{sym, ap, ◌∙◌, rules}
use Rattle.std.specs.Ordering.{nat_cmp}
use Rattle.std.specs.BTreeMap.{get}
use Rattle.txn_model.specs.Words.{when}
use Rattle.txn_holds.proofs.Covering.{none_some, le_true, le_false, taken_last, taken_none}
use Rattle.txn_holds.proofs.spans.taken_at.Goals as goal

pub returns-then-span-place : goal.returns-then-span-place
returns-then-span-place c = sym (taken_last (get nat_cmp c.args.spans.now) c.args.place c.in-Some.field-0-0 c.in-Some.span c.requires (search rules) (search rules)
    (λ k t le at. c.in-Some.ensures.last k le (search rules)) ∙ ap (λ b. when b c.in-Some.span.owner) (le_false c.args.place c.in-Some.span.last c.if-span-place.true))

pub returns-else-span-place : goal.returns-else-span-place
returns-else-span-place c = sym (taken_last (get nat_cmp c.args.spans.now) c.args.place c.in-Some.field-0-0 c.in-Some.span c.requires (search rules) (search rules)
    (λ k t le at. c.in-Some.ensures.last k le (search rules)) ∙ ap (λ b. when b c.in-Some.span.owner) (le_true c.args.place c.in-Some.span.last (search rules)))

pub returns-in-None : goal.returns-in-None
returns-in-None c = sym (taken_none (get nat_cmp c.args.spans.now) c.args.place (λ o cov. none_some cov.span (get nat_cmp c.args.spans.now cov.first) (c.in-None.ensures.none cov.first cov.from) cov.is))
