use Rattle.std.proofs.Common.{◌-◌, sym, subst}
use Rattle.std.specs.Prelude.{Option}
use Rattle.txn_base.specs.declared.messages.Message.{Message}
use Rattle.txn_buffer.specs.Reading.{ReadGoesOn, IsCut}
use Rattle.txn_buffer.proofs.Slicing.{cut_before, goes_on}
use Rattle.txn_buffer.proofs.slice.Slice.give.Goals as goal

pub returns-in_default-spent_with-clause-cut : goal.returns-in_default-spent_with-clause-cut
returns-in_default-spent_with-clause-cut c = λ h.
    let s = c.args.self.now in
    subst (λ (o : Option Message). IsCut o s.messages s.messages s.bytes s.spent s.left) (sym c.in-Some.is)
    (cut_before c.in-Some.message s.messages s.messages s.bytes s.spent s.left c.len.result c.requires c.len.ensures c.in_default-spent_with.ensures)

pub returns-clause-goes_on : goal.returns-clause-goes_on
returns-clause-goes_on c = λ h.
    let s = c.args.self.now in
    subst (λ (o : Option Message). ReadGoesOn o s.messages c.push.new.self s.bytes s.spent s.left c.in-Some-spent_with.spent (s.left - 1)) (sym c.in-Some.is)
    (goes_on c.in-Some.message s.messages c.push.new.self s.bytes s.spent s.left c.len.result c.requires c.len.ensures c.in-Some-spent_with.spent c.in-Some-spent_with.ensures c.in_ok-push.ensures.ok h)
