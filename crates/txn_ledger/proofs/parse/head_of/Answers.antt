use Rattle.std.proofs.Common.{◌≡◌, ℕ, List, length, inl, inr, arith, ap, ◌∙◌}
use Rattle.byteorder.specs.Endian.{big_number}
use Rattle.txn_ledger.proofs.Heads.{none_long, head_read}
use Rattle.txn_ledger.proofs.parse.head_of.Goals as goal

pub returns-then-len-gt-MAX_BODY-clause-head : goal.returns-then-len-gt-MAX_BODY-clause-head
returns-then-len-gt-MAX_BODY-clause-head c = λ rest left front.
    let five : length c.args.head.now ≡ 5 = omega (arith, c.requires, c.if-head-lt-HEAD.false) in
    let head = head_read c.args.head.now rest front five c.if-head-ne1.false (λ k. let fits = c.type_inv.head k in omega arith) c.read_u32-len.result (c.read_u32-len.ensures ∙ ap (λ (l : List ℕ). big_number 4 l) c.split_at.ensures.back) in
    none_long rest c.read_u32-len.result (omega (arith, left, c.requires, c.if-head-lt-HEAD.false)) head (omega arith) (inl c.if-len-gt-MAX_BODY.true)

pub returns-then-left-len-clause-head : goal.returns-then-left-len-clause-head
returns-then-left-len-clause-head c = λ rest left front.
    let five : length c.args.head.now ≡ 5 = omega (arith, c.requires, c.if-head-lt-HEAD.false) in
    let head = head_read c.args.head.now rest front five c.if-head-ne1.false (λ k. let fits = c.type_inv.head k in omega arith) c.read_u32-len.result (c.read_u32-len.ensures ∙ ap (λ (l : List ℕ). big_number 4 l) c.split_at.ensures.back) in
    none_long rest c.read_u32-len.result (omega (arith, left, c.requires, c.if-head-lt-HEAD.false)) head (omega arith) (inr (omega (arith, left, c.if-left-len.true, c.if-head-lt-HEAD.false)))
