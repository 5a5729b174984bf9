use Rattle.txn_board.proofs.Seating.{one_seat}
use Rattle.txn_board.proofs.Sentences.{rows_are, loads_stay, seated_all, two_bits, whole}
use Rattle.txn_board.proofs.board_laws.the_rule_in_full.Goals as goal

pub returns-clause-words : goal.returns-clause-words
returns-clause-words c = λ lists s h. h.words

pub returns-clause-two_bits : goal.returns-clause-two_bits
returns-clause-two_bits c = two_bits

pub returns-clause-rows : goal.returns-clause-rows
returns-clause-rows c = rows_are

pub returns-clause-seated : goal.returns-clause-seated
returns-clause-seated c = seated_all

pub returns-clause-apart : goal.returns-clause-apart
returns-clause-apart c = λ lists s h id other p v w. one_seat lists s h id other v w p

pub returns-clause-once : goal.returns-clause-once
returns-clause-once c = λ lists s h. h.apart

pub returns-clause-below : goal.returns-clause-below
returns-clause-below c = λ lists s h. h.settled_below

pub returns-clause-fits : goal.returns-clause-fits
returns-clause-fits c = λ lists s h. h.fits

pub returns-clause-loads : goal.returns-clause-loads
returns-clause-loads c = loads_stay

pub returns-clause-whole : goal.returns-clause-whole
returns-clause-whole c = whole
