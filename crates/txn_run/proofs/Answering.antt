-- What an engine answers to a request is one of the replies from where the run stands.
use Rattle.std.proofs.Common.{◌≡◌, ◌≤◌, ℕ, List, Option, inr, subst}
use Rattle.txn_base.specs.declared.limits.Limits.{Limits}
use Rattle.txn_base.specs.declared.request.Request.{Request}
use Rattle.txn_base.specs.declared.reply.Reply.{Reply}
use Rattle.txn_model.specs.Answers.{AnswersAt}
use Rattle.txn_model.specs.Replies.{AnswersFrom, TellsFor}
use Rattle.txn_engine.specs.Table.{table_of}
use Rattle.txn_engine.specs.Told.{RoseFor}
use Rattle.txn_engine.specs.View.{EngineView}
use Rattle.txn_run.specs.Going.{run_state}

pub answers_from : (limits own : Limits) (v v' : EngineView) (ms ms' : Option (List ℕ)) (f f' : ℕ) (fs fs' : ℕ → ℕ) (r : Request) (m : ℕ) (told : Reply) → own ≡ limits → TellsFor r ms m ms' → f ≤ f' → ((p : ℕ) → fs p ≤ fs' p)
    → AnswersAt own (RoseFor f f' fs fs') (table_of v) r m told (table_of v') → AnswersFrom limits (run_state v ms f fs) r told (run_state v' ms' f' fs')
answers_from limits own v v' ms ms' f f' fs fs' r m told bounds tells later parts_later answers =
    inr (m, tells, subst (λ (l : Limits). AnswersAt l (RoseFor f f' fs fs') (table_of v) r m told (table_of v')) bounds answers, record { faults = later; faults_of = parts_later })
