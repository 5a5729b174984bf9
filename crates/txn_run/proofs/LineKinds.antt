-- What a line is told, by what it is.
use Rattle.std.proofs.Common.{◌≡◌, ℕ, ◌<◌, ◌≤◌, List, [], ◌∷◌, length, true, false, true≢false, nat_lt, Option, Some, None, inl, inr, refl, sym, ap, ◌∙◌, arith}
use Rattle.std.proofs.lemmas.Bool.Decides.{nat_tests}
use Rattle.txn_base.specs.declared.limits.Limits.{Limits}
use Rattle.txn_base.specs.declared.request.Request.{Request}
use Rattle.txn_base.specs.declared.request.Request.TheVariants as request
use Rattle.txn_base.specs.declared.reply.Reply.{Reply}
use Rattle.txn_base.specs.declared.reply.Reply.TheVariants as reply
use Rattle.txn_base.specs.declared.reply.Refusal.TheVariants as no
use Rattle.txn_model.specs.Cut.{is_blank}
use Rattle.txn_model.specs.Replies.{RunState, too_long, blank, form, Replied, AnswersFrom}
use Rattle.txn_wire.specs.Lines.{request_of, AsksForSome}
use Rattle.txn_wire.specs.Short.{is_long}
use Rattle.txn_engine.specs.Told.{IsAsked}
use Rattle.txn_run.specs.Kinds.{is_answered, if_answered, asked_of, line_kind}
use Rattle.txn_run.specs.Told.{LineMayTell}

lt_true : (m n : ℕ) → m < n → nat_lt m n ≡ true
lt_true m n h = grind (arith, nat_tests)

lt_false : (m n : ℕ) → n ≤ m → nat_lt m n ≡ false
lt_false m n h = grind (arith, nat_tests)

-- a form that is answered, of a line that asks for something
pub asked_here : (r : Request) → is_answered r ≡ true → AsksForSome r → IsAsked r
asked_here (request.New timeout) is some = tt
asked_here (request.Add x part) is some = tt
asked_here (request.Publish topic who bodies) is some = some
asked_here (request.Commit x) is some = tt
asked_here (request.Abort x) is some = tt
asked_here (request.Status x) is some = tt
asked_here (request.Read topic first max) is some = some
asked_here (request.Ack sub x places) is some = absurd (true≢false (sym is))
asked_here (request.AckUpTo sub x place) is some = absurd (true≢false (sym is))
asked_here (request.Receive sub max) is some = absurd (true≢false (sym is))
asked_here (request.Redeliver sub) is some = absurd (true≢false (sym is))
asked_here request.Tick is some = absurd (true≢false (sym is))
asked_here request.Stop is some = absurd (true≢false (sym is))

module _ (limits : Limits) (piece : List ℕ) where
  kind_long : limits.line < length piece → line_kind limits piece ≡ too_long
  kind_long h = rw (lt_true limits.line (length piece) h) refl

  kind_blank : length piece ≤ limits.line → is_blank piece ≡ true → line_kind limits piece ≡ blank
  kind_blank h e = rw (lt_false limits.line (length piece) h, e) refl

  kind_form : (o : Option Request) → length piece ≤ limits.line → is_blank piece ≡ false → asked_of piece ≡ o → line_kind limits piece ≡ form o
  kind_form o h e asked = rw (lt_false limits.line (length piece) h, e, asked) refl

  module _ (s : RunState) where
    pub long_told : limits.line < length piece → LineMayTell limits s (line_kind limits piece) (reply.No no.TooLong) s
    long_told h = rw (kind_long h) (record { told = (refl, refl); instead = λ long. cc })

    pub blank_told : length piece ≤ limits.line → is_blank piece ≡ true → Replied limits s (line_kind limits piece) [] s
    blank_told h e = rw (kind_blank h e) (refl, refl)

    none_told : LineMayTell limits s (form None) (reply.No no.BadLine) s
    none_told = record { told = (inl refl, refl); instead = λ long. cc }

    -- want of memory may be told of every form
    memory_told : (o : Option Request) → Replied limits s (form o) (reply.No no.NoMemory ∷ []) s
    memory_told None = (inr refl, refl)
    memory_told (Some r) = (reply.No no.NoMemory, refl, inl (refl, refl))

    pub bad_told : length piece ≤ limits.line → is_blank piece ≡ false → request_of piece ≡ None → LineMayTell limits s (line_kind limits piece) (reply.No no.BadLine) s
    bad_told h e none = rw (kind_form None h e (ap if_answered none)) none_told

    unanswered : (r : Request) → is_answered r ≡ false → if_answered (Some r) ≡ None
    unanswered r e = rw e refl

    answered : (r : Request) → is_answered r ≡ true → if_answered (Some r) ≡ Some r
    answered r e = rw e refl

    pub unanswered_told : (r : Request) → length piece ≤ limits.line → is_blank piece ≡ false → request_of piece ≡ Some r → is_answered r ≡ false → LineMayTell limits s (line_kind limits piece) (reply.No no.BadLine) s
    unanswered_told r h e asked not_answered = rw (kind_form None h e (ap if_answered asked ∙ unanswered r not_answered)) none_told

    pub no_memory_told : length piece ≤ limits.line → is_blank piece ≡ false → LineMayTell limits s (line_kind limits piece) (reply.No no.NoMemory) s
    no_memory_told h e = rw (kind_form (asked_of piece) h e refl) (record { told = memory_told (asked_of piece); instead = λ long. memory_told (asked_of piece) })

    pub answer_told : (r : Request) (told : Reply) (s' : RunState) → length piece ≤ limits.line → is_blank piece ≡ false → request_of piece ≡ Some r → is_answered r ≡ true → AnswersFrom limits s r told s' → (is_long told ≡ true → AnswersFrom limits s r (reply.No no.NoMemory) s') → LineMayTell limits s (line_kind limits piece) told s'
    answer_told r told s' h e asked is answers instead = rw (kind_form (Some r) h e (ap if_answered asked ∙ answered r is)) (record { told = (told, refl, answers); instead = λ long. (reply.No no.NoMemory, refl, instead long) })
