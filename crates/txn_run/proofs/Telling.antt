-- What stands after a line was told.
use Rattle.std.proofs.Common.{◌⊎◌, ◌↔◌, IsTrue, true≢false, ◌≡◌, ℕ, List, [], ◌∷◌, ◌++◌, take, Bool, true, false, Option, Result, Ok, Err, OnOk, OnErr, inl, inr, refl, sym, ap, ◌∙◌, subst, append_assoc, append-nil}
use Rattle.std.specs.Io.KnownBytes.{Appends}
use Rattle.std.proofs.KnownBytes.{Appends-nil, Appends-trans}
use Rattle.std.proofs.lemmas.Grind.{flat_map-append}
use Rattle.txn_base.specs.Outside.{PutsAll}
use Rattle.txn_base.specs.declared.limits.Limits.{Limits}
use Rattle.txn_base.specs.declared.reply.Reply.{Reply}
use Rattle.txn_base.specs.declared.reply.Reply.TheVariants as reply
use Rattle.txn_base.specs.declared.reply.Refusal.TheVariants as no
use Rattle.txn_model.specs.Replies.{RunState, LineKind, Replied, Replies, is_fault}
use Rattle.txn_wire.specs.Replies.{text_of}
use Rattle.txn_wire.specs.Short.{is_long}
use Rattle.txn_run.specs.Kinds.{line_kind, line_kinds}
use Rattle.txn_run.specs.Told.{SomeUnrebuilt, texts, OnlyAppends, EndsWithFault, ToldLine, ToldFront, ToldFault, AnsweredLines, ToldToFault, CutOff, IsToldFor, LineMayTell}

-- ---- one reply, or want of memory in its place

replied_instead : (limits : Limits) (s : RunState) (kind : LineKind) (r told : Reply) (s' : RunState) → LineMayTell limits s kind r s' → IsToldFor r told → Replied limits s kind (told ∷ []) s'
replied_instead limits s kind r told s' h (inl e) = subst (λ x. Replied limits s kind (x ∷ []) s') (sym e) h.told
replied_instead limits s kind r told s' h (inr e) = subst (λ x. Replied limits s kind (x ∷ []) s') (sym e.0) (h.instead e.1)

text_of_one : (told : Reply) → text_of told ≡ texts (told ∷ [])
text_of_one told = sym (append-nil (text_of told))

pub told_line : (limits : Limits) (s : RunState) (kind : LineKind) (r told : Reply) (s' : RunState) (old new : Option (List ℕ)) → LineMayTell limits s kind r s' → IsToldFor r told → Appends old new (text_of told) → ToldLine limits s kind s' old new
told_line limits s kind r told s' old new h stands put = (told ∷ [], replied_instead limits s kind r told s' h stands, subst (Appends old new) (text_of_one told) put)

pub told_front : (limits : Limits) (s : RunState) (kind : LineKind) (r told : Reply) (s' : RunState) (old new : Option (List ℕ)) (n : ℕ) → LineMayTell limits s kind r s' → IsToldFor r told → Appends old new (take n (text_of told)) → ToldFront limits s kind s' old new
told_front limits s kind r told s' old new n h stands put = (told, n, replied_instead limits s kind r told s' h stands, put)

-- ---- what a call's result says

pub puts_ok : {T E : Type 0} (old new : Option (List ℕ)) (r : Result T E) (bytes : List ℕ) (P : Type 0) → PutsAll old new r bytes → (Appends old new bytes → P) → OnOk r P
puts_ok old new (Ok x) bytes P h k = k h
puts_ok old new (Err e) bytes P h k = tt

pub puts_err : {T E : Type 0} (old new : Option (List ℕ)) (r : Result T E) (bytes : List ℕ) (P : Type 0) → PutsAll old new r bytes → ((n : ℕ) → Appends old new (take n bytes) → P) → OnErr r P
puts_err old new (Ok x) bytes P h k = tt
puts_err old new (Err e) bytes P h k = k h.0 h.2

-- ---- one more line

pub replies_push : (limits : Limits) (s : RunState) (kinds : List LineKind) (told : List Reply) (m : RunState) (kind : LineKind) (more : List Reply) (s' : RunState) → Replies limits s kinds told m → Replied limits m kind more s' → Replies limits s (kinds ++ kind ∷ []) (told ++ more) s'
replies_push limits s [] told m kind more s' h r =
    let here = subst (λ x. Replied limits x kind more s') h.1 r in
    (s', more, [], here, (refl, refl), ap (λ x. x ++ more) h.0 ∙ sym (append-nil more))
replies_push limits s (k ∷ ks) told m kind more s' (mid, first, rest, a, b, e) r =
    (mid, first, rest ++ more, a, replies_push limits mid ks rest m kind more s' b r, ap (λ x. x ++ more) e ∙ append_assoc first rest more)

kinds_push : (limits : Limits) (lines : List (List ℕ)) (line : List ℕ) → line_kinds limits (lines ++ line ∷ []) ≡ line_kinds limits lines ++ line_kind limits line ∷ []
kinds_push limits [] line = refl
kinds_push limits (l ∷ ls) line = ap (λ ks. line_kind limits l ∷ ks) (kinds_push limits ls line)

replies_line : (limits : Limits) (s : RunState) (lines : List (List ℕ)) (told : List Reply) (m : RunState) (line : List ℕ) (more : List Reply) (s' : RunState) → Replies limits s (line_kinds limits lines) told m → Replied limits m (line_kind limits line) more s'
    → Replies limits s (line_kinds limits (lines ++ line ∷ [])) (told ++ more) s'
replies_line limits s lines told m line more s' h r =
    subst (λ ks. Replies limits s ks (told ++ more) s') (sym (kinds_push limits lines line)) (replies_push limits s (line_kinds limits lines) told m (line_kind limits line) more s' h r)

pub told_push : (limits : Limits) (s : RunState) (lines : List (List ℕ)) (m : RunState) (line : List ℕ) (s' : RunState) (old mid new : Option (List ℕ)) → AnsweredLines limits s lines m old mid → ToldLine limits m (line_kind limits line) s' mid new → AnsweredLines limits s (lines ++ line ∷ []) s' old new
told_push limits s lines m line s' old mid new so (more, r, put) = record {
  told = so.told ++ more;
  replies = replies_line limits s lines so.told m line more s' so.replies r;
  put = subst (Appends old new) (sym (flat_map-append text_of so.told more)) (Appends-trans old mid new (texts so.told) (texts more) so.put put);
}

pub fault_push : (limits : Limits) (s : RunState) (lines : List (List ℕ)) (m : RunState) (line : List ℕ) (s' : RunState) (old mid new : Option (List ℕ)) → AnsweredLines limits s lines m old mid → ToldFault limits m (line_kind limits line) s' mid new → ToldToFault limits s (lines ++ line ∷ []) s' old new
fault_push limits s lines m line s' old mid new so (one, r, fault, unrebuilt, put) = record {
  told = so.told;
  last = one;
  replies = replies_line limits s lines so.told m line (one ∷ []) s' so.replies r;
  fault = fault;
  unrebuilt = unrebuilt;
  put = subst (Appends old new) (sym (flat_map-append text_of so.told (one ∷ []))) (Appends-trans old mid new (texts so.told) (texts (one ∷ [])) so.put put);
}

pub cut_off_push : (limits : Limits) (s : RunState) (lines : List (List ℕ)) (m : RunState) (line : List ℕ) (s' : RunState) (old mid new : Option (List ℕ)) → AnsweredLines limits s lines m old mid → ToldFront limits m (line_kind limits line) s' mid new → CutOff limits s (lines ++ line ∷ []) s' old new
cut_off_push limits s lines m line s' old mid new so (one, n, r, put) = record {
  told = so.told;
  last = one;
  count = n;
  replies = replies_line limits s lines so.told m line (one ∷ []) s' so.replies r;
  put = Appends-trans old mid new (texts so.told) (take n (text_of one)) so.put put;
}

-- ---- a fault that was told

-- A reply whose text is long tells of no fault.
pub long_no_fault : (r : Reply) → is_long r ≡ true → is_fault r ≡ true → ⊥
long_no_fault (reply.New a) long fault = cc
long_no_fault reply.Add long fault = cc
long_no_fault (reply.Publish a b) long fault = cc
long_no_fault reply.Ack long fault = cc
long_no_fault reply.AckUpTo long fault = cc
long_no_fault (reply.Ended a b) long fault = cc
long_no_fault (reply.Status a) long fault = cc
long_no_fault (reply.Read a b) long fault = cc
long_no_fault (reply.Receive a) long fault = cc
long_no_fault reply.Redeliver long fault = cc
long_no_fault (reply.Tick a b c) long fault = cc
long_no_fault reply.Stop long fault = cc
long_no_fault (reply.No no.TooLong) long fault = cc
long_no_fault (reply.No no.BadLine) long fault = cc
long_no_fault (reply.No no.BadTimeout) long fault = cc
long_no_fault (reply.No no.BadPlaces) long fault = cc
long_no_fault (reply.No no.TooBig) long fault = cc
long_no_fault (reply.No no.NoMemory) long fault = cc
long_no_fault (reply.No no.NotFound) long fault = cc
long_no_fault (reply.No no.Empty) long fault = cc
long_no_fault (reply.No (no.UnknownPart a)) long fault = cc
long_no_fault (reply.No (no.WrongKind a)) long fault = cc
long_no_fault (reply.No (no.UnknownCoordinator a)) long fault = cc
long_no_fault (reply.No (no.NotOpen a)) long fault = cc
long_no_fault (reply.No (no.NotRegistered a)) long fault = cc
long_no_fault (reply.No (no.Fault a)) long fault = cc
long_no_fault (reply.No (no.Recovering a b c)) long fault = cc
long_no_fault (reply.No (no.Damaged a b)) long fault = cc
long_no_fault (reply.No (no.Unread a b)) long fault = cc
long_no_fault (reply.No (no.AlreadyAcked a)) long fault = cc
long_no_fault (reply.No (no.Conflict a b)) long fault = cc
long_no_fault (reply.No (no.Full a b)) long fault = cc

pub told_fault : (limits : Limits) (s : RunState) (kind : LineKind) (r told : Reply) (s' : RunState) (old new : Option (List ℕ)) → LineMayTell limits s kind r s' → IsToldFor r told → is_fault r ≡ true → SomeUnrebuilt s'.table → Appends old new (text_of told) → ToldFault limits s kind s' old new
told_fault limits s kind r told s' old new h (inl e) fault unrebuilt put =
    (told, subst (λ x. Replied limits s kind (x ∷ []) s') (sym e) h.told, ap is_fault e ∙ fault, unrebuilt, subst (Appends old new) (text_of_one told) put)
told_fault limits s kind r told s' old new h (inr e) fault unrebuilt put = absurd (long_no_fault r e.1 fault)

-- an engine that isn't whole told a fault
pub not_whole : (P : Type 0) (whole fault : Bool) → whole ≡ false → IsTrue whole ↔ P → P ⊎ (fault ≡ true) → fault ≡ true
not_whole P whole fault e test (inl h) = absurd (true≢false (sym (test.1 h) ∙ e))
not_whole P whole fault e test (inr h) = h

-- ---- what was put, on every disk

pub grows_none : (a : Option (List ℕ)) → OnlyAppends a a
grows_none a = ([], Appends-nil a)

pub grows_then : (a b c : Option (List ℕ)) → OnlyAppends a b → OnlyAppends b c → OnlyAppends a c
grows_then a b c one two = (one.0 ++ two.0, Appends-trans a b c one.0 two.0 one.1 two.1)

pub puts_grow : {T E : Type 0} (old new : Option (List ℕ)) (r : Result T E) (bytes : List ℕ) → PutsAll old new r bytes → OnlyAppends old new
puts_grow old new (Ok x) bytes h = (bytes, h)
puts_grow old new (Err e) bytes h = (take h.0 bytes, h.2)

pub ends_with_fault : (r told : Reply) (old new : Option (List ℕ)) → IsToldFor r told → is_fault r ≡ true → Appends old new (text_of told) → EndsWithFault old new
ends_with_fault r told old new (inl e) fault put = record { before = []; last = told; fault = ap is_fault e ∙ fault; put = put }
ends_with_fault r told old new (inr e) fault put = absurd (long_no_fault r e.1 fault)

pub ends_after : (a b c : Option (List ℕ)) → OnlyAppends a b → EndsWithFault b c → EndsWithFault a c
ends_after a b c one two = record {
  before = one.0 ++ two.before;
  last = two.last;
  fault = two.fault;
  put = subst (Appends a c) (sym (append_assoc one.0 two.before (text_of two.last))) (Appends-trans a b c one.0 (two.before ++ text_of two.last) one.1 two.put);
}
