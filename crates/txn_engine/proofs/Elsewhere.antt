-- What a call of one part leaves of the others.
use Rattle.std.proofs.Common.{◌≡◌, ℕ, zero, suc, ◌+◌, ◌<◌, ◌≤◌, List, [], ◌∷◌, All, refl, sym, ap, ◌∙◌, subst, arith}
use Rattle.std.proofs.lemmas.List.Elements.{All-head, All-tail, All-cons, All-nil}
use Rattle.txn_base.specs.declared.file_id.FileId.{FileId}
use Rattle.txn_base.specs.declared.limits.Limits.{Limits}
use Rattle.txn_base.specs.Content.{LedgerContent, KeptOrNot}
use Rattle.txn_base.specs.Disk.{Files}
use Rattle.txn_base.specs.Frames.{Stands}
use Rattle.txn_ledger.specs.Ledger.{StandsIn, Stored}
use Rattle.txn_model.specs.Sound.{ledger_file}
use Rattle.txn_buffer.specs.View.{TopicView}
use Rattle.txn_engine.specs.Kept.{AreTopics, IsEngine}
use Rattle.txn_engine.specs.View.{EngineView, IsBacked, replaced}

pub files_apart : (p q : ℕ) → (p ≡ q → ⊥) → ledger_file p ≡ ledger_file q → ⊥
files_apart p q ne e = ne (ap (λ (f : FileId). f.part) e)

-- Where the call was for part p, and what P says of a ledger in another file, Q says of it afterwards.
module _ (P Q : LedgerContent → Type 0) (p : ℕ) (kept : (k : LedgerContent) → (k.key ≡ ledger_file p → ⊥) → P k → Q k) where
  -- of the coordinator
  pub other_coord : 1 ≤ p → (k : LedgerContent) → k.key ≡ ledger_file 0 → P k → Q k
  other_coord some k key h = kept k (λ same. files_apart 0 p (λ e. never p some e) (sym key ∙ same)) h
    where
      never : (p : ℕ) → 1 ≤ p → 0 ≡ p → ⊥
      never p some e = omega (arith, some, e)

  -- of topics from a later part on
  pub other_topics : (limits : Limits) (k : ℕ) (ts : List TopicView) → p < k → AreTopics limits k ts → All (λ t. P t.content) ts → All (λ t. Q t.content) ts
  other_topics limits k [] past are all = All-nil (λ t. Q t.content)
  other_topics limits k (t ∷ ts) past are all =
      All-cons (λ t. Q t.content) t ts
      (kept t.content (λ same. files_apart k p (λ e. never k e past) (sym are.0.key ∙ same)) (All-head (λ t. P t.content) t ts all))
      (other_topics limits (suc k) ts (omega (arith, past)) are.1 (All-tail (λ t. P t.content) t ts all))
    where
      never : (k : ℕ) → k ≡ p → p < k → ⊥
      never k e past = omega (arith, past, e)

  -- of topics, with the one that was called
  pub other_topics_but : (limits : Limits) (k j : ℕ) (ts : List TopicView) (t : TopicView) → p ≡ k + j → Q t.content → AreTopics limits k ts → All (λ t. P t.content) ts → All (λ t. Q t.content) (replaced ts j t)
  other_topics_but limits k j [] t is here are all = All-nil (λ t. Q t.content)
  other_topics_but limits k zero (u ∷ us) t is here are all =
      All-cons (λ t. Q t.content) t us here (other_topics limits (suc k) us (omega (arith, is)) are.1 (All-tail (λ t. P t.content) u us all))
  other_topics_but limits k (suc j) (u ∷ us) t is here are all =
      All-cons (λ t. Q t.content) u (replaced us j t)
      (kept u.content (λ same. files_apart k p (λ e. never k j is e) (sym are.0.key ∙ same)) (All-head (λ t. P t.content) u us all))
      (other_topics_but limits (suc k) j us t (omega (arith, is)) here are.1 (All-tail (λ t. P t.content) u us all))
    where
      never : (k j : ℕ) → p ≡ k + suc j → k ≡ p → ⊥
      never k j is e = omega (arith, is, e)

-- ---- In an image, each ledger's file has its batches, with that in flight or without.

abbrev pub Held : Files → LedgerContent → Type 0
Held c k = KeptOrNot (StandsIn k.key c) k.batches k.standing

pub record Holds (v : EngineView) (c : Files) : Type 0 where
  pub coord : Held c v.coord.content
  pub topics : All (λ t. Held c t.content) v.topics

pub backed_holds : (image : Files → Type 0) (v : EngineView) → IsBacked image v → (c : Files) → image c → Holds v c
backed_holds image v backed c at = record { coord = backed.coord.each c at; topics = all v.topics backed.topics }
  where
    all : (ts : List TopicView) → All (λ t. Stored image t.content) ts → All (λ t. Held c t.content) ts
    all [] h = All-nil (λ t. Held c t.content)
    all (t ∷ ts) h = All-cons (λ t. Held c t.content) t ts ((All-head (λ t. Stored image t.content) t ts h).each c at) (all ts (All-tail (λ t. Stored image t.content) t ts h))

-- where no other file changed
pub held_still : (p : ℕ) (d c : Files) → ((other : FileId) → (other ≡ ledger_file p → ⊥) → c other ≡ d other) → (k : LedgerContent) → (k.key ≡ ledger_file p → ⊥) → Held d k → Held c k
held_still p d c others k apart h = subst (λ (bytes : List ℕ). KeptOrNot (Stands bytes) k.batches k.standing) (sym (others k.key apart)) h
