-- Each record is that of one entry.
use Rattle.std.proofs.Common.{◌≡◌, ℕ, ◌^◌, ◌<◌, ◌≤◌, arith, List, [], ◌∷◌, ◌++◌, length, length-append, drop, refl, sym, ap, ◌∙◌, append_assoc, append-nil}
use Rattle.txn_model.proofs.Words.{All, flat_map, TxnId, CoordEntry, TopicEntry, AckEntry}
use Rattle.std.proofs.lemmas.List.{drop_at}
use Rattle.std.proofs.lemmas.List.Elements.{All-head, All-tail}
use Rattle.byteorder.specs.Endian.{big_bytes, big_number}
use Rattle.byteorder.specs.Numbers.{big_number-reads_back, length-bytes_high_first}
use Rattle.txn_base.specs.declared.entry.CoordEntry.TheVariants as coord
use Rattle.txn_base.specs.declared.entry.TopicEntry.TheVariants as topic
use Rattle.txn_base.specs.declared.entry.AckEntry.TheVariants as ack
use Rattle.txn_base.specs.Bytes.{only_bytes}
use Rattle.txn_base.specs.Entries.{bare}
use Rattle.txn_base.specs.Frames.{Record}
use Rattle.txn_base.specs.Records.{IsWord, txn_bytes, IsTxnId, places_bytes, ArePlaces, coord_record, IsCoordEntry, IsCoordRecord, topic_record, IsTopicEntry, ack_record, IsAckEntry, IsAckRecord}
use Rattle.txn_base.specs.Decoded.{txn_at_front, words_at_front, places_at_front, coord_entry_of, topic_entry_of, ack_entry_of}
use Rattle.txn_model.specs.Sound.{IsBareRecord}

-- ---- Fields.

word_read : (n : ℕ) (rest : List ℕ) → IsWord n → big_number 8 (big_bytes 8 n ++ rest) ≡ n
word_read n rest small = big_number-reads_back 8 n rest small

word_alone : (n : ℕ) → IsWord n → big_number 8 (big_bytes 8 n) ≡ n
word_alone n small = ap (big_number 8) (sym (append-nil (big_bytes 8 n))) ∙ word_read n [] small

behind_word : (n : ℕ) (rest : List ℕ) → drop 8 (big_bytes 8 n ++ rest) ≡ rest
behind_word n rest = drop_at (big_bytes 8 n) rest 8 (length-bytes_high_first 8 n)

txn_read : (x : TxnId) (rest : List ℕ) → IsTxnId x → txn_at_front (txn_bytes x ++ rest) ≡ x
txn_read x rest is =
    ap txn_at_front (append_assoc (big_bytes 8 x.most) (big_bytes 8 x.least) rest)
    ∙ both (word_read x.most (big_bytes 8 x.least ++ rest) is.most) (ap (big_number 8) (behind_word x.most (big_bytes 8 x.least ++ rest)) ∙ word_read x.least rest is.least)
  where
    both : {m m' l l' : ℕ} → m ≡ m' → l ≡ l' → (let one : TxnId = record { most = m; least = l } in one) ≡ record { most = m'; least = l' }
    both e f = λ i. record { most = e i; least = f i }

txn_alone : (x : TxnId) → IsTxnId x → txn_at_front (txn_bytes x) ≡ x
txn_alone x is = ap txn_at_front (sym (append-nil (txn_bytes x))) ∙ txn_read x [] is

behind_txn : (x : TxnId) (rest : List ℕ) → drop 16 (txn_bytes x ++ rest) ≡ rest
behind_txn x rest =
    drop_at (txn_bytes x) rest 16
    (omega (arith, length-append (big_bytes 8 x.most) (big_bytes 8 x.least), length-bytes_high_first 8 x.most, length-bytes_high_first 8 x.least))

words_read : (ps : List ℕ) (rest : List ℕ) → All IsWord ps → words_at_front (length ps) (flat_map (big_bytes 8) ps ++ rest) ≡ ps
words_read [] rest are = refl
words_read (p ∷ ps) rest are =
    ap (words_at_front (length (p ∷ ps))) (append_assoc (big_bytes 8 p) (flat_map (big_bytes 8) ps) rest)
    ∙ both (word_read p (flat_map (big_bytes 8) ps ++ rest) (All-head IsWord p ps are))
    (ap (words_at_front (length ps)) (behind_word p (flat_map (big_bytes 8) ps ++ rest)) ∙ words_read ps rest (All-tail IsWord p ps are))
  where
    both : {q q' : ℕ} {qs qs' : List ℕ} → q ≡ q' → qs ≡ qs' → q ∷ qs ≡ q' ∷ qs'
    both e f = λ i. e i ∷ f i

places_read : (ps : List ℕ) → ArePlaces ps → places_at_front (places_bytes ps) ≡ ps
places_read ps are =
    both (big_number-reads_back 2 (length ps) (flat_map (big_bytes 8) ps) (few_enough (length ps) are.few))
    (drop_at (big_bytes 2 (length ps)) (flat_map (big_bytes 8) ps) 2 (length-bytes_high_first 2 (length ps)) ∙ sym (append-nil (flat_map (big_bytes 8) ps)))
    ∙ words_read ps [] are.each
  where
    both : {n n' : ℕ} {bs bs' : List ℕ} → n ≡ n' → bs ≡ bs' → words_at_front n bs ≡ words_at_front n' bs'
    both e f = λ i. words_at_front (e i) (f i)

    few_enough : (n : ℕ) → n ≤ 256 → n < 256 ^ 2
    few_enough n h = omega (arith, h)

-- ---- Entries.

pub coord_decoded : (e : CoordEntry) → IsCoordEntry e → coord_entry_of (coord_record e) ≡ e
coord_decoded (coord.New x deadline) is =
    let at : big_number 8 (drop 16 (txn_bytes x ++ big_bytes 8 deadline)) ≡ deadline = ap (big_number 8) (behind_txn x (big_bytes 8 deadline)) ∙ word_alone deadline is.1 in
    λ i. coord.New (txn_read x (big_bytes 8 deadline) is.0 i) (at i)
coord_decoded (coord.AddPart x part) is =
    let at : big_number 4 (drop 16 (txn_bytes x ++ big_bytes 4 part)) ≡ part =
    ap (big_number 4) (behind_txn x (big_bytes 4 part) ∙ sym (append-nil (big_bytes 4 part))) ∙ big_number-reads_back 4 part [] (small part is.2) in
    λ i. coord.AddPart (txn_read x (big_bytes 4 part) is.0 i) (at i)
  where
    small : (n : ℕ) → n ≤ 62 → n < 256 ^ 4
    small n h = omega (arith, h)
coord_decoded (coord.Committing x) is = ap coord.Committing (txn_alone x is)
coord_decoded (coord.Committed x) is = ap coord.Committed (txn_alone x is)
coord_decoded (coord.Aborting x) is = ap coord.Aborting (txn_alone x is)
coord_decoded (coord.Aborted x) is = ap coord.Aborted (txn_alone x is)

pub topic_decoded : (e : TopicEntry) → IsTopicEntry e → topic_entry_of (topic_record e) ≡ bare e
topic_decoded (topic.Plain body) is = refl
topic_decoded (topic.Opened x body) is = λ i. topic.Opened (txn_read x body.bytes is.0 i) (only_bytes (behind_txn x body.bytes i))
topic_decoded (topic.Commit x) is = ap topic.Commit (txn_alone x is)
topic_decoded (topic.Abort x) is = ap topic.Abort (txn_alone x is)

pub ack_decoded : (e : AckEntry) → IsAckEntry e → ack_entry_of (ack_record e) ≡ e
ack_decoded (ack.Plain places) is = ap ack.Plain (places_read places is)
ack_decoded (ack.PlainUpTo place) is = ap ack.PlainUpTo (word_alone place is)
ack_decoded (ack.Hold x places) is =
    let at : places_at_front (drop 16 (txn_bytes x ++ places_bytes places)) ≡ places = ap places_at_front (behind_txn x (places_bytes places)) ∙ places_read places is.1 in
    λ i. ack.Hold (txn_read x (places_bytes places) is.0 i) (at i)
ack_decoded (ack.HoldUpTo x place) is =
    let at : big_number 8 (drop 16 (txn_bytes x ++ big_bytes 8 place)) ≡ place = ap (big_number 8) (behind_txn x (big_bytes 8 place)) ∙ word_alone place is.1 in
    λ i. ack.HoldUpTo (txn_read x (big_bytes 8 place) is.0 i) (at i)
ack_decoded (ack.Commit x) is = ap ack.Commit (txn_alone x is)
ack_decoded (ack.Abort x) is = ap ack.Abort (txn_alone x is)

-- ---- Records.

pub coord_of : (r : Record) (e : CoordEntry) → IsCoordRecord r e → coord_entry_of r ≡ e
coord_of r e is = ap coord_entry_of is.bytes_are ∙ coord_decoded e is.fits

pub topic_of_record : (r : Record) (e : TopicEntry) → IsBareRecord r e → topic_entry_of r ≡ e
topic_of_record r e is = ap topic_entry_of is.of_entry.bytes_are ∙ topic_decoded e is.of_entry.fits ∙ is.no_room

pub ack_of_record : (r : Record) (e : AckEntry) → IsAckRecord r e → ack_entry_of r ≡ e
ack_of_record r e is = ap ack_entry_of is.bytes_are ∙ ack_decoded e is.fits
