-- The bytes of ends, one after another.
use Rattle.std.proofs.Common.{◌≡◌, ℕ, zero, suc, ◌+◌, ◌-◌, ◌*◌, ◌<◌, ◌≤◌, ◌^◌, List, [], ◌∷◌, ◌++◌, length, get_or, refl, sym, ap, ◌∙◌, arith, subst, inl, inr}
use Rattle.std.specs.Prelude.{All, AllPairs}
use Rattle.std.specs.List.{flat_map}
use Rattle.std.proofs.lemmas.List.{append_assoc, append-nil}
use Rattle.std.proofs.lemmas.List.Elements.{All-push}
use Rattle.std.proofs.lemmas.List.Concat.{flat_map-append}
use Rattle.byteorder.specs.Endian.{big_bytes, big_number}
use Rattle.byteorder.specs.Numbers.{big_number-reads_back}
use Rattle.txn_base.specs.declared.txn.TxnId.{TxnId}
use Rattle.txn_base.specs.declared.txn.Decision.{Decision}
use Rattle.txn_base.specs.Records.{IsEnd, end_bytes}
use Rattle.txn_base.specs.Snapshots.{ComesBefore}
use Rattle.txn_records.specs.EndsRead.{AddsEnds, AddsRecord, AreEnds, AreCounted, counted_ends}

-- So far these ends were read of the bytes, and the rest is to come.
pub record ReadsEnds (before after : List (TxnId × Decision)) (bytes rest : List ℕ) : Type 0 where
  pub ends : List (TxnId × Decision)
  pub after_is : after ≡ before ++ ends
  pub bytes_are : bytes ≡ flat_map end_bytes ends ++ rest
  pub each : All IsEnd ends

pub reads_none : (before : List (TxnId × Decision)) (bytes : List ℕ) → ReadsEnds before before bytes bytes
reads_none before bytes = record { ends = []; after_is = sym (append-nil before); bytes_are = refl; each = λ k d below. absurd (omega arith) }

pub reads_more : (before after now : List (TxnId × Decision)) (bytes rest behind : List ℕ) (end : TxnId × Decision)
    → ReadsEnds before after bytes rest → now ≡ after ++ end ∷ [] → rest ≡ end_bytes end ++ behind → IsEnd end → ReadsEnds before now bytes behind
reads_more before after now bytes rest behind end reads pushed split is = record {
  ends = reads.ends ++ end ∷ [];
  after_is = pushed ∙ ap (λ (l : List (TxnId × Decision)). l ++ end ∷ []) reads.after_is ∙ append_assoc before reads.ends (end ∷ []);
  bytes_are =
      reads.bytes_are ∙ ap (λ (l : List ℕ). flat_map end_bytes reads.ends ++ l) split
      ∙ sym (append_assoc (flat_map end_bytes reads.ends) (end_bytes end) behind)
      ∙ ap (λ (l : List ℕ). l ++ behind) (sym (flat_map-append end_bytes reads.ends (end ∷ []) ∙ ap (λ (l : List ℕ). flat_map end_bytes reads.ends ++ l) (append-nil (end_bytes end))));
  each = All-push IsEnd reads.ends end reads.each is;
}

-- where some ends are left, the first stands in front
pub ends_left : (rest : List ℕ) (more : List (TxnId × Decision)) → 0 < length rest → rest ≡ flat_map end_bytes more → (end : TxnId × Decision) × (after : List (TxnId × Decision)) × (rest ≡ end_bytes end ++ flat_map end_bytes after)
ends_left rest [] some e = absurd (omega (arith, ap length e))
ends_left rest (end ∷ after) some e = (end, after, e)

-- so many bytes have the ends
pub items_length : (ends : List (TxnId × Decision)) → length (flat_map end_bytes ends) ≡ 17 * length ends
items_length [] = refl
items_length (end ∷ ends) = omega (arith, items_length ends)

pub ends_length : (ends : List (TxnId × Decision)) → length (counted_ends ends) ≡ 17 * length ends + 2
ends_length ends = omega (arith, items_length ends)

pub ends_count : (ends : List (TxnId × Decision)) → length ends ≤ 3000 → big_number 2 (counted_ends ends) ≡ length ends
ends_count ends few = big_number-reads_back 2 (length ends) (flat_map end_bytes ends) (omega arith)

-- a record of ends, put together
pub record_joined : (bytes items : List ℕ) (count : ℕ) (before after : List (TxnId × Decision)) → bytes ≡ 1 ∷ 2 ∷ (big_bytes 2 count ++ items) → length items ≡ 17 * count → AddsEnds before after items → AddsRecord before after bytes count
record_joined bytes items count before after split size adds =
    let counted : length adds.ends ≡ count = omega (arith, ap length adds.bytes_are, items_length adds.ends, size) in
    record {
      ends = adds.ends;
      after_is = adds.after_is;
      bytes_are = split ∙ ap (λ (l : List ℕ). 1 ∷ 2 ∷ (big_bytes 2 count ++ l)) adds.bytes_are ∙ ap (λ (n : ℕ). 1 ∷ 2 ∷ (big_bytes 2 n ++ flat_map end_bytes adds.ends)) (sym counted);
      count_is = counted;
      each = adds.each;
    }

-- an order by the most significant number and then the least
before_trans : (x y z : TxnId) → ComesBefore x y → ComesBefore y z → ComesBefore x z
before_trans x y z (inl a) (inl b) = inl (omega arith)
before_trans x y z (inl a) (inr b) = inl (omega (arith, b.0))
before_trans x y z (inr a) (inl b) = inl (omega (arith, a.0))
before_trans x y z (inr a) (inr b) = inr (a.0 ∙ b.0, omega (arith, a.1, b.1))

-- what ascends from each to the next ascends
pub ascends : (ends : List (TxnId × Decision)) → ((k : ℕ) (d : TxnId × Decision) → k + 1 < length ends → ComesBefore (get_or ends k d).0 (get_or ends (k + 1) d).0) → AllPairs (λ a b. ComesBefore a.0 b.0) ends
ascends ends next i j d lower upper = up (j - (i + 1)) i j (omega arith) upper
  where
    up : (n i j : ℕ) → j ≡ i + 1 + n → j < length ends → ComesBefore (get_or ends i d).0 (get_or ends j d).0
    up zero i j e upper = let same : i + 1 ≡ j = omega arith in subst (λ (k : ℕ). ComesBefore (get_or ends i d).0 (get_or ends k d).0) same (next i d (omega arith))
    up (suc n) i j e upper =
        before_trans (get_or ends i d).0 (get_or ends (i + 1) d).0 (get_or ends j d).0 (next i d (omega arith)) (up n (i + 1) j (omega arith) upper)

-- all the bytes were read, and they are so many
pub ends_all : (found : List (TxnId × Decision)) (bytes rest : List ℕ) (count : ℕ) → ReadsEnds [] found bytes rest → length rest ≡ 0 → length bytes ≡ 17 * count → AreEnds bytes count
ends_all found bytes rest count reads none size =
    let whole : bytes ≡ flat_map end_bytes reads.ends = reads.bytes_are ∙ ap (λ (l : List ℕ). flat_map end_bytes reads.ends ++ l) (empty rest none) ∙ append-nil (flat_map end_bytes reads.ends) in
    record { ends = reads.ends; bytes_are = whole; count_is = omega (arith, ap length whole, items_length reads.ends, size); each = reads.each }
  where
    empty : (l : List ℕ) → length l ≡ 0 → l ≡ []
    empty [] e = refl
    empty (b ∷ bs) e = absurd (omega arith)

-- ends behind their count
pub counted_all : (fields items : List ℕ) (count : ℕ) → fields ≡ big_bytes 2 count ++ items → count < 2 ^ 16 → AreEnds items count → AreCounted fields
counted_all fields items count split fits are = record {
  ends = are.ends;
  bytes_are = split ∙ ap (λ (l : List ℕ). big_bytes 2 count ++ l) are.bytes_are ∙ ap (λ (n : ℕ). big_bytes 2 n ++ flat_map end_bytes are.ends) (sym are.count_is);
  count_fits = omega (arith, are.count_is, fits);
  each = are.each;
}
