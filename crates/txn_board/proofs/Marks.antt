-- What an entry more changes of what the lists say, and of the words.
use Rattle.std.proofs.Common.{◌≡◌, ℕ, zero, suc, ◌+◌, ◌*◌, ◌^◌, ◌<◌, ◌≤◌, arith, ◌==◌, Bool, true, false, ◌&&◌, ◌||◌, if◌then◌else◌, List, [], ◌∷◌, ◌++◌, set, Some, None, refl, sym, ap, ◌∙◌, subst, max}
use Rattle.std.specs.Prelude.{Option, nat_le, nat_lt, slice_index}
use Rattle.std.specs.Int.{bit_at}
use Rattle.std.specs.Int.Bits.{bit_or}
use Rattle.std.specs.List.{list_any}
use Rattle.std.proofs.Math.Bool.{or-false}
use Rattle.std.proofs.Math.Nat.{max-zero}
use Rattle.std.proofs.lemmas.Bool.{eq-eqb, ne_eqb, eqb-true, ltb-true, leb-true, lt-ltb, le-leb}
use Rattle.std.proofs.lemmas.List.{get_or-set_same, get_or-set_other, length-set}
use Rattle.std.proofs.lemmas.List.Folds.{list_any-append}
use Rattle.std.proofs.lemmas.Nat.Bits.{bit_at_or, bit_at-lt, bit_at-pow_same, bit_at-pow_other}
use native.Mathlib.Decide.{ℕ_discrete}
use Rattle.txn_base.specs.declared.core_entry.CoreEntry.{CoreEntry}
use Rattle.txn_base.specs.declared.txn.TxnId.{TxnId}
use Rattle.txn_model.specs.Deadlines.{txn}
use Rattle.txn_model.proofs.Laws.Tests.{no_true, and_l, and_r, and_both}
use Rattle.txn_board.specs.declared.words.Word.{Word}
use Rattle.txn_board.specs.declared.words.Word.TheVariants.{Registered, Decided, Done}
use Rattle.txn_board.specs.declared.words.Mark.{Mark}
use Rattle.txn_board.specs.Words.{IsIn, is_in, offset, word_at, as_bit, sets, teller, tells, WordsSay, mark_of, set_bit, with_mark, with_more}
use Rattle.txn_board.proofs.Hits.{same_word, hit_by, hits}

pub told_more : (lists : ℕ → List CoreEntry) (p : ℕ) (es : List CoreEntry) (x : TxnId) (w : Word) (i : ℕ) → tells (with_more lists p es) x w i ≡ (tells lists x w i || (teller w i == p && list_any (sets w i x) es))
told_more lists p es x w i = go (teller w i == p)
  where
    go : (b : Bool) → list_any (sets w i x) (if b then lists (teller w i) ++ es else lists (teller w i)) ≡ (list_any (sets w i x) (lists (teller w i)) || (b && list_any (sets w i x) es))
    go true = list_any-append (sets w i x) (lists (teller w i)) es
    go false = sym (or-false (list_any (sets w i x) (lists (teller w i))))

pub in_by : (first count x : ℕ) → IsIn first count x → is_in first count x ≡ true
in_by first count x h = and_both (nat_le first x) (nat_lt x (first + count)) (le-leb first x h.least) (lt-ltb x (first + count) h.most)

pub in_of : (first count x : ℕ) → is_in first count x ≡ true → IsIn first count x
in_of first count x h = record { least = leb-true first x (and_l (nat_le first x) (nat_lt x (first + count)) h); most = ltb-true x (first + count) (and_r (nat_le first x) (nat_lt x (first + count)) h) }

pub offset_small : (w : Word) → offset w < 3
offset_small Registered = omega arith
offset_small Decided = omega arith
offset_small Done = omega arith

pub same_offset : (w v : Word) → offset w ≡ offset v → same_word w v ≡ true
same_offset Registered Registered e = refl
same_offset Registered Decided e = absurd (omega (arith, e))
same_offset Registered Done e = absurd (omega (arith, e))
same_offset Decided Registered e = absurd (omega (arith, e))
same_offset Decided Decided e = refl
same_offset Decided Done e = absurd (omega (arith, e))
same_offset Done Registered e = absurd (omega (arith, e))
same_offset Done Decided e = absurd (omega (arith, e))
same_offset Done Done e = refl

same_word_is : (w v : Word) → same_word w v ≡ true → w ≡ v
same_word_is Registered Registered e = refl
same_word_is Registered Decided e = absurd (no_true e)
same_word_is Registered Done e = absurd (no_true e)
same_word_is Decided Registered e = absurd (no_true e)
same_word_is Decided Decided e = refl
same_word_is Decided Done e = absurd (no_true e)
same_word_is Done Registered e = absurd (no_true e)
same_word_is Done Decided e = absurd (no_true e)
same_word_is Done Done e = refl

pub place_within : (first count x : ℕ) (w : Word) → IsIn first count x → word_at first x w < 3 * count
place_within first count x w h = omega (arith, h.least, h.most, offset_small w)

-- words at one place are the same word of the same transaction
same_place : (first x y : ℕ) (w v : Word) → first ≤ x → first ≤ y → word_at first x w ≡ word_at first y v → (x ≡ y) × (offset w ≡ offset v)
same_place first x y w v a b e = (omega (arith, a, b, e, offset_small w, offset_small v), omega (arith, a, b, e, offset_small w, offset_small v))

bit_is : (n : ℕ) (b : Bool) (p : ℕ) → bit_at n p ≡ as_bit b → max (bit_at n p) 1 ≡ 1
bit_is n b p e = go (bit_at n p) (bit_at-lt n p)
  where
    go : (k : ℕ) → k < 2 → max k 1 ≡ 1
    go zero h = refl
    go (suc zero) h = refl
    go (suc (suc k)) h = absurd (omega (arith, h))

as_true : (a b : Bool) → b ≡ true → as_bit (a || b) ≡ 1
as_true true b e = refl
as_true false b e = ap as_bit e

as_false : (a b : Bool) → b ≡ false → as_bit (a || b) ≡ as_bit a
as_false a b e = ap (λ u. as_bit (a || u)) e ∙ ap as_bit (or-false a)

true_or : (b : Bool) → (b ≡ true → ⊥) → b ≡ false
true_or true h = absurd (h refl)
true_or false h = refl

module _ (first count : ℕ) (words : List ℕ) (lists lists' : ℕ → List CoreEntry) (say : WordsSay first count words lists) where
  -- an entry that sets no bit
  says_same : ((x : ℕ) (w : Word) (i : ℕ) → IsIn first count x → i < 64 → tells lists' (txn x) w i ≡ tells lists (txn x) w i) → WordsSay first count words lists'
  says_same same = record { size = say.size; bits = λ x w i inside lt. say.bits x w i inside lt ∙ ap as_bit (sym (same x w i inside lt)) }

  -- an entry that sets one
  says_bit : (m : Mark) → IsIn first count m.txn → ((x : ℕ) (w : Word) (i : ℕ) → i < 64 → tells lists' (txn x) w i ≡ (tells lists (txn x) w i || hit_by (Some m) x w i))
      → WordsSay first count (set_bit words (word_at first m.txn m.word) m.bit) lists'
  says_bit m inside more = record { size = length-set words at new ∙ say.size; bits = λ x w i here lt. go x w i here lt (ℕ_discrete (word_at first x w) at) }
    where
      at : ℕ
      at = word_at first m.txn m.word

      old : ℕ
      old = slice_index words at

      new : ℕ
      new = bit_or old (2 ^ m.bit)

      go : (x : ℕ) (w : Word) (i : ℕ) → IsIn first count x → i < 64 → Dec (word_at first x w ≡ at) → bit_at (slice_index (set words at new) (word_at first x w)) i ≡ as_bit (tells lists' (txn x) w i)
      go x w i here lt (no n) =
          let miss : hit_by (Some m) x w i ≡ false = true_or (hit_by (Some m) x w i) (λ h.
          let front = and_l (x == m.txn && same_word w m.word) (i == m.bit) h in
          let e1 : x ≡ m.txn = eqb-true x m.txn (and_l (x == m.txn) (same_word w m.word) front) in
          let e2 : w ≡ m.word = same_word_is w m.word (and_r (x == m.txn) (same_word w m.word) front) in
          n (ap (λ y. word_at first y w) e1 ∙ ap (λ v. word_at first m.txn v) e2)) in
          ap (λ k. bit_at k i) (get_or-set_other words at (word_at first x w) new 0 n) ∙ (say.bits x w i here lt ∙ sym (ap as_bit (more x w i lt) ∙ as_false (tells lists (txn x) w i) (hit_by (Some m) x w i) miss))
      go x w i here lt (yes e) =
          let s = same_place first x m.txn w m.word here.least inside.least e in
          let front : (x == m.txn && same_word w m.word) ≡ true = and_both (x == m.txn) (same_word w m.word) (eq-eqb x m.txn s.0) (same_offset w m.word s.1) in
          let was : bit_at old i ≡ as_bit (tells lists (txn x) w i) = ap (λ k. bit_at (slice_index words k) i) (sym e) ∙ say.bits x w i here lt in
          let found : slice_index (set words at new) (word_at first x w) ≡ new = ap (λ k. slice_index (set words at new) k) e ∙ get_or-set_same words at new 0 (subst (λ k. at < k) (sym say.size) (place_within first count m.txn m.word inside)) in
          ap (λ k. bit_at k i) found ∙ (bit_at_or old (2 ^ m.bit) i ∙ (bit i front was (ℕ_discrete i m.bit) ∙ sym (ap as_bit (more x w i lt))))
        where
          bit : (i : ℕ) → (x == m.txn && same_word w m.word) ≡ true → bit_at old i ≡ as_bit (tells lists (txn x) w i) → Dec (i ≡ m.bit) → max (bit_at old i) (bit_at (2 ^ m.bit) i) ≡ as_bit (tells lists (txn x) w i || hit_by (Some m) x w i)
          bit i front was (yes q) =
              ap (λ k. max (bit_at old i) k) (ap (λ j. bit_at (2 ^ m.bit) j) q ∙ bit_at-pow_same m.bit) ∙ (bit_is old (tells lists (txn x) w i) i was
              ∙ sym (as_true (tells lists (txn x) w i) (hit_by (Some m) x w i) (and_both (x == m.txn && same_word w m.word) (i == m.bit) front (eq-eqb i m.bit q))))
          bit i front was (no n) =
              ap (λ k. max (bit_at old i) k) (bit_at-pow_other m.bit i n) ∙ (max-zero (bit_at old i) ∙ (was ∙ sym (as_false (tells lists (txn x) w i) (hit_by (Some m) x w i)
              (ap (λ b. (x == m.txn && same_word w m.word) && b) (ne_eqb i m.bit n) ∙ off (x == m.txn && same_word w m.word)))))
            where
              off : (b : Bool) → (b && false) ≡ false
              off true = refl
              off false = refl

  says_marked : (m : Option Mark) → ((x : ℕ) (w : Word) (i : ℕ) → i < 64 → tells lists' (txn x) w i ≡ (tells lists (txn x) w i || hit_by m x w i)) → WordsSay first count (with_mark first count m words) lists'
  says_marked None more = says_same (λ x w i inside lt. more x w i lt ∙ or-false (tells lists (txn x) w i))
  says_marked (Some m) more = go (is_in first count m.txn) refl
    where
      go : (b : Bool) → is_in first count m.txn ≡ b → WordsSay first count (if b then set_bit words (word_at first m.txn m.word) m.bit else words) lists'
      go true e = says_bit m (in_of first count m.txn e) more
      go false e = says_same (λ x w i inside lt. more x w i lt ∙ (ap (λ b. tells lists (txn x) w i || b) (true_or (hit_by (Some m) x w i) (λ h.
          no_true (sym e ∙ subst (λ y. is_in first count y ≡ true) (eqb-true x m.txn (and_l (x == m.txn) (same_word w m.word) (and_l (x == m.txn && same_word w m.word) (i == m.bit) h))) (in_by first count x inside))))
          ∙ or-false (tells lists (txn x) w i)))

-- an entry more in the list of a part, and its bit in the words
pub noted : (first count : ℕ) (words : List ℕ) (lists : ℕ → List CoreEntry) (p : ℕ) (e : CoreEntry) → WordsSay first count words lists
    → WordsSay first count (with_mark first count (mark_of p e) words) (with_more lists p (e ∷ []))
noted first count words lists p e say =
    says_marked first count words lists (with_more lists p (e ∷ [])) say (mark_of p e)
    (λ x w i lt. told_more lists p (e ∷ []) (txn x) w i ∙ ap (λ b. tells lists (txn x) w i || b) (hits p e x w i lt))
