-- Words that are made of lists, entry by entry.
use Rattle.std.proofs.Common.{◌≡◌, ℕ, zero, suc, ◌+◌, ◌-◌, ◌*◌, ◌<◌, ◌≤◌, arith, ◌==◌, Bool, true, false, if◌then◌else◌, List, [], ◌∷◌, ◌++◌, length, take, drop, get_or, refl, sym, ap, ◌∙◌, subst, append_assoc}
use Rattle.std.specs.Prelude.{slice_index}
use Rattle.std.specs.Int.{bit_at}
use Rattle.std.proofs.Math.Seq.{take-suc}
use Rattle.std.proofs.lemmas.Bool.{eq-eqb, ne_eqb}
use Rattle.std.proofs.lemmas.List.{get_or-take, get_or-drop, length-take-le, length-drop, get_or_past}
use Rattle.std.proofs.lemmas.Nat.Bits.{bit_at-zero}
use native.Mathlib.Decide.{ℕ_discrete, dec_lt}
use Rattle.txn_base.specs.declared.core_entry.CoreEntry.{CoreEntry}
use Rattle.txn_board.specs.declared.words.Word.TheVariants.{Done}
use Rattle.txn_board.specs.Words.{word_at, as_bit, is_bit_set, WordsSay, mark_of, with_mark, with_more, has_closing}
use Rattle.txn_board.proofs.Watermark.{open_from}
use Rattle.txn_board.specs.Rows.{list_in}
use Rattle.txn_board.proofs.Marks.{noted, offset_small}

pub any_default : {A : Type 0} (l : List A) (k : ℕ) (a b : A) → k < length l → get_or l k a ≡ get_or l k b
any_default [] k a b lt = absurd (omega (arith, lt))
any_default (x ∷ xs) zero a b lt = refl
any_default (x ∷ xs) (suc k) a b lt = any_default xs k a b (omega (arith, lt))

one_more : (k : ℕ) → suc k ≡ k + 1
one_more k = omega arith

more_step : (lists : ℕ → List CoreEntry) (p : ℕ) (es : List CoreEntry) (k : ℕ) (d : CoreEntry) → k < length es → (q : ℕ) → with_more (with_more lists p (take k es)) p (get_or es k d ∷ []) q ≡ with_more lists p (take (suc k) es) q
more_step lists p es k d lt q = go (q == p)
  where
    go : (b : Bool) → (if b then (if b then lists q ++ take k es else lists q) ++ get_or es k d ∷ [] else (if b then lists q ++ take k es else lists q)) ≡ (if b then lists q ++ take (suc k) es else lists q)
    go true = append_assoc (lists q) (take k es) (get_or es k d ∷ []) ∙ ap (λ l. lists q ++ l) (sym (take-suc es k d lt))
    go false = refl

pub note_step : (count : ℕ) (old now : List ℕ) (p : ℕ) (es : List CoreEntry) (k : ℕ) (d : CoreEntry) → k < length es
    → ((lists : ℕ → List CoreEntry) → WordsSay 0 count old lists → WordsSay 0 count now (with_more lists p (take k es)))
    → (lists : ℕ → List CoreEntry) → WordsSay 0 count old lists → WordsSay 0 count (with_mark 0 count (mark_of p (get_or es k d)) now) (with_more lists p (take (k + 1) es))
note_step count old now p es k d lt so lists h =
    subst (λ j. WordsSay 0 count (with_mark 0 count (mark_of p (get_or es k d)) now) (with_more lists p (take j es))) (one_more k)
    (subst (WordsSay 0 count (with_mark 0 count (mark_of p (get_or es k d)) now)) (λ i q. more_step lists p es k d lt q i)
    (noted 0 count now (with_more lists p (take k es)) p (get_or es k d) (so lists h)))

pub note_none : (count : ℕ) (old : List ℕ) (p : ℕ) (lists : ℕ → List CoreEntry) → WordsSay 0 count old lists → WordsSay 0 count old (with_more lists p [])
note_none count old p lists h = subst (WordsSay 0 count old) (λ i q. sym (go q (q == p)) i) h
  where
    go : (q : ℕ) (b : Bool) → (if b then lists q ++ [] else lists q) ≡ lists q
    go q true = nil (lists q)
      where
        nil : (l : List CoreEntry) → l ++ [] ≡ l
        nil [] = refl
        nil (x ∷ xs) = ap (λ l. x ∷ l) (nil xs)
    go q false = refl

-- ---- List by list.

list_step : (ls : List (List CoreEntry)) (k : ℕ) → k < length ls → (q : ℕ) → with_more (list_in (take k ls)) k (get_or ls k []) q ≡ list_in (take (suc k) ls) q
list_step ls k lt q = go (ℕ_discrete q k)
  where
    go : Dec (q ≡ k) → (if q == k then list_in (take k ls) q ++ get_or ls k [] else list_in (take k ls) q) ≡ list_in (take (suc k) ls) q
    go (yes e) =
        ap (λ b. if b then list_in (take k ls) q ++ get_or ls k [] else list_in (take k ls) q) (eq-eqb q k e)
        ∙ (ap (λ l. l ++ get_or ls k []) (get_or_past (take k ls) q [] (omega (arith, e, length-take-le k ls (omega (arith, lt)))))
        ∙ (ap (λ j. get_or ls j []) (sym e) ∙ sym (get_or-take (suc k) ls q [] (omega (arith, e)))))
    go (no n) = ap (λ b. if b then list_in (take k ls) q ++ get_or ls k [] else list_in (take k ls) q) (ne_eqb q k n) ∙ side (dec_lt q k)
      where
        side : Dec (q < k) → list_in (take k ls) q ≡ list_in (take (suc k) ls) q
        side (yes l) = get_or-take k ls q [] l ∙ sym (get_or-take (suc k) ls q [] (omega (arith, l)))
        side (no m) =
            get_or_past (take k ls) q [] (omega (arith, m, length-take-le k ls (omega (arith, lt))))
            ∙ sym (get_or_past (take (suc k) ls) q [] (omega (arith, m, n, length-take-le (suc k) ls (omega (arith, lt)))))

pub lists_step : (count : ℕ) (words : List ℕ) (ls : List (List CoreEntry)) (k : ℕ) → k < length ls → WordsSay 0 count words (with_more (list_in (take k ls)) k (get_or ls k [])) → WordsSay 0 count words (list_in (take (k + 1) ls))
lists_step count words ls k lt h = subst (λ j. WordsSay 0 count words (list_in (take j ls))) (one_more k) (subst (WordsSay 0 count words) (λ i q. list_step ls k lt q i) h)

-- ---- The low watermark.

less : (begun low : ℕ) → low < begun → begun - low ≡ suc (begun - (low + 1))
less begun low lt = omega (arith, lt)

none_left : (begun low : ℕ) → begun ≤ low → begun - low ≡ 0
none_left begun low le = omega (arith, le)

pub low_goes : (closed : ℕ → Bool) (begun low : ℕ) → low < begun → closed low ≡ true → open_from closed (begun - low) low ≡ open_from closed (begun - (low + 1)) (low + 1)
low_goes closed begun low lt c = ap (λ n. open_from closed n low) (less begun low lt) ∙ ap (λ b. if b then open_from closed (begun - (low + 1)) (low + 1) else low) c

pub low_stops : (closed : ℕ → Bool) (begun low : ℕ) → low < begun → closed low ≡ false → open_from closed (begun - low) low ≡ low
low_stops closed begun low lt c = ap (λ n. open_from closed n low) (less begun low lt) ∙ ap (λ b. if b then open_from closed (begun - (low + 1)) (low + 1) else low) c

pub low_ends : (closed : ℕ → Bool) (begun low : ℕ) → begun ≤ low → open_from closed (begun - low) low ≡ low
low_ends closed begun low le = ap (λ n. open_from closed n low) (none_left begun low le)

done_at : (k : ℕ) → word_at 0 k Done ≡ 3 * k + 2
done_at k = omega arith

pub closed_bit : (count : ℕ) (words : List ℕ) (lists : ℕ → List CoreEntry) (k : ℕ) → WordsSay 0 count words lists → k < count → is_bit_set (slice_index words (3 * k + 2)) 0 ≡ has_closing (lists 0) k
closed_bit count words lists k say lt =
    ap (λ i. is_bit_set (slice_index words i) 0) (sym (done_at k)) ∙ (ap (λ b. b == 1) (say.bits k Done 0 (record { least = omega arith; most = omega (arith, lt) }) (omega arith)) ∙ go (has_closing (lists 0) k))
  where
    go : (b : Bool) → (as_bit b == 1) ≡ b
    go true = refl
    go false = refl

-- ---- A cut.

pub cut : (count low window : ℕ) (words : List ℕ) (lists : ℕ → List CoreEntry) → low + window ≤ count → WordsSay 0 count words lists → WordsSay low window (take (3 * window) (drop (3 * low) words)) lists
cut count low window words lists fit say =
    record {
      size = length-take-le (3 * window) (drop (3 * low) words) (omega (arith, length-drop (3 * low) words, say.size, fit));
      bits = λ x w p inside lt.
          ap (λ n. bit_at n p)
          (get_or-take (3 * window) (drop (3 * low) words) (word_at low x w) 0 (omega (arith, inside.least, inside.most, offset_small w))
          ∙ (get_or-drop (3 * low) words (word_at low x w) 0 ∙ ap (λ k. slice_index words k) (omega (arith, inside.least))))
          ∙ say.bits x w p (record { least = omega arith; most = omega (arith, inside.most, fit) }) lt;
    }

pub front : (count low : ℕ) (words : List ℕ) (lists : ℕ → List CoreEntry) → low ≤ count → WordsSay 0 count words lists → WordsSay 0 low (take (3 * low) words) lists
front count low words lists fit say =
    record {
      size = length-take-le (3 * low) words (omega (arith, say.size, fit));
      bits = λ x w p inside lt.
          ap (λ n. bit_at n p) (get_or-take (3 * low) words (word_at 0 x w) 0 (omega (arith, inside.most, offset_small w)))
          ∙ say.bits x w p (record { least = inside.least; most = omega (arith, inside.most, fit) }) lt;
    }

pub blank_says : (count : ℕ) (words : List ℕ) → length words ≡ 3 * count → ((i : ℕ) → slice_index words i ≡ 0) → WordsSay 0 count words (λ p. [])
blank_says count words size zeros = record { size = size; bits = λ x w p inside lt. ap (λ n. bit_at n p) (zeros (word_at 0 x w)) ∙ bit_at-zero p }
