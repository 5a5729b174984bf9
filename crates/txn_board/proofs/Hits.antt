-- Which bit an entry sets: the test of each bit, entry by entry, is the mark of the entry.
use Rattle.std.proofs.Common.{◌≡◌, ◌≢◌, ℕ, zero, suc, ◌<◌, arith, ◌==◌, Bool, true, false, ◌&&◌, ◌||◌, if◌then◌else◌, Some, None, refl, sym, ap, ◌∙◌}
use Rattle.std.specs.Prelude.{Option, nat_le, nat_lt, is_some}
use Rattle.std.proofs.lemmas.Bool.{eq-eqb, ne_eqb, eqb-true, lt-ltb, le-leb, lt-leb}
use native.Mathlib.Decide.{ℕ_discrete}
use Rattle.txn_base.specs.declared.txn.TxnId.{TxnId}
use Rattle.txn_base.specs.declared.txn.Decision.{Decision}
use Rattle.txn_base.specs.declared.txn.Decision.TheVariants.{Commit, Abort}
use Rattle.txn_base.specs.declared.core_entry.CoreEntry.{CoreEntry}
use Rattle.txn_base.specs.declared.core_entry.CoreEntry.TheVariants as core
use Rattle.txn_model.specs.Skeletons.{same_txn}
use Rattle.txn_model.specs.Deadlines.{txn}
use Rattle.txn_core.specs.Steps.{is_decision}
use Rattle.txn_board.specs.declared.words.Word.{Word}
use Rattle.txn_board.specs.declared.words.Word.TheVariants.{Registered, Decided, Done}
use Rattle.txn_board.specs.declared.words.Mark.{Mark}
use Rattle.txn_board.specs.Words.{sets, teller, mark_where, mark_of}

abbrev pub same_word : Word → Word → Bool
same_word Registered Registered = true
same_word Registered Decided = false
same_word Registered Done = false
same_word Decided Registered = false
same_word Decided Decided = true
same_word Decided Done = false
same_word Done Registered = false
same_word Done Decided = false
same_word Done Done = true

-- The mark is that of the bit i of the word w of x.
abbrev pub hit_by : Option Mark → ℕ → Word → ℕ → Bool
hit_by None x w i = false
hit_by (Some m) x w i = x == m.txn && same_word w m.word && i == m.bit

eq_flip : (a b : ℕ) → (a == b) ≡ (b == a)
eq_flip a b = elim (ℕ_discrete a b) [ yes e ↦ eq-eqb a b e ∙ sym (eq-eqb b a (sym e)) | no n ↦ ne_eqb a b n ∙ sym (ne_eqb b a (λ e. n (sym e))) ]

where_hits : (holds : Bool) (y : TxnId) (v : Word) (q x : ℕ) (w : Word) (i : ℕ) → hit_by (mark_where holds y v q) x w i ≡ ((holds && 0 == y.most) && (x == y.least && same_word w v && i == q))
where_hits holds y v q x w i = go (holds && y.most == 0) ∙ ap (λ b. (holds && b) && (x == y.least && same_word w v && i == q)) (eq_flip y.most 0)
  where
    go : (b : Bool) → hit_by (if b then Some (record { txn = y.least; word = v; bit = q }) else None) x w i ≡ (b && (x == y.least && same_word w v && i == q))
    go true = refl
    go false = refl

-- ---- The forms that the cases have.

none : (t s : Bool) → s ≡ false → (t && (s || false)) ≡ false
none t s e = ap (λ u. t && (u || false)) e ∙ go t
  where
    go : (t : Bool) → (t && false) ≡ false
    go true = refl
    go false = refl

miss_word : (t s h l q : Bool) → s ≡ false → (t && (s || false)) ≡ (h && (l && false && q))
miss_word t s h l q e = none t s e ∙ go h l
  where
    go : (h l : Bool) → false ≡ (h && (l && false && q))
    go false l = refl
    go true true = refl
    go true false = refl

miss_bit : (t s h l q : Bool) → s ≡ false → q ≡ false → (t && (s || false)) ≡ (h && (l && true && q))
miss_bit t s h l q e f = none t s e ∙ (go h l ∙ ap (λ u. h && (l && true && u)) (sym f))
  where
    go : (h l : Bool) → false ≡ (h && (l && true && false))
    go false l = refl
    go true true = refl
    go true false = refl

miss_low : (t s h l : Bool) (q : ℕ) → s ≡ false → (q ≡ 0 → h ≡ false) → (t && (s || false)) ≡ (h && (l && true && 0 == q))
miss_low t s h l q e low = elim (ℕ_discrete q 0) [ yes z ↦ none t s e ∙ sym (ap (λ u. u && (l && true && 0 == q)) (low z)) | no n ↦ miss_bit t s h l (0 == q) e (ne_eqb 0 q (λ z. n (sym z))) ]

real : (a b m l s : Bool) → a ≡ b → s ≡ (m && l) → (a && (s || false)) ≡ ((b && m) && (l && true && true))
real a b m l s e f = ap (λ u. u && (s || false)) e ∙ (ap (λ u. b && (u || false)) f ∙ go b m l)
  where
    go : (b m l : Bool) → (b && ((m && l) || false)) ≡ ((b && m) && (l && true && true))
    go false m l = refl
    go true false l = refl
    go true true true = refl
    go true true false = refl

real_add : (a b g k m l c : Bool) → a ≡ b → (c ≡ true → (g ≡ true) × (k ≡ true)) → (a && (((m && l) && c) || false)) ≡ (((b && g && k) && m) && (l && true && c))
real_add a b g k m l c e f = ap (λ u. u && (((m && l) && c) || false)) e ∙ go c f
  where
    all : (b m l : Bool) → (b && (((m && l) && true) || false)) ≡ (((b && true && true) && m) && (l && true && true))
    all false m l = refl
    all true false l = refl
    all true true true = refl
    all true true false = refl

    nothing : (b m l u : Bool) → (b && (((m && l) && false) || false)) ≡ ((u && m) && (l && true && false))
    nothing b m l u = none b ((m && l) && false) (off (m && l)) ∙ sym (away (u && m) l)
      where
        off : (x : Bool) → (x && false) ≡ false
        off true = refl
        off false = refl

        away : (x l : Bool) → (x && (l && true && false)) ≡ false
        away false l = refl
        away true true = refl
        away true false = refl

    go : (c : Bool) → (c ≡ true → (g ≡ true) × (k ≡ true)) → (b && (((m && l) && c) || false)) ≡ (((b && g && k) && m) && (l && true && c))
    go true f = all b m l ∙ sym (ap (λ u. ((b && u && k) && m) && (l && true && true)) (f refl).0 ∙ ap (λ u. ((b && true && u) && m) && (l && true && true)) (f refl).1)
    go false f = nothing b m l (b && g && k)

real_end : (c g k m l s : Bool) → s ≡ (m && l) → (c ≡ true → (g ≡ true) × (k ≡ true)) → (c && (s || false)) ≡ (((g && k) && m) && (l && true && c))
real_end true g k m l s e f =
    ap (λ u. u || false) e ∙ (all m l ∙ sym (ap (λ u. ((u && k) && m) && (l && true && true)) (f refl).0 ∙ ap (λ u. ((true && u) && m) && (l && true && true)) (f refl).1))
  where
    all : (m l : Bool) → ((m && l) || false) ≡ ((true && m) && (l && true && true))
    all false l = refl
    all true true = refl
    all true false = refl
real_end false g k m l s e f = sym (away ((g && k) && m) l)
  where
    away : (x l : Bool) → (x && (l && true && false)) ≡ false
    away false l = refl
    away true true = refl
    away true false = refl

-- ---- What the tests of entries are.

commit_is : (b : Bool) → is_decision (if b then Some Commit else None) Commit ≡ b
commit_is true = refl
commit_is false = refl

abort_is : (b : Bool) → is_decision (if b then Some Abort else None) Abort ≡ b
abort_is true = refl
abort_is false = refl

commit_not : (b : Bool) → is_decision (if b then Some Commit else None) Abort ≡ false
commit_not true = refl
commit_not false = refl

abort_not : (b : Bool) → is_decision (if b then Some Abort else None) Commit ≡ false
abort_not true = refl
abort_not false = refl

some_is : (b : Bool) (d : Decision) → is_some (if b then Some d else None) ≡ b
some_is true d = refl
some_is false d = refl

away : (i k : ℕ) → i ≢ k → (i == k) ≡ false
away i k n = ne_eqb i k n

within : (i q : ℕ) → suc i < 64 → (suc i == q) ≡ true → (nat_le 1 q ≡ true) × (nat_lt q 64 ≡ true)
within i q lt h = let e : suc i ≡ q = eqb-true (suc i) q h in (le-leb 1 q (omega (arith, e)), lt-ltb q 64 (omega (arith, e, lt)))

no_le : (b : Bool) (q : ℕ) (k m : Bool) → q ≡ 0 → ((b && nat_le 1 q && k) && m) ≡ false
no_le b q k m e = ap (λ u. (b && u && k) && m) (lt-leb 1 q (omega (arith, e))) ∙ go b
  where
    go : (b : Bool) → ((b && false && k) && m) ≡ false
    go true = refl
    go false = refl

no_end : (q : ℕ) (k m : Bool) → q ≡ 0 → ((nat_le 1 q && k) && m) ≡ false
no_end q k m e = ap (λ u. (u && k) && m) (lt-leb 1 q (omega (arith, e)))

-- The bit i of the word w of x is set by an entry of the part p exactly where that is its mark.
pub hits : (p : ℕ) (e : CoreEntry) (x : ℕ) (w : Word) (i : ℕ) → i < 64 → (teller w i == p && (sets w i (txn x) e || false)) ≡ hit_by (mark_of p e) x w i
hits p core.Plain x Registered zero lt = none (0 == p) false refl
hits p (core.Inside y) x Registered zero lt = none (0 == p) false refl
hits p core.Plain x Registered (suc i) lt = none (0 == p) false refl
hits p (core.Inside y) x Registered (suc i) lt = none (0 == p) false refl
hits p core.Plain x Decided zero lt = none (0 == p) false refl
hits p (core.Inside y) x Decided zero lt = none (0 == p) false refl
hits p core.Plain x Decided (suc zero) lt = none (0 == p) false refl
hits p (core.Inside y) x Decided (suc zero) lt = none (0 == p) false refl
hits p core.Plain x Decided (suc (suc i)) lt = none (0 == p) false refl
hits p (core.Inside y) x Decided (suc (suc i)) lt = none (0 == p) false refl
hits p core.Plain x Done zero lt = none (0 == p) false refl
hits p (core.Inside y) x Done zero lt = none (0 == p) false refl
hits p core.Plain x Done (suc i) lt = none (suc i == p) false refl
hits p (core.Inside y) x Done (suc i) lt = none (suc i == p) false refl
hits p (core.New y) x Registered zero lt = real (0 == p) (p == 0) (0 == y.most) (x == y.least) ((0 == y.most) && (x == y.least)) (eq_flip 0 p) refl ∙ sym (where_hits (p == 0) y Registered 0 x Registered 0)
hits p (core.New y) x Registered (suc i) lt = miss_bit (0 == p) false ((p == 0) && 0 == y.most) (x == y.least) (suc i == 0) refl (away (suc i) 0 (λ z. omega (arith, z))) ∙ sym (where_hits (p == 0) y Registered 0 x Registered (suc i))
hits p (core.New y) x Decided zero lt = miss_word (0 == p) false ((p == 0) && 0 == y.most) (x == y.least) (0 == 0) refl ∙ sym (where_hits (p == 0) y Registered 0 x Decided 0)
hits p (core.New y) x Decided (suc zero) lt = miss_word (0 == p) false ((p == 0) && 0 == y.most) (x == y.least) (1 == 0) refl ∙ sym (where_hits (p == 0) y Registered 0 x Decided 1)
hits p (core.New y) x Decided (suc (suc i)) lt = miss_word (0 == p) false ((p == 0) && 0 == y.most) (x == y.least) (suc (suc i) == 0) refl ∙ sym (where_hits (p == 0) y Registered 0 x Decided (suc (suc i)))
hits p (core.New y) x Done zero lt = miss_word (0 == p) false ((p == 0) && 0 == y.most) (x == y.least) (0 == 0) refl ∙ sym (where_hits (p == 0) y Registered 0 x Done 0)
hits p (core.New y) x Done (suc i) lt = miss_word (suc i == p) false ((p == 0) && 0 == y.most) (x == y.least) (suc i == 0) refl ∙ sym (where_hits (p == 0) y Registered 0 x Done (suc i))
hits p (core.AddPart y q) x Registered zero lt = miss_low (0 == p) false ((p == 0 && nat_le 1 q && nat_lt q 64) && 0 == y.most) (x == y.least) q refl (no_le (p == 0) q (nat_lt q 64) (0 == y.most)) ∙ sym (where_hits (p == 0 && nat_le 1 q && nat_lt q 64) y Registered q x Registered 0)
hits p (core.AddPart y q) x Registered (suc i) lt = real_add (0 == p) (p == 0) (nat_le 1 q) (nat_lt q 64) (0 == y.most) (x == y.least) (suc i == q) (eq_flip 0 p) (within i q lt) ∙ sym (where_hits (p == 0 && nat_le 1 q && nat_lt q 64) y Registered q x Registered (suc i))
hits p (core.AddPart y q) x Decided zero lt = miss_word (0 == p) false ((p == 0 && nat_le 1 q && nat_lt q 64) && 0 == y.most) (x == y.least) (0 == q) refl ∙ sym (where_hits (p == 0 && nat_le 1 q && nat_lt q 64) y Registered q x Decided 0)
hits p (core.AddPart y q) x Decided (suc zero) lt = miss_word (0 == p) false ((p == 0 && nat_le 1 q && nat_lt q 64) && 0 == y.most) (x == y.least) (1 == q) refl ∙ sym (where_hits (p == 0 && nat_le 1 q && nat_lt q 64) y Registered q x Decided 1)
hits p (core.AddPart y q) x Decided (suc (suc i)) lt = miss_word (0 == p) false ((p == 0 && nat_le 1 q && nat_lt q 64) && 0 == y.most) (x == y.least) (suc (suc i) == q) refl ∙ sym (where_hits (p == 0 && nat_le 1 q && nat_lt q 64) y Registered q x Decided (suc (suc i)))
hits p (core.AddPart y q) x Done zero lt = miss_word (0 == p) false ((p == 0 && nat_le 1 q && nat_lt q 64) && 0 == y.most) (x == y.least) (0 == q) refl ∙ sym (where_hits (p == 0 && nat_le 1 q && nat_lt q 64) y Registered q x Done 0)
hits p (core.AddPart y q) x Done (suc i) lt = miss_word (suc i == p) false ((p == 0 && nat_le 1 q && nat_lt q 64) && 0 == y.most) (x == y.least) (suc i == q) refl ∙ sym (where_hits (p == 0 && nat_le 1 q && nat_lt q 64) y Registered q x Done (suc i))
hits p (core.Committing y) x Registered zero lt = miss_word (0 == p) false ((p == 0) && 0 == y.most) (x == y.least) (0 == 0) refl ∙ sym (where_hits (p == 0) y Decided 0 x Registered 0)
hits p (core.Committing y) x Registered (suc i) lt = miss_word (0 == p) false ((p == 0) && 0 == y.most) (x == y.least) (suc i == 0) refl ∙ sym (where_hits (p == 0) y Decided 0 x Registered (suc i))
hits p (core.Committing y) x Decided zero lt = real (0 == p) (p == 0) (0 == y.most) (x == y.least) (is_decision (if same_txn (txn x) y then Some Commit else None) Commit) (eq_flip 0 p) (commit_is (same_txn (txn x) y)) ∙ sym (where_hits (p == 0) y Decided 0 x Decided 0)
hits p (core.Committing y) x Decided (suc zero) lt = miss_bit (0 == p) (is_decision (if same_txn (txn x) y then Some Commit else None) Abort) ((p == 0) && 0 == y.most) (x == y.least) (1 == 0) (commit_not (same_txn (txn x) y)) (away (1) 0 (λ z. omega (arith, z))) ∙ sym (where_hits (p == 0) y Decided 0 x Decided 1)
hits p (core.Committing y) x Decided (suc (suc i)) lt = miss_bit (0 == p) false ((p == 0) && 0 == y.most) (x == y.least) (suc (suc i) == 0) refl (away (suc (suc i)) 0 (λ z. omega (arith, z))) ∙ sym (where_hits (p == 0) y Decided 0 x Decided (suc (suc i)))
hits p (core.Committing y) x Done zero lt = miss_word (0 == p) false ((p == 0) && 0 == y.most) (x == y.least) (0 == 0) refl ∙ sym (where_hits (p == 0) y Decided 0 x Done 0)
hits p (core.Committing y) x Done (suc i) lt = miss_word (suc i == p) false ((p == 0) && 0 == y.most) (x == y.least) (suc i == 0) refl ∙ sym (where_hits (p == 0) y Decided 0 x Done (suc i))
hits p (core.Aborting y) x Registered zero lt = miss_word (0 == p) false ((p == 0) && 0 == y.most) (x == y.least) (0 == 1) refl ∙ sym (where_hits (p == 0) y Decided 1 x Registered 0)
hits p (core.Aborting y) x Registered (suc i) lt = miss_word (0 == p) false ((p == 0) && 0 == y.most) (x == y.least) (suc i == 1) refl ∙ sym (where_hits (p == 0) y Decided 1 x Registered (suc i))
hits p (core.Aborting y) x Decided zero lt = miss_bit (0 == p) (is_decision (if same_txn (txn x) y then Some Abort else None) Commit) ((p == 0) && 0 == y.most) (x == y.least) (0 == 1) (abort_not (same_txn (txn x) y)) (away (0) 1 (λ z. omega (arith, z))) ∙ sym (where_hits (p == 0) y Decided 1 x Decided 0)
hits p (core.Aborting y) x Decided (suc zero) lt = real (0 == p) (p == 0) (0 == y.most) (x == y.least) (is_decision (if same_txn (txn x) y then Some Abort else None) Abort) (eq_flip 0 p) (abort_is (same_txn (txn x) y)) ∙ sym (where_hits (p == 0) y Decided 1 x Decided 1)
hits p (core.Aborting y) x Decided (suc (suc i)) lt = miss_bit (0 == p) false ((p == 0) && 0 == y.most) (x == y.least) (suc (suc i) == 1) refl (away (suc (suc i)) 1 (λ z. omega (arith, z))) ∙ sym (where_hits (p == 0) y Decided 1 x Decided (suc (suc i)))
hits p (core.Aborting y) x Done zero lt = miss_word (0 == p) false ((p == 0) && 0 == y.most) (x == y.least) (0 == 1) refl ∙ sym (where_hits (p == 0) y Decided 1 x Done 0)
hits p (core.Aborting y) x Done (suc i) lt = miss_word (suc i == p) false ((p == 0) && 0 == y.most) (x == y.least) (suc i == 1) refl ∙ sym (where_hits (p == 0) y Decided 1 x Done (suc i))
hits p (core.Committed y) x Registered zero lt = miss_word (0 == p) false ((p == 0) && 0 == y.most) (x == y.least) (0 == 0) refl ∙ sym (where_hits (p == 0) y Done 0 x Registered 0)
hits p (core.Committed y) x Registered (suc i) lt = miss_word (0 == p) false ((p == 0) && 0 == y.most) (x == y.least) (suc i == 0) refl ∙ sym (where_hits (p == 0) y Done 0 x Registered (suc i))
hits p (core.Committed y) x Decided zero lt = miss_word (0 == p) false ((p == 0) && 0 == y.most) (x == y.least) (0 == 0) refl ∙ sym (where_hits (p == 0) y Done 0 x Decided 0)
hits p (core.Committed y) x Decided (suc zero) lt = miss_word (0 == p) false ((p == 0) && 0 == y.most) (x == y.least) (1 == 0) refl ∙ sym (where_hits (p == 0) y Done 0 x Decided 1)
hits p (core.Committed y) x Decided (suc (suc i)) lt = miss_word (0 == p) false ((p == 0) && 0 == y.most) (x == y.least) (suc (suc i) == 0) refl ∙ sym (where_hits (p == 0) y Done 0 x Decided (suc (suc i)))
hits p (core.Committed y) x Done zero lt = real (0 == p) (p == 0) (0 == y.most) (x == y.least) (is_some (if same_txn (txn x) y then Some Commit else None)) (eq_flip 0 p) (some_is (same_txn (txn x) y) Commit) ∙ sym (where_hits (p == 0) y Done 0 x Done 0)
hits p (core.Committed y) x Done (suc i) lt = miss_bit (suc i == p) false ((p == 0) && 0 == y.most) (x == y.least) (suc i == 0) refl (away (suc i) 0 (λ z. omega (arith, z))) ∙ sym (where_hits (p == 0) y Done 0 x Done (suc i))
hits p (core.Aborted y) x Registered zero lt = miss_word (0 == p) false ((p == 0) && 0 == y.most) (x == y.least) (0 == 0) refl ∙ sym (where_hits (p == 0) y Done 0 x Registered 0)
hits p (core.Aborted y) x Registered (suc i) lt = miss_word (0 == p) false ((p == 0) && 0 == y.most) (x == y.least) (suc i == 0) refl ∙ sym (where_hits (p == 0) y Done 0 x Registered (suc i))
hits p (core.Aborted y) x Decided zero lt = miss_word (0 == p) false ((p == 0) && 0 == y.most) (x == y.least) (0 == 0) refl ∙ sym (where_hits (p == 0) y Done 0 x Decided 0)
hits p (core.Aborted y) x Decided (suc zero) lt = miss_word (0 == p) false ((p == 0) && 0 == y.most) (x == y.least) (1 == 0) refl ∙ sym (where_hits (p == 0) y Done 0 x Decided 1)
hits p (core.Aborted y) x Decided (suc (suc i)) lt = miss_word (0 == p) false ((p == 0) && 0 == y.most) (x == y.least) (suc (suc i) == 0) refl ∙ sym (where_hits (p == 0) y Done 0 x Decided (suc (suc i)))
hits p (core.Aborted y) x Done zero lt = real (0 == p) (p == 0) (0 == y.most) (x == y.least) (is_some (if same_txn (txn x) y then Some Abort else None)) (eq_flip 0 p) (some_is (same_txn (txn x) y) Abort) ∙ sym (where_hits (p == 0) y Done 0 x Done 0)
hits p (core.Aborted y) x Done (suc i) lt = miss_bit (suc i == p) false ((p == 0) && 0 == y.most) (x == y.least) (suc i == 0) refl (away (suc i) 0 (λ z. omega (arith, z))) ∙ sym (where_hits (p == 0) y Done 0 x Done (suc i))
hits p (core.Marker y d) x Registered zero lt = miss_word (0 == p) false ((nat_le 1 p && nat_lt p 64) && 0 == y.most) (x == y.least) (0 == p) refl ∙ sym (where_hits (nat_le 1 p && nat_lt p 64) y Done p x Registered 0)
hits p (core.Marker y d) x Registered (suc i) lt = miss_word (0 == p) false ((nat_le 1 p && nat_lt p 64) && 0 == y.most) (x == y.least) (suc i == p) refl ∙ sym (where_hits (nat_le 1 p && nat_lt p 64) y Done p x Registered (suc i))
hits p (core.Marker y d) x Decided zero lt = miss_word (0 == p) false ((nat_le 1 p && nat_lt p 64) && 0 == y.most) (x == y.least) (0 == p) refl ∙ sym (where_hits (nat_le 1 p && nat_lt p 64) y Done p x Decided 0)
hits p (core.Marker y d) x Decided (suc zero) lt = miss_word (0 == p) false ((nat_le 1 p && nat_lt p 64) && 0 == y.most) (x == y.least) (1 == p) refl ∙ sym (where_hits (nat_le 1 p && nat_lt p 64) y Done p x Decided 1)
hits p (core.Marker y d) x Decided (suc (suc i)) lt = miss_word (0 == p) false ((nat_le 1 p && nat_lt p 64) && 0 == y.most) (x == y.least) (suc (suc i) == p) refl ∙ sym (where_hits (nat_le 1 p && nat_lt p 64) y Done p x Decided (suc (suc i)))
hits p (core.Marker y d) x Done zero lt = miss_low (0 == p) false ((nat_le 1 p && nat_lt p 64) && 0 == y.most) (x == y.least) p refl (no_end p (nat_lt p 64) (0 == y.most)) ∙ sym (where_hits (nat_le 1 p && nat_lt p 64) y Done p x Done 0)
hits p (core.Marker y d) x Done (suc i) lt = real_end (suc i == p) (nat_le 1 p) (nat_lt p 64) (0 == y.most) (x == y.least) (is_some (if same_txn (txn x) y then Some d else None)) (some_is (same_txn (txn x) y) d) (within i p lt) ∙ sym (where_hits (nat_le 1 p && nat_lt p 64) y Done p x Done (suc i))
