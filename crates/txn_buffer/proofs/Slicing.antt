-- How a slice of messages grows.
use Rattle.std.proofs.Common.{◌≡◌, ℕ, suc, ◌+◌, ◌-◌, ◌≤◌, true, false, if◌then◌else◌, List, [], ◌∷◌, ◌++◌, length, take, Some, None, refl, sym, ap, ◌∙◌, subst, arith}
use Rattle.std.proofs.lemmas.Bool.{le-leb, lt-leb, ltb-true, ltb-false}
use Rattle.std.proofs.lemmas.List.{append-nil}
use Rattle.std.specs.Prelude.{nat_lt}
use Rattle.txn_base.specs.declared.messages.Message.{Message}
use Rattle.txn_model.specs.Topic.{fitting}
use Rattle.txn_buffer.specs.Reading.{rest_of, IsSpentWith, ReadGoesOn, IsCut}

-- one that doesn't fit
none_left : (bytes spent n : ℕ) (ms : List Message) (m : Message) (more : List Message) → IsSpentWith ms bytes spent (length m.body) None → rest_of bytes spent (suc n) ms (m ∷ more) ≡ []
none_left bytes spent n [] m more h = cc
none_left bytes spent n (x ∷ ms) m more h = ap (λ b. if b then m ∷ fitting bytes (spent + length m.body) (take n more) else []) (lt-leb (spent + length m.body) bytes h)

-- one that fits
one_given : (bytes spent total n : ℕ) (ms : List Message) (m : Message) (more : List Message) → IsSpentWith ms bytes spent (length m.body) (Some total)
    → rest_of bytes spent (suc n) ms (m ∷ more) ≡ m ∷ rest_of bytes total n (ms ++ m ∷ []) more
one_given bytes spent total n [] m more h = let e : length m.body ≡ total = cc in ap (λ k. m ∷ fitting bytes k (take n more)) e
one_given bytes spent total n (x ∷ ms) m more h =
    ap (λ b. if b then m ∷ fitting bytes (spent + length m.body) (take n more) else []) (le-leb (spent + length m.body) bytes (omega (arith, h.0, h.1))) ∙ ap (λ k. m ∷ fitting bytes k (take n more)) (sym h.0)

nothing_more : (bytes total : ℕ) (ms : List Message) (m : Message) (more : List Message) → rest_of bytes total 0 (ms ++ m ∷ []) more ≡ []
nothing_more bytes total [] m more = refl
nothing_more bytes total (x ∷ ms) m more = refl

module _ (m : Message) (before after : List Message) (bytes spent left size : ℕ) (some : 1 ≤ left) (sized : size ≡ length m.body) where
  pub cut_before : IsSpentWith before bytes spent size None → IsCut (Some m) before before bytes spent left
  cut_before h =
      let one_less : left ≡ suc (left - 1) = omega (arith, some) in
      record {
        last = [];
        given = sym (append-nil before);
        rest = λ more. ap (λ n. rest_of bytes spent n before (m ∷ more)) one_less ∙ none_left bytes spent (left - 1) before m more (subst (λ n. IsSpentWith before bytes spent n None) sized h);
      }

  pub goes_on : (total : ℕ) → IsSpentWith before bytes spent size (Some total) → after ≡ before ++ m ∷ [] → nat_lt 0 (left - 1) ≡ true → ReadGoesOn (Some m) before after bytes spent left total (left - 1)
  goes_on total h pushed more_left =
      let one_less : left ≡ suc (left - 1) = omega (arith, some) in
      record {
        given = pushed;
        rest = λ more.
            ap (λ n. rest_of bytes spent n before (m ∷ more)) one_less ∙ one_given bytes spent total (left - 1) before m more (subst (λ n. IsSpentWith before bytes spent n (Some total)) sized h)
            ∙ ap (λ l. m ∷ rest_of bytes total (left - 1) l more) (sym pushed);
        left_some = omega (arith, ltb-true 0 (left - 1) more_left);
      }

  pub cut_behind : (total : ℕ) → IsSpentWith before bytes spent size (Some total) → after ≡ before ++ m ∷ [] → nat_lt 0 (left - 1) ≡ false → IsCut (Some m) before after bytes spent left
  cut_behind total h pushed none_left =
      let last_one : left ≡ 1 = omega (arith, some, ltb-false 0 (left - 1) none_left) in
      record {
        last = m ∷ [];
        given = pushed;
        rest = λ more.
            ap (λ n. rest_of bytes spent n before (m ∷ more)) last_one ∙ one_given bytes spent total 0 before m more (subst (λ n. IsSpentWith before bytes spent n (Some total)) sized h)
            ∙ ap (λ l. m ∷ l) (nothing_more bytes total before m more);
      }
