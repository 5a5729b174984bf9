-- A body is cut into its records.
use Rattle.std.proofs.Common.{◌≡◌, ℕ, ◌+◌, ◌<◌, ◌≤◌, ◌^◌, List, [], ◌∷◌, ◌++◌, length, take, drop, zero, suc, refl, sym, ap, ◌∙◌, subst, arith, length-append}
use Rattle.std.specs.Prelude.{All}
use Rattle.std.proofs.lemmas.List.{append_assoc, append-nil, take_at, drop_at}
use Rattle.std.proofs.lemmas.List.Concat.{flat_map-append}
use Rattle.std.proofs.lemmas.List.Elements.{All-head, All-tail, All-append}
use Rattle.byteorder.specs.Endian.{big_bytes, big_number}
use Rattle.byteorder.specs.Numbers.{big_number-reads_back, length-bytes_high_first}
use Rattle.txn_base.specs.Frames.{Record, Batch, IsRecord, IsBatch, record_bytes, body_of}
use Rattle.txn_base.proofs.Laws.{counted_one, body_long}
use Rattle.txn_ledger.specs.declared.position.Position.{Position}
use Rattle.txn_ledger.specs.Bodies.{first_record, behind_first, batch_from, batch_in}
use Rattle.txn_ledger.specs.Positions.{positions_of}

-- a batch's body is cut into that batch
cut_from : (batch : Batch) (more : ℕ) → All IsRecord batch → length (body_of batch) ≤ more → batch_from more (body_of batch) ≡ batch
cut_from [] zero each enough = refl
cut_from [] (suc more) each enough = refl
cut_from (x ∷ batch) zero each enough = absurd (omega (arith, enough, body_long x batch))
cut_from (x ∷ batch) (suc more) each enough =
    let body : List ℕ = body_of (x ∷ batch) in
    let head : List ℕ = big_bytes 2 (length x) in
    let whole : body ≡ head ++ (x ++ body_of batch) = append_assoc head x (body_of batch) in
    let two : length head ≡ 2 = length-bytes_high_first 2 (length x) in
    let is_record = All-head IsRecord x batch each in
    let small : length x < 256 ^ 2 = (let less = is_record.no_longer in omega arith) in
    let len : big_number 2 body ≡ length x = ap (λ (l : List ℕ). big_number 2 l) whole ∙ big_number-reads_back 2 (length x) (x ++ body_of batch) small in
    let behind : drop 2 body ≡ x ++ body_of batch = ap (λ (l : List ℕ). drop 2 l) whole ∙ drop_at head (x ++ body_of batch) 2 two in
    let first : first_record body ≡ x = ap (λ (n : ℕ). take n (drop 2 body)) len ∙ ap (λ (l : List ℕ). take (length x) l) behind ∙ take_at x (body_of batch) (length x) refl in
    let rest : behind_first body ≡ body_of batch = ap (λ (n : ℕ). drop n (drop 2 body)) len ∙ ap (λ (l : List ℕ). drop (length x) l) behind ∙ drop_at x (body_of batch) (length x) refl in
    let enough : length (body_of batch) ≤ more = omega (arith, enough, ap length whole, two, length-append head (x ++ body_of batch), length-append x (body_of batch)) in
    ap (λ (r : Record). r ∷ batch_from more (behind_first body)) first
    ∙ ap (λ (l : List ℕ). x ∷ batch_from more l) rest
    ∙ ap (λ (b : Batch). x ∷ b) (cut_from batch more (All-tail IsRecord x batch each) enough)

pub batch_in_body : (batch : Batch) → All IsRecord batch → batch_in (body_of batch) ≡ batch
batch_in_body batch each = cut_from batch (length (body_of batch)) each (omega arith)

-- the body so far is that of these records, and their positions were added
pub record Cut (body rest : List ℕ) (from at count : ℕ) (before positions : List Position) : Type 0 where
  pub front : Batch
  pub each : All IsRecord front
  pub split : body ≡ body_of front ++ rest
  pub at_is : at ≡ from + length (body_of front)
  pub count_is : count ≡ length front
  pub positions_are : positions ≡ before ++ positions_of from front

positions-append : (at : ℕ) (a b : Batch) → positions_of at (a ++ b) ≡ positions_of at a ++ positions_of (at + length (body_of a)) b
positions-append at [] b = ap (λ (n : ℕ). positions_of n b) (let e : at ≡ at + 0 = omega arith in e)
positions-append at (x ∷ a) b =
    let e : at + (length x + 2) + length (body_of a) ≡ at + length (body_of (x ∷ a)) =
    omega (arith, length-append (record_bytes x) (body_of a), length-append (big_bytes 2 (length x)) x, length-bytes_high_first 2 (length x)) in
    ap (λ (l : List Position). record { offset = at + 2; len = length x } ∷ l)
    (positions-append (at + (length x + 2)) a b ∙ ap (λ (n : ℕ). positions_of (at + (length x + 2)) a ++ positions_of n b) e)

one_record : (x : Record) → IsRecord x → All IsRecord (x ∷ [])
one_record x is zero d below = is
one_record x is (suc k) d below = absurd (omega arith)

-- one record more
pub cut_more : (body rest after : List ℕ) (from at count : ℕ) (before positions next : List Position) → Cut body rest from at count before positions
    → (x : Record) → IsRecord x → rest ≡ record_bytes x ++ after → (len : ℕ) → len ≡ length x → next ≡ positions ++ record { offset = at + 2; len = len } ∷ []
    → Cut body after from (at + (len + 2)) (count + 1) before next
cut_more body rest after from at count before positions next cut x is first len len_is more =
    let front : Batch = cut.front in
    let bytes : body_of (front ++ x ∷ []) ≡ body_of front ++ record_bytes x = flat_map-append record_bytes front (x ∷ []) ∙ ap (λ (l : List ℕ). body_of front ++ l) (append-nil (record_bytes x)) in
    let one : List Position = record { offset = at + 2; len = len } ∷ [] in
    let last : one ≡ positions_of (from + length (body_of front)) (x ∷ []) = λ i. record { offset = cut.at_is i + 2; len = len_is i } ∷ [] in
    record {
      front = front ++ x ∷ [];
      each = All-append IsRecord front (x ∷ []) cut.each (one_record x is);
      split = cut.split ∙ ap (λ (l : List ℕ). body_of front ++ l) first ∙ sym (append_assoc (body_of front) (record_bytes x) after) ∙ ap (λ (l : List ℕ). l ++ after) (sym bytes);
      at_is = omega (arith, cut.at_is, len_is, ap length bytes, length-append (body_of front) (record_bytes x), length-append (big_bytes 2 (length x)) x, length-bytes_high_first 2 (length x));
      count_is = omega (arith, cut.count_is, length-append front (x ∷ []));
      positions_are = more ∙ ap (λ (l : List Position). l ++ one) cut.positions_are ∙ append_assoc before (positions_of from front) one
          ∙ ap (λ (l : List Position). before ++ (positions_of from front ++ l)) last ∙ ap (λ (l : List Position). before ++ l) (sym (positions-append from front (x ∷ [])));
    }

-- nothing is left
module _ (body rest : List ℕ) (from at count : ℕ) (before positions : List Position) (cut : Cut body rest from at count before positions) (none : length rest ≡ 0) where
  nil : (l : List ℕ) → length l ≡ 0 → l ≡ []
  nil [] e = refl
  nil (y ∷ l) e = absurd (omega (arith, e))

  filled : body ≡ body_of cut.front
  filled = cut.split ∙ ap (λ (l : List ℕ). body_of cut.front ++ l) (nil rest none) ∙ append-nil (body_of cut.front)

  batch_is : batch_in body ≡ cut.front
  batch_is = ap batch_in filled ∙ batch_in_body cut.front cut.each

  pub cut_batch : 1 ≤ count → count ≤ 64 → IsBatch (batch_in body)
  cut_batch some few = subst IsBatch (sym batch_is) (record { some = omega (arith, some, cut.count_is); few = omega (arith, few, cut.count_is); each = cut.each })

  pub cut_filled : body ≡ body_of (batch_in body)
  cut_filled = filled ∙ ap body_of (sym batch_is)

  pub cut_positions : positions ≡ before ++ positions_of from (batch_in body)
  cut_positions = cut.positions_are ∙ ap (λ (b : Batch). before ++ positions_of from b) (sym batch_is)

-- A batch's bytes that begin with those of some records: it begins with these.
body_front : (a b : Batch) (r : List ℕ) → All IsRecord a → All IsRecord b → body_of b ≡ body_of a ++ r → (k : Batch) × All IsRecord k × (b ≡ a ++ k) × (body_of k ≡ r)
body_front [] b r p q e = (b, q, refl, e)
body_front (x ∷ a) [] r p q e = absurd (omega (arith, ap length e, length-append (body_of (x ∷ a)) r, body_long x a))
body_front (x ∷ a) (y ∷ b) r p q e =
    let small : length x < 256 ^ 2 = (All-head IsRecord x a p).no_longer in
    let less : length y < 256 ^ 2 = (All-head IsRecord y b q).no_longer in
    let apart = counted_one 2 y x (body_of b) (body_of a ++ r) less small
    (sym (append_assoc (big_bytes 2 (length y)) y (body_of b)) ∙ e ∙ append_assoc (record_bytes x) (body_of a) r ∙ append_assoc (big_bytes 2 (length x)) x (body_of a ++ r)) in
    let rest = body_front a b r (All-tail IsRecord x a p) (All-tail IsRecord y b q) apart.1 in
    (rest.0, rest.1, (λ i. apart.0 i ∷ rest.2 i), rest.3)

-- no batch goes on so
module _ (body rest : List ℕ) (from at count : ℕ) (before positions : List Position) (cut : Cut body rest from at count before positions) (batch : Batch) (is : IsBatch batch) (fills : body ≡ body_of batch) where
  more : (k : Batch) × All IsRecord k × (batch ≡ cut.front ++ k) × (body_of k ≡ rest)
  more = body_front cut.front batch rest cut.each is.each (sym fills ∙ cut.split)

  pub none_full : count ≡ 64 → (length rest ≡ 0 → ⊥) → ⊥
  none_full full some = on more.0 more.2 more.3
    where
      on : (k : Batch) → batch ≡ cut.front ++ k → body_of k ≡ rest → ⊥
      on [] goes fills = some (ap length (sym fills))
      on (y ∷ k) goes fills = let few = is.few in omega (arith, full, cut.count_is, ap length goes, length-append cut.front (y ∷ k))

  pub none_next : (length rest ≡ 0 → ⊥) → ((x : Record) (after : List ℕ) → IsRecord x → rest ≡ record_bytes x ++ after → ⊥) → ⊥
  none_next some none = on more.0 more.1 more.3
    where
      on : (k : Batch) → All IsRecord k → body_of k ≡ rest → ⊥
      on [] each fills = some (ap length (sym fills))
      on (y ∷ k) each fills = none y (body_of k) (All-head IsRecord y k each) (sym fills)
