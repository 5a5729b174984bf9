-- The head of a frame, and its body.
use Rattle.std.proofs.Common.{◌≡◌, ◌⊎◌, ⊎_elim, ℕ, ◌+◌, ◌<◌, ◌≤◌, ◌^◌, ◌*◌, ◌/◌, ◌%◌, List, [], ◌∷◌, ◌++◌, length, take, drop, get_or, suc, sym, ap, ◌∙◌, arith, length-append, take-append-drop}
use Rattle.std.proofs.lemmas.List.{append_assoc, take_at, drop_at}
use Rattle.byteorder.specs.Endian.{big_bytes, big_number}
use Rattle.byteorder.specs.Numbers.{big_number-reads_back, length-bytes_high_first}
use Rattle.txn_base.specs.Frames.{Batch, IsBatch, body_of, frame}
use Rattle.txn_base.proofs.Laws.{body_length, body_small}
use Rattle.txn_ledger.specs.Found.{AtNone}

-- four bytes are those of their number
four_bytes : (xs : List ℕ) → length xs ≡ 4 → ((k : ℕ) → get_or xs k 0 < 256) → big_bytes 4 (big_number 4 xs) ≡ xs
four_bytes [] long small = absurd (omega (arith, long))
four_bytes (a ∷ []) long small = absurd (omega (arith, long))
four_bytes (a ∷ b ∷ []) long small = absurd (omega (arith, long))
four_bytes (a ∷ b ∷ c ∷ []) long small = absurd (omega (arith, long))
four_bytes (a ∷ b ∷ c ∷ d ∷ []) long small =
    let a_small : a < 256 = small 0 in
    let b_small : b < 256 = small 1 in
    let c_small : c < 256 = small 2 in
    let d_small : d < 256 = small 3 in
    let n : ℕ = big_number 4 (a ∷ b ∷ c ∷ d ∷ []) in
    let one : n / 16777216 % 256 ≡ a = omega arith in
    let two : n / 65536 % 256 ≡ b = omega arith in
    let three : n / 256 % 256 ≡ c = omega arith in
    let four : n % 256 ≡ d = omega arith in
    λ i. one i ∷ two i ∷ three i ∷ four i ∷ []
four_bytes (a ∷ b ∷ c ∷ d ∷ e ∷ xs) long small = absurd (omega (arith, long))

-- the head of a frame, as it is read
pub head_read : (head rest : List ℕ) → head ≡ take 5 rest → length head ≡ 5 → get_or head 0 0 ≡ 1 → ((k : ℕ) → get_or head k 0 < 256) → (len : ℕ) → len ≡ big_number 4 (drop 1 head) → rest ≡ 1 ∷ (big_bytes 4 len ++ drop 5 rest)
head_read [] rest front long gate small len is = absurd (omega (arith, long))
head_read (g ∷ xs) rest front long gate small len is =
    let bytes : big_bytes 4 len ≡ xs = ap (big_bytes 4) is ∙ four_bytes xs (omega (arith, long)) (λ k. small (suc k)) in
    sym (take-append-drop 5 rest) ∙ ap (λ (l : List ℕ). l ++ drop 5 rest) (sym front) ∙ (λ i. gate i ∷ (sym bytes i ++ drop 5 rest))

-- a frame's length and its body
frame_split : (batch : Batch) (after : List ℕ) → frame batch ++ after ≡ 1 ∷ (big_bytes 4 (length (body_of batch)) ++ (body_of batch ++ after))
frame_split batch after = ap (λ (l : List ℕ). 1 ∷ l) (append_assoc (big_bytes 4 (length (body_of batch))) (body_of batch) after)

-- no batch has such a length before it
pub none_long : (rest : List ℕ) (len : ℕ) → 5 ≤ length rest → rest ≡ 1 ∷ (big_bytes 4 len ++ drop 5 rest) → len < 2 ^ 32 → (64 * 65537 < len) ⊎ (length rest < 5 + len) → AtNone rest
none_long rest len long is small wrong = record {
  behind = big_bytes 4 len ++ drop 5 rest;
  gate = is;
  no_frame = λ batch after is_batch e.
      let body : List ℕ = body_of batch in
      let behind : big_bytes 4 len ++ drop 5 rest ≡ big_bytes 4 (length body) ++ (body ++ after) = ap (λ (l : List ℕ). drop 1 l) (sym is ∙ e ∙ frame_split batch after) in
      let len_is : len ≡ length body =
      sym (big_number-reads_back 4 len (drop 5 rest) (omega (arith, small))) ∙ ap (λ (l : List ℕ). big_number 4 l) behind ∙ big_number-reads_back 4 (length body) (body ++ after) (body_small batch is_batch) in
      let most : length body ≤ length batch * 65537 = body_length batch is_batch.each in
      let few = is_batch.few in
      let all : length rest ≡ 5 + (length body + length after) =
      omega (arith, ap length (e ∙ frame_split batch after), length-append (big_bytes 4 (length body)) (body ++ after), length-append body after, length-bytes_high_first 4 (length body)) in
      ⊎_elim (λ more. omega (arith, len_is, most, few)) (λ more. omega (arith, len_is, all)) wrong;
}

-- a head, and the bytes behind it
module _ (rest : List ℕ) (len : ℕ) (body : List ℕ) (head : rest ≡ 1 ∷ (big_bytes 4 len ++ drop 5 rest)) (body_is : body ≡ take len (drop 5 rest)) where
  pub frame_found : (batch : Batch) → length body ≡ len → body ≡ body_of batch → rest ≡ frame batch ++ drop len (drop 5 rest)
  frame_found batch long is =
      let n_is : big_bytes 4 len ≡ big_bytes 4 (length (body_of batch)) = ap (big_bytes 4) (omega (arith, long, ap length is)) in
      let tail : drop 5 rest ≡ body_of batch ++ drop len (drop 5 rest) = sym (take-append-drop len (drop 5 rest)) ∙ ap (λ (l : List ℕ). l ++ drop len (drop 5 rest)) (sym body_is ∙ is) in
      head ∙ ap (λ (l : List ℕ). 1 ∷ (l ++ drop 5 rest)) n_is ∙ ap (λ (l : List ℕ). 1 ∷ (big_bytes 4 (length (body_of batch)) ++ l)) tail ∙ sym (frame_split batch (drop len (drop 5 rest)))

  pub frame_body : len < 2 ^ 32 → (batch : Batch) (after : List ℕ) → IsBatch batch → rest ≡ frame batch ++ after → body ≡ body_of batch
  frame_body small batch after is e =
      let b : List ℕ = body_of batch in
      let behind : big_bytes 4 len ++ drop 5 rest ≡ big_bytes 4 (length b) ++ (b ++ after) = ap (λ (l : List ℕ). drop 1 l) (sym head ∙ e ∙ frame_split batch after) in
      let len_is : len ≡ length b =
      sym (big_number-reads_back 4 len (drop 5 rest) (omega (arith, small))) ∙ ap (λ (l : List ℕ). big_number 4 l) behind ∙ big_number-reads_back 4 (length b) (b ++ after) (body_small batch is) in
      let tail : drop 5 rest ≡ b ++ after = ap (λ (l : List ℕ). drop 5 l) (e ∙ frame_split batch after) ∙ drop_at (1 ∷ big_bytes 4 (length b)) (b ++ after) 5 (omega (arith, length-bytes_high_first 4 (length b))) in
      body_is ∙ ap (λ (l : List ℕ). take len l) tail ∙ take_at b after len (sym len_is)
