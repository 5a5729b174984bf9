-- How a ledger stays tied to its content.
use Rattle.std.proofs.Common.{◌≡◌, ℕ, ◌+◌, ◌≤◌, ◌^◌, List, [], ◌∷◌, ◌++◌, length, take, refl, sym, ap, ◌∙◌, subst, arith, length-append}
use Rattle.std.specs.Prelude.{All}
use Rattle.std.proofs.lemmas.List.{take_at}
use Rattle.std.proofs.lemmas.List.Elements.{All-append}
use Rattle.txn_base.specs.declared.file_id.FileId.{FileId}
use Rattle.txn_base.specs.Frames.{Batch, IsBatch, frame, frames}
use Rattle.txn_base.specs.Content.{LedgerContent, Standing, settled, in_flight, looked_at, landed, begun, kept, dropped, with_flight, IsInFlight}
use Rattle.txn_ledger.specs.declared.position.Position.{Position}
use Rattle.txn_ledger.specs.Positions.{positions_of, positions_in}
use Rattle.txn_ledger.specs.declared.state.State.{State}
use Rattle.txn_ledger.specs.declared.state.State.TheVariants.{Settled, InFlight}
use Rattle.txn_ledger.specs.Tied.{TiedTo, IsScanned, IsSent, ledger_state}
use Rattle.txn_ledger.proofs.Bodies.{positions-push, count_positions}
use Rattle.txn_ledger.proofs.Frames.{frames-push, one_batch}

with_one : (key : FileId) (batches : List Batch) (batch : Batch) (end : ℕ) (file : FileId) (next_end sent count : ℕ) (state : State) (positions : List Position) → file ≡ key → All IsBatch batches → IsBatch batch
    → end ≡ length (frames batches) → next_end ≡ end + length (frame batch) → next_end ≤ 2 ^ 50 → count ≡ length positions → state ≡ Settled → positions ≡ positions_in 0 (batches ++ batch ∷ [])
    → TiedTo (record { key = key; batches = batches ++ batch ∷ []; standing = settled }) file next_end sent count state positions
with_one key batches batch end file next_end sent count state positions file_is each is_batch ends next_ends bound count_is state_is positions_are = record {
  file_is = file_is;
  each = All-append IsBatch batches (batch ∷ []) each (one_batch batch is_batch);
  ends = omega (arith, next_ends, ends, ap length (frames-push batches batch), length-append (frames batches) (frame batch));
  bound = bound;
  count_is = count_is ∙ ap length positions_are ∙ count_positions 0 (batches ++ batch ∷ []);
  state_is = state_is;
  sent_is = tt;
  positions_are = positions_are;
}

module _ (content : LedgerContent) (file : FileId) (end sent count : ℕ) (state : State) (positions : List Position) (tied : TiedTo content file end sent count state positions) where
  module _ (batch : Batch) (is_batch : IsBatch batch) (is_settled : content.standing ≡ settled) (next_positions : List Position) (more : next_positions ≡ positions ++ positions_of (end + 5) batch) where
    all_positions : next_positions ≡ positions_in 0 (content.batches ++ batch ∷ [])
    all_positions = more ∙ ap (λ (l : List Position). l ++ positions_of (end + 5) batch) (tied.positions_are ∙ ap (λ (s : Standing). positions_in 0 (with_flight content.batches s)) is_settled) ∙ sym (positions-push content.batches batch end tied.ends)

    pub tied_landed : (next : LedgerContent) → next ≡ landed content batch → (next_end next_count : ℕ) → next_end ≡ end + length (frame batch) → next_end ≤ 2 ^ 50 → next_count ≡ length next_positions
        → TiedTo next file next_end sent next_count state next_positions
    tied_landed next is next_end next_count ends bound counts = subst (λ (s : LedgerContent). TiedTo s file next_end sent next_count state next_positions) (sym is)
        (with_one content.key content.batches batch end file next_end sent next_count state next_positions tied.file_is tied.each is_batch tied.ends ends bound counts (tied.state_is ∙ ap ledger_state is_settled) all_positions)

    pub tied_begun : (next : LedgerContent) → next ≡ begun content batch → (next_sent : ℕ) → next_sent ≡ length (frame batch) → TiedTo next file end next_sent count InFlight next_positions
    tied_begun next is next_sent sent_is = subst (λ (s : LedgerContent). TiedTo s file end next_sent count InFlight next_positions) (sym is) (record {
      file_is = tied.file_is;
      each = tied.each;
      ends = tied.ends;
      bound = tied.bound;
      count_is = tied.count_is;
      state_is = refl;
      sent_is = (is_batch, sent_is);
      positions_are = all_positions;
    })

  pub tied_kept : IsInFlight content.standing → (next : LedgerContent) → next ≡ kept content → (next_end next_count : ℕ) → next_end ≡ end + sent → next_end ≤ 2 ^ 50 → next_count ≡ length positions
      → TiedTo next file next_end sent next_count Settled positions
  tied_kept doubt next is next_end next_count ends bound counts = subst (λ (s : LedgerContent). TiedTo s file next_end sent next_count Settled positions) (sym is) (on content.standing doubt tied.sent_is tied.positions_are)
    where
      on : (standing : Standing) → IsInFlight standing → IsSent standing sent → positions ≡ positions_in 0 (with_flight content.batches standing) → TiedTo (kept (record { key = content.key; batches = content.batches; standing = standing })) file next_end sent next_count Settled positions
      on settled none is_sent are = absurd none
      on looked_at none is_sent are = absurd none
      on (in_flight batch) some is_sent are =
          with_one content.key content.batches batch end file next_end sent next_count Settled positions tied.file_is tied.each is_sent.0 tied.ends (ends ∙ ap (λ (n : ℕ). end + n) is_sent.1) bound counts refl are

  pub tied_dropped : IsInFlight content.standing → (next : LedgerContent) → next ≡ dropped content → (next_positions : List Position) → next_positions ≡ take count positions → TiedTo next file end sent count Settled next_positions
  tied_dropped doubt next is next_positions fewer = subst (λ (s : LedgerContent). TiedTo s file end sent count Settled next_positions) (sym is) (record {
    file_is = tied.file_is;
    each = tied.each;
    ends = tied.ends;
    bound = tied.bound;
    count_is = tied.count_is;
    state_is = refl;
    sent_is = tt;
    positions_are = fewer ∙ on content.standing doubt tied.positions_are;
  })
    where
      on : (standing : Standing) → IsInFlight standing → positions ≡ positions_in 0 (with_flight content.batches standing) → take count positions ≡ positions_in 0 content.batches
      on settled none are = absurd none
      on looked_at none are = absurd none
      on (in_flight batch) some are =
          ap (λ (l : List Position). take count l) (are ∙ positions-push content.batches batch end tied.ends)
          ∙ take_at (positions_in 0 content.batches) (positions_of (end + 5) batch) count (count_positions 0 content.batches ∙ sym tied.count_is)

-- one frame more of a ledger that is being opened
pub scanned_landed : (content : LedgerContent) (end : ℕ) (positions : List Position) → IsScanned content end positions → (batch : Batch) → IsBatch batch
    → (next_positions : List Position) → next_positions ≡ positions ++ positions_of (end + 5) batch → (next : LedgerContent) → next ≡ landed content batch
    → (next_end : ℕ) → next_end ≡ end + length (frame batch) → next_end ≤ 2 ^ 50 → IsScanned next next_end next_positions
scanned_landed content end positions scanned batch is_batch next_positions more next is next_end ends bound = subst (λ (s : LedgerContent). IsScanned s next_end next_positions) (sym is) (record {
  tied = tied_landed content content.key end 0 (length positions) Settled positions scanned.tied batch is_batch scanned.settled_is next_positions more (landed content batch) refl next_end (length next_positions) ends bound refl;
  settled_is = refl;
})
