-- What became of a batch in flight.
use Rattle.std.proofs.Common.{◌≡◌, ◌⊎◌, inl, inr, ⊎_elim, ℕ, ◌+◌, ◌-◌, ◌<◌, ◌≤◌, List, [], ◌∷◌, ◌++◌, length, drop, replicate, get_or, sym, ◌∙◌, ap, subst, arith, length-append, get_or-drop}
use Rattle.std.proofs.lemmas.List.{drop_at, drop_more, append_assoc, append-nil}
use Rattle.txn_base.specs.Disk.{OldOrResized}
use Rattle.txn_base.specs.Frames.{Batch, IsBatch, frame, frames, behind_gate, Stands}
use Rattle.txn_base.specs.Content.{Standing, settled, in_flight, looked_at, IsInFlight, KeptOrNot, with_flight}
use Rattle.txn_ledger.specs.Gate.{IsFrameThere}
use Rattle.txn_ledger.specs.Tied.{IsSent}
use Rattle.txn_ledger.proofs.Behind.{shut_gate}
use Rattle.txn_ledger.proofs.Frames.{frames-push, cut_is, closed_of_stands}

module _ (batches : List Batch) (end sent : ℕ) (ends : end ≡ length (frames batches)) where
  kept_one : (flight : Batch) → IsBatch flight → sent ≡ length (frame flight) → (x : List ℕ) → Stands x batches ⊎ Stands x (batches ++ flight ∷ []) → IsFrameThere end sent x → Stands x (batches ++ flight ∷ [])
  kept_one flight is sent_is x either whole = elim either [
    | inl stands ↦
        let long : end < length x = omega (arith, whole.0, sent_is) in
        absurd (shut_gate (drop end x) _ _ (drop_more x end 0 long) (closed_of_stands batches end ends x stands).shut whole.1)
    | inr more ↦ more
  ]

  sent_whole : (flight : Batch) → sent ≡ length (frame flight) → (x : List ℕ) → Stands x (batches ++ flight ∷ []) → IsFrameThere end sent x
  sent_whole flight sent_is x stands =
      let split : x ≡ frames batches ++ (frame flight ++ stands.rest) =
      stands.split ∙ ap (λ (l : List ℕ). l ++ stands.rest) (frames-push batches flight) ∙ append_assoc (frames batches) (frame flight) stands.rest in
      let behind : drop end x ≡ 1 ∷ (behind_gate flight ++ stands.rest) = ap (λ (l : List ℕ). drop end l) split ∙ drop_at (frames batches) (frame flight ++ stands.rest) end (sym ends) in
      let at : end + 0 ≡ end = omega arith in
      let long : end + sent ≤ length x = omega (arith, ends, sent_is, ap length split, length-append (frames batches) (frame flight ++ stands.rest), length-append (frame flight) stands.rest) in
      let gate : get_or x end 0 ≡ 1 = ap (λ (n : ℕ). get_or x n 0) (sym at) ∙ sym (get_or-drop end x 0 0) ∙ ap (λ (l : List ℕ). get_or l 0 0) behind in
      (long, gate)

  pub kept_stands : (standing : Standing) → IsInFlight standing → IsSent standing sent → (x : List ℕ) → KeptOrNot (Stands x) batches standing → IsFrameThere end sent x → Stands x (with_flight batches standing)
  kept_stands settled none is x either whole = absurd none
  kept_stands looked_at none is x either whole = absurd none
  kept_stands (in_flight flight) some is x either whole = kept_one flight is.0 is.1 x either whole

  pub dropped_stands : (standing : Standing) → IsInFlight standing → IsSent standing sent → (x : List ℕ) → KeptOrNot (Stands x) batches standing → (IsFrameThere end sent x → ⊥) → Stands x batches
  dropped_stands settled none is x either not_whole = absurd none
  dropped_stands looked_at none is x either not_whole = absurd none
  dropped_stands (in_flight flight) some is x either not_whole = ⊎_elim (λ none. none) (λ all. absurd (not_whole (sent_whole flight is.1 x all))) either

  -- what stood without it may stand so
  pub without : (standing : Standing) → (x : List ℕ) → Stands x batches → KeptOrNot (Stands x) batches standing
  without settled x stands = stands
  without looked_at x stands = stands
  without (in_flight flight) x stands = inl stands

  -- and so may what stood with it
  pub within : (standing : Standing) → IsInFlight standing → (x : List ℕ) → Stands x (with_flight batches standing) → KeptOrNot (Stands x) batches standing
  within settled none x stands = absurd none
  within looked_at none x stands = absurd none
  within (in_flight flight) some x stands = inr stands

  -- where its frame ends
  pub kept_ends : (standing : Standing) → IsInFlight standing → IsSent standing sent → end + sent ≡ length (frames (with_flight batches standing))
  kept_ends settled none is = absurd none
  kept_ends looked_at none is = absurd none
  kept_ends (in_flight flight) some is = omega (arith, ends, is.1, ap length (frames-push batches flight), length-append (frames batches) (frame flight))

  pub cut_stands : (x y : List ℕ) → Stands x batches → OldOrResized end x y → Stands y batches
  cut_stands x y stands (inl e) = subst (λ (z : List ℕ). Stands z batches) (sym e) stands
  cut_stands x y stands (inr e) =
      record { each = stands.each; rest = []; split = e ∙ cut_is batches end ends x stands ∙ sym (append-nil (frames batches)); shut = tt }
