-- A record of ends stands for one list of them.
use Rattle.std.proofs.Common.{◌≡◌, ℕ, List, [], ◌∷◌, ◌++◌, length, drop, slice_index, refl, sym, ap, ◌∙◌, arith}
use Rattle.std.specs.Prelude.{All}
use Rattle.std.specs.List.{flat_map}
use Rattle.std.proofs.lemmas.List.Elements.{All-head, All-tail}
use Rattle.txn_base.specs.declared.txn.TxnId.{TxnId}
use Rattle.txn_base.specs.declared.txn.Decision.{Decision}
use Rattle.txn_base.specs.declared.txn.Decision.TheVariants as decision
use Rattle.txn_base.specs.Decoded.{txn_at_front}
use Rattle.txn_base.specs.Records.{IsEnd, end_bytes, ends_record, decision_byte}
use Rattle.txn_records.proofs.Numbers.{txn_read}

byte_one : (x y : Decision) → decision_byte x ≡ decision_byte y → x ≡ y
byte_one decision.Commit decision.Commit e = refl
byte_one decision.Commit decision.Abort e = absurd (omega (arith, e))
byte_one decision.Abort decision.Commit e = absurd (omega (arith, e))
byte_one decision.Abort decision.Abort e = refl

end_one : (x y : TxnId × Decision) (a b : List ℕ) → IsEnd x → IsEnd y → end_bytes x ++ a ≡ end_bytes y ++ b → x ≡ y
end_one x y a b fits small e =
    let txn : x.0 ≡ y.0 = sym (txn_read x.0 (decision_byte x.1 ∷ a) fits) ∙ ap txn_at_front e ∙ txn_read y.0 (decision_byte y.1 ∷ b) small in
    let byte : decision_byte x.1 ≡ decision_byte y.1 = ap (λ (l : List ℕ). slice_index l 16) e in
    λ i. (txn i, byte_one x.1 y.1 byte i)

flat_one : (a b : List (TxnId × Decision)) → All IsEnd a → All IsEnd b → flat_map end_bytes a ≡ flat_map end_bytes b → a ≡ b
flat_one [] [] p q e = refl
flat_one [] (y ∷ b) p q e = absurd (omega (arith, ap length e))
flat_one (x ∷ a) [] p q e = absurd (omega (arith, ap length e))
flat_one (x ∷ a) (y ∷ b) p q e =
    let first = end_one x y (flat_map end_bytes a) (flat_map end_bytes b) (All-head IsEnd x a p) (All-head IsEnd y b q) e in
    let rest = flat_one a b (All-tail IsEnd x a p) (All-tail IsEnd y b q) (ap (drop 17) e) in
    λ i. first i ∷ rest i

pub ends_one : (a b : List (TxnId × Decision)) → All IsEnd a → All IsEnd b → ends_record a ≡ ends_record b → a ≡ b
ends_one a b p q e = flat_one a b p q (ap (drop 4) e)
