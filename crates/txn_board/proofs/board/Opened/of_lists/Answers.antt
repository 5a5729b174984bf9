use Rattle.std.proofs.Common.{◌≡◌, ◌≤◌, ◌*◌, List, [], take, drop, sym, ap, ◌∙◌, arith, subst, length}
use Rattle.txn_base.specs.declared.core_entry.CoreEntry.{CoreEntry}
use Rattle.txn_board.specs.Words.{window, WordsSay}
use Rattle.txn_board.specs.Rows.{list_in, low_in, opening_view}
use Rattle.txn_board.proofs.Filling.{cut, front}
use Rattle.txn_board.proofs.Seating.{opens, opening_keeps}
use Rattle.txn_board.proofs.board.Opened.of_lists.Goals as goal

pub of_words-requires : goal.of_words-requires
of_words-requires g c =
    let lists = c.args.lists.now in
    let all = c.in_ok-fixed.fixed.items in
    let same : c.as_slice.result.now ≡ lists = c.as_slice.ensures in
    let low : c.in_ok-fixed.low ≡ low_in lists = c.in_ok-fixed.ensures.low ∙ ap low_in same in
    let says = c.in_ok-fixed.ensures.says in
    let is : c.split_at-2.result.0.now ≡ take (3 * window) (drop (3 * c.in_ok-fixed.low) all) =
    c.split_at-2.ensures.front ∙ ap (take (3 * window)) (c.split_at.ensures.back ∙ ap (drop (3 * c.in_ok-fixed.low)) c.as_slice-2.ensures.value) in (
      opening_keeps lists c.split_at-2.result.0.now,
      λ p.
          opens lists c.split_at-2.result.0.now (record { few = omega (arith, c.requires.few); lawful = c.requires.lawful p; fits = c.requires.window p })
          (subst (λ ws. WordsSay (low_in lists) window ws (list_in lists)) (sym is)
          (subst (λ l. WordsSay l window (take (3 * window) (drop (3 * c.in_ok-fixed.low) all)) (list_in lists)) low
          (subst (λ k. WordsSay c.in_ok-fixed.low window (take (3 * window) (drop (3 * c.in_ok-fixed.low) all)) (list_in k)) same (cut says.0 c.in_ok-fixed.low window all (list_in c.as_slice.result.now) says.1 says.2)))),
    )

pub invariant_of-result : goal.invariant_of-result
invariant_of-result g c =
    let lists = c.args.lists.now in
    let all = c.in_ok-fixed.fixed.items in
    let same : c.as_slice.result.now ≡ lists = c.as_slice.ensures in
    let low : c.in_ok-fixed.low ≡ low_in lists = c.in_ok-fixed.ensures.low ∙ ap low_in same in
    let says = c.in_ok-fixed.ensures.says in
    let is : c.split_at-2.result.0.now ≡ take (3 * window) (drop (3 * c.in_ok-fixed.low) all) =
    c.split_at-2.ensures.front ∙ ap (take (3 * window)) (c.split_at.ensures.back ∙ ap (drop (3 * c.in_ok-fixed.low)) c.as_slice-2.ensures.value) in
    let e = c.in_ok-table.ensures in
    let key : lists ≡ c.in_ok-table.table.shared.key = sym e.5 in
    record {
      seat_fits = e.2;
      count = e.0 ∙ (ap length is ∙ (cut says.0 c.in_ok-fixed.low window all (list_in c.as_slice.result.now) says.1 says.2).size);
      no_slot = e.1;
      seat_is = e.4 ∙ ap (λ (k : List (List CoreEntry)). (opening_view k, [])) key;
      few = subst (λ (k : List (List CoreEntry)). length k ≤ 63) key c.requires.few;
      low_is = low ∙ ap low_in key;
      fixed_says = subst (λ (k : List (List CoreEntry)). WordsSay 0 c.in_ok-fixed.low c.shrink_to_fit.new.self.items (list_in k)) (same ∙ key)
          (subst (λ ws. WordsSay 0 c.in_ok-fixed.low ws (list_in c.as_slice.result.now)) (sym (c.shrink_to_fit.ensures.items ∙ c.truncate.ensures.items)) (front says.0 c.in_ok-fixed.low all (list_in c.as_slice.result.now) (omega (arith, says.1)) says.2));
    }
