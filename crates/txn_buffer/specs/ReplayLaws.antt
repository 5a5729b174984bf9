-- What holds of the entries that a replay takes.
use Rattle.std.proofs.Common.{◌≡◌, ℕ, Bool, true, ◌&&◌, List, [], ◌∷◌, ◌++◌, sym, ap, ◌∙◌}
use Rattle.std.proofs.lemmas.List.{map-append}
use Rattle.txn_base.specs.declared.entry.TopicEntry.{TopicEntry}
use Rattle.txn_base.specs.Frames.{Record}
use Rattle.txn_base.specs.Records.{IsTopicRecord}
use Rattle.txn_model.specs.Words.{all_follow}
use Rattle.txn_model.specs.Skeletons.{topic_skeleton, topic_skeletons}
use Rattle.txn_model.specs.Topic.{part_allows, TopicLawful}
use Rattle.txn_model.proofs.Laws.Lists.{all_follow-append}
use Rattle.txn_model.proofs.Laws.Tests.{and_l, and_r}

-- The entry is allowed after these, and these are lawful, whatever the rule.
abbrev pub allows : ℕ → List TopicEntry → TopicEntry → Bool
allows n before e = part_allows (topic_skeletons before) (topic_skeleton e)

abbrev pub IsLawful : ℕ → List TopicEntry → Type 0
IsLawful n entries = TopicLawful entries

-- One more, which is allowed; and one less.
pub one_more : (n : ℕ) (xs : List TopicEntry) (bytes : Record) (e : TopicEntry) → TopicLawful xs → IsTopicRecord bytes e → allows n xs e ≡ true → TopicLawful (xs ++ e ∷ [])
one_more n xs bytes e lawful is allowed =
    ap (all_follow part_allows []) (map-append topic_skeleton xs (e ∷ [])) ∙ all_follow-append part_allows [] (topic_skeletons xs) (topic_skeleton e ∷ [])
    ∙ ap (λ b. b && (part_allows (topic_skeletons xs) (topic_skeleton e) && true)) lawful ∙ ap (λ b. b && true) allowed

pub one_less : (n : ℕ) (xs : List TopicEntry) (e : TopicEntry) → TopicLawful (xs ++ e ∷ []) → TopicLawful xs × (allows n xs e ≡ true)
one_less n xs e lawful =
    let sk = topic_skeletons xs in
    let all : (all_follow part_allows [] sk && (part_allows sk (topic_skeleton e) && true)) ≡ true =
    sym (ap (all_follow part_allows []) (map-append topic_skeleton xs (e ∷ [])) ∙ all_follow-append part_allows [] sk (topic_skeleton e ∷ [])) ∙ lawful in (
      and_l (all_follow part_allows [] sk) (part_allows sk (topic_skeleton e) && true) all,
      and_l (part_allows sk (topic_skeleton e)) true (and_r (all_follow part_allows [] sk) (part_allows sk (topic_skeleton e) && true) all),
    )
