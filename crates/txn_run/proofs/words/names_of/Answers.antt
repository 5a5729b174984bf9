use Rattle.std.proofs.Common.{◌≡◌, ◌∙◌, true, ℕ, List, [], ◌∷◌, ◌++◌, refl, sym, ap, subst}
use Rattle.txn_base.specs.Names.{is_topic_name}
use Rattle.txn_model.specs.Names.{NamesLawful}
use Rattle.txn_engine.proofs.Laws.{not_sub}
use Rattle.txn_run.proofs.words.names_of.Goals as goal

one_lawful : (name : List ℕ) → is_topic_name name ≡ true → NamesLawful (name ∷ [])
one_lawful name form = rw (not_sub name form, form) refl

pub returns-in-Ok-push-clause-lawful : goal.returns-in-Ok-push-clause-lawful
returns-in-Ok-push-clause-lawful c =
    subst NamesLawful (sym (c.in-Ok-push.ensures.items ∙ ap (λ (ns : List (List ℕ)). ns ++ c.in-Ok.name ∷ []) c.new-names.ensures.items)) (one_lawful c.in-Ok.name c.in-Ok.ensures.name)
