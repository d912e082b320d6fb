use Rattle.std.proofs.Common.{[], ◌∷◌, ◌++◌, codes, ap, ◌∙◌}
use Rattle.std.proofs.lemmas.Result.{on_ok_weaker}
use Rattle.gov_ids.specs.Spelling.{pool_text}
use Rattle.text_model.specs.Words.{Text, line_of}
use Rattle.frozen_print.proofs.line.push_pool.Goals as goal

pub returns : goal.returns
returns c =
    on_ok_weaker c.push_line.result
    (λ is. is ∙ ap (λ (account : Text). c.args.out.now.items ++ line_of c.args.line (codes "pool" ∷ pool_text c.args.pool.now.pool ∷ codes "account" ∷ account ∷ [])) c.account_word.ensures)
    c.push_line.ensures
