use Rattle.std.proofs.Common.{◌≡◌, ◌++◌, [], ◌∷◌, codes, subst}
use Rattle.std.specs.Prelude.{OnOk}
use Rattle.gov_ids.specs.Spelling.{pool_text}
use Rattle.text_model.specs.Words.{Text, line_of}
use Rattle.checkpoint_print.proofs.line.push_pool_line.Goals as goal

pub returns : goal.returns
returns c =
    subst (λ (w : Text). OnOk c.push_line.result (c.push_line.new.out.items ≡ c.args.out.now.items ++ line_of c.args.number (codes "pool" ∷ pool_text c.args.pool.now.pool ∷ codes "account" ∷ w ∷ [])))
    c.account_word.ensures c.push_line.ensures
