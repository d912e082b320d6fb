-- The last word is that of the account, or none.
use Rattle.std.proofs.Common.{◌≡◌, ◌++◌, [], ◌∷◌, OnOk, codes, subst}
use Rattle.gov_ids.specs.Spelling.{pool_text}
use Rattle.text_model.specs.Words.{line_of}
use Rattle.book_kinds.proofs.epoch.PoolAccountLinesLineKind.push.Goals as goal

pub returns : goal.returns
returns c =
    subst (λ t. OnOk c.push_line.result (c.push_line.new.out.items ≡ c.args.out.now.items ++ line_of 0 (codes "pool" ∷ pool_text c.args.pool.now.0 ∷ codes "account" ∷ t ∷ [])))
    c.account_word.ensures c.push_line.ensures
