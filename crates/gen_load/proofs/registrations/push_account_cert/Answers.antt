use Rattle.std.proofs.Common.{ℕ, ◌++◌, ap, codes, ◌∙◌}
use Rattle.load_model.specs.Amounts.{account_name}
use Rattle.load_model.specs.Stream.{drep_of}
use Rattle.gen_load.specs.Pieces.{cert_begun}
use Rattle.gen_load.proofs.Together.{three_parts}
use Rattle.gen_load.proofs.registrations.push_account_cert.Goals as goal

pub returns-clause-text : goal.returns-clause-text
returns-clause-text c =
    three_parts c.args.line.now c.begin_cert.new.line c.push_drep.new.line c.push.new.self (cert_begun (account_name c.args.account)) (drep_of c.args.account) (codes "\"}")
    (c.begin_cert.ensures.text ∙ ap (λ (n : ℕ). c.args.line.now ++ cert_begun n) c.name_of-name.ensures)
    c.push_drep.ensures.text c.push.ensures.text
