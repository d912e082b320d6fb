use Rattle.std.proofs.Common.{nat_lt, ap, sym, ◌∙◌}
use Rattle.cert_pool.proofs.Counting.{other_is}
use Rattle.cert_pool.proofs.PoolBook.key_of_other.Goals as goal

pub returns-clause-value : goal.returns-clause-value
returns-clause-value c = ap (nat_lt 0) c.count_of_others.ensures.count ∙ sym (other_is c.args.key.now c.args.p.now c.args.self.now)
