use Rattle.std.proofs.Common.{inl, inr, refl, ap, sym, ◌∙◌, arith}
use Rattle.gov_ids.specs.declared.Voter.{Voter}
use Rattle.govcert.specs.Acted.{acted_as}
use Rattle.govcert.proofs.Acting.{no_drep}
use Rattle.govcert.proofs.voters.act_as.Goals as goal

pub returns-in-Committee : goal.returns-in-Committee
returns-in-Committee c =
    let l = c.args.d.now.ledger in record {
      ledger = elim c.in-Committee.is [
        | inl member ↦ no_drep l ∙ ap (λ (v : Voter). acted_as v l) (sym member.1)
        | inr pool ↦ no_drep l ∙ ap (λ (v : Voter). acted_as v l) (sym pool.1)
      ];
      moved = (refl, refl);
      start = refl;
      few = omega arith;
    }
