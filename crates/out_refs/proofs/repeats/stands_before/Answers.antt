use Rattle.std.proofs.Common.{Bool, take, ap, ◌∙◌, rules, tests}
use Rattle.std.specs.List.{list_any}
use Rattle.std.proofs.lemmas.Iterator.{YieldsList-from_slice, YieldsList-from_take}
use Rattle.std.proofs.lemmas.Iterator.Search.{any_from_yields_List}
use Rattle.gov_ids.specs.declared.OutRef.{OutRef}
use Rattle.gov_ids.specs.contracts.OutRefPartialEq.TheImpl as outref_eq
use Rattle.gov_ids.proofs.Sames.{outref_same}
use Rattle.out_refs.proofs.repeats.stands_before.Goals as goal

pub returns : goal.returns
returns c =
    any_from_yields_List (outref_eq.eq-value.it c.args.sought.now) _ _ _ c.any.ensures.ran (YieldsList-from_take c.args.place (YieldsList-from_slice c.args.refs.now cc) cc) (λ x b q k. search (rules, tests))
    ∙ ap (λ (same : OutRef → OutRef → Bool). list_any (same c.args.sought.now) (take c.args.place c.args.refs.now)) outref_same
