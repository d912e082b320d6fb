use Rattle.std.proofs.Common.{ℕ, List, ◌++◌, ap, ◌∙◌}
use Rattle.std.specs.Map.{keys_of}
use Rattle.gov_ids.specs.declared.Credential.{Credential}
use Rattle.undo_before.proofs.Touched.{keys_of_expiries}
use Rattle.undo_before.proofs.names.add_registered.Goals as goal

pub loop-c-init : goal.loop-c-init
loop-c-init c =
    ap (λ (cs : List Credential). c.args.all.now.items ++ cs)
    (ap (λ (es : List (Credential × ℕ)). keys_of es) (c.deref-c-items.ensures.value ∙ c.in_ok-dreps.ensures.value) ∙ keys_of_expiries c.args.book.now.dreps)
