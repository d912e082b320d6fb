use Rattle.std.proofs.Common.{◌≡◌, ◌+◌, ◌-◌, ◌*◌, ◌≤◌, [], ◌∷◌, ◌++◌, flat_map, length}
use Rattle.std.specs.List.{range_with_len}
use Rattle.load_model.specs.Stream.{account_output}
use Rattle.gen_load.proofs.registrations.push_account_outputs.Given as goal

-- what is added so far, and the outputs of the accounts that are left, are all of them
abbrev pub invariant-loop-account : goal.invariant-loop-account
invariant-loop-account l = record {
  text : l.line ++ flat_map (λ i. account_output l.seed i ++ 44 ∷ []) (range_with_len l.account (l.end - l.account))
      ≡ l.fn.line ++ flat_map (λ i. account_output l.seed i ++ 44 ∷ []) (range_with_len l.first (l.end - l.first));
  from : l.first ≤ l.account;
  room : length l.line ≤ length l.fn.line + 150 * (l.account - l.first);
}
