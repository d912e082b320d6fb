use Rattle.std.proofs.Common.{◌≡◌, ◌+◌, ◌-◌, ◌*◌, ◌<◌, ◌≤◌, ◌∷◌, ◌++◌, flat_map, length, map}
use Rattle.std.specs.List.{range_with_len}
use Rattle.load_model.specs.Json.{with_commas}
use Rattle.load_model.specs.Stream.{account_cert}
use Rattle.gen_load.proofs.registrations.push_account_certs.Given as goal

-- what is added so far, and the registrations of the accounts that are left, are all of them
abbrev pub invariant-loop-account : goal.invariant-loop-account
invariant-loop-account l = record {
  text : l.line ++ flat_map (λ i. 44 ∷ account_cert i) (range_with_len l.account (l.end - l.account))
      ≡ l.fn.line ++ with_commas (map account_cert (range_with_len l.first (l.end - l.first)));
  from : l.first < l.account;
  room : length l.line ≤ length l.fn.line + 250 * (l.account - l.first);
}
