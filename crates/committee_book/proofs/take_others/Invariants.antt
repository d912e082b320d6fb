use Rattle.std.proofs.Common.{◌≡◌, Bor, option_map}
use Rattle.gov_actions.specs.declared.state.Committee.{Committee}
use Rattle.gov_ids.specs.declared.Credential.{Credential}
use Rattle.gov_model.specs.Hot.{of_members}
use Rattle.committee_book.specs.Holders.{held_at, holders_of}
use Rattle.committee_book.proofs.Keeping.{without_others}
use Rattle.committee_book.proofs.take_others.Given as goal

-- what is kept, without the others of those that are left, is what members have
abbrev pub invariant-loop-cold : goal.invariant-loop-cold
invariant-loop-cold l =
    (h : Credential)
    → without_others (option_map (λ (c : Bor Committee). c.now) l.c) h l.cold-iterator (held_at l.holders h)
    ≡ holders_of (of_members (option_map (λ (c : Bor Committee). c.now) l.c) l.entries.entries) h
