use Rattle.std.proofs.Common.{◌≡◌, [], drop}
use Rattle.genesis_books.proofs.MemberWalks.{with_terms}
use Rattle.genesis_books.proofs.committee.terms_of.Given as goal

-- the terms so far with those of what is left are the terms of all
abbrev pub invariant-loop-cold : goal.invariant-loop-cold
invariant-loop-cold l = with_terms (drop l.cold-index l.members) l.terms.entries ≡ with_terms l.members []
