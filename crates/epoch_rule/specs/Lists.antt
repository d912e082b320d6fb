-- Parts of run_model's report of the boundary that a World crosses, except the next epoch. (Own)
use Rattle.gov_model.specs.Ratified.{ratified_of, tallies_of}
use Rattle.run_model.specs.Report.{paid_of, removed_of, retired_of, stakes_of}
use Rattle.run_model.specs.World.{World}
use Rattle.epoch_rule.specs.declared.books.Lists.{Lists}

-- stakes and tallies of the snapshot that ends, and where each amount went
abbrev pub lists_of : World → Lists
lists_of w = record {
  stakes = stakes_of w.frozen;
  tallies = tallies_of w.frozen (ratified_of w.frozen);
  paid = paid_of w;
  removed = removed_of w;
  retired = retired_of w;
}
