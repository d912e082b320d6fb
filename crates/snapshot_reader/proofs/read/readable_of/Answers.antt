use Rattle.std.proofs.Common.{sym, ◌∙◌}
use Rattle.std.proofs.lemmas.Bool.{false≢true}
use Rattle.snapshot_counts.specs.Fitting.{snapshot_in}
use Rattle.snapshot_reader.proofs.Readable.{is_readable, is_told, none_listed, not_readable}
use Rattle.snapshot_reader.proofs.read.readable_of.Goals as goal

pub returns-in_default : goal.returns-in_default
returns-in_default c = none_listed c.args.rows (rw c.in_default.is at c.in_ok-snapshot.ensures)

pub is_readable-requires : goal.is_readable-requires
is_readable-requires c = is_told c.args.rows (snapshot_in c.in-Some.snapshot) (rw c.in-Some.is at c.in_ok-snapshot.ensures) c.requires

pub returns-then-branch : goal.returns-then-branch
returns-then-branch c = is_readable c.args.rows (snapshot_in c.in-Some.snapshot) (rw c.in-Some.is at c.in_ok-snapshot.ensures) (c.in_ok-is_readable.ensures.0 c.if-branch.true)

pub returns-else-branch : goal.returns-else-branch
returns-else-branch c =
    not_readable c.args.rows (snapshot_in c.in-Some.snapshot) (rw c.in-Some.is at c.in_ok-snapshot.ensures)
    (λ is. false≢true (sym c.if-branch.false ∙ c.in_ok-is_readable.ensures.1 is))
