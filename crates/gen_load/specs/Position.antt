-- The position of the program in the stream, and the lines that are still to come. (Own)
use Rattle.std.specs.Prelude.{◌≡◌, ℕ, ◌+◌, ◌-◌, ◌*◌, ◌<◌, ◌≤◌, List, [], ◌++◌, drop, flat_map, map, nat_lt, if◌then◌else◌, ⊤}
use Rattle.std.specs.List.{range_with_len}
use Rattle.load_model.specs.of_text_model.Words.{Text}
use Rattle.load_model.specs.Amounts.{first_pulse, first_slot, last_slot, registration_count, spent_before}
use Rattle.load_model.specs.Stream.{block_line, bytes_of_lines, epoch_lines, lines_of_load, proposal_line, registration_line, rewards_line, votes_line}
use Rattle.gen_load.specs.declared.position.EpochLine.{EpochLine}
use Rattle.gen_load.specs.declared.position.EpochLine.TheVariants.{FirstBlock, Proposal, Votes, VotesAgain, Rewards, LastBlock}
use Rattle.gen_load.specs.declared.position.Load.{Load}
use Rattle.gen_load.specs.declared.position.NextLine.{NextLine}
use Rattle.gen_load.specs.declared.position.NextLine.TheVariants.{Genesis, Registration, Epoch}
use Rattle.gen_load.specs.declared.position.Position.{Position}

-- a line of epoch e
abbrev pub line_of_epoch : Load → ℕ → EpochLine → Text
line_of_epoch x e FirstBlock = block_line (first_slot e) (first_pulse x.seed e)
line_of_epoch x e Proposal = proposal_line x.seed x.accounts e
line_of_epoch x e Votes = votes_line x.seed x.accounts e
line_of_epoch x e VotesAgain = votes_line x.seed x.accounts e
line_of_epoch x e Rewards = rewards_line x.seed x.accounts e
line_of_epoch x e LastBlock = block_line (last_slot e) 1

-- the line after one of epoch e
abbrev pub after_epoch_line : ℕ → EpochLine → NextLine
after_epoch_line e FirstBlock = Epoch e Proposal
after_epoch_line e Proposal = Epoch e Votes
after_epoch_line e Votes = Epoch e VotesAgain
after_epoch_line e VotesAgain = Epoch e Rewards
after_epoch_line e Rewards = Epoch e LastBlock
after_epoch_line e LastBlock = Epoch (e + 1) FirstBlock

-- the line after registration j
abbrev pub after_registration : ℕ → ℕ → NextLine
after_registration accounts j =
    if nat_lt (j + 1) (registration_count accounts) then Registration (j + 1) else Epoch 0 FirstBlock

-- how many lines of its epoch are before it
abbrev pub lines_before : EpochLine → ℕ
lines_before FirstBlock = 0
lines_before Proposal = 1
lines_before Votes = 2
lines_before VotesAgain = 3
lines_before Rewards = 4
lines_before LastBlock = 5

-- the lines of the epochs from e on
abbrev pub lines_of_epochs : Load → ℕ → List Text
lines_of_epochs x e = flat_map (epoch_lines x.seed x.accounts) (range_with_len e (x.epochs - e))

-- the lines that are still to come
abbrev pub lines_from : Load → NextLine → List Text
lines_from x Genesis = lines_of_load x.seed x.accounts x.epochs
lines_from x (Registration j) =
    map (registration_line x.seed x.accounts) (range_with_len j (registration_count x.accounts - j)) ++ lines_of_epochs x 0
lines_from x (Epoch e line) = drop (lines_before line) (lines_of_epochs x e)

-- their bytes
abbrev pub bytes_from : Load → NextLine → List ℕ
bytes_from x next = bytes_of_lines (lines_from x next)

-- how many registrations were written before
abbrev pub registered : Load → NextLine → ℕ
registered x Genesis = 0
registered x (Registration j) = j
registered x (Epoch e line) = registration_count x.accounts

-- no number is beyond its bound
abbrev pub IsWithin : Load → NextLine → Type 0
IsWithin x Genesis = ⊤
IsWithin x (Registration j) = j < registration_count x.accounts
IsWithin x (Epoch e line) = e ≤ x.epochs

-- the bounds of a stream's parameters
pub record IsLoad (x : Load) : Type 0 where
  pub some : 0 < x.accounts
  pub accounts : x.accounts ≤ 1000000
  pub epochs : x.epochs ≤ 100

-- the positions at which the program may be
pub record IsSoundPosition (x : Load) (p : Position) : Type 0 where
  pub load : IsLoad x
  pub next : IsWithin x p.next
  pub spent : p.spent ≡ spent_before x.seed x.accounts (registered x p.next)
  pub most : p.spent ≤ 1000501 * registered x p.next

-- the next bytes are a line, which is empty only at the end
pub record Gives (before line after : List ℕ) : Type 0 where
  pub bytes : before ≡ line ++ after
  pub end : line ≡ [] → after ≡ []
