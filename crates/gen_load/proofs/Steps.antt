-- From one line of the stream to the next.
use Rattle.std.proofs.Common.{◌≡◌, ℕ, ◌+◌, ◌-◌, ◌*◌, ◌<◌, ◌≤◌, List, [], ◌∷◌, ◌++◌, Bool, true, false, cond, drop, flat_map, map, nat_lt, ap, arith, refl, sym, ◌∙◌}
use Rattle.std.specs.List.{range_with_len}
use Rattle.std.proofs.lemmas.Bool.Decides.{nat_tests}
use Rattle.load_model.specs.of_text_model.Words.{Text}
use Rattle.load_model.specs.Amounts.{registration_count, spent_before, spent_by_registration}
use Rattle.load_model.specs.Genesis.{genesis_line}
use Rattle.load_model.specs.Stream.{bytes_of_lines, epoch_lines, registration_line}
use Rattle.gen_load.specs.Position.{Gives, IsLoad, IsSoundPosition, after_epoch_line, after_registration, line_of_epoch, lines_from, lines_of_epochs}
use Rattle.gen_load.specs.declared.position.EpochLine.{EpochLine}
use Rattle.gen_load.specs.declared.position.EpochLine.TheVariants.{FirstBlock, Proposal, Votes, VotesAgain, Rewards, LastBlock}
use Rattle.gen_load.specs.declared.position.Load.{Load}
use Rattle.gen_load.specs.declared.position.NextLine.TheVariants.{Genesis, Registration, Epoch}
use Rattle.gen_load.proofs.Ranges.{range_first, sum_last}

-- ---- what a test means

is_below : (a b : ℕ) → nat_lt a b ≡ true → a < b
is_below a b e = grind (arith, nat_tests)

not_below : (a b : ℕ) → nat_lt a b ≡ false → b ≤ a
not_below a b e = grind (arith, nat_tests)

-- ---- a line that was given

not_empty : (l : List ℕ) → l ++ 10 ∷ [] ≡ [] → ⊥
not_empty [] e = cc
not_empty (x ∷ xs) e = cc

pub given : (lines : List Text) (first : Text) (others : List Text) (line : List ℕ) → lines ≡ first ∷ others → line ≡ first ++ 10 ∷ []
    → Gives (bytes_of_lines lines) line (bytes_of_lines others)
given lines first others line is written = record {
  bytes = ap (λ (ls : List Text). bytes_of_lines ls) is ∙ ap (λ (bytes : List ℕ). bytes ++ bytes_of_lines others) (sym written);
  end = λ empty. absurd (not_empty first (sym written ∙ empty));
}

-- ---- the genesis

pub genesis_step : (x : Load) → lines_from x Genesis ≡ genesis_line ∷ lines_from x (Registration 0)
genesis_step x =
    let J : ℕ = registration_count x.accounts in
    let all_registrations : J ≡ J - 0 = omega arith in
    let all_epochs : x.epochs ≡ x.epochs - 0 = omega arith in
    ap (λ (n : ℕ). genesis_line ∷ (map (registration_line x.seed x.accounts) (range_with_len 0 n) ++ flat_map (epoch_lines x.seed x.accounts) (range_with_len 0 x.epochs))) all_registrations
    ∙ ap (λ (n : ℕ). genesis_line ∷ (map (registration_line x.seed x.accounts) (range_with_len 0 (J - 0)) ++ flat_map (epoch_lines x.seed x.accounts) (range_with_len 0 n))) all_epochs

-- ---- registrations

-- what one registration more takes
pub spent_more : (seed accounts j : ℕ) → spent_before seed accounts (j + 1) ≡ spent_before seed accounts j + spent_by_registration seed accounts j
spent_more seed accounts j =
    let here : 0 + j ≡ j = omega arith in
    sum_last (spent_by_registration seed accounts) 0 j
    ∙ ap (λ (i : ℕ). spent_before seed accounts j + spent_by_registration seed accounts i) here

registration_to : (x : Load) (j : ℕ) (b : Bool) → nat_lt (j + 1) (registration_count x.accounts) ≡ b → j < registration_count x.accounts
    → lines_from x (Registration j) ≡ registration_line x.seed x.accounts j ∷ lines_from x (cond b (Registration (j + 1)) (Epoch 0 FirstBlock))
registration_to x j true test below =
    ap (λ (l : List ℕ). map (registration_line x.seed x.accounts) l ++ lines_of_epochs x 0) (range_first j (registration_count x.accounts) below)
registration_to x j false test below =
    let last : registration_count x.accounts ≤ j + 1 = not_below (j + 1) (registration_count x.accounts) test in
    let none : registration_count x.accounts - (j + 1) ≡ 0 = omega arith in
    ap (λ (l : List ℕ). map (registration_line x.seed x.accounts) l ++ lines_of_epochs x 0) (range_first j (registration_count x.accounts) below)
    ∙ ap (λ (n : ℕ). registration_line x.seed x.accounts j ∷ (map (registration_line x.seed x.accounts) (range_with_len (j + 1) n) ++ lines_of_epochs x 0)) none

pub registration_step : (x : Load) (j : ℕ) → j < registration_count x.accounts
    → lines_from x (Registration j) ≡ registration_line x.seed x.accounts j ∷ lines_from x (after_registration x.accounts j)
registration_step x j below = registration_to x j (nat_lt (j + 1) (registration_count x.accounts)) refl below

registration_sound_to : (x : Load) (j spent : ℕ) (b : Bool) → nat_lt (j + 1) (registration_count x.accounts) ≡ b → IsLoad x → j < registration_count x.accounts
    → spent ≡ spent_before x.seed x.accounts (j + 1) → spent ≤ 1000501 * (j + 1)
    → IsSoundPosition x (record { next = cond b (Registration (j + 1)) (Epoch 0 FirstBlock); spent = spent })
registration_sound_to x j spent true test load below is most = record {
  load = load;
  next = is_below (j + 1) (registration_count x.accounts) test;
  spent = is;
  most = most;
}
registration_sound_to x j spent false test load below is most =
    let last : registration_count x.accounts ≤ j + 1 = not_below (j + 1) (registration_count x.accounts) test in
    let all : j + 1 ≡ registration_count x.accounts = omega arith in
    record {
      load = load;
      next = omega arith;
      spent = is ∙ ap (λ (n : ℕ). spent_before x.seed x.accounts n) all;
      most = omega arith;
    }

pub registration_sound : (x : Load) (j spent : ℕ) → IsLoad x → j < registration_count x.accounts
    → spent ≡ spent_before x.seed x.accounts (j + 1) → spent ≤ 1000501 * (j + 1)
    → IsSoundPosition x (record { next = after_registration x.accounts j; spent = spent })
registration_sound x j spent load below is most =
    registration_sound_to x j spent (nat_lt (j + 1) (registration_count x.accounts)) refl load below is most

-- ---- epochs

pub epoch_step : (x : Load) (e : ℕ) (part : EpochLine) → e < x.epochs → lines_from x (Epoch e part) ≡ line_of_epoch x e part ∷ lines_from x (after_epoch_line e part)
epoch_step x e FirstBlock below =
    let r = range_first e x.epochs below in
    ap (λ (l : List ℕ). drop 0 (flat_map (epoch_lines x.seed x.accounts) l)) r
    ∙ ap (λ (l : List ℕ). line_of_epoch x e FirstBlock ∷ drop 1 (flat_map (epoch_lines x.seed x.accounts) l)) (sym r)
epoch_step x e Proposal below =
    let r = range_first e x.epochs below in
    ap (λ (l : List ℕ). drop 1 (flat_map (epoch_lines x.seed x.accounts) l)) r
    ∙ ap (λ (l : List ℕ). line_of_epoch x e Proposal ∷ drop 2 (flat_map (epoch_lines x.seed x.accounts) l)) (sym r)
epoch_step x e Votes below =
    let r = range_first e x.epochs below in
    ap (λ (l : List ℕ). drop 2 (flat_map (epoch_lines x.seed x.accounts) l)) r
    ∙ ap (λ (l : List ℕ). line_of_epoch x e Votes ∷ drop 3 (flat_map (epoch_lines x.seed x.accounts) l)) (sym r)
epoch_step x e VotesAgain below =
    let r = range_first e x.epochs below in
    ap (λ (l : List ℕ). drop 3 (flat_map (epoch_lines x.seed x.accounts) l)) r
    ∙ ap (λ (l : List ℕ). line_of_epoch x e VotesAgain ∷ drop 4 (flat_map (epoch_lines x.seed x.accounts) l)) (sym r)
epoch_step x e Rewards below =
    let r = range_first e x.epochs below in
    ap (λ (l : List ℕ). drop 4 (flat_map (epoch_lines x.seed x.accounts) l)) r
    ∙ ap (λ (l : List ℕ). line_of_epoch x e Rewards ∷ drop 5 (flat_map (epoch_lines x.seed x.accounts) l)) (sym r)
epoch_step x e LastBlock below =
    ap (λ (l : List ℕ). drop 5 (flat_map (epoch_lines x.seed x.accounts) l)) (range_first e x.epochs below)

pub epoch_sound : (x : Load) (e spent : ℕ) (part : EpochLine) → IsLoad x → e < x.epochs
    → spent ≡ spent_before x.seed x.accounts (registration_count x.accounts) → spent ≤ 1000501 * registration_count x.accounts
    → IsSoundPosition x (record { next = after_epoch_line e part; spent = spent })
epoch_sound x e spent FirstBlock load below is most = record { load = load; next = omega arith; spent = is; most = most }
epoch_sound x e spent Proposal load below is most = record { load = load; next = omega arith; spent = is; most = most }
epoch_sound x e spent Votes load below is most = record { load = load; next = omega arith; spent = is; most = most }
epoch_sound x e spent VotesAgain load below is most = record { load = load; next = omega arith; spent = is; most = most }
epoch_sound x e spent Rewards load below is most = record { load = load; next = omega arith; spent = is; most = most }
epoch_sound x e spent LastBlock load below is most = record { load = load; next = omega arith; spent = is; most = most }

-- ---- the end

no_epoch : (x : Load) (e : ℕ) → e ≡ x.epochs → lines_of_epochs x e ≡ []
no_epoch x e is =
    let none : x.epochs - e ≡ 0 = omega arith in
    ap (λ (n : ℕ). flat_map (epoch_lines x.seed x.accounts) (range_with_len e n)) none

pub epoch_end : (x : Load) (e : ℕ) (part : EpochLine) → e ≡ x.epochs → lines_from x (Epoch e part) ≡ []
epoch_end x e FirstBlock is = ap (λ (ls : List Text). drop 0 ls) (no_epoch x e is)
epoch_end x e Proposal is = ap (λ (ls : List Text). drop 1 ls) (no_epoch x e is)
epoch_end x e Votes is = ap (λ (ls : List Text). drop 2 ls) (no_epoch x e is)
epoch_end x e VotesAgain is = ap (λ (ls : List Text). drop 3 ls) (no_epoch x e is)
epoch_end x e Rewards is = ap (λ (ls : List Text). drop 4 ls) (no_epoch x e is)
epoch_end x e LastBlock is = ap (λ (ls : List Text). drop 5 ls) (no_epoch x e is)
