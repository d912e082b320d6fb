-- The snapshot that rows show, by what is made of them.
use Rattle.std.proofs.Common.{◌≡◌, ℕ, true, false, List, [], ◌∷◌, Option, Some, None, map, refl, ap, sym, ◌∙◌, subst}
use Rattle.std.specs.List.{list_all}
use Rattle.std.proofs.lemmas.Bool.{and_from, and_parts, false≢true}
use Rattle.std.proofs.lemmas.Option.{none-some, same_Some}
use Rattle.gov_ids.specs.declared.Account.{Account}
use Rattle.gov_ids.specs.declared.PoolId.{PoolId}
use Rattle.gov_ids.specs.Orders.{pool_cmp}
use Rattle.gov_actions.specs.declared.action.Proposal.{Proposal}
use Rattle.gov_model.specs.Snapshot.{Snapshot}
use Rattle.text_forms.specs.Ids.{is_map}
use Rattle.certificate_lists.specs.declared.rows.SnapshotRows.{SnapshotRows}
use Rattle.certificate_lists.specs.Rows.{rows_shown}
use Rattle.committee_rows.specs.Shown.{Governing, IsGoverning, governing_shown}
use Rattle.proposal_rows.specs.Rows.{whole_row}
use Rattle.resume_checks.specs.Forms.{are_accounts_of}
use Rattle.shown_lists.specs.Only.{IsOnly}
use Rattle.shown_lists.specs.Shows.{pools_shown}
use Rattle.shown_lists.proofs.Present.{only_if, only_none}
use Rattle.snapshot_reader.specs.declared.made.Made.{Made}
use Rattle.snapshot_reader.specs.Told.{IsListed, are_accounts_in, snapshot_by, start_by}

-- ---- the accounts of pools of mark

module _ (mark : List (PoolId × ℕ)) (pools : List (PoolId × Option Account)) where
  abbrev OnlyAccounts : Option (List (PoolId × Account)) → Type 0
  OnlyAccounts r = IsOnly (λ (x : List (PoolId × Account)). are_accounts_in mark x ≡ true) (pools_shown mark) pools r

  pub mark_apart : is_map pool_cmp mark ≡ false → OnlyAccounts None
  mark_apart apart =
      only_none (λ (x : List (PoolId × Account)). are_accounts_in mark x ≡ true) (pools_shown mark) pools
      (λ x k e. false≢true (sym apart ∙ (and_parts (is_map pool_cmp mark) (are_accounts_of mark x) k).0))

  pub mark_in_order : is_map pool_cmp mark ≡ true → (r : Option (List (PoolId × Account)))
      → IsOnly (λ (x : List (PoolId × Account)). are_accounts_of mark x ≡ true) (pools_shown mark) pools r → OnlyAccounts r
  mark_in_order ordered r only = record {
    kind = λ x e. and_from (is_map pool_cmp mark) (are_accounts_of mark x) ordered (only.kind x e);
    some = only.some;
    all = λ x k e. only.all x (and_parts (is_map pool_cmp mark) (are_accounts_of mark x) k).1 e;
  }

-- ---- all that is made

module _ (rows : SnapshotRows) where
  abbrev Rows : Option Snapshot → Type 0
  Rows r = IsOnly IsListed rows_shown rows r

  abbrev OnlyGoverning : Option Governing → Type 0
  OnlyGoverning r = IsOnly IsGoverning governing_shown (rows.governed.threshold, (rows.governed.members, rows.governed.hot)) r

  abbrev OnlyPools : Option (List (PoolId × Account)) → Type 0
  OnlyPools r = IsOnly (λ (x : List (PoolId × Account)). are_accounts_in rows.voters.mark x ≡ true) (pools_shown rows.voters.mark) rows.voters.pools r

  abbrev OnlyProposals : Option (List Proposal) → Type 0
  OnlyProposals r = IsOnly (λ (x : List Proposal). list_all (λ (p : Proposal). true) x ≡ true) (map whole_row) rows.proposals r

  -- what the rows of a snapshot show
  module _ (f : Snapshot) (listed : IsListed f) (shown : rows_shown f ≡ rows) where
    governing_there : (r : Option Governing) → OnlyGoverning r → r ≡ Some (f.start.committee, f.hot)
    governing_there r only = only.all (f.start.committee, f.hot) listed.governing (λ i. ((shown i).governed.threshold, ((shown i).governed.members, (shown i).governed.hot)))

    pools_there : (r : Option (List (PoolId × Account))) → OnlyPools r → r ≡ Some f.pool_accounts
    pools_there r only =
        let same : f.mark ≡ rows.voters.mark = λ i. (shown i).voters.mark in
        let in_order = and_from (is_map pool_cmp f.mark) (are_accounts_of f.mark f.pool_accounts) listed.mark listed.pool_accounts in
        only.all f.pool_accounts (subst (λ (m : List (PoolId × ℕ)). are_accounts_in m f.pool_accounts ≡ true) same in_order)
        (ap (λ (m : List (PoolId × ℕ)). pools_shown m f.pool_accounts) (sym same) ∙ (λ i. (shown i).voters.pools))

    pub all_pass : (ps : List Proposal) → list_all (λ (p : Proposal). true) ps ≡ true
    all_pass [] = refl
    all_pass (p ∷ ps) = all_pass ps

    proposals_there : (r : Option (List Proposal)) → OnlyProposals r → r ≡ Some f.proposals
    proposals_there r only = only.all f.proposals (all_pass f.proposals) (λ i. (shown i).proposals)

  pub none_govern : OnlyGoverning None → Rows None
  none_govern only = only_none IsListed rows_shown rows (λ f k e. none-some (f.start.committee, f.hot) (governing_there f k e None only))

  pub no_pools : OnlyPools None → Rows None
  no_pools only = only_none IsListed rows_shown rows (λ f k e. none-some f.pool_accounts (pools_there f k e None only))

  pub no_proposals : OnlyProposals None → Rows None
  no_proposals only = only_none IsListed rows_shown rows (λ f k e. none-some f.proposals (proposals_there f k e None only))

  pub made_is : (made : Made) → OnlyGoverning (Some (made.governing.0, made.governing.1.items)) → OnlyPools (Some made.accounts) → OnlyProposals (Some made.proposals.items) → Rows (Some (snapshot_by rows made))
  made_is made governing pools proposals =
      let g : Governing = (made.governing.0, made.governing.1.items) in
      let in_order = and_parts (is_map pool_cmp rows.voters.mark) (are_accounts_of rows.voters.mark made.accounts) (pools.kind made.accounts refl) in
      let listed : IsListed (snapshot_by rows made) = record { governing = governing.kind g refl; mark = in_order.0; pool_accounts = in_order.1 } in
      let governed = governing.some g refl in
      let shown : rows_shown (snapshot_by rows made) ≡ rows = λ i. record rows {
        governed = record rows.governed { threshold = (governed i).0; members = (governed i).1.0; hot = (governed i).1.1 };
        voters = record rows.voters { pools = pools.some made.accounts refl i };
        proposals = proposals.some made.proposals.items refl i;
      } in
      only_if IsListed rows_shown rows (snapshot_by rows made) true (λ t. (listed, shown))
      (λ f k e.
      let there = same_Some g (f.start.committee, f.hot) (governing_there f k e (Some g) governing) in
      let accounts = same_Some made.accounts f.pool_accounts (pools_there f k e (Some made.accounts) pools) in
      let voted = same_Some made.proposals.items f.proposals (proposals_there f k e (Some made.proposals.items) proposals) in
      let back : rows ≡ rows_shown f = sym e in
      let same : snapshot_by rows made ≡ f = λ i. record {
        epoch = (back i).governed.head.0;
        entries = (back i).voters.entries;
        dreps = (back i).voters.dreps;
        mark = (back i).voters.mark;
        pool_accounts = accounts i;
        hot = (there i).1;
        proposals = voted i;
        start = start_by (back i).governed (back i).params (there i).0;
      } in
      (same, refl))
