-- The lines of a state have no line feeds.
use Rattle.std.proofs.Common.{ℕ, List, [], ◌∷◌, Option, Some, None, codes, decimal, refl}
use Rattle.std.specs.Option.{option_to_list}
use Rattle.gov_ids.specs.declared.assets.AssetId.{AssetId}
use Rattle.gov_ids.specs.declared.ActionId.{ActionId}
use Rattle.gov_ids.specs.declared.Credential.{Credential}
use Rattle.gov_ids.specs.declared.OutRef.{OutRef}
use Rattle.gov_ids.specs.declared.PoolId.{PoolId}
use Rattle.gov_ids.specs.declared.Voter.{Voter}
use Rattle.gov_ids.specs.Spelling.{action_id_text, drep_text, hash_text, pool_text}
use Rattle.text_forms.specs.of_run_model.World.{World}
use Rattle.text_forms.specs.of_text_model.ActionWords.{vote_text}
use Rattle.text_forms.specs.of_text_model.ParamLines.{number, param, param_lines, shares, two_numbers, two_shares}
use Rattle.text_forms.specs.of_text_model.ParamLines as parts
use Rattle.text_forms.specs.of_text_model.Replies.{pots_words}
use Rattle.text_forms.specs.of_text_model.Shown.{Shown, shown_of}
use Rattle.text_forms.specs.of_text_model.StateLines.{account_words, asset_words, book_lines, committee_lines, committee_words, drep_words, governance_lines, hot_outside, hot_text, hot_words, key_words, member_among, next_words, noted_fees_words, output_lines, output_words, pending_lines, pending_reward_words, pool_lines, pool_words, proposal_lines, proposal_words, registration_words, retires_text, snapshot_lines, snapshot_words, state_lines, vote_words, words_of_constitution, words_of_enacted, words_of_now}
use Rattle.text_forms.specs.of_text_model.Words.{Text, or_none, share_text}
use Rattle.text_forms.specs.of_text_model.of_book_records.declared.DrepState.{DrepState}
use Rattle.text_forms.specs.of_text_model.of_book_records.declared.Entry.{Entry}
use Rattle.text_forms.specs.of_text_model.of_book_records.declared.Output.{Output}
use Rattle.text_forms.specs.of_text_model.of_book_records.declared.pool.Pool.{Pool}
use Rattle.text_forms.specs.of_text_model.of_book_records.declared.pool.PoolTerms.{PoolTerms}
use Rattle.text_forms.specs.of_text_model.of_book_records.declared.Registered.{Registered}
use Rattle.text_forms.specs.of_text_model.of_gov_actions.declared.action.Proposal.{Proposal}
use Rattle.text_forms.specs.of_text_model.of_gov_actions.declared.action.Vote.{Vote}
use Rattle.text_forms.specs.of_text_model.of_gov_actions.declared.action.Vote.TheVariants.{Yes, No, Abstain}
use Rattle.text_forms.specs.of_text_model.of_gov_actions.declared.state.Committee.{Committee}
use Rattle.text_forms.specs.of_text_model.of_gov_actions.declared.state.HotState.{HotState}
use Rattle.text_forms.specs.of_text_model.of_gov_actions.declared.state.HotState.TheVariants.{Hot, Resigned}
use Rattle.text_forms.specs.of_text_model.of_gov_actions.declared.state.LastIds.{LastIds}
use Rattle.text_forms.specs.of_text_model.of_gov_model.Sides.{members_of}
use Rattle.text_forms.specs.of_text_model.of_pparams.declared.Params.{Params}
use Rattle.text_forms.specs.of_text_model.of_run_model.of_coin_frac.Fraction.{Fraction}
use Rattle.text_forms.specs.of_tx_records.declared.record.Rewards.{Rewards}
use Rattle.text_forms.specs.of_tx_records.declared.report.Pots.{Pots}
use Rattle.checkpoint_text_laws.proofs.Actions.{kind}
use Rattle.checkpoint_text_laws.proofs.Free.{AllFree, Each, IsFree, Lines, ◌⊕◌, dec, hash, lines_flat, lines_map, one, optional, row}
use Rattle.checkpoint_text_laws.proofs.Ids.{account, action_id, address, asset_name, cred, drep_word, pool, ref, share, version, voter_word}

-- ---- the governance

hot_word : (o : Option HotState) → IsFree (hot_text o)
hot_word None = refl
hot_word (Some (Hot key)) = cred key
hot_word (Some Resigned) = refl

member_line : (hot : List (Credential × HotState)) (m : Credential × ℕ) → AllFree (member_among hot m)
member_line hot m = (refl, (cred m.0, (refl, (dec m.1, (refl, (hot_word _, tt))))))

committee_line : (o : Option Committee) → AllFree (committee_words o)
committee_line None = (refl, (refl, tt))
committee_line (Some c) = (refl, (refl, (share c.threshold, tt)))

pub hot_line : (e : Credential × HotState) → AllFree (hot_words e)
hot_line e = (refl, (cred e.0, (hot_word (Some e.1), tt)))

now_line : (slot epoch : ℕ) (v : ℕ × ℕ) (dormant : ℕ) → AllFree (words_of_now slot epoch v dormant)
now_line slot epoch v dormant = (refl, (refl, (dec slot, (refl, (dec epoch, (refl, (version v, (refl, (dec dormant, tt)))))))))

pub constitution_line : (document : List ℕ) (script : Option (List ℕ)) → AllFree (words_of_constitution document script)
constitution_line document script = (refl, (hash document, (optional hash_text hash script, tt)))

id_or_none : (o : Option ActionId) → IsFree (or_none action_id_text o)
id_or_none o = optional action_id_text action_id o

pub enacted_line : (last : LastIds) → AllFree (words_of_enacted last)
enacted_line last =
    (refl, (refl, (id_or_none last.committee, (refl, (id_or_none last.constitution, (refl, (id_or_none last.hardfork, (refl, (id_or_none last.parameters, tt)))))))))

pub committee_are : (o : Option Committee) (hot : List (Credential × HotState)) → Lines (committee_lines o hot)
committee_are o hot = row (committee_words o) (committee_line o) ⊕ lines_map (member_among hot) (member_line hot) (members_of o) ⊕ lines_map hot_words hot_line (hot_outside o hot)

governance_are : (s : Shown) → Lines (governance_lines s)
governance_are s =
    row (words_of_now s.slot s.epoch s.state.version s.dormant) (now_line s.slot s.epoch s.state.version s.dormant)
    ⊕ row (words_of_constitution s.state.document s.state.script) (constitution_line s.state.document s.state.script)
    ⊕ committee_are s.state.committee s.hot
    ⊕ row (words_of_enacted s.state.last) (enacted_line s.state.last)

-- ---- the parameters

of_number : (n : ℕ) → Each IsFree (number n)
of_number n = one IsFree (decimal n) (dec n)

of_numbers : (p : ℕ × ℕ) → Each IsFree (two_numbers p)
of_numbers p = record { all = (dec p.0, (dec p.1, tt)) }

of_share : (s : Fraction) → Each IsFree (parts.share s)
of_share s = one IsFree (share_text s) (share s)

of_shares : (p : Fraction × Fraction) → Each IsFree (two_shares p)
of_shares p = record { all = (share p.0, (share p.1, tt)) }

of_hash : (h : List ℕ) → Each IsFree (parts.hash h)
of_hash h = one IsFree (hash_text h) (hash h)

of_list : (ss : List Fraction) → Each IsFree (shares ss)
of_list [] = record { all = tt }
of_list (s ∷ ss) = record { all = (share s, (of_list ss).all) }

-- the line of a parameter
parameter : {parts : List Text} (name : Text) → IsFree name → Each IsFree parts → Lines (param name parts ∷ [])
parameter {parts} name n h = row (param name parts) (refl, (n, h.all))

pub params_are : (p : Params) → Lines (param_lines p)
params_are p =
    parameter (codes "maxBlockBodySize") refl (of_number p.max_block_body_size)
    ⊕ parameter (codes "maxTxSize") refl (of_number p.max_tx_size)
    ⊕ parameter (codes "maxBlockHeaderSize") refl (of_number p.max_block_header_size)
    ⊕ parameter (codes "maxValueSize") refl (of_number p.max_value_size)
    ⊕ parameter (codes "maxTxExUnits") refl (of_numbers p.max_tx_ex_units)
    ⊕ parameter (codes "maxBlockExUnits") refl (of_numbers p.max_block_ex_units)
    ⊕ parameter (codes "maxCollateralInputs") refl (of_number p.max_collateral_inputs)
    ⊕ parameter (codes "minFeeA") refl (of_number p.min_fee_a)
    ⊕ parameter (codes "minFeeB") refl (of_number p.min_fee_b)
    ⊕ parameter (codes "keyDeposit") refl (of_number p.key_deposit)
    ⊕ parameter (codes "poolDeposit") refl (of_number p.pool_deposit)
    ⊕ parameter (codes "rho") refl (of_share p.rho)
    ⊕ parameter (codes "tau") refl (of_share p.tau)
    ⊕ parameter (codes "minPoolCost") refl (of_number p.min_pool_cost)
    ⊕ parameter (codes "coinsPerUTxOByte") refl (of_number p.coins_per_utxo_byte)
    ⊕ parameter (codes "prices") refl (of_shares p.prices)
    ⊕ parameter (codes "minFeeRefScriptCostPerByte") refl (of_share p.min_fee_ref_script_cost_per_byte)
    ⊕ parameter (codes "a0") refl (of_share p.a0)
    ⊕ parameter (codes "eMax") refl (of_number p.e_max)
    ⊕ parameter (codes "nOpt") refl (of_number p.n_opt)
    ⊕ parameter (codes "costModels") refl (of_hash p.cost_models)
    ⊕ parameter (codes "collateralPercentage") refl (of_number p.collateral_percentage)
    ⊕ parameter (codes "poolVotingThresholds") refl (of_list p.pool_voting_thresholds)
    ⊕ parameter (codes "drepVotingThresholds") refl (of_list p.drep_voting_thresholds)
    ⊕ parameter (codes "govActionLifetime") refl (of_number p.gov_action_lifetime)
    ⊕ parameter (codes "govActionDeposit") refl (of_number p.gov_action_deposit)
    ⊕ parameter (codes "drepDeposit") refl (of_number p.drep_deposit)
    ⊕ parameter (codes "drepActivity") refl (of_number p.drep_activity)
    ⊕ parameter (codes "committeeMinSize") refl (of_number p.committee_min_size)
    ⊕ parameter (codes "committeeMaxTermLength") refl (of_number p.committee_max_term_length)

-- ---- the books

drep_line : (d : Credential × DrepState) → AllFree (drep_words d)
drep_line d = (refl, (cred d.0, (refl, (dec d.1.deposit, (refl, (dec d.1.expiry, tt))))))

key_are : (o : Option (List ℕ)) → AllFree (key_words o)
key_are None = tt
key_are (Some key) = (refl, (hash key, tt))

retires_word : (o : Option ℕ) → IsFree (retires_text o)
retires_word None = refl
retires_word (Some e) = dec e

next_line : (p : PoolId) (t : PoolTerms) → AllFree (next_words p t)
next_line p t = (refl, (pool p, (refl, (dec t.cost, (refl, (dec t.pledge, (refl, (share t.margin, (refl, (account t.account, key_are t.key))))))))))

pool_line : (p : PoolId) (t : Pool) → AllFree (pool_words p t)
pool_line p t =
    (refl, (pool p, (refl, (dec t.deposit, (refl, (dec t.terms.cost, (refl, (dec t.terms.pledge, (refl, (share t.terms.margin, (refl, (account t.terms.account, (refl, (retires_word t.retires, key_are t.terms.key))))))))))))))

pool_are : (p : PoolId × Pool) → Lines (pool_lines p)
pool_are p = row (pool_words p.0 p.1) (pool_line p.0 p.1) ⊕ lines_map (next_words p.0) (next_line p.0) (option_to_list p.1.future)

registration_are : (o : Option Registered) → AllFree (registration_words o)
registration_are None = (refl, tt)
registration_are (Some r) = (refl, (dec r.deposit, (refl, (dec r.rewards, (refl, (optional pool_text pool r.pool, (refl, (optional drep_text drep_word r.drep, tt))))))))

pub account_line : (e : Credential × Entry) → AllFree (account_words e)
account_line e = (refl, (cred e.0, (refl, (dec e.1.stake, registration_are e.1.registered))))

asset_line : (a : AssetId × ℕ) → AllFree (asset_words a)
asset_line a = (refl, (hash a.0.policy, (asset_name a.0.name, (dec a.1, tt))))

output_line : (o : OutRef × Output) → AllFree (output_words o)
output_line o = (refl, (ref o.0, (address o.1.address, (dec o.1.lovelace, tt))))

output_are : (o : OutRef × Output) → Lines (output_lines o)
output_are o = row (output_words o) (output_line o) ⊕ lines_map asset_words asset_line o.1.assets

pub vote_word : (v : Vote) → IsFree (vote_text v)
vote_word Yes = refl
vote_word No = refl
vote_word Abstain = refl

pub vote_line : (p : Proposal) (cast : Voter × Vote) → AllFree (vote_words p cast)
vote_line p cast = (refl, (action_id p.id, (voter_word cast.0, (vote_word cast.1, tt))))

proposal_line : (p : Proposal) → AllFree (proposal_words p)
proposal_line p =
    (refl, (action_id p.id, (kind p.action, (refl, (dec p.deposit, (refl, (account p.account, (refl, (dec p.expires_after, (refl, (id_or_none _, tt)))))))))))

pub proposal_are : (p : Proposal) → Lines (proposal_lines p)
proposal_are p = row (proposal_words p) (proposal_line p) ⊕ lines_map (vote_words p) (vote_line p) p.votes

books_are : (s : Shown) → Lines (book_lines s)
books_are s =
    lines_map drep_words drep_line s.dreps
    ⊕ lines_flat pool_lines pool_are s.pools
    ⊕ lines_map account_words account_line s.entries
    ⊕ lines_flat output_lines output_are s.outputs
    ⊕ lines_flat proposal_lines proposal_are s.proposals

-- ---- what boundaries keep, what is pending, and the pots

stake_line : (name : Text) → IsFree name → (m : PoolId × ℕ) → AllFree (snapshot_words name m)
stake_line name h m = (refl, (h, (pool m.0, (dec m.1, tt))))

snapshots_are : (s : Shown) → Lines (snapshot_lines s)
snapshots_are s =
    lines_map (snapshot_words (codes "mark")) (stake_line (codes "mark") refl) s.mark
    ⊕ lines_map (snapshot_words (codes "set")) (stake_line (codes "set") refl) s.set
    ⊕ lines_map (snapshot_words (codes "go")) (stake_line (codes "go") refl) s.go
    ⊕ row (noted_fees_words s.noted_fees) (refl, (refl, (dec s.noted_fees, tt)))

reward_line : (r : Credential × ℕ) → AllFree (pending_reward_words r)
reward_line r = (refl, (refl, (cred r.0, (dec r.1, tt))))

pending_are : (o : Option Rewards) → Lines (pending_lines o)
pending_are None = record { all = ((refl, (refl, tt)), tt) }
pending_are (Some u) = record { all = ((refl, (refl, (dec u.from_reserves, (refl, (dec u.from_fees, (refl, (dec u.to_treasury, tt))))))), (lines_map pending_reward_words reward_line u.rewards).all) }

pots_line : (p : Pots) → AllFree (pots_words (codes "pots") p)
pots_line p =
    (refl, (refl, (dec p.outputs, (refl, (dec p.deposits, (refl, (dec p.rewards, (refl, (dec p.fees, (refl, (dec p.donations, (refl, (dec p.treasury, (refl, (dec p.reserves, (refl, (dec _, tt)))))))))))))))))

-- ---- the state

pub state_are : (w : World) → Lines (state_lines w)
state_are w =
    governance_are (shown_of w)
    ⊕ params_are w.ledger.state.params
    ⊕ books_are (shown_of w)
    ⊕ snapshots_are (shown_of w)
    ⊕ pending_are w.pending
    ⊕ row (pots_words (codes "pots") (shown_of w).pots) (pots_line (shown_of w).pots)
