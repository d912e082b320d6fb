-- What a value of each shape consists of. (Own; docs/use/formats.md has the same in words)
use Rattle.std.specs.Prelude.{ℕ, Bool, true, false, List, [], ◌∷◌, codes}
use Rattle.record_shapes.specs.declared.form.Form.{Form}
use Rattle.record_shapes.specs.declared.form.Form.TheVariants as forms
use Rattle.record_shapes.specs.declared.shape.Shape.{Shape}
use Rattle.record_shapes.specs.declared.shape.Shape.TheVariants as shapes

-- a member of an object; it has to be there, and not null, or may be absent
pub record Member : Type 0 where
  pub name : List ℕ
  pub is_needed : Bool
  pub shape : Shape

-- a kind of object, by the word of its kind
pub record Kind : Type 0 where
  pub word : List ℕ
  pub shape : Shape

-- one reader takes it whole; a text that is one of these words; an array of entries of one shape;
-- an array of these entries, whose last one may lack; an object; an object that has each of these
-- members; an object of one of these kinds, whose member of this name has the word of its kind
pub data Layout : Type 0 where
  Plain : Form → Layout
  Word : List (List ℕ) → Layout
  ListOf : Shape → Layout
  Array : List Shape → Bool → Layout
  Object : List Member → Layout
  Whole : List Member → Layout
  OneOf : List ℕ → List Kind → Layout

-- ---- words of the table

-- a form
abbrev pub plain : Form → Shape
plain form = shapes.Plain form

-- an array of these entries
abbrev pub all_of : List Shape → Layout
all_of entries = Array entries false

-- one whose last entry may lack
abbrev pub most_of : List Shape → Layout
most_of entries = Array entries true

-- a member that has to be there
abbrev pub needed : List ℕ → Shape → Member
needed name shape = record { name = name; is_needed = true; shape = shape }

-- one that may be absent or null
abbrev pub maybe : List ℕ → Shape → Member
maybe name shape = record { name = name; is_needed = false; shape = shape }

-- a kind of object
abbrev pub kind : List ℕ → Shape → Kind
kind word shape = record { word = word; shape = shape }

-- the parameters (CIP-1694, Protocol parameter groups)
abbrev pub params : List Member
params =
    maybe (codes "maxBlockBodySize") (plain forms.U32) ∷
    maybe (codes "maxTxSize") (plain forms.U32) ∷
    maybe (codes "maxBlockHeaderSize") (plain forms.U32) ∷
    maybe (codes "maxValueSize") (plain forms.U32) ∷
    maybe (codes "maxTxExUnits") shapes.ExUnits ∷
    maybe (codes "maxBlockExUnits") shapes.ExUnits ∷
    maybe (codes "maxCollateralInputs") (plain forms.U16) ∷
    maybe (codes "minFeeA") (plain forms.U64) ∷
    maybe (codes "minFeeB") (plain forms.U64) ∷
    maybe (codes "keyDeposit") (plain forms.U64) ∷
    maybe (codes "poolDeposit") (plain forms.U64) ∷
    maybe (codes "rho") (plain forms.Unit) ∷
    maybe (codes "tau") (plain forms.Unit) ∷
    maybe (codes "minPoolCost") (plain forms.U64) ∷
    maybe (codes "coinsPerUTxOByte") (plain forms.U64) ∷
    maybe (codes "prices") shapes.Prices ∷
    maybe (codes "minFeeRefScriptCostPerByte") (plain forms.Ratio) ∷
    maybe (codes "a0") (plain forms.Ratio) ∷
    maybe (codes "eMax") (plain forms.U32) ∷
    maybe (codes "nOpt") (plain forms.U16) ∷
    maybe (codes "costModels") (plain forms.Hash32) ∷
    maybe (codes "collateralPercentage") (plain forms.U16) ∷
    maybe (codes "poolVotingThresholds") shapes.PoolThresholds ∷
    maybe (codes "drepVotingThresholds") shapes.DrepThresholds ∷
    maybe (codes "govActionLifetime") (plain forms.U32) ∷
    maybe (codes "govActionDeposit") (plain forms.U64) ∷
    maybe (codes "drepDeposit") (plain forms.U64) ∷
    maybe (codes "drepActivity") (plain forms.U32) ∷
    maybe (codes "committeeMinSize") (plain forms.U16) ∷
    maybe (codes "committeeMaxTermLength") (plain forms.U32) ∷
    []

-- ---- the table

-- what a value of the shape consists of
abbrev pub layout_of : Shape → Layout
layout_of (shapes.Plain form) = Plain form
layout_of shapes.Record = OneOf (codes "kind") (
    kind (codes "genesis") shapes.Genesis ∷
    kind (codes "block") shapes.Block ∷
    kind (codes "rewards") shapes.Rewards ∷
    kind (codes "tx") shapes.Tx ∷
    kind (codes "print") shapes.Print ∷
    [])
layout_of shapes.Genesis = Object (
    needed (codes "kind") (plain forms.Text) ∷
    needed (codes "network") (plain forms.Network) ∷
    needed (codes "slot") (plain forms.Slot) ∷
    needed (codes "epochLength") (plain forms.EpochLength) ∷
    needed (codes "version") shapes.GenesisVersion ∷
    needed (codes "supply") (plain forms.U64) ∷
    needed (codes "reserves") (plain forms.U64) ∷
    needed (codes "treasury") (plain forms.U64) ∷
    needed (codes "params") shapes.Params ∷
    needed (codes "document") (plain forms.Hash32) ∷
    maybe (codes "script") (plain forms.Hash28) ∷
    maybe (codes "committee") shapes.Committee ∷
    needed (codes "outputs") shapes.GenesisOutputs ∷
    needed (codes "accounts") shapes.GenesisAccounts ∷
    needed (codes "pools") shapes.GenesisPools ∷
    needed (codes "dreps") shapes.GenesisDreps ∷
    [])
layout_of shapes.GenesisVersion = all_of (plain forms.Major ∷ plain forms.U32 ∷ [])
layout_of shapes.Params = Whole params
layout_of shapes.Committee = Object (
    needed (codes "threshold") (plain forms.Unit) ∷
    needed (codes "members") shapes.CommitteeMembers ∷
    [])
layout_of shapes.CommitteeMembers = ListOf shapes.CommitteeMember
layout_of shapes.CommitteeMember = all_of (plain forms.Credential ∷ plain forms.Slot ∷ plain forms.CredentialOrNull ∷ [])
layout_of shapes.GenesisOutputs = ListOf shapes.GenesisOutput
layout_of shapes.GenesisOutput = most_of (plain forms.Reference ∷ plain forms.Address ∷ plain forms.U64 ∷ shapes.Assets ∷ [])
layout_of shapes.GenesisAccounts = ListOf shapes.GenesisAccount
layout_of shapes.GenesisAccount = all_of (plain forms.Credential ∷ plain forms.U64 ∷ plain forms.U64 ∷ plain forms.PoolIdOrNull ∷ plain forms.DrepOrNull ∷ [])
layout_of shapes.GenesisPools = ListOf shapes.GenesisPool
layout_of shapes.GenesisPool = most_of (plain forms.PoolId ∷ plain forms.U64 ∷ plain forms.U64 ∷ plain forms.U64 ∷ plain forms.Unit ∷ plain forms.Account ∷ plain forms.Hash32 ∷ [])
layout_of shapes.GenesisDreps = ListOf shapes.GenesisDrep
layout_of shapes.GenesisDrep = all_of (plain forms.Credential ∷ plain forms.U64 ∷ plain forms.Slot ∷ [])
layout_of shapes.Block = Object (
    needed (codes "kind") (plain forms.Text) ∷
    needed (codes "slot") (plain forms.Slot) ∷
    needed (codes "pulse") (plain forms.U32) ∷
    [])
layout_of shapes.Rewards = Object (
    needed (codes "kind") (plain forms.Text) ∷
    needed (codes "epoch") (plain forms.U64) ∷
    needed (codes "fromReserves") (plain forms.U64) ∷
    needed (codes "fromFees") (plain forms.U64) ∷
    needed (codes "toTreasury") (plain forms.U64) ∷
    needed (codes "rewards") shapes.RewardList ∷
    [])
layout_of shapes.RewardList = ListOf shapes.Reward
layout_of shapes.Reward = all_of (plain forms.Credential ∷ plain forms.U64 ∷ [])
layout_of shapes.Tx = Object (
    needed (codes "kind") (plain forms.Text) ∷
    needed (codes "id") (plain forms.Hash32) ∷
    needed (codes "inputs") shapes.References ∷
    needed (codes "outputs") shapes.Outputs ∷
    needed (codes "fee") (plain forms.U64) ∷
    needed (codes "size") (plain forms.U32) ∷
    maybe (codes "scriptFee") (plain forms.U64) ∷
    maybe (codes "witnessed") (plain forms.Bool) ∷
    maybe (codes "scripts") shapes.Scripts ∷
    maybe (codes "from") (plain forms.Slot) ∷
    maybe (codes "until") (plain forms.Slot) ∷
    maybe (codes "collateral") shapes.References ∷
    maybe (codes "collateralReturn") shapes.Output ∷
    maybe (codes "mint") shapes.Mint ∷
    maybe (codes "treasury") (plain forms.U64) ∷
    maybe (codes "donation") (plain forms.U64) ∷
    maybe (codes "withdrawals") shapes.Withdrawals ∷
    maybe (codes "certs") shapes.Certs ∷
    maybe (codes "proposals") shapes.Proposals ∷
    maybe (codes "votes") shapes.Votes ∷
    [])
layout_of shapes.References = ListOf (plain forms.Reference)
layout_of shapes.Outputs = ListOf shapes.Output
layout_of shapes.Output = most_of (plain forms.Address ∷ plain forms.U64 ∷ plain forms.U32 ∷ shapes.Assets ∷ [])
layout_of shapes.Assets = ListOf shapes.Asset
layout_of shapes.Asset = all_of (plain forms.Hash28 ∷ plain forms.AssetName ∷ plain forms.Held ∷ [])
layout_of shapes.Scripts = Word (codes "none" ∷ codes "ok" ∷ codes "failed" ∷ [])
layout_of shapes.Mint = ListOf shapes.Minted
layout_of shapes.Minted = all_of (plain forms.Hash28 ∷ plain forms.AssetName ∷ plain forms.Moved ∷ [])
layout_of shapes.Withdrawals = ListOf shapes.Withdrawal
layout_of shapes.Withdrawal = all_of (plain forms.Account ∷ plain forms.U64 ∷ [])
layout_of shapes.Certs = ListOf shapes.Cert
layout_of shapes.Cert = OneOf (codes "cert") (
    kind (codes "account-reg") shapes.AccountReg ∷
    kind (codes "account-unreg") shapes.AccountUnreg ∷
    kind (codes "delegate") shapes.Delegate ∷
    kind (codes "pool-reg") shapes.PoolReg ∷
    kind (codes "pool-retire") shapes.PoolRetire ∷
    kind (codes "drep-reg") shapes.DrepReg ∷
    kind (codes "drep-unreg") shapes.DrepUnreg ∷
    kind (codes "drep-update") shapes.DrepUpdate ∷
    kind (codes "hot-auth") shapes.HotAuth ∷
    kind (codes "hot-resign") shapes.HotResign ∷
    [])
layout_of shapes.AccountReg = Object (
    needed (codes "cert") (plain forms.Text) ∷
    needed (codes "cred") (plain forms.Credential) ∷
    maybe (codes "deposit") (plain forms.U64) ∷
    maybe (codes "pool") (plain forms.PoolId) ∷
    maybe (codes "drep") (plain forms.Drep) ∷
    [])
layout_of shapes.AccountUnreg = Object (
    needed (codes "cert") (plain forms.Text) ∷
    needed (codes "cred") (plain forms.Credential) ∷
    maybe (codes "refund") (plain forms.U64) ∷
    [])
layout_of shapes.DrepUnreg = Object (
    needed (codes "cert") (plain forms.Text) ∷
    needed (codes "cred") (plain forms.Credential) ∷
    maybe (codes "refund") (plain forms.U64) ∷
    [])
layout_of shapes.Delegate = Object (
    needed (codes "cert") (plain forms.Text) ∷
    needed (codes "cred") (plain forms.Credential) ∷
    maybe (codes "pool") (plain forms.PoolId) ∷
    maybe (codes "drep") (plain forms.Drep) ∷
    [])
layout_of shapes.PoolReg = Object (
    needed (codes "cert") (plain forms.Text) ∷
    needed (codes "pool") (plain forms.PoolId) ∷
    needed (codes "cost") (plain forms.U64) ∷
    needed (codes "pledge") (plain forms.U64) ∷
    needed (codes "margin") (plain forms.Unit) ∷
    needed (codes "account") (plain forms.Account) ∷
    maybe (codes "key") (plain forms.Hash32) ∷
    [])
layout_of shapes.PoolRetire = Object (
    needed (codes "cert") (plain forms.Text) ∷
    needed (codes "pool") (plain forms.PoolId) ∷
    needed (codes "epoch") (plain forms.U64) ∷
    [])
layout_of shapes.DrepReg = Object (
    needed (codes "cert") (plain forms.Text) ∷
    needed (codes "cred") (plain forms.Credential) ∷
    maybe (codes "deposit") (plain forms.U64) ∷
    [])
layout_of shapes.DrepUpdate = Object (
    needed (codes "cert") (plain forms.Text) ∷
    needed (codes "cred") (plain forms.Credential) ∷
    [])
layout_of shapes.HotAuth = Object (
    needed (codes "cert") (plain forms.Text) ∷
    needed (codes "cold") (plain forms.Credential) ∷
    needed (codes "hot") (plain forms.Credential) ∷
    [])
layout_of shapes.HotResign = Object (
    needed (codes "cert") (plain forms.Text) ∷
    needed (codes "cold") (plain forms.Credential) ∷
    [])
layout_of shapes.Proposals = ListOf shapes.Proposal
layout_of shapes.Proposal = Object (
    needed (codes "deposit") (plain forms.U64) ∷
    needed (codes "return") (plain forms.Account) ∷
    needed (codes "action") shapes.Action ∷
    [])
layout_of shapes.Action = OneOf (codes "type") (
    kind (codes "NoConfidence") shapes.NoConfidence ∷
    kind (codes "UpdateCommittee") shapes.UpdateCommittee ∷
    kind (codes "NewConstitution") shapes.NewConstitution ∷
    kind (codes "HardForkInitiation") shapes.HardForkInitiation ∷
    kind (codes "ParameterChange") shapes.ParameterChange ∷
    kind (codes "TreasuryWithdrawals") shapes.TreasuryWithdrawals ∷
    kind (codes "Info") shapes.Info ∷
    [])
layout_of shapes.NoConfidence = Object (
    needed (codes "type") (plain forms.Text) ∷
    maybe (codes "previous") (plain forms.ActionId) ∷
    [])
layout_of shapes.UpdateCommittee = Object (
    needed (codes "type") (plain forms.Text) ∷
    maybe (codes "previous") (plain forms.ActionId) ∷
    needed (codes "remove") shapes.Credentials ∷
    needed (codes "add") shapes.NewMembers ∷
    needed (codes "threshold") (plain forms.Unit) ∷
    [])
layout_of shapes.Credentials = ListOf (plain forms.Credential)
layout_of shapes.NewMembers = ListOf shapes.NewMember
layout_of shapes.NewMember = all_of (plain forms.Credential ∷ plain forms.Slot ∷ [])
layout_of shapes.NewConstitution = Object (
    needed (codes "type") (plain forms.Text) ∷
    maybe (codes "previous") (plain forms.ActionId) ∷
    needed (codes "document") (plain forms.Hash32) ∷
    maybe (codes "script") (plain forms.Hash28) ∷
    [])
layout_of shapes.HardForkInitiation = Object (
    needed (codes "type") (plain forms.Text) ∷
    maybe (codes "previous") (plain forms.ActionId) ∷
    needed (codes "version") shapes.Version ∷
    [])
layout_of shapes.Version = all_of (plain forms.U32 ∷ plain forms.U32 ∷ [])
layout_of shapes.ParameterChange = Object (
    needed (codes "type") (plain forms.Text) ∷
    maybe (codes "previous") (plain forms.ActionId) ∷
    needed (codes "update") shapes.Update ∷
    maybe (codes "policy") (plain forms.Hash28) ∷
    [])
layout_of shapes.Update = Object params
layout_of shapes.ExUnits = all_of (plain forms.U64 ∷ plain forms.U64 ∷ [])
layout_of shapes.Prices = all_of (plain forms.Ratio ∷ plain forms.Ratio ∷ [])
layout_of shapes.PoolThresholds = all_of (plain forms.Unit ∷ plain forms.Unit ∷ plain forms.Unit ∷ plain forms.Unit ∷ plain forms.Unit ∷ [])
layout_of shapes.DrepThresholds = all_of (plain forms.Unit ∷ plain forms.Unit ∷ plain forms.Unit ∷ plain forms.Unit ∷ plain forms.Unit ∷ plain forms.Unit ∷ plain forms.Unit ∷ plain forms.Unit ∷ plain forms.Unit ∷ plain forms.Unit ∷ [])
layout_of shapes.TreasuryWithdrawals = Object (
    needed (codes "type") (plain forms.Text) ∷
    needed (codes "targets") shapes.Withdrawals ∷
    maybe (codes "policy") (plain forms.Hash28) ∷
    [])
layout_of shapes.Info = Object (
    needed (codes "type") (plain forms.Text) ∷
    [])
layout_of shapes.Votes = ListOf shapes.VoteRecord
layout_of shapes.VoteRecord = Object (
    needed (codes "voter") (plain forms.Voter) ∷
    needed (codes "action") (plain forms.ActionId) ∷
    needed (codes "vote") shapes.Vote ∷
    [])
layout_of shapes.Vote = Word (codes "yes" ∷ codes "no" ∷ codes "abstain" ∷ [])
layout_of shapes.Print = Object (
    needed (codes "kind") (plain forms.Text) ∷
    needed (codes "what") shapes.What ∷
    [])
layout_of shapes.What = Word (codes "pots" ∷ codes "state" ∷ codes "assets" ∷ [])
