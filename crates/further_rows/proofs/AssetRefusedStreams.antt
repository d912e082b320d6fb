-- Worked rows of whole streams: texts with assets that are not sound. Made by tests/made/rows_of, from the streams of these names in tests/streams/further.
use Rattle.std.specs.Prelude.{◌≡◌, [], ◌∷◌, Some, None, false, refl}
use Rattle.std.specs.Fmt.{digits}
use Rattle.hex.specs.Hex.{encode_with}
use Rattle.gov_ids.specs.declared.Drep.TheVariants as drep
use Rattle.ledger_rows.proofs.Base.{h28, h32, key, pool, account_on, address_with, tx_id, ref, asset, share, base_params}
use Rattle.checkpoint_model.specs.Resumable.{has_form}
use Rattle.gov_actions.specs.declared.state.EnactState.{EnactState}
use Rattle.gov_actions.specs.declared.state.HotState.TheVariants.{Hot}
use Rattle.run_model.specs.World.{World}

abbrev refused_asset_twice_state : EnactState
refused_asset_twice_state = (record { params = base_params; version = (10, 0); committee = (Some (record { threshold = (share 0 1); members = (((key 0x70), 100) ∷ []) })); document = (h32 0x01); script = None; last = (record { committee = None; constitution = None; hardfork = None; parameters = None }); treasury = 100 })

abbrev refused_asset_twice_world : World
refused_asset_twice_world = (record { ledger = (record { network = 1; epoch_length = 10; supply = 1000; slot = 1; epoch = 0; dormant = 0; reserves = 699; fees = 0; donations = 0; state = refused_asset_twice_state; outputs = (((ref 0x01 2), (record { address = (address_with 1 (key 0x01) None); lovelace = 20; assets = (((asset (h28 0x05) (0xff ∷ [])), 18446744073709551615) ∷ ((asset (h28 0x06) (0x01 ∷ [])), 2) ∷ ((asset (h28 0x06) (0x01 ∷ [])), 2) ∷ ((asset (h28 0x06) (0x01 ∷ 0x00 ∷ [])), 3) ∷ []) })) ∷ ((ref 0x01 4), (record { address = (address_with 1 (key 0x01) None); lovelace = 20; assets = [] })) ∷ ((ref 0x01 5), (record { address = (address_with 1 (key 0x01) None); lovelace = 20; assets = [] })) ∷ ((ref 0x02 0), (record { address = (address_with 1 (key 0x01) None); lovelace = 7; assets = (((asset (h28 0x05) []), 9) ∷ []) })) ∷ ((ref 0x02 1), (record { address = (address_with 1 (key 0x01) None); lovelace = 3; assets = [] })) ∷ ((ref 0x02 2), (record { address = (address_with 1 (key 0x01) None); lovelace = 10; assets = [] })) ∷ []); used = ((tx_id 0x01) ∷ (tx_id 0x02) ∷ []); accounts = (((key 0x10), (record { deposit = 2; rewards = 67; pool = None; drep = (Some (drep.Registered (key 0x30))) })) ∷ ((key 0x11), (record { deposit = 2; rewards = 33; pool = None; drep = (Some (drep.Registered (key 0x31))) })) ∷ ((key 0x12), (record { deposit = 2; rewards = 0; pool = None; drep = None })) ∷ []); pools = (((pool 0x50), (record { deposit = 5; terms = (record { cost = 0; pledge = 0; margin = (share 0 1); account = (account_on 1 (key 0x12)); key = None }); future = None; retires = None })) ∷ []); dreps = (((key 0x30), (record { deposit = 5; expiry = 20 })) ∷ ((key 0x31), (record { deposit = 5; expiry = 20 })) ∷ []); hot = (((key 0x70), (Hot (key 0x71))) ∷ []); proposals = [] }); pending = None; counted = 2; mark = (((pool 0x50), 0) ∷ []); set = []; go = []; noted_fees = 0; frozen = (record { epoch = 0; entries = (((key 0x10), (record { stake = 0; registered = (Some (record { deposit = 2; rewards = 67; pool = None; drep = (Some (drep.Registered (key 0x30))) })) })) ∷ ((key 0x11), (record { stake = 0; registered = (Some (record { deposit = 2; rewards = 33; pool = None; drep = (Some (drep.Registered (key 0x31))) })) })) ∷ ((key 0x12), (record { stake = 0; registered = (Some (record { deposit = 2; rewards = 0; pool = None; drep = None })) })) ∷ []); dreps = (((key 0x30), 20) ∷ ((key 0x31), 20) ∷ []); mark = (((pool 0x50), 0) ∷ []); pool_accounts = (((pool 0x50), (account_on 1 (key 0x12))) ∷ []); hot = (((key 0x70), (Hot (key 0x71))) ∷ []); proposals = []; start = (record refused_asset_twice_state { treasury = 100 }) }) })

pub refused_asset_twice : (has_form refused_asset_twice_world) ≡ false
unfolding digits encode_with
refused_asset_twice = refl

abbrev refused_assets_in_no_order_state : EnactState
refused_assets_in_no_order_state = (record { params = base_params; version = (10, 0); committee = (Some (record { threshold = (share 0 1); members = (((key 0x70), 100) ∷ []) })); document = (h32 0x01); script = None; last = (record { committee = None; constitution = None; hardfork = None; parameters = None }); treasury = 100 })

abbrev refused_assets_in_no_order_world : World
refused_assets_in_no_order_world = (record { ledger = (record { network = 1; epoch_length = 10; supply = 1000; slot = 1; epoch = 0; dormant = 0; reserves = 699; fees = 0; donations = 0; state = refused_assets_in_no_order_state; outputs = (((ref 0x01 2), (record { address = (address_with 1 (key 0x01) None); lovelace = 20; assets = (((asset (h28 0x05) (0xff ∷ [])), 18446744073709551615) ∷ ((asset (h28 0x06) (0x01 ∷ 0x00 ∷ [])), 3) ∷ ((asset (h28 0x06) (0x01 ∷ [])), 2) ∷ []) })) ∷ ((ref 0x01 4), (record { address = (address_with 1 (key 0x01) None); lovelace = 20; assets = [] })) ∷ ((ref 0x01 5), (record { address = (address_with 1 (key 0x01) None); lovelace = 20; assets = [] })) ∷ ((ref 0x02 0), (record { address = (address_with 1 (key 0x01) None); lovelace = 7; assets = (((asset (h28 0x05) []), 9) ∷ []) })) ∷ ((ref 0x02 1), (record { address = (address_with 1 (key 0x01) None); lovelace = 3; assets = [] })) ∷ ((ref 0x02 2), (record { address = (address_with 1 (key 0x01) None); lovelace = 10; assets = [] })) ∷ []); used = ((tx_id 0x01) ∷ (tx_id 0x02) ∷ []); accounts = (((key 0x10), (record { deposit = 2; rewards = 67; pool = None; drep = (Some (drep.Registered (key 0x30))) })) ∷ ((key 0x11), (record { deposit = 2; rewards = 33; pool = None; drep = (Some (drep.Registered (key 0x31))) })) ∷ ((key 0x12), (record { deposit = 2; rewards = 0; pool = None; drep = None })) ∷ []); pools = (((pool 0x50), (record { deposit = 5; terms = (record { cost = 0; pledge = 0; margin = (share 0 1); account = (account_on 1 (key 0x12)); key = None }); future = None; retires = None })) ∷ []); dreps = (((key 0x30), (record { deposit = 5; expiry = 20 })) ∷ ((key 0x31), (record { deposit = 5; expiry = 20 })) ∷ []); hot = (((key 0x70), (Hot (key 0x71))) ∷ []); proposals = [] }); pending = None; counted = 2; mark = (((pool 0x50), 0) ∷ []); set = []; go = []; noted_fees = 0; frozen = (record { epoch = 0; entries = (((key 0x10), (record { stake = 0; registered = (Some (record { deposit = 2; rewards = 67; pool = None; drep = (Some (drep.Registered (key 0x30))) })) })) ∷ ((key 0x11), (record { stake = 0; registered = (Some (record { deposit = 2; rewards = 33; pool = None; drep = (Some (drep.Registered (key 0x31))) })) })) ∷ ((key 0x12), (record { stake = 0; registered = (Some (record { deposit = 2; rewards = 0; pool = None; drep = None })) })) ∷ []); dreps = (((key 0x30), 20) ∷ ((key 0x31), 20) ∷ []); mark = (((pool 0x50), 0) ∷ []); pool_accounts = (((pool 0x50), (account_on 1 (key 0x12))) ∷ []); hot = (((key 0x70), (Hot (key 0x71))) ∷ []); proposals = []; start = (record refused_assets_in_no_order_state { treasury = 100 }) }) })

pub refused_assets_in_no_order : (has_form refused_assets_in_no_order_world) ≡ false
unfolding digits encode_with
refused_assets_in_no_order = refl

abbrev refused_asset_of_which_there_is_none_state : EnactState
refused_asset_of_which_there_is_none_state = (record { params = base_params; version = (10, 0); committee = (Some (record { threshold = (share 0 1); members = (((key 0x70), 100) ∷ []) })); document = (h32 0x01); script = None; last = (record { committee = None; constitution = None; hardfork = None; parameters = None }); treasury = 100 })

abbrev refused_asset_of_which_there_is_none_world : World
refused_asset_of_which_there_is_none_world = (record { ledger = (record { network = 1; epoch_length = 10; supply = 1000; slot = 1; epoch = 0; dormant = 0; reserves = 699; fees = 0; donations = 0; state = refused_asset_of_which_there_is_none_state; outputs = (((ref 0x01 2), (record { address = (address_with 1 (key 0x01) None); lovelace = 20; assets = (((asset (h28 0x05) (0xff ∷ [])), 18446744073709551615) ∷ ((asset (h28 0x06) (0x01 ∷ [])), 0) ∷ ((asset (h28 0x06) (0x01 ∷ 0x00 ∷ [])), 3) ∷ []) })) ∷ ((ref 0x01 4), (record { address = (address_with 1 (key 0x01) None); lovelace = 20; assets = [] })) ∷ ((ref 0x01 5), (record { address = (address_with 1 (key 0x01) None); lovelace = 20; assets = [] })) ∷ ((ref 0x02 0), (record { address = (address_with 1 (key 0x01) None); lovelace = 7; assets = (((asset (h28 0x05) []), 9) ∷ []) })) ∷ ((ref 0x02 1), (record { address = (address_with 1 (key 0x01) None); lovelace = 3; assets = [] })) ∷ ((ref 0x02 2), (record { address = (address_with 1 (key 0x01) None); lovelace = 10; assets = [] })) ∷ []); used = ((tx_id 0x01) ∷ (tx_id 0x02) ∷ []); accounts = (((key 0x10), (record { deposit = 2; rewards = 67; pool = None; drep = (Some (drep.Registered (key 0x30))) })) ∷ ((key 0x11), (record { deposit = 2; rewards = 33; pool = None; drep = (Some (drep.Registered (key 0x31))) })) ∷ ((key 0x12), (record { deposit = 2; rewards = 0; pool = None; drep = None })) ∷ []); pools = (((pool 0x50), (record { deposit = 5; terms = (record { cost = 0; pledge = 0; margin = (share 0 1); account = (account_on 1 (key 0x12)); key = None }); future = None; retires = None })) ∷ []); dreps = (((key 0x30), (record { deposit = 5; expiry = 20 })) ∷ ((key 0x31), (record { deposit = 5; expiry = 20 })) ∷ []); hot = (((key 0x70), (Hot (key 0x71))) ∷ []); proposals = [] }); pending = None; counted = 2; mark = (((pool 0x50), 0) ∷ []); set = []; go = []; noted_fees = 0; frozen = (record { epoch = 0; entries = (((key 0x10), (record { stake = 0; registered = (Some (record { deposit = 2; rewards = 67; pool = None; drep = (Some (drep.Registered (key 0x30))) })) })) ∷ ((key 0x11), (record { stake = 0; registered = (Some (record { deposit = 2; rewards = 33; pool = None; drep = (Some (drep.Registered (key 0x31))) })) })) ∷ ((key 0x12), (record { stake = 0; registered = (Some (record { deposit = 2; rewards = 0; pool = None; drep = None })) })) ∷ []); dreps = (((key 0x30), 20) ∷ ((key 0x31), 20) ∷ []); mark = (((pool 0x50), 0) ∷ []); pool_accounts = (((pool 0x50), (account_on 1 (key 0x12))) ∷ []); hot = (((key 0x70), (Hot (key 0x71))) ∷ []); proposals = []; start = (record refused_asset_of_which_there_is_none_state { treasury = 100 }) }) })

pub refused_asset_of_which_there_is_none : (has_form refused_asset_of_which_there_is_none_world) ≡ false
unfolding digits encode_with
refused_asset_of_which_there_is_none = refl

abbrev refused_asset_past_64_bits_state : EnactState
refused_asset_past_64_bits_state = (record { params = base_params; version = (10, 0); committee = (Some (record { threshold = (share 0 1); members = (((key 0x70), 100) ∷ []) })); document = (h32 0x01); script = None; last = (record { committee = None; constitution = None; hardfork = None; parameters = None }); treasury = 100 })

abbrev refused_asset_past_64_bits_world : World
refused_asset_past_64_bits_world = (record { ledger = (record { network = 1; epoch_length = 10; supply = 1000; slot = 1; epoch = 0; dormant = 0; reserves = 699; fees = 0; donations = 0; state = refused_asset_past_64_bits_state; outputs = (((ref 0x01 2), (record { address = (address_with 1 (key 0x01) None); lovelace = 20; assets = (((asset (h28 0x05) (0xff ∷ [])), 18446744073709551616) ∷ ((asset (h28 0x06) (0x01 ∷ [])), 2) ∷ ((asset (h28 0x06) (0x01 ∷ 0x00 ∷ [])), 3) ∷ []) })) ∷ ((ref 0x01 4), (record { address = (address_with 1 (key 0x01) None); lovelace = 20; assets = [] })) ∷ ((ref 0x01 5), (record { address = (address_with 1 (key 0x01) None); lovelace = 20; assets = [] })) ∷ ((ref 0x02 0), (record { address = (address_with 1 (key 0x01) None); lovelace = 7; assets = (((asset (h28 0x05) []), 9) ∷ []) })) ∷ ((ref 0x02 1), (record { address = (address_with 1 (key 0x01) None); lovelace = 3; assets = [] })) ∷ ((ref 0x02 2), (record { address = (address_with 1 (key 0x01) None); lovelace = 10; assets = [] })) ∷ []); used = ((tx_id 0x01) ∷ (tx_id 0x02) ∷ []); accounts = (((key 0x10), (record { deposit = 2; rewards = 67; pool = None; drep = (Some (drep.Registered (key 0x30))) })) ∷ ((key 0x11), (record { deposit = 2; rewards = 33; pool = None; drep = (Some (drep.Registered (key 0x31))) })) ∷ ((key 0x12), (record { deposit = 2; rewards = 0; pool = None; drep = None })) ∷ []); pools = (((pool 0x50), (record { deposit = 5; terms = (record { cost = 0; pledge = 0; margin = (share 0 1); account = (account_on 1 (key 0x12)); key = None }); future = None; retires = None })) ∷ []); dreps = (((key 0x30), (record { deposit = 5; expiry = 20 })) ∷ ((key 0x31), (record { deposit = 5; expiry = 20 })) ∷ []); hot = (((key 0x70), (Hot (key 0x71))) ∷ []); proposals = [] }); pending = None; counted = 2; mark = (((pool 0x50), 0) ∷ []); set = []; go = []; noted_fees = 0; frozen = (record { epoch = 0; entries = (((key 0x10), (record { stake = 0; registered = (Some (record { deposit = 2; rewards = 67; pool = None; drep = (Some (drep.Registered (key 0x30))) })) })) ∷ ((key 0x11), (record { stake = 0; registered = (Some (record { deposit = 2; rewards = 33; pool = None; drep = (Some (drep.Registered (key 0x31))) })) })) ∷ ((key 0x12), (record { stake = 0; registered = (Some (record { deposit = 2; rewards = 0; pool = None; drep = None })) })) ∷ []); dreps = (((key 0x30), 20) ∷ ((key 0x31), 20) ∷ []); mark = (((pool 0x50), 0) ∷ []); pool_accounts = (((pool 0x50), (account_on 1 (key 0x12))) ∷ []); hot = (((key 0x70), (Hot (key 0x71))) ∷ []); proposals = []; start = (record refused_asset_past_64_bits_state { treasury = 100 }) }) })

pub refused_asset_past_64_bits : (has_form refused_asset_past_64_bits_world) ≡ false
unfolding digits encode_with
refused_asset_past_64_bits = refl

abbrev refused_asset_name_of_33_bytes_state : EnactState
refused_asset_name_of_33_bytes_state = (record { params = base_params; version = (10, 0); committee = (Some (record { threshold = (share 0 1); members = (((key 0x70), 100) ∷ []) })); document = (h32 0x01); script = None; last = (record { committee = None; constitution = None; hardfork = None; parameters = None }); treasury = 100 })

abbrev refused_asset_name_of_33_bytes_world : World
refused_asset_name_of_33_bytes_world = (record { ledger = (record { network = 1; epoch_length = 10; supply = 1000; slot = 1; epoch = 0; dormant = 0; reserves = 699; fees = 0; donations = 0; state = refused_asset_name_of_33_bytes_state; outputs = (((ref 0x01 2), (record { address = (address_with 1 (key 0x01) None); lovelace = 20; assets = (((asset (h28 0x05) (0xff ∷ [])), 18446744073709551615) ∷ ((asset (h28 0x06) (0x00 ∷ 0x00 ∷ 0x00 ∷ 0x00 ∷ 0x00 ∷ 0x00 ∷ 0x00 ∷ 0x00 ∷ 0x00 ∷ 0x00 ∷ 0x00 ∷ 0x00 ∷ 0x00 ∷ 0x00 ∷ 0x00 ∷ 0x00 ∷ 0x00 ∷ 0x00 ∷ 0x00 ∷ 0x00 ∷ 0x00 ∷ 0x00 ∷ 0x00 ∷ 0x00 ∷ 0x00 ∷ 0x00 ∷ 0x00 ∷ 0x00 ∷ 0x00 ∷ 0x00 ∷ 0x00 ∷ 0x00 ∷ 0x00 ∷ [])), 2) ∷ ((asset (h28 0x06) (0x01 ∷ 0x00 ∷ [])), 3) ∷ []) })) ∷ ((ref 0x01 4), (record { address = (address_with 1 (key 0x01) None); lovelace = 20; assets = [] })) ∷ ((ref 0x01 5), (record { address = (address_with 1 (key 0x01) None); lovelace = 20; assets = [] })) ∷ ((ref 0x02 0), (record { address = (address_with 1 (key 0x01) None); lovelace = 7; assets = (((asset (h28 0x05) []), 9) ∷ []) })) ∷ ((ref 0x02 1), (record { address = (address_with 1 (key 0x01) None); lovelace = 3; assets = [] })) ∷ ((ref 0x02 2), (record { address = (address_with 1 (key 0x01) None); lovelace = 10; assets = [] })) ∷ []); used = ((tx_id 0x01) ∷ (tx_id 0x02) ∷ []); accounts = (((key 0x10), (record { deposit = 2; rewards = 67; pool = None; drep = (Some (drep.Registered (key 0x30))) })) ∷ ((key 0x11), (record { deposit = 2; rewards = 33; pool = None; drep = (Some (drep.Registered (key 0x31))) })) ∷ ((key 0x12), (record { deposit = 2; rewards = 0; pool = None; drep = None })) ∷ []); pools = (((pool 0x50), (record { deposit = 5; terms = (record { cost = 0; pledge = 0; margin = (share 0 1); account = (account_on 1 (key 0x12)); key = None }); future = None; retires = None })) ∷ []); dreps = (((key 0x30), (record { deposit = 5; expiry = 20 })) ∷ ((key 0x31), (record { deposit = 5; expiry = 20 })) ∷ []); hot = (((key 0x70), (Hot (key 0x71))) ∷ []); proposals = [] }); pending = None; counted = 2; mark = (((pool 0x50), 0) ∷ []); set = []; go = []; noted_fees = 0; frozen = (record { epoch = 0; entries = (((key 0x10), (record { stake = 0; registered = (Some (record { deposit = 2; rewards = 67; pool = None; drep = (Some (drep.Registered (key 0x30))) })) })) ∷ ((key 0x11), (record { stake = 0; registered = (Some (record { deposit = 2; rewards = 33; pool = None; drep = (Some (drep.Registered (key 0x31))) })) })) ∷ ((key 0x12), (record { stake = 0; registered = (Some (record { deposit = 2; rewards = 0; pool = None; drep = None })) })) ∷ []); dreps = (((key 0x30), 20) ∷ ((key 0x31), 20) ∷ []); mark = (((pool 0x50), 0) ∷ []); pool_accounts = (((pool 0x50), (account_on 1 (key 0x12))) ∷ []); hot = (((key 0x70), (Hot (key 0x71))) ∷ []); proposals = []; start = (record refused_asset_name_of_33_bytes_state { treasury = 100 }) }) })

pub refused_asset_name_of_33_bytes : (has_form refused_asset_name_of_33_bytes_world) ≡ false
unfolding digits encode_with
refused_asset_name_of_33_bytes = refl
