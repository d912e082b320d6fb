-- The text of one stream and then another is that of the first, and what a resume writes of the second.
use Rattle.std.proofs.Common.{◌≡◌, ℕ, List, [], ◌∷◌, ◌++◌, Option, Some, None, codes, option_map, refl, ap, sym, ◌∙◌, append_assoc}
use Rattle.std.specs.Option.{unwrap_or}
use Rattle.tx_records.specs.declared.genesis.Genesis.{Genesis}
use Rattle.tx_records.specs.declared.genesis.GenesisRule.{GenesisRule}
use Rattle.tx_records.specs.declared.record.Reading.{Reading}
use Rattle.tx_records.specs.declared.record.Reading.TheVariants.{Read, Malformed, TooLong}
use Rattle.tx_records.specs.declared.record.Record.TheVariants as records
use Rattle.ledger_model.specs.Supply.{pots_of}
use Rattle.run_model.specs.Genesis.{genesis_fault, world_of_genesis}
use Rattle.run_model.specs.World.{World}
use Rattle.text_forms.specs.Worlds.{world_after_readings, world_by}
use Rattle.text_model.specs.Replies.{pots_words}
use Rattle.text_model.specs.Runs.{reading_lines, text_from, text_of_genesis, text_of_lines, world_after_reading}
use Rattle.text_model.specs.Words.{Text}
use Rattle.checkpoint_model.specs.Laws.{ReplayIsResumed}
use Rattle.checkpoint_model.specs.Resumed.{text_of_resume}

text_from-append : (rs ss : List (ℕ × Reading)) (w : World) → text_from w (rs ++ ss) ≡ text_from w rs ++ text_from (world_after_readings w rs) ss
text_from-append [] ss w = refl
text_from-append (r ∷ rs) ss w =
    let first : Text = text_of_lines r.0 (reading_lines w r.1) in
    let v : World = world_after_reading w r.1 in
    ap (λ (t : Text). first ++ t) (text_from-append rs ss v) ∙ sym (append_assoc first (text_from v rs) (text_from (world_after_readings v rs) ss))

resumed_by : (o : Option GenesisRule) (n : ℕ) (g : Genesis) (rs ss : List (ℕ × Reading)) (w : World) → world_by o g rs ≡ Some w
    → text_of_genesis n g o (rs ++ ss) ≡ option_map (λ t. t ++ text_of_resume w ss) (text_of_genesis n g o rs)
resumed_by (Some rule) n g rs ss w e = cc
resumed_by None n g rs ss w e =
    let start : World = world_of_genesis g in
    let first : Text = text_of_lines n (pots_words (codes "genesis") (pots_of start.ledger) ∷ []) in
    let v : World = world_after_readings start rs in
    let same : v ≡ w = ap (λ (o : Option World). unwrap_or o v) e in
    ap (λ (t : Text). Some (first ++ t)) (text_from-append rs ss start)
    ∙ ap (λ (t : Text). Some t) (sym (append_assoc first (text_from start rs) (text_from v ss)))
    ∙ ap (λ (x : World). Some ((first ++ text_from start rs) ++ text_from x ss)) same

pub replay_is_resumed : ReplayIsResumed
replay_is_resumed [] ss w e = cc
replay_is_resumed ((n, Read (records.Genesis g)) ∷ rs) ss w e = resumed_by (genesis_fault g) n g rs ss w e
replay_is_resumed ((n, Read (records.Block slot pulse)) ∷ rs) ss w e = cc
replay_is_resumed ((n, Read (records.Rewards u)) ∷ rs) ss w e = cc
replay_is_resumed ((n, Read (records.Tx tx)) ∷ rs) ss w e = cc
replay_is_resumed ((n, Read (records.Print what)) ∷ rs) ss w e = cc
replay_is_resumed ((n, Malformed field place) ∷ rs) ss w e = cc
replay_is_resumed ((n, TooLong) ∷ rs) ss w e = cc
