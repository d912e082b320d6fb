-- What a replay tells: the text of each record. (Own)
use Rattle.std.specs.Prelude.{[]}
use Rattle.replay_loop.specs.Outcomes.{outcome_text}
use Rattle.replay_loop.specs.Plays.{Telling, nothing_ahead}

-- and nothing at the end
abbrev pub texts_told : Telling (Unit {0})
texts_told = record { aheads = nothing_ahead; keeps = λ k n w o. tt; tells = λ k n w o. outcome_text n w o; closes = λ k w n. [] }
