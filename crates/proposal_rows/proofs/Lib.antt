mod VoteTells
mod LiveTells
mod FrozenTells
