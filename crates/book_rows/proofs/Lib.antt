mod PoolTells
mod OutputTells
