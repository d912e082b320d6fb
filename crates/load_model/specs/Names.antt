-- What the stream names: each name is a number, with zeros before its digits. (Own)
use Rattle.std.specs.Prelude.{ℕ, ◌-◌, ◌++◌, codes, decimal, length, replicate}
use Rattle.text_model.specs.Words.{Text}

-- the digits of a number, with zeros before them up to this many
abbrev pub padded : ℕ → ℕ → Text
padded width n = replicate (width - length (decimal n)) 48 ++ decimal n

-- the hash of a pool or a script
abbrev pub hash28 : ℕ → Text
hash28 n = padded 56 n

-- a transaction, or any other hash of 32 bytes
abbrev pub hash32 : ℕ → Text
hash32 n = padded 64 n

-- a key
abbrev pub key : ℕ → Text
key n = codes "k" ++ hash28 n

-- the account of a key, which is also its address
abbrev pub account : ℕ → Text
account n = codes "1" ++ key n

-- the address of a key with the stake part of another
abbrev pub address_with_stake : ℕ → ℕ → Text
address_with_stake payment stake = account payment ++ codes "+" ++ key stake

-- the output or the proposal of a transaction at an index
abbrev pub ref : ℕ → ℕ → Text
ref n place = hash32 n ++ codes "#" ++ decimal place
