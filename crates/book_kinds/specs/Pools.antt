-- What the words of lines of pools read as. (Own)
use Rattle.std.specs.Prelude.{ℕ, ◌==◌, Bool, ◌&&◌, not, if◌then◌else◌, List, [], ◌∷◌, Option, Some, None, bytes_eq, codes, is_some, nat_le, nat_lt, option_map}
use Rattle.std.specs.Result.{result_ok}
use Rattle.coin_frac.specs.Fraction.{Fraction, fraction}
use Rattle.gov_ids.specs.declared.PoolId.{PoolId}
use Rattle.gov_ids.specs.Spelling.{◌>>=◌, account_of, hash_of, pool_of}
use Rattle.book_records.specs.declared.pool.Pool.{Pool}
use Rattle.book_records.specs.declared.pool.PoolTerms.{PoolTerms}
use Rattle.text_forms.specs.Books.{are_terms, is_pool}
use Rattle.text_forms.specs.Ids.{is_pool_id}
use Rattle.text_model.specs.StateLines.{next_words, pool_words}
use Rattle.text_model.specs.Words.{Text}
use Rattle.line_kinds.specs.Cuts.{word_at}
use Rattle.line_kinds.specs.Numbers.{number_of}

-- what is before the first such byte and after it, if there is one
abbrev pub halves : ℕ → Text → Option (Text × Text)
halves sign [] = None
halves sign (b ∷ bs) = if b == sign then Some ([], bs) else option_map (λ (h : Text × Text). (b ∷ h.0, h.1)) (halves sign bs)

-- a fraction from 0 to 1
abbrev pub unit_of : Text → Option Fraction
unit_of t = do
  parts ← halves 47 t
  num ← number_of parts.0
  den ← number_of parts.1
  if nat_lt 0 den && nat_le num den then Some (fraction num den) else None

-- a hash of 32 bytes, if there is a word
abbrev pub key_of : Text → Option (Option (List ℕ))
key_of [] = Some None
key_of (c ∷ cs) = option_map Some (result_ok (hash_of 32 (c ∷ cs)))

-- when a pool retires
abbrev pub retires_of : Text → Option (Option ℕ)
retires_of t = if bytes_eq t (codes "never") then Some None else option_map Some (number_of t)

-- the terms of a pool: cost, pledge, margin, account, and a key if one is stated
abbrev pub terms_of : Text → Text → Text → Text → Text → Option PoolTerms
terms_of c p m a k = do
  cost ← number_of c
  pledge ← number_of p
  margin ← unit_of m
  account ← account_of a
  key ← key_of k
  Some (record { cost = cost; pledge = pledge; margin = margin; account = account; key = key })

-- a pool without future terms
abbrev pub pool_in : List Text → Option (PoolId × Pool)
pool_in ws = do
  id ← pool_of (word_at 1 ws)
  deposit ← number_of (word_at 3 ws)
  terms ← terms_of (word_at 5 ws) (word_at 7 ws) (word_at 9 ws) (word_at 11 ws) (word_at 15 ws)
  retires ← retires_of (word_at 13 ws)
  Some (id, record { deposit = deposit; terms = terms; future = None; retires = retires })

-- its words
abbrev pub pool_line : PoolId × Pool → List Text
pool_line p = pool_words p.0 p.1

-- its form
abbrev pub is_pool_line : PoolId × Pool → Bool
is_pool_line p = is_pool p && not (is_some p.1.future)

-- future terms
abbrev pub next_in : List Text → Option (PoolId × PoolTerms)
next_in ws = do
  id ← pool_of (word_at 1 ws)
  terms ← terms_of (word_at 3 ws) (word_at 5 ws) (word_at 7 ws) (word_at 9 ws) (word_at 11 ws)
  Some (id, terms)

-- their words
abbrev pub next_line : PoolId × PoolTerms → List Text
next_line n = next_words n.0 n.1

-- their form
abbrev pub is_next_line : PoolId × PoolTerms → Bool
is_next_line n = is_pool_id n.0 && are_terms n.1
