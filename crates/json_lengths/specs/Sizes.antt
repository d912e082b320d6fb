-- How many bytes a JSON value takes at least: no spaces, nothing for null and booleans. (Own)
use Rattle.std.specs.Prelude.{ℕ, zero, suc, ◌+◌, decimal, length}
use Rattle.serde_json.specs.Data.{Num, unsigned, negative, float, Data, null, boolean, number, string, array, object, Items, no_items, item, Members, no_members, member}

-- at least the bracket that closes an array or an object
abbrev pub closed : ℕ → ℕ
closed zero = 1
closed (suc n) = suc n

-- the digits of a number that is not negative
abbrev pub number_size : Num → ℕ
number_size (unsigned n) = length (decimal n)
number_size (negative z) = 0
number_size (float x) = 0

abbrev mutual
  -- quotes and brackets count
  pub data_size : Data → ℕ
  data_size null = 0
  data_size (boolean b) = 0
  data_size (number n) = number_size n
  data_size (string s) = length s + 2
  data_size (array ds) = 1 + closed (items_size ds)
  data_size (object ms) = 1 + closed (members_size ms)

  -- each entry with what separates it from the next, or closes the array
  pub items_size : Items → ℕ
  items_size no_items = 0
  items_size (item d ds) = data_size d + 1 + items_size ds

  -- each member with quotes, colon, and what separates it from the next or closes the object
  pub members_size : Members → ℕ
  members_size no_members = 0
  members_size (member k d ms) = length k + 4 + data_size d + members_size ms
