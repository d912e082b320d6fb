-- Numbers of 64 bits, read from their digits. (Own)
use Rattle.std.specs.Prelude.{ℕ, ◌^◌, Bool, ◌&&◌, if◌then◌else◌, List, Option, Some, None, length, nat_le, nat_lt}
use Rattle.std.specs.Char.{is_ascii_digit}
use Rattle.std.specs.List.{list_all}
use Rattle.std.specs.Str.Parse.{digits_value}

-- 1 to 20 decimal digits
abbrev pub are_digits : List ℕ → Bool
are_digits text = nat_le 1 (length text) && nat_le (length text) 20 && list_all is_ascii_digit text

-- the number, if it is below 2 ^ 64
abbrev pub if_u64 : ℕ → Option ℕ
if_u64 n = if nat_lt n (2 ^ 64) then Some n else None

-- the number of a text of digits
abbrev pub number_of : List ℕ → Option ℕ
number_of text = if are_digits text then if_u64 (digits_value 10 text) else None
