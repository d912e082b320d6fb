-- Where in a line a value is. (Own; names are written with escapes as in RFC 3986, section 2.1)
use Rattle.std.specs.Prelude.{ℕ, ◌==◌, ◌&&◌, ◌||◌, Bool, List, [], ◌∷◌, ◌++◌, codes, decimal, flat_map, nat_le, if◌then◌else◌}
use Rattle.percent_encoding.specs.Percent.{percent_encode_byte}

-- a letter or a digit of ASCII, a hyphen or a low line
abbrev pub is_plain : ℕ → Bool
is_plain b = (nat_le 97 b && nat_le b 122) || (nat_le 65 b && nat_le b 90) || (nat_le 48 b && nat_le b 57) || b == 45 || b == 95

-- a byte of a name: any other one is a percent sign and its two hex digits
abbrev pub byte_text : ℕ → List ℕ
byte_text b = if is_plain b then b ∷ [] else percent_encode_byte b

-- a name of a member
abbrev pub name_text : List ℕ → List ℕ
name_text name = flat_map byte_text name

-- what separates a member's name from what is before it
abbrev pub dot_after : List ℕ → List ℕ
dot_after [] = []
dot_after (b ∷ path) = codes "."

-- the path of a member of an object
abbrev pub member_path : List ℕ → List ℕ → List ℕ
member_path path name = path ++ (dot_after path ++ name_text name)

-- the path of an entry of an array
abbrev pub entry_path : List ℕ → ℕ → List ℕ
entry_path path i = path ++ (codes "[" ++ decimal i ++ codes "]")
