-- Where bytes stop being the front of a JSON text, byte by byte. (RFC 8259; UTF-8 of RFC 3629)
use Rattle.std.specs.Prelude.{ℕ, suc, ◌+◌, ◌*◌, ◌-◌, ◌%◌, ◌==◌, ◌&&◌, ◌||◌, Bool, true, false, not, List, [], ◌∷◌, ◌++◌, Option, Some, None, length, nat_le, nat_lt, option_map, option_and_then, slice_get, take, if◌then◌else◌}
use Rattle.json_place.specs.declared.state.State.{State}
use Rattle.json_place.specs.declared.state.State.TheVariants as states

-- what is open, the innermost last: an object, or else an array
abbrev pub Nest : Type 0
Nest = List Bool

-- the innermost that is open
abbrev pub innermost : Nest → Option Bool
innermost nest = slice_get nest (length nest - 1)

-- between two
abbrev pub is_between : ℕ → ℕ → ℕ → Bool
is_between least most b = nat_le least b && nat_le b most

-- a space, a tab, a line feed or a carriage return
abbrev pub is_space : ℕ → Bool
is_space b = b == 32 || b == 9 || b == 10 || b == 13

-- 0 to 9
abbrev pub is_digit : ℕ → Bool
is_digit b = is_between 48 57 b

-- the value of a hex digit
abbrev pub digit_value : ℕ → Option ℕ
digit_value b =
    if is_between 48 57 b then Some (b - 48) else
    if is_between 65 70 b then Some (b - 55) else
    if is_between 97 102 b then Some (b - 87) else
    None

-- ---- values

-- an array or an object begins, at most 127 deep
abbrev pub opened : Nest → Bool → Option (State × Nest)
opened nest is_object =
    if nat_le 127 (length nest) then None else Some (if is_object then states.FirstName else states.FirstItem, nest ++ is_object ∷ [])

-- a value begins
abbrev pub begin : Nest → ℕ → Option (State × Nest)
begin nest b =
    if b == 34 then Some (states.Text false, nest) else
    if b == 91 then opened nest false else
    if b == 123 then opened nest true else
    if b == 45 then Some (states.Minus, nest) else
    if b == 48 then Some (states.Zero, nest) else
    if b == 116 then Some (states.Rue, nest) else
    if b == 102 then Some (states.Alse, nest) else
    if b == 110 then Some (states.Ull, nest) else
    if is_digit b then Some (states.Digits, nest) else
    if is_space b then Some (states.Value, nest) else
    None

-- the innermost ends, if it is such a one
abbrev pub close_by : Option Bool → Nest → Bool → Option (State × Nest)
close_by None nest is_object = None
close_by (Some true) nest true = Some (states.After, take (length nest - 1) nest)
close_by (Some false) nest false = Some (states.After, take (length nest - 1) nest)
close_by (Some _) nest _ = None

-- the innermost ends
abbrev pub close : Nest → Bool → Option (State × Nest)
close nest is_object = close_by (innermost nest) nest is_object

-- another one follows
abbrev pub comma : Option Bool → Nest → Option (State × Nest)
comma None nest = None
comma (Some true) nest = Some (states.Name, nest)
comma (Some false) nest = Some (states.Value, nest)

-- behind a value
abbrev pub after : Nest → ℕ → Option (State × Nest)
after nest b =
    if b == 44 then comma (innermost nest) nest else
    if b == 93 then close nest false else
    if b == 125 then close nest true else
    if is_space b then Some (states.After, nest) else
    None

-- a name begins
abbrev pub name : State → ℕ → Option State
name state b = if b == 34 then Some (states.Text true) else if is_space b then Some state else None

-- ---- texts and words

-- behind a text
abbrev pub text_end : Bool → State
text_end is_name = if is_name then states.Colon else states.After

-- a character that is not ASCII begins
abbrev pub wide : Bool → ℕ → Option State
wide is_name b =
    if is_between 194 223 b then Some (states.Wide is_name 128 191 0) else
    if b == 224 then Some (states.Wide is_name 160 191 1) else
    if b == 237 then Some (states.Wide is_name 128 159 1) else
    if is_between 225 239 b then Some (states.Wide is_name 128 191 1) else
    if b == 240 then Some (states.Wide is_name 144 191 2) else
    if is_between 241 243 b then Some (states.Wide is_name 128 191 2) else
    if b == 244 then Some (states.Wide is_name 128 143 2) else
    None

-- in a text
abbrev pub text : Bool → ℕ → Option State
text is_name b =
    if b == 34 then Some (text_end is_name) else
    if b == 92 then Some (states.Escape is_name) else
    if nat_lt b 32 then None else
    if nat_lt b 128 then Some (states.Text is_name) else
    wide is_name b

-- one of the letters of an escape of two characters
abbrev pub is_letter : ℕ → Bool
is_letter b = b == 34 || b == 92 || b == 47 || b == 98 || b == 102 || b == 110 || b == 114 || b == 116

-- in an escape
abbrev pub letter : Bool → ℕ → Option State
letter is_name b = if b == 117 then Some (states.Hex is_name 4 0) else if is_letter b then Some (states.Text is_name) else None

-- behind the four hex digits of an escape: the high half of a pair wants the low one
abbrev pub escaped : Bool → ℕ → State
escaped is_name value = if is_between 55296 56319 value then states.LowSlash is_name else states.Text is_name

-- one hex digit more
abbrev pub with_digit : ℕ → ℕ → ℕ
with_digit value digit = value % 4096 * 16 + digit

-- behind the second one, the value begins that of the low half of a pair
abbrev pub is_low : ℕ → ℕ → Bool
is_low left value = left == 3 && is_between 220 223 value

-- a digit of an escape, of which so many are left; the low half of a pair is none alone
abbrev pub hex : Bool → ℕ → ℕ → ℕ → Option State
hex is_name left value b =
    option_and_then
    (λ digit. if is_low left (with_digit value digit) then None else
    if nat_le left 1 then Some (escaped is_name (with_digit value digit)) else
    Some (states.Hex is_name (left - 1) (with_digit value digit)))
    (digit_value b)

-- a digit of the low half of a pair, which begins with D and one of C to F
abbrev pub low : Bool → ℕ → ℕ → Option State
low is_name left b =
    option_and_then
    (λ digit. if (left == 4 && not (digit == 13)) || (left == 3 && nat_lt digit 12) then None else
    if nat_le left 1 then Some (states.Text is_name) else
    Some (states.LowHex is_name (left - 1)))
    (digit_value b)

-- in a character
abbrev pub within : Bool → ℕ → ℕ → ℕ → ℕ → Option State
within is_name least most left b =
    if nat_lt b least || nat_lt most b then None else
    if left == 0 then Some (states.Text is_name) else
    Some (states.Wide is_name 128 191 (left - 1))

-- this byte alone
abbrev pub only : ℕ → State → ℕ → Option State
only wanted next b = if b == wanted then Some next else None

-- in a text or a word
abbrev pub inside : State → ℕ → Option State
inside (states.Text is_name) b = text is_name b
inside (states.Escape is_name) b = letter is_name b
inside (states.Hex is_name left value) b = hex is_name left value b
inside (states.LowSlash is_name) b = only 92 (states.LowLetter is_name) b
inside (states.LowLetter is_name) b = only 117 (states.LowHex is_name 4) b
inside (states.LowHex is_name left) b = low is_name left b
inside (states.Wide is_name least most left) b = within is_name least most left b
inside states.Rue b = only 114 states.Ue b
inside states.Ue b = only 117 states.E b
inside states.E b = only 101 states.After b
inside states.Alse b = only 97 states.Lse b
inside states.Lse b = only 108 states.Se b
inside states.Se b = only 115 states.E b
inside states.Ull b = only 117 states.Ll b
inside states.Ll b = only 108 states.L b
inside states.L b = only 108 states.After b
inside _ b = None

-- ---- numbers

-- a point
abbrev pub is_point : ℕ → Bool
is_point b = b == 46

-- e or E
abbrev pub is_power : ℕ → Bool
is_power b = b == 101 || b == 69

-- in a number that goes on
abbrev pub number : State → ℕ → Option State
number states.Minus b = if b == 48 then Some states.Zero else if is_digit b then Some states.Digits else None
number states.Zero b = if is_point b then Some states.Point else if is_power b then Some states.Exponent else None
number states.Digits b = if is_digit b then Some states.Digits else if is_point b then Some states.Point else if is_power b then Some states.Exponent else None
number states.Point b = if is_digit b then Some states.Fraction else None
number states.Fraction b = if is_digit b then Some states.Fraction else if is_power b then Some states.Exponent else None
number states.Exponent b = if b == 43 || b == 45 then Some states.Sign else if is_digit b then Some states.Power else None
number states.Sign b = if is_digit b then Some states.Power else None
number states.Power b = if is_digit b then Some states.Power else None
number _ b = None

-- a number may end there
abbrev pub may_end : State → Bool
may_end states.Zero = true
may_end states.Digits = true
may_end states.Fraction = true
may_end states.Power = true
may_end _ = false

-- it goes on, or the byte is behind it
abbrev pub counted_by : Option State → Bool → Nest → ℕ → Option (State × Nest)
counted_by (Some next) ends nest b = Some (next, nest)
counted_by None true nest b = after nest b
counted_by None false nest b = None

-- in a number, or behind it
abbrev pub counted : State → Nest → ℕ → Option (State × Nest)
counted state nest b = counted_by (number state b) (may_end state) nest b

-- ---- all

-- with what is open
abbrev pub with_nest : Nest → Option State → Option (State × Nest)
with_nest nest next = option_map (λ s. (s, nest)) next

-- a byte; none where no JSON text has it
abbrev pub step : State → Nest → ℕ → Option (State × Nest)
step states.Value nest b = begin nest b
step states.FirstItem nest b = if b == 93 then close nest false else if is_space b then Some (states.FirstItem, nest) else begin nest b
step states.FirstName nest b = if b == 125 then close nest true else with_nest nest (name states.FirstName b)
step states.Name nest b = with_nest nest (name states.Name b)
step states.Colon nest b = if b == 58 then Some (states.Value, nest) else if is_space b then Some (states.Colon, nest) else None
step states.After nest b = after nest b
step states.Minus nest b = counted states.Minus nest b
step states.Zero nest b = counted states.Zero nest b
step states.Digits nest b = counted states.Digits nest b
step states.Point nest b = counted states.Point nest b
step states.Fraction nest b = counted states.Fraction nest b
step states.Exponent nest b = counted states.Exponent nest b
step states.Sign nest b = counted states.Sign nest b
step states.Power nest b = counted states.Power nest b
step state nest b = with_nest nest (inside state b)

-- how many of the bytes can be there, behind n
abbrev pub place_by : Option (State × Nest) → ℕ → (ℕ → State → Nest → ℕ) → ℕ
place_by None n more = n
place_by (Some next) n more = more (suc n) next.0 next.1

-- how many of these bytes can be there, behind n others
abbrev pub place_from : List ℕ → ℕ → State → Nest → ℕ
place_from [] n state nest = n
place_from (b ∷ bs) n state nest = place_by (step state nest b) n (place_from bs)

-- how many bytes are the front of a JSON text
abbrev pub place_of : List ℕ → ℕ
place_of bytes = place_from bytes 0 states.Value []
