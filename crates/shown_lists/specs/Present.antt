-- Entries of keys that have a value. (Own)
use Rattle.std.specs.Prelude.{List, Option, filter_map, option_map}

-- those keys that have one, each with it
abbrev pub present_entries : {K X : Type 0} → List (K × Option X) → List (K × X)
present_entries es = filter_map (λ e. option_map (λ x. (e.0, x)) e.1) es
