-- With what the lines of each group begin, and which lines may follow them. (Own)
use Rattle.std.specs.Prelude.{Bool, true, false, List, [], ◌∷◌, codes}
use Rattle.text_model.specs.Words.{Text}
use Rattle.line_parts.specs.Shapes.{Shape}

-- from the first line to the last enacted ids
abbrev pub governance_shape : Shape
governance_shape = record { starts = codes "checkpoint " ∷ []; stops = []; is_optional = false; is_firm = false; fits = true }

-- the books, any of which may have no lines
abbrev pub book_shape : Shape
book_shape = record {
  starts = codes "drep " ∷ codes "pool " ∷ codes "account " ∷ codes "output " ∷ codes "proposal " ∷ [];
  stops = codes "proposal " ∷ codes "vote " ∷ codes "output " ∷ codes "asset " ∷ codes "account " ∷ codes "pool " ∷ codes "next " ∷ codes "drep " ∷ [];
  is_optional = true;
  is_firm = true;
  fits = true;
}

-- the stakes of pools, and the noted fees
abbrev pub stake_shape : Shape
stake_shape = record {
  starts = codes "snapshot mark " ∷ codes "snapshot set " ∷ codes "snapshot go " ∷ codes "snapshot fees " ∷ [];
  stops = [];
  is_optional = false;
  is_firm = false;
  fits = true;
}

-- what is pending, the pots, and any number of used ids
abbrev pub amount_shape : Shape
amount_shape = record { starts = codes "pending " ∷ []; stops = codes "used " ∷ []; is_optional = false; is_firm = false; fits = true }

-- what is frozen, and the end
abbrev pub frozen_shape : Shape
frozen_shape = record { starts = codes "frozen treasury " ∷ []; stops = []; is_optional = false; is_firm = false; fits = true }
