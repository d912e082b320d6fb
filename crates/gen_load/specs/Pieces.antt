-- A piece of a line, as the program writes it. (Own)
use Rattle.std.specs.Prelude.{ℕ, List, [], ◌∷◌, codes}
use Rattle.load_model.specs.Json.{joined}
use Rattle.load_model.specs.Names.{hash28}

-- the registration of an account up to its DRep
abbrev pub cert_begun : ℕ → List ℕ
cert_begun account = joined (
    codes "{\"cert\":\"account-reg\",\"cred\":\"k" ∷ hash28 account ∷
    codes "\",\"pool\":\"" ∷ hash28 50 ∷ codes "\",\"drep\":\"" ∷ [])
