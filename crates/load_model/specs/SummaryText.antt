-- The text of a summary: four lines. (Own)
use Rattle.std.specs.Prelude.{List, [], ◌∷◌, ◌++◌, codes, decimal, map}
use Rattle.text_model.specs.Replies.{pots_words}
use Rattle.text_model.specs.Words.{Text, spaced}
use Rattle.load_model.specs.declared.summary.LoadSummary.{LoadSummary}

-- what the stream was made from
abbrev pub load_words : LoadSummary → List Text
load_words x =
    codes "load" ∷ codes "seed" ∷ decimal x.seed ∷ codes "accounts" ∷ decimal x.accounts ∷ codes "epochs" ∷ decimal x.epochs ∷ []

-- the counts of records, of accepted and refused ones, and of accepted blocks
abbrev pub record_words : LoadSummary → List Text
record_words x =
    codes "records" ∷ decimal x.records ∷ codes "accepted" ∷ decimal x.accepted ∷
    codes "refused" ∷ decimal x.refused ∷ codes "blocks" ∷ decimal x.blocks ∷
    []

-- how many tallies ended with each verdict
abbrev pub verdict_words : LoadSummary → List Text
verdict_words x =
    codes "ratified" ∷ decimal x.ratified ∷ codes "expired" ∷ decimal x.expired ∷ codes "waiting" ∷ decimal x.waiting ∷ []

-- a line without a number: its words with a space between each two, and a line feed
abbrev pub line_of_words : List Text → Text
line_of_words [] = 10 ∷ []
line_of_words (word ∷ words) = word ++ spaced words ++ 10 ∷ []

-- the four lines, as bytes
abbrev pub summary_lines : LoadSummary → List Text
summary_lines x =
    map line_of_words (load_words x ∷ record_words x ∷ verdict_words x ∷ pots_words (codes "pots") x.pots ∷ [])
