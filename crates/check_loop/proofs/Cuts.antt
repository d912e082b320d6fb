-- Lines that are cut into texts, and the answers to these.
use Rattle.std.proofs.Common.{◌≡◌, ◌⊎◌, ℕ, ◌+◌, suc, ◌++◌, ◌||◌, Bool, true, false, cond, List, [], ◌∷◌, Option, Some, None, drop, filter, length, map, refl, ap, sym, ◌∙◌, subst, arith, append-nil, append_assoc}
use Rattle.std.specs.List.{AllZip, onto_first}
use Rattle.std.proofs.lemmas.Bool.{false≢true, or_parts}
use Rattle.std.proofs.lemmas.List.Elements.{filter-append}
use Rattle.certificate_model.specs.Checked.{answer_text, answers_text, certificates_in, is_end}
use Rattle.ended_lines.specs.Ended.{has_end, is_end_line, up_to_end}
use Rattle.ended_source.specs.Ended.{IsClosed}
use Rattle.text_model.specs.Words.{line_of}
use Rattle.check_loop.specs.Texts.{ended_texts, texts_in}

-- ---- one text

-- a text with its `end`, and whatever follows, by whether the first line is the `end`
closed_by : (b : Bool) (l : Option (List ℕ)) (ls more : List (Option (List ℕ))) → cond b (l ∷ []) (l ∷ up_to_end ls) ≡ l ∷ ls → (b || has_end ls) ≡ true
    → (up_to_end ls ≡ ls → has_end ls ≡ true → texts_in (ls ++ more) ≡ ls ∷ texts_in more)
    → cond b ((l ∷ []) ∷ texts_in (ls ++ more)) (onto_first l (texts_in (ls ++ more))) ≡ (l ∷ ls) ∷ texts_in more
closed_by true l ls more front has later =
    let none : [] ≡ ls = ap (λ (t : List (Option (List ℕ))). drop 1 t) front in
    subst (λ (t : List (Option (List ℕ))). (l ∷ []) ∷ texts_in (t ++ more) ≡ (l ∷ t) ∷ texts_in more) none refl
closed_by false l ls more front has later = ap (onto_first l) (later (ap (λ (t : List (Option (List ℕ))). drop 1 t) front) has)

-- a text with its `end`, and whatever follows
texts_closed : (text more : List (Option (List ℕ))) → up_to_end text ≡ text → has_end text ≡ true → texts_in (text ++ more) ≡ text ∷ texts_in more
texts_closed [] more front has = absurd (false≢true has)
texts_closed (l ∷ ls) more front has = closed_by (is_end_line l) l ls more front has (texts_closed ls more)

-- lines as one text, if there are any
abbrev one_text : List (Option (List ℕ)) → List (List (Option (List ℕ)))
one_text [] = []
one_text (l ∷ ls) = (l ∷ ls) ∷ []

onto_one : (l : Option (List ℕ)) (ls : List (Option (List ℕ))) → onto_first l (one_text ls) ≡ (l ∷ ls) ∷ []
onto_one l [] = refl
onto_one l (m ∷ ms) = refl

-- lines, none of which is `end`
texts_open : (text : List (Option (List ℕ))) → has_end text ≡ false → texts_in text ≡ one_text text
texts_open [] none = refl
texts_open (l ∷ ls) none =
    let parts = or_parts (is_end_line l) (has_end ls) none in
    rw parts.0 (ap (onto_first l) (texts_open ls parts.1) ∙ onto_one l ls)

one_is : (text : List (Option (List ℕ))) → (text ≡ [] → ⊥) → one_text text ≡ text ∷ []
one_is [] some = absurd (some refl)
one_is (l ∷ ls) some = refl

ended_open : (text : List (Option (List ℕ))) → has_end text ≡ false → filter has_end (one_text text) ≡ []
ended_open [] none = refl
ended_open (l ∷ ls) none = ap (λ (b : Bool). cond b ((l ∷ ls) ∷ []) []) none

-- ---- all texts

-- lines are these texts, each with its `end`
pub record IsCut (given : List (Option (List ℕ))) (texts : List (List (Option (List ℕ)))) : Type 0 where
  pub cut : (more : List (Option (List ℕ))) → texts_in (given ++ more) ≡ texts ++ texts_in more
  pub ends : filter has_end texts ≡ texts

pub cut_none : IsCut [] []
cut_none = record { cut = λ more. refl; ends = refl }

pub cut_more : {given : List (Option (List ℕ))} {texts : List (List (Option (List ℕ)))} (text : List (Option (List ℕ))) → IsCut given texts → IsClosed text → IsCut (given ++ text) (texts ++ text ∷ [])
cut_more {given} {texts} text c closed = record {
  cut = λ more.
      ap texts_in (append_assoc given text more)
      ∙ c.cut (text ++ more)
      ∙ ap (λ (t : List (List (Option (List ℕ)))). texts ++ t) (texts_closed text more closed.front closed.has)
      ∙ sym (append_assoc texts (text ∷ []) (texts_in more));
  ends =
      filter-append has_end texts (text ∷ [])
      ∙ ap (λ (t : List (List (Option (List ℕ)))). t ++ filter has_end (text ∷ [])) c.ends
      ∙ ap (λ (b : Bool). texts ++ cond b (text ∷ []) []) closed.has;
}

pub cut_all : {given : List (Option (List ℕ))} {texts : List (List (Option (List ℕ)))} → IsCut given texts → texts_in given ≡ texts
cut_all {given} {texts} c = ap texts_in (sym (append-nil given)) ∙ c.cut [] ∙ append-nil texts

-- one text more without an `end`
pub cut_last : {given : List (Option (List ℕ))} {texts : List (List (Option (List ℕ)))} (text : List (Option (List ℕ))) → IsCut given texts → has_end text ≡ false → (text ≡ [] → ⊥) → texts_in (given ++ text) ≡ texts ++ text ∷ []
cut_last {given} {texts} text c none some = c.cut text ∙ ap (λ (t : List (List (Option (List ℕ)))). texts ++ t) (texts_open text none ∙ one_is text some)

-- the texts with an `end` among more lines
pub ended_front : {given : List (Option (List ℕ))} {texts : List (List (Option (List ℕ)))} (more : List (Option (List ℕ))) → IsCut given texts → ended_texts (given ++ more) ≡ texts ++ ended_texts more
ended_front {given} {texts} more c =
    ap (filter has_end) (c.cut more)
    ∙ filter-append has_end texts (texts_in more)
    ∙ ap (λ (t : List (List (Option (List ℕ)))). t ++ ended_texts more) c.ends

pub ended_all : {given : List (Option (List ℕ))} {texts : List (List (Option (List ℕ)))} (text : List (Option (List ℕ))) → IsCut given texts → has_end text ≡ false → ended_texts (given ++ text) ≡ texts
ended_all {given} {texts} text c none =
    ended_front text c
    ∙ ap (λ (t : List (List (Option (List ℕ)))). texts ++ filter has_end t) (texts_open text none)
    ∙ ap (λ (t : List (List (Option (List ℕ)))). texts ++ t) (ended_open text none)
    ∙ append-nil texts

-- ---- the answers

-- one answer more
pub zip_more : {A B : Type 0} (R : A → B → Type 0) (xs : List A) (ys : List B) (x : A) (y : B) → AllZip R xs ys → R x y → AllZip R (xs ++ x ∷ []) (ys ++ y ∷ [])
zip_more R [] [] x y all one = (one, tt)
zip_more R [] (b ∷ bs) x y all one = absurd all
zip_more R (a ∷ as_) [] x y all one = absurd all
zip_more R (a ∷ as_) (b ∷ bs) x y all one = (all.0, zip_more R as_ bs x y all.1 one)

pub answers_more : (n : ℕ) (bs : List Bool) (b : Bool) → answers_text n (bs ++ b ∷ []) ≡ answers_text n bs ++ line_of (n + length bs) (answer_text b ∷ [])
answers_more n [] b =
    let same : n ≡ n + 0 = omega arith in
    append-nil (line_of n (answer_text b ∷ [])) ∙ ap (λ (k : ℕ). line_of k (answer_text b ∷ [])) same
answers_more n (c ∷ cs) b =
    let same : n + 1 + length cs ≡ n + suc (length cs) = omega arith in
    ap (λ (t : List ℕ). line_of n (answer_text c ∷ []) ++ t) (answers_more (n + 1) cs b)
    ∙ sym (append_assoc (line_of n (answer_text c ∷ [])) (answers_text (n + 1) cs) (line_of (n + 1 + length cs) (answer_text b ∷ [])))
    ∙ ap (λ (k : ℕ). (line_of n (answer_text c ∷ []) ++ answers_text (n + 1) cs) ++ line_of k (answer_text b ∷ [])) same

-- ---- texts of whole lines

onto_map : (l : List ℕ) (cs : List (List (List ℕ))) → onto_first (Some l) (map (map Some) cs) ≡ map (map Some) (onto_first l cs)
onto_map l [] = refl
onto_map l (c ∷ cs) = refl

by_end : (b : Bool) (l : List ℕ) (ts : List (List (Option (List ℕ)))) (cs : List (List (List ℕ))) → ts ≡ map (map Some) cs
    → cond b ((Some l ∷ []) ∷ ts) (onto_first (Some l) ts) ≡ map (map Some) (cond b ((l ∷ []) ∷ cs) (onto_first l cs))
by_end true l ts cs is = ap (λ (t : List (List (Option (List ℕ)))). (Some l ∷ []) ∷ t) is
by_end false l ts cs is = ap (onto_first (Some l)) is ∙ onto_map l cs

pub are_certificates : (lines : List (List ℕ)) → texts_in (map Some lines) ≡ map (map Some) (certificates_in lines)
are_certificates [] = refl
are_certificates (l ∷ ls) = by_end (is_end l) l (texts_in (map Some ls)) (certificates_in ls) (are_certificates ls)
