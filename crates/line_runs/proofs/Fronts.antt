-- Fronts of texts, and what more records add to what was played.
use Rattle.std.proofs.Common.{◌≡◌, ℕ, ◌+◌, ◌≤◌, List, [], ◌∷◌, ◌++◌, Option, Some, None, Result, Ok, Err, length, take, drop, refl, sym, ap, subst, ◌∙◌, append_assoc, arith}
use Rattle.std.specs.Prelude.{IsOk, fold, option_map}
use Rattle.std.specs.List.{cons_option}
use Rattle.std.specs.Io.KnownBytes.{append_known}
use Rattle.std.proofs.lemmas.List.{append-nil, length-append, take-append-drop}
use Rattle.std.proofs.lemmas.List.Sums.{fold-append}
use Rattle.line_runs.specs.Batches.{IsFront}
use Rattle.line_runs.specs.Plays.{Goes, Play, Played, Stops, Turn, after_turn, ended, played, records_from, with_record}

-- ---- fronts

pub front_self : (a : List ℕ) → IsFront a a
front_self a = ([], sym (append-nil a))

pub front_more : (a b c : List ℕ) → IsFront a b → IsFront b c → IsFront a c
front_more a b c first second = (
  first.0 ++ second.0,
  second.1 ∙ ap (λ (t : List ℕ). t ++ second.0) first.1 ∙ append_assoc a first.0 second.0,
)

pub front_length : (a b : List ℕ) → IsFront a b → length a ≤ length b
front_length a b front = let e : length b ≡ length a + length front.0 = ap length front.1 ∙ length-append a front.0 in omega (arith, e)

pub front_take : (n : ℕ) (a : List ℕ) → IsFront (take n a) a
front_take n a = (drop n a, sym (take-append-drop n a))

-- behind the same text
pub front_behind : (t a b : List ℕ) → IsFront a b → IsFront (t ++ a) (t ++ b)
front_behind t a b front = (front.0, ap (λ (x : List ℕ). t ++ x) front.1 ∙ sym (append_assoc t a front.0))

-- of two fronts of one text the shorter one is a front of the other
fronts : (a b r q : List ℕ) → a ++ r ≡ b ++ q → length a ≤ length b → IsFront a b
fronts [] b r q same shorter = (b, refl)
fronts (x ∷ a) [] r q same shorter = absurd (omega (arith, shorter))
fronts (x ∷ a) (y ∷ b) r q same shorter =
    let first : x ≡ y = cc in
    let others : a ++ r ≡ b ++ q = cc in
    let front = fronts a b r q others (omega (arith, shorter)) in
    (front.0, ap (λ (l : List ℕ). y ∷ l) front.1 ∙ ap (λ (z : ℕ). z ∷ a ++ front.0) (sym first))

pub front_of_front : (a b t : List ℕ) → IsFront a t → IsFront b t → length a ≤ length b → IsFront a b
front_of_front a b t first second shorter = fronts a b first.0 second.0 (sym first.1 ∙ second.1) shorter

-- ---- what was played

module _ {Said Stand Cause : Type 0} (p : Play Said Stand Cause) where
  turn_grows : (text : List ℕ) (t : Turn Stand Cause) → IsFront text (after_turn text t).text
  turn_grows text (Goes s more) = (more, refl)
  turn_grows text (Stops cause) = front_self text

  record_grows : (text : List ℕ) (stand : Result Stand Cause) (r : ℕ × Said) → IsFront text (with_record p (record { text = text; stand = stand }) r).text
  record_grows text (Ok s) r = turn_grows text (p.turn s r.0 r.1)
  record_grows text (Err cause) r = front_self text

  folded_grows : (x : Played Stand Cause) (rs : List (ℕ × Said)) → IsFront x.text (fold (with_record p) x rs).text
  folded_grows x [] = front_self x.text
  folded_grows x (r ∷ rs) = front_more x.text (with_record p x r).text _ (record_grows x.text x.stand r) (folded_grows (with_record p x r) rs)

  pub played_both : (s : Stand) (xs ys : List (ℕ × Said)) → played p s (xs ++ ys) ≡ fold (with_record p) (played p s xs) ys
  played_both s xs ys = fold-append (with_record p) (record { text = []; stand = Ok s }) xs ys

  pub text_grows : (s : Stand) (xs ys : List (ℕ × Said)) → IsFront (played p s xs).text (played p s (xs ++ ys)).text
  text_grows s xs ys = subst (λ (x : Played Stand Cause). IsFront (played p s xs).text x.text) (sym (played_both s xs ys)) (folded_grows (played p s xs) ys)

  -- a command that has stopped stays so
  stopped_stays : (text : List ℕ) (cause : Cause) (rs : List (ℕ × Said)) → fold (with_record p) (record { text = text; stand = Err cause }) rs ≡ record { text = text; stand = Err cause }
  stopped_stays text cause [] = refl
  stopped_stays text cause (r ∷ rs) = stopped_stays text cause rs

  pub stays_stopped : (s : Stand) (text : List ℕ) (cause : Cause) (xs ys : List (ℕ × Said)) → played p s xs ≡ record { text = text; stand = Err cause }
      → played p s (xs ++ ys) ≡ record { text = text; stand = Err cause }
  stays_stopped s text cause xs ys stopped =
      played_both s xs ys ∙ ap (λ (x : Played Stand Cause). fold (with_record p) x ys) stopped ∙ stopped_stays text cause ys

  -- one that goes on has not stopped before
  not_stopped : (text : List ℕ) (stand : Result Stand Cause) (rs : List (ℕ × Said)) → IsOk (fold (with_record p) (record { text = text; stand = stand }) rs).stand → IsOk stand
  not_stopped text (Ok s) rs goes = refl
  not_stopped text (Err cause) rs goes = subst (λ (x : Played Stand Cause). IsOk x.stand) (stopped_stays text cause rs) goes

  pub goes_before : (s : Stand) (xs ys : List (ℕ × Said)) → IsOk (played p s (xs ++ ys)).stand → IsOk (played p s xs).stand
  goes_before s xs ys goes =
      not_stopped (played p s xs).text (played p s xs).stand ys (subst (λ (x : Played Stand Cause). IsOk x.stand) (played_both s xs ys) goes)

  -- one record more
  pub one_more : (s t : Stand) (text : List ℕ) (xs : List (ℕ × Said)) (r : ℕ × Said) → played p s xs ≡ record { text = text; stand = Ok t }
      → played p s (xs ++ r ∷ []) ≡ after_turn text (p.turn t r.0 r.1)
  one_more s t text xs r stands = played_both s xs (r ∷ []) ∙ ap (λ (x : Played Stand Cause). with_record p x r) stands

  ended_grows : (n : ℕ) (text : List ℕ) (stand : Result Stand Cause) → IsFront text (ended p n (record { text = text; stand = stand })).text
  ended_grows n text (Ok s) = end_grows text (p.last s n) where
    end_grows : (t : List ℕ) (turn : Turn (Unit {0}) Cause) → IsFront t (after_turn t turn).text
    end_grows t (Goes s more) = (more, refl)
    end_grows t (Stops cause) = front_self t
  ended_grows n text (Err cause) = front_self text

  pub end_grows : (n : ℕ) (x : Played Stand Cause) → IsFront x.text (ended p n x).text
  end_grows n x = ended_grows n x.text x.stand

-- ---- what lines say

consed : {Said : Type 0} (o : Option (ℕ × Said)) (rs xs ys : List (ℕ × Said)) → rs ≡ xs ++ ys → cons_option o rs ≡ cons_option o xs ++ ys
consed None rs xs ys e = e
consed {Said} (Some r) rs xs ys e = ap (λ (l : List (ℕ × Said)). r ∷ l) e

pub records_both : {Said : Type 0} (says : Option (List ℕ) → Option Said) (n : ℕ) (xs ys : List (Option (List ℕ)))
    → records_from says n (xs ++ ys) ≡ records_from says n xs ++ records_from says (n + length xs) ys
records_both says n [] ys = ap (λ m. records_from says m ys) (omega arith)
records_both {Said} says n (x ∷ xs) ys =
    let rest : records_from says (n + 1) (xs ++ ys) ≡ records_from says (n + 1) xs ++ records_from says (n + length (x ∷ xs)) ys =
    records_both says (n + 1) xs ys ∙ ap (λ m. records_from says (n + 1) xs ++ records_from says m ys) (omega arith) in
    consed (option_map (λ r. (n, r)) (says x)) (records_from says (n + 1) (xs ++ ys)) (records_from says (n + 1) xs) (records_from says (n + length (x ∷ xs)) ys) rest

-- ---- what a sink took

pub took_both : (had : Option (List ℕ)) (a b : List ℕ) → append_known (append_known had a) b ≡ append_known had (a ++ b)
took_both None a b = refl
took_both (Some xs) a b = ap Some (append_assoc xs a b)

pub took_none : (had : Option (List ℕ)) → had ≡ append_known had []
took_none None = refl
took_none (Some xs) = ap Some (sym (append-nil xs))
