-- What is told of text that is gathered.
use Rattle.std.proofs.Common.{◌≡◌, ◌+◌, Bool, true, false, List, [], ◌++◌, ℕ, Option, length, take, refl, sym, ap, subst, ◌∙◌}
use Rattle.std.specs.Prelude.{nat_lt, if◌then◌else◌}
use Rattle.std.specs.Io.KnownBytes.{append_known}
use Rattle.std.proofs.lemmas.List.{append-nil}
use Rattle.line_runs.specs.declared.batch.TheConstants.{BATCH_LIMIT}
use Rattle.line_runs.specs.Batches.{Gathered, IsFront, TellsAll, TellsPart, with_gathered}
use Rattle.line_runs.proofs.Fronts.{front_behind, front_more, front_take, took_both, took_none}

-- a line is told, whether there was room for it or not
pub line_told : (g : Gathered) (line : List ℕ) → TellsAll g.taken (with_gathered g line).taken g.batch (with_gathered g line).batch line
line_told g line =
    elim (nat_lt BATCH_LIMIT (length g.batch + length line)) as (λ (b : Bool). let h : Gathered = if b then record { taken = append_known g.taken g.batch; batch = line } else record { taken = g.taken; batch = g.batch ++ line } in TellsAll g.taken h.taken g.batch h.batch line) [
      | true ↦ record { handed = g.batch; took = refl; all = refl }
      | false ↦ record { handed = []; took = took_none g.taken; all = refl }
    ]

-- all was handed over, and then a text
pub all_after : (taken mid taken' : Option (List ℕ)) (batch batch' text : List ℕ) → mid ≡ append_known taken batch → taken' ≡ append_known mid text → batch' ≡ [] → TellsAll taken taken' batch batch' text
all_after taken mid taken' batch batch' text first second none = record {
  handed = batch ++ text;
  took = second ∙ ap (λ (t : Option (List ℕ)). append_known t text) first ∙ took_both taken batch text;
  all = ap (λ (t : List ℕ). (batch ++ text) ++ t) none ∙ append-nil (batch ++ text);
}

-- or a front of it
pub part_after : (taken mid taken' : Option (List ℕ)) (batch batch' text : List ℕ) (k : ℕ) → mid ≡ append_known taken batch → taken' ≡ append_known mid (take k text) → batch' ≡ []
    → TellsPart taken taken' batch batch' text
part_after taken mid taken' batch batch' text k first second none =
    let whole = all_after taken mid taken' batch batch' (take k text) first second none in
    let front = front_take k text in record {
      handed = whole.handed;
      took = whole.took;
      front = subst (λ (t : List ℕ). IsFront t (batch ++ text)) (sym whole.all) (front_behind batch (take k text) text front);
    }

-- a front of what was gathered was handed over
pub part_before : (taken taken' : Option (List ℕ)) (batch batch' text : List ℕ) (n : ℕ) → taken' ≡ append_known taken (take n batch) → batch' ≡ [] → TellsPart taken taken' batch batch' text
part_before taken taken' batch batch' text n took none = record {
  handed = take n batch;
  took = took;
  front = subst (λ (t : List ℕ). IsFront (take n batch ++ t) (batch ++ text)) (sym none)
      (subst (λ (t : List ℕ). IsFront t (batch ++ text)) (sym (append-nil (take n batch))) (front_more (take n batch) batch (batch ++ text) (front_take n batch) (text, refl)));
}
