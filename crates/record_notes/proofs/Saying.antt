-- What a walk says, when nothing is to say, and by an equal list.
use Rattle.std.proofs.Common.{◌≡◌, List, [], OnOk, Result, append-nil, refl, subst, sym}
use Rattle.no_memory.specs.declared.NoMemory.{NoMemory}
use Rattle.record_notes.specs.Notes.{Said}
use Rattle.record_notes.specs.Seen.{HasSaid}
use Rattle.record_notes.specs.declared.walk.Walk.{Walk}

-- nothing was said
pub has_said_nothing : (w : Walk) (said : List Said) → said ≡ [] → HasSaid w w said
has_said_nothing w said none = subst (λ (s : List Said). HasSaid w w s) (sym none) (record { all = refl; path = refl; notes = sym (append-nil _) })

-- the same was said
pub has_said_same : (w w' : Walk) (r : Result (Unit {0}) NoMemory) (said said' : List Said) → said' ≡ said → OnOk r (HasSaid w w' said) → OnOk r (HasSaid w w' said')
has_said_same w w' r said said' same h = subst (λ (s : List Said). OnOk r (HasSaid w w' s)) (sym same) h
