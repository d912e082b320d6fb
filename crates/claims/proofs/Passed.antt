-- A pass that looks at some proposals and then at others.
use Rattle.std.proofs.Common.{◌≡◌, ℕ, List, [], ◌∷◌, ◌++◌, Result, Ok, Err, IfOk, refl, ap, sym, subst, ◌∙◌, append_assoc}
use Rattle.std.specs.Result.{IsErrAnd}
use Rattle.std.proofs.lemmas.List.{append-nil}
use Rattle.byte_lines.specs.declared.sink.SinkFault.{SinkFault}
use Rattle.byte_lines.specs.declared.sink.SinkFault.TheVariants.{NoMemory}
use Rattle.certificate_model.specs.Certificate.{claim_of_proposal}
use Rattle.claims.specs.Blocks.{IsPassed, blocks_from, done_of}
use Rattle.gov_actions.specs.declared.action.Proposal.{Proposal}
use Rattle.gov_model.specs.Snapshot.{Snapshot}
use Rattle.ratify.specs.declared.passing.Passing.{Passing}
use Rattle.ratify.specs.Passes.{passing_after, tally_after}
use Rattle.report.specs.Taking.{HasPut}
use Rattle.report.proofs.Handed.{put_as, put_both, put_front, put_nothing, nothing}
use Rattle.text_model.specs.Words.{Text}

-- a fault is not a value
pub fault_done : {A E : Type 0} (r : Result A E) (P : E → Type 0) → IsErrAnd r P → IsErrAnd (done_of r) P
fault_done (Ok x) P is = is
fault_done (Err e) P is = is

pub fault_not_ok : {A E : Type 0} (r : Result A E) (P : E → Type 0) (Q : A → Type 0) → IsErrAnd r P → IfOk r Q
fault_not_ok (Ok x) P Q is = absurd is
fault_not_ok (Err e) P Q is = tt

-- the lines of proposals after a front, and of others after these
blocks_both : (s : Snapshot) (front xs ys : List Proposal) → blocks_from s front (xs ++ ys) ≡ blocks_from s front xs ++ blocks_from s (front ++ xs) ys
blocks_both s front [] ys = ap (λ (l : List Proposal). blocks_from s l ys) (sym (append-nil front))
blocks_both s front (x ∷ xs) ys =
    let first : List (List Text) = claim_of_proposal s (x, tally_after s (front, x)) in
    ap (λ (l : List (List Text)). first ++ l) (blocks_both s (front ++ x ∷ []) xs ys ∙ ap (λ (l : List Proposal). blocks_from s (front ++ x ∷ []) xs ++ blocks_from s l ys) (append_assoc front (x ∷ []) xs))
    ∙ sym (append_assoc first (blocks_from s (front ++ x ∷ []) xs) (blocks_from s (front ++ x ∷ xs) ys))

module _ {T : Type 0} {add : T → Text → T} {IsPart : T → Text → T → Type 0} {n : ℕ} (s : Snapshot) where
  -- proposals that are known as others
  pub passed_as : {t t' : T} {f f' : ℕ} {p : Passing} {r : Result Passing SinkFault} {xs ys : List Proposal} → xs ≡ ys → IsPassed add IsPart n t t' f f' s p xs r → IsPassed add IsPart n t t' f f' s p ys r
  passed_as {t} {t'} {f} {f'} {p} {r} is h = subst (λ (l : List Proposal). IsPassed add IsPart n t t' f f' s p l r) is h

  -- none
  pub passed_none : (t : T) (f : ℕ) (p : Passing) → IsPassed add IsPart n t t f f s p [] (Ok p)
  passed_none t f p = record {
    put = λ front before. nothing refl;
    after = λ front before. before ∙ ap (passing_after s) (sym (append-nil front));
  }

  -- some, and then others
  pub passed_both : {t t' t'' : T} {f f' f'' : ℕ} {p q : Passing} {r : Result Passing SinkFault} {xs ys zs : List Proposal} → zs ≡ xs ++ ys
      → IsPassed add IsPart n t t' f f' s p xs (Ok q) → IsPassed add IsPart n t' t'' f' f'' s q ys r → IsPassed add IsPart n t t'' f f'' s p zs r
  passed_both {t} {t'} {t''} {f} {f'} {f''} {p} {q} {r} {xs} {ys} {zs} is first later = passed_as (sym is) (record {
    put = λ front before. put_both (blocks_both s front xs ys) (first.put front before) (later.put (front ++ xs) (first.after front before));
    after = λ front before. subst (λ (l : List Proposal). IfOk r (λ q. q ≡ passing_after s l)) (append_assoc front xs ys) (later.after (front ++ xs) (first.after front before));
  })

  -- no more than a front of the first
  pub passed_front : {t t' : T} {f f' : ℕ} {p : Passing} {e : SinkFault} {r : Result Passing SinkFault} {xs zs : List Proposal} (ys : List Proposal) → zs ≡ xs ++ ys
      → IsPassed add IsPart n t t' f f' s p xs (Err e) → IsErrAnd r (λ x. x ≡ e) → IsPassed add IsPart n t t' f f' s p zs r
  passed_front {t} {t'} {f} {f'} {p} {e} {r} {xs} {zs} ys is first fault = passed_as (sym is) (record {
    put = λ front before. put_front (blocks_from s (front ++ xs) ys) (blocks_both s front xs ys) (first.put front before) (fault_done r (λ x. x ≡ e) fault);
    after = λ front before. fault_not_ok r (λ x. x ≡ e) (λ q. q ≡ passing_after s (front ++ (xs ++ ys))) fault;
  })

  -- one proposal, by its lines
  pub passed_one : {t t' : T} {f f' : ℕ} {p : Passing} {r : Result Passing SinkFault} (a : Proposal)
      → ((front : List Proposal) → p ≡ passing_after s front → HasPut add IsPart n t (claim_of_proposal s (a, tally_after s (front, a))) t' f f' (done_of r))
      → ((front : List Proposal) → p ≡ passing_after s front → IfOk r (λ q. q ≡ passing_after s (front ++ a ∷ [])))
      → IsPassed add IsPart n t t' f f' s p (a ∷ []) r
  passed_one {t} {t'} {f} {f'} {p} {r} a put after = record {
    put = λ front before. put_as (sym (append-nil (claim_of_proposal s (a, tally_after s (front, a))))) (put front before);
    after = after;
  }

  -- nothing was handed over, since memory ran out
  pub passed_nothing : (t : T) (f : ℕ) (p : Passing) {r : Result Passing SinkFault} (more : List Proposal) → IsErrAnd r (λ x. x ≡ NoMemory) → IsPassed add IsPart n t t f f s p more r
  passed_nothing t f p {r} more fault = record {
    put = λ front before. put_nothing (blocks_from s front more) t f (fault_done r (λ x. x ≡ NoMemory) fault);
    after = λ front before. fault_not_ok r (λ x. x ≡ NoMemory) (λ q. q ≡ passing_after s (front ++ more)) fault;
  }
