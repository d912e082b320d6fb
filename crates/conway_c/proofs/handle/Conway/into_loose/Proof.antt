-- `into_loose` compares the pointer with null: there the handle owns nothing, else what a `Loose` owns.
use Rattle.std.proofs.Common.{◌≡◌, List, [], ◌∷◌, ◌++◌, refl, sym, subst, lit<}
use mir.Val.{Val, vptr, vnull, vcons, vnil}
use base.Logic.{SProp, ent, emp, id⊢}
use base.Fml.{ftrue, fsep}
use prog.Wp.{WpFn}
use types.Kit.{‵, raw, ◌⊛◌, at_ret, ◌$◌, ◌∵◌, !, qed, keep, drop, split, join, fsplit, fjoin, suffices, use0, use1, done}
use types.Run.{stop, fld, lit, of_opd, bin, no_more, and_then, first, branches, exec, returns, enter}
use types.ByLocal.{alloc_all, pass_all, free_all, look_at, get, get_in, sets, sets_last, env}
use types.Part.{agg, sub, whole}
use types.Match.{live}
use contract.Running.{tables}
use denote.Exit.{yes}
use denote.RattleType.{RattleType}
use denote.Signature.{type_at, plain}
use denote.RawPtr.{Ptr, block_ptr, ptr_val, tests_null}
use denote.Steps.{nothing}
use denote.Param.{layout}
use denote.Triple.Walked.{says, Stays, stay_dropped, walk_of, ends_at, Goes-dropped}
use Rattle.std.specs.declared.option.Option.TheVariants.{None, Some}
use Rattle.std.proofs.Shapes.{after}
use Rattle.std.proofs.cell.Inside.{Good}
use Rattle.std.proofs.option.Made.{Some-of, none_of}
use Rattle.std.proofs.alloc.Global.TheLaws as heap_laws
use Rattle.std.specs.contracts.impls.GlobalAllocator.TheImpl.{ghosts}
use Rattle.std.proofs.ResultValues.{and_tt}
use Rattle.std.proofs.raw_atomic.Walks.{proved_at}
use Rattle.conway_c.proofs.Values.{both, Loose, loose_good, loose_in, Z, null_good, handle_out, either_owned}
use Rattle.conway_c.specs.contracts.ledger.Ledger.{the_row as R}
use Rattle.conway_c.specs.contracts.handle.Conway as handle
use Rattle.conway_c.specs.contracts.handle.Conway.into_loose as F
use Rattle.conway_c.specs.contracts.handle.Conway.into_loose.Key.{name as #self}
use Rattle.conway_c.proofs.handle.Conway.into_loose.Statement.{statement}
use Rattle.conway_c.proofs.handle.Conway.into_loose.Code as code

abbrev stayed : Stays F.ended.signature.params F.ended.kept
stayed = (stay_dropped (plain (λ _. handle.the_row)) yes, tt)

pub into_loose_spec : {M : Type 1} → statement M
into_loose_spec 𝓤 𝓛 𝓜 𝓡 wired =
    let H = 𝓛.H in let 𝓣 = tables 𝓤 H 𝓜 𝓡 𝓡.env in let c = F.clauses 𝓛 𝓜.mem 𝓡.returns in let fn = code.function in let LZ = heap_laws.the_row_laws in
    let Lr : RattleType = Loose R Z LZ ghosts in
    proved_at 𝓛 F.ended stayed c 𝓜 𝓡 (Goes-dropped 𝓛 0 (plain (λ _. handle.the_row)) yes (λ κs x f. refl), tt) #self fn (code.unfolded 𝓤 H 𝓜 𝓡 wired) (λ z are.
    let Post : Val → SProp 𝓤 = (walk_of 𝓛 F.ended stayed c).post z in let Run : List Val → SProp 𝓤 = λ ws. WpFn 𝓤 H 𝓣.C 𝓣.Λ fn ws Post in
    let d = z.0.3.0 in let Out : RattleType = type_at F.ended.signature.result z.0.0 in
    qed 𝓛 ((‵ ftrue ⊛ ‵ (fsep (handle.the_row.own_val d z.0.4.0) ftrue)) ∷ raw (emp 𝓤) ∷ []) ∵ split ! $ drop ! $ fsplit ! $ keep ! (0 ∷ []) $
    handle_out ! d z.0.4.0 (λ h ws fits. either_owned ! d.alloc d.at d.value
    (λ e none. let w : Val = both vnull h in let null_fits : Good mir.Syntax.ty_ptr vnull = (tt, record { fits = lit< tt }) in let is : z.0.4.0 ≡ w ∷ [] = subst (λ (p : Ptr). z.0.4.0 ≡ both (ptr_val p) h ∷ []) e ws in
    suffices ! (Run (w ∷ [])) (subst (λ (us : List Val). ent 𝓤 (Run (w ∷ [])) (Run us)) (sym (λ i. is i ++ [])) (id⊢ 𝓤 (Run (w ∷ [])))) $
    enter ! 𝓣.C 𝓣.Λ fn (w ∷ []) Post $ alloc_all ! (λ l. pass_all ! refl (null_good h fits, tt) $ let Ev = env fn.locals l in
    sets ! (of_opd ! (get_in ! (fld ! refl (stop !)) (sub ! 0 refl (whole !)))) refl null_fits $ sets ! (of_opd ! (get_in ! (fld ! refl (stop !)) (sub ! 1 refl (whole !)))) refl fits $
    sets ! (bin ! (get ! refl) (lit ! tt) tt) refl (tt, tt) $ first ! $ branches ! (get ! refl)
    (λ _. sets_last ! (agg ! (and_then ! (lit ! tt) (no_more !))) refl (tt, (record { fits = lit< tt }, tt)) $ exec ! 𝓣.C 𝓣.Λ Ev (after 4 fn.body) (at_ret Ev Post) $ sets ! (of_opd ! (get ! refl)) refl (tt, (record { fits = lit< tt }, tt)) $
    use0 𝓛 (‵ (Out.own_val None (live 0 vnil ∷ []))) (none_of 𝓛 Lr) $
    returns ! (look_at ! 0 refl) $ free_all ! refl $ keep ! (0 ∷ []) $
    suffices ! _ (ends_at 𝓛 F.ended stayed c z (live 0 vnil) None (tt, tt) (tt, tt)) $ says ! none $
    nothing ! $ nothing ! $ fjoin ! $ join ! $ nothing ! $ join ! $ done !) (λ wrong. absurd wrong)))
    (λ b o x e some t. let w : Val = both (vptr b o) h in let is : z.0.4.0 ≡ w ∷ [] = subst (λ (p : Ptr). z.0.4.0 ≡ both (ptr_val p) h ∷ []) e ws in
    let typed = loose_good R Z LZ ghosts b o h fits in let v₁ : Val = live 1 (vcons w vnil) in let made : Lr.Denot = record { at = block_ptr b o; alloc = d.alloc; value = x } in
    let good : Good (layout Out) v₁ = (and_tt _ typed.0, (record { fits = lit< tt }, (typed.1, tt))) in
    suffices ! (Run (w ∷ [])) (subst (λ (us : List Val). ent 𝓤 (Run (w ∷ [])) (Run us)) (sym (λ i. is i ++ [])) (id⊢ 𝓤 (Run (w ∷ [])))) $
    enter ! 𝓣.C 𝓣.Λ fn (w ∷ []) Post $ alloc_all ! (λ l. pass_all ! refl (typed, tt) $ let Ev = env fn.locals l in
    sets ! (of_opd ! (get_in ! (fld ! refl (stop !)) (sub ! 0 refl (whole !)))) refl (tt, tt) $ sets ! (of_opd ! (get_in ! (fld ! refl (stop !)) (sub ! 1 refl (whole !)))) refl fits $
    sets ! (bin ! (get ! refl) (lit ! tt) (tests_null (block_ptr b o) t)) refl (tt, tt) $ first ! $ branches ! (get ! refl) (λ wrong. absurd wrong)
    (λ _. sets ! (of_opd ! (get ! refl)) refl (tt, tt) $ sets ! (agg ! (and_then ! (get ! refl) (and_then ! (get ! refl) (no_more !)))) refl typed $ sets_last ! (agg ! (and_then ! (lit ! tt) (and_then ! (get ! refl) (no_more !)))) refl good $
    exec ! 𝓣.C 𝓣.Λ Ev (after 4 fn.body) (at_ret Ev Post) $ sets ! (of_opd ! (get ! refl)) refl good $ returns ! (look_at ! 0 refl) $ free_all ! refl $
    loose_in R Z LZ ghosts ! b o h d.alloc x $ use1 𝓛 (‵ (Out.own_val (Some made) (v₁ ∷ []))) (Some-of 𝓛 Lr made w) $ keep ! (0 ∷ []) $
    suffices ! _ (ends_at 𝓛 F.ended stayed c z v₁ (Some made) (tt, tt) (tt, tt)) $ says ! some $
    nothing ! $ nothing ! $ fjoin ! $ join ! $ nothing ! $ join ! $ done !)))))
