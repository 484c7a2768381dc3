-- `of` hides the type behind the pointer.
use Rattle.bpf_model.proofs.Prelude.{List, [], ◌∷◌, ◌++◌, refl, sym, subst, Val, vptr, Goes-blank, proved_at, Some, ghosts}
use base.Logic.{SProp, ent, id⊢}
use base.Fml.{ftrue}
use prog.Wp.{WpFn}
use types.Kit.{‵, ◌⊛◌, ◌$◌, ◌∵◌, !, qed, keep, fsplit, split, move, join, suffices, done, group}
use types.Run.{stop, fld, enter, of_opd, no_more, and_then, returns}
use types.ByLocal.{alloc_all, pass_all, free_all, look_at, get, get_in, sets}
use types.Part.{agg, sub, whole}
use contract.Running.{tables}
use denote.Exit.{yes}
use denote.RattleType.{RattleType, owns}
use denote.RawPtr.{block_ptr}
use denote.Signature.{types_at, plain}
use denote.Steps.{nothing}
use denote.Triple.Walked.{Stays, stay_dropped, walk_of, says, ends_at}
use Rattle.std.specs.contracts.alloc.Global as global
use Rattle.std.proofs.alloc.Global.TheLaws as heap_laws
use Rattle.host_handle.specs.contracts.held.Held as store
use Rattle.host_handle.proofs.BoxValues.{both, Parts, parts_good, parts_out}
use Rattle.host_handle.proofs.HandleValues.{word, handle_in}
use Rattle.host_handle.specs.contracts.raw_box.Handle.of as f
use Rattle.host_handle.proofs.raw_box.Handle.of.Statement.{statement}
use Rattle.host_handle.proofs.raw_box.Handle.of.Code as code

abbrev Z : RattleType
Z = global.the_row

abbrev Lo : RattleType
Lo = Parts store.the_row Z heap_laws.the_row_laws ghosts

abbrev stayed : Stays f.ended.signature.params f.ended.kept
stayed = (stay_dropped (plain (λ _. Lo)) yes, tt)

pub of_spec : {M : Type 1} → statement M
unfolding Rattle.host_handle.specs.Held.holds
of_spec 𝓤 𝓛 𝓜 𝓡 wired =
    let c = f.clauses 𝓛 𝓜.mem 𝓡.returns in let 𝓣 = tables 𝓤 𝓛.H 𝓜 𝓡 𝓡.env in
    proved_at 𝓛 f.ended stayed c 𝓜 𝓡 (
      Goes-blank 𝓛 0 (plain (λ _. Lo)) yes (λ κs x w. tt),
      tt,
    ) f.Key.name code.function (code.unfolded 𝓤 𝓛.H 𝓜 𝓡 wired) (λ z are.
    let v = z.0.3.0 in let Post : Val → SProp 𝓤 = (walk_of 𝓛 f.ended stayed c).post z
    in let Run : List Val → SProp 𝓤 = λ ws. WpFn 𝓤 𝓛.H 𝓣.C 𝓣.Λ code.function ws Post in
    qed 𝓛 ((‵ ftrue ⊛ ‵ (owns (types_at f.ended.signature.params z.0.0) z.0.3 z.0.4)) ∷ ‵ ftrue ∷ []) ∵ split ! $ move ! (1 ∷ []) $ fsplit ! $
    parts_out store.the_row Z heap_laws.the_row_laws ghosts ! v z.0.4.0 (λ b o h e ws fits.
    let w : Val = both (vptr b o) h in let typed = parts_good store.the_row Z heap_laws.the_row_laws ghosts b o h fits in
    suffices ! (Run (w ∷ [])) (subst (λ (us : List Val). ent 𝓤 (Run (w ∷ [])) (Run us)) (sym (λ i. ws i ++ [])) (id⊢ 𝓤 (Run (w ∷ [])))) $
    enter ! 𝓣.C 𝓣.Λ code.function (w ∷ []) Post $ alloc_all ! (λ l. pass_all ! refl (typed, tt) $
    sets ! (of_opd ! (get_in ! (fld ! refl (stop !)) (sub ! 0 refl (whole !)))) refl (tt, tt) $
    sets ! (of_opd ! (get ! refl)) refl (tt, tt) $
    sets ! (agg ! (and_then ! (get ! refl) (no_more !))) refl (tt, (tt, tt)) $
    returns ! (look_at ! 0 refl) $ free_all ! refl $ keep ! (0 ∷ []) $
    handle_in ! (block_ptr b o) (Some v.value) $
    suffices ! _ (ends_at 𝓛 f.ended stayed c z (word (block_ptr b o)) (record { at = block_ptr b o; held = Some v.value }) (tt, tt) (tt, tt)) $ says ! refl $
    nothing ! $ nothing ! $ join ! $ nothing ! $ group ! 3 $ done !)))
