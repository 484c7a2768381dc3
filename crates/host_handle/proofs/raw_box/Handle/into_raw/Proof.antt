-- `into_raw` shows the type behind the pointer.
use Rattle.bpf_model.proofs.Prelude.{◌∙◌, ap, List, [], ◌∷◌, ◌++◌, refl, sym, subst, impl, tnil, dnil, Val, vptr, Goes-blank, handle_tells, proved_at, IsSome}
use Rattle.bpf_model.proofs.Prelude.{box_owns, ghosts}
use base.Logic.{SProp, ent, id⊢, fst∗, never}
use base.Fml.{ftrue}
use mir.Raw.{raw as bare}
use prog.Wp.{WpFn}
use types.Logic.{sem}
use types.Kit.{‵, raw, ◌⊛◌, ◌$◌, ◌∵◌, !, qed, keep, fsplit, split, move, join, suffices, done, group}
use types.Run.{stop, fld, enter, of_opd, no_more, and_then, returns}
use types.ByLocal.{alloc_all, pass_all, free_all, look_at, get, get_in, sets}
use types.Part.{agg, sub, whole}
use contract.Monad.{fact}
use contract.Running.{tables}
use denote.Exit.{yes}
use denote.Memory.{lone}
use denote.RattleType.{RattleType, owns}
use denote.RawPtr.{Ptr, block_ptr, null_ptr, in_a_block}
use denote.Signature.{types_at, plain}
use denote.Steps.{nothing, heard}
use denote.Triple.Walked.{Stays, stay_dropped, walk_of, says, ends_at}
use Rattle.std.specs.contracts.alloc.Global as global
use Rattle.std.proofs.alloc.Global.TheLaws as heap_laws
use Rattle.host_handle.specs.contracts.held.Held as store
use Rattle.host_handle.proofs.BoxValues.{both, parts_good, parts_in}
use Rattle.host_handle.proofs.HandleValues.{Row, word, handle_out, held_out}
use Rattle.host_handle.specs.contracts.raw_box.Handle.into_raw as f
use Rattle.host_handle.proofs.raw_box.Handle.into_raw.Statement.{statement}
use Rattle.host_handle.proofs.raw_box.Handle.into_raw.Code as code

abbrev Z : RattleType
Z = global.the_row

abbrev R : RattleType
R = store.the_row

abbrev stayed : Stays f.ended.signature.params f.ended.kept
stayed = (stay_dropped (plain (λ _. Row)) yes, (stay_dropped (plain (λ _. Z)) yes, tt))

pub into_raw_spec : {M : Type 1} → statement M
into_raw_spec 𝓤 𝓛 𝓜 𝓡 wired =
    let c = f.clauses 𝓛 𝓜.mem 𝓡.returns in let 𝓣 = tables 𝓤 𝓛.H 𝓜 𝓡 𝓡.env in
    proved_at 𝓛 f.ended stayed c 𝓜 𝓡 (Goes-blank 𝓛 0 (plain (λ _. Row)) yes (λ κs x w. tt), (Goes-blank 𝓛 0 (plain (λ _. Z)) yes (λ κs x w. tt), tt))
    f.Key.name code.function (code.unfolded 𝓤 𝓛.H 𝓜 𝓡 wired) (λ z are.
    let d = z.0.3.0 in let a = z.0.3.1.0 in let Post : Val → SProp 𝓤 = (walk_of 𝓛 f.ended stayed c).post z
    in let Run : List Val → SProp 𝓤 = λ ws. WpFn 𝓤 𝓛.H 𝓣.C 𝓣.Λ code.function ws Post in
    qed 𝓛 ((‵ ftrue ⊛ ‵ (owns (types_at f.ended.signature.params z.0.0) z.0.3 z.0.4)) ∷ raw (fact 𝓤 (IsSome d.held)) ∷ []) ∵
    move ! (1 ∷ []) $ heard ! (IsSome d.held) (λ is. split ! $ move ! (1 ∷ []) $ fsplit ! $
    handle_out ! d z.0.4.0 (λ ws. held_out ! a d.at d.held is (λ v ev.
    in_a_block ! d.at (λ p. box_owns (ghosts.dealloc_token a) R p v) (fst∗ 𝓤 (never 𝓤) (sem 𝓛 (ghosts.dealloc_token a (bare (lone R.mir)) null_ptr)))
    (λ b o e.
    move ! (1 ∷ []) $ fsplit ! $ handle_tells (record {
      row = Z;
      laws = heap_laws.the_row_laws;
      g = ghosts;
      d = impl [] tnil dnil;
      drops = impl [] tnil dnil;
    }) ! a z.0.4.1.0 (λ h eh fits.
    move ! (2 ∷ 0 ∷ []) $
    -- [the value's block; the allocator]
    let w : Val = word (block_ptr b o) in let made = parts_good R Z heap_laws.the_row_laws ghosts b o h fits in
    suffices ! (Run (w ∷ h ∷ [])) (subst (λ (us : List Val). ent 𝓤 (Run (w ∷ h ∷ [])) (Run us)) (sym (λ i. (ws ∙ ap
    (λ (p : Ptr). word p ∷ []) e) i ++ (eh i ++ []))) (id⊢ 𝓤 (Run (w ∷ h ∷ [])))) $
    enter ! 𝓣.C 𝓣.Λ code.function (w ∷ h ∷ []) Post $ alloc_all ! (λ l. pass_all ! refl ((tt, (tt, tt)), (fits, tt)) $
    sets ! (of_opd ! (get_in ! (fld ! refl (stop !)) (sub ! 0 refl (whole !)))) refl (tt, tt) $
    sets ! (of_opd ! (get ! refl)) refl (tt, tt) $
    sets ! (agg ! (and_then ! (get ! refl) (and_then ! (get ! refl) (no_more !)))) refl made $
    returns ! (look_at ! 0 refl) $ free_all ! refl $ keep ! (0 ∷ 1 ∷ []) $
    parts_in R Z heap_laws.the_row_laws ghosts ! b o h a v $
    suffices ! _ (ends_at 𝓛 f.ended stayed c z (both (vptr b o) h) (record { at = block_ptr b o; alloc = a; value = v }) (tt, (tt, tt)) (tt, (tt, tt))) $
    says ! ev $
    nothing ! $ nothing ! $ join ! $ nothing ! $ join ! $ nothing ! $ group ! 3 $ done !)))))))
