-- The machine value of a `Handle`. Assumes `Logic`.
use Rattle.bpf_model.proofs.Prelude.{◌≡◌, List, [], ◌∷◌, ◌++◌, refl, sym, subst, true≢false, Val, vstruct, vcons, vnil, of_list, Option, Some, None, IsSome}
use Rattle.bpf_model.proofs.Prelude.{box_owns, ghosts, Global}
use seplogic.Ra.Ura.{Ura}
use types.Logic.{Logic}
use types.Kit.{Item, Goal, Seq, Step, step, ‵, ◌$◌, drop, fsplit, fjoin, fpick, fpack, feq_i, feq_l}
use denote.RattleType.{RattleType, Valss}
use denote.Builtin.{RawPtr}
use denote.RawPtr.{Ptr, ptr_val}
use denote.Steps.{nothing}
use denote.Struct.Struct.{within}
use denote.Struct.Owning.{shape}
use Rattle.host_handle.specs.declared.held.Held.{Held}
use Rattle.host_handle.specs.Held.{holds}
use Rattle.host_handle.specs.contracts.held.Held.{the_row}
use Rattle.host_handle.specs.contracts.raw_box.Handle as handle

abbrev pub Row : RattleType
Row = handle.the_row

abbrev pub word : Ptr → Val
word p = vstruct (vcons (ptr_val p) vnil)

module _ {M : Type 1} {𝓤 : Ura M} {𝓛 : Logic 𝓤} {K : Type 0} {Γ : List (Item 𝓤)} {G : Goal 𝓤 𝓛.H} where
  pub handle_out : K → (d : Row.Denot) (vs : List Val)
      → (vs ≡ word d.at ∷ [] → Seq K 𝓛 (‵ (holds d.at d.held) ∷ Γ) G) → Seq K 𝓛 (‵ (Row.own_val d vs) ∷ Γ) G
  handle_out t d vs k =
      fsplit t $ fpick t (λ vss. fsplit t $ feq_l t (λ ev. fsplit t $ feq_l t (λ ep. drop t $
      k (subst (λ (ps : List Val). vs ≡ vstruct (of_list (ps ++ [])) ∷ []) ep ev))))

  pub handle_in : K → (p : Ptr) (x : Option Held)
      → Step K 𝓛 (‵ (Row.own_val (record { at = p; held = x }) (word p ∷ [])) ∷ Γ) G (‵ (holds p x) ∷ Γ) G
  handle_in t p x = step (λ s.
      nothing t $ feq_i t (List Val) (ptr_val p ∷ []) (ptr_val p ∷ []) refl $ fjoin t $ feq_i t (List Val) (word p ∷ []) (word p ∷ []) refl $ fjoin t $
      fpack t (Valss (RawPtr ∷ [])) (within (shape handle.the_type) (p, tt) (word p ∷ [])) (ptr_val p ∷ [], tt) $ fjoin t $ s)

  pub held_out : K → (a : Global) (p : Ptr) (x : Option Held) → IsSome x
      → ((v : Held) → x ≡ Some v → Seq K 𝓛 (‵ (box_owns (ghosts.dealloc_token a) the_row p v) ∷ Γ) G) → Seq K 𝓛 (‵ (holds p x) ∷ Γ) G
  unfolding holds
  held_out t a p (Some v) s k = k v refl
  held_out t a p None s k = absurd (true≢false (sym s))
