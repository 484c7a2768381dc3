-- Updates and deletes by a described run.
use Rattle.bpf_model.proofs.Prelude.{◌≡◌, ℕ, ◌<◌, ◌^◌, List, [], ◌∷◌, ◌++◌, length, Option, Some, None, refl, sym, ap, subst, ◌∙◌, ℤ, arith, Bool, Result, Ok}
use Rattle.bpf_model.proofs.Prelude.{Err, slice_get, slice_set, ◌==◌, ◌&&◌, is_some, not, nat_le, nat_lt, same_Some, number, helper_of, ret_word, Section}
use Rattle.bpf_model.proofs.Prelude.{linked_count, newborn, overwritten, unlinked, MapState, Store, with_bag, with_elements, Updates, Settles, Writes}
use Rattle.bpf_model.proofs.Prelude.{Removes, RemovesFrom, hash_error, error_of_kind, update_error, Run, moves, InsnStep, returns, AreBytes}
use Rattle.model_laws.proofs.Prelude.{MapKind, Hash, Array, MapShape, Call, Errno, NoEntry, TooBig, NoMemory, Exists, InvalidArgument, Answer, Moved, Value}
use Rattle.model_laws.proofs.Prelude.{Number, HelperStep, UpdateStep, DeleteStep, value_argument, IsNear}
use Rattle.plan_laws.proofs.Prelude.{Num, AbsState, scene_of, Describes, after_call, HasMap, HasBytes, Surrounds, HasStep, Leads, Transfers}
use Rattle.scalar_domain.proofs.Prelude.{Holds}
use Rattle.bpf_model.specs.declared.insn.CallKind.TheVariants as kinds
use Rattle.bpf_model.specs.declared.call.Helper.TheVariants as helpers
use Rattle.scalar_domain.specs.declared.scalar.Scalar.{Scalar}
use Rattle.plan_laws.proofs.Kept.{describes-kept, insn-keeps}
use Rattle.plan_laws.proofs.Valued.{bytes-updates, bytes-deletes}
use Rattle.plan_laws.proofs.Sets.{returned-described}
use Rattle.plan_laws.proofs.Finding.{looks-up}
use Rattle.plan_laws.proofs.Arguments.{reg-is, bound, map-is, key-is, value-is}
use Rattle.plan_laws.proofs.Calls.{falls-to}
use Rattle.model_laws.proofs.Choices.{bag-has, last-false}
use Rattle.model_laws.proofs.Requests.{by_kind, of_kind}

ret-fits : (r : Result (Unit {0}) Errno) → ret_word r < 2 ^ 64
ret-fits (Ok u) = omega arith
ret-fits (Err NoEntry) = omega arith
ret-fits (Err TooBig) = omega arith
ret-fits (Err NoMemory) = omega arith
ret-fits (Err Exists) = omega arith
ret-fits (Err InvalidArgument) = omega arith

slot-free : (flags : ℕ) (present : Bool) (linked : ℕ) (m : MapState) → hash_error flags present linked m ≡ None → (c : ℕ) × (rest : List ℕ) × (m.bag ≡ c ∷ rest)
slot-free flags present linked m h = bag-has m.bag (last-false (nat_lt 2 flags) ((flags == 1) && present)
    ((flags == 2) && not present) (not present && nat_le m.shape.entries linked) (length m.bag == 0) _ _ _ _ _ h)

-- where no test fails, the element is born, or written
writes : (kind : MapKind) (s : Store) (opened : List Section) (map : ℕ) (m : MapState) (key value : List ℕ)
    (flags : ℕ) (present : Bool) (linked : ℕ) (found : Option ℕ) → error_of_kind kind flags present linked m ≡ None →
    (new : Store) × Writes kind s opened map m key value found new
writes Hash s opened map m key value flags present linked found f =
    let b = slot-free flags present linked m f in
    let new : Store = record { elements = unlinked opened s.elements found ++ newborn map key value b.0 ∷ []; maps = slice_set s.maps map (with_bag b.1 m) } in
    (new, record { count = b.0; bag = b.1; taken = record { before = []; after = b.1; old_is = b.2; new_is = refl }; new_is = refl })
writes Array s opened map m key value flags present linked found f = (with_elements (overwritten value s.elements found) s, refl)

settles : (error : Option Errno) (s : Store) (Done : Store → Type 0) → (error ≡ None → (new : Store) × Done new) →
    (ret : Result (Unit {0}) Errno) × (new : Store) × Settles error ret s new (Done new)
settles (Some e) s Done f = (Err e, s, (refl, refl))
settles None s Done f = let x = f refl in (Ok tt, x.0, (refl, x.1))

updates : (s : Store) (opened : List Section) (map : ℕ) (m : MapState) (key value : List ℕ) (flags : ℕ) →
    slice_get s.maps map ≡ Some m → (ret : Result (Unit {0}) Errno) × (new : Store) ×
    Updates s opened map key value flags ret new
updates s opened map m key value flags at =
    let l = looks-up s map key in
    let present : Bool = is_some l.0 in
    let linked : ℕ = linked_count map s.elements in
    let x = settles (update_error flags present linked m) s (Writes m.shape.kind s opened map m key value l.0)
    (writes m.shape.kind s opened map m key value flags present linked l.0) in
    (x.0, x.1, record { state = m; there = at; found = l.0; lookup = l.1; settled = x.2 })

removes : (found : Option ℕ) (s : Store) (opened : List Section) → (ret : Result (Unit {0}) Errno) × (new : Store) × Removes found opened ret s new
removes None s opened = (Err NoEntry, s, (refl, refl))
removes (Some n) s opened = (Ok tt, with_elements (unlinked opened s.elements (Some n)) s, (refl, refl))

removes-from : (kind : MapKind) (found : Option ℕ) (s : Store) (opened : List Section) →
    (ret : Result (Unit {0}) Errno) × (new : Store) × RemovesFrom kind found opened ret s new
removes-from Hash found s opened = removes found s opened
removes-from Array found s opened = (Err InvalidArgument, s, (refl, refl))

-- the run goes on with a number in r0, among the elements after the call
call-leads : (imm : ℤ) (t : Scalar) (a : AbsState) (s new_store : Store) (opened : List Section) (run new_run : Run)
    (answer : Answer) (ret : Value) (r : Result (Unit {0}) Errno) (shapes : List MapShape) (ctx_len : ℕ) →
    ((n : ℕ) → n < 2 ^ 64 → Holds t n) →
    Surrounds shapes ctx_len s opened run → Describes a (scene_of s run) run.state →
    InsnStep (Call kinds.Helper imm) s opened run answer new_store new_run → ret ≡ Number (ret_word r) →
    new_run ≡ moves run (returns ret run.state) →
    Leads (Call kinds.Helper imm) (after_call (Num t) a) None run.state.place new_store new_run
call-leads imm t a s new_store opened run new_run answer ret r shapes ctx_len all w d h is same =
    let kept = describes-kept (scene_of s run) (scene_of new_store run)
    (insn-keeps (Call kinds.Helper imm) s opened run answer new_store new_run w.single w.lengths w.section h) a
    run.state d in
    falls-to (Call kinds.Helper imm) (after_call (Num t) a) None new_store run (returns ret run.state) run.state.place new_run refl refl
    (returned-described a (scene_of new_store run) run.state (Num t) ret kept
    (ret_word r, is, ret-fits r, all (ret_word r) (ret-fits r)) (subst IsNear (sym is) tt)) same

module _ (imm : ℤ) (shapes : List MapShape) (ctx_len : ℕ) (a : AbsState) (map : ℕ) (shape : MapShape) (t : Scalar)
    (all : (n : ℕ) → n < 2 ^ 64 → Holds t n) (m : HasMap shapes a map shape) (key : HasBytes a 2 shape.key_len) where
  delete-goes : helper_of imm ≡ Some helpers.Delete → (s : Store) (opened : List Section) (run : Run) →
      Surrounds shapes ctx_len s opened run → Describes a (scene_of s run) run.state →
      HasStep (Call kinds.Helper imm) s opened run
  delete-goes f s opened run w d =
      let b = bound shapes ctx_len s opened run map shape w m.shape_is in
      let k = key-is shapes s run a map shape d m b key in
      let l = looks-up s b.number k.0 in
      let x = removes-from b.state.shape.kind l.0 s opened in
      let step : DeleteStep s opened run (Number (ret_word x.0)) x.1 =
      record {
        map = b.number;
        key = k.0;
        outcome = x.0;
        map_is = map-is shapes s run a map shape d m b;
        key_is =
            k.1;
        deleted = record { state = b.state; there = b.there; found = l.0; lookup = l.1; removed = x.2 };
        ret_is = refl;
      } in (
        Moved,
        x.1,
        moves run (returns (Number (ret_word x.0)) run.state),
        of_kind (Call kinds.Helper imm) s opened run Moved x.1
            (moves run (returns (Number (ret_word x.0)) run.state)) (
              Number (ret_word x.0),
              subst (λ g. HelperStep g s opened run (Number (ret_word x.0)) x.1) (sym f) step,
              refl,
              refl,
            ),
      )

  pub delete_transfers : helper_of imm ≡ Some helpers.Delete → Transfers (Call kinds.Helper imm) shapes ctx_len a (after_call (Num t) a) None
  delete_transfers f = record {
    goes = λ s opened run w target d. delete-goes f s opened run w d;
    leads = λ s opened run answer new_store new_run w target d step.
        let h = by_kind (Call kinds.Helper imm) s opened run answer new_store new_run step in
        let k : DeleteStep s opened run h.0 new_store = subst (λ g. HelperStep g s opened run h.0 new_store) f h.1 in (
          bytes-deletes s opened k.map k.key k.outcome new_store w.bytes k.deleted,
          call-leads imm t a s new_store opened run new_run answer h.0 k.outcome shapes ctx_len all w d step
              k.ret_is h.3,
        );
  }

  module _ (value : HasBytes a 3 shape.value_len) (q : Scalar) (flags_are : a.regs 4 ≡ Num q) where
    update-goes : helper_of imm ≡ Some helpers.Update → (s : Store) (opened : List Section) (run : Run) →
        Surrounds shapes ctx_len s opened run → Describes a (scene_of s run) run.state →
        HasStep (Call kinds.Helper imm) s opened run
    update-goes f s opened run w d =
        let b = bound shapes ctx_len s opened run map shape w m.shape_is in
        let k = key-is shapes s run a map shape d m b key in
        let v = value-is shapes s run a map shape d m b value in
        let g = reg-is a (scene_of s run) run.state 4 (Num q) d flags_are in
        let x = updates s opened b.number b.state k.0 v.0 g.0 b.there in
        let step : UpdateStep s opened run (Number (ret_word x.0)) x.1 =
        record {
          map = b.number;
          key = k.0;
          value = v.0;
          flags = g.0;
          outcome = x.0;
          map_is =
              map-is shapes s run a map shape d m b;
          key_is = k.1;
          value_is = v.1;
          flags_are = ap number g.1;
          updated =
              x.2;
          ret_is = refl;
        } in (
          Moved,
          x.1,
          moves run (returns (Number (ret_word x.0)) run.state),
          of_kind (Call kinds.Helper imm) s opened run Moved x.1
              (moves run (returns (Number (ret_word x.0)) run.state)) (
                Number (ret_word x.0),
                subst (λ g. HelperStep g s opened run (Number (ret_word x.0)) x.1) (sym f) step,
                refl,
                refl,
              ),
        )

    value-bytes : (s : Store) (opened : List Section) (run : Run) (ret : Value) (new_store : Store) →
        Surrounds shapes ctx_len s opened run → Describes a (scene_of s run) run.state →
        (k : UpdateStep s opened run ret new_store) → AreBytes k.value
    value-bytes s opened run ret new_store w d k =
        let b = bound shapes ctx_len s opened run map shape w m.shape_is in
        let v = value-is shapes s run a map shape d m b value in
        let same : b.number ≡ k.map = same_Some _ _ (sym (map-is shapes s run a map shape d m b) ∙ k.map_is) in
        subst AreBytes (same_Some v.0 k.value (sym v.1 ∙ (ap (value_argument s run) same ∙ k.value_is))) v.2

    pub update_transfers : helper_of imm ≡ Some helpers.Update → Transfers (Call kinds.Helper imm) shapes ctx_len a (after_call (Num t) a) None
    update_transfers f = record {
      goes = λ s opened run w target d. update-goes f s opened run w d;
      leads = λ s opened run answer new_store new_run w target d step.
          let h = by_kind (Call kinds.Helper imm) s opened run answer new_store new_run step in
          let k : UpdateStep s opened run h.0 new_store = subst (λ g. HelperStep g s opened run h.0 new_store) f h.1 in (
            bytes-updates s opened k.map k.key k.value k.flags k.outcome new_store w.bytes
                (value-bytes s opened run h.0 new_store w d k) k.updated,
            call-leads imm t a s new_store opened run new_run answer h.0 k.outcome shapes ctx_len all w d step
                k.ret_is h.3,
          );
    }
