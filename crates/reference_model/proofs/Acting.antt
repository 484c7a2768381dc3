-- Instructions other than calls.
use Rattle.bpf_model.proofs.Prelude.{◌≡◌, ℕ, List, Option, Some, None, refl, sym, ap, ◌∙◌, subst, inl, inr, ℤ, Result, ◌>>=◌, number, byte_count}
use Rattle.bpf_model.proofs.Prelude.{unsigned_width, loaded_signed, Element, Environment, Outcome, Moves, Exits, after, load_from, sets, kernel_function_of}
use Rattle.bpf_model.proofs.Prelude.{Section, Run}
use Rattle.model_laws.proofs.Prelude.{Insn, Alu, Unary, LoadNumber, LoadMap, Jump, JumpLong, JumpIf, Call, Exit, Load, LoadSigned, Store, Value, Nothing}
use Rattle.model_laws.proofs.Prelude.{Number, Pointer, Ctx, Frame, MapRef, Elem, Width, SignedWidth, element_load, AccessesElement, CallKind, Answer}
use Rattle.reference_interpreter.specs.declared.plain_run.PlainRun.{PlainRun}
use Rattle.reference_interpreter.specs.declared.plain_run.Progress.{Progress}
use Rattle.reference_interpreter.specs.declared.plain_run.Progress.TheVariants as progress
use Rattle.reference_interpreter.specs.Plain.{plain_state_of, Comes}
use Rattle.reference_model.specs.Acting.{element_in, load_outcome, extended_outcome, ActsAs, AloneAs, KernelsAs, KindStepsAs, InsnStepsAs, call_in}
use Rattle.reference_store.proofs.Telling.{tells-map}
use Rattle.bpf_model.specs.declared.insn.CallKind.TheVariants as kinds
use Rattle.bpf_model.specs.MapState as maps
use Rattle.reference_store.specs.declared.fault.ModelFault.{ModelFault}
use Rattle.model_laws.proofs.Requests.{by_kind, of_kind}

abbrev pair : ℕ → ℤ → ℕ × ℤ
pair n o = (n, o)

pub element-is : (v : Value) (n : ℕ) (o : ℤ) → element_in v ≡ Some (n, o) → v ≡ Pointer (Elem n o)
element-is Nothing n o h = absurd cc
element-is (Number k) n o h = absurd cc
element-is (Pointer (Ctx p)) n o h = absurd cc
element-is (Pointer (Frame p)) n o h = absurd cc
element-is (Pointer (MapRef m)) n o h = absurd cc
element-is (Pointer (Elem k p)) n o h =
    let e : Some (pair k p) ≡ Some (pair n o) = h in
    let f : pair k p ≡ pair n o = cc in
    ap (λ q. Pointer (Elem q.0 q.1)) f

-- a load from an element, whose number comes to the register as it is, or with its sign extended
module _ (i : Insn) (extended : ℕ → ℕ) (loads : Option ℕ) (dst : ℕ) (env : Environment) (es : List Element) (old new : PlainRun)
    (waits : after i env (plain_state_of old) ≡ None)
    (from : (k : ℕ) (out : Outcome) → loads ≡ Some k →
    sets 1 dst (Number (extended k)) (plain_state_of old) ≡ Some out →
    AccessesElement i es (plain_state_of old) out es)
    (into : (out : Outcome) (more : List Element) → AccessesElement i es (plain_state_of old) out more → (k : ℕ) ×
    (loads ≡ Some k) × (sets 1 dst (Number (extended k)) (plain_state_of old) ≡ Some out)) where
  found : (q : Option ℕ) (out : Outcome) → (q >>= λ k. sets 1 dst (Number (extended k)) (plain_state_of old)) ≡ Some
      out → (k : ℕ) × (q ≡ Some k) × (sets 1 dst (Number (extended k)) (plain_state_of old) ≡ Some out)
  found None out e = absurd cc
  found (Some k) out e = (k, refl, e)

  load-acts : (p : Progress) → Comes (loads >>= λ k. sets 1 dst (Number (extended k)) (plain_state_of old)) p old new → ActsAs i env es old p es new
  load-acts progress.Moved c =
      let f = found loads (Moves (plain_state_of new)) c in
      inr (from f.0 (Moves (plain_state_of new)) f.1 f.2)
  load-acts (progress.Exited k) c =
      let f = found loads (Exits k) c.0 in
      (inr (from f.0 (Exits k) f.1 f.2), ap plain_state_of c.1)
  load-acts progress.Stuck c = λ out more a. elim a [
    | inl x ↦ let e : None ≡ Some out = sym waits ∙ x.0 in absurd cc
    | inr x ↦
        let y = into out more x in
        let e : None ≡ Some out = sym c.0 ∙ ap (λ q. q >>= λ k. sets 1 dst (Number (extended k)) (plain_state_of old)) y.1 ∙ y.2 in absurd cc
  ]
  load-acts progress.OutOfRange c = tt

pub loaded-acts : (width : Width) (dst src : ℕ) (offset : ℤ) (env : Environment) (es : List Element)
    (old new : PlainRun) (p : Progress) (n : ℕ) (o : ℤ) → element_in ((plain_state_of old).regs src) ≡ Some (n, o) →
    Comes (load_outcome es (byte_count width) offset (Pointer (Elem n o)) dst (plain_state_of old)) p old new →
    ActsAs (Load width dst src offset) env es old p es new
loaded-acts width dst src offset env es old new p n o b h =
    let base = element-is ((plain_state_of old).regs src) n o b in
    load-acts (Load width dst src offset) (λ k. k) (element_load es (byte_count width) offset ((plain_state_of old).regs src)) dst env es old new
    (ap (λ q. q >>= λ v. sets 1 dst v (plain_state_of old)) (ap (load_from env (plain_state_of old) (byte_count width) offset) base))
    (λ k out e f. (k, e, f, refl)) (λ out more x. (x.0, x.1, x.2)) p
    (subst (λ v. Comes (load_outcome es (byte_count width) offset v dst (plain_state_of old)) p old new) (sym base) h)

pub extended-acts : (width : SignedWidth) (dst src : ℕ) (offset : ℤ) (env : Environment) (es : List Element)
    (old new : PlainRun) (p : Progress) (n : ℕ) (o : ℤ) → element_in ((plain_state_of old).regs src) ≡ Some (n, o) →
    Comes (extended_outcome es width offset (Pointer (Elem n o)) dst (plain_state_of old)) p old new →
    ActsAs (LoadSigned width dst src offset) env es old p es new
extended-acts width dst src offset env es old new p n o b h =
    let base = element-is ((plain_state_of old).regs src) n o b in
    load-acts (LoadSigned width dst src offset) (loaded_signed width)
    (element_load es (byte_count (unsigned_width width)) offset ((plain_state_of old).regs src)) dst env es old
    new
    (ap (λ q. q >>= λ v. number v >>= λ k. sets 1 dst (Number (loaded_signed width k)) (plain_state_of old))
    (ap (load_from env (plain_state_of old) (byte_count (unsigned_width width)) offset) base))
    (λ k out e f. (k, e, f, refl)) (λ out more x. (x.0, x.1, x.2)) p
    (subst (λ v. Comes (extended_outcome es width offset v dst (plain_state_of old)) p old new) (sym base) h)

-- a lock or an unlock is the step of its call
pub kernel-steps : (imm : ℤ) (s : maps.Store) (opened : List Section) (run : Run) (answer : Result Answer ModelFault)
    (q : Run) → KernelsAs (kernel_function_of imm) run answer q →
    InsnStepsAs (Call kinds.Kernel imm) s opened run answer s q
kernel-steps imm s opened run answer q h = tells-map _ _ _ _ answer
    (λ a k. of_kind (Call kinds.Kernel imm) s opened run a s q (k.0, k.1, refl))
    (λ none a t p k. none p (by_kind (Call kinds.Kernel imm) s opened run a t p k).0) h

-- a step by the kind of its instruction
pub of-kinds : (i : Insn) (s : maps.Store) (opened : List Section) (run : Run) (answer : Result Answer ModelFault) (t : maps.Store) (q : Run) →
    KindStepsAs i s opened run answer t q → InsnStepsAs i s opened run answer t q
of-kinds i s opened run answer t q h = tells-map _ _ _ _ answer (λ a k. of_kind i s opened run a t q k)
    (λ none a u p k. none a u p (by_kind i s opened run a u p k)) h

-- what an instruction other than a call does is its step
pub alone-steps : (i : Insn) (s : maps.Store) (opened : List Section) (run : Run) (answer : Result Answer ModelFault) (t : maps.Store) (q : Run) →
    call_in i ≡ None → AloneAs i s run answer t q → InsnStepsAs i s opened run answer t q
alone-steps (Call kinds.Kernel imm) s opened run answer t q k a = absurd cc
alone-steps (Call kinds.Helper imm) s opened run answer t q k a = absurd cc
alone-steps (Alu op size dst src) s opened run answer t q k a = of-kinds (Alu op size dst src) s opened run answer t q a
alone-steps (Unary op dst) s opened run answer t q k a = of-kinds (Unary op dst) s opened run answer t q a
alone-steps (LoadNumber dst n) s opened run answer t q k a = of-kinds (LoadNumber dst n) s opened run answer t q a
alone-steps (LoadMap dst map) s opened run answer t q k a = of-kinds (LoadMap dst map) s opened run answer t q a
alone-steps (Jump offset) s opened run answer t q k a = of-kinds (Jump offset) s opened run answer t q a
alone-steps (JumpLong imm) s opened run answer t q k a = of-kinds (JumpLong imm) s opened run answer t q a
alone-steps (JumpIf condition size dst src offset) s opened run answer t q k a = of-kinds (JumpIf condition size dst src offset) s opened run answer t q a
alone-steps Exit s opened run answer t q k a = of-kinds Exit s opened run answer t q a
alone-steps (Load width dst src offset) s opened run answer t q k a = of-kinds (Load width dst src offset) s opened run answer t q a
alone-steps (LoadSigned width dst src offset) s opened run answer t q k a = of-kinds (LoadSigned width dst src offset) s opened run answer t q a
alone-steps (Store width dst offset src) s opened run answer t q k a = of-kinds (Store width dst offset src) s opened run answer t q a

abbrev pub call-pair : CallKind → ℤ → CallKind × ℤ
call-pair kind imm = (kind, imm)

pub call-is : (i : Insn) (kind : CallKind) (imm : ℤ) → call_in i ≡ Some (kind, imm) → i ≡ Call kind imm
call-is (Call k j) kind imm h =
    let e : Some (call-pair k j) ≡ Some (call-pair kind imm) = h in
    let f : call-pair k j ≡ call-pair kind imm = cc in
    ap (λ p. Call p.0 p.1) f
call-is (Alu op size dst src) kind imm h = absurd cc
call-is (Unary op dst) kind imm h = absurd cc
call-is (LoadNumber dst n) kind imm h = absurd cc
call-is (LoadMap dst map) kind imm h = absurd cc
call-is (Jump offset) kind imm h = absurd cc
call-is (JumpLong j) kind imm h = absurd cc
call-is (JumpIf condition size dst src offset) kind imm h = absurd cc
call-is Exit kind imm h = absurd cc
call-is (Load width dst src offset) kind imm h = absurd cc
call-is (LoadSigned width dst src offset) kind imm h = absurd cc
call-is (Store width dst offset src) kind imm h = absurd cc
