-- Without map references an exit is of the instructions alone: whatever else a program was loaded with, its run makes the same steps.
use Rattle.bpf_model.proofs.Prelude.{◌≡◌, ℕ, List, [], Option, Some, None, false, inl, refl, sym, ap, ◌∙◌, ℤ, false≢true, byte_count, unsigned_width}
use Rattle.bpf_model.proofs.Prelude.{loaded_signed, helper_of, kernel_function_of, names_map, HasNoMaps, ExitsFrom, exits_now, exits_later, ExitsWith}
use Rattle.bpf_model.proofs.Prelude.{Section, State, Outcome, Moves, Exits, load_from, sets, after, insn_at, environment_of, Store, Loaded, Run, environment}
use Rattle.bpf_model.proofs.Prelude.{fresh_run, OutcomeStep, RunStep, ◌>>=◌, number}
use Rattle.model_laws.proofs.Prelude.{Insn, Call, Load, LoadSigned, LoadMap, KernelFunction, ReadLock, ReadUnlock, Answer, Moved, Exited, Value, Nothing}
use Rattle.model_laws.proofs.Prelude.{Number, Pointer, Ctx, Frame, MapRef, Elem, StepsByKind, KernelStep, HoldsState, IsOwn, SharesNothing}
use Rattle.model_laws.proofs.Exits.{no_maps}
use Rattle.bpf_model.specs.declared.insn.CallKind.TheVariants as kinds
use Rattle.model_laws.proofs.Alone.{insn-all, helper-own, acts-own, starts_sharing_nothing, stays_sharing_nothing}
use Rattle.plan_laws.proofs.Reaching.{same-insn}
use Rattle.model_laws.proofs.Requests.{by_kind, of_kind}

-- the run, as one of another program
abbrev of : Loaded → Run → Run
of p run = record {
  name = run.name;
  program = p;
  context = run.context;
  state = run.state;
  depth = run.depth;
  sections =
      run.sections;
  moved = run.moved;
  exit = run.exit;
}

-- what an instruction that loads no map does doesn't depend on how many there are
load-same : (context : List ℕ) (a b : ℕ) (m : State) (width : ℕ) (offset : ℤ) (base : Value) →
    load_from (environment_of context b) m width offset base ≡ load_from (environment_of context a) m width offset
    base
load-same context a b m width offset Nothing = refl
load-same context a b m width offset (Number n) = refl
load-same context a b m width offset (Pointer (Ctx o)) = refl
load-same context a b m width offset (Pointer (Frame o)) = refl
load-same context a b m width offset (Pointer (MapRef k)) = refl
load-same context a b m width offset (Pointer (Elem n o)) = refl

after-same : (i : Insn) (context : List ℕ) (a b : ℕ) (m : State) (out : Outcome) → names_map i ≡ false →
    after i (environment_of context a) m ≡ Some out → after i (environment_of context b) m ≡ Some out
after-same (LoadMap dst map) context a b m out unnamed h = absurd (false≢true (sym unnamed))
after-same (Load width dst src offset) context a b m out unnamed h =
    ap (λ (v : Option Value). v >>= λ x. sets 1 dst x m)
    (load-same context a b m (byte_count width) offset (m.regs src)) ∙ h
after-same (LoadSigned width dst src offset) context a b m out unnamed h =
    ap (λ (v : Option Value). v >>= λ x. number x >>= λ n. sets 1 dst (Number (loaded_signed width n)) m)
    (load-same context a b m (byte_count (unsigned_width width)) offset (m.regs src)) ∙ h
after-same i context a b m out unnamed h = h

module _ (p : Loaded) (s new_store : Store) (opened : List Section) (run new : Run) (answer : Answer) where
  outcome-of : (out : Outcome) → OutcomeStep out run answer new → OutcomeStep out (of p run) answer (of p new)
  outcome-of (Moves next) h = (h.0, ap (of p) h.1)
  outcome-of (Exits n) h = (h.0, h.1, ap (of p) h.2)

  kernel-of : (f : Option KernelFunction) → KernelStep f run new → KernelStep f (of p run) (of p new)
  kernel-of (Some ReadLock) h = (h.0, ap (of p) h.1)
  kernel-of (Some ReadUnlock) h = (h.0, ap (of p) h.1)
  kernel-of None h = absurd h

  insn-of : (i : Insn) → names_map i ≡ false → HoldsState IsOwn run.state →
      StepsByKind i s opened run answer new_store new → StepsByKind i s opened (of p run) answer new_store (of p new)
  insn-of (Call kinds.Kernel imm) unnamed own h = (kernel-of (kernel_function_of imm) h.0, h.1, h.2)
  insn-of (Call kinds.Helper imm) unnamed own h = absurd (helper-own (helper_of imm) s opened run h.0 new_store own h.1)
  insn-of i unnamed own h =
      let a = acts-own i (environment run) s.elements run.state h.0 h.1 own h.2 in
      (h.0, h.1, inl (after-same i run.context (environment run).maps (environment (of p run)).maps run.state h.0 unnamed a.0, a.1), h.3, outcome-of h.0 h.4)

  run-of : SharesNothing run → run.program.code ≡ p.code → RunStep s opened run answer new_store new → RunStep s opened (of p run) answer new_store (of p new)
  run-of shares same h = (
    h.0,
    ap (λ (code : List Insn). insn_at code run.state.place) (sym same) ∙ h.1,
    of_kind h.0 s opened (of p run) answer new_store (of p new)
        (insn-of h.0 (insn-all (λ i. names_map i ≡ false) run.program.code run.state.place h.0 shares.code h.1)
        shares.state (by_kind h.0 s opened run answer new_store new h.2)),
  )

exits-of : (p : Loaded) (run : Run) (steps n : ℕ) → SharesNothing run → run.program.code ≡ p.code → ExitsFrom run steps n → ExitsFrom (of p run) steps n
exits-of p run steps n shares same (exits_now _ new _ h) =
    exits_now (of p run) (of p new) n (λ store opened.
    run-of p store store opened run new (Exited n) shares same (h store opened))
exits-of p run steps n shares same (exits_later _ next rest _ h x) =
    let first = h no_maps [] in
    let code : next.program ≡ run.program = (same-insn first.0 no_maps [] run Moved no_maps next first.2).program in
    exits_later (of p run) (of p next) rest n (λ store opened. run-of p store store opened run next Moved shares same (h store opened))
    (exits-of p next rest n (stays_sharing_nothing no_maps no_maps [] run next Moved shares first) (ap (λ (l : Loaded). l.code) code ∙ same) x)

pub exit_alike : (a b : Loaded) (context : List ℕ) (steps n : ℕ) → HasNoMaps a.code → a.code ≡ b.code →
    ExitsWith a context steps n → ExitsWith b context steps n
exit_alike a b context steps n none same x = (x.0, exits-of b (fresh_run x.0 a context) steps n (starts_sharing_nothing x.0 a context none) same x.1)
