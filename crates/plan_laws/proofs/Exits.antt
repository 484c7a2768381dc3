-- A run has one exit at most where its steps need no others, and without map references they never do.
use Rattle.bpf_model.proofs.Prelude.{◌≡◌, ℕ, suc, List, [], Option, Some, None, refl, sym, ap, ◌∙◌, subst, none-some, Outcome, Moves, Exits, helper_of}
use Rattle.bpf_model.proofs.Prelude.{kernel_function_of, ExitsFrom, exits_now, exits_later, ExitsWith, HasNoMaps, Section, Store, Loaded, Run, fresh_run}
use Rattle.bpf_model.proofs.Prelude.{OutcomeStep, InsnStep, RunStep, both}
use Rattle.model_laws.proofs.Prelude.{MapShape, Insn, Call, Helper, KernelFunction, ReadLock, ReadUnlock, Answer, Moved, Exited, Value, StepsByKind}
use Rattle.model_laws.proofs.Prelude.{KernelStep, HelperStep, SharesNothing}
use Rattle.plan_laws.proofs.Prelude.{MayExitFrom, MayExitWith, may_exit_now, may_exit_later}
use Rattle.bpf_model.specs.declared.insn.CallKind.TheVariants as kinds
use Rattle.bpf_model.specs.declared.call.Helper.TheVariants as helpers
use Rattle.model_laws.proofs.Deciding.{meet, kernel-one, alone-one}
use Rattle.model_laws.proofs.Alone.{others_change_nothing, starts_sharing_nothing, stays_sharing_nothing}
use Rattle.model_laws.proofs.Exits.{no_maps}
use Rattle.model_laws.proofs.Requests.{by_kind, of_kind}

-- the number of its start doesn't matter
abbrev renamed : ℕ → Run → Run
renamed name run = record {
  name = name;
  program = run.program;
  context = run.context;
  state = run.state;
  depth =
      run.depth;
  sections = run.sections;
  moved = run.moved;
  exit = run.exit;
}

module _ (name : ℕ) (s : Store) (opened : List Section) (run : Run) where
  ends-renamed : (out : Outcome) (answer : Answer) (new : Run) → OutcomeStep out run answer new → OutcomeStep out (renamed name run) answer (renamed name new)
  ends-renamed (Moves next) answer new h = (h.0, ap (renamed name) h.1)
  ends-renamed (Exits n) answer new h = (h.0, h.1, ap (renamed name) h.2)

  kernel-renamed : (f : Option KernelFunction) (new : Run) → KernelStep f run new → KernelStep f (renamed name run) (renamed name new)
  kernel-renamed (Some ReadLock) new h = (h.0, ap (renamed name) h.1)
  kernel-renamed (Some ReadUnlock) new h = (h.0, ap (renamed name) h.1)
  kernel-renamed None new h = absurd h

  helper-renamed : (f : Option Helper) (ret : Value) (new : Store) → HelperStep f s opened run ret new → HelperStep f s opened (renamed name run) ret new
  helper-renamed (Some helpers.Lookup) ret new h =
      let l = h.0 in
      (record { map = l.map; key = l.key; found = l.found; map_is = l.map_is; key_is = l.key_is; looked_up = l.looked_up; ret_is = l.ret_is }, h.1)
  helper-renamed (Some helpers.Update) ret new h =
      record {
        map = h.map;
        key = h.key;
        value = h.value;
        flags = h.flags;
        outcome = h.outcome;
        map_is = h.map_is;
        key_is = h.key_is;
        value_is = h.value_is;
        flags_are = h.flags_are;
        updated = h.updated;
        ret_is = h.ret_is;
      }
  helper-renamed (Some helpers.Delete) ret new h = record {
    map = h.map;
    key = h.key;
    outcome = h.outcome;
    map_is =
        h.map_is;
    key_is = h.key_is;
    deleted = h.deleted;
    ret_is = h.ret_is;
  }
  helper-renamed None ret new h = absurd h

  insn-renamed : (i : Insn) (answer : Answer) (new_store : Store) (new : Run) →
      StepsByKind i s opened run answer new_store new →
      StepsByKind i s opened (renamed name run) answer new_store (renamed name new)
  insn-renamed (Call kinds.Kernel imm) answer new_store new h = (kernel-renamed (kernel_function_of imm) new h.0, h.1, h.2)
  insn-renamed (Call kinds.Helper imm) answer new_store new h = (h.0, helper-renamed (helper_of imm) h.0 new_store h.1, h.2, ap (renamed name) h.3)
  insn-renamed i answer new_store new h = (h.0, h.1, h.2, h.3, ends-renamed h.0 answer new h.4)

  run-renamed : (answer : Answer) (new_store : Store) (new : Run) → RunStep s opened run answer new_store new →
      RunStep s opened (renamed name run) answer new_store (renamed name new)
  run-renamed answer new_store new h = (
    h.0,
    h.1,
    of_kind h.0 s opened (renamed name run) answer new_store
        (renamed name new) (insn-renamed h.0 answer new_store new (by_kind h.0 s opened run answer new_store new h.2)),
  )

exits-renamed : (name : ℕ) (run : Run) (steps n : ℕ) → ExitsFrom run steps n → ExitsFrom (renamed name run) steps n
exits-renamed name run steps n (exits_now _ new _ h) =
    exits_now (renamed name run) (renamed name new) n (λ store opened. run-renamed name store opened run (Exited n) store new (h store opened))
exits-renamed name run steps n (exits_later _ next rest _ h x) =
    exits_later (renamed name run) (renamed name next) rest n
    (λ store opened. run-renamed name store opened run Moved store next (h store opened)) (exits-renamed name next rest n x)

-- A step that a run makes whatever the maps are is its only one. It is no helper's, which without maps has none.
abbrev Anywhere : Run → Answer → Run → Type 0
Anywhere run answer new = (store : Store) (opened : List Section) → RunStep store opened run answer store new

no_helper : (f : Option Helper) (opened : List Section) (run : Run) (ret : Value) (new : Store) → HelperStep f no_maps opened run ret new → ⊥
no_helper (Some helpers.Lookup) opened run ret new h = none-some h.0.key h.0.key_is
no_helper (Some helpers.Update) opened run ret new h = none-some h.key h.key_is
no_helper (Some helpers.Delete) opened run ret new h = none-some h.key h.key_is
no_helper None opened run ret new h = h

module _ (s other : Store) (opened : List Section) (run new next : Run) (a b : Answer) where
  insn-only : (i : Insn) → StepsByKind i no_maps [] run a no_maps new → StepsByKind i s opened run a s new →
      StepsByKind i s opened run b other next → (a ≡ b) × (new ≡ next)
  insn-only (Call kinds.Kernel imm) p h g = (meet _ _ _ h.1 g.1, kernel-one (kernel_function_of imm) run new next h.0 g.0)
  insn-only (Call kinds.Helper imm) p h g = absurd (no_helper (helper_of imm) [] run p.0 no_maps p.1)
  insn-only i p h g = let one = alone-one i s run a b s other new next h.0 g.0 h.1 g.1 h.2 g.2 h.3 g.3 h.4 g.4 in (one.0, one.2)

  only-step : Anywhere run a new → RunStep s opened run b other next → (a ≡ b) × (new ≡ next)
  only-step p g =
      let x = p no_maps [] in
      let y = p s opened in
      let first : x.0 ≡ g.0 = both _ x.0 g.0 x.1 g.1 in
      let second : y.0 ≡ g.0 = both _ y.0 g.0 y.1 g.1 in
      insn-only g.0 (by_kind g.0 no_maps [] run a no_maps new
      (subst (λ i. InsnStep i no_maps [] run a no_maps new) first x.2))
      (by_kind g.0 s opened run a s new (subst (λ i. InsnStep i s opened run a s new) second y.2))
      (by_kind g.0 s opened run b other next g.2)

same-exit : (n k : ℕ) → Exited n ≡ Exited k → n ≡ k
same-exit n k h = cc

moved≢exited : (n : ℕ) → Moved ≡ Exited n → ⊥
moved≢exited n h = absurd (cc)

module _ (shapes : List MapShape) where
  now-one : (run new : Run) (t n k : ℕ) → Anywhere run (Exited n) new → MayExitFrom shapes run t k → (1 ≡ t) × (n ≡ k)
  now-one run new t n k p (may_exit_now store new_store opened _ next _ bytes g) =
      (refl, same-exit n k (only-step store new_store opened run new next (Exited n) (Exited k) p g).0)
  now-one run new t n k p (may_exit_later store new_store opened _ next rest _ bytes g y) =
      absurd (moved≢exited n (sym (only-step store new_store opened run new next (Exited n) Moved p g).0))

  abbrev HasRest : Run → ℕ → ℕ → Type 0
  HasRest next t k = (rest : ℕ) × (suc rest ≡ t) × MayExitFrom shapes next rest k

  later-rest : (run next : Run) (t k : ℕ) → Anywhere run Moved next → MayExitFrom shapes run t k → HasRest next t k
  later-rest run next t k p (may_exit_now store new_store opened _ new _ bytes g) =
      absurd (moved≢exited k (only-step store new_store opened run next new Moved (Exited k) p g).0)
  later-rest run next t k p (may_exit_later store new_store opened _ other rest _ bytes g y) =
      let same : next ≡ other = (only-step store new_store opened run next other Moved Moved p g).1 in
      (rest, refl, subst (λ z. MayExitFrom shapes z rest k) (sym same) y)

  exit-one : (run : Run) (s t n k : ℕ) → ExitsFrom run s n → MayExitFrom shapes run t k → (s ≡ t) × (n ≡ k)
  exit-one run s t n k (exits_now _ new _ h) y = now-one run new t n k h y
  exit-one run s t n k (exits_later _ next rest _ h x) y =
      let r = later-rest run next t k h y in
      let one = exit-one next rest r.0 n k x r.2 in
      (ap suc one.0 ∙ r.1, one.1)

  pub one_exit : (program : Loaded) (context : List ℕ) (s t n k : ℕ) → ExitsWith program context s n →
      MayExitWith shapes program context t k → (s ≡ t) × (n ≡ k)
  one_exit program context s t n k x y =
      exit-one (fresh_run y.0 program context) s t n k (exits-renamed y.0 (fresh_run x.0 program context) s n x.1) y.1

  -- a run that shares nothing makes each of its steps whatever the maps are
  exits-alone : (run : Run) (s n : ℕ) → SharesNothing run → MayExitFrom shapes run s n → ExitsFrom run s n
  exits-alone run s n p (may_exit_now store new_store opened _ new _ bytes h) =
      exits_now run new n ((others_change_nothing store new_store opened run new (Exited n) p h).1)
  exits-alone run s n p (may_exit_later store new_store opened _ next rest _ bytes h x) =
      exits_later run next rest n ((others_change_nothing store new_store opened run next Moved p h).1)
      (exits-alone next rest n (stays_sharing_nothing store new_store opened run next Moved p h) x)

  pub exits_alone : (program : Loaded) (context : List ℕ) (s n : ℕ) → HasNoMaps program.code →
      MayExitWith shapes program context s n → ExitsWith program context s n
  exits_alone program context s n none x = (x.0, exits-alone (fresh_run x.0 program context) s n (starts_sharing_nothing x.0 program context none) x.1)
