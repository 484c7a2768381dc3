-- What a step of a run by itself comes to.
use Rattle.bpf_model.proofs.Prelude.{◌≡◌, ℕ, suc, ◌+◌, ◌<◌, ◌≤◌, List, [], ◌∷◌, length, Some, None, Bool, true, false, inl, inr, refl, sym, ap, subst, ◌∙◌}
use Rattle.bpf_model.proofs.Prelude.{arith, ℤ, option_map, false≢true, same_Some, kernel_function_of, ExitsFrom, ExitsWith, exits_later, exits_now, Loaded}
use Rattle.bpf_model.proofs.Prelude.{Run, fresh_run, section_of, InsnStep, RunStep, StartsAt, start-inside, starts_apart, ServesRequest, StepsServed, Section}
use Rattle.bpf_model.proofs.Prelude.{Exits, Moves, insn_at, RunView}
use Rattle.machine.proofs.Prelude.{request_of, resumed_view, kernel_request, MayGive, IsRunOfChecked, CanStep, TakesStep}
use Rattle.model_laws.proofs.Prelude.{KernelFunction, ReadLock, ReadUnlock, Answer, Moved, Exited, Insn, Call, Nothing}
use Rattle.plan_laws.proofs.Prelude.{IsVerified}
use Rattle.verifier.proofs.Prelude.{Checked}
use Rattle.world_laws.proofs.Prelude.{MayReply, element_of, elements_around, store_of, IsShownBy}
use Rattle.bpf_model.specs.declared.insn.CallKind.TheVariants as kinds
use Rattle.bpf_model.specs.Machine.{exits as exits_run, moves as moves_run}
use Rattle.bpf_model.specs.MapState as map_state
use Rattle.bpf_model.specs.Request.{Request as Asked, asks as asks_of, section_request as section_asked}
use Rattle.model_laws.proofs.Alone.{others_change_nothing, stays_sharing_nothing}
use Rattle.plan_laws.proofs.Reaching.{same-insn}
use Rattle.world_laws.proofs.Alike.{exit_alike}
use Rattle.world_laws.proofs.Contents.{plain-content}
use Rattle.world_laws.proofs.Described.{plain-guards, plain-single, planned, surrounds}
use Rattle.machine.specs.declared.request.Request.{Request}
use Rattle.machine.specs.declared.request.Request.TheVariants as requests
use Rattle.machine.specs.declared.request.Local.TheVariants as locals
use Rattle.shared_runs.specs.Lone.{StandsAlone, loaded_alone}
use Rattle.shared_runs.specs.Words.{loaded_of}
use Rattle.shared_runs.proofs.SectionCalls.{IsSectionCall, asks_section}
use Rattle.shared_runs.proofs.Stepped.{AreShown, Asking, asks, ends, goes, listed, so}
use Rattle.shared_runs.proofs.Stepped as stepped

-- The instruction is a lock or an unlock, that is what it asks, and it has left the words as they were.
pub record AsksSection (view after : RunView) (insn : Insn) (request : Request) : Type 0 where
  pub imm : ℤ
  pub is : insn ≡ Call kinds.Kernel imm
  pub function : KernelFunction
  pub known : kernel_function_of imm ≡ Some function
  pub access_is : request ≡ kernel_request function
  pub asked : request_of insn view ≡ Some request
  pub same : after ≡ view

section-called : (view after : RunView) (insn : Insn) (request : Request) (asked : Asked) → IsSectionCall insn asked →
    request_of insn view ≡ Some request → after ≡ view → AsksSection view after insn request
section-called view after insn request asked s of same =
    let e : request_of (Call kinds.Kernel s.imm) view ≡ Some (kernel_request s.function) = ap (option_map kernel_request) s.known in
    record {
      imm = s.imm;
      is = s.is;
      function = s.function;
      known = s.known;
      access_is = same_Some request (kernel_request s.function) (sym of ∙ (ap (λ (i : Insn). request_of i view) s.is ∙ e));
      asked = of;
      same = same;
    }

-- whether it is a section that is asked for
abbrev is-section : Request → Bool
is-section requests.Enter = true
is-section requests.Leave = true
is-section request = false

section-is : (f : KernelFunction) → is-section (kernel_request f) ≡ true
section-is ReadLock = refl
section-is ReadUnlock = refl

pub asks-else : (view after : RunView) (insn : Insn) (request other : Request) → AsksSection view after insn request →
    request ≡ other → is-section other ≡ false → ⊥
asks-else view after insn request other a e h = absurd (false≢true (sym h ∙ (ap is-section (sym e ∙ a.access_is) ∙ section-is a.function)))

-- a lock and an unlock may be answered by any word, and change no map
section-given : (v : Checked) (view : RunView) (f : KernelFunction) → MayGive v view (kernel_request f) 0
section-given v view ReadLock = tt
section-given v view ReadUnlock = tt

section-reply : (bound : List ℕ) (f : KernelFunction) → MayReply bound (section_asked f) Nothing
section-reply bound ReadLock = refl
section-reply bound ReadUnlock = refl

section-serves : (bound : List ℕ) (f : KernelFunction) (s : map_state.Store) (opened : List Section) → ServesRequest bound (section_asked f) s opened Nothing s
section-serves bound ReadLock s opened = (refl, refl)
section-serves bound ReadUnlock s opened = (refl, refl)

-- A move of the run, with the words after it.
pub record Further (v : Checked) (view new : RunView) : Type 0 where
  pub stands : StandsAlone v new
  pub context : new.context ≡ view.context
  pub moved : new.moved ≡ view.moved + 1

module _ (v : Checked) (view : RunView) (x : StandsAlone v view) where
  abbrev run : Run
  run = x.run

  abbrev section : Section
  section = section_of run

  abbrev store : map_state.Store
  store = store_of v.shapes (elements_around v.shapes section)

  abbrev some : IsVerified v.program v.shapes v.ctx_len
  some = stepped.some v x.justified

  abbrev k : IsShownBy v.program v.shapes v.ctx_len some.plan v.shapes run view
  k = stepped.shown v x.justified run view x.shown

  -- the run's steps may be made, and its words stand for it
  pub standing : IsRunOfChecked v view
  standing = stepped.standing v x.justified run view x.shown

  pub steps : CanStep v view
  steps = stepped.steps v x.justified run view x.shown

  -- it has moved less often than its program has instructions
  pub moves-below : view.moved < length v.program
  moves-below =
      let below : k.described.index < length v.program = start-inside v.program k.described.index run.state.place k.described.planned.at in
      let few : run.moved ≤ k.described.index = x.further k.described.index k.described.planned.at in
      let same : view.moved ≡ run.moved = k.words.moved in
      omega (arith, below, few, same)

  -- a step of the run
  abbrev Steps : Insn → Answer → Run → Type 0
  Steps i answer new = InsnStep i store (section ∷ []) run answer store new

  is-step : (i : Insn) (answer : Answer) (new : Run) → insn_at v.program run.state.place ≡ Some i → Steps i answer new
      → RunStep store (section ∷ []) run answer store new
  is-step i answer new here step = (i, ap (λ (p : Loaded). insn_at p.code run.state.place) x.program ∙ here, step)

  -- it is one whatever stands in the maps
  anywhere : (i : Insn) (answer : Answer) (new : Run) → insn_at v.program run.state.place ≡ Some i →
      Steps i answer new → (other : map_state.Store) (sections : List Section) →
      RunStep other sections run answer other new
  anywhere i answer new here step = (others_change_nothing store store (section ∷ []) run new answer x.own (is-step i answer new here step)).1

  -- it leads further on
  leads : (i : Insn) (new : Run) → insn_at v.program run.state.place ≡ Some i → Steps i Moved new → new.exit ≡ None →
      (index : ℕ) → StartsAt v.program index new.state.place → new.moved ≤ index
  leads i new here step going index at =
      let d = k.described in
      let l = some.closed.leads d.index i store (section ∷ []) run Moved store new
      (surrounds v.program v.shapes v.ctx_len some.plan some.closed v.shapes run d (element_of v.shapes section)
      (plain-content v.shapes section) (plain-single v.program v.shapes v.ctx_len some.plan some.closed v.shapes
      run d))
      (planned v.program v.shapes v.ctx_len some.plan some.closed v.shapes run d (element_of v.shapes section)
      (plain-guards v.program v.shapes v.ctx_len some.plan some.closed v.shapes run d)) here step in
      let p = l.1 going in
      let same : p.index ≡ index = starts_apart 0 v.program p.index index new.state.place p.planned.at at in
      let more : d.index < p.index = p.further in
      let few : run.moved ≤ d.index = x.further d.index d.planned.at in
      let counts : new.moved ≡ run.moved + 1 = (same-insn i store (section ∷ []) run Moved store new step).counts in
      omega (arith, same, more, few, counts)

  goes-on : (i : Insn) (new : Run) (u : RunView) → insn_at v.program run.state.place ≡ Some i → Steps i Moved new →
      AreShown v x.justified new u → Further v view u
  goes-on i new u here step shown =
      let same = same-insn i store (section ∷ []) run Moved store new step in
      let w = shown some.plan some.closed in
      let context : u.context ≡ view.context = w.words.context ∙ (same.context ∙ sym k.words.context) in
      let counts : new.moved ≡ run.moved + 1 = same.counts in
      let old_moved : view.moved ≡ run.moved = k.words.moved in
      let new_moved : u.moved ≡ new.moved = w.words.moved in
      let moved : u.moved ≡ view.moved + 1 = omega (arith, counts, old_moved, new_moved) in
      record {
        stands = record {
          justified = x.justified;
          without_maps = x.without_maps;
          run = new;
          program = same.program ∙ x.program;
          shown = shown;
          own = stays_sharing_nothing store store (section ∷ []) run new Moved x.own (is-step i Moved new here step);
          further = leads i new here step w.described.going;
          so_far = λ n value y.
              let f : view.moved + suc n ≡ u.moved + n = omega (arith, moved) in
              subst (λ (c : List ℕ). ExitsFrom (fresh_run 0 (loaded_of v) c) (u.moved + n) value) (sym context)
              (subst (λ (t : ℕ). ExitsFrom (fresh_run 0 (loaded_of v) view.context) t value) f
              (x.so_far (suc n) value (exits_later run new n value (anywhere i Moved new here step) y)));
        };
        context = context;
        moved = moved;
      }

  -- its exit is that of the program by itself
  finishes : (i : Insn) (n : ℕ) (new : Run) → insn_at v.program run.state.place ≡ Some i → Steps i (Exited n) new →
      ExitsWith (loaded_alone v) view.context (view.moved + 1) n
  finishes i n new here step =
      exit_alike (loaded_of v) (loaded_alone v) view.context (view.moved + 1) n x.without_maps refl
      (0, x.so_far 1 n (exits_now run new n (anywhere i (Exited n) new here step)))

  -- it goes on by itself
  pub moves : (new : RunView) → TakesStep v view locals.Moved new → Further v view new
  moves new s =
      let g = goes v x.justified run view x.shown new s in
      goes-on g.insn (moves_run run g.next) new g.here (inl (Moves g.next, g.does, refl, (refl, refl))) g.shows

  -- it ends
  pub exits : (n : ℕ) (new : RunView) → TakesStep v view (locals.Exit n) new →
      ExitsWith (loaded_alone v) view.context (view.moved + 1) n × (new.moved ≡ view.moved)
  exits n new s =
      let e = ends v x.justified run view x.shown n new s in (
        finishes e.0.insn n (exits_run run n) e.0.here (inl (Exits n, e.0.does, refl, (e.0.outside, refl, refl))),
        ap (λ (u : RunView). u.moved) e.1,
      )

  -- it is let through, whatever word the lock or the unlock is answered by
  let-through : (i : Insn) (word : ℕ) (asked : Asked) → insn_at v.program run.state.place ≡ Some i →
      asks_of i (listed v x.justified run view x.shown) run.state ≡ Some asked → IsSectionCall i asked → Further v view (resumed_view i word view)
  let-through i word asked here e call =
      let next = (so v x.justified run view x.shown some.plan some.closed i asked here e).resumes Nothing in
      let reply : MayReply run.program.maps asked Nothing =
      subst (λ (q : Asked). MayReply run.program.maps q Nothing) call.asks_is (section-reply run.program.maps call.function) in
      let serves : ServesRequest run.program.maps asked store (section ∷ []) Nothing store =
      subst (λ (q : Asked). ServesRequest run.program.maps q store (section ∷ []) Nothing store)
      call.asks_is (section-serves run.program.maps call.function store (section ∷ [])) in
      let served : StepsServed i store (section ∷ []) run Moved store next.0 =
      record { request = asked; reply = Nothing; asked = e; served = serves; answer_is = refl; resumes = next.1 } in
      goes-on i next.0 (resumed_view i word view) here (inr served)
      (λ plan closed. (so v x.justified run view x.shown plan closed i asked here e).goes_on Nothing word next.0 reply tt next.1)

  -- what a step leaves that asks something: it may be resumed, and then it has moved
  module _ (request : Request) (after : RunView) (s : TakesStep v view (locals.Shared request) after) where
    abbrev a : Asking v x.justified run view x.shown s.0 request after
    a = asks v x.justified run view x.shown request after s

    call : IsSectionCall s.0 a.asked
    call = asks_section s.0 (listed v x.justified run view x.shown) run.state a.asked x.own.state a.is

    pub shares : AsksSection view after s.0 request
    shares = section-called view after s.0 request a.asked call a.words a.same

    pub given : MayGive v after request 0
    given = subst (λ (q : Request). MayGive v after q 0) (sym shares.access_is) (section-given v after shares.function)

    pub resumed : (new : RunView) (word : ℕ) →
        ((insn : Insn) → insn_at v.program after.place ≡ Some insn → new ≡ resumed_view insn word after) → Further v view new
    resumed new word h =
        let e : new ≡ resumed_view s.0 word view =
        subst (λ (u : RunView). (insn : Insn) → insn_at v.program u.place ≡ Some insn → new ≡ resumed_view insn word u) a.same h s.0 s.1 in
        subst (Further v view) (sym e) (let-through s.0 word a.asked a.here a.is call)
