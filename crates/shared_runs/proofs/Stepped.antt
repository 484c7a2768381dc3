-- A run that each plan of its program shows: its next step goes on by itself, or ends it, or asks.
use Rattle.bpf_model.proofs.Prelude.{◌≡◌, ℕ, [], refl, sym, ap, subst, ◌∙◌, Option, Some, slice_get, Run, environment, bound_shape, FitsInsn, Exits, Moves}
use Rattle.bpf_model.proofs.Prelude.{Outcome, State, insn_at, RunView}
use Rattle.machine.proofs.Prelude.{request_of, IsRunOfChecked, CanStep, IsLocalStep, TakesStep}
use Rattle.model_laws.proofs.Prelude.{Insn, MapShape}
use Rattle.plan_laws.proofs.Prelude.{IsClosed, IsVerified, Plan}
use Rattle.verifier.proofs.Prelude.{Checked, IsJustified}
use Rattle.verifier.specs.Verdict.{verified_of}
use Rattle.world_laws.proofs.Prelude.{store_of, IsShownBy, ended_view, region_bases}
use Rattle.bpf_model.specs.Machine.{moves as moves_run}
use Rattle.bpf_model.specs.Request.{Request as Asked, asks as asks_of}
use Rattle.bpf_model.specs.Step.{after as after_insn}
use Rattle.world_laws.specs.Local as laws
use Rattle.world_laws.proofs.Codes.{all-get}
use Rattle.world_laws.proofs.StandingOwn.{IsReadyCode, among}
use Rattle.world_laws.proofs.Among.{Does}
use Rattle.world_laws.proofs.OwnMemory.{acts-alone}
use Rattle.machine.specs.declared.request.Request.{Request}
use Rattle.machine.specs.declared.request.Local.TheVariants as locals
use Rattle.machine.proofs.Answering.{stands}
use Rattle.machine.proofs.AskingSo.{AsksSo, asks-so}
use Rattle.machine.proofs.StandingLaws.{can_step}
use Rattle.machine.proofs.Turning.{Acts, AsksFor, Turn, goes-on, turn}

-- what an answer to a step says of the step
went : (l : laws.LocalStep) (asked : Option Request) (view new : RunView) → IsLocalStep l asked view locals.Moved new → l ≡ laws.Goes new
went (laws.Goes u) asked view new h = ap laws.Goes (sym h.1)
went (laws.Ends n) asked view new h = let e : locals.Moved ≡ locals.Exit n = h.0 in absurd (cc)
went laws.Asks asked view new h = let e : locals.Moved ≡ locals.Shared h.0 = h.2 in absurd (cc)

ended : (l : laws.LocalStep) (asked : Option Request) (view new : RunView) (n : ℕ) →
    IsLocalStep l asked view (locals.Exit n) new → (l ≡ laws.Ends n) × (new ≡ ended_view n view)
ended (laws.Goes u) asked view new n h = let e : locals.Exit n ≡ locals.Moved = h.0 in absurd (cc)
ended (laws.Ends m) asked view new n h = let e : locals.Exit n ≡ locals.Exit m = h.0 in let same : m ≡ n =
    cc in (ap laws.Ends same, h.1 ∙ ap (λ (k : ℕ). ended_view k view) same)
ended laws.Asks asked view new n h = let e : locals.Exit n ≡ locals.Shared h.0 = h.2 in absurd (cc)

waited : (l : laws.LocalStep) (asked : Option Request) (view new : RunView) (request : Request) →
    IsLocalStep l asked view (locals.Shared request) new → (l ≡ laws.Asks) × (asked ≡ Some request) × (new ≡ view)
waited (laws.Goes u) asked view new request h = let e : locals.Shared request ≡ locals.Moved = h.0 in absurd (cc)
waited (laws.Ends m) asked view new request h = let e : locals.Shared request ≡ locals.Exit m = h.0 in absurd (cc)
waited laws.Asks asked view new request h = let e : locals.Shared request ≡ locals.Shared h.0 =
    h.2 in let same : h.0 ≡ request = cc in (refl, h.1 ∙ ap Some same, h.3)

goes-asks : (u : RunView) → laws.Goes u ≡ laws.Asks → ⊥
goes-asks u e = absurd (cc)

ends-asks : (n : ℕ) → laws.Ends n ≡ laws.Asks → ⊥
ends-asks n e = absurd (cc)

module _ (c : Checked) (justified : IsJustified c) where
  real : (k : ℕ) (i : Insn) → slice_get c.program k ≡ Some i → FitsInsn i
  real = all-get FitsInsn c.program justified.program.fits

  abbrev pub some : IsVerified c.program c.shapes c.ctx_len
  some = verified_of c justified

  pub ready : (plan : Plan) → IsClosed c.program c.shapes c.ctx_len plan → IsReadyCode c.program c.shapes c.ctx_len plan
  ready plan closed = record { closed = closed; real = real }

  abbrev pub AreShown : Run → RunView → Type 0
  AreShown r u = (plan : Plan) → IsClosed c.program c.shapes c.ctx_len plan → IsShownBy c.program c.shapes c.ctx_len plan c.shapes r u

  module _ (run : Run) (v : RunView) (all : AreShown run v) where
    abbrev pub shown : IsShownBy c.program c.shapes c.ctx_len some.plan c.shapes run v
    shown = all some.plan some.closed

    -- the run's steps may be made, and its words stand for it
    pub standing : IsRunOfChecked c v
    standing = stands c.program c.shapes c.ctx_len real some c.shapes run v all

    pub steps : CanStep c v
    steps = can_step c justified v standing

    abbrev pub Known : Insn → Type 0
    Known i = insn_at c.program run.state.place ≡ Some i

    pub known : (i : Insn) → insn_at c.program v.place ≡ Some i → Known i
    known i here = ap (insn_at c.program) (sym shown.words.place) ∙ here

    -- what the run asks, by the shapes of its maps
    abbrev pub listed : ℕ → Option MapShape
    listed = bound_shape (store_of c.shapes []) run.program.maps

    pub so : (plan : Plan) (closed : IsClosed c.program c.shapes c.ctx_len plan) (i : Insn) (asked : Asked) → Known i
        → asks_of i listed run.state ≡ Some asked
        → AsksSo (ready plan closed) (all plan closed) i asked
    so plan closed i asked here e = asks-so (ready plan closed) (all plan closed) i asked here e

    -- where it asks something, its words wait
    asks-words : (i : Insn) (asked : Asked) → Known i → asks_of i listed run.state ≡ Some asked → laws.local_of i v ≡ laws.Asks
    asks-words i asked here e = (so some.plan some.closed i asked here e).local

    -- the step that its plan promises
    abbrev Turns : Insn → Type 0
    Turns i = Turn (ready some.plan some.closed) shown i

    turned : (i : Insn) → Known i → Turns i
    turned i here = turn (ready some.plan some.closed) shown i here

    abbrev Doing : Outcome → laws.LocalStep → Type 0
    Doing out l = Does region_bases v run out l

    acted : (i : Insn) (out : Outcome) (l : laws.LocalStep) → Known i → after_insn i (environment run) run.state ≡ Some out →
        laws.local_of i v ≡ l → Doing out l
    acted i out l here e is =
        subst (Doing out) is (acts-alone (among (ready some.plan some.closed) shown) i out here e)

    -- it goes on by itself
    pub record GoesOn (new : RunView) : Type 0 where
      pub insn : Insn
      pub here : Known insn
      pub next : State
      pub does : after_insn insn (environment run) run.state ≡ Some (Moves next)
      pub shows : AreShown (moves_run run next) new

    goes-to : (i : Insn) (out : Outcome) (new : RunView) → Known i → after_insn i (environment run) run.state ≡ Some out →
        laws.local_of i v ≡ laws.Goes new → Doing out (laws.Goes new) → GoesOn new
    goes-to i (Moves next) new here e is d = record {
      insn = i;
      here = here;
      next = next;
      does = e;
      shows = λ plan closed. goes-on (ready plan closed) (all plan closed) i next new here e is;
    }
    goes-to i (Exits n) new here e is d = absurd d

    goes-by : (i : Insn) (new : RunView) → Known i → laws.local_of i v ≡ laws.Goes new → Turns i → GoesOn new
    goes-by i new here is (Acts out e depth) = goes-to i out new here e is (acted i out (laws.Goes new) here e is)
    goes-by i new here is (AsksFor asked e) = absurd (goes-asks new (sym is ∙ asks-words i asked here e))

    pub goes : (new : RunView) → TakesStep c v locals.Moved new → GoesOn new
    goes new s =
        let here = known s.0 s.1 in
        goes-by s.0 new here (went (laws.local_of s.0 v) (request_of s.0 v) v new s.2) (turned s.0 here)

    -- it ends, outside every section
    pub record EndsWith (n : ℕ) : Type 0 where
      pub insn : Insn
      pub here : Known insn
      pub does : after_insn insn (environment run) run.state ≡ Some (Exits n)
      pub outside : run.depth ≡ 0

    ends-at : (i : Insn) (out : Outcome) (n : ℕ) → Known i → after_insn i (environment run) run.state ≡ Some out →
        ((m : ℕ) → out ≡ Exits m → run.depth ≡ 0) → Doing out (laws.Ends n) → EndsWith n
    ends-at i (Moves next) n here e depth d = absurd d
    ends-at i (Exits m) n here e depth d = subst EndsWith (sym d) (record { insn = i; here = here; does = e; outside = depth m refl })

    ends-by : (i : Insn) (n : ℕ) → Known i → laws.local_of i v ≡ laws.Ends n → Turns i → EndsWith n
    ends-by i n here is (Acts out e depth) = ends-at i out n here e depth (acted i out (laws.Ends n) here e is)
    ends-by i n here is (AsksFor asked e) = absurd (ends-asks n (sym is ∙ asks-words i asked here e))

    pub ends : (n : ℕ) (new : RunView) → TakesStep c v (locals.Exit n) new → EndsWith n × (new ≡ ended_view n v)
    ends n new s =
        let here = known s.0 s.1 in
        let o = ended (laws.local_of s.0 v) (request_of s.0 v) v new n s.2 in
        (ends-by s.0 n here o.0 (turned s.0 here), o.1)

    -- a run whose words wait asks what they ask
    pub record Asking (i : Insn) (request : Request) (after : RunView) : Type 0 where
      pub here : Known i
      pub asked : Asked
      pub is : asks_of i listed run.state ≡ Some asked
      pub words : request_of i v ≡ Some request
      pub same : after ≡ v

    no-acts : (out : Outcome) → Doing out laws.Asks → ⊥
    no-acts (Moves next) d = absurd d
    no-acts (Exits n) d = absurd d

    asks-by : (i : Insn) → Known i → laws.local_of i v ≡ laws.Asks → Turns i → (asked : Asked) × (asks_of i listed run.state ≡ Some asked)
    asks-by i here is (Acts out e depth) = absurd (no-acts out (acted i out laws.Asks here e is))
    asks-by i here is (AsksFor asked e) = (asked, e)

    pub asks : (request : Request) (after : RunView) (s : TakesStep c v (locals.Shared request) after) → Asking s.0 request after
    asks request after s =
        let here = known s.0 s.1 in
        let o = waited (laws.local_of s.0 v) (request_of s.0 v) v after request s.2 in
        let a = asks-by s.0 here o.0 (turned s.0 here) in
        record { here = here; asked = a.0; is = a.1; words = o.1; same = o.2 }
