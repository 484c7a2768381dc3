-- A shared run that is stepped in a loop: each step of its course, and each reply, takes its seat further.
use Rattle.bpf_model.proofs.Prelude.{◌≡◌, ℕ, ◌<◌, ◌-◌, refl, sym, ap, subst, arith, List, [], Some, length, AreBytes, insn_at, RunView}
use Rattle.machine.proofs.Prelude.{IsOn, view_of, words_of, resumed_view, Awaits, IsReplyTo, IsRunOfChecked, TakesStep, HasFreshRegisters, IsFreshWorkspace}
use Rattle.model_laws.proofs.Prelude.{Insn, FRAME_BYTES, fresh_view}
use Rattle.verifier.proofs.Prelude.{Checked, IsJustified}
use Rattle.machine.specs.declared.course.Course.{Course}
use Rattle.machine.specs.declared.request.Local.TheVariants.{Exit, Moved, Shared}
use Rattle.machine.specs.declared.request.Request.{Request}
use Rattle.machine.specs.declared.workspace.Workspace.{Workspace}
use Rattle.machine.specs.Courses.{words_after}
use Rattle.machine.specs.RunWords.{IsAt as StandsAt}
use Rattle.machine.proofs.Coursing.{is_at}
use Rattle.shared_runs.specs.Running.{HasComeTo, RunsOver}
use Rattle.shared_runs.specs.Serving.{IsServable, Serves, asking}
use Rattle.shared_runs.specs.Sharing.{flag_of}
use Rattle.shared_runs.specs.Tables.{AreSteps, IsSmall, IsTable, Table}
use Rattle.shared_runs.specs.Words.{FitsTable, StoresSubWords}
use Rattle.shared_runs.proofs.Seated as seated

-- A course that starts with a fresh workspace starts so with fresh registers and any frame.
fresh_but_frame : (c : Checked) (context : List ℕ) (course : Course) (w : Workspace) → HasFreshRegisters w →
    ((v : Workspace) → IsFreshWorkspace v → view_of c context course v ≡ fresh_view 0 context) →
    view_of c context course w ≡ record (fresh_view 0 context) { frame = w.frame }
fresh_but_frame c context course w fresh view =
    let first : Workspace = record { registers = (fresh_view 0 []).registers; frame = (fresh_view 0 []).frame } in
    let e = ap (λ (v : RunView). record v { frame = w.frame }) (view first (record { registers = refl; frame = refl })) in
    subst (λ (rs : List ℕ). record (view_of c context course w) { registers = rs } ≡ record (fresh_view 0 context) { frame = w.frame }) (sym fresh) e

module _ {Seat : Type 0} {k : Table} {IsAt : Seat → Type 0} {mine : Seat → List k.Move} {Goes : Seat → List k.Move → Seat → Type 0}
    (keeps : IsTable k) (steps : AreSteps k IsAt mine Goes) (c : Checked) (context : List ℕ) {start : Seat} (at_start : IsAt start) where
  -- what the loop keeps
  abbrev pub Kept : Seat → Course → Workspace → Type 0
  Kept now course w = IsOn c course × HasComeTo k Goes c context start now (words_of c context course w)

  pub has-started : (course : Course) (w : Workspace) → IsSmall k → IsJustified c → FitsTable k c.shapes → (StoresSubWords c → ⊥) →
      length context ≡ c.ctx_len → AreBytes context → IsOn c course → HasFreshRegisters w → length w.frame ≡ FRAME_BYTES →
      ((v : Workspace) → IsFreshWorkspace v → view_of c context course v ≡ fresh_view 0 context) → Kept start course w
  has-started course w small j maps words long bytes on fresh cells view = (
    on,
    seated.has-started k IsAt mine Goes keeps steps c context start at_start (words_of c context course w) small j maps words long bytes
        (is_at c context course w on) cells (fresh_but_frame c context course w fresh view),
  )

  module _ (now : Seat) (course : Course) (w : Workspace) (outside : k.inside (mine start) ≡ 0) (h : Kept now course w) where
    pub stands : IsRunOfChecked c (view_of c context course w)
    stands = (seated.stands k IsAt mine Goes keeps steps c context start at_start now (words_of c context course w) outside h.1).stands

    pub at-now : IsAt now
    at-now = seated.at-now k IsAt mine Goes keeps steps c context start at_start now (words_of c context course w) outside h.1

    below : course.moved < length c.program
    below = seated.below k IsAt mine Goes keeps steps c context start at_start now (words_of c context course w) outside h.1

    module _ (after : Course) (new : Workspace) (on : IsOn c after) where
      -- it has moved on by itself
      pub moved-on : TakesStep c (view_of c context course w) Moved (view_of c context after new) →
          Kept now after new × (length c.program - after.moved < length c.program - course.moved)
      moved-on t =
          let m = seated.moved-on k IsAt mine Goes keeps steps c context start at_start now (words_of c context course w) outside h.1
          (words_of c context after new) (is_at c context after new on) t in
          let b = below in
          let f = m.1 in
          ((on, m.0), omega (arith, b, f))

      -- it has exited
      pub exited : (n : ℕ) → TakesStep c (view_of c context course w) (Exit n) (words_after c context (Exit n) after new).view →
          StandsAt c.program (words_after c context (Exit n) after new) → RunsOver k Goes c context start now n × (k.inside (mine now) ≡ 0)
      exited n t at =
          seated.exited k IsAt mine Goes keeps steps c context start at_start now (words_of c context course w) outside h.1
          (words_after c context (Exit n) after new) at n
          t

      -- it asks, with so many open locks
      module _ (request : Request) (t : TakesStep c (view_of c context course w) (Shared request) (view_of c context after new))
          (depth : ℕ) (opened : depth ≡ after.depth) where
        pub servable : (v : RunView) × IsServable k (mine now) (asking new depth v) request
        servable = (
          view_of c context after new,
          subst (λ (d : ℕ). IsServable k (mine now) (asking new d (view_of c context after new)) request) (sym opened)
              (seated.servable k IsAt mine Goes keeps steps c context start at_start now (words_of c context course w) outside h.1
              (words_of c context after new) (is_at c context after new on) request t),
        )

        pub section : k.inside (mine now) ≡ flag_of depth
        section = subst (λ (d : ℕ). k.inside (mine now) ≡ flag_of d) (sym opened)
            (seated.section k IsAt mine Goes keeps steps c context start at_start now (words_of c context course w) outside h.1
            (words_of c context after new) (is_at c context after new on) request t)

        module _ (ns : List k.Move) (word : ℕ) (serves : (v : RunView) → Serves k (asking new depth v) request ns word) where
          served : Serves k (view_of c context after new) request ns word
          served = subst (λ (d : ℕ). Serves k (asking new d (view_of c context after new)) request ns word) opened (serves (view_of c context after
              new))

          pub answered : Awaits c request (words_of c context after new) → (bytes : List ℕ) × IsReplyTo c request (words_of c bytes after new) word
          answered a = (
            context,
            seated.answered k IsAt mine Goes keeps steps c context start at_start now (words_of c context course w) outside h.1
                (words_of c context after new) (is_at c context after new on) request t ns word served a,
          )

          pub resumed-on : (later : Seat) (behind : Course) (last : Workspace) → Goes now ns later → IsOn c behind →
              ((bytes : List ℕ) (insn : Insn) → insn_at c.program (view_of c bytes after new).place ≡ Some insn →
              view_of c bytes behind last ≡ resumed_view insn word (view_of c bytes after new)) →
              Kept later behind last × (length c.program - behind.moved < length c.program - course.moved)
          resumed-on later behind last goes there view =
              let m = seated.resumed-on k IsAt mine Goes keeps steps c context start at_start now (words_of c context course w) outside h.1
              (words_of c context after new) (is_at c context after new on) request t ns word served later
              (words_of c context behind last) goes (is_at c context behind last there) (view context) in
              let b = below in
              let f = m.1 in
              ((there, m.0), omega (arith, b, f))
