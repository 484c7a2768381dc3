use Rattle.bpf_model.proofs.Prelude.{◌≡◌, ◌∙◌, ℕ, List, Some, None, sym, ap, subst, slice_get, IfNone, false≢true}
use Rattle.world.proofs.Prelude.{HasNoRun}
use Rattle.world_laws.proofs.Prelude.{HasExited}
use Rattle.world.specs.declared.kept.loaded.Loaded.{Loaded}
use Rattle.world.proofs.Slots.{Runs}
use Rattle.world.proofs.Exits.{exits-nowhere, exits-unloaded, exits-other, exits-some, exits-none}
use Rattle.world.proofs.kept.parts.Parts.exit_of.Goals as goal

pub returns-in_err-found-clause-none : goal.returns-in_err-found-clause-none
returns-in_err-found-clause-none c =
    let nowhere : HasNoRun c.self.inside.runs.items c.args.run =
    subst (λ (rs : Runs). HasNoRun rs c.args.run) c.deref.ensures.value c.in_err-found.ensures.none in
    subst (λ o. IfNone o ((n : ℕ) → HasExited c.args.self.now c.args.run c.args.program.now.program
    c.args.program.now.shapes c.args.program.now.ctx_len c.args.ctx.now.items n → ⊥))
    (sym c.from_residual.ensures)
    (exits-nowhere c.self.inside.registry.names c.self.inside.registry.maps c.self.inside.runs.items
    c.self.inside.grace c.self.inside.programs.items c.self.inside.given c.args.self.now c.self.view_is c.args.run
    c.args.program.now.program c.args.program.now.shapes c.args.program.now.ctx_len c.args.ctx.now.items nowhere)

pub returns-in_err-loaded-clause-none : goal.returns-in_err-loaded-clause-none
returns-in_err-loaded-clause-none c =
    let there : slice_get c.self.inside.runs.items c.args.run ≡ Some (Some c.in_ok-found.found.now) =
    ap (λ (rs : Runs). slice_get rs c.args.run) (sym c.deref.ensures.value) ∙ c.in_ok-found.ensures.some in
    let gone : slice_get c.self.inside.programs.items c.in_ok-found.found.now.view.program ≡ None =
    ap (slice_get c.self.inside.programs.items) (sym (c.new.ensures ∙ c.program.ensures)) ∙
    (ap (λ (ps : List Loaded). slice_get ps c.new.result) (sym c.deref-2.ensures.value) ∙
    sym c.in_err-loaded.ensures) in
    subst (λ o. IfNone o ((n : ℕ) → HasExited c.args.self.now c.args.run c.args.program.now.program
    c.args.program.now.shapes c.args.program.now.ctx_len c.args.ctx.now.items n → ⊥))
    (sym c.from_residual-in_err-loaded.ensures)
    (exits-unloaded c.self.inside.registry.names c.self.inside.registry.maps c.self.inside.runs.items
    c.self.inside.grace c.self.inside.programs.items c.self.inside.given c.args.self.now c.self.view_is c.args.run
    c.args.program.now.program c.args.program.now.shapes c.args.program.now.ctx_len c.args.ctx.now.items
    c.in_ok-found.found.now there gone)

pub returns-then-is_asked-clause-some : goal.returns-then-is_asked-clause-some
returns-then-is_asked-clause-some c =
    let there : slice_get c.self.inside.runs.items c.args.run ≡ Some (Some c.in_ok-found.found.now) =
    ap (λ (rs : Runs). slice_get rs c.args.run) (sym c.deref.ensures.value) ∙ c.in_ok-found.ensures.some in
    let loaded : slice_get c.self.inside.programs.items c.in_ok-found.found.now.view.program ≡ Some
    c.in_ok-loaded.loaded.now = ap (slice_get c.self.inside.programs.items)
    (sym (c.new.ensures ∙ c.program.ensures)) ∙ (ap (λ (ps : List Loaded). slice_get ps c.new.result)
    (sym c.deref-2.ensures.value) ∙ sym c.in_ok-loaded.ensures) in
    exits-some c.self.inside.registry.names c.self.inside.registry.maps c.self.inside.runs.items c.self.inside.grace
    c.self.inside.programs.items c.self.inside.given c.args.self.now c.self.view_is c.args.run
    c.args.program.now.program c.args.program.now.shapes c.args.program.now.ctx_len c.args.ctx.now.items
    c.in_ok-found.found.now there c.in_ok-loaded.loaded.now loaded
    (c.self.invariant.kept.bound c.in_ok-found.found.now.view.program c.in_ok-loaded.loaded.now loaded)
    (c.is_asked.ensures.0 c.if-is_asked.true) c.exit.result c.exit.ensures

pub returns-then-is_asked-clause-none : goal.returns-then-is_asked-clause-none
returns-then-is_asked-clause-none c =
    let there : slice_get c.self.inside.runs.items c.args.run ≡ Some (Some c.in_ok-found.found.now) =
    ap (λ (rs : Runs). slice_get rs c.args.run) (sym c.deref.ensures.value) ∙ c.in_ok-found.ensures.some in
    let loaded : slice_get c.self.inside.programs.items c.in_ok-found.found.now.view.program ≡ Some
    c.in_ok-loaded.loaded.now = ap (slice_get c.self.inside.programs.items)
    (sym (c.new.ensures ∙ c.program.ensures)) ∙ (ap (λ (ps : List Loaded). slice_get ps c.new.result)
    (sym c.deref-2.ensures.value) ∙ sym c.in_ok-loaded.ensures) in
    exits-none c.self.inside.registry.names c.self.inside.registry.maps c.self.inside.runs.items c.self.inside.grace
    c.self.inside.programs.items c.self.inside.given c.args.self.now c.self.view_is c.args.run
    c.args.program.now.program c.args.program.now.shapes c.args.program.now.ctx_len c.args.ctx.now.items
    c.in_ok-found.found.now there c.in_ok-loaded.loaded.now loaded
    (c.self.invariant.kept.bound c.in_ok-found.found.now.view.program c.in_ok-loaded.loaded.now loaded)
    c.exit.result c.exit.ensures

pub returns-else-is_asked-clause-none : goal.returns-else-is_asked-clause-none
returns-else-is_asked-clause-none c =
    let there : slice_get c.self.inside.runs.items c.args.run ≡ Some (Some c.in_ok-found.found.now) =
    ap (λ (rs : Runs). slice_get rs c.args.run) (sym c.deref.ensures.value) ∙ c.in_ok-found.ensures.some in
    let loaded : slice_get c.self.inside.programs.items c.in_ok-found.found.now.view.program ≡ Some
    c.in_ok-loaded.loaded.now = ap (slice_get c.self.inside.programs.items)
    (sym (c.new.ensures ∙ c.program.ensures)) ∙ (ap (λ (ps : List Loaded). slice_get ps c.new.result)
    (sym c.deref-2.ensures.value) ∙ sym c.in_ok-loaded.ensures) in
    exits-other c.self.inside.registry.names c.self.inside.registry.maps c.self.inside.runs.items c.self.inside.grace
    c.self.inside.programs.items c.self.inside.given c.args.self.now c.self.view_is c.args.run
    c.args.program.now.program c.args.program.now.shapes c.args.program.now.ctx_len c.args.ctx.now.items
    c.in_ok-found.found.now there c.in_ok-loaded.loaded.now loaded
    (c.self.invariant.kept.bound c.in_ok-found.found.now.view.program c.in_ok-loaded.loaded.now loaded)
    (λ same. false≢true (sym c.if-is_asked.false ∙ c.is_asked.ensures.1 same))
