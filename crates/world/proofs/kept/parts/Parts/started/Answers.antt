use Rattle.bpf_model.proofs.Prelude.{◌≡◌, ◌∙◌, List, Some, None, sym, ap, length, slice_get, map, lowest_free}
use Rattle.model_laws.proofs.Prelude.{Started, with_run, fresh_view}
use Rattle.world.proofs.Prelude.{view_of}
use Rattle.world.specs.declared.kept.loaded.Loaded.{Loaded}
use Rattle.world.proofs.Runs.{started-kept, started-view, started}
use Rattle.world.proofs.SlotFlags.{flags-set}
use Rattle.world.proofs.kept.parts.Parts.started.Goals as goal

pub invariant_of-self : goal.invariant_of-self
invariant_of-self c =
    let there : slice_get c.self.inside.programs.items c.args.prog ≡ Some c.in-Some.program.now =
    ap (λ (ps : List Loaded). slice_get ps c.args.prog) (sym c.deref.ensures.value) ∙ sym c.in-Some.ensures in
    let fresh : c.start.result.view ≡ fresh_view c.args.prog c.args.ctx.now.items = c.start.ensures.view ∙
    ap (λ p. fresh_view p c.args.ctx.now.items) c.index.ensures in
    let free : slice_get c.self.inside.runs.items c.in-Some-lowest_free.slot ≡ Some None =
    c.in-Some-lowest_free.ensures.free c.self.inside.runs.items (c.deref-2.ensures.value ∙ c.self.invariant.flagged) in
    record {
      kept = record {
        of_runs = started-kept c.self.inside.registry.names c.self.inside.registry.maps c.self.inside.runs.items
            c.self.inside.grace c.self.inside.programs.items c.self.inside.given c.in-Some-lowest_free.slot c.args.prog
            c.args.ctx.now.items c.in-Some.program.now c.start.result free c.self.invariant.kept.of_runs there fresh
            (c.start.ensures.run c.in-Some.program.now.verified.program);
        bound = c.self.invariant.kept.bound;
      };
      flagged = flags-set c.self.inside.runs.items c.self.inside.flags.items c.in-Some-lowest_free.slot (Some c.start.result) c.self.invariant.flagged;
    }

pub returns-in-None-lowest_free-clause-answer : goal.returns-in-None-lowest_free-clause-answer
returns-in-None-lowest_free-clause-answer c =
    let there : slice_get c.self.inside.programs.items c.args.prog ≡ Some c.in-Some.program.now =
    ap (λ (ps : List Loaded). slice_get ps c.args.prog) (sym c.deref.ensures.value) ∙ sym c.in-Some.ensures in
    let long : length c.args.ctx.now.items ≡ c.in-Some.program.now.verified.ctx_len = sym c.len.ensures.value ∙
    (c.if-len-ctx_len.false ∙ c.ctx_len.ensures.value) in
    let free : None ≡ lowest_free (map view_of c.self.inside.runs.items) = sym c.in-None-lowest_free.is ∙
    c.lowest_free.ensures.slot c.self.inside.runs.items (c.deref-2.ensures.value ∙ c.self.invariant.flagged) in
    let e = started c.self.inside.registry.names c.self.inside.registry.maps c.self.inside.runs.items
    c.self.inside.grace c.self.inside.programs.items c.self.inside.given c.args.prog c.args.ctx.now.items
    c.in-Some.program.now None c.args.self.now c.self.view_is there long free in
    sym (ap (λ r. r.0) e)

pub returns-in-Some-lowest_free-clause-answer : goal.returns-in-Some-lowest_free-clause-answer
returns-in-Some-lowest_free-clause-answer c =
    let there : slice_get c.self.inside.programs.items c.args.prog ≡ Some c.in-Some.program.now =
    ap (λ (ps : List Loaded). slice_get ps c.args.prog) (sym c.deref.ensures.value) ∙ sym c.in-Some.ensures in
    let long : length c.args.ctx.now.items ≡ c.in-Some.program.now.verified.ctx_len = sym c.len.ensures.value ∙
    (c.if-len-ctx_len.false ∙ c.ctx_len.ensures.value) in
    let free : Some c.in-Some-lowest_free.slot ≡ lowest_free (map view_of c.self.inside.runs.items) =
    c.in-Some-lowest_free.ensures.slot c.self.inside.runs.items (c.deref-2.ensures.value ∙ c.self.invariant.flagged) in
    let e = started c.self.inside.registry.names c.self.inside.registry.maps c.self.inside.runs.items
    c.self.inside.grace c.self.inside.programs.items c.self.inside.given c.args.prog c.args.ctx.now.items
    c.in-Some.program.now (Some c.in-Some-lowest_free.slot) c.args.self.now c.self.view_is there long free in
    ap (λ r. Started r) c.new.ensures ∙ sym (ap (λ r. r.0) e)

pub returns-in-Some-lowest_free-clause-new : goal.returns-in-Some-lowest_free-clause-new
returns-in-Some-lowest_free-clause-new c =
    let there : slice_get c.self.inside.programs.items c.args.prog ≡ Some c.in-Some.program.now =
    ap (λ (ps : List Loaded). slice_get ps c.args.prog) (sym c.deref.ensures.value) ∙ sym c.in-Some.ensures in
    let long : length c.args.ctx.now.items ≡ c.in-Some.program.now.verified.ctx_len = sym c.len.ensures.value ∙
    (c.if-len-ctx_len.false ∙ c.ctx_len.ensures.value) in
    let free : Some c.in-Some-lowest_free.slot ≡ lowest_free (map view_of c.self.inside.runs.items) =
    c.in-Some-lowest_free.ensures.slot c.self.inside.runs.items (c.deref-2.ensures.value ∙ c.self.invariant.flagged) in
    let e = started c.self.inside.registry.names c.self.inside.registry.maps c.self.inside.runs.items
    c.self.inside.grace c.self.inside.programs.items c.self.inside.given c.args.prog c.args.ctx.now.items
    c.in-Some.program.now (Some c.in-Some-lowest_free.slot) c.args.self.now c.self.view_is there long free in
    let fresh : c.start.result.view ≡ fresh_view c.args.prog c.args.ctx.now.items = c.start.ensures.view ∙
    ap (λ p. fresh_view p c.args.ctx.now.items) c.index.ensures in
    let empty : slice_get c.self.inside.runs.items c.in-Some-lowest_free.slot ≡ Some None =
    c.in-Some-lowest_free.ensures.free c.self.inside.runs.items (c.deref-2.ensures.value ∙ c.self.invariant.flagged) in
    started-view c.self.inside.registry.names c.self.inside.registry.maps c.self.inside.runs.items c.self.inside.grace
    c.self.inside.programs.items c.self.inside.given c.in-Some-lowest_free.slot c.args.prog c.args.ctx.now.items
    c.in-Some.program.now c.start.result empty c.self.invariant.kept.of_runs there fresh
    (c.start.ensures.run c.in-Some.program.now.verified.program) c.keeps_awaited_open.ensures
    ∙ (ap (with_run c.in-Some-lowest_free.slot (Some (fresh_view c.args.prog c.args.ctx.now.items))) c.self.view_is
    ∙ sym (ap (λ r. r.1) e))
