use Rattle.bpf_model.proofs.Prelude.{rules, ◌≡◌, ◌⊎◌, ℕ, List, [], false, refl, subst, inl, err_from_is_err_and, shapes_of_maps}
use Rattle.bpf_model.specs.declared.event.EventRefusal.{EventRefusal}
use Rattle.program_files.specs.declared.verdict.Verdict.TheVariants.{Memory}
use Rattle.command_words.specs.declared.request.MapElement.{MapElement}
use Rattle.commands.specs.declared.refusal.CommandRefusal.TheVariants.{File, Event as OfEvent}
use Rattle.commands.specs.Runs.{HasBadElement}
use Rattle.run_once.specs.declared.once.RunEnd.{RunEnd}
use Rattle.run_once.specs.declared.once.RunEnd.TheVariants.{Exited, NotDone}
use Rattle.run_once.specs.Once.{ComesTo, StopsAt}
use Rattle.commands.proofs.Ran.{are_updates, handed_on, with_maps, of_source, ended_of, context_told, puts_told, place_told}
use Rattle.commands.proofs.single.run_of.Goals as goal

pub returns-in_err-source-clause-refused : goal.returns-in_err-source-clause-refused
returns-in_err-source-clause-refused c bytes h =
    let p = err_from_is_err_and c.from_residual.result c.from_residual.ensures.1 in
    rw (p.1, p.2) (inl (inl (c.in_err-source.ensures.fault bytes h)))

pub returns-in_err-opened-clause-refused : goal.returns-in_err-opened-clause-refused
returns-in_err-opened-clause-refused c bytes h =
    let p = err_from_is_err_and c.from_residual-in_err-opened.result c.from_residual-in_err-opened.ensures.1 in
    rw (p.1, p.2) (inl (c.in_err-opened.ensures.refused bytes (c.in_ok-source.ensures.found bytes h)))

pub returns-then-len-ctx_len-clause-refused : goal.returns-then-len-ctx_len-clause-refused
returns-then-len-ctx_len-clause-refused c bytes h =
    let s = with_maps c.in_ok-source.source c.in_ok-opened.opened.registry in
    let good = handed_on bytes c.in_ok-source.source c.in_ok-opened.opened.registry c.in_ok-opened.ensures.registry
    (c.in_ok-source.ensures.found bytes h) c.in_ok-opened.ensures.graph c.in_ok-opened.ensures.verified in
    context_told bytes c.args.single.now s good (search rules)

pub returns-in_err-puts-clause-refused : goal.returns-in_err-puts-clause-refused
returns-in_err-puts-clause-refused c bytes h =
    let s = with_maps c.in_ok-source.source c.in_ok-opened.opened.registry in
    let good = handed_on bytes c.in_ok-source.source c.in_ok-opened.opened.registry c.in_ok-opened.ensures.registry
    (c.in_ok-source.ensures.found bytes h) c.in_ok-opened.ensures.graph c.in_ok-opened.ensures.verified in
    let p = err_from_is_err_and c.from_residual-in_err-puts.result c.from_residual-in_err-puts.ensures.1 in
    let v = c.in_err-puts.field-0.0 in
    let refused = subst (λ (es : List MapElement). (v ≡ File Memory)
    ⊎ ((r : EventRefusal) × HasBadElement s.registry es r × (v ≡ OfEvent r)))
    c.deref.ensures.value c.in_err-puts.ensures.refused in
    rw (p.1, p.2) (puts_told bytes c.args.single.now s v good (search rules) refused)

pub run_once-requires-clause-updates : goal.run_once-requires-clause-updates
run_once-requires-clause-updates c = are_updates c.in_ok-opened.opened.registry c.args.single.now.elements.items c.deref-3.result.now (search rules)

pub returns-in-Ok-text_of-clause-ended : goal.returns-in-Ok-text_of-clause-ended
returns-in-Ok-text_of-clause-ended c bytes h =
    let ran = c.in-Ok.ran in
    let s = with_maps c.in_ok-source.source c.in_ok-opened.opened.registry in
    let good = handed_on bytes c.in_ok-source.source c.in_ok-opened.opened.registry c.in_ok-opened.ensures.registry
    (c.in_ok-source.ensures.found bytes h) c.in_ok-opened.ensures.graph c.in_ok-opened.ensures.verified in
    let e = c.in-Exited.ended in
    let tells = c.args.tells in
    let puts : c.deref-3.result.now ≡ c.in_ok-puts.puts.items = search rules in
    let run = subst (λ (o : RunEnd). ComesTo (shapes_of_maps s.registry.maps) c.in_ok-opened.opened.verified.program
    c.deref-3.result.now c.array_of-context.result.items o tells ran.trace.items ran.world) c.in-Exited.is c.in-Ok.ensures in
    let text = c.in-Ok-text_of.ensures in (
      e,
      ran.trace.items,
      ran.world,
      text.0,
      ended_of bytes c.args.single.now s e tells ran.trace.items ran.world good (search rules) (search rules)
          (of_source c.args.single.now s c.in_ok-opened.opened.verified.program c.deref-3.result.now
          c.array_of-context.result.items (Exited e) tells ran.trace.items ran.world c.in_ok-opened.ensures.program
          (search rules) (search rules) run),
      text.1,
      text.2,
    )

pub returns-in-NotDone-clause-refused : goal.returns-in-NotDone-clause-refused
returns-in-NotDone-clause-refused c bytes h =
    let ran = c.in-Ok.ran in
    let k = c.in-NotDone.field-0 in
    let s = with_maps c.in_ok-source.source c.in_ok-opened.opened.registry in
    let good = handed_on bytes c.in_ok-source.source c.in_ok-opened.opened.registry c.in_ok-opened.ensures.registry
    (c.in_ok-source.ensures.found bytes h) c.in_ok-opened.ensures.graph c.in_ok-opened.ensures.verified in
    let run = subst (λ (o : RunEnd). ComesTo (shapes_of_maps s.registry.maps) c.in_ok-opened.opened.verified.program
    c.deref-3.result.now c.array_of-context.result.items o c.args.tells ran.trace.items ran.world) c.in-NotDone.is c.in-Ok.ensures in
    let stops : List ℕ → Type 0 = λ text. StopsAt (shapes_of_maps s.registry.maps) c.in_ok-opened.opened.verified.program
    c.deref-3.result.now c.array_of-context.result.items k text ran.world in
    let told : stops ran.trace.items = run in
    place_told bytes c.args.single.now s k ran.world good (search rules) (search rules)
    (of_source c.args.single.now s c.in_ok-opened.opened.verified.program c.deref-3.result.now
    c.array_of-context.result.items (NotDone k) false [] ran.world c.in_ok-opened.ensures.program
    (search rules) (search rules) (subst stops told.untold told))
