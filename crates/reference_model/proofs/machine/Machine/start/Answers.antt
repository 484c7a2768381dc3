use Rattle.bpf_model.proofs.Prelude.{rules, ◌≡◌, ℕ, ◌+◌, ◌<◌, arith, length, Some, sym, ap, ◌∙◌, subst, vec_len, map, refl, slice_get, slice_set, Machine}
use Rattle.bpf_model.proofs.Prelude.{begins, fresh_run, lowest_free, DoesEvent, slice_get_read, map-set, length-map, get-map}
use Rattle.model_laws.proofs.Prelude.{Started}
use Rattle.std.specs.Option.{option_map}
use Rattle.bpf_model.specs.declared.event.Event.TheVariants as events
use Rattle.reference_model.specs.State.{machine_of}
use Rattle.reference_model.specs.RunState.{run_of, runs_of, run_with, loaded_of, or_no_program}
use Rattle.reference_model.proofs.BySlot.{lowest-within}
use Rattle.reference_model.proofs.Events.{start-does}
use Rattle.reference_model.proofs.machine.Machine.start.Goals as goal

pub index_mut-requires : goal.index_mut-requires
index_mut-requires c =
    let self = c.args.self.now in
    let items = self.runs.items in
    let len : vec_len self.runs ≡ length items = search rules in
    let free : lowest_free (runs_of self.programs.items items) ≡ Some c.in-Some.r = sym c.lowest_free.ensures ∙ c.in-Some.is in
    omega (arith, lowest-within (runs_of self.programs.items items) c.in-Some.r free, length-map items (option_map (run_of self.programs.items)), len)

pub returns-clause-machine : goal.returns-clause-machine
returns-clause-machine c =
    let self = c.args.self.now in
    let m = machine_of self in
    let programs = self.programs.items in
    let items = self.runs.items in
    let p = c.index-p.result in
    let r = c.in-Some.r in
    let x = c.index.result.now in
    let run = c.new.result in
    let len : vec_len self.programs ≡ length programs = search rules in
    let bound : p < length programs = omega (arith, c.if-p-len.false, c.len.ensures, len) in
    let one : slice_get programs p ≡ Some x = slice_get_read programs (length programs) p x refl bound c.index.ensures in
    let there : slice_get (map loaded_of programs) p ≡ Some (loaded_of x) = get-map loaded_of programs p x one in
    let fresh : run_of programs run ≡ fresh_run self.started (loaded_of x) c.args.ctx.items =
    ap (λ k. run_with (or_no_program (slice_get programs k)) run) c.new.ensures.program ∙
    ap (λ o. run_with (or_no_program o) run) one ∙ c.new.ensures.run (loaded_of x) in
    let runs : runs_of programs (slice_set items r (Some run)) ≡ slice_set m.runs r
    (Some (fresh_run self.started (loaded_of x) c.args.ctx.items)) =
    map-set (option_map (run_of programs)) items r (Some run) ∙ ap (λ f. slice_set m.runs r (Some f)) fresh in
    let at : ℕ → Machine = λ n. record { store = m.store; runs = runs_of programs (slice_set items r (Some run)); started = n; programs = m.programs } in
    let new : Machine = at c.in_ok-next.next in
    let is : new ≡ begins m r (loaded_of x) c.args.ctx.items = ap at c.in_ok-next.ensures ∙
    ap (λ rs. record { store = m.store; runs = rs; started = m.started + 1; programs = m.programs }) runs in
    let context : length c.args.ctx.items ≡ x.context_len = sym c.len-2.ensures.value ∙ c.if-len-index.false in
    let does = start-does m p r c.args.ctx (loaded_of x) new there context (sym c.lowest_free.ensures ∙ c.in-Some.is) is in
    subst (λ k. DoesEvent m (events.Start k c.args.ctx) (Started c.new-2.result) new) c.index-p.ensures
    (subst (λ q. DoesEvent m (events.Start p c.args.ctx) (Started q) new) (sym c.new-2.ensures) does)
