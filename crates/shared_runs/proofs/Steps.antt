-- Each step of the words of a shared run is a step of the run.
use Rattle.bpf_model.proofs.Prelude.{◌≡◌, ℕ, suc, ◌+◌, ◌%◌, ◌<◌, ◌≤◌, inl, inr, refl, sym, ap, subst, ◌∙◌, arith, List, [], ◌++◌, length, Option, Some, Bool}
use Rattle.bpf_model.proofs.Prelude.{true, ℤ, slice_get, pos, negsuc, ◌==◌, ◌&&◌, nat_le, range_with_len, fun_ext, and_parts, cases_lt, eqb-true, cond_some}
use Rattle.bpf_model.proofs.Prelude.{none-some, slice_get_past, length-range_with_len, region_offset, Loaded, Run, fresh_run, bound_shape, Resumes, Exits}
use Rattle.bpf_model.proofs.Prelude.{Moves, insn_at, ◌>>=◌, RunView, get-below, get-map}
use Rattle.machine.proofs.Prelude.{IsRunOfChecked, CanStep, MovesOn, TakesStep, stays}
use Rattle.model_laws.proofs.Prelude.{Insn, MapShape, Value}
use Rattle.verifier.proofs.Prelude.{Checked}
use Rattle.world_laws.proofs.Prelude.{store_of, IsShownBy}
use Rattle.bpf_model.specs.Machine.{exits as exits_run, moves as moves_run}
use Rattle.bpf_model.specs.MapState as map_state
use Rattle.bpf_model.specs.Request.{Request as Asked, asks as asks_of}
use Rattle.world_laws.proofs.Contents.{get-range}
use Rattle.machine.specs.declared.request.Local.TheVariants as locals
use Rattle.machine.specs.Steps.{moves as more}
use Rattle.shared_runs.specs.Tables.{Table}
use Rattle.shared_runs.specs.Sharing.{ExitsShared, GoesFurther, IsSharing, flag_of}
use Rattle.shared_runs.specs.SharedRuns.{Comes, IsSharedRun, Replies, itself, shared}
use Rattle.shared_runs.specs.Words.{loaded_of}
use Rattle.shared_runs.proofs.Learning.{AreHash, Planned, alone-learnt}
use Rattle.shared_runs.proofs.Stepped.{AreShown, ends, goes, some}
use Rattle.shared_runs.proofs.Stepped as stepped

-- the shapes of the maps of the program's list, as the laws of a run's own maps have them
shape-in : (shapes : List MapShape) (i : ℕ) → slice_get shapes i ≡ bound_shape (store_of shapes []) (range_with_len 0 (length shapes)) i
shape-in shapes i = elim (cases_lt i (length shapes)) [
  | inl l ↦
      let x = get-below shapes i l in
      x.1 ∙ sym (ap (λ o. o >>= map_state.shape_of (store_of shapes [])) (get-range (length shapes) i l) ∙
      ap map_state.shape_in (get-map map_state.new_map shapes i x.0 x.1))
  | inr l ↦
      slice_get_past shapes i l ∙ sym (ap (λ o. o >>= map_state.shape_of (store_of shapes []))
      (slice_get_past (range_with_len 0 (length shapes)) i
      (let long : length (range_with_len 0 (length shapes)) ≡ length shapes =
      length-range_with_len 0 (length shapes) in omega (arith, long, l))))
]

pub same-shapes : (shapes : List MapShape) → slice_get shapes ≡ bound_shape (store_of shapes []) (range_with_len 0 (length shapes))
same-shapes shapes = fun_ext (λ i. shape-in shapes i)

-- an access is aligned
pub aligned : (len width : ℕ) (o : ℤ) (at : ℕ) → region_offset len width o ≡ Some at → at % width ≡ 0
aligned len width (pos o) at e =
    let c = cond_some (nat_le (o + width) len && (o % width == 0)) o at e in
    let z : o % width ≡ 0 = eqb-true (o % width) 0 (and_parts (nat_le (o + width) len) (o % width == 0) c.0).1 in
    ap (λ (n : ℕ). n % width) (sym c.1) ∙ z
aligned len width (negsuc o) at e = absurd (none-some at e)

module _ (k : Table) (c : Checked) (context : List ℕ) (ms : List k.Move) (v : RunView) (x : IsSharing k c context ms v) where
  abbrev pub run : Run
  run = x.run

  pub are-hash : AreHash c.shapes
  are-hash i shape at = (x.fits i shape at).1

  -- the run's steps may be made
  pub standing : IsRunOfChecked c v
  standing = stepped.standing c x.justified run v x.shown

  pub steps : CanStep c v
  steps = stepped.steps c x.justified run v x.shown

  abbrev shown : IsShownBy c.program c.shapes c.ctx_len (some c x.justified).plan c.shapes run v
  shown = stepped.shown c x.justified run v x.shown

  in-program : (i : Insn) → insn_at c.program run.state.place ≡ Some i → insn_at run.program.code run.state.place ≡ Some i
  in-program i here = ap (λ (p : Loaded). insn_at p.code run.state.place) x.program ∙ here

  -- what the run asks, by the shapes of its maps
  abbrev listed : ℕ → Option MapShape
  listed = stepped.listed c x.justified run v x.shown

  pub listed-shapes : slice_get c.shapes ≡ listed
  listed-shapes = same-shapes c.shapes ∙ ap (λ (p : Loaded). bound_shape (store_of c.shapes []) p.maps) (sym x.program)

  asked-listed : (i : Insn) (request : Asked) → asks_of i listed run.state ≡ Some request → asks_of i (slice_get c.shapes) run.state ≡ Some request
  asked-listed i request e =
      ap (λ (shapes : ℕ → Option MapShape). asks_of i shapes run.state) listed-shapes ∙ e

  -- what is planned of the next run
  abbrev NextPlanned : (ℕ → Bool) → Run → Type 0
  NextPlanned later new =
      Planned c.program c.shapes c.ctx_len are-hash (some c x.justified).plan (some c x.justified).closed run
      shown.described x.learnt x.index x.planned later new

  -- the run and its words go on
  pub onward : (ns : List k.Move) (next : Run) (u : RunView) (later : ℕ → Bool) →
      AreShown c x.justified next u → next.program ≡ run.program →
      next.moved ≡ run.moved + 1
      → NextPlanned later next → Comes k c.shapes (fresh_run 0 (loaded_of c) context) ns (suc v.moved) next
      → ((slot : ℕ) → later slot ≡ true → (slot < k.elements) × k.Holds slot ns) → k.inside ns ≡ flag_of next.depth → GoesFurther k c context ns v u
  onward ns next u later all program counts planned came known_later at_depth =
      let w = all (some c x.justified).plan (some c x.justified).closed in
      let old_moved : v.moved ≡ run.moved = shown.words.moved in
      let new_moved : u.moved ≡ next.moved = w.words.moved in
      let moved : suc v.moved ≡ u.moved = omega (arith, counts, old_moved, new_moved) in
      record {
        sharing = record {
          justified = x.justified;
          fits = x.fits;
          few = x.few;
          words = x.words;
          run = next;
          program = program ∙ x.program;
          shown = all;
          learnt = later;
          known = known_later;
          index = planned.0;
          planned = planned.1;
          came = subst (λ (n : ℕ). Comes k c.shapes (fresh_run 0 (loaded_of c) context) ns n next) moved came;
          section = at_depth ∙ ap flag_of (sym w.words.depth);
        };
        counts = omega (arith, moved);
      }

  depth-is : v.depth ≡ run.depth
  depth-is = shown.words.depth

  -- it goes on by itself
  pub moves : (new : RunView) → TakesStep c v locals.Moved new → GoesFurther k c context ms v new
  moves new s =
      let g = goes c x.justified run v x.shown new s in
      let next = moves_run run g.next in
      onward ms next new x.learnt g.shows refl refl
      (alone-learnt c.program c.shapes c.ctx_len are-hash (some c x.justified).plan (some c x.justified).closed run
      shown.described x.learnt x.index x.planned g.insn g.next g.here g.does shown.described.going)
      (itself ms v.moved run next x.came
      (record { insn = g.insn; here = in-program g.insn g.here; out = Moves g.next; does = g.does; leads = (refl, refl) }))
      x.known (x.section ∙ ap flag_of depth-is)

  -- it ends, outside every section
  pub exits : (n : ℕ) (new : RunView) → TakesStep c v (locals.Exit n) new → ExitsShared k c context ms new n
  exits n new s =
      let e = ends c x.justified run v x.shown n new s in
      let exit : IsSharedRun k c.shapes (loaded_of c) context ms (v.moved + 1) n =
      record {
        fits = x.fits;
        name = 0;
        moves = v.moved;
        last = run;
        new = exits_run run n;
        comes = x.came;
        exits = record { insn = e.0.insn; here = in-program e.0.insn e.0.here; out = Exits n; does = e.0.does; leads = (e.0.outside, refl, refl) };
        steps_are = omega arith;
      } in
      record {
        exit = subst (λ (u : RunView). IsSharedRun k c.shapes (loaded_of c) context ms (u.moved + 1) n) (sym e.1) exit;
        outside = x.section ∙ ap flag_of (depth-is ∙ e.0.outside);
        insn = s.0;
        here = subst (λ (u : RunView). insn_at c.program u.place ≡ Some s.0) (sym e.1) s.1;
      }

  -- a step of the run that its seat serves
  pub served-step : (i : Insn) (asked : Asked) → insn_at c.program run.state.place ≡ Some i → asks_of i listed run.state ≡ Some asked →
      (ns : List k.Move) (reply : Value) (next : Run) → Replies k run.depth ms asked ns reply →
      Resumes asked i reply run next
      → Comes k c.shapes (fresh_run 0 (loaded_of c) context) (ns ++ ms) (suc v.moved) next
  served-step i asked here e ns reply next replied resumes =
      shared ms ns v.moved run next x.came (record {
        insn = i;
        here = in-program i here;
        request = asked;
        reply =
            reply;
        asked = asked-listed i asked e;
        replied = replied;
        resumes = resumes;
      })

-- moves one after another
pub goes-on : (k : Table) (c : Checked) (context : List ℕ) (ms : List k.Move) (v new : RunView) →
    IsSharing k c context ms v → MovesOn c v new → IsSharing k c context ms new × (v.moved ≤ new.moved)
goes-on k c context ms v new x stays = (x, omega arith)
goes-on k c context ms v new x (more before next m step) =
    let b = goes-on k c context ms v before x m in
    let f = moves k c context ms before b.0 next step in
    (f.sharing, omega (arith, b.1, f.counts))
