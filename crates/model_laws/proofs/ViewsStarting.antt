-- What a world makes of a start is a step of the schedule.
use Rattle.bpf_model.proofs.Prelude.{◌≡◌, ◌∙◌, ℕ, zero, suc, ◌+◌, ◌<◌, List, [], ◌∷◌, length, Option, Some, None, refl, sym, ap, arith, subst, Bool, true}
use Rattle.bpf_model.proofs.Prelude.{false, slice_get, slice_index, ◌==◌, if◌then◌else◌, none-some, length-replicate, entry_value, Element, Loaded, Run}
use Rattle.bpf_model.proofs.Prelude.{fresh_run, lowest_free, Answers, refusal, start_refusal, Schedule, DoesScheduled, WordIs, element_bases, RunView}
use Rattle.bpf_model.proofs.Prelude.{WorldView, RunRefines, RunSlotRefines, RefinesSchedule, oldest-none}
use Rattle.model_laws.proofs.Prelude.{Started, FRAME_BYTES, REGISTERS, EventRefusal, NoProgram, BadContext, fresh_view, with_run, start_by, start_reaction}
use Rattle.model_laws.proofs.Prelude.{Matches, Simulates}
use Rattle.std.specs.Option.{option_map}
use Rattle.arrayvec.specs.ArrayVec.{ArrayVec}
use Rattle.bpf_model.specs.declared.event.Event.TheVariants as events
use Rattle.bpf_model.specs.declared.event.EventRefusal.TheVariants.{RunsFull}
use Rattle.model_laws.proofs.Leaving.{free-there}
use Rattle.model_laws.proofs.ViewedWorlds.{refuses, steps}
use Rattle.model_laws.proofs.Running.{run-changed, run-world, lists-same}

-- the same run slots are free in the view and in the machine
module _ (slots : List ℕ) (es : List Element) (programs : List Loaded) where
  free-agrees : (vs : List (Option RunView)) (runs : List (Option Run)) →
      ((r : ℕ) → RunSlotRefines slots es programs (slice_get vs r) (slice_get runs r)) →
      lowest_free vs ≡ lowest_free runs
  free-agrees [] [] h = refl
  free-agrees [] (None ∷ runs) h = absurd (h 0)
  free-agrees [] (Some run ∷ runs) h = absurd (h 0)
  free-agrees (None ∷ vs) [] h = absurd (h 0)
  free-agrees (Some v ∷ vs) [] h = absurd (h 0)
  free-agrees (None ∷ vs) (None ∷ runs) h = refl
  free-agrees (None ∷ vs) (Some run ∷ runs) h = absurd (h 0)
  free-agrees (Some v ∷ vs) (None ∷ runs) h = absurd (h 0)
  free-agrees (Some v ∷ vs) (Some run ∷ runs) h = ap (option_map (λ r. r + 1)) (free-agrees vs runs (λ r. h (suc r)))

  fresh-words : (r : ℕ) → r < REGISTERS → WordIs (element_bases slots es) (entry_value r) (slice_index (fresh_view 0 []).registers r)
  fresh-words zero h = tt
  fresh-words (suc zero) h = refl
  fresh-words (suc (suc zero)) h = tt
  fresh-words (suc (suc (suc zero))) h = tt
  fresh-words (suc (suc (suc (suc zero)))) h = tt
  fresh-words (suc (suc (suc (suc (suc zero))))) h = tt
  fresh-words (suc (suc (suc (suc (suc (suc zero)))))) h = tt
  fresh-words (suc (suc (suc (suc (suc (suc (suc zero))))))) h = tt
  fresh-words (suc (suc (suc (suc (suc (suc (suc (suc zero)))))))) h = tt
  fresh-words (suc (suc (suc (suc (suc (suc (suc (suc (suc zero))))))))) h = tt
  fresh-words (suc (suc (suc (suc (suc (suc (suc (suc (suc (suc zero)))))))))) h = refl
  fresh-words (suc (suc (suc (suc (suc (suc (suc (suc (suc (suc (suc r))))))))))) h = absurd (omega arith)

  fresh-refines : (prog : ℕ) (program : Loaded) (context : List ℕ) (name : ℕ) → slice_get programs prog ≡ Some program
      → RunRefines slots es programs (fresh_view prog context) (fresh_run name program context)
  fresh-refines prog program context name h = record {
    program = h;
    words = record {
      context = refl;
      register_count = refl;
      registers = fresh-words;
      cells = length-replicate {A = ℕ} FRAME_BYTES 0;
      frame = λ k less. tt;
      place = refl;
      depth = refl;
      moved = refl;
      exit = refl;
    };
  }

none-if : (b : Bool) → (if b then Some RunsFull else Some BadContext) ≡ None → ⊥
none-if true h = none-some RunsFull (sym h)
none-if false h = none-some BadContext (sym h)

is-there : (o : Option Loaded) (len : ℕ) (free : Option ℕ) → start_refusal o len free ≡ None → (program : Loaded) × (o ≡ Some program)
is-there None len free h = absurd (none-some NoProgram (sym h))
is-there (Some program) len free h = (program, refl)

module _ (w : WorldView) (s : Schedule) (sim : Matches w s) (prog : ℕ) (ctx : ArrayVec ℕ) where
  abbrev x : RefinesSchedule w s
  x = sim.refines

  agrees : lowest_free w.runs ≡ lowest_free s.machine.runs
  agrees = free-agrees x.slots s.machine.store.elements s.machine.programs w.runs s.machine.runs x.runs

  refusal-is : (r : Option EventRefusal) → start_refusal (slice_get w.programs prog) (length ctx.items)
      (lowest_free w.runs) ≡ r → refusal s.machine (events.Start prog ctx) ≡ r
  refusal-is r e = ap (λ l. start_refusal (slice_get l prog) (length ctx.items) (lowest_free s.machine.runs))
      (sym x.programs) ∙ (ap (start_refusal (slice_get w.programs prog) (length ctx.items)) (sym agrees) ∙ e)

  by : (r : Option EventRefusal) (o : Option ℕ) → start_refusal (slice_get w.programs prog) (length ctx.items)
      (lowest_free w.runs) ≡ r → lowest_free w.runs ≡ o →
      Simulates s (events.Start prog ctx) (start_by r o w prog ctx.items)
  by (Some r) o e free = record { next = s; does = refuses w s x sim.scheduled r (events.Start prog ctx) (refusal-is (Some r) e); matches = sim }
  by None None e free = absurd (full (slice_get w.programs prog) (length ctx.items)
      (ap (start_refusal (slice_get w.programs prog) (length ctx.items)) (sym free) ∙ e))
    where
      full : (o : Option Loaded) (len : ℕ) → start_refusal o len None ≡ None → ⊥
      full None len h = none-some NoProgram (sym h)
      full (Some program) len h = none-if (len == program.context_len) h
  by None (Some r) e free =
      let p = is-there (slice_get w.programs prog) (length ctx.items) (lowest_free w.runs) e in
      let there : slice_get s.machine.programs prog ≡ Some p.0 = ap (λ l. slice_get l prog) (sym x.programs) ∙ p.1 in
      let lowest : lowest_free s.machine.runs ≡ Some r = sym agrees ∙ free in
      let run : Run = fresh_run s.machine.started p.0 ctx.items in
      let t : Schedule = run-changed s r (Some run) (s.machine.started + 1) in
      let does : DoesScheduled s (events.Start prog ctx) (Started r) t = record {
        step = subst (λ z. Answers z s.machine (events.Start prog ctx) (Started r) t.machine)
            (sym (refusal-is None e)) (record { program = p.0; there = there; lowest = lowest; new_is = refl });
        first = tt;
        oldest = oldest-none s.machine.store s.machine.store refl;
        lists = lists-same w s sim r (Some run) (s.machine.started + 1);
      } in
      record {
        next = t;
        does = does;
        matches = steps (with_run r (Some (fresh_view prog ctx.items)) w) s t (events.Start prog ctx) (Started r) sim.scheduled does
            (run-world w s x r None None (Some (fresh_view prog ctx.items)) (Some run) (s.machine.started + 1)
            (free-there w.runs r free) (free-there s.machine.runs r lowest)
            (fresh-refines x.slots s.machine.store.elements s.machine.programs prog p.0 ctx.items
            s.machine.started there));
      }

  pub start_simulates : Simulates s (events.Start prog ctx) (start_reaction w prog ctx.items)
  start_simulates = by (start_refusal (slice_get w.programs prog) (length ctx.items) (lowest_free w.runs)) (lowest_free w.runs) refl refl
