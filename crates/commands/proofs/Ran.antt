-- What one run gives of a file's program.
use Rattle.bpf_model.proofs.Prelude.{◌≡◌, ◌≢◌, ◌⊎◌, ℕ, List, [], Bool, false, length, map, All, refl, sym, subst, inl, inr, WorldView, shapes_of_maps}
use Rattle.plan_laws.proofs.Prelude.{IsVerified}
use Rattle.verifier.proofs.Prelude.{HasGoodGraph}
use Rattle.std.proofs.lemmas.List.Elements.{All-map}
use Rattle.bpf_model.specs.declared.event.Event.{Event}
use Rattle.bpf_model.specs.declared.event.EventRefusal.{EventRefusal}
use Rattle.bpf_model.specs.declared.event.EventRefusal.TheVariants.{BadContext}
use Rattle.bpf_model.specs.declared.insn.Insn.{Insn}
use Rattle.maps.specs.Registry.{RegistryView}
use Rattle.program_files.specs.declared.program_file.Source.{Source}
use Rattle.program_files.specs.declared.verdict.Verdict.TheVariants.{Memory}
use Rattle.program_files.specs.Checks.{content_with, IsSourceOf}
use Rattle.run_once.specs.declared.once.RunEnd.{RunEnd}
use Rattle.run_once.specs.declared.once.RunEnd.TheVariants.{Exited, NotDone}
use Rattle.run_once.specs.Once.{ComesTo, Ended, IsUpdate}
use Rattle.command_words.specs.declared.request.MapElement.{MapElement}
use Rattle.command_words.specs.declared.request.SingleRun.{SingleRun}
use Rattle.commands.specs.declared.refusal.CommandRefusal.{CommandRefusal}
use Rattle.commands.specs.declared.refusal.CommandRefusal.TheVariants.{File, Event as OfEvent, NoPlace}
use Rattle.commands.specs.Refusals.{IsFileRefusal}
use Rattle.commands.specs.Runs.{put_event, AllFit, HasBadElement, HasEnded, IsRunFault, IsRunRefusal, RunComesTo}
use Rattle.commands.proofs.Pooled.{file_of}

-- elements are put by updates
pub are_updates : (maps : RegistryView) (elements : List MapElement) (events : List Event) → events ≡ map (put_event maps) elements → All IsUpdate events
are_updates maps elements events puts = subst (All IsUpdate) (sym puts) (All-map IsUpdate (put_event maps) elements (λ k d less. tt))

-- a source that is verified
pub record IsGood (bytes : List ℕ) (s : Source) : Type 0 where
  pub is : IsSourceOf bytes s
  pub graph : HasGoodGraph s.program
  pub verified : IsVerified s.program (shapes_of_maps s.registry.maps) s.ctx_len

-- the same source with the maps that were handed on
abbrev pub with_maps : Source → RegistryView → Source
with_maps s maps = record { program = s.program; registry = maps; ctx_len = s.ctx_len }

pub handed_on : (bytes : List ℕ) (s : Source) (maps : RegistryView) → maps ≡ s.registry → IsSourceOf bytes s → HasGoodGraph s.program →
    IsVerified s.program (shapes_of_maps s.registry.maps) s.ctx_len → IsGood bytes (with_maps s maps)
handed_on bytes s maps same is graph verified =
    subst (λ (r : RegistryView). IsGood bytes (with_maps s r)) (sym same) (record { is = is; graph = graph; verified = verified })

-- a run of the verified program is one of the file's
pub of_source : (single : SingleRun) (s : Source) (program : List Insn) (events : List Event) (items : List ℕ)
    (outcome : RunEnd) (tells : Bool) (steps : List ℕ) (last : WorldView) → program ≡ s.program →
    events ≡ map (put_event s.registry) single.elements.items → items ≡ single.context.items →
    ComesTo (shapes_of_maps s.registry.maps) program events items outcome tells steps last →
    RunComesTo single (content_with s) s.program outcome tells steps last
of_source single s program events items outcome tells steps last same_program puts same_context run =
    let shapes = shapes_of_maps s.registry.maps in
    let all = map (put_event s.registry) single.elements.items in
    let of_puts = subst (λ (es : List Event). ComesTo shapes program es items outcome tells steps last) puts run in
    let of_program = subst (λ (p : List Insn). ComesTo shapes p all items outcome tells steps last) same_program of_puts in
    subst (λ (xs : List ℕ). ComesTo shapes s.program all xs outcome tells steps last) same_context of_program

pub ended_of : (bytes : List ℕ) (single : SingleRun) (s : Source) (e : Ended) (tells : Bool) (steps : List ℕ) (last : WorldView) →
    IsGood bytes s → length single.context.items ≡ s.ctx_len → AllFit s.registry single.elements.items →
    RunComesTo single (content_with s) s.program (Exited e) tells steps last → HasEnded bytes single e tells steps last
ended_of bytes single s e tells steps last good len fit run = record {
  program = s.program;
  file = file_of bytes s good.is good.graph good.verified;
  len = len;
  fit = fit;
  runs = run;
}

told : (bytes : List ℕ) (single : SingleRun) (s : Source) (v : CommandRefusal) → IsGood bytes s →
    IsRunFault single (content_with s) s.program v → IsRunRefusal single bytes v
told bytes single s v good fault = inr (record {
  program = s.program;
  file = file_of bytes s good.is good.graph good.verified;
  fault = fault;
})

pub context_told : (bytes : List ℕ) (single : SingleRun) (s : Source) → IsGood bytes s →
    length single.context.items ≢ s.ctx_len → IsRunRefusal single bytes (OfEvent BadContext)
context_told bytes single s good other = told bytes single s (OfEvent BadContext) good (inl (other, refl))

pub puts_told : (bytes : List ℕ) (single : SingleRun) (s : Source) (v : CommandRefusal) → IsGood bytes s →
    length single.context.items ≡ s.ctx_len →
    ((v ≡ File Memory) ⊎ ((r : EventRefusal) × HasBadElement s.registry single.elements.items r × (v ≡ OfEvent r))) →
    IsRunRefusal single bytes v
puts_told bytes single s v good len (inl memory) = inl (subst (IsFileRefusal bytes) (sym memory) (inl tt))
puts_told bytes single s v good len (inr (r, bad, is)) = told bytes single s v good (inr (len, inl (r, bad, is)))

pub place_told : (bytes : List ℕ) (single : SingleRun) (s : Source) (k : ℕ) (last : WorldView) →
    IsGood bytes s → length single.context.items ≡ s.ctx_len → AllFit s.registry single.elements.items →
    RunComesTo single (content_with s) s.program (NotDone k) false [] last → IsRunRefusal single bytes NoPlace
place_told bytes single s k last good len fit run =
    told bytes single s NoPlace good (inr (len, inr (fit, (k, last, run), refl)))
