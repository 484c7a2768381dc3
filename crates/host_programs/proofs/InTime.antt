-- A run of a verified program by itself exits in time.
use Rattle.bpf_model.proofs.Prelude.{◌≡◌, ℕ, suc, ◌+◌, ◌≤◌, List, [], ◌∷◌, length, Some, None, refl, sym, ap, ◌∙◌, subst, arith, slice_get_within, ExitsFrom}
use Rattle.bpf_model.proofs.Prelude.{exits_now, exits_later, ExitsWith, Loaded, Run, fresh_run, section_of, starts_from, AreBytes, insn_at, slot_count}
use Rattle.model_laws.proofs.Prelude.{Moved, Insn}
use Rattle.plan_laws.proofs.Prelude.{scene_of, IsClosed, IsPlanned, IsVerified, Plan, Surrounds}
use Rattle.model_laws.proofs.Exits.{no_maps}
use Rattle.plan_laws.proofs.Reaching.{same-insn}
use Rattle.host_programs.proofs.OneExit.{IsAlone, around, same-exit}

length-starts : (n : ℕ) (code : List Insn) → length (starts_from n code) ≡ length code
length-starts n [] = refl
length-starts n (i ∷ is) = ap suc (length-starts (n + slot_count i) is)

in-time : (code : List Insn) (ctx_len : ℕ) (plan : Plan) → IsClosed code [] ctx_len plan → (run : Run) (steps n k : ℕ)
    → IsAlone run → run.program.code ≡ code → run.program.context_len ≡ ctx_len
    → IsPlanned code plan k (scene_of no_maps run) run.state → ExitsFrom run steps n → k + steps ≤ length code
in-time code ctx_len plan closed run steps n k a same long p (exits_now _ new _ h) =
    omega (arith, slice_get_within (starts_from 0 code) k run.state.place p.at, length-starts 0 code)
in-time code ctx_len plan closed run steps n k a same long p (exits_later _ next rest _ h x) =
    let opened = section_of run ∷ [] in
    let step = h no_maps opened in
    let stays = same-insn step.0 no_maps opened run Moved no_maps next step.2 in
    let going : next.exit ≡ None = same-exit run.exit next.exit run.moved next.moved stays.counts stays.moved ∙ a.going in
    let still : IsAlone next = record {
      maps = ap (λ (p : Loaded). p.maps) stays.program ∙ a.maps;
      long = ap length stays.context ∙ a.long ∙ sym (ap (λ (p : Loaded). p.context_len) stays.program);
      bytes = subst AreBytes (sym stays.context) a.bytes;
      going = going;
    } in
    let surrounds = subst (λ (l : ℕ). Surrounds [] l no_maps opened run) long (around run a) in
    let here = subst (λ (is : List Insn). insn_at is run.state.place ≡ Some step.0) same step.1 in
    let after = (closed.leads k step.0 no_maps opened run Moved no_maps next surrounds p here step.2).1 going in
    let rest_is = in-time code ctx_len plan closed next rest n after.index still
    (ap (λ (p : Loaded). p.code) stays.program ∙ same) (ap (λ (p : Loaded). p.context_len) stays.program ∙ long) after.planned x in
    omega (arith, rest_is, after.further)

-- Each exit of a program that was verified without maps comes after at most as many steps as it has instructions.
pub exits_in_time : (program : Loaded) (context : List ℕ) (steps n : ℕ) → IsVerified program.code [] program.context_len
    → program.maps ≡ [] → length context ≡ program.context_len → AreBytes context → ExitsWith program context steps n
    → steps ≤ length program.code
exits_in_time program context steps n v maps long bytes x =
    let start = fresh_run x.0 program context in
    let planned = v.closed.start (scene_of no_maps start) refl in
    let bound = in-time program.code program.context_len v.plan v.closed start steps n 0
    (record { maps = maps; long = long; bytes = bytes; going = refl }) refl refl planned x.1 in
    omega (arith, bound)
