-- A program without maps has one exit value on a context.
use Rattle.bpf_model.proofs.Prelude.{◌≡◌, ℕ, ◌+◌, ◌⊎◌, inl, inr, List, [], ◌∷◌, length, Some, None, refl, sym, ap, ◌∙◌, subst, arith, slice_get, Option}
use Rattle.bpf_model.proofs.Prelude.{none-some, Element, ExitsFrom, exits_now, exits_later, ExitsWith, Loaded, Run, fresh_run, section_of, AreBytes}
use Rattle.model_laws.proofs.Prelude.{Moved}
use Rattle.plan_laws.proofs.Prelude.{MayExitFrom, may_exit_now, may_exit_later, Surrounds}
use Rattle.model_laws.proofs.Exits.{no_maps}
use Rattle.plan_laws.proofs.Exits.{one_exit}
use Rattle.plan_laws.proofs.Reaching.{same-insn}

-- a run of a program without maps, on a context of its length
pub record IsAlone (run : Run) : Type 0 where
  pub maps : run.program.maps ≡ []
  pub long : length run.context ≡ run.program.context_len
  pub bytes : AreBytes run.context
  pub going : run.exit ≡ None

no-element : {A : Type 0} (n : ℕ) (e : Element) → slice_get {X = Element} [] n ≡ Some e → A
no-element n e h = absurd (none-some e h)

pub around : (run : Run) → IsAlone run → Surrounds [] run.program.context_len no_maps (section_of run ∷ []) run
around run a = record {
  going = a.going;
  section = λ inside. (0, refl);
  single = λ map key n k l r. absurd (none-some l.element l.born);
  lengths = λ n e h. no-element n e h;
  arrays = λ n e h. no-element n e h;
  bytes = λ n e h. no-element n e h;
  bound = record {
    count = ap length a.maps;
    each = λ i shape h. absurd (none-some shape h);
  };
  long = a.long;
  context = a.bytes;
}

pub same-exit : (old new : Option ℕ) (p q : ℕ) → q ≡ p + 1 → ((q ≡ p + 1) × (new ≡ old)) ⊎ (q ≡ p) → new ≡ old
same-exit old new p q e h = elim h [ inl x ↦ x.1 | inr x ↦ absurd (omega (arith, e, x)) ]

may-exit : (run : Run) (steps n : ℕ) → IsAlone run → ExitsFrom run steps n → MayExitFrom [] run steps n
may-exit run steps n a (exits_now _ new _ h) =
    may_exit_now no_maps no_maps (section_of run ∷ []) run new n (around run a) (h no_maps (section_of run ∷ []))
may-exit run steps n a (exits_later _ next rest _ h x) =
    let opened = section_of run ∷ [] in
    let step = h no_maps opened in
    let same = same-insn step.0 no_maps opened run Moved no_maps next step.2 in
    let still : IsAlone next = record {
      maps = ap (λ (p : Loaded). p.maps) same.program ∙ a.maps;
      long = ap length same.context ∙ a.long ∙ sym (ap (λ (p : Loaded). p.context_len) same.program);
      bytes = subst AreBytes (sym same.context) a.bytes;
      going = same-exit run.exit next.exit run.moved next.moved same.counts same.moved ∙ a.going;
    } in
    may_exit_later no_maps no_maps opened run next rest n (around run a) step (may-exit next rest n still x)

pub one_value : (program : Loaded) (context : List ℕ) (s t n k : ℕ) → program.maps ≡ [] → length context ≡ program.context_len
    → AreBytes context → ExitsWith program context s n → ExitsWith program context t k → n ≡ k
one_value program context s t n k maps long bytes x y =
    let start = fresh_run y.0 program context in
    let may = may-exit start t k (record { maps = maps; long = long; bytes = bytes; going = refl }) y.1 in
    (one_exit [] program context s t n k x (y.0, may)).1
