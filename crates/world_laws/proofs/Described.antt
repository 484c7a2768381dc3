-- What the plan says of a run is kept by the steps of the run, whatever stands around it.
use Rattle.bpf_model.proofs.Prelude.{◌≡◌, ℕ, inl, inr, refl, sym, ap, subst, ◌∙◌, arith, List, [], ◌∷◌, length, map, Some, None, Element, AreBytes, Loaded}
use Rattle.bpf_model.proofs.Prelude.{Run, environment, fresh_run, moves, section_of, InsnStep, Store, new_map, StepsAlone, Section, State, Moves, after}
use Rattle.bpf_model.proofs.Prelude.{insn_at}
use Rattle.model_laws.proofs.Prelude.{Insn, Moved, MapShape, IsSingle}
use Rattle.plan_laws.proofs.Prelude.{scene_of, Plan, AreMapsBound, Surrounds, IsPlanned, IsPlannedAfter, IsClosed}
use Rattle.world_laws.proofs.Prelude.{element_of, elements_by, births, elements_around, store_of, IsDescribed}
use Rattle.plan_laws.proofs.Kept.{Keeps, describes-kept}
use Rattle.plan_laws.proofs.Reaching.{same-insn}
use Rattle.world_laws.proofs.Contents.{IsContent, plain-content, lengths, all-bytes, all-kept, single-one, life-unlinked, Guards, keeps-by}

module _ (code : List Insn) (shapes : List MapShape) (ctx_len : ℕ) (plan : Plan) (closed : IsClosed code shapes ctx_len plan) (around : List MapShape) where
  abbrev pub Described : Run → Type 0
  Described run = IsDescribed code shapes ctx_len plan around run

  pub starts-described : (name : ℕ) (program : Loaded) (context : List ℕ) →
      AreMapsBound shapes program.maps (map new_map around) → length context ≡ ctx_len → AreBytes context →
      Described (fresh_run name program context)
  starts-described name program context bound long bytes =
      let run = fresh_run name program context in
      record {
        going = refl;
        bound = bound;
        long = long;
        context = bytes;
        index = 0;
        planned = closed.start (scene_of (store_of around (elements_around around (section_of run))) run) refl;
      }

  module _ (run : Run) (x : Described run) where
    abbrev pub section : Section
    section = section_of run

    abbrev pub plain : ℕ → Element
    plain = element_of around section

    abbrev pub with_content : (ℕ → Element) → Store
    with_content f = store_of around (elements_by (births around) f)

    -- any contents may stand there
    pub surrounds : (f : ℕ → Element) → IsContent around f → IsSingle (elements_by (births around) f) →
        Surrounds shapes ctx_len (with_content f) (section ∷ []) run
    surrounds f c single = record {
      going = x.going;
      section = λ inside. (0, refl);
      single = single;
      lengths = lengths around f c;
      arrays = all-kept around f c;
      bytes = all-bytes around f c;
      bound = x.bound;
      long = x.long;
      context = x.context;
    }

    pub planned : (f : ℕ → Element) → Guards section plain f → IsPlanned code plan x.index (scene_of (with_content f) run) run.state
    planned f g = record {
      at = x.planned.at;
      known = x.planned.known;
      planned = x.planned.planned;
      describes = describes-kept (scene_of (with_content plain) run) (scene_of (with_content f) run)
          (keeps-by around plain f run g) x.planned.known run.state x.planned.describes;
    }

    pub plain-single : IsSingle (elements_by (births around) plain)
    plain-single = single-one (births around) plain 0 (λ n e. absurd (life-unlinked section e))

    pub plain-guards : Guards section plain plain
    plain-guards = record { same = λ n. refl; guard = λ n g. g }

    -- a step over some contents
    pub stepped : (f : ℕ → Element) → IsContent around f → IsSingle (elements_by (births around) f) →
        Guards section plain f → (i : Insn) → insn_at code run.state.place ≡ Some i → (es : List Element) (new : Run)
        → InsnStep i (with_content f) (section ∷ []) run Moved (store_of around es) new →
        Keeps (scene_of (store_of around es) new) (scene_of
        (store_of around (elements_around around (section_of new))) new) → Described new
    stepped f c single g i here es new step keeps =
        let same = same-insn i (with_content f) (section ∷ []) run Moved (store_of around es) new step in
        let going : new.exit ≡ None = elim same.moved [
          | inl y ↦ y.1 ∙ x.going
          | inr y ↦ absurd (omega (arith, y, same.counts))
        ] in
        let l = closed.leads x.index i (with_content f) (section ∷ []) run Moved (store_of around es) new (surrounds f c single) (planned f g) here step in
        let p : IsPlannedAfter code plan x.index (scene_of (store_of around es) new) new.state = l.1 going in
        record {
          going = going;
          bound = subst (λ (q : Loaded). AreMapsBound shapes q.maps (map new_map around)) (sym same.program) x.bound;
          long = ap length same.context ∙ x.long;
          context = subst AreBytes (sym same.context) x.context;
          index = p.index;
          planned = record {
            at = p.planned.at;
            known = p.planned.known;
            planned = p.planned.planned;
            describes = describes-kept (scene_of (store_of around es) new)
                (scene_of (store_of around (elements_around around (section_of new))) new) keeps p.planned.known
                new.state p.planned.describes;
          };
        }

    -- a step that the run makes by itself
    pub alone-described : (i : Insn) (next : State) → insn_at code run.state.place ≡ Some i →
        after i (environment run) run.state ≡ Some (Moves next) → Described (moves run next)
    alone-described i next here e =
        let s = with_content plain in
        let alone : StepsAlone i s run Moved s (moves run next) = (Moves next, e, refl, (refl, refl)) in
        stepped plain (plain-content around section) plain-single plain-guards i here (elements_by (births around) plain) (moves run next)
        (inl alone)
        (record { held = λ map n h. h; depth = refl })
