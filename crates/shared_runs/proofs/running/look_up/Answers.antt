use Rattle.bpf_model.proofs.Prelude.{◌≡◌, ℕ, ◌+◌, ◌-◌, ◌*◌, ◌≤◌, List, [], arith, ap, length, min, ◌∙◌, sym, subst, drop, take, length-drop, length-take}
use Rattle.bpf_model.proofs.Prelude.{frame_base}
use Rattle.machine.proofs.Prelude.{own_view}
use Rattle.model_laws.proofs.Prelude.{MapShape, FRAME_BYTES}
use Rattle.world_laws.proofs.Prelude.{bytes_in, word_in, IsInFrame}
use Rattle.shared_runs.specs.Serving.{map_named}
use Rattle.shared_runs.proofs.running.look_up.Goals as goal

-- so many words the code takes for a key of the map that r1 names
pub key_words-requires : goal.key_words-requires
key_words-requires g c =
    let k = g.T.ServesRuns.table c.args.words.now in
    record { kept = subst (λ (map : ℕ). (shape : MapShape) × k.Keeps map shape) (sym c.map_argument-map.ensures) c.requires.kept }

pub look_up-requires-clause-kept : goal.look_up-requires-clause-kept
look_up-requires-clause-kept g c =
    let k = g.T.ServesRuns.table c.args.words.now in
    subst (λ (map : ℕ). (shape : MapShape) × k.Keeps map shape) (sym c.map_argument-map.ensures) c.requires.kept

pub bytes_argument-key-requires : goal.bytes_argument-key-requires
bytes_argument-key-requires g c =
    let k = g.T.ServesRuns.table c.args.words.now in
    let count = c.key_words.ensures.count ∙ ap (λ (map : ℕ). k.key_words map) c.map_argument-map.ensures in
    subst (λ (n : ℕ). IsInFrame (word_in (own_view [] c.args.workspace.now) 2) (8 * n)) (sym count) c.requires.key

pub look_up-requires-clause-key : goal.look_up-requires-clause-key
look_up-requires-clause-key g c =
    let k = g.T.ServesRuns.table c.args.words.now in
    let v = own_view [] c.args.workspace.now in
    let words : ℕ = k.key_words (map_named v) in
    let named = ap (λ (map : ℕ). k.key_words map) c.map_argument-map.ensures in
    let count : c.key_words.result ≡ words = c.key_words.ensures.count ∙ named in
    let at : ℕ = word_in v 2 - frame_base in
    let len : ℕ = 8 * words in
    let inside : at + len ≤ FRAME_BYTES = c.requires.key.inside in
    let frame : length v.frame ≡ FRAME_BYTES = c.requires.frame in
    let rest : length (drop at v.frame) ≡ length v.frame - at = length-drop at v.frame in
    let long : length (take len (drop at v.frame)) ≡ min len (length (drop at v.frame)) = length-take len (drop at v.frame) in
    let same : length (take len (drop at v.frame)) ≡ len = omega (arith, inside, frame, rest, long) in
    ap (λ (xs : List ℕ). length xs) c.bytes_argument-key.ensures
    ∙ (ap (λ (n : ℕ). length (bytes_in v 2 (8 * n))) count ∙ (same ∙ ap (λ (n : ℕ). 8 * n) (sym named)))

pub returns : goal.returns
returns g c =
    let k = g.T.ServesRuns.table c.args.words.now in
    let v = own_view [] c.args.workspace.now in
    let map = c.map_argument-map.ensures in
    let count = c.key_words.ensures.count ∙ ap (λ (m : ℕ). k.key_words m) map in
    let l = c.look_up.ensures.looked in
    let bytes = c.bytes_argument-key.ensures ∙ ap (λ (n : ℕ). bytes_in v 2 (8 * n)) count in (
      l.0,
      c.look_up.result,
      l.1,
      subst (λ (m : ℕ). k.LooksUp m (bytes_in v 2 (8 * k.key_words (map_named v))) l.0 c.look_up.result) map
          (subst (λ (key : List ℕ). k.LooksUp c.map_argument-map.result key l.0 c.look_up.result) bytes l.2),
      c.word_of_element.ensures,
    )
