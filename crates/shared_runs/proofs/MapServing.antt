-- The table's calls are the moves of its seats, and a run leaves a seat that is ready.
use Rattle.bpf_model.proofs.Prelude.{◌≡◌, ℕ, ◌+◌, ◌^◌, ◌<◌, ap, ◌∙◌, subst, arith, List}
use Rattle.table_words.proofs.Prelude.{inside, IsReader}
use Rattle.map_table.proofs.Prelude.{View, first_of, Goes, Holder, IsKnown, IsReady, IsSized, TableView, TableShape, layout_of, width_of, Move}
use Rattle.verifier.proofs.Prelude.{Checked}
use Rattle.map_table.proofs.Valued.{few_words, in_element}
use Rattle.map_table.proofs.Going.{goes_known, goes_mine, goes_none, goes_then}
use Rattle.shared_runs.specs.Tables.{AreSteps}
use Rattle.shared_runs.specs.MapRuns.{RunsShared}
use Rattle.shared_runs.specs.MapTables.{table_of}
use Rattle.shared_runs.specs.declared.maps.named_map.NamedMap.{NamedMap}
use Rattle.shared_runs.specs.Named.{named_table_of}

-- a seat at a table whose value begins at this place
abbrev pub Stands : TableView → ℕ → Holder → Type 0
Stands here first s = (s.table ≡ here) × IsKnown s.view × (first_of here.shape s.view.me ≡ first)

pub are_steps : (here : TableView) (first : ℕ) →
    AreSteps (table_of here.shape first) (Stands here first) (λ (s : Holder). s.view.mine) Goes
are_steps here first = record {
  none = λ s at. goes_none s at.1;
  then = λ s t u ms ns g h. goes_then s t u ms ns g h;
  listed = λ s t ms g. goes_mine s t ms g;
  stays = λ s t ms at g. (g.table ∙ at.0, goes_known s t ms g, ap (λ (v : View). first_of here.shape v.me) g.went.1 ∙ at.2);
}

-- a place of the seat's value lies within the element, which has few words
pub in_own_value : (here : TableView) (first : ℕ) (s : Holder) (place : ℕ) → Stands here first s → IsSized here.shape →
    place < here.shape.value_words → IsReader (layout_of s.view.shape) s.view.me → s.view.shape ≡ s.table.shape →
    (first + place < width_of here.shape) × (first + place < 2 ^ 64)
in_own_value here first s place at sized below reader shape =
    let is = at.2 in
    let same = shape ∙ ap (λ (t : TableView). t.shape) at.0 in
    let mine = subst (λ (k : TableShape). IsReader (layout_of k) s.view.me) same reader in
    let within = in_element here.shape s.view.me (first + place) mine (omega (arith, is)) (omega (arith, is, below)) in
    let few = few_words here.shape sized in
    (within, omega (arith, within, few))

pub are_named_steps : (here : TableView) (maps : List NamedMap) (first : ℕ) →
    AreSteps (named_table_of here.shape maps first) (Stands here first) (λ (s : Holder). s.view.mine) Goes
are_named_steps here maps first = record {
  none = λ s at. goes_none s at.1;
  then = λ s t u ms ns g h. goes_then s t u ms ns g h;
  listed = λ s t ms g. goes_mine s t ms g;
  stays = λ s t ms at g. (g.table ∙ at.0, goes_known s t ms g, ap (λ (v : View). first_of here.shape v.me) g.went.1 ∙ at.2);
}

-- a seat that is outside every section is ready
pub ready-outside : (here : TableView) (old new : Holder) (ms : List Move) → IsReady here old → Goes old ms new → inside new.view.mine ≡ 0 → IsReady here new
ready-outside here old new ms ready goes outside = record {
  table = goes.table ∙ ready.table;
  outside = outside;
  known = goes_known old new ms goes;
}

pub ready-after : (here : TableView) (c : Checked) (context : List ℕ) (old new : Holder) (value : ℕ) → IsReady here old →
    RunsShared here.shape c context old new value → inside new.view.mine ≡ 0 → IsReady here new
ready-after here c context old new value ready r outside = ready-outside here old new r.moves ready r.list outside
