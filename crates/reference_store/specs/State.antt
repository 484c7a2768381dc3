-- What the structs stand for, in the words of the definitions.
use Rattle.std.specs.Prelude.{◌≡◌, ℕ, List, map}
use Rattle.reference_store.specs.declared.element.Section.{Section}
use Rattle.reference_store.specs.declared.element.Life.{Life}
use Rattle.reference_store.specs.declared.element.Life.TheVariants as lives
use Rattle.reference_store.specs.declared.element.Element.{Element}
use Rattle.reference_store.specs.declared.map_state.MapState.{MapState}
use Rattle.reference_store.specs.declared.store.Store.{Store}
use Rattle.reference_store.specs.declared.queues.Queues.{Queues}
use Rattle.bpf_model.specs.Section as model_section
use Rattle.bpf_model.specs.Element as model
use Rattle.bpf_model.specs.MapState as model_maps
use Rattle.bpf_model.specs.Schedule as schedule

abbrev pub section_shown : Section → model_section.Section
section_shown s = record { run = s.run; number = s.number }

abbrev pub sections_of : List Section → List model_section.Section
sections_of ss = map section_shown ss

abbrev pub life_of : Life → model.Life
life_of lives.Linked = model.Linked
life_of (lives.Unlinked opened) = model.Unlinked (sections_of opened.items)
life_of lives.Reclaimed = model.Reclaimed

abbrev pub element_of : Element → model.Element
element_of e = record {
  map = e.map;
  key = e.key.items;
  value = e.value.items;
  uses = e.uses;
  life = life_of e.life;
}

abbrev pub elements_of : List Element → List model.Element
elements_of es = map element_of es

abbrev pub map_of : MapState → model_maps.MapState
map_of m = record { shape = m.shape; bag = m.bag.items; worn = m.worn }

abbrev pub store_of : Store → model_maps.Store
store_of s = record { elements = elements_of s.elements.items; maps = map map_of s.maps.items }

abbrev pub queues_of : Queues → schedule.Queues
queues_of q = record { next = q.next.items; waiting = q.waiting.items; ready = q.ready.items }

-- an element is what the map has under the key
abbrev pub IsLinkedHere : model.Element → ℕ → List ℕ → Type 0
IsLinkedHere e map key = (e.life ≡ model.Linked) × (e.map ≡ map) × (e.key ≡ key)
