-- Codes of what a world keeps: each view as pairs, lists and numbers.
use Rattle.std.specs.Prelude.{ℕ, Bool, List, Option, refl}
use Rattle.std.specs.Ordering.{nat_cmp}
use Rattle.std.specs.Cmp.Lexicographic.{slice_cmp}
use Rattle.std.specs.Coded.{Coded, code_by, coded×, coded_ℕ, coded_list, coded_option}
use Rattle.std.specs.FinMap as map
use Rattle.bpf_model.specs.declared.insn.Insn.{Insn}
use Rattle.bpf_model.specs.declared.limits.MapShape.{MapShape}
use Rattle.bpf_model.specs.declared.limits.MapKind.{MapKind}
use Rattle.bpf_model.specs.contracts.limits.MapKind as kinds
use Rattle.bpf_model.specs.contracts.insn.Insn as insn
use Rattle.bpf_model.specs.Codes.{numbers_code, flags_code, slot_code}
use Rattle.bpf_model.specs.Machine.{Loaded}
use Rattle.bpf_model.specs.Schedule.{Queues}
use Rattle.bpf_model.specs.View.{KeyMap, SlotView, MapView, RunView, WorldView}

abbrev pub key_map_code : Coded KeyMap
key_map_code = map.code {R = slice_cmp nat_cmp} numbers_code coded_ℕ

abbrev pub queues_code : Coded Queues
queues_code = code_by (List ℕ × (List ℕ × List ℕ))
    (coded× numbers_code (coded× numbers_code numbers_code))
    (λ q. (q.next, (q.waiting, q.ready)))
    (λ p. record { next = p.0; waiting = p.1.0; ready = p.1.1 })
    (λ _. refl)

abbrev pub shape_code : Coded MapShape
shape_code = code_by (MapKind × (ℕ × (ℕ × (ℕ × (ℕ × ℕ)))))
    (coded× kinds.the_row.coded (coded× coded_ℕ (coded× coded_ℕ (coded× coded_ℕ (coded× coded_ℕ coded_ℕ)))))
    (λ s. (s.kind, (s.key_len, (s.value_len, (s.entries, (s.spare, s.reuse_limit))))))
    (λ p. record {
      kind = p.0;
      key_len = p.1.0;
      value_len = p.1.1.0;
      entries = p.1.1.1.0;
      spare = p.1.1.1.1.0;
      reuse_limit = p.1.1.1.1.1;
    })
    (λ _. refl)

-- the lists of a map's unlinked elements, and how many of its map slots are worn out
abbrev pub ListFields : Type 0
ListFields = List ℕ × (List ℕ × (List ℕ × ℕ))

abbrev pub list_fields_code : Coded ListFields
list_fields_code = coded× numbers_code (coded× numbers_code (coded× numbers_code coded_ℕ))

abbrev pub view_code : Coded MapView
view_code = code_by (MapShape × (List SlotView × (List ℕ × (KeyMap × ListFields))))
    (coded× shape_code (coded× (coded_list slot_code)
    (coded× numbers_code (coded× key_map_code list_fields_code))))
    (λ v. (v.shape, (v.slots, (v.free, (v.index, (v.next, (v.waiting, (v.ready, v.worn))))))))
    (λ p. record {
      shape = p.0;
      slots = p.1.0;
      free = p.1.1.0;
      index = p.1.1.1.0;
      next = p.1.1.1.1.0;
      waiting = p.1.1.1.1.1.0;
      ready = p.1.1.1.1.1.1.0;
      worn = p.1.1.1.1.1.1.1;
    })
    (λ _. refl)

-- a run's place, its depth, how many of its steps led further on, and its exit value
abbrev pub RunFields : Type 0
RunFields = ℕ × (ℕ × (ℕ × Option ℕ))

abbrev pub run_fields_code : Coded RunFields
run_fields_code = coded× coded_ℕ (coded× coded_ℕ (coded× coded_ℕ (coded_option coded_ℕ)))

abbrev pub run_code : Coded RunView
run_code = code_by (ℕ × (List ℕ × (List ℕ × (List ℕ × RunFields))))
    (coded× coded_ℕ (coded× numbers_code
    (coded× numbers_code (coded× numbers_code run_fields_code))))
    (λ v. (
      v.program,
      (
        v.context,
        (v.registers, (v.frame, (v.place, (v.depth, (v.moved, v.exit))))),
      ),
    ))
    (λ p. record {
      program = p.0;
      context = p.1.0;
      registers = p.1.1.0;
      frame = p.1.1.1.0;
      place = p.1.1.1.1.0;
      depth = p.1.1.1.1.1.0;
      moved = p.1.1.1.1.1.1.0;
      exit = p.1.1.1.1.1.1.1;
    })
    (λ _. refl)

abbrev pub program_code : Coded Loaded
program_code = code_by (List Insn × (List ℕ × ℕ))
    (coded× (coded_list insn.the_row.coded) (coded× numbers_code coded_ℕ))
    (λ l. (l.code, (l.maps, l.context_len)))
    (λ p. record { code = p.0; maps = p.1.0; context_len = p.1.1 })
    (λ _. refl)

-- whose sections are open, which of them are awaited, the programs, how many elements are reclaimed
abbrev pub WorldFields : Type 0
WorldFields = List Bool × (List Bool × (List Loaded × ℕ))

abbrev pub world_fields_code : Coded WorldFields
world_fields_code = coded× flags_code (coded× flags_code (coded× (coded_list program_code) coded_ℕ))

abbrev pub world_code : Coded WorldView
world_code = code_by (List (List ℕ) × (List MapView × (List (Option RunView) × WorldFields)))
    (coded× (coded_list numbers_code) (coded× (coded_list view_code)
    (coded× (coded_list (coded_option run_code)) world_fields_code)))
    (λ w. (w.names, (w.maps, (w.runs, (w.opened, (w.awaited, (w.programs, w.given)))))))
    (λ p. record {
      names = p.0;
      maps = p.1.0;
      runs = p.1.1.0;
      opened = p.1.1.1.0;
      awaited = p.1.1.1.1.0;
      programs = p.1.1.1.1.1.0;
      given = p.1.1.1.1.1.1;
    })
    (λ _. refl)
