use Rattle.table_words.proofs.Prelude.{rules, ◌≢◌, [], ◌∷◌, ◌++◌, ap, ◌∙◌, arith}
use Rattle.map_table.proofs.Prelude.{Learn, TableView}
use Rattle.map_table.proofs.Going.{goes_then}
use Rattle.map_table.proofs.Lookups.{only_append, searched_holds, searched_inside}
use Rattle.map_table.proofs.Walking.{learnt_first, meets_way}
use Rattle.map_table.proofs.table.MapTable.meet.Goals as goal

pub element_in-element-requires : goal.element_in-element-requires
element_in-element-requires c = λ zero_half.
    let some : c.learn-word.result ≢ 0 = search rules in
    let n = c.learn-word.ensures.named some in
    let names = n.1 in
    absurd (omega (arith, names, zero_half))

pub copy_key-requires-clause-held : goal.copy_key-requires-clause-held
copy_key-requires-clause-held c = c.learn-word.ensures.held c.element_in-element.result c.element_in-element.ensures

pub copy_key-requires-clause-element : goal.copy_key-requires-clause-element
copy_key-requires-clause-element c = c.learn-word.ensures.within c.element_in-element.result c.element_in-element.ensures

pub returns-clause-searched : goal.returns-clause-searched
returns-clause-searched c =
    let h = c.copy_key.ensures.loaded in
    let first = Learn c.args.way c.learn-word.result ∷ [] in (
      h.0 ++ first,
      goes_then c.args.seat.now c.learn-word.new.seat c.copy_key.new.seat first h.0 c.learn-word.ensures.step h.1,
      only_append c.args.self.now.shape h.0 first h.2 tt,
      learnt_first c.args.way c.learn-word.result h.0,
    )

pub returns-clause-inside : goal.returns-clause-inside
returns-clause-inside c =
    let h = c.copy_key.ensures.loaded in
    let first = Learn c.args.way c.learn-word.result ∷ [] in
    searched_inside c.args.self.now.shape c.args.seat.now c.copy_key.new.seat (h.0 ++ first)
    (goes_then c.args.seat.now c.learn-word.new.seat c.copy_key.new.seat first h.0 c.learn-word.ensures.step h.1)
    (only_append c.args.self.now.shape h.0 first h.2 tt) c.requires.inside

pub returns-clause-held : goal.returns-clause-held
returns-clause-held c =
    let h = c.copy_key.ensures.loaded in
    searched_holds c.args.self.now.shape c.learn-word.new.seat c.copy_key.new.seat h.0 h.1 h.2 c.element_in-element.result
    (c.learn-word.ensures.held c.element_in-element.result c.element_in-element.ensures)

pub returns-clause-within : goal.returns-clause-within
returns-clause-within c = c.learn-word.ensures.within c.element_in-element.result c.element_in-element.ensures

pub returns-clause-keeps : goal.returns-clause-keeps
returns-clause-keeps c =
    let h = c.copy_key.ensures.loaded in
    let first = Learn c.args.way c.learn-word.result ∷ [] in
    searched_holds c.args.self.now.shape c.args.seat.now c.copy_key.new.seat (h.0 ++ first)
    (goes_then c.args.seat.now c.learn-word.new.seat c.copy_key.new.seat first h.0 c.learn-word.ensures.step h.1)
    (only_append c.args.self.now.shape h.0 first h.2 tt)

pub returns-clause-loaded : goal.returns-clause-loaded
returns-clause-loaded c =
    let h = c.copy_key.ensures.loaded in
    let first = Learn c.args.way c.learn-word.result ∷ [] in (
      c.learn-word.result,
      h.0,
      c.element_in-element.ensures,
      h.3,
      goes_then c.args.seat.now c.learn-word.new.seat c.copy_key.new.seat first h.0 c.learn-word.ensures.step h.1,
    )

pub returns-clause-met : goal.returns-clause-met
returns-clause-met c =
    let h = c.copy_key.ensures.loaded in
    let first = Learn c.args.way c.learn-word.result ∷ [] in
    let all = goes_then c.args.seat.now c.learn-word.new.seat c.copy_key.new.seat first h.0 c.learn-word.ensures.step h.1 in
    meets_way c.args.self.now.shape c.args.seat.now c.copy_key.new.seat h.0 c.copy_key.new.key c.args.way c.learn-word.result c.element_in-element.result
    (c.is_readers.ensures.shape ∙ ap (λ (t : TableView). t.shape) (all.table ∙ c.requires.table)) c.requires.known all h.2
    c.element_in-element.ensures h.3 (c.copy_key.ensures.count ∙ c.requires.key)
