use Rattle.table_words.proofs.Prelude.{◌∙◌, ap}
use Rattle.map_table.proofs.Prelude.{TableView}
use Rattle.map_table.proofs.Doubled.{room_stays, room_new, room_once}
use Rattle.map_table.proofs.writer.Writer.make_room.Goals as goal

pub returns-clause-stay : goal.returns-clause-stay
returns-clause-stay c =
    let s = c.find_room-room.ensures.steps in
    let w = c.is_writers.ensures in
    room_stays c.args.table.now.shape c.args.self.now.view c.find_room-room.new.self.view s.0
    (w.shape ∙ ap (λ (t : TableView). t.shape) c.requires.table) w.me w.known s.1 s.2.went

pub returns-clause-once : goal.returns-clause-once
returns-clause-once c =
    let s = c.find_room-room.ensures.steps in
    let w = c.is_writers.ensures in
    room_once c.args.table.now.shape c.args.self.now.view c.find_room-room.new.self.view s.0
    (w.shape ∙ ap (λ (t : TableView). t.shape) c.requires.table) w.me w.known s.1 s.2.went c.is_writers-2.ensures.settled

pub returns-clause-none_new : goal.returns-clause-none_new
returns-clause-none_new c =
    let s = c.find_room-room.ensures.steps in
    let w = c.is_writers.ensures in
    room_new c.args.table.now.shape c.args.self.now.view c.find_room-room.new.self.view s.0
    (w.shape ∙ ap (λ (t : TableView). t.shape) c.requires.table) w.me w.known s.1 s.2.went
