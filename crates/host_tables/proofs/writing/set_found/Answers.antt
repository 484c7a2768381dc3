use Rattle.host_tables.proofs.Tidy.{with_room, without_room}
use Rattle.host_tables.proofs.writing.set_found.Goals as goal

pub returns-clause-put : goal.returns-clause-put
returns-clause-put c = with_room c.args.found c.args.key.now c.args.value.now c.args.writer.now c.make_room.new.writer c.put_under.new.writer
    c.put_under.result c.make_room.ensures.room c.put_under.ensures.put

pub returns-clause-fault : goal.returns-clause-fault
returns-clause-fault c = without_room c.args.found c.args.key.now c.args.writer.now c.make_room.new.writer c.put_under.new.writer
    c.put_under.result c.make_room.ensures.room c.put_under.ensures.fault
