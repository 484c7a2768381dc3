use Rattle.control.specs.Refusals.{map_reply, program_reply}
use Rattle.control.proofs.Made.{map_made, load_made, world_made}
use Rattle.control.proofs.setup_commands.answer_setup.Goals as goal

pub returns-in_ok-refusal-in-Map-clause-ok : goal.returns-in_ok-refusal-in-Map-clause-ok
returns-in_ok-refusal-in-Map-clause-ok c =
    let old = c.args.setup.now in
    let reply = map_reply c.in_ok-made-in-Map.made in
    let replied = c.shape_of.ensures.replied old c.in-Map.name reply c.create.new.self c.in_ok-made-in-Map.ensures.replies in
    map_made old c.args.command c.in-Map.name c.in-Map.shape reply c.create.new.self
    c.args.out.now.items c.write_map_made.new.out.items c.in_ok-refusal-in-Map.refusal
    c.in-Map.is replied c.in_ok-refusal-in-Map.ensures.ok

pub returns-in_ok-refusal-in-Load-clause-ok : goal.returns-in_ok-refusal-in-Load-clause-ok
returns-in_ok-refusal-in-Load-clause-ok c =
    load_made c.args.setup.now c.args.command c.in-Load.ctx_len c.in-Load.code c.in-Load.maps
    (program_reply c.in_ok-loaded-in-Load.loaded) c.load.new.self c.args.out.now.items c.write_loaded.new.out.items
    c.in_ok-refusal-in-Load.refusal c.in-Load.is c.in_ok-loaded-in-Load.ensures.replies c.in_ok-refusal-in-Load.ensures.ok

pub returns-in_ok-left-in_default-clause-ok : goal.returns-in_ok-left-in_default-clause-ok
returns-in_ok-left-in_default-clause-ok c =
    let e = c.in_ok-left-in_default.ensures.ok in (
      e.2.served.events,
      e.0,
      world_made c.args.setup.now e.0 c.in_ok-left-in_default.left.0 e.1 c.args.command
          c.in_default.not-Map c.in_default.not-Load e.2,
      e.3,
      e.4,
    )
