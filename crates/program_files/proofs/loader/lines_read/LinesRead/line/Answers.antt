use Rattle.program_files.specs.Stages.{content_of}
use Rattle.program_files.proofs.Files.{not_code, context_refuses, maps_step, maps_refuse, code_step, code_refuses}
use Rattle.program_files.proofs.loader.lines_read.LinesRead.line.Goals as goal

pub returns-in_default-clause-wrong : goal.returns-in_default-clause-wrong
returns-in_default-clause-wrong c lines h e = context_refuses c.args.self.now.stage lines c.args.line.now
    (content_of c.args.self.now) c.in-Context.is c.in_default.ensures.none h

pub returns-in-Maps-2-clause-taken : goal.returns-in-Maps-2-clause-taken
returns-in-Maps-2-clause-taken c lines h = maps_step c.args.self.now.stage lines c.args.line.now
    (content_of c.args.self.now) c.add_map.new.registry c.add_map.result c.in-Maps-2.is c.add_map.ensures.added h

pub returns-in-Maps-2-clause-wrong : goal.returns-in-Maps-2-clause-wrong
returns-in-Maps-2-clause-wrong c lines h e = maps_refuse c.args.self.now.stage lines c.args.line.now
    (content_of c.args.self.now) c.in-Maps-2.is (not_code c.args.line.now c.as_slice.result.now c.eq.result
    c.eq.ensures c.as_slice.ensures c.if-eq.false) (c.add_map.ensures.wrong e) h

pub returns-in-Code-clause-taken : goal.returns-in-Code-clause-taken
returns-in-Code-clause-taken c lines h = code_step c.args.self.now.stage lines c.args.line.now
    (content_of c.args.self.now) c.add_slots.new.code.items c.add_slots.result c.in-Code.is c.add_slots.ensures.added
    h

pub returns-in-Code-clause-wrong : goal.returns-in-Code-clause-wrong
returns-in-Code-clause-wrong c lines h e = code_refuses c.args.self.now.stage lines c.args.line.now
    (content_of c.args.self.now) c.in-Code.is (c.add_slots.ensures.wrong e) h
