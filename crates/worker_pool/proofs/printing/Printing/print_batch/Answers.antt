use Rattle.worker_pool.proofs.printing.Printing.print_batch.Goals as goal

pub print_apart-requires-clause-new_maps : goal.print_apart-requires-clause-new_maps
print_apart-requires-clause-new_maps g c = (c.requires.alike _ c.in-Some.is).1

pub print_apart-requires-clause-shapes : goal.print_apart-requires-clause-shapes
print_apart-requires-clause-shapes g c = (c.requires.alike _ c.in-Some.is).2

pub returns-clause-printed : goal.returns-clause-printed
returns-clause-printed g c = c.in_ok-apart.ensures.printed c.args.self.now.shared.now (c.requires.alike c.in-Some.program c.in-Some.is).0
