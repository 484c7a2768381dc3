use Rattle.bpf_model.proofs.Prelude.{IfSome_then}
use Rattle.shared.proofs.Exits.{exits-once, possible-once, own-once}
use Rattle.shared.proofs.held.Held.exit_noted.Goals as goal

pub returns : goal.returns
returns g c =
    let n = c.exit_noted.ensures.noted in
    let exit = exits-once c.args.self.now _ c.deref.result.now.books.world c.args.run c.args.prog c.args.ctx.now.items
    c.exit_noted.result.exit n.world c.program-program.ensures n.some in
    record {
      noted = record {
        worker = n.worker;
        count = n.count;
        run_is = n.run_is;
        prog_is = n.prog_is;
        context_is = n.context_is;
        exit = exit;
        may = IfSome_then c.exit_noted.result.exit exit (possible-once c.args.self.now c.args.run c.args.prog c.args.ctx.now.items);
        alone = IfSome_then c.exit_noted.result.exit exit (own-once c.args.self.now c.args.run c.args.prog c.args.ctx.now.items);
      };
    }
