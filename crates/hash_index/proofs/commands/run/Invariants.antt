use Rattle.bpf_model.proofs.Prelude.{◌≡◌, ◌++◌, drop, empty}
use Rattle.element_store.proofs.Prelude.{key_at}
use Rattle.hash_index.specs.Replies.{AreReadyCommands, IsKeyed, replies}
use Rattle.hash_index.proofs.commands.run.Given as goal

abbrev pub invariant-loop-command : goal.invariant-loop-command
invariant-loop-command g l =
    let contents = g.I.Index.contents l.index l.arena in
    record {
      fits : g.I.Index.fits l.index l.arena;
      keyed : IsKeyed (key_at l.fn.arena.slots) contents;
      links : l.arena ≡ record l.fn.arena { links = l.arena.links };
      ready : AreReadyCommands l.fn.arena (drop l.command-index l.commands);
      told : l.all.items ++ replies (key_at l.fn.arena.slots) (drop l.command-index l.commands) contents ≡ replies (key_at l.fn.arena.slots) l.commands empty;
    }
