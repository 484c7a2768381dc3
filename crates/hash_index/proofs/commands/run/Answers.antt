use Rattle.bpf_model.proofs.Prelude.{◌≡◌, ◌∙◌, ◌+◌, ◌++◌, ◌∷◌, ℕ, List, Option, refl, sym, ap, subst, drop, drop_more}
use Rattle.element_store.proofs.Prelude.{key_at}
use Rattle.hash_index.specs.declared.commands.Command.{Command}
use Rattle.hash_index.specs.Replies.{AreReadyCommands, IsKeyed, replies}
use Rattle.hash_index.proofs.Runs.{keyed_step, keyed_empty, keys_still, links_still, told_more}
use Rattle.hash_index.proofs.commands.run.Goals as goal

pub loop-command-init : goal.loop-command-init
loop-command-init g c =
    record {
      fits = c.in_ok-index.ensures.fits c.args.arena.now c.requires.slots;
      keyed = subst (IsKeyed (key_at c.args.arena.now.slots))
          (sym (c.in_ok-index.ensures.empty c.args.arena.now c.requires.slots))
          (keyed_empty (key_at c.args.arena.now.slots));
      links = refl;
      ready = c.requires.ready;
      told = ap (λ (l : List (Option ℕ)). l ++ replies (key_at c.args.arena.now.slots) c.args.commands.now
          (g.I.Index.contents c.in_ok-index.index c.args.arena.now)) c.new-all.ensures.items ∙
          ap (replies (key_at c.args.arena.now.slots) c.args.commands.now)
          (c.in_ok-index.ensures.empty c.args.arena.now c.requires.slots);
    }

pub loop-command-preserved : goal.loop-command-preserved
loop-command-preserved g c =
    let i = c.loop-command.invariant in
    let same = keys_still c.args.arena.now c.loop-command.arena i.links in
    let split : drop c.loop-command.command-index c.args.commands.now ≡ c.command-item.result ∷ drop (c.loop-command.command-index + 1) c.args.commands.now =
    drop_more c.args.commands.now c.loop-command.command-index c.command-item.result c.loop-command-test.true ∙
    ap (λ (x : Command). x ∷ drop (c.loop-command.command-index + 1) c.args.commands.now)
    (sym c.command-item.is) in
    record {
      fits = c.step.ensures.fits;
      keyed = keyed_step (key_at c.args.arena.now.slots) (key_at c.loop-command.arena.slots)
          (g.I.Index.contents c.loop-command.index c.loop-command.arena)
          (g.I.Index.contents c.step.new.index c.step.new.arena) c.command-item.result same c.step.ensures.contents
          i.keyed;
      links = links_still c.args.arena.now c.loop-command.arena c.step.new.arena i.links c.step.ensures.links;
      ready = (subst (AreReadyCommands c.args.arena.now) split i.ready).1;
      told = told_more (key_at c.args.arena.now.slots) (key_at c.loop-command.arena.slots) c.args.commands.now
          (drop c.loop-command.command-index c.args.commands.now)
          (drop (c.loop-command.command-index + 1) c.args.commands.now) c.loop-command.all.items c.push.new.self.items
          c.command-item.result c.step.result (g.I.Index.contents c.loop-command.index c.loop-command.arena)
          (g.I.Index.contents c.step.new.index c.step.new.arena) same split c.in_ok-push.ensures.items
          c.step.ensures.reply c.step.ensures.contents i.told;
    }
