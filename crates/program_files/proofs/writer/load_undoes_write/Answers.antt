use Rattle.bpf_model.proofs.Prelude.{sym, subst}
use Rattle.std.proofs.lemmas.Result.{MatchResult-weaker}
use Rattle.program_files.specs.Heads.{file_content}
use Rattle.program_files.specs.ProgramFile.{FileSays}
use Rattle.program_files.proofs.writer.load_undoes_write.Goals as goal

pub returns-clause-same : goal.returns-clause-same
returns-clause-same c =
    let content = file_content c.args.head.now c.args.program.now in
    let says = subst (λ b. FileSays b content) (sym c.deref.ensures.value) c.in_ok-file.ensures.says in
    MatchResult-weaker c.load.result (c.load.ensures.only content says) (λ f same. same) (λ e same. tt)

pub returns-clause-fault : goal.returns-clause-fault
returns-clause-fault c =
    let content = file_content c.args.head.now c.args.program.now in
    let says = subst (λ b. FileSays b content) (sym c.deref.ensures.value) c.in_ok-file.ensures.says in
    MatchResult-weaker c.load.result (c.load.ensures.only content says) (λ f same. tt) (λ e same. same)
