use Rattle.bpf_model.proofs.Prelude.{rules}
use Rattle.program_files.proofs.Raw.{even_told, odd_told}
use Rattle.program_files.proofs.program_file.FileBytes.source.Goals as goal

pub returns-in-TooLong-eq0-default-clause-fault : goal.returns-in-TooLong-eq0-default-clause-fault
returns-in-TooLong-eq0-default-clause-fault c bytes h = even_told c.args.self.now c.in-TooLong-eq0-default.remainder
    c.in-TooLong-eq0-default.beginning bytes c.in-TooLong-eq0-default.is (search rules) h

pub returns-in-TooLong-clause-fault : goal.returns-in-TooLong-clause-fault
returns-in-TooLong-clause-fault c bytes h = odd_told c.args.self.now c.in-TooLong.remainder c.in-TooLong.beginning bytes
    c.in-TooLong.is (search rules) h
