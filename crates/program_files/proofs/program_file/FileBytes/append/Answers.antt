use Rattle.program_files.proofs.Raw.{more_long}
use Rattle.program_files.proofs.program_file.FileBytes.append.Goals as goal

pub returns-in-TooLong : goal.returns-in-TooLong
returns-in-TooLong c bytes h = more_long c.args.self.now c.in-TooLong.remainder c.in-TooLong.beginning bytes c.args.chunk.now
    c.in-TooLong.is h
