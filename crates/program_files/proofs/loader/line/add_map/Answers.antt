use Rattle.bpf_model.proofs.Prelude.{sym, subst, IsAscii, IsUtf8-from_ascii}
use Rattle.program_files.proofs.Files.{same_map}
use Rattle.program_files.proofs.Slots.{sound_map, too_often}
use Rattle.maps.proofs.Names.{ascii_name}
use Rattle.program_files.proofs.loader.line.add_map.Goals as goal

pub returns-in_default-clause-wrong : goal.returns-in_default-clause-wrong
returns-in_default-clause-wrong c e new h =
    too_often c.args.registry.now h.name h.shape (c.in_default.ensures.none h.name h.shape h.is) h.taken

pub returns-in_default-from_utf8-clause-wrong : goal.returns-in_default-from_utf8-clause-wrong
returns-in_default-from_utf8-clause-wrong c e new h =
    let same = same_map c.args.line.now c.in-Some.map.name.now h.name c.in-Some.map.shape h.shape c.in-Some.ensures.some h.is in
    c.in_default-from_utf8.ensures.cases.0 (IsUtf8-from_ascii c.in-Some.map.name.now
    (subst IsAscii (sym same.0) (ascii_name h.name (sound_map c.args.registry.now h.name h.shape h.taken).0)))
