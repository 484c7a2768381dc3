use Rattle.bpf_model.proofs.Prelude.{◌≡◌, ℕ, List, Option, Some, sym, subst}
use Rattle.classic.proofs.Prelude.{Packet}
use Rattle.classic_program.proofs.Prelude.{Filters, checked}
use Rattle.classic_program.specs.WellFormed.{Checked as Classic}
use Rattle.host_programs.specs.Opened.{IsTranslationOf}
use Rattle.host_programs.specs.Packets.{seen}
use Rattle.host_programs.specs.Runs.{Returns}
use Rattle.host_programs.proofs.Filtering.{exits_as_filter}
use Rattle.host_programs.proofs.program.HostProgram.value_on.Goals as goal

pub returns-in-Some : goal.returns-in-Some
returns-in-Some c =
    let p = c.args.self.now in
    let packet = c.args.packet.now in
    let wire = c.args.wire in
    let f = c.in-Some.filter.now in
    let n = c.from.result in
    let is : p.classic ≡ Some (checked Packet f) = c.in-Some.ensures in
    let translates = subst (IsTranslationOf p.checked) is c.is_open.ensures.translation in
    let ran : Filters Packet f (seen packet wire) c.run.result =
    subst (λ (bytes : List ℕ). Filters Packet f (record { bytes = bytes; wire = wire }) c.run.result) c.first_bytes.ensures.same c.run.ensures in
    let filters : Filters Packet f (seen packet wire) n = subst (λ (k : ℕ). Filters Packet f (seen packet wire) k) (sym c.from.ensures) ran in
    record {
      exits = exits_as_filter p.checked f packet wire n translates c.is_open.ensures.verified c.first_bytes.ensures.bytes c.ranges.wire.fits
          filters;
      returns = subst (λ (o : Option Classic). Returns o (seen packet wire) n) (sym is) (λ _. filters);
    }
