use Rattle.bpf_model.proofs.Prelude.{rules, ◌≢◌, sym, subst}
use Rattle.classic_program.proofs.Prelude.{IsListing}
use Rattle.classic_program.specs.ReadFaults.{IsListingFault}
use Rattle.classic_program.specs.declared.fault.ReadFault.TheVariants as read_faults
use Rattle.texts.proofs.translation.listed_in_text.Goals as goal

pub returns-in-Err-read_listing : goal.returns-in-Err-read_listing
returns-in-Err-read_listing c =
    let e = c.in-Err-read_listing in
    let no : e.fault ≢ read_faults.Memory = search rules in
    record {
      listed = record {};
      fault = (
        (λ filter is. no (e.ensures.only filter (subst (λ z. IsListing z filter) (sym c.in-Ok.ensures.cases.0) is))),
        no,
        (search rules, subst (λ z. IsListingFault z e.fault) c.in-Ok.ensures.cases.0 e.ensures.fault),
      );
    }
