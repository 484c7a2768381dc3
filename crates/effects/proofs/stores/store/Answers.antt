use Rattle.bpf_model.proofs.Prelude.{refl, ap, ◌∙◌}
use Rattle.register_kinds.proofs.Prelude.{kind_of}
use Rattle.effects.proofs.stores.store.Goals as goal

pub returns-in_ok-store_value-in-Value-clause-region : goal.returns-in_ok-store_value-in-Value-clause-region
returns-in_ok-store_value-in-Value-clause-region c = (c.in-Value.offset, ap kind_of (c.in_ok-base.ensures.value ∙ c.in-Value.is))

pub returns-in_err-store_frame-in-Frame-clause-bytes : goal.returns-in_err-store_frame-in-Frame-clause-bytes
returns-in_err-store_frame-in-Frame-clause-bytes c = λ at n r. let fine = (c.in_err-store_frame-in-Frame.ensures.bytes at n r).fine in absurd cc

pub returns-in_ok-store_frame-in-Frame-clause-bytes : goal.returns-in_ok-store_frame-in-Frame-clause-bytes
returns-in_ok-store_frame-in-Frame-clause-bytes c = λ at n r. record { fine = refl; alike = (c.store_frame.ensures.bytes at n r).alike }
