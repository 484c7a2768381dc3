use Rattle.model_laws.proofs.Requests.{replies_by_signature}
use Rattle.model_laws.proofs.replies_by_signature.Goals as goal

pub returns : goal.returns
returns c helper arguments bound store new_store opened reply h = replies_by_signature helper arguments bound store opened reply new_store h
