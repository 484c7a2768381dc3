use Rattle.bpf_model.proofs.Prelude.{◌≡◌, ◌∙◌, sym, ap, get, le_bytes_4, index_key, index_below}
use Rattle.model_laws.proofs.Indices.{index-gets, index-past, index-long}
use Rattle.map_kinds.proofs.index_key.index_of.Goals as goal

pub returns-then-key-ne-INDEX_BYTES : goal.returns-then-key-ne-INDEX_BYTES
returns-then-key-ne-INDEX_BYTES c = sym (index-long c.args.limit c.args.key.now c.if-key-ne-INDEX_BYTES.true)

pub returns-then-index-limit : goal.returns-then-index-limit
returns-then-index-limit c =
    let is : index_key c.from_le_bytes-index.result ≡ c.args.key.now =
    le_bytes_4 c.args.key.now c.from_le_bytes-index.result c.if-key-ne-INDEX_BYTES.false
    (λ i. (c.type_inv.key i).fits) c.from_le_bytes-index.ensures in
    sym (ap (get (index_below c.args.limit)) (sym is) ∙ index-gets c.args.limit c.from_le_bytes-index.result c.requires c.if-index-limit.true)

pub returns-else-index-limit : goal.returns-else-index-limit
returns-else-index-limit c =
    let is : index_key c.from_le_bytes-index.result ≡ c.args.key.now =
    le_bytes_4 c.args.key.now c.from_le_bytes-index.result c.if-key-ne-INDEX_BYTES.false
    (λ i. (c.type_inv.key i).fits) c.from_le_bytes-index.ensures in
    sym (ap (get (index_below c.args.limit)) (sym is) ∙
    index-past c.args.limit c.from_le_bytes-index.result c.if-index-limit.false c.from_le_bytes-index.type_inv)
