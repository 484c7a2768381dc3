use Rattle.bpf_model.proofs.Prelude.{rules, arith, ◌*◌, ◌<◌, ◌∙◌, length, slice_get, length-set, number_at}
use Rattle.shared_runs.proofs.KeyWords.{one-more}
use Rattle.shared_runs.proofs.maps.key_words.words_of.Goals as goal

pub loop-place-preserved : goal.loop-place-preserved
loop-place-preserved c =
    let i = c.loop-place.invariant in
    let below : c.loop-place.place < c.args.count = search rules in
    let few = c.requires.few in
    let long = i.0 in
    let room : c.loop-place.place < length c.loop-place.words = omega (arith, below, few, long) in (
      length-set c.loop-place.words c.loop-place.place c.number_of.result ∙ i.0,
      one-more (λ p. number_at (slice_get c.args.key.now) (8 * p) 8) c.loop-place.words c.loop-place.place
          c.number_of.result room i.1 c.number_of.ensures,
    )
