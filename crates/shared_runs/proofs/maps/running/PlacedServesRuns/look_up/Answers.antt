use Rattle.bpf_model.proofs.Prelude.{rules, ◌≡◌, [], ◌∷◌, length, arith}
use Rattle.shared_runs.proofs.KeyWords.{one-word}
use Rattle.shared_runs.proofs.maps.running.PlacedServesRuns.look_up.Goals as goal

pub returns-then-count-eq1 : goal.returns-then-count-eq1
returns-then-count-eq1 c =
    let s = c.lookup.ensures.searched in
    let one : c.args.words.now.table.now.shape.key_words ≡ 1 = search rules in
    let key = c.requires.key in
    let long : length c.args.key.now ≡ 8 = omega (arith, one, key) in
    record {
      looked = (
        s.0,
        s.1,
        record {
          key = c.word_of.result ∷ [];
          count = search rules;
          bytes_are = one-word c.word_of.result c.args.key.now long c.word_of.ensures;
          looked = s.2;
          within = c.lookup.ensures.element;
        },
      );
    }
