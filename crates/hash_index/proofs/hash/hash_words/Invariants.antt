use Rattle.bpf_model.proofs.Prelude.{◌≡◌, ◌<◌, ◌≤◌, length, ◌+◌, ◌-◌, ◌*◌, ◌/◌}
use Rattle.hash_index.specs.Chains.{hash_of, words_hash, word_bytes}
use Rattle.hash_index.proofs.hash.hash_words.Given as goal

abbrev pub invariant-loop : goal.invariant-loop
invariant-loop l = record {
  same : words_hash ((length l.rest + (word_bytes - 1)) / word_bytes) l.hash l.rest ≡ hash_of l.key;
  full : word_bytes * (l.end - l.counter) ≤ length l.rest;
  past : length l.rest < word_bytes * (l.end - l.counter) + word_bytes;
}
