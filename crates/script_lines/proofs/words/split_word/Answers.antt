use Rattle.bpf_model.proofs.Prelude.{ℕ, ◌≡◌, ◌≢◌, ◌<◌, List, length, get_or, arith}
use Rattle.script_lines.proofs.WordLaws.{first_word}
use Rattle.script_lines.proofs.words.split_word.Goals as goal

some_before : (line : List ℕ) (n : ℕ) → 0 < length line → get_or line 0 0 ≢ 32 → (n < length line → get_or line n 0 ≡ 32) → 0 < n
some_before line n some first space = grind (arith, first, space)

pub returns : goal.returns
returns c =
    let first = first_word c.args.line.now c.word_end.result
    (some_before c.args.line.now c.word_end.result c.requires.some c.requires.first c.word_end.ensures.space)
    c.word_end.ensures.within c.word_end.ensures.before c.word_end.ensures.space in
    rw (c.split_at.ensures.front, c.split_at.ensures.back) first
