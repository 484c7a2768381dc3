use Rattle.bpf_model.proofs.Prelude.{◌≡◌, ◌≢◌, ◌∙◌, ℕ, ◌<◌, ◌≤◌, List, ◌++◌, length, drop, None, Some, refl, ap, inl, inr, arith, drop-append_seam, cases_lt}
use Rattle.std.proofs.lemmas.Str.Pattern.{split_text_parts}
use Rattle.texts.specs.Assembled.{code_line}
use Rattle.texts.proofs.heads.parts_of.Goals as goal

-- where a text stands, it stands no earlier than at the first place
no_earlier : (p bs : List ℕ) (i : ℕ) → ((k : ℕ) → k < i → (rest : List ℕ) → drop k bs ≢ p ++ rest) → (xs ys : List ℕ) → bs ≡ xs ++ (p ++ ys) → i ≤ length xs
no_earlier p bs i lacks xs ys e = elim (cases_lt (length xs) i) [
  | inl less ↦ absurd (lacks (length xs) less ys (ap (drop (length xs)) e ∙ drop-append_seam xs (p ++ ys)))
  | inr more ↦ omega (arith, more)
]

pub returns-in-None : goal.returns-in-None
returns-in-None c = (refl, split_text_parts code_line c.args.text.now None c.in-None.ensures.cases)

pub returns-in-Some : goal.returns-in-Some
returns-in-Some c =
    let h = c.in-Some.ensures.cases in (
      split_text_parts code_line c.args.text.now (Some (c.in-Some.head, c.in-Some.body)) h,
      λ xs ys e. let first = no_earlier code_line c.args.text.now h.0 h.2.0 xs ys e in let long = h.6 in omega (arith, first, long),
    )
