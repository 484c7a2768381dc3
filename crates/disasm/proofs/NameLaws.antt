-- What is found by its name has that name.
use Rattle.bpf_model.proofs.Prelude.{rules, ℕ, ◌≡◌, ◌≢◌, Bool, true, false, cond, List, [], ◌∷◌, ◌++◌, refl, sym, subst, ◌∙◌, Decides, bytes_eq-Decides}
use Rattle.bpf_model.proofs.Prelude.{Option, Some, None, IfSome, find, false≢true, append_cancel_left}
use Rattle.std.specs.Str.{bytes_eq}
use Rattle.disasm.specs.declared.mnemonic.Mnemonic.{Mnemonic}
use Rattle.disasm.specs.Text.{mnemonic_text}

passes_or : {X : Type 0} (test : X → Bool) (x : X) (rest : Option X) (b : Bool) → test x ≡ b →
    IfSome rest (λ y. test y ≡ true) → IfSome (cond b (Some x) rest) (λ y. test y ≡ true)
passes_or test x rest true e h = e
passes_or test x rest false e h = h

find_passes : {X : Type 0} (test : X → Bool) (xs : List X) → IfSome (find test xs) (λ x. test x ≡ true)
find_passes test [] = tt
find_passes test (x ∷ xs) = passes_or test x (find test xs) (test x) refl (find_passes test xs)

pub named_found : (ms : List Mnemonic) (name : List ℕ) (r : Option Mnemonic) → r ≡ find (λ m. bytes_eq (mnemonic_text m) name) ms
    → IfSome r (λ m. name ≡ mnemonic_text m)
named_found ms name None e = tt
named_found ms name (Some m) e =
    let test : Mnemonic → Bool = λ m. bytes_eq (mnemonic_text m) name in
    let passed : IfSome (find test ms) (λ x. test x ≡ true) = find_passes test ms in
    let is : test m ≡ true = subst (λ (o : Option Mnemonic). IfSome o (λ x. test x ≡ true)) (sym e) passed in
    sym ((bytes_eq-Decides (mnemonic_text m) name).0 is)

tested : (xs ys : List ℕ) (b : Bool) → Decides b (xs ≡ ys) → b ≡ bytes_eq xs ys
tested xs ys b h = search (rules, bytes_eq-Decides)

pub name_goes_on : (stem suffix rest name : List ℕ) (b : Bool) → name ≡ stem ++ rest → b ≡ bytes_eq rest suffix → b ≡ bytes_eq (stem ++ suffix) name
name_goes_on stem suffix rest name b parts e =
    tested (stem ++ suffix) name b (
      (λ yes. let same : rest ≡ suffix = (bytes_eq-Decides rest suffix).0 (sym e ∙ yes) in rw (sym same) (sym parts)),
      (λ whole. e ∙ (bytes_eq-Decides rest suffix).1 (append_cancel_left stem rest suffix (sym parts ∙ sym whole))),
    )

pub name_differs : (stem suffix name : List ℕ) → ((rest : List ℕ) → name ≢ stem ++ rest) → false ≡ bytes_eq (stem ++ suffix) name
name_differs stem suffix name other =
    tested (stem ++ suffix) name false ((λ no. absurd (false≢true no)), (λ whole. absurd (other suffix (sym whole))))
