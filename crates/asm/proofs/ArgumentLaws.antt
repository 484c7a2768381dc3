-- How an argument is told by its bytes.
use Rattle.bpf_model.proofs.Prelude.{ℕ, ◌≡◌, ◌≤◌, List, [], ◌∷◌, ◌++◌, get_or, sym, ap, ◌∙◌, arith, append_assoc, Option, Some, None, IfSome, IsInRange}
use Rattle.disasm.specs.Text.{numeral, sign_text, argument_text}
use Rattle.disasm.specs.declared.statement.Sign.{Sign}
use Rattle.disasm.specs.declared.statement.Sign.TheVariants.{Plus, Minus}
use Rattle.disasm.specs.declared.statement.Argument.{Argument}
use Rattle.disasm.specs.declared.statement.Argument.TheVariants.{Register, Number, Signed, Memory}
use Rattle.asm.specs.Reading.{IsArgumentRead, ReadsArgument, capped, Lacks}
use Rattle.asm.proofs.Numerals.{numeral_digit, numeral_some}
use Rattle.asm.proofs.Lacking.{not_lacks, numeral_lacks, lacks_append, lacks_cons}

-- the number of a register, a sign and an offset

plus_no_digit : ¬ (IsInRange 48 57 43)
plus_no_digit h = let low : 48 ≤ 43 = h.0 in omega arith

minus_no_digit : ¬ (IsInRange 48 57 45)
minus_no_digit h = let low : 48 ≤ 45 = h.0 in omega arith

minus_lacks_plus : (b o : ℕ) → Lacks 43 (numeral b ++ (45 ∷ []) ++ numeral o)
minus_lacks_plus b o =
    lacks_append 43 (numeral b ++ (45 ∷ [])) (numeral o)
    (lacks_append 43 (numeral b) (45 ∷ []) (numeral_lacks 43 b plus_no_digit) (lacks_cons 43 45 [] (omega arith) (λ i inside. absurd (omega arith))))
    (numeral_lacks 43 o plus_no_digit)

pub base_offset_plus : (text base offset : List ℕ) (r : Option Argument) → text ≡ base ++ 43 ∷ offset →
    ((front back : List ℕ) → Lacks 43 front → text ≡ front ++ 43 ∷ back → (base ≡ front) × (offset ≡ back)) →
    ((b o : ℕ) → base ≡ numeral b → offset ≡ numeral o → r ≡ Some (Memory (capped b) Plus (capped o))) →
    (b : ℕ) (sign : Sign) (o : ℕ) → text ≡ numeral b ++ sign_text sign ++ numeral o →
    r ≡ Some (Memory (capped b) sign (capped o))
base_offset_plus text base offset r parts only read b Plus o e =
    let same : (base ≡ numeral b) × (offset ≡ numeral o) =
    only (numeral b) (numeral o) (numeral_lacks 43 b plus_no_digit)
    (e ∙ append_assoc (numeral b) (43 ∷ []) (numeral o)) in
    read b o same.0 same.1
base_offset_plus text base offset r parts only read b Minus o e =
    absurd (not_lacks 43 base offset (rw (sym parts ∙ e) (minus_lacks_plus b o)))

pub base_offset_minus : (text base offset : List ℕ) (r : Option Argument) → Lacks 43 text →
    ((front back : List ℕ) → Lacks 45 front → text ≡ front ++ 45 ∷ back → (base ≡ front) × (offset ≡ back)) →
    ((b o : ℕ) → base ≡ numeral b → offset ≡ numeral o → r ≡ Some (Memory (capped b) Minus (capped o))) →
    (b : ℕ) (sign : Sign) (o : ℕ) → text ≡ numeral b ++ sign_text sign ++ numeral o →
    r ≡ Some (Memory (capped b) sign (capped o))
base_offset_minus text base offset r lacks only read b Plus o e =
    absurd (not_lacks 43 (numeral b) (numeral o) (rw (sym (e ∙ append_assoc (numeral b) (43 ∷ []) (numeral o))) lacks))
base_offset_minus text base offset r lacks only read b Minus o e =
    let same : (base ≡ numeral b) × (offset ≡ numeral o) =
    only (numeral b) (numeral o) (numeral_lacks 45 b minus_no_digit)
    (e ∙ append_assoc (numeral b) (45 ∷ []) (numeral o)) in
    read b o same.0 same.1

pub no_base_offset : (text : List ℕ) → Lacks 43 text →
    ((front back : List ℕ) → Lacks 45 front → text ≡ front ++ 45 ∷ back → ⊥) → (b : ℕ) (sign : Sign) (o : ℕ) →
    text ≡ numeral b ++ sign_text sign ++ numeral o → ⊥
no_base_offset text lacks only b Plus o e =
    not_lacks 43 (numeral b) (numeral o) (rw (sym (e ∙ append_assoc (numeral b) (43 ∷ []) (numeral o))) lacks)
no_base_offset text lacks only b Minus o e =
    only (numeral b) (numeral o) (numeral_lacks 45 b minus_no_digit) (e ∙ append_assoc (numeral b) (45 ∷ []) (numeral o))

-- the first byte tells the kind of an argument

numeral_start : (text : List ℕ) (n : ℕ) → text ≡ numeral n → (48 ≤ get_or text 0 0) × (get_or text 0 0 ≤ 57)
numeral_start text n e = rw e (numeral_digit n 0 (numeral_some n))

start : (text other : List ℕ) → text ≡ other → get_or text 0 0 ≡ get_or other 0 0
start text other e = ap (λ t. get_or t 0 0) e

pub register_only : (text : List ℕ) (r : Option Argument) → get_or text 0 0 ≡ 114 →
    ((n : ℕ) → text ≡ argument_text (Register n) → r ≡ Some (Register (capped n))) → ReadsArgument text r
register_only text r first read (Register n) e = read n e
register_only text r first read (Number n) e = absurd (let p = numeral_start text n e in omega arith)
register_only text r first read (Signed Plus n) e = absurd (let p = start text (43 ∷ numeral n) e in omega arith)
register_only text r first read (Signed Minus n) e = absurd (let p = start text (45 ∷ numeral n) e in omega arith)
register_only text r first read (Memory b s o) e = absurd (let p = start text (argument_text (Memory b s o)) e in omega arith)

pub memory_only : (text : List ℕ) (r : Option Argument) → get_or text 0 0 ≡ 91 →
    ((b : ℕ) (s : Sign) (o : ℕ) → text ≡ argument_text (Memory b s o) → r ≡ Some (Memory (capped b) s (capped o))) →
    ReadsArgument text r
memory_only text r first read (Register n) e = absurd (let p = start text (114 ∷ numeral n) e in omega arith)
memory_only text r first read (Number n) e = absurd (let p = numeral_start text n e in omega arith)
memory_only text r first read (Signed Plus n) e = absurd (let p = start text (43 ∷ numeral n) e in omega arith)
memory_only text r first read (Signed Minus n) e = absurd (let p = start text (45 ∷ numeral n) e in omega arith)
memory_only text r first read (Memory b s o) e = read b s o e

pub plus_only : (text : List ℕ) (r : Option Argument) → get_or text 0 0 ≡ 43 →
    ((n : ℕ) → text ≡ argument_text (Signed Plus n) → r ≡ Some (Signed Plus (capped n))) → ReadsArgument text r
plus_only text r first read (Register n) e = absurd (let p = start text (114 ∷ numeral n) e in omega arith)
plus_only text r first read (Number n) e = absurd (let p = numeral_start text n e in omega arith)
plus_only text r first read (Signed Plus n) e = read n e
plus_only text r first read (Signed Minus n) e = absurd (let p = start text (45 ∷ numeral n) e in omega arith)
plus_only text r first read (Memory b s o) e = absurd (let p = start text (argument_text (Memory b s o)) e in omega arith)

pub minus_only : (text : List ℕ) (r : Option Argument) → get_or text 0 0 ≡ 45 →
    ((n : ℕ) → text ≡ argument_text (Signed Minus n) → r ≡ Some (Signed Minus (capped n))) → ReadsArgument text r
minus_only text r first read (Register n) e = absurd (let p = start text (114 ∷ numeral n) e in omega arith)
minus_only text r first read (Number n) e = absurd (let p = numeral_start text n e in omega arith)
minus_only text r first read (Signed Plus n) e = absurd (let p = start text (43 ∷ numeral n) e in omega arith)
minus_only text r first read (Signed Minus n) e = read n e
minus_only text r first read (Memory b s o) e = absurd (let p = start text (argument_text (Memory b s o)) e in omega arith)

-- what is found of one kind is found

pub register_found : (text : List ℕ) (r : Option Argument) →
    IfSome r (λ a. (n : ℕ) × (text ≡ argument_text (Register n)) × (a ≡ Register (capped n))) →
    IfSome r (IsArgumentRead text)
register_found text None h = tt
register_found text (Some a) h = (Register h.0, h.1, h.2)

pub number_found : (text : List ℕ) (r : Option Argument) →
    IfSome r (λ a. (n : ℕ) × (text ≡ argument_text (Number n)) × (a ≡ Number (capped n))) →
    IfSome r (IsArgumentRead text)
number_found text None h = tt
number_found text (Some a) h = (Number h.0, h.1, h.2)

pub signed_found : (text : List ℕ) (sign : Sign) (r : Option Argument) →
    IfSome r (λ a. (n : ℕ) × (text ≡ argument_text (Signed sign n)) × (a ≡ Signed sign (capped n))) →
    IfSome r (IsArgumentRead text)
signed_found text sign None h = tt
signed_found text sign (Some a) h = (Signed sign h.0, h.1, h.2)

pub memory_found : (text : List ℕ) (r : Option Argument) →
    IfSome r (λ a. (b : ℕ) × (sign : Sign) × (o : ℕ) × (text ≡ argument_text (Memory b sign o)) ×
    (a ≡ Memory (capped b) sign (capped o))) → IfSome r (IsArgumentRead text)
memory_found text None h = tt
memory_found text (Some a) h = (Memory h.0 h.1 h.2, h.3, h.4)
