-- How the parts of a line are told by its separators.
use Rattle.bpf_model.proofs.Prelude.{ℕ, ◌≡◌, List, [], ◌∷◌, ◌++◌, refl, sym, ap, ◌∙◌, append_assoc, Option, Some, None, IfSome, append-nil, tails, cons-nil}
use Rattle.disasm.specs.Text.{mnemonic_text, argument_text, arguments_text}
use Rattle.disasm.specs.declared.mnemonic.Mnemonic.{Mnemonic}
use Rattle.disasm.specs.declared.statement.Argument.{Argument}
use Rattle.disasm.specs.declared.statement.Arguments.{Arguments}
use Rattle.disasm.specs.declared.statement.Arguments.TheVariants.{Zero, One, Two, Three}
use Rattle.disasm.specs.declared.statement.Statement.{Statement}
use Rattle.asm.specs.Reading.{IsArgumentsRead, ReadsArguments, IsStatementRead, capped_argument, capped_arguments, Lacks}
use Rattle.asm.proofs.Lacking.{not_lacks, argument_lacks}
use Rattle.asm.proofs.PlainNames.{name_lacks}

regroup : (a b d mid : List ℕ) → (((a ++ mid) ++ b) ++ mid) ++ d ≡ a ++ (mid ++ (b ++ (mid ++ d)))
regroup a b d mid = simp append_assoc

joined : (x y a b : List ℕ) → x ≡ a → y ≡ b → (x ++ 44 ∷ 32 ∷ y) ≡ a ++ 44 ∷ 32 ∷ b
joined x y a b e f = rw (e, f) refl

pub appended : {A : Type 0} (x y a b : List A) → x ≡ a → y ≡ b → (x ++ y) ≡ a ++ b
appended x y a b e f = rw (e, f) refl

two_text : (a b : Argument) → arguments_text (Two a b) ≡ 32 ∷ (argument_text a ++ 44 ∷ 32 ∷ argument_text b)
two_text a b = ap (λ t. 32 ∷ t) (append_assoc (argument_text a) (44 ∷ 32 ∷ []) (argument_text b))

three_text : (a b d : Argument) → arguments_text (Three a b d) ≡ 32 ∷ (argument_text a ++ 44 ∷ 32 ∷ (argument_text b ++ 44 ∷ 32 ∷ argument_text d))
three_text a b d = ap (λ t. 32 ∷ t) (regroup (argument_text a) (argument_text b) (argument_text d) (44 ∷ 32 ∷ []))

-- what the cut at the first comma and space said of a text
abbrev pub NoCut : List ℕ → Type 0
NoCut text = (front back : List ℕ) → Lacks 44 front → text ≡ front ++ 44 ∷ 32 ∷ back → ⊥

abbrev pub IsCut : List ℕ → List ℕ → List ℕ → Type 0
IsCut text x y = (front back : List ℕ) → Lacks 44 front → text ≡ front ++ 44 ∷ 32 ∷ back → (x ≡ front) × (y ≡ back)

one_not_cut : (text x y : List ℕ) (a : Argument) → text ≡ x ++ 44 ∷ 32 ∷ y → text ≡ argument_text a → ⊥
one_not_cut text x y a parts e = not_lacks 44 x (32 ∷ y) (rw (sym parts ∙ e) (argument_lacks a))

pub one_only : (text : List ℕ) (r : Option Arguments) → NoCut text →
    ((a : Argument) → text ≡ argument_text a → r ≡ Some (One (capped_argument a))) → ReadsArguments text r
one_only text r uncut read Zero e = absurd (cons-nil 32 text e)
one_only text r uncut read (One a) e = read a (tails 32 32 text (argument_text a) e)
one_only text r uncut read (Two a b) e =
    absurd (uncut (argument_text a) (argument_text b) (argument_lacks a) (tails 32 32 text (argument_text a ++ 44 ∷ 32 ∷ argument_text b) (e ∙ two_text a b)))
one_only text r uncut read (Three a b d) e =
    absurd (uncut (argument_text a) (argument_text b ++ 44 ∷ 32 ∷ argument_text d) (argument_lacks a)
    (tails 32 32 text (argument_text a ++ 44 ∷ 32 ∷ (argument_text b ++ 44 ∷ 32 ∷ argument_text d))
    (e ∙ three_text a b d)))

pub two_only : (text x y : List ℕ) (r : Option Arguments) → text ≡ x ++ 44 ∷ 32 ∷ y → IsCut text x y → NoCut y →
    ((a b : Argument) → x ≡ argument_text a → y ≡ argument_text b →
    r ≡ Some (Two (capped_argument a) (capped_argument b))) → ReadsArguments text r
two_only text x y r parts first uncut read Zero e = absurd (cons-nil 32 text e)
two_only text x y r parts first uncut read (One a) e = absurd (one_not_cut text x y a parts (tails 32 32 text (argument_text a) e))
two_only text x y r parts first uncut read (Two a b) e =
    let same : (x ≡ argument_text a) × (y ≡ argument_text b) =
    first (argument_text a) (argument_text b) (argument_lacks a)
    (tails 32 32 text (argument_text a ++ 44 ∷ 32 ∷ argument_text b) (e ∙ two_text a b)) in
    read a b same.0 same.1
two_only text x y r parts first uncut read (Three a b d) e =
    let rest : List ℕ = argument_text b ++ 44 ∷ 32 ∷ argument_text d in
    let same : (x ≡ argument_text a) × (y ≡ rest) = first (argument_text a) rest (argument_lacks a)
    (tails 32 32 text (argument_text a ++ 44 ∷ 32 ∷ rest) (e ∙ three_text a b d)) in
    absurd (uncut (argument_text b) (argument_text d) (argument_lacks b) same.1)

pub three_only : (text x rest y z : List ℕ) (r : Option Arguments) → text ≡ x ++ 44 ∷ 32 ∷ rest → IsCut text x rest →
    rest ≡ y ++ 44 ∷ 32 ∷ z → IsCut rest y z → ((a b d : Argument) → x ≡ argument_text a → y ≡ argument_text b →
    z ≡ argument_text d → r ≡ Some (Three (capped_argument a) (capped_argument b) (capped_argument d))) →
    ReadsArguments text r
three_only text x rest y z r parts first parts2 second read Zero e = absurd (cons-nil 32 text e)
three_only text x rest y z r parts first parts2 second read (One a) e = absurd (one_not_cut text x rest a parts (tails 32 32 text (argument_text a) e))
three_only text x rest y z r parts first parts2 second read (Two a b) e =
    let same : (x ≡ argument_text a) × (rest ≡ argument_text b) =
    first (argument_text a) (argument_text b) (argument_lacks a)
    (tails 32 32 text (argument_text a ++ 44 ∷ 32 ∷ argument_text b) (e ∙ two_text a b)) in
    absurd (one_not_cut rest y z b parts2 same.1)
three_only text x rest y z r parts first parts2 second read (Three a b d) e =
    let back : List ℕ = argument_text b ++ 44 ∷ 32 ∷ argument_text d in
    let same : (x ≡ argument_text a) × (rest ≡ back) =
    first (argument_text a) back (argument_lacks a)
    (tails 32 32 text (argument_text a ++ 44 ∷ 32 ∷ back) (e ∙ three_text a b d)) in
    let last : (y ≡ argument_text b) × (z ≡ argument_text d) = second (argument_text b) (argument_text d) (argument_lacks b) same.1 in
    read a b d same.0 last.0 last.1

pub one_found : (text : List ℕ) (r : Option Arguments) →
    IfSome r (λ s. (a : Argument) × (text ≡ argument_text a) × (s ≡ One (capped_argument a))) →
    IfSome r (IsArgumentsRead text)
one_found text None h = tt
one_found text (Some s) h = (One h.0, ap (λ t. 32 ∷ t) h.1, h.2)

pub two_found : (text x y : List ℕ) (r : Option Arguments) → text ≡ x ++ 44 ∷ 32 ∷ y →
    IfSome r (λ s. (a : Argument) × (b : Argument) × (x ≡ argument_text a) × (y ≡ argument_text b) ×
    (s ≡ Two (capped_argument a) (capped_argument b))) → IfSome r (IsArgumentsRead text)
two_found text x y None parts h = tt
two_found text x y (Some s) parts h =
    let whole : text ≡ argument_text h.0 ++ 44 ∷ 32 ∷ argument_text h.1 = parts ∙ joined x y (argument_text h.0) (argument_text h.1) h.2 h.3 in
    (Two h.0 h.1, ap (λ t. 32 ∷ t) whole ∙ sym (two_text h.0 h.1), h.4)

pub three_found : (text x rest y z : List ℕ) (r : Option Arguments) → text ≡ x ++ 44 ∷ 32 ∷ rest → rest ≡ y ++ 44 ∷ 32
    ∷ z → IfSome r (λ s. (a : Argument) × (b : Argument) × (d : Argument) × (x ≡ argument_text a) ×
    (y ≡ argument_text b) × (z ≡ argument_text d) × (s ≡ Three (capped_argument a) (capped_argument b)
    (capped_argument d))) → IfSome r (IsArgumentsRead text)
three_found text x rest y z None parts parts2 h = tt
three_found text x rest y z (Some s) parts parts2 h =
    let back : rest ≡ argument_text h.1 ++ 44 ∷ 32 ∷ argument_text h.2 = parts2 ∙ joined y z (argument_text h.1) (argument_text h.2) h.4 h.5 in
    let whole : text ≡ argument_text h.0 ++ 44 ∷ 32 ∷ (argument_text h.1 ++ 44 ∷ 32 ∷ argument_text h.2) = parts ∙
    joined x rest (argument_text h.0) (argument_text h.1 ++ 44 ∷ 32 ∷ argument_text h.2) h.3 back in
    (Three h.0 h.1 h.2, ap (λ t. 32 ∷ t) whole ∙ sym (three_text h.0 h.1 h.2), h.6)

-- the mnemonic ends at the first space

abbrev bare : Mnemonic → Statement
bare m = record { mnemonic = m; arguments = Zero }

abbrev both : Mnemonic → Arguments → Statement
both m w = record { mnemonic = m; arguments = w }

pub bare_only : (line : List ℕ) (r : Option Statement) → Lacks 32 line →
    ((m : Mnemonic) → line ≡ mnemonic_text m → r ≡ Some (bare m)) → (m : Mnemonic) (w : Arguments) →
    line ≡ mnemonic_text m ++ arguments_text w → r ≡ Some (both m (capped_arguments w))
bare_only line r lacks read m Zero e = read m (e ∙ append-nil (mnemonic_text m))
bare_only line r lacks read m (One a) e = absurd (not_lacks 32 (mnemonic_text m) (argument_text a) (rw (sym e) lacks))
bare_only line r lacks read m (Two a b) e = absurd (not_lacks 32 (mnemonic_text m) (argument_text a ++ (44 ∷ 32 ∷ []) ++ argument_text b) (rw (sym e) lacks))
bare_only line r lacks read m (Three a b d) e = absurd
    (not_lacks 32 (mnemonic_text m) (argument_text a ++ (44 ∷ 32 ∷ []) ++ argument_text b ++ (44 ∷ 32 ∷ []) ++
    argument_text d) (rw (sym e) lacks))

pub both_only : (line name text : List ℕ) (r : Option Statement) → line ≡ name ++ 32 ∷ text →
    ((front back : List ℕ) → Lacks 32 front → line ≡ front ++ 32 ∷ back → (name ≡ front) × (text ≡ back)) →
    ((m : Mnemonic) (w : Arguments) → name ≡ mnemonic_text m → (32 ∷ text) ≡ arguments_text w →
    r ≡ Some (both m (capped_arguments w))) → (m : Mnemonic) (w : Arguments) →
    line ≡ mnemonic_text m ++ arguments_text w → r ≡ Some (both m (capped_arguments w))
both_only line name text r parts first read m Zero e = absurd (not_lacks 32 name text (rw (sym parts ∙ e ∙ append-nil (mnemonic_text m)) (name_lacks m)))
both_only line name text r parts first read m (One a) e =
    let same : (name ≡ mnemonic_text m) × (text ≡ argument_text a) = first (mnemonic_text m) (argument_text a) (name_lacks m) e in
    read m (One a) same.0 (ap (λ t. 32 ∷ t) same.1)
both_only line name text r parts first read m (Two a b) e =
    let rest : List ℕ = argument_text a ++ (44 ∷ 32 ∷ []) ++ argument_text b in
    let same : (name ≡ mnemonic_text m) × (text ≡ rest) = first (mnemonic_text m) rest (name_lacks m) e in
    read m (Two a b) same.0 (ap (λ t. 32 ∷ t) same.1)
both_only line name text r parts first read m (Three a b d) e =
    let rest : List ℕ = argument_text a ++ (44 ∷ 32 ∷ []) ++ argument_text b ++ (44 ∷ 32 ∷ []) ++ argument_text d in
    let same : (name ≡ mnemonic_text m) × (text ≡ rest) = first (mnemonic_text m) rest (name_lacks m) e in
    read m (Three a b d) same.0 (ap (λ t. 32 ∷ t) same.1)

pub both_found : (line name text : List ℕ) (r : Option Statement) → line ≡ name ++ 32 ∷ text →
    IfSome r (λ s. (m : Mnemonic) × (w : Arguments) × (name ≡ mnemonic_text m) × ((32 ∷ text) ≡ arguments_text w) ×
    (s ≡ both m (capped_arguments w))) → IfSome r (IsStatementRead line)
both_found line name text None parts h = tt
both_found line name text (Some s) parts h =
    (both h.0 h.1, parts ∙ appended name (32 ∷ text) (mnemonic_text h.0) (arguments_text h.1) h.2 h.3, h.4)
