-- Contexts that were read so far, of lines and of bytes.
use Rattle.bpf_model.proofs.Prelude.{◌≡◌, ℕ, ◌+◌, ◌*◌, ◌%◌, ◌<◌, ◌≤◌, List, [], ◌∷◌, ◌++◌, All, length, map, refl, sym, ap, ◌∙◌, arith, inl, inr, append_assoc}
use Rattle.bpf_model.proofs.Prelude.{Option, Some, None, mod-eq_of_lt, mul-mod_left, All-append, All-cons, All-head, All-nil, All-tail}
use Rattle.std.proofs.Common.{flat_map, append-nil, length-append}
use Rattle.std.proofs.Math.Nat.{suc-mul, zero-mul}
use Rattle.std.proofs.lemmas.Bool.Decides.{leb_tells}
use Rattle.std.proofs.lemmas.Grind.{flat_map-append}
use Rattle.script_stream.specs.Lines.{lines_of}
use Rattle.program_files.specs.Contexts.{context_in, AreInLines, ArePacked}
use Rattle.program_files.proofs.Cuts.{some_line}

-- the contexts of the lines before the rest
abbrev pub AreReadTo : ℕ → List ℕ → List ℕ → List (List ℕ) → Type 0
AreReadTo len bytes rest contexts =
    map (context_in len) (lines_of bytes) ≡ map Some contexts ++ map (context_in len) (lines_of rest)

none_mapped : (len : ℕ) (lines : List (List ℕ)) → map (context_in len) lines ≡ [] → lines ≡ []
none_mapped len [] e = refl
none_mapped len (line ∷ lines) e = absurd cc

-- where nothing was read and nothing is left, there are no bytes
pub no_bytes : (len : ℕ) (bytes rest : List ℕ) (read : List (List ℕ)) → AreReadTo len bytes rest read → length rest ≡ 0 →
    length read ≡ 0 → bytes ≡ []
no_bytes len [] rest read so none nothing = refl
no_bytes len (b ∷ bytes) (c ∷ rest) read so none nothing = absurd (omega (arith, none))
no_bytes len (b ∷ bytes) [] (r ∷ read) so none nothing = absurd (omega (arith, nothing))
no_bytes len (b ∷ bytes) [] [] so none nothing = absurd (some_line b bytes (none_mapped len (lines_of (b ∷ bytes)) so))

some_no_none : (xs : List (List ℕ)) (front back : List (Option (List ℕ))) → map Some xs ≡ front ++ None ∷ back → ⊥
some_no_none [] [] back e = cc
some_no_none [] (y ∷ front) back e = cc
some_no_none (x ∷ xs) [] back e = cc
some_no_none (x ∷ xs) (y ∷ front) back e = some_no_none xs front back cc

-- a line that says no context
pub no_line : (len : ℕ) (bytes rest line more : List ℕ) (read contexts : List (List ℕ)) → AreReadTo len bytes rest read →
    lines_of rest ≡ line ∷ lines_of more → context_in len line ≡ None → AreInLines len bytes contexts → ⊥
no_line len bytes rest line more read contexts so cut none are =
    let behind = map (context_in len) (lines_of more) in
    let next : map (context_in len) (lines_of rest) ≡ None ∷ behind =
    ap (map (context_in len)) cut ∙ ap (λ (o : Option (List ℕ)). o ∷ behind) none in
    some_no_none contexts (map Some read) behind (sym are.each ∙ (so ∙ ap (λ (l : List (Option (List ℕ))). map Some read ++ l) next))

-- contexts of so many bytes each before the rest, which is a whole number of them
pub record ArePackedTo (len : ℕ) (bytes rest : List ℕ) (contexts : List (List ℕ)) : Type 0 where
  pub together : bytes ≡ flat_map (λ context. context) contexts ++ rest
  pub each : All (λ context. length context ≡ len) contexts
  pub whole : length rest % len ≡ 0

-- one context more
pub context_read : (len : ℕ) (bytes rest context more : List ℕ) (contexts : List (List ℕ)) → ArePackedTo len bytes rest contexts →
    rest ≡ context ++ more → length context ≡ len → length more % len ≡ 0 → ArePackedTo len bytes more (contexts ++ context ∷ [])
context_read len bytes rest context more contexts so cut long whole =
    let front = flat_map (λ (c : List ℕ). c) contexts in
    let joined : flat_map (λ (c : List ℕ). c) (contexts ++ context ∷ []) ≡ front ++ context =
    flat_map-append (λ (c : List ℕ). c) contexts (context ∷ []) ∙ ap (λ (l : List ℕ). front ++ l) (append-nil context) in
    record {
      together = so.together ∙ (ap (λ (l : List ℕ). front ++ l) cut ∙ (sym (append_assoc front context more)
          ∙ ap (λ (l : List ℕ). l ++ more) (sym joined)));
      each = All-append (λ c. length c ≡ len) contexts (context ∷ []) so.each (All-cons (λ c. length c ≡ len) context [] long (All-nil (λ c. length c ≡ len)));
      whole = whole;
    }

-- so many contexts have so many bytes
pub packed_length : (len : ℕ) (contexts : List (List ℕ)) → All (λ context. length context ≡ len) contexts →
    length (flat_map (λ (context : List ℕ). context) contexts) ≡ length contexts * len
packed_length len [] each = sym (zero-mul len)
packed_length len (c ∷ contexts) each =
    let here : length c ≡ len = All-head (λ x. length x ≡ len) c contexts each in
    let rest : length (flat_map (λ (x : List ℕ). x) contexts) ≡ length contexts * len =
    packed_length len contexts (All-tail (λ x. length x ≡ len) c contexts each) in
    let both : length (c ++ flat_map (λ (x : List ℕ). x) contexts) ≡ length c + length (flat_map (λ (x : List ℕ). x) contexts) =
    length-append c (flat_map (λ (x : List ℕ). x) contexts) in
    let sum : length c + length (flat_map (λ (x : List ℕ). x) contexts) ≡ length contexts * len + len = omega (arith, here, rest) in
    both ∙ (sum ∙ sym (suc-mul (length contexts) len))

-- the bytes of contexts are a whole number of them
pub packed_whole : (len : ℕ) (bytes : List ℕ) (contexts : List (List ℕ)) → ArePacked len bytes contexts → length bytes % len ≡ 0
packed_whole len bytes contexts are =
    ap (λ (n : ℕ). n % len) (ap (λ (l : List ℕ). length l) are.together ∙ packed_length len contexts are.each) ∙ mul-mod_left (length contexts) len

-- contexts of no bytes have none
pub packed_none : (bytes : List ℕ) (contexts : List (List ℕ)) → ArePacked 0 bytes contexts → ⊥
packed_none bytes contexts are =
    let none : length bytes ≡ length contexts * 0 = ap (λ (l : List ℕ). length l) are.together ∙ packed_length 0 contexts are.each in
    omega (arith, none, are.some)

-- where bytes are left that are a whole number of contexts, one is left
pub one_is_left : (len n : ℕ) → 0 < n → n % len ≡ 0 → len ≤ n
one_is_left len n some whole = elim (leb_tells len n) [
  | inl fits ↦ fits.1
  | inr short ↦ absurd (let same : n % len ≡ n = mod-eq_of_lt short.1 in omega (arith, some, sym same ∙ whole))
]
