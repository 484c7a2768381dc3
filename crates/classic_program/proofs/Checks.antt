-- What a check has found, and what a well-formed program rules out.
use Rattle.bpf_model.proofs.Prelude.{◌≡◌, ℕ, suc, ◌<◌, ◌≤◌, List, [], ◌∷◌, length, Some, true, false, refl, sym, ap, ◌∙◌, subst, arith, inl, inr, slice_get}
use Rattle.bpf_model.proofs.Prelude.{eqb, ◌⊎◌, slice_get_within, get-below}
use Rattle.classic_program.proofs.Prelude.{IsSoundAt, IsInsnOf, AreInsnsOf, FitsClassic, divides_by_zero, is_of, reads_from, stores_to, Reaches, LeadsInside}
use Rattle.classic_program.proofs.Prelude.{IsWellFormed}
use Rattle.classic_program.specs.declared.data.Data.{Data}
use Rattle.classic_program.specs.declared.fault.ClassicFault.{ClassicFault}
use Rattle.classic_program.specs.declared.fault.ClassicFault.TheVariants as fault
use Rattle.classic_program.specs.declared.insn.ClassicInsn.{ClassicInsn}
use Rattle.classic_program.specs.declared.insn.ClassicInsn.TheVariants as classic
use Rattle.classic_program.specs.declared.insn.Datum.TheVariants as data_
use Rattle.classic_program.specs.declared.sock_filter.SockFilter.{SockFilter}
use Rattle.classic_program.specs.Faults.{IsDecodeFault, IsCheckFault, IsFlawAt, IsUnstored}
use Rattle.classic_program.specs.WellFormed.{shifts_too_far, is_policy_remainder, most_instructions}
use Rattle.classic_program.proofs.Every.{all-at, all-from}

same-list : (xs ys : List ClassicInsn) → length xs ≡ length ys → ((k : ℕ) (x y : ClassicInsn) → slice_get xs k ≡ Some x → slice_get ys k ≡ Some y → x ≡ y)
    → xs ≡ ys
same-list [] [] n h = refl
same-list [] (y ∷ ys) n h = absurd (omega arith)
same-list (x ∷ xs) [] n h = absurd (omega arith)
same-list (x ∷ xs) (y ∷ ys) n h =
    ap (λ (x : ClassicInsn). x ∷ xs) (h 0 x y refl refl) ∙ ap (λ (xs : List ClassicInsn). y ∷ xs)
    (same-list xs ys (omega arith) (λ k a b e f. h (suc k) a b e f))

-- there is only one program of the structs
pub unique : (filter : List SockFilter) (found program : List ClassicInsn) → AreInsnsOf filter found
    → ((k : ℕ) (f : SockFilter) (i j : ClassicInsn) → slice_get filter k ≡ Some f → slice_get found k ≡ Some i → IsInsnOf f j → j ≡ i)
    → AreInsnsOf filter program → program ≡ found
unique filter found program h only are =
    same-list program found (are.size ∙ sym h.size) (λ k x y e f.
    let within = slice_get_within program k x e in
    let size = are.size in
    let at = get-below filter k (omega arith) in
    only k at.0 y x at.1 f (are.each k at.0 x at.1 e))

pub decode-fault : (d : Data) (filter : List SockFilter) (e : ClassicFault) → IsDecodeFault filter e → IsCheckFault d filter e
decode-fault d filter fault.Empty h = absurd h
decode-fault d filter fault.TooLong h = absurd h
decode-fault d filter (fault.UnknownOpcode k) h = h
decode-fault d filter (fault.BadWord k) h = h
decode-fault d filter (fault.DivisionByZero k) h = absurd h
decode-fault d filter (fault.BadShift k) h = absurd h
decode-fault d filter (fault.BadJump k) h = absurd h
decode-fault d filter (fault.NotOfSeccomp k) h = absurd h
decode-fault d filter (fault.UnwrittenWord k) h = absurd h
decode-fault d filter (fault.PolicyRemainder k) h = absurd h
decode-fault d filter fault.Memory h = tt

pub decode-only : (filter : List SockFilter) (program : List ClassicInsn) (e : ClassicFault) → AreInsnsOf filter program → IsDecodeFault filter e
    → e ≡ fault.Memory
decode-only filter program fault.Empty are h = absurd h
decode-only filter program fault.TooLong are h = absurd h
decode-only filter program (fault.UnknownOpcode k) are h =
    let within = slice_get_within filter k h.0 h.1 in
    let size = are.size in
    let i = get-below program k (omega arith) in
    let is = are.each k h.0 i.0 h.1 i.1 in
    absurd (h.2 is.opcode is.number)
decode-only filter program (fault.BadWord k) are h =
    let within = slice_get_within filter k h.0 h.1 in
    let size = are.size in
    let i = get-below program k (omega arith) in
    absurd (h.2.2 i.0 (are.each k h.0 i.0 h.1 i.1))
decode-only filter program (fault.DivisionByZero k) are h = absurd h
decode-only filter program (fault.BadShift k) are h = absurd h
decode-only filter program (fault.BadJump k) are h = absurd h
decode-only filter program (fault.NotOfSeccomp k) are h = absurd h
decode-only filter program (fault.UnwrittenWord k) are h = absurd h
decode-only filter program (fault.PolicyRemainder k) are h = absurd h
decode-only filter program fault.Memory are h = refl

flaw-none : (d : Data) (program : List ClassicInsn) (e : ClassicFault) (k : ℕ) (i : ClassicInsn) → IsWellFormed d program → slice_get program k ≡ Some i
    → IsFlawAt d (length program) k i e → ⊥
flaw-none d program fault.Empty k i wf here h = h
flaw-none d program fault.TooLong k i wf here h = h
flaw-none d program (fault.UnknownOpcode j) k i wf here h = h
flaw-none d program (fault.BadWord j) k i wf here h = h
flaw-none d program (fault.DivisionByZero j) k i wf here h =
    let no = all-at (λ i. divides_by_zero i ≡ false) program k i wf.divisors here in let yes = h.1 in absurd (cc)
flaw-none d program (fault.BadShift j) k i wf here h =
    let no = all-at (λ i. shifts_too_far i ≡ false) program k i wf.shifts here in let yes = h.1 in absurd (cc)
flaw-none d program (fault.BadJump j) k i wf here h = let l = wf.inside k h.1 i here h.2 in let m = h.3 in absurd (omega arith)
flaw-none d program (fault.NotOfSeccomp j) k i wf here h = let yes = all-at (λ i. is_of d i ≡ true) program k i wf.loads here in let no = h.1 in absurd (cc)
flaw-none d program (fault.UnwrittenWord j) k i wf here h = h
flaw-none d program (fault.PolicyRemainder j) k i wf here h =
    let no = all-at (λ i. is_policy_remainder d i ≡ false) program k i wf.remainders here in let yes = h.1 in absurd (cc)
flaw-none d program fault.Memory k i wf here h = h

pub none-flawed : (d : Data) (filter : List SockFilter) (found program code : List ClassicInsn) (e : ClassicFault) → AreInsnsOf filter found
    → ((k : ℕ) (f : SockFilter) (i j : ClassicInsn) → slice_get filter k ≡ Some f → slice_get found k ≡ Some i → IsInsnOf f j → j ≡ i)
    → AreInsnsOf filter program → IsWellFormed d program
    → code ≡ found → (k : ℕ) × (i : ClassicInsn) × (slice_get code k ≡ Some i) × IsFlawAt d (length code) k i e → e ≡ fault.Memory
none-flawed d filter found program code e h only are wf same x =
    let equal : program ≡ code = unique filter found program h only are ∙ sym same in
    absurd (flaw-none d code e x.0 x.1 (subst (λ (p : List ClassicInsn). IsWellFormed d p) equal wf) x.2 x.3)

pub leads-inside : (d : Data) (code again found : List ClassicInsn) → code ≡ found → again ≡ found →
    ((k : ℕ) (i : ClassicInsn) → slice_get code k ≡ Some i → IsSoundAt d (length code) k i)
    → LeadsInside again
leads-inside d code again found e f sound = subst (λ (p : List ClassicInsn). LeadsInside p) (e ∙ sym f) (λ k s i here m. (sound k i here).inside s m)

pub none-unstored : (d : Data) (filter : List SockFilter) (found program code : List ClassicInsn) (e : ClassicFault) → AreInsnsOf filter found
    → ((k : ℕ) (f : SockFilter) (i j : ClassicInsn) → slice_get filter k ≡ Some f → slice_get found k ≡ Some i → IsInsnOf f j → j ≡ i)
    → AreInsnsOf filter program → IsWellFormed d program
    → code ≡ found → (e ≡ fault.Memory) ⊎ ((k : ℕ) × (e ≡ fault.UnwrittenWord k) × IsUnstored code k) → e ≡ fault.Memory
none-unstored d filter found program code e h only are wf same (inl x) = x
none-unstored d filter found program code e h only are wf same (inr x) =
    let equal : program ≡ code = unique filter found program h only are ∙ sym same in
    let u = x.2 in
    absurd ((subst (λ (p : List ClassicInsn). IsWellFormed d p) equal wf).stored u.word x.0 u.insn u.there u.reads u.reached)

-- a word that an instruction reads is one of sixteen
eqb-same : (a b : ℕ) → eqb a b ≡ true → a ≡ b
eqb-same a b h = grind arith

small-word : (w : ℕ) (i : ClassicInsn) → FitsClassic i → reads_from w i ≡ true → w < 16
small-word w (classic.Load into (data_.Memory word)) f h = let e = eqb-same word w h in omega arith
small-word w (classic.Load into (data_.Number k)) f h = absurd (cc)
small-word w (classic.Load into data_.Length) f h = absurd (cc)
small-word w (classic.Load into (data_.Bytes size at)) f h = absurd (cc)
small-word w (classic.Load into (data_.Indexed size at)) f h = absurd (cc)
small-word w (classic.Load into (data_.HeaderLength at)) f h = absurd (cc)
small-word w (classic.Store word from) f h = absurd (cc)
small-word w (classic.Alu op operand) f h = absurd (cc)
small-word w classic.Negate f h = absurd (cc)
small-word w (classic.Jump skip) f h = absurd (cc)
small-word w (classic.JumpIf test operand if_true if_false) f h = absurd (cc)
small-word w (classic.ReturnNumber value) f h = absurd (cc)
small-word w classic.ReturnA f h = absurd (cc)
small-word w classic.CopyToX f h = absurd (cc)
small-word w classic.CopyToA f h = absurd (cc)

fits-of : (filter : List SockFilter) (found : List ClassicInsn) → AreInsnsOf filter found → (k : ℕ) (i : ClassicInsn) → slice_get found k ≡ Some i
    → FitsClassic i
fits-of filter found are k i here =
    let within = slice_get_within found k i here in
    let size = are.size in
    let f = get-below filter k (omega arith) in
    (are.each k f.0 i f.1 here).fits

pub well-formed : (d : Data) (filter : List SockFilter) (found code again : List ClassicInsn) → AreInsnsOf filter found → code ≡ found → again ≡ found
    → 1 ≤ length filter
    → length filter ≤ most_instructions → ((k : ℕ) (i : ClassicInsn) → slice_get code k ≡ Some i → IsSoundAt d (length code) k i)
    → ((w k : ℕ) (i : ClassicInsn) → w < 16 → slice_get again k ≡ Some i → reads_from w i ≡ true → Reaches again (stores_to w) k → ⊥) → IsWellFormed d found
well-formed d filter found code again are e f some limit sound stored =
    let sound2 : (k : ℕ) (i : ClassicInsn) → slice_get found k ≡ Some i → IsSoundAt d (length found) k i =
    subst (λ (p : List ClassicInsn). (k : ℕ) (i : ClassicInsn) → slice_get p k ≡ Some i → IsSoundAt d (length p) k i) e sound in
    let stored2 : (w k : ℕ) (i : ClassicInsn) → w < 16 → slice_get found k ≡ Some i → reads_from w i ≡ true → Reaches found (stores_to w) k → ⊥ =
    subst (λ (p : List ClassicInsn). (w k : ℕ) (i : ClassicInsn) → w < 16 → slice_get p k ≡ Some i → reads_from w i ≡ true → Reaches p (stores_to w) k → ⊥) f
    stored in
    let size = are.size in
    record {
      some = omega arith;
      limit = omega arith;
      fits = all-from FitsClassic found (fits-of filter found are);
      divisors = all-from (λ i. divides_by_zero i ≡ false) found (λ k i here. (sound2 k i here).divisor);
      shifts = all-from (λ i. shifts_too_far i ≡ false) found (λ k i here. (sound2 k i here).shift);
      loads = all-from (λ i. is_of d i ≡ true) found (λ k i here. (sound2 k i here).known);
      remainders = all-from (λ i. is_policy_remainder d i ≡ false) found (λ k i here. (sound2 k i here).remainder);
      inside = λ k s i here m. (sound2 k i here).inside s m;
      stored = λ w k i here r p. stored2 w k i (small-word w i (fits-of filter found are k i here) r) here r p;
    }
