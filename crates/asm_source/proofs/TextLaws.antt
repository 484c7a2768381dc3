-- Texts behind one another.
use Rattle.bpf_model.proofs.Prelude.{ℕ, ◌≡◌, ◌+◌, Bool, List, [], ◌∷◌, ◌++◌, refl, sym, ap, ◌∙◌, append_assoc, inl, inr, Result, Ok, Err, append-nil}
use Rattle.asm_source.specs.Names.{slots_after}
use Rattle.asm_source.specs.Faulty.{IsFaultOf}
use Rattle.asm_source.specs.Plain.{Meanings, gap, joined, prepended, fed, is_end, token_text, tokens_text, line_text, lines_text}
use Rattle.asm_source.specs.declared.site.Site.{Site}
use Rattle.asm_source.specs.declared.fault.SourceFault.{SourceFault}

abbrev Text : Type 0
Text = Result (List ℕ) SourceFault

pub joined_text : (out between new : List ℕ) (text rest : Text) → prepended (out ++ between) text ≡ Ok new →
    prepended out (joined between text rest) ≡ prepended new rest
joined_text out between new (Err f) rest h = cc h
joined_text out between new (Ok text) (Err f) h = refl
joined_text out between new (Ok text) (Ok rest) h =
    let e : new ≡ (out ++ between) ++ text = cc h in
    rw e (ap (λ (t : List ℕ). Ok t) (simp append_assoc))

pub joined_first : (out name new : List ℕ) (rest : Text) → prepended (out ++ name) rest ≡ Ok new →
    prepended out (joined [] (Ok name) rest) ≡ Ok new
joined_first out name new (Err f) h = cc h
joined_first out name new (Ok rest) h = ap (λ (t : List ℕ). Ok t) (sym (append_assoc out name rest)) ∙ h

pub fed_text : (out mid new : List ℕ) (text : Text) → prepended out text ≡ Ok mid → new ≡ mid ++ 10 ∷ [] →
    prepended out (fed text) ≡ Ok new
fed_text out mid new (Err f) h e = cc h
fed_text out mid new (Ok text) h e =
    let same : out ++ text ≡ mid = cc h in
    ap (λ (t : List ℕ). Ok t) (sym (append_assoc out text (10 ∷ [])) ∙ ap (λ (t : List ℕ). t ++ 10 ∷ []) same ∙ sym e)

pub same_fault : (out first : List ℕ) (text whole : Text) (f : SourceFault) → prepended out text ≡ prepended first whole →
    text ≡ Err f → whole ≡ Err f
same_fault out first text (Err g) f h e = let fault : prepended out text ≡ Err f = ap (prepended out) e in sym h ∙ fault
same_fault out first text (Ok t) f h e =
    let fault = ap (prepended out) e in
    let both : prepended first (Ok t) ≡ Err f = sym h ∙ fault in
    cc both

pub nothing_behind : (out : List ℕ) → prepended out (Ok []) ≡ Ok out
nothing_behind out = ap (λ (t : List ℕ). Ok t) (append-nil out)

-- one more token
pub token_pushed : (m : Meanings) (site : Site) (before token : List ℕ) (rest left : List (List ℕ)) (last : Bool) (out between new : List ℕ) →
    left ≡ token ∷ rest → last ≡ is_end rest → between ≡ out ++ gap before token →
    prepended between (token_text m site before token last) ≡ Ok new →
    prepended out (tokens_text m site before left) ≡ prepended new (tokens_text m site token rest)
unfolding tokens_text
token_pushed m site before token rest left last out between new e f g h =
    let pushed : prepended (out ++ gap before token) (token_text m site before token (is_end rest)) ≡ Ok new =
    ap (λ (t : List ℕ). prepended t (token_text m site before token (is_end rest))) (sym g) ∙
    ap (λ (b : Bool). prepended between (token_text m site before token b)) (sym f) ∙ h in
    ap (λ (ts : List (List ℕ)). prepended out (tokens_text m site before ts)) e ∙
    joined_text out (gap before token) new (token_text m site before token (is_end rest)) (tokens_text m site token rest) pushed

pub tokens_end : (m : Meanings) (site : Site) (before out : List ℕ) (left : List (List ℕ)) → left ≡ [] →
    prepended out (tokens_text m site before left) ≡ Ok out
unfolding tokens_text
tokens_end m site before out left e = ap (λ (ts : List (List ℕ)). prepended out (tokens_text m site before ts)) e ∙ nothing_behind out

joined_fault : (between : List ℕ) (text rest : Text) (f : SourceFault) → text ≡ Err f → joined between text rest ≡ Err f
joined_fault between text rest f e = ap (λ (t : Text). joined between t rest) e

pub token_fault : (m : Meanings) (site : Site) (before token : List ℕ) (rest left : List (List ℕ)) (last : Bool) (out first : List ℕ)
    (whole : Text) (f : SourceFault) → left ≡ token ∷ rest → last ≡ is_end rest →
    prepended out (tokens_text m site before left) ≡ prepended first whole →
    IsFaultOf (token_text m site before token last) f → IsFaultOf whole f
unfolding tokens_text
token_fault m site before token rest left last out first whole f e g h (inl memory) = inl memory
token_fault m site before token rest left last out first whole f e g h (inr fault) =
    let here : token_text m site before token (is_end rest) ≡ Err f = ap (λ (b : Bool). token_text m site before token b) (sym g) ∙ fault in
    inr (same_fault out first (tokens_text m site before left) whole f h
    (ap (λ (ts : List (List ℕ)). tokens_text m site before ts) e ∙
    joined_fault (gap before token) (token_text m site before token (is_end rest)) (tokens_text m site token rest) f here))

-- one more line
line_joined : (out new : List ℕ) (text rest : Text) → prepended out text ≡ Ok new → prepended out (joined [] text rest) ≡ prepended new rest
line_joined out new (Err f) rest h = cc h
line_joined out new (Ok text) (Err f) h = refl
line_joined out new (Ok text) (Ok rest) h =
    let e : new ≡ out ++ text = cc h in
    rw e (ap (λ (t : List ℕ). Ok t) (sym (append_assoc out text rest)))

pub line_pushed : (m : Meanings) (n slot next : ℕ) (line : List ℕ) (lines left : List (List ℕ)) (out new : List ℕ) (whole : Text) →
    left ≡ line ∷ lines → next ≡ slots_after slot line → prepended out (lines_text m n slot left) ≡ whole →
    prepended out (fed (line_text m (n + 1) slot line)) ≡ Ok new → prepended new (lines_text m (n + 1) next lines) ≡ whole
unfolding lines_text
line_pushed m n slot next line lines left out new whole e f h pushed =
    ap (λ (k : ℕ). prepended new (lines_text m (n + 1) k lines)) f ∙
    sym (line_joined out new (fed (line_text m (n + 1) slot line)) (lines_text m (n + 1) (slots_after slot line) lines) pushed) ∙
    ap (λ (ls : List (List ℕ)). prepended out (lines_text m n slot ls)) (sym e) ∙ h

pub lines_end : (m : Meanings) (n slot : ℕ) (left : List (List ℕ)) (out : List ℕ) (whole : Text) → left ≡ [] →
    prepended out (lines_text m n slot left) ≡ whole → whole ≡ Ok out
unfolding lines_text
lines_end m n slot left out whole e h =
    sym h ∙ ap (λ (ls : List (List ℕ)). prepended out (lines_text m n slot ls)) e ∙ nothing_behind out

fed_fault : (text : Text) (f : SourceFault) → text ≡ Err f → fed text ≡ Err f
fed_fault text f e = ap fed e

pub line_fault : (m : Meanings) (n slot : ℕ) (line : List ℕ) (lines left : List (List ℕ)) (out : List ℕ) (whole : Text)
    (f : SourceFault) → left ≡ line ∷ lines → prepended out (lines_text m n slot left) ≡ whole →
    IsFaultOf (line_text m (n + 1) slot line) f → IsFaultOf whole f
unfolding lines_text
line_fault m n slot line lines left out whole f e h (inl memory) = inl memory
line_fault m n slot line lines left out whole f e h (inr fault) =
    let told = joined_fault [] (fed (line_text m (n + 1) slot line)) (lines_text m (n + 1) (slots_after slot line) lines) f
    (fed_fault (line_text m (n + 1) slot line) f fault) in
    inr (sym h ∙ ap (λ (ls : List (List ℕ)). prepended out (lines_text m n slot ls)) e ∙ ap (prepended out) told)

pub first_fault : (name : List ℕ) (rest : Text) (f : SourceFault) → IsFaultOf rest f → IsFaultOf (joined [] (Ok name) rest) f
first_fault name rest f (inl memory) = inl memory
first_fault name rest f (inr fault) = inr (ap (λ (t : Text). joined [] (Ok name) t) fault)
