-- How bytes fall into lines.
use Rattle.std.proofs.Common.{◌≡◌, ◌≢◌, ℕ, ◌==◌, false, List, [], ◌∷◌, ◌++◌, refl, sym, ap, ◌∙◌, append_assoc}
use Rattle.std.proofs.lemmas.Bool.{ne_eqb}
use Rattle.std.specs.List.{onto_first}
use Rattle.script_stream.specs.Lines.{lines_of, ended, HasNoFeed, HaveNoFeed}

not_feed : (b : ℕ) → b ≢ 10 → (b == 10) ≡ false
not_feed b h = ne_eqb b 10 h

-- a line that ends
pub lines_of-feed : (line after : List ℕ) → HasNoFeed line → lines_of (line ++ 10 ∷ after) ≡ line ∷ lines_of after
lines_of-feed [] after h = refl
lines_of-feed (b ∷ line) after h = rw (not_feed b h.0) (rw (lines_of-feed line after h.1) refl)

-- whole lines, and what follows them
pub lines_of-ended : (lines : List (List ℕ)) (after : List ℕ) → HaveNoFeed lines → lines_of (ended lines ++ after) ≡ lines ++ lines_of after
lines_of-ended [] after h = refl
lines_of-ended (line ∷ lines) after h =
    ap lines_of (append_assoc line (10 ∷ ended lines) after)
    ∙ lines_of-feed line (ended lines ++ after) h.0
    ∙ ap (λ ls. line ∷ ls) (lines_of-ended lines after h.1)

-- a line that does not end
pub lines_of-last : (b : ℕ) (line : List ℕ) → HasNoFeed (b ∷ line) → lines_of (b ∷ line) ≡ (b ∷ line) ∷ []
lines_of-last b [] h = rw (not_feed b h.0) refl
lines_of-last b (c ∷ line) h = rw (not_feed b h.0) (rw (lines_of-last c line h.1) refl)

-- the beginning of a line
pub record HasFirst (front : List ℕ) (lines : List (List ℕ)) : Type 0 where
  pub more : List ℕ
  pub others : List (List ℕ)
  pub is : lines ≡ (front ++ more) ∷ others

onto_first-first : (b : ℕ) (lines : List (List ℕ)) → HasFirst (b ∷ []) (onto_first b lines)
onto_first-first b [] = record { more = []; others = []; is = refl }
onto_first-first b (line ∷ lines) = record { more = line; others = lines; is = refl }

pub lines_of-open : (b : ℕ) (line after : List ℕ) → HasNoFeed (b ∷ line) → HasFirst (b ∷ line) (lines_of ((b ∷ line) ++ after))
lines_of-open b [] after h = rw (not_feed b h.0) (onto_first-first b (lines_of after))
lines_of-open b (c ∷ line) after h =
    let later = lines_of-open c line after h.1 in
    rw (not_feed b h.0) (record { more = later.more; others = later.others; is = ap (onto_first b) later.is })

pub HasNoFeed-append : (a b : List ℕ) → HasNoFeed a → HasNoFeed b → HasNoFeed (a ++ b)
HasNoFeed-append [] b h k = k
HasNoFeed-append (x ∷ a) b h k = (h.0, HasNoFeed-append a b h.1 k)

pub HaveNoFeed-snoc : (lines : List (List ℕ)) (line : List ℕ) → HaveNoFeed lines → HasNoFeed line → HaveNoFeed (lines ++ line ∷ [])
HaveNoFeed-snoc [] line h k = (k, tt)
HaveNoFeed-snoc (l ∷ lines) line h k = (h.0, HaveNoFeed-snoc lines line h.1 k)

pub ended-snoc : (lines : List (List ℕ)) (line : List ℕ) → ended (lines ++ line ∷ []) ≡ ended lines ++ (line ++ 10 ∷ [])
ended-snoc [] line = refl
ended-snoc (l ∷ lines) line = ap (λ bs. l ++ 10 ∷ bs) (ended-snoc lines line) ∙ sym (append_assoc l (10 ∷ ended lines) (line ++ 10 ∷ []))
