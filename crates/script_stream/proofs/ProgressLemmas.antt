-- Steps of a script.
use Rattle.std.proofs.Common.{◌≡◌, ℕ, ◌+◌, ◌-◌, ◌<◌, ◌⊎◌, List, [], ◌∷◌, ◌++◌, length, refl, sym, ap, subst, ◌∙◌, append_assoc, append-nil, length-append}
use Rattle.std.proofs.Common.{arith, inl, inr, Result, Ok, Err, OnOk}
use Rattle.std.specs.Io.Iter.{u64_saturate}
use Rattle.script_stream.specs.declared.progress.Progress.{Progress}
use Rattle.script_stream.specs.declared.fault.ScriptFault.{ScriptFault}
use Rattle.script_stream.specs.declared.fault.ScriptFault.TheVariants.{BadCommand, Read, Memory}
use Rattle.script_stream.specs.Lines.{lines_of, ended, HasNoFeed}
use Rattle.script_stream.specs.Answered.{Answered, AnsweredBefore, BeginsAnswered, FailsWith, IsBadLine, longest_line}
use Rattle.script_stream.specs.Progress.{IsProgressAt, IsOutputFault}
use Rattle.script_stream.proofs.LineLemmas.{lines_of-feed, lines_of-ended, lines_of-last, lines_of-open, HasFirst, HasNoFeed-append, HaveNoFeed-snoc}
use Rattle.script_stream.proofs.LineLemmas.{ended-snoc}

pub saturate_more : (n m : ℕ) → m ≡ u64_saturate n → u64_saturate (m + 1) ≡ u64_saturate (n + 1)
saturate_more n m e = omega arith

pub on_ok_both : {T E P Q R : Type 0} (r : Result T E) → (P → Q → R) → OnOk r P → OnOk r Q → OnOk r R
on_ok_both (Ok x) f p q = f p q
on_ok_both (Err e) f p q = tt

module _ {S : Type 0} (answers : S → List ℕ → List ℕ → S → Type 0) where
  -- one more line is answered
  pub Answered-snoc : (old mid new : S) (lines : List (List ℕ)) (line text more : List ℕ)
      → Answered answers old lines text mid → answers mid line more new → Answered answers old (lines ++ line ∷ []) (text ++ more) new
  Answered-snoc old mid new [] line text more h k =
      (more, [], new, subst (λ s. answers s line more new) h.1 k, (refl, refl), ap (λ t. t ++ more) h.0 ∙ sym (append-nil more))
  Answered-snoc old mid new (l ∷ lines) line text more h k =
      (h.0, h.1 ++ more, h.2, h.3, Answered-snoc h.2 mid new lines line h.1 more h.4 k, ap (λ t. t ++ more) h.5 ∙ append_assoc h.0 h.1 more)

  -- a line has ended, and is answered
  pub IsAt-line : (old : S) (read written : List ℕ) (p q : Progress) (now new : S) (piece text : List ℕ)
      → IsProgressAt answers old read written p now → HasNoFeed piece → answers now (p.rest.items ++ piece) text new
      → q.rest.items ≡ [] → q.out.items ≡ p.out.items ++ text → q.answered ≡ u64_saturate (p.answered + 1)
      → IsProgressAt answers old (read ++ (piece ++ 10 ∷ [])) written q new
  IsAt-line old read written p q now new piece text at clear answer rest out count =
      let line = p.rest.items ++ piece in
      record {
        lines = at.lines ++ line ∷ [];
        read_is =
            ap (λ r. r ++ (piece ++ 10 ∷ [])) at.read_is
            ∙ append_assoc (ended at.lines) p.rest.items (piece ++ 10 ∷ [])
            ∙ ap (λ r. ended at.lines ++ r) (sym (append_assoc p.rest.items piece (10 ∷ [])))
            ∙ sym (ended-snoc at.lines line)
            ∙ sym (append-nil (ended (at.lines ++ line ∷ [])))
            ∙ ap (λ r. ended (at.lines ++ line ∷ []) ++ r) (sym rest);
        whole = HaveNoFeed-snoc at.lines line at.whole (HasNoFeed-append p.rest.items piece at.open_line clear);
        open_line = subst HasNoFeed (sym rest) tt;
        count = count ∙ saturate_more (length at.lines) p.answered at.count ∙ ap u64_saturate (sym (length-append at.lines (line ∷ [])));
        answered =
            subst (λ t. Answered answers old (at.lines ++ line ∷ []) t new)
            (append_assoc written p.out.items text ∙ ap (λ o. written ++ o) (sym out))
            (Answered-snoc old now new at.lines line (written ++ p.out.items) text at.answered answer);
      }

  -- some of what waited is written
  pub IsAt-sent : (old : S) (read written : List ℕ) (p q : Progress) (now : S) (front : List ℕ)
      → IsProgressAt answers old read written p now → q.rest.items ≡ p.rest.items → p.out.items ≡ front ++ q.out.items → q.answered ≡ p.answered
      → IsProgressAt answers old read (written ++ front) q now
  IsAt-sent old read written p q now front at rest out count = record {
    lines = at.lines;
    read_is = at.read_is ∙ ap (λ r. ended at.lines ++ r) (sym rest);
    whole = at.whole;
    open_line = subst HasNoFeed (sym rest) at.open_line;
    count = count ∙ at.count;
    answered =
        subst (λ t. Answered answers old at.lines t now)
        (ap (λ o. written ++ o) out ∙ sym (append_assoc written front q.out.items))
        at.answered;
  }

  -- a line goes on
  pub IsAt-kept : (old : S) (read written : List ℕ) (p q : Progress) (now : S) (piece : List ℕ)
      → IsProgressAt answers old read written p now → HasNoFeed piece
      → q.rest.items ≡ p.rest.items ++ piece → q.out.items ≡ p.out.items → q.answered ≡ p.answered
      → IsProgressAt answers old (read ++ piece) written q now
  IsAt-kept old read written p q now piece at clear rest out count = record {
    lines = at.lines;
    read_is =
        ap (λ r. r ++ piece) at.read_is ∙ append_assoc (ended at.lines) p.rest.items piece ∙ ap (λ r. ended at.lines ++ r) (sym rest);
    whole = at.whole;
    open_line = subst HasNoFeed (sym rest) (HasNoFeed-append p.rest.items piece at.open_line clear);
    count = count ∙ at.count;
    answered = subst (λ t. Answered answers old at.lines t now) (ap (λ o. written ++ o) (sym out)) at.answered;
  }

  -- the lines of what is read and of what may follow
  lines_at : (old : S) (read written : List ℕ) (p : Progress) (now : S) (at : IsProgressAt answers old read written p now) (after : List ℕ)
      → lines_of (read ++ after) ≡ at.lines ++ lines_of (p.rest.items ++ after)
  lines_at old read written p now at after =
      ap (λ r. lines_of (r ++ after)) at.read_is
      ∙ ap lines_of (append_assoc (ended at.lines) p.rest.items after)
      ∙ lines_of-ended at.lines (p.rest.items ++ after) at.whole

  -- a beginning of what waited is written
  pub begun : (old : S) (read written : List ℕ) (p : Progress) (now : S) (front more after : List ℕ)
      → IsProgressAt answers old read written p now → p.out.items ≡ front ++ more → BeginsAnswered answers old (read ++ after) (written ++ front)
  begun old read written p now front more after at e = record {
    first = at.lines;
    others = lines_of (p.rest.items ++ after);
    lines = lines_at old read written p now at after;
    more = more;
    new = now;
    answered =
        subst (λ t. Answered answers old at.lines t now)
        (ap (λ o. written ++ o) e ∙ sym (append_assoc written front more))
        at.answered;
  }

  -- the next line is bad
  pub before : (is_bad : List ℕ → Type 0) (old : S) (read written : List ℕ) (p : Progress) (now : S) (after bad : List ℕ) (others : List (List ℕ)) (line : ℕ)
      → IsProgressAt answers old read written p now → lines_of (p.rest.items ++ after) ≡ bad ∷ others →
      IsBadLine is_bad bad → line ≡ u64_saturate (p.answered + 1)
      → AnsweredBefore answers is_bad old (read ++ after) line (written ++ p.out.items)
  before is_bad old read written p now after bad others line at e is number = record {
    good = at.lines;
    bad = bad;
    others = others;
    lines = lines_at old read written p now at after ∙ ap (λ ls. at.lines ++ ls) e;
    number = number ∙ saturate_more (length at.lines) p.answered at.count;
    is = is;
    new = now;
    answered = at.answered;
  }

  -- at the end of the input no line is open
  pub ends_whole : (old : S) (read written : List ℕ) (p : Progress) (now : S)
      → IsProgressAt answers old read written p now → p.rest.items ≡ [] → Answered answers old (lines_of read) (written ++ p.out.items) now
  ends_whole old read written p now at e =
      let same : lines_of read ≡ at.lines =
      ap lines_of (at.read_is ∙ ap (λ r. ended at.lines ++ r) e) ∙ lines_of-ended at.lines [] at.whole ∙ append-nil at.lines
      in subst (λ ls. Answered answers old ls (written ++ p.out.items) now) (sym same) at.answered

  open_lines : (rest : List ℕ) (n : ℕ) → length rest ≡ n + 1 → HasNoFeed rest → lines_of rest ≡ rest ∷ []
  open_lines [] n e h = absurd (omega arith)
  open_lines (b ∷ rest) n e h = lines_of-last b rest h

  -- or one is, which is answered
  pub ends_open : (old : S) (read written : List ℕ) (p : Progress) (now new : S) (text : List ℕ)
      → IsProgressAt answers old read written p now → 0 < length p.rest.items → answers now p.rest.items text new
      → Answered answers old (lines_of read) (written ++ (p.out.items ++ text)) new
  ends_open old read written p now new text at some answer =
      let same : lines_of read ≡ at.lines ++ p.rest.items ∷ [] =
      ap lines_of at.read_is ∙ lines_of-ended at.lines p.rest.items at.whole
      ∙ ap (λ ls. at.lines ++ ls) (open_lines p.rest.items (length p.rest.items - 1) (omega arith) at.open_line)
      in
      subst (λ ls. Answered answers old ls (written ++ (p.out.items ++ text)) new) (sym same)
      (subst (λ t. Answered answers old (at.lines ++ p.rest.items ∷ []) t new) (append_assoc written p.out.items text)
      (Answered-snoc old now new at.lines p.rest.items (written ++ p.out.items) text at.answered answer))

  pub last_line : (rest : List ℕ) → 0 < length rest → HasNoFeed rest → lines_of (rest ++ []) ≡ rest ∷ []
  last_line rest some h = ap lines_of (append-nil rest) ∙ open_lines rest (length rest - 1) (omega arith) h

  -- The next line of what follows is bad, and has this number.
  pub record NextIsBad (is_bad : List ℕ → Type 0) (p : Progress) (after : List ℕ) (line : ℕ) : Type 0 where
    pub bad : List ℕ
    pub others : List (List ℕ)
    pub lines : lines_of (p.rest.items ++ after) ≡ bad ∷ others
    pub is : IsBadLine is_bad bad
    pub number : line ≡ u64_saturate (p.answered + 1)

  not_bad : (fault : ScriptFault) (line : ℕ) → IsOutputFault fault → fault ≡ BadCommand line → ⊥
  not_bad fault line h e = elim h [ inl w ↦ absurd (cc (w, e)) | inr w ↦ absurd (cc (w, e)) ]

  -- a script fails, and what waited is written before, unless that fails
  pub fails : (is_bad : List ℕ → Type 0) (old : S) (read written : List ℕ) (p : Progress) (now : S) (after front more : List ℕ) (fault told : ScriptFault)
      → IsProgressAt answers old read written p now → p.out.items ≡ front ++ more → ((told ≡ fault) × (more ≡ [])) ⊎ IsOutputFault told
      → ((line : ℕ) → fault ≡ BadCommand line → NextIsBad is_bad p after line)
      → FailsWith answers is_bad old (read ++ after) (written ++ front) told
  fails is_bad old read written p now after front more fault told at e how next = record {
    begun = begun old read written p now front more after at e;
    before = λ line is. elim how [
      | inl w ↦
          let n = next line (sym w.0 ∙ is) in
          let same : p.out.items ≡ front = e ∙ ap (λ m. front ++ m) w.1 ∙ append-nil front in
          subst (λ t. AnsweredBefore answers is_bad old (read ++ after) line (written ++ t)) same
          (before is_bad old read written p now after n.bad n.others line at n.lines n.is n.number)
      | inr w ↦ absurd (not_bad told line w is)
    ];
  }

  -- at the end all is answered, and writing fails
  pub fails_at_end : (is_bad : List ℕ → Type 0) (old new : S) (read written out front more : List ℕ) (told : ScriptFault)
      → Answered answers old (lines_of read) (written ++ out) new → out ≡ front ++ more → IsOutputFault told
      → FailsWith answers is_bad old read (written ++ front) told
  fails_at_end is_bad old new read written out front more told h e how = record {
    begun = record {
      first = lines_of read;
      others = [];
      lines = sym (append-nil (lines_of read));
      more = more;
      new = new;
      answered =
          subst (λ t. Answered answers old (lines_of read) t new)
          (ap (λ o. written ++ o) e ∙ sym (append_assoc written front more)) h;
    };
    before = λ line is. absurd (not_bad told line how is);
  }

  -- the line that this piece ends is bad
  pub next_of_piece : (is_bad : List ℕ → Type 0) (old : S) (read written : List ℕ) (p : Progress) (now : S) (piece after : List ℕ) (line : ℕ)
      → IsProgressAt answers old read written p now → HasNoFeed piece → IsBadLine is_bad (p.rest.items ++ piece) → line ≡ u64_saturate (p.answered + 1)
      → NextIsBad is_bad p (piece ++ 10 ∷ after) line
  next_of_piece is_bad old read written p now piece after line at clear bad number = record {
    bad = p.rest.items ++ piece;
    others = lines_of after;
    lines =
        ap lines_of (sym (append_assoc p.rest.items piece (10 ∷ after)))
        ∙ lines_of-feed (p.rest.items ++ piece) after (HasNoFeed-append p.rest.items piece at.open_line clear);
    is = bad;
    number = number;
  }

  -- the open line is bad, at the end of the input
  pub next_at_end : (is_bad : List ℕ → Type 0) (old : S) (read written : List ℕ) (p : Progress) (now : S) (line : ℕ)
      → IsProgressAt answers old read written p now → 0 < length p.rest.items → IsBadLine is_bad p.rest.items → line ≡ u64_saturate (p.answered + 1)
      → NextIsBad is_bad p [] line
  next_at_end is_bad old read written p now line at some bad number = record {
    bad = p.rest.items;
    others = [];
    lines = last_line p.rest.items some at.open_line;
    is = bad;
    number = number;
  }

  longer : (is_bad : List ℕ → Type 0) (front more : List ℕ) → longest_line < length front → IsBadLine is_bad (front ++ more)
  longer is_bad front more h = inl (simp length-append (omega arith))

  open_first : (line after : List ℕ) → longest_line < length line → HasNoFeed line → HasFirst line (lines_of (line ++ after))
  open_first [] after h k = absurd (omega arith)
  open_first (b ∷ line) after h k = lines_of-open b line after k

  -- the open line is too long, whatever follows
  pub next_too_long : (is_bad : List ℕ → Type 0) (old : S) (read written : List ℕ) (p : Progress) (now : S) (piece after : List ℕ) (line : ℕ)
      → IsProgressAt answers old read written p now → HasNoFeed piece → longest_line < length (p.rest.items ++ piece) → line ≡ u64_saturate (p.answered + 1)
      → NextIsBad is_bad p (piece ++ after) line
  next_too_long is_bad old read written p now piece after line at clear long number =
      let whole = p.rest.items ++ piece in
      let found = open_first whole after long (HasNoFeed-append p.rest.items piece at.open_line clear) in
      record {
        bad = whole ++ found.more;
        others = found.others;
        lines = ap lines_of (sym (append_assoc p.rest.items piece after)) ∙ found.is;
        is = longer is_bad whole found.more long;
        number = number;
      }

  -- writing fails while the script goes on
  pub fails_writing : (is_bad : List ℕ → Type 0) (old : S) (read after all written : List ℕ) (p : Progress) (now : S) (front more : List ℕ) (told : ScriptFault)
      → IsProgressAt answers old read written p now → read ++ after ≡ all → p.out.items ≡ front ++ more → IsOutputFault told
      → FailsWith answers is_bad old all (written ++ front) told
  fails_writing is_bad old read after all written p now front more told at whole e how =
      subst (λ r. FailsWith answers is_bad old r (written ++ front) told) whole
      (fails is_bad old read written p now after front more told told at e (inr how) (λ line is. absurd (not_bad told line how is)))

  -- reading fails, and nothing waits
  pub fails_reading : (is_bad : List ℕ → Type 0) (old : S) (read after written : List ℕ) (p : Progress) (now : S) (told : ScriptFault)
      → IsProgressAt answers old read written p now → ((line : ℕ) → told ≡ BadCommand line → ⊥)
      → FailsWith answers is_bad old (read ++ after) written told
  fails_reading is_bad old read after written p now told at other = record {
    begun =
        subst (λ t. BeginsAnswered answers old (read ++ after) t) (append-nil written)
        (begun old read written p now [] p.out.items after at refl);
    before = λ line is. absurd (other line is);
  }

  -- the start of a script
  pub IsAt-start : (old : S) (p : Progress) → p.rest.items ≡ [] → p.out.items ≡ [] → p.answered ≡ 0 → IsProgressAt answers old [] [] p old
  IsAt-start old p rest out count = record {
    lines = [];
    read_is = sym rest;
    whole = tt;
    open_line = subst HasNoFeed (sym rest) tt;
    count = count;
    answered = (out, refl);
  }

  pub FailsWith-at : (is_bad : List ℕ → Type 0) (old : S) (read read' written written' : List ℕ) (told : ScriptFault)
      → read ≡ read' → written ≡ written' → FailsWith answers is_bad old read written told → FailsWith answers is_bad old read' written' told
  FailsWith-at is_bad old read read' written written' told p q h =
      subst (λ r. FailsWith answers is_bad old r written' told) p (subst (λ t. FailsWith answers is_bad old read t told) q h)

  pub IsAt-at : (old : S) (read read' written written' : List ℕ) (p : Progress) (now : S)
      → read ≡ read' → written ≡ written' → IsProgressAt answers old read written p now → IsProgressAt answers old read' written' p now
  IsAt-at old read read' written written' p now e f h =
      subst (λ r. IsProgressAt answers old r written' p now) e (subst (λ t. IsProgressAt answers old read t p now) f h)

-- what was read before a chunk, the chunk, and what follows
pub read_on : (read front back chunk rest : List ℕ) → chunk ≡ front ++ back → (after : List ℕ) → after ≡ back ++ rest
    → (read ++ front) ++ after ≡ (read ++ chunk) ++ rest
read_on read front back chunk rest e after f =
    ap (λ a. (read ++ front) ++ a) f
    ∙ sym (append_assoc (read ++ front) back rest)
    ∙ ap (λ r. r ++ rest) (append_assoc read front back ∙ ap (λ c. read ++ c) (sym e))

-- a fault of reading tells no line
pub not_read_bad : (fault : ScriptFault) → (fault ≡ Read) ⊎ (fault ≡ Memory) → (line : ℕ) → fault ≡ BadCommand line → ⊥
not_read_bad fault h line e = elim h [ inl w ↦ absurd (cc (w, e)) | inr w ↦ absurd (cc (w, e)) ]
