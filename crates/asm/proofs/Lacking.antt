-- Texts that lack a byte.
use Rattle.bpf_model.proofs.Prelude.{ℕ, zero, suc, ◌≢◌, ◌<◌, ◌≤◌, List, [], ◌∷◌, ◌++◌, refl, arith, subst, IsInRange}
use Rattle.disasm.specs.Text.{numeral, argument_text, arguments_text}
use Rattle.disasm.specs.declared.statement.Arguments.{Arguments}
use Rattle.disasm.specs.declared.statement.Arguments.TheVariants.{Zero, One, Two, Three}
use Rattle.disasm.specs.declared.statement.Sign.TheVariants.{Plus, Minus}
use Rattle.disasm.specs.declared.statement.Argument.{Argument}
use Rattle.disasm.specs.declared.statement.Argument.TheVariants.{Register, Number, Signed, Memory}
use Rattle.asm.specs.Reading.{Lacks}
use Rattle.asm.proofs.Numerals.{numeral_digit}

pub lacks_cons : (c x : ℕ) (xs : List ℕ) → x ≢ c → Lacks c xs → Lacks c (x ∷ xs)
lacks_cons c x xs differs lacks zero inside = differs
lacks_cons c x xs differs lacks (suc i) inside = lacks i (omega arith)

pub lacks_append : (c : ℕ) (xs ys : List ℕ) → Lacks c xs → Lacks c ys → Lacks c (xs ++ ys)
lacks_append c [] ys front back = back
lacks_append c (x ∷ xs) ys front back =
    lacks_cons c x (xs ++ ys) (front 0 (omega arith)) (lacks_append c xs ys (λ i inside. front (suc i) (omega arith)) back)

pub not_lacks : (c : ℕ) (xs ys : List ℕ) → Lacks c (xs ++ c ∷ ys) → ⊥
not_lacks c [] ys lacks = lacks 0 (omega arith) refl
not_lacks c (x ∷ xs) ys lacks = not_lacks c xs ys (λ i inside. lacks (suc i) (omega arith))

pub numeral_lacks : (c n : ℕ) → ¬ (IsInRange 48 57 c) → Lacks c (numeral n)
numeral_lacks c n other i inside e = other (subst (λ (b : ℕ). IsInRange 48 57 b) e (numeral_digit n i inside))

pub nil_lacks : (c : ℕ) → Lacks c []
nil_lacks c i inside = absurd (omega arith)

-- a byte that stands in no argument
pub record IsApart (c : ℕ) : Type 0 where
  pub digit : ¬ (IsInRange 48 57 c)
  pub r : 114 ≢ c
  pub plus : 43 ≢ c
  pub minus : 45 ≢ c
  pub open_bracket : 91 ≢ c
  pub close_bracket : 93 ≢ c

below_digits : (c : ℕ) → c < 48 → ¬ (IsInRange 48 57 c)
below_digits c h range = let low : 48 ≤ c = range.0 in omega arith

pub comma_apart : IsApart 44
comma_apart = record {
  digit = below_digits 44 (omega arith);
  r = omega arith;
  plus = omega arith;
  minus =
      omega arith;
  open_bracket = omega arith;
  close_bracket = omega arith;
}

pub feed_apart : IsApart 10
feed_apart = record {
  digit = below_digits 10 (omega arith);
  r = omega arith;
  plus = omega arith;
  minus = omega arith;
  open_bracket = omega arith;
  close_bracket = omega arith;
}

memory_lacks : (c : ℕ) → IsApart c → (base sign n : ℕ) → sign ≢ c → Lacks c ((91 ∷ 114 ∷ numeral base) ++ (sign ∷ []) ++ numeral n ++ 93 ∷ [])
memory_lacks c apart base sign n other =
    lacks_append c ((91 ∷ 114 ∷ numeral base) ++ (sign ∷ []) ++ numeral n) (93 ∷ [])
    (lacks_append c ((91 ∷ 114 ∷ numeral base) ++ (sign ∷ [])) (numeral n)
    (lacks_append c (91 ∷ 114 ∷ numeral base) (sign ∷ [])
    (lacks_cons c 91 (114 ∷ numeral base) apart.open_bracket (lacks_cons c 114 (numeral base) apart.r (numeral_lacks c base apart.digit)))
    (lacks_cons c sign [] other (nil_lacks c)))
    (numeral_lacks c n apart.digit))
    (lacks_cons c 93 [] apart.close_bracket (nil_lacks c))

any_argument_lacks : (c : ℕ) → IsApart c → (a : Argument) → Lacks c (argument_text a)
any_argument_lacks c apart (Register n) = lacks_cons c 114 (numeral n) apart.r (numeral_lacks c n apart.digit)
any_argument_lacks c apart (Number n) = numeral_lacks c n apart.digit
any_argument_lacks c apart (Signed Plus n) = lacks_cons c 43 (numeral n) apart.plus (numeral_lacks c n apart.digit)
any_argument_lacks c apart (Signed Minus n) = lacks_cons c 45 (numeral n) apart.minus (numeral_lacks c n apart.digit)
any_argument_lacks c apart (Memory base Plus n) = memory_lacks c apart base 43 n apart.plus
any_argument_lacks c apart (Memory base Minus n) = memory_lacks c apart base 45 n apart.minus

-- no argument has a comma
pub argument_lacks : (a : Argument) → Lacks 44 (argument_text a)
argument_lacks a = any_argument_lacks 44 comma_apart a

-- no argument has a line feed

feed_lacks : (a : Argument) → Lacks 10 (argument_text a)
feed_lacks a = any_argument_lacks 10 feed_apart a

space_first : (xs : List ℕ) → Lacks 10 xs → Lacks 10 (32 ∷ xs)
space_first xs h = lacks_cons 10 32 xs (omega arith) h

comma_between : (xs ys : List ℕ) → Lacks 10 xs → Lacks 10 ys → Lacks 10 ((xs ++ 44 ∷ 32 ∷ []) ++ ys)
comma_between xs ys h k = lacks_append 10 (xs ++ 44 ∷ 32 ∷ []) ys
    (lacks_append 10 xs (44 ∷ 32 ∷ []) h (lacks_cons 10 44 (32 ∷ []) (omega arith) (space_first [] (nil_lacks 10)))) k

pub arguments_lack_feed : (w : Arguments) → Lacks 10 (arguments_text w)
arguments_lack_feed Zero = nil_lacks 10
arguments_lack_feed (One a) = space_first (argument_text a) (feed_lacks a)
arguments_lack_feed (Two a b) = comma_between (32 ∷ argument_text a) (argument_text b) (space_first (argument_text a) (feed_lacks a)) (feed_lacks b)
arguments_lack_feed (Three a b d) =
    comma_between ((32 ∷ argument_text a) ++ (44 ∷ 32 ∷ []) ++ argument_text b) (argument_text d)
    (comma_between (32 ∷ argument_text a) (argument_text b) (space_first (argument_text a) (feed_lacks a)) (feed_lacks b))
    (feed_lacks d)
