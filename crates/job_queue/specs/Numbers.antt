-- Numbers that a queue hands out, each of them once.
use Rattle.std.specs.Prelude.{◌≡◌, ◌⊎◌, ℕ, ◌+◌, ◌-◌, ◌<◌, ◌≤◌, true, false, List, [], ◌∷◌, ◌++◌}
use Rattle.std.specs.Prelude.{length, sum_by, count_by, eqb}
use mathlib.Core.Option.{some}
use lib.ListN.{get_elem?}
use Rattle.job_queue.specs.declared.numbers.PassView.{PassView}

-- the pass that puts numbers in
abbrev pub putter : (next out : ℕ) → List ℕ → PassView
putter next out taken =
    record { puts = true; takes = true; next = next; out = out; taken = taken }

-- a pass that only takes numbers
abbrev pub taker : List ℕ → PassView
taker taken = record { puts = false; takes = true; next = 0; out = 0; taken = taken }

-- a pass that came back: what it took, another has
abbrev pub spent : PassView
spent = record { puts = false; takes = false; next = 0; out = 0; taken = [] }

abbrev pub with_number : PassView → PassView
with_number v = record {
  puts = v.puts;
  takes = v.takes;
  next = v.next + 1;
  out = v.out;
  taken = v.taken;
}

abbrev pub without_number : ℕ → PassView → PassView
without_number x v = record {
  puts = v.puts;
  takes = v.takes;
  next = v.next;
  out = v.out;
  taken = x ∷ v.taken;
}

-- one pass more was made of it
abbrev pub with_another : PassView → PassView
with_another v = record {
  puts = v.puts;
  takes = v.takes;
  next = v.next;
  out = v.out + 1;
  taken = v.taken;
}

-- another pass came back to it
abbrev pub with_taken_of : PassView → PassView → PassView
with_taken_of v other = record {
  puts = v.puts;
  takes = v.takes;
  next = v.next;
  out = v.out - 1;
  taken = other.taken ++ v.taken;
}

-- the numbers from n on, in order
abbrev pub CountsFrom : ℕ → List ℕ → Type 0
CountsFrom n [] = Unit {0}
CountsFrom n (x ∷ xs) = (x ≡ n) × CountsFrom (n + 1) xs

abbrev pub WasTaken : ℕ → List ℕ → Type 0
WasTaken x [] = ⊥
WasTaken x (y ∷ ys) = (x ≡ y) ⊎ WasTaken x ys

-- how often a number stands in a list
abbrev pub times : ℕ → List ℕ → ℕ
times x = count_by (λ y. eqb y x)

-- how often all passes took it
abbrev pub taken_by_all : ℕ → List PassView → ℕ
taken_by_all x = sum_by (λ v. times x v.taken)

-- how many passes there are that have not come back
abbrev pub passes_out : List PassView → ℕ
passes_out = count_by (λ v. v.takes)

-- The first pass puts the numbers in; it knows the next one, and how many others are out at most.
pub record Puts (front count : ℕ) (views : List PassView) (by : ℕ) (v : PassView) : Type 0 where
  pub first : by ≡ 0
  pub next : v.next ≡ front + count
  pub takes : v.takes ≡ true
  pub out : passes_out views ≤ v.out + 1

-- The queue holds the numbers from `front` on. Those below it were taken, each of them once in all.
pub record HandsOutOnce (numbers : List ℕ) (views : List PassView) : Type 0 where
  pub front : ℕ
  pub in_order : CountsFrom front numbers
  pub putter : (by : ℕ) (v : PassView) → get_elem? views by ≡ some v → v.puts ≡ true →
      Puts front (length numbers) views by v
  pub back : (by : ℕ) (v : PassView) → get_elem? views by ≡ some v → v.takes ≡ false →
      v.taken ≡ []
  pub once : (x : ℕ) → x < front → taken_by_all x views ≡ 1
  pub later : (x : ℕ) → front ≤ x → taken_by_all x views ≡ 0

-- where all others came back, the pass has taken each number that the queue no longer holds, once
abbrev pub HasTakenAll : PassView → List ℕ → Type 0
HasTakenAll v numbers = v.puts ≡ true → v.out ≡ 0 → (x : ℕ) → x + length numbers < v.next →
    times x v.taken ≡ 1
