-- The results of all blocks, one after another, are those of all jobs.
use Rattle.std.proofs.Common.{◌≡◌, ◌+◌, ◌<◌, get_or, take, ℕ, List, [], ◌∷◌, ◌++◌, length, ap, sym, ◌∙◌, subst, arith, zero, suc, refl}
use Rattle.std.proofs.Math.Seq.{take-suc}
use Rattle.std.specs.Prelude.{All, IsSome, slice_get, Option, Some, None, unwrap_or, Result, Ok, Err, IfOk, OnOk}
use Rattle.std.specs.Global.{Vec}
use Rattle.std.specs.List.{AllZip, flat_map}
use Rattle.std.specs.Borrow.{Bor}
use Rattle.job_queue.specs.Blocks.{jobs_of, results_of, AreRightIn, InBlocks}
use Rattle.job_queue.specs.Serving.{IsServedByOne, AreServed}
use Rattle.job_queue.proofs.Serving.{all_zip_join}
use Rattle.job_queue.specs.declared.fault.PoolFault.{PoolFault}

-- what holds place by place, and what follows from it
pub zip_weaker : {J T : Type 0} (P Q : J → T → Type 0) → ((job : J) (one : T) → P job one → Q job one) →
    (jobs : List J) (results : List T) → AllZip P jobs results → AllZip Q jobs results
zip_weaker P Q weaker [] [] h = h
zip_weaker P Q weaker [] (y ∷ ys) h = absurd h
zip_weaker P Q weaker (x ∷ xs) [] h = absurd h
zip_weaker P Q weaker (x ∷ xs) (y ∷ ys) h = (weaker x y h.0, zip_weaker P Q weaker xs ys h.1)

-- place by place, told of each index
pub at_each_index : {J T : Type 0} (R : J → T → Type 0) (jobs : List J) (results : List T) → AllZip R jobs results
    → (k : ℕ) (job : J) (one : T) → slice_get jobs k ≡ Some job → slice_get results k ≡ Some one → R job one
at_each_index R [] results h k job one at is = absurd (cc)
at_each_index R (x ∷ xs) [] h k job one at is = absurd h
at_each_index R (x ∷ xs) (y ∷ ys) h zero job one at is = subst (λ z. R z one) (ap (λ o. unwrap_or o job) at) (subst (R x) (ap (λ o. unwrap_or o one) is) h.0)
at_each_index R (x ∷ xs) (y ∷ ys) h (suc k) job one at is = at_each_index R xs ys h.1 k job one at is

-- one more job and its result
pub one_more_result : {J T : Type 0} (P Q : J → T → Type 0) → ((job : J) (one : T) → P job one → Q job one) →
    (jobs : List J) (k : ℕ) (job : J) (results : List T) (one : T) → k < length jobs
    → AllZip P (take k jobs) results → Q (get_or jobs k job) one → AllZip Q (take (k + 1) jobs) (results ++ one ∷ [])
one_more_result P Q weaker jobs k job results one low all right = let next : suc k ≡ k + 1 = omega arith in
    subst (λ z. AllZip Q z (results ++ one ∷ [])) (sym (take-suc jobs k job low) ∙ ap (λ z. take z jobs) next)
    (all_zip_join Q (take k jobs) results (get_or jobs k job ∷ []) (one ∷ []) (zip_weaker P Q weaker (take k jobs) results all) (right, tt))

module _ {J W T : Type 0} (fits : W → W → J → T → Type 0) where
  -- what is right of a block stays so, from an earlier beginning to a later end
  pub right_wider : (t u v w : W) → ((job : J) (one : T) → fits u v job one → fits t w job one) →
      (jobs : List J) (served : Option (Vec T)) → AreRightIn fits u v jobs served → AreRightIn fits t w jobs served
  right_wider t u v w wider jobs None right = right
  right_wider t u v w wider jobs (Some results) right = zip_weaker (fits u v) (fits t w) wider jobs results.items right

  module _ (before after : List W) where
    right_of_block : (jobs : List J) (served : Option (Vec T)) → IsSome served →
        IsServedByOne (AreRightIn fits) before after jobs served →
        AllZip (IsServedByOne fits before after) jobs (results_of served)
    right_of_block jobs None is by_one = absurd (cc)
    right_of_block jobs (Some results) is by_one = zip_weaker (fits by_one.first by_one.last) (IsServedByOne fits before after)
        (λ job one right. record {
          index = by_one.index;
          first = by_one.first;
          last = by_one.last;
          was = by_one.was;
          is = by_one.is;
          right = right;
        }) jobs results.items by_one.right

    -- each block has its results: so has each job
    pub joined_right : (blocks : List (Bor (List J))) (served : List (Option (Vec T))) → length served ≡ length blocks → All IsSome served
        → AreServed (InBlocks fits) blocks before after served → AllZip (IsServedByOne fits before after) (flat_map jobs_of blocks) (flat_map results_of served)
    joined_right [] [] same whole each = tt
    joined_right [] (s ∷ ss) same whole each = let no : ⊥ = omega arith in absurd no
    joined_right (b ∷ bs) [] same whole each = let no : ⊥ = omega arith in absurd no
    joined_right (b ∷ bs) (s ∷ ss) same whole each = let head =
        each 0 b s refl refl in all_zip_join (IsServedByOne fits before after) b.now (results_of s)
        (flat_map jobs_of bs) (flat_map results_of ss)
        (right_of_block b.now s (whole 0 s (omega arith))
        record {
          index = head.index;
          first = head.first;
          last = head.last;
          was = head.was;
          is = head.is;
          right =
              head.right;
        })
        (joined_right bs ss (omega arith) (λ k d l. whole (suc k) d (omega arith)) (λ k. each (suc k)))

    -- the joined results of the blocks are those of the jobs, place by place
    pub joined_in_order : (jobs : List J) (blocks : List (Bor (List J))) (served : List (Option (Vec T)))
        (result : Result (Vec T) PoolFault) → flat_map jobs_of blocks ≡ jobs → length served ≡ length blocks
        → AreServed (InBlocks fits) blocks before after served → IfOk result (λ v. v.items ≡ flat_map results_of served) → OnOk result (All IsSome served)
        → IfOk result (λ v. AllZip (IsServedByOne fits before after) jobs v.items)
    joined_in_order jobs blocks served (Ok v) whole same each joined all = subst (λ z. AllZip (IsServedByOne fits before after) z v.items) whole
        (subst (AllZip (IsServedByOne fits before after) (flat_map jobs_of blocks)) (sym joined) (joined_right blocks served same all each))
    joined_in_order jobs blocks served (Err e) whole same each joined all = tt
