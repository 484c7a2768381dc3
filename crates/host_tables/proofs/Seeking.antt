-- What a search for a key tells.
use Rattle.bpf_model.proofs.Prelude.{◌≡◌, ℕ, List, Option, Some, None, Result, Ok, Err, refl, sym, subst, IfSome, IfErr}
use Rattle.table_words.proofs.Prelude.{IsLinkedUnder, OnlySearches}
use Rattle.map_table.proofs.Prelude.{layout_of, TableView, Works, WriterView, TableShape, Move}
use Rattle.std.specs.Prelude.{IsNone}
use Rattle.host_tables.specs.declared.fault.How.{How}
use Rattle.host_tables.specs.declared.fault.How.TheVariants.{Any, New, Present}
use Rattle.host_tables.specs.declared.fault.SetFault.{SetFault}
use Rattle.host_tables.specs.declared.fault.SetFault.TheVariants.{Exists, Missing, NoElement, NoWay, Held}
use Rattle.host_tables.specs.Tables.{Finds, FindsNoRoom, IsAsked, IsNotSet, Seeks}

pub finds_so : (k : TableShape) (key : List ℕ) (found : Option ℕ) (w : WriterView) →
    IfSome found (λ way. IsLinkedUnder (layout_of k) 0 key way w.view.seen) →
    (IsNone found → (way : ℕ) → IsLinkedUnder (layout_of k) 0 key way w.view.seen → ⊥) → Finds k key found w
finds_so k key (Some way) w some none = some
finds_so k key None w some none = none refl

pub seeks_so : (t : TableView) (key : List ℕ) (found : Option ℕ) (v w : WriterView) → v.table ≡ t →
    (ms : List Move) → OnlySearches (layout_of t.shape) 0 ms → Works v ms w → w.free ≡ v.free → w.unlinked ≡ v.unlinked
    → Finds t.shape key found w → Seeks key found v w
seeks_so t key found v w e ms only works free unlinked finds = record {
  moves = ms;
  only = subst (λ (z : TableView). OnlySearches (layout_of z.shape) 0 ms) (sym e) only;
  works = works;
  free = free;
  unlinked = unlinked;
  finds = subst (λ (z : TableView). Finds z.shape key found w) (sym e) finds;
}

-- what was asked for
pub asked_some : (how : How) (found : Option ℕ) (way : ℕ) → found ≡ Some way → (how ≡ New → ⊥) → IsAsked how found
asked_some Any found way is not = tt
asked_some New found way is not = absurd (not refl)
asked_some Present found way is not = subst (IsAsked Present) (sym is) tt

pub asked_none : (how : How) (found : Option ℕ) → found ≡ None → (how ≡ Present → ⊥) → IsAsked how found
asked_none Any found is not = tt
asked_none New found is not = subst (IsAsked New) (sym is) tt
asked_none Present found is not = absurd (not refl)

-- why a key that was sought and asked for was not set
pub not_set : (key : List ℕ) (how : How) (found : Option ℕ) (u v sought w : WriterView) (result : Result (Unit {0}) SetFault) → u ≡ v →
    Seeks key found u sought → IsAsked how found → IfErr result (FindsNoRoom key found sought w) → IfErr result (IsNotSet key how v w)
not_set key how found u v sought w (Ok x) same seeks asked why = tt
not_set key how found u v sought w (Err Exists) same seeks asked why = absurd why.2
not_set key how found u v sought w (Err Missing) same seeks asked why = absurd why.2
not_set key how found u v sought w (Err NoElement) same seeks asked why =
    record { sought = sought; found = found; seeks = subst (λ z. Seeks key found z sought) same seeks; why = (asked, why) }
not_set key how found u v sought w (Err NoWay) same seeks asked why =
    record { sought = sought; found = found; seeks = subst (λ z. Seeks key found z sought) same seeks; why = (asked, why) }
not_set key how found u v sought w (Err Held) same seeks asked why =
    record { sought = sought; found = found; seeks = subst (λ z. Seeks key found z sought) same seeks; why = (asked, why) }
