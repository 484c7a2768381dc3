-- What an update and a removal leave of the parts.
use Rattle.bpf_model.proofs.Prelude.{◌≡◌, ◌∙◌, ℕ, ◌∷◌, List, Some, None, sym, ap, insert, KeyMap}
use Rattle.element_store.proofs.Prelude.{ArenaState, key_at, retired_lists}
use Rattle.hash_index.proofs.Links.{insert_over}
use Rattle.map_kinds.specs.Parted.{PartsView}
use Rattle.map_kinds.specs.Updated.{IsPut, replaced, with_taken}

-- an arena that is another but for its links, and so another again
pub links-on : (a b c : ArenaState) → b ≡ record a { links = b.links } → c ≡ record b { links = c.links } → c ≡ record a { links = c.links }
links-on a b c e f = f ∙ ap (λ (z : ArenaState). let w : ArenaState = record z { links = c.links } in w) e

module _ (v p r : PartsView) (i : ℕ) (rest key value : List ℕ) (first : v.arena.free ≡ i ∷ rest)
    (e1 : p ≡ with_taken v i rest key value) (ek : key_at p.arena.slots i ≡ key)
    (l : r.arena ≡ record p.arena { links = r.arena.links }) where
  pub put-new : r ≡ record { index = insert p.index (key_at p.arena.slots i) i; lists = p.lists; arena = r.arena } → IsPut v r key value None
  put-new e = record {
    slot = i;
    rest = rest;
    first = first;
    new_is = e
        ∙ (ap (λ (z : ArenaState). let w : PartsView = record { index = insert p.index (key_at p.arena.slots i) i; lists = p.lists; arena = z } in w) l
        ∙ (ap (λ k. let w : PartsView = record { index = insert p.index k i; lists = p.lists; arena = record p.arena { links = r.arena.links } } in w) ek
        ∙ ap (λ (z : PartsView). replaced z key None i r.arena.links) e1));
  }

  pub put-again : (old : ℕ) → r ≡ record {
    index = insert p.index (key_at p.arena.slots i) i;
    lists =
        retired_lists p.lists old;
    arena = r.arena;
  } → IsPut v r key value (Some old)
  put-again old e = record {
    slot = i;
    rest = rest;
    first = first;
    new_is = e
        ∙ (ap (λ (z : ArenaState). let w : PartsView =
        record {
          index = insert p.index (key_at p.arena.slots i) i;
          lists = retired_lists p.lists old;
          arena =
              z;
        } in w) l
        ∙ (ap (λ k. let w : PartsView = record {
          index = insert p.index k i;
          lists = retired_lists p.lists old;
          arena = record p.arena { links = r.arena.links };
        } in w) ek
        ∙ (ap (λ (m : KeyMap). let w : PartsView = record {
          index = m;
          lists = retired_lists p.lists old;
          arena =
              record p.arena { links = r.arena.links };
        } in w) (sym (insert_over p.index key i))
        ∙ ap (λ (z : PartsView). replaced z key (Some old) i r.arena.links) e1)));
  }
