-- Orders that are carried out one after another.
use Rattle.std.proofs.Common.{◌≡◌, ℕ, true, cond, List, [], ◌∷◌, ◌++◌, Option, None, Some, inl, inr, refl, sym, ap, subst, ◌∙◌, append_assoc, append-nil}
use Rattle.std.specs.Prelude.{bytes_eq}
use Rattle.std.specs.Ordering.{eq_by_cmp, is_eq}
use Rattle.std.specs.declared.cmp.Ordering.{Ordering}
use Rattle.std.specs.declared.cmp.Ordering.TheVariants.{Less, Equal, Greater}
use Rattle.std.specs.Cmp.{eq_by_cmp_equiv, both_ways}
use Rattle.std.specs.Cmp.Lexicographic.{nat_list_cmp_total}
use Rattle.std.specs.FinMap as map
use Rattle.std.specs.FinMap.{get-insert, get-remove, nat_cmp-IsAntisymmetric, slice_cmp-IsAntisymmetric}
use Rattle.std.proofs.lemmas.Slice.Eq.{bytes_eq-Decides}
use Rattle.std.proofs.lemmas.List.{map-append}
use Rattle.edge_traits.specs.Calls.{Calls, note, noted}
use Rattle.edge_traits.specs.Keeper.{HasPut, HasRemoved, Stays}
use Rattle.edge_traits.specs.Pairs.{Records, keys_order}
use Rattle.edge_traits.specs.declared.keeper.Kept.{Kept}
use Rattle.edge_traits.specs.declared.keeper.Kept.TheVariants.{Done, Failed, Memory}
use Rattle.lobby_shelf.specs.Wanted.{StoreMap, table_with}
use Rattle.lobby_shelf.specs.declared.order.Order.{Order}
use Rattle.lobby_shelf.proofs.Leading.{same_table, table_with-append}
use Rattle.lobby_store.specs.Carrying.{CallsFor, Carries, CarriesOne, CarriesPerhaps, asked_with, calls_for, held, in_doubt}

-- no orders, and more of them
pub carries_none : (table : Option Records) → Carries table table []
carries_none None = tt
carries_none (Some table) = λ key. refl

pub carries_then : (old mid new : Option Records) (first rest : List Order) → Carries old mid first
    → Carries mid new rest → Carries old new (first ++ rest)
carries_then None None None first rest p q = tt
carries_then None None (Some new) first rest p q = absurd q
carries_then None (Some mid) new first rest p q = absurd p
carries_then (Some old) None new first rest p q = absurd p
carries_then (Some old) (Some mid) None first rest p q = absurd q
carries_then (Some old) (Some mid) (Some new) first rest p q = λ key.
    q key ∙ same_table (held mid) (table_with (held old) first) rest key (p key)
    ∙ ap (λ (t : StoreMap). t key) (sym (table_with-append (held old) first rest))

-- orders, and more of them with one that is in doubt
pub carries_perhaps_then : (old mid new : Option Records) (first rest : List Order) (doubt : Option Order)
    → Carries old mid first → CarriesPerhaps mid new rest doubt → CarriesPerhaps old new (first ++ rest) doubt
carries_perhaps_then old mid new first rest None p q = carries_then old mid new first rest p q
carries_perhaps_then old mid new first rest (Some doubt) p (inl q) = inl (carries_then old mid new first rest p q)
carries_perhaps_then old mid new first rest (Some doubt) p (inr q) =
    inr (subst (Carries old new) (sym (append_assoc first rest (doubt ∷ [])))
    (carries_then old mid new first (rest ++ doubt ∷ []) p q))

-- a table that stays is one that no orders were carried out in
stays_none : (old new : Option Records) → Stays old new → Carries old new []
stays_none None None p = tt
stays_none None (Some new) p = absurd p
stays_none (Some old) None p = absurd p
stays_none (Some old) (Some new) p = λ key. ap (λ (t : Records). held t key) p

-- orders were carried out, and the next one of those that are left wasn't, or is in doubt
pub carries_cut : (end : Kept) (old mid new : Option Records) (first : List Order) (order : Order) (left : List Order)
    → (end ≡ Done → ⊥) → Carries old mid first → CarriesOne mid new order end
    → CarriesPerhaps old new first (in_doubt end (order ∷ left))
carries_cut Done old mid new first order left bad p q = absurd (bad refl)
carries_cut Failed old mid new first order left bad p (inl q) =
    inl (subst (Carries old new) (append-nil first) (carries_then old mid new first [] p (stays_none mid new q)))
carries_cut Failed old mid new first order left bad p (inr q) =
    inr (carries_then old mid new first (order ∷ []) p q)
carries_cut Memory old mid new first order left bad p q =
    subst (Carries old new) (append-nil first) (carries_then old mid new first [] p (stays_none mid new q))

-- the calls for orders, and for one more
calls_then : (old mid : Calls) (first rest : List Order) → mid ≡ old ++ calls_for first
    → mid ++ calls_for rest ≡ old ++ calls_for (first ++ rest)
calls_then old mid first rest is =
    ap (λ (c : Calls). c ++ calls_for rest) is ∙ append_assoc old (calls_for first) (calls_for rest)
    ∙ ap (λ (c : Calls). old ++ c) (sym (map-append (λ (order : Order). note (asked_with order.bytes) Done) first rest))

pub called_then : (kept : Kept) (old mid new : Calls) (first rest : List Order) → mid ≡ old ++ calls_for first
    → CallsFor kept rest mid new → CallsFor kept (first ++ rest) old new
called_then Done old mid new first rest is p = p ∙ calls_then old mid first rest is
called_then Failed old mid new first rest is p =
    (p.0, p.1 ∙ ap (λ (c : Calls). noted c p.0 Failed) (calls_then old mid first rest is))
called_then Memory old mid new first rest is p =
    (p.0, p.1 ∙ ap (λ (c : Calls). noted c p.0 Memory) (calls_then old mid first rest is))

-- the two tests of keys say the same
is_tied : (o : Ordering) → is_eq o ≡ true → o ≡ Equal
is_tied Less e = cc
is_tied Equal e = refl
is_tied Greater e = cc

pub tied_same : (one other : List ℕ) → eq_by_cmp keys_order one other ≡ true → one ≡ other
tied_same one other tied =
    slice_cmp-IsAntisymmetric nat_cmp-IsAntisymmetric one other (is_tied (keys_order one other) tied)

pub same_test : (key order : List ℕ) → eq_by_cmp keys_order key order ≡ bytes_eq order key
same_test key order = both_ways (eq_by_cmp keys_order key order) (bytes_eq order key)
    (λ tied. (bytes_eq-Decides order key).1 (sym (tied_same key order tied)))
    (λ same.
    subst (λ k. eq_by_cmp keys_order k order ≡ true) ((bytes_eq-Decides order key).0 same)
    ((eq_by_cmp_equiv nat_list_cmp_total).refl order))

put_held : (old : Records) (order : Order) (bytes : List ℕ) (key : List ℕ) → order.bytes ≡ Some bytes
    → held (map.insert old order.key bytes) key ≡ table_with (held old) (order ∷ []) key
put_held old order bytes key is =
    get-insert nat_list_cmp_total old order.key bytes key
    ∙ ap (λ t. cond t (Some bytes) (held old key)) (same_test key order.key)
    ∙ ap (λ r. cond (bytes_eq order.key key) r (held old key)) (sym is)

removed_held : (old : Records) (order : Order) (key : List ℕ) → order.bytes ≡ None
    → held (map.remove old order.key) key ≡ table_with (held old) (order ∷ []) key
removed_held old order key is =
    get-remove nat_list_cmp_total old order.key key
    ∙ ap (λ t. cond t None (held old key)) (same_test key order.key)
    ∙ ap (λ r. cond (bytes_eq order.key key) r (held old key)) (sym is)

-- what a keeper answers to a put and to a removal
pub put_carries : (old new : Option Records) (order : Order) (bytes : List ℕ) (kept : Kept) → order.bytes ≡ Some bytes
    → HasPut old new order.key bytes kept → CarriesOne old new order kept
put_carries None None order bytes Done is p = tt
put_carries None (Some new) order bytes Done is p = absurd p
put_carries (Some old) None order bytes Done is p = absurd p
put_carries (Some old) (Some new) order bytes Done is p = λ key.
    ap (λ (t : Records). held t key) p ∙ put_held old order bytes key is
put_carries None None order bytes Failed is p = inl tt
put_carries None (Some new) order bytes Failed is p = absurd p
put_carries (Some old) None order bytes Failed is p = absurd p
put_carries (Some old) (Some new) order bytes Failed is (inl p) = inl p
put_carries (Some old) (Some new) order bytes Failed is (inr p) =
    inr (λ key. ap (λ (t : Records). held t key) p ∙ put_held old order bytes key is)
put_carries old new order bytes Memory is p = p

pub removed_carries : (old new : Option Records) (order : Order) (kept : Kept) → order.bytes ≡ None
    → HasRemoved old new order.key kept → CarriesOne old new order kept
removed_carries None None order Done is p = tt
removed_carries None (Some new) order Done is p = absurd p
removed_carries (Some old) None order Done is p = absurd p
removed_carries (Some old) (Some new) order Done is p = λ key.
    ap (λ (t : Records). held t key) p ∙ removed_held old order key is
removed_carries None None order Failed is p = inl tt
removed_carries None (Some new) order Failed is p = absurd p
removed_carries (Some old) None order Failed is p = absurd p
removed_carries (Some old) (Some new) order Failed is (inl p) = inl p
removed_carries (Some old) (Some new) order Failed is (inr p) =
    inr (λ key. ap (λ (t : Records). held t key) p ∙ removed_held old order key is)
removed_carries old new order Memory is p = p
