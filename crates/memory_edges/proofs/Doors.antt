-- The links of a door in memory, one after another.
use Rattle.std.proofs.Common.{◌≡◌, ◌≢◌, ◌⊎◌, inl, inr, take-append-drop, ℕ, zero, suc, ◌+◌, ◌-◌, ◌<◌, ◌≤◌, List, [], ◌∷◌, ◌++◌, length, take, drop, refl, sym, ap, subst, ◌∙◌, arith}
use Rattle.std.proofs.Math.Seq.{take-add}
use Rattle.std.proofs.lemmas.List.{drop-drop, drop_more, length-drop, map-append, take_all}
use Rattle.std.proofs.lemmas.List.Elements.{Contains-append_cases, Contains-append_right}
use Rattle.std.specs.List.{Contains, remove, slice_index_or}
use Rattle.std.specs.declared.option.Option.TheVariants.{Some}
use Rattle.edge_traits.specs.Link.{Handed}
use Rattle.memory_edges.specs.Wire.{Wire}
use Rattle.edge_traits.specs.Door.{IsNew}
use Rattle.memory_edges.specs.MemDoor.{AreNew, told_by, handed, numbered}

-- the first of the links that are to come is given, and n are left
pub record GivesFirst (links all : List Wire) (left n came : ℕ) (link : Wire) : Type 0 where
  pub told : told_by (take left links) ≡ Some link.tale ∷ told_by (take n (remove links 0))
  pub listed : told_by (take (came + 1) all) ≡ told_by (take came all) ++ Some link.tale ∷ []
  pub back : numbered (drop n (remove links 0)) ≡ numbered (drop left links)
  pub new : IsNew link.plan.faults (Some link.tale)
  pub same : take n (remove links 0) ≡ drop (came + 1) all
  pub fits : n ≤ length (remove links 0)
  pub rest_new : AreNew (take n (remove links 0))

first_given : (links all : List Wire) (n came : ℕ) (link : Wire) → suc n ≤ length links
    → link ≡ slice_index_or links 0 link
    → take (suc n) links ≡ drop came all → AreNew (take (suc n) links) → GivesFirst links all (suc n) n came link
first_given [] all n came link fits is same new = absurd (omega (arith, fits))
first_given (w ∷ ws) all n came link fits is same new =
    let here : w ≡ link = sym is in
    let behind : take n ws ≡ drop (came + 1) all = ap (drop 1) same ∙ drop-drop 1 came all in
    let up : take (came + 1) all ≡ take came all ++ w ∷ [] =
    take-add came 1 all ∙ ap (λ (x : List Wire). take came all ++ take 1 x) (sym same) in
    record {
      told = ap (λ (x : Wire). Some x.tale ∷ told_by (take n ws)) here;
      listed =
          ap told_by up ∙ map-append (λ (x : Wire). Some x.tale) (take came all) (w ∷ [])
          ∙ ap (λ (x : Wire). told_by (take came all) ++ Some x.tale ∷ []) here;
      back = refl;
      new = subst (λ (x : Wire). IsNew x.plan.faults (Some x.tale)) here new.0;
      same = behind;
      fits = omega (arith, fits);
      rest_new = new.1;
    }

pub gives_first : (links all : List Wire) (left n came : ℕ) (link : Wire) → suc n ≡ left → left ≤ length links
    → link ≡ slice_index_or links 0 link → take left links ≡ drop came all → AreNew (take left links)
    → GivesFirst links all left n came link
gives_first links all left n came link e fits is same new =
    subst (λ l. GivesFirst links all l n came link) e
    (first_given links all n came link (omega (arith, e, fits)) is
    (subst (λ l. take l links ≡ drop came all) (sym e) same) (subst (λ l. AreNew (take l links)) (sym e) new))

-- none of the links has this number
abbrev pub NoneOf : List Wire → ℕ → Type 0
NoneOf links number = (link : Handed) → Contains (numbered links) (number, link) → ⊥

one_number : (w : Wire) (number : ℕ) → w.number ≢ number → NoneOf (w ∷ []) number
one_number w number other link (zero, low, e) = other (ap (λ (x : ℕ × Handed). x.0) e)
one_number w number other link (suc k, low, e) = omega (arith, low)

none_cases : (links : List Wire) (i number : ℕ) (w : Wire) (link : Handed) → w.number ≢ number
    → NoneOf (take i links) number
    → Contains (numbered (take i links)) (number, link) ⊎ Contains (numbered (w ∷ [])) (number, link) → ⊥
none_cases links i number w link other none (inl there) = none link there
none_cases links i number w link other none (inr there) = one_number w number other link there

-- nor the next one
pub none_more : (links : List Wire) (i number : ℕ) (w : Wire) → i < length links → w ≡ slice_index_or links i w
    → w.number ≢ number → NoneOf (take i links) number → NoneOf (take (i + 1) links) number
none_more links i number w low is other none link there =
    let at : drop i links ≡ w ∷ drop (i + 1) links =
    drop_more links i w low ∙ ap (λ (x : Wire). x ∷ drop (i + 1) links) (sym is) in
    let up : take (i + 1) links ≡ take i links ++ w ∷ [] =
    take-add i 1 links ∙ ap (λ (x : List Wire). take i links ++ take 1 x) at in
    let split : numbered (take (i + 1) links) ≡ numbered (take i links) ++ numbered (w ∷ []) =
    ap numbered up ∙ map-append (λ (x : Wire). (x.number, handed x)) (take i links) (w ∷ []) in
    let cases =
    Contains-append_cases (numbered (take i links)) (numbered (w ∷ [])) (number, link)
    (subst (λ (xs : List (ℕ × Handed)). Contains xs (number, link)) split there) in
    none_cases links i number w link other none cases

-- the link at a place is one of them, under its number
pub found_at : (links : List Wire) (i number : ℕ) (w : Wire) → i < length links → w ≡ slice_index_or links i w
    → w.number ≡ number → Contains (numbered links) (number, handed w)
found_at links i number w low is same =
    let at : drop i links ≡ w ∷ drop (i + 1) links =
    drop_more links i w low ∙ ap (λ (x : Wire). x ∷ drop (i + 1) links) (sym is) in
    let split : links ≡ take i links ++ w ∷ drop (i + 1) links =
    sym (take-append-drop i links) ∙ ap (λ (x : List Wire). take i links ++ x) at in
    let told : numbered links ≡ numbered (take i links) ++ numbered (w ∷ drop (i + 1) links) =
    ap numbered split ∙ map-append (λ (x : Wire). (x.number, handed x)) (take i links) (w ∷ drop (i + 1) links) in
    let first : Contains (numbered (w ∷ drop (i + 1) links)) (number, handed w) =
    (0, omega arith, ap (λ (n : ℕ). (n, handed w)) same) in
    subst (λ (xs : List (ℕ × Handed)). Contains xs (number, handed w)) (sym told)
    (Contains-append_right (numbered (take i links)) (numbered (w ∷ drop (i + 1) links)) (number, handed w) first)

-- the rest of the links, as a slice has it
pub rest_of_links : (links : List Wire) (left : ℕ) → take (length links - left) (drop left links) ≡ drop left links
rest_of_links links left = take_all (length links - left) (drop left links) (omega (arith, length-drop left links))
