-- What a door tells, from one call to the next.
use Rattle.std.proofs.Common.{◌≡◌, ℕ, ◌+◌, ◌-◌, List, [], ◌∷◌, ◌++◌, length, refl, sym, ap, subst, ◌∙◌, arith, append_assoc}
use Rattle.std.specs.Prelude.{IfSome}
use Rattle.std.proofs.lemmas.List.Elements.{Contains-append_left, Contains-append_right}
use Rattle.std.specs.List.{Contains, slice_get}
use Rattle.std.specs.declared.option.Option.{Option}
use Rattle.std.specs.declared.option.Option.TheVariants.{None, Some}
use Rattle.edge_traits.specs.Link.{Handed, Tale}
use Rattle.edge_traits.specs.Door.{DoorTale, DoorGives, KeepsLinks, TakesBack}
use Rattle.edge_traits.specs.WhereTold.{WhereTold}
use Rattle.edge_traits.specs.declared.doorway.Came.{Came}
use Rattle.edge_traits.specs.declared.doorway.Came.TheVariants.{Link, Quiet, Closed, Failed}
use Rattle.serve_core.specs.Keeping.{Comes, KeepsLeft}
use Rattle.serve_core.specs.Sessions.{CameAs, CameBack}
use Rattle.serve_core.proofs.Among.{get_left, get_last, one_longer}

-- a fact goes on
pub told_then : (door door' : Option DoorTale) (R : DoorTale → DoorTale → Type 0) (P Q : DoorTale → Type 0)
    → ((old new : DoorTale) → R old new → P old → Q new) → WhereTold door door' R → IfSome door P → IfSome door' Q
told_then None None R P Q h g p = tt
told_then None (Some new) R P Q h g p = absurd g
told_then (Some old) None R P Q h g p = absurd g
told_then (Some old) (Some new) R P Q h g p = h old new g p

pub told_and : (door : Option DoorTale) (P Q R : DoorTale → Type 0) → ((tale : DoorTale) → P tale → Q tale → R tale)
    → IfSome door P → IfSome door Q → IfSome door R
told_and None P Q R h p q = tt
told_and (Some tale) P Q R h p q = h tale p q

pub told_as : (door : Option DoorTale) (P Q : DoorTale → Type 0) → ((tale : DoorTale) → P tale → Q tale) → IfSome door P
    → IfSome door Q
told_as None P Q h p = tt
told_as (Some tale) P Q h p = h tale p

pub where_same : (door : Option DoorTale) (R : DoorTale → DoorTale → Type 0) → ((tale : DoorTale) → R tale tale)
    → WhereTold door door R
where_same None R h = tt
where_same (Some tale) R h = h tale

pub where_then : (one two three : Option DoorTale) (R S T : DoorTale → DoorTale → Type 0)
    → ((a b c : DoorTale) → R a b → S b c → T a c) → WhereTold one two R → WhereTold two three S → WhereTold one three T
where_then None None None R S T h p q = tt
where_then None None (Some c) R S T h p q = absurd q
where_then None (Some b) three R S T h p q = absurd p
where_then (Some a) None three R S T h p q = absurd p
where_then (Some a) (Some b) None R S T h p q = absurd q
where_then (Some a) (Some b) (Some c) R S T h p q = h a b c p q

pub where_as : (one two : Option DoorTale) (R S : DoorTale → DoorTale → Type 0) → ((a b : DoorTale) → R a b → S a b)
    → WhereTold one two R → WhereTold one two S
where_as None None R S h p = tt
where_as None (Some b) R S h p = absurd p
where_as (Some a) None R S h p = absurd p
where_as (Some a) (Some b) R S h p = h a b p

-- ---- a link comes

came_then : (link : Option Tale) (old new : DoorTale) → Comes link old new → new.came ≡ old.came ++ link ∷ []
came_then link old new e = ap (λ (t : DoorTale). t.came) e

pub came_stays : (link : Option Tale) (number : ℕ) (other : Option Tale) (old new : DoorTale) → Comes link old new
    → CameAs number other old → CameAs number other new
came_stays link number other old new e p =
    subst (λ (xs : List (Option Tale)). slice_get xs (number - 1) ≡ Some other) (sym (came_then link old new e))
    (get_left old.came (link ∷ []) (number - 1) other p)

pub came_new : (link : Option Tale) (count : ℕ) (old new : DoorTale) → Comes link old new → length old.came ≡ count
    → CameAs (count + 1) link new
came_new link count old new e n =
    let here : slice_get (old.came ++ link ∷ []) (length old.came) ≡ Some link = get_last old.came link in
    subst (λ (xs : List (Option Tale)). slice_get xs (count + 1 - 1) ≡ Some link) (sym (came_then link old new e))
    (subst (λ (i : ℕ). slice_get (old.came ++ link ∷ []) i ≡ Some link) (omega (arith, n)) here)

pub came_back_stays : (link : Option Tale) (number : ℕ) (other : Handed) (old new : DoorTale) → Comes link old new
    → CameBack number other old → CameBack number other new
came_back_stays link number other old new e p =
    subst (λ (xs : List (ℕ × Handed)). Contains xs (number, other)) (sym (ap (λ (t : DoorTale). t.back) e)) p

pub came_count : (link : Option Tale) (count : ℕ) (old new : DoorTale) → Comes link old new → length old.came ≡ count
    → length new.came ≡ count + 1
came_count link count old new e n = ap length (came_then link old new e) ∙ one_longer link old.came ∙ ap (λ k. k + 1) n

pub came_out : (link : Option Tale) (count : ℕ) (old new : DoorTale) → Comes link old new
    → length old.back + count ≡ length old.came → length new.back + (count + 1) ≡ length new.came
came_out link count old new e n =
    let back : length new.back ≡ length old.back = ap (λ (t : DoorTale). length t.back) e in
    let came : length new.came ≡ length old.came + 1 =
    ap length (came_then link old new e) ∙ one_longer link old.came in
    omega (arith, back, came, n)

-- ---- a link goes back

pub back_came : (number : ℕ) (link : Handed) (k : ℕ) (other : Option Tale) (old new : DoorTale)
    → TakesBack number link old new → CameAs k other old → CameAs k other new
back_came number link k other old new e p =
    subst (λ (xs : List (Option Tale)). slice_get xs (k - 1) ≡ Some other) (sym (ap (λ (t : DoorTale). t.came) e)) p

pub back_stays : (number : ℕ) (link : Handed) (k : ℕ) (other : Handed) (old new : DoorTale)
    → TakesBack number link old new → CameBack k other old → CameBack k other new
back_stays number link k other old new e p =
    subst (λ (xs : List (ℕ × Handed)). Contains xs (k, other)) (sym (ap (λ (t : DoorTale). t.back) e))
    (Contains-append_left old.back ((number, link) ∷ []) (k, other) p)

pub back_new : (number : ℕ) (link : Handed) (old new : DoorTale) → TakesBack number link old new
    → CameBack number link new
back_new number link old new e =
    subst (λ (xs : List (ℕ × Handed)). Contains xs (number, link)) (sym (ap (λ (t : DoorTale). t.back) e))
    (Contains-append_right old.back ((number, link) ∷ []) (number, link) (0, omega arith, refl))

pub back_count : (number : ℕ) (link : Handed) (count : ℕ) (old new : DoorTale) → TakesBack number link old new
    → length old.came ≡ count → length new.came ≡ count
back_count number link count old new e n = ap (λ (t : DoorTale). length t.came) e ∙ n

pub back_out : (number : ℕ) (link : Handed) (count more : ℕ) (old new : DoorTale) → TakesBack number link old new
    → more ≡ count + 1 → length old.back + more ≡ length old.came → length new.back + count ≡ length new.came
back_out number link count more old new e m n =
    let back : length new.back ≡ length old.back + 1 =
    ap (λ (t : DoorTale). length t.back) e ∙ one_longer (number, link) old.back in
    let came : length new.came ≡ length old.came = ap (λ (t : DoorTale). length t.came) e in
    omega (arith, back, came, m, n)

-- ---- the links that came and those that are left

links_same : (old new : DoorTale) → new.left ≡ old.left → new.came ≡ old.came → KeepsLinks old new
links_same old new left came =
    ap (λ (xs : List (Option Tale)). xs ++ old.left) (sym came)
    ∙ ap (λ (xs : List (Option Tale)). new.came ++ xs) (sym left)

pub keeps_links : (old new : DoorTale) → KeepsLeft old new → KeepsLinks old new
keeps_links old new e = links_same old new e.0 e.1

-- an answer of the door
gives_links : {L : Type 0} (tells : L → Option Tale) (came : Came L) (old new : DoorTale) → DoorGives tells came old new
    → KeepsLinks old new
gives_links tells (Link link) old new p =
    ap (λ (xs : List (Option Tale)). old.came ++ xs) p.0
    ∙ sym (append_assoc old.came (tells link ∷ []) new.left)
    ∙ ap (λ (xs : List (Option Tale)). xs ++ new.left) (sym (ap (λ (t : DoorTale). t.came) p.1))
gives_links tells Quiet old new p =
    links_same old new (ap (λ (t : DoorTale). t.left) p) (ap (λ (t : DoorTale). t.came) p)
gives_links tells Closed old new p =
    links_same old new (ap (λ (t : DoorTale). t.left) p.1) (ap (λ (t : DoorTale). t.came) p.1)
gives_links tells Failed old new p =
    links_same old new (ap (λ (t : DoorTale). t.left) p) (ap (λ (t : DoorTale). t.came) p)

pub links_stay : (one two three : Option DoorTale) → WhereTold one two KeepsLinks → WhereTold two three KeepsLeft
    → WhereTold one three KeepsLinks
links_stay one two three p q =
    where_then one two three KeepsLinks KeepsLeft KeepsLinks (λ a b c e f. e ∙ keeps_links b c f) p q

pub links_then : (one two three : Option DoorTale) → WhereTold one two KeepsLinks → WhereTold two three KeepsLinks
    → WhereTold one three KeepsLinks
links_then one two three p q = where_then one two three KeepsLinks KeepsLinks KeepsLinks (λ a b c e f. e ∙ f) p q

-- what one answer of the door gave, once the door's thread had settled with some workers before
pub links_came : {L : Type 0} (tells : L → Option Tale) (came : Came L) (one two three : Option DoorTale)
    → WhereTold one two KeepsLeft → WhereTold two three (DoorGives tells came) → WhereTold one three KeepsLinks
links_came tells came one two three p q =
    where_then one two three KeepsLeft (DoorGives tells came) KeepsLinks
    (λ a b c e f. keeps_links a b e ∙ gives_links tells came b c f) p q

pub left_stays : (one two three : Option DoorTale) → WhereTold one two KeepsLeft → WhereTold two three KeepsLeft
    → WhereTold one three KeepsLeft
left_stays one two three p q =
    where_then one two three KeepsLeft KeepsLeft KeepsLeft (λ a b c e f. (f.0 ∙ e.0, f.1 ∙ e.1, f.2 ∙ e.2)) p q

pub left_back : (number : ℕ) (link : Handed) (one two : Option DoorTale) → WhereTold one two (TakesBack number link)
    → WhereTold one two KeepsLeft
left_back number link one two p =
    where_as one two (TakesBack number link) KeepsLeft
    (λ a b e. (ap (λ (t : DoorTale). t.left) e, ap (λ (t : DoorTale). t.came) e, ap (λ (t : DoorTale). t.last) e)) p
