-- A part of one member that is lent: the member at a place with that part written, where the place is that of the first
-- member that passes a test.
use Rattle.std.proofs.Common.{◌≡◌, ℕ, ◌<◌, ◌≤◌, zero, suc, Bool, not, filter, List, [], ◌∷◌, ◌++◌, cond, None, Some, length, slice_get, refl, sym, ap, ◌∙◌, arith}
use Rattle.std.specs.Prelude.{◌==◌}
use Rattle.std.specs.List.{find, position}
use Rattle.std.proofs.Math.ListN.{set}
use Rattle.std.proofs.lemmas.List.Filters.{length-filter_both}
use Rattle.tables.specs.Rows.{change_at, change_first}
use Rattle.lobby_state.specs.declared.member.Member.{Member}
use Rattle.lobby_state.specs.Lobby.{is_session}
use Rattle.lobby_shelf.proofs.Requests.{turned}
use Rattle.tables.proofs.Firsts.{change_first-none}
use Rattle.tables.proofs.Placed.{changed_at, find-missing, position-within}

-- a write of what stands there changes nothing
pub set-same : {X : Type 0} (xs : List X) (i : ℕ) (x : X) → slice_get xs i ≡ Some x → set xs i x ≡ xs
set-same [] i x e = cc
set-same (z ∷ zs) zero x e = let same : z ≡ x = cc in ap (λ u. u ∷ zs) (sym same)
set-same (z ∷ zs) (suc i) x e = ap (λ us. z ∷ us) (set-same zs i x e)

-- a change at a place is a write there
pub change_at-set : {X : Type 0} (f : X → X) (xs : List X) (i : ℕ) (x : X) → slice_get xs i ≡ Some x
    → change_at i f xs ≡ set xs i (f x)
change_at-set f [] i x at = cc
change_at-set f (y ∷ ys) zero x at = let same : y ≡ x = cc in ap (λ z. f z ∷ ys) same
change_at-set f (y ∷ ys) (suc i) x at = ap (λ zs. y ∷ zs) (change_at-set f ys i x at)

-- it changes no length
pub length-change_at : {X : Type 0} (f : X → X) (xs : List X) (i : ℕ) → length (change_at i f xs) ≡ length xs
length-change_at f [] i = refl
length-change_at f (x ∷ xs) zero = refl
length-change_at f (x ∷ xs) (suc i) = ap suc (length-change_at f xs i)

-- what stands at a place within the list
pub at_place : {X : Type 0} (xs : List X) (i : ℕ) → i < length xs → (x : X) × (slice_get xs i ≡ Some x)
at_place [] i inside = absurd (omega (arith, inside))
at_place (x ∷ xs) zero inside = (x, refl)
at_place (x ∷ xs) (suc i) inside = at_place xs i (omega (arith, inside))

-- a change of the first item that passes is a write at its place
pub change_first-found : {X : Type 0} (p : X → Bool) (f : X → X) (xs : List X) (i : ℕ) (x : X)
    → position p xs ≡ Some i → slice_get xs i ≡ Some x → change_first p f xs ≡ set xs i (f x)
change_first-found p f xs i x here at = sym (changed_at p f xs i here) ∙ change_at-set f xs i x at

-- nothing changes where none passes
pub change_first-missing : {X : Type 0} (p : X → Bool) (f : X → X) (xs : List X) → position p xs ≡ None
    → change_first p f xs ≡ xs
change_first-missing p f xs nowhere = change_first-none p f xs (find-missing p xs nowhere)

-- a write to a part of the first that passes is the change that agrees with it there
pub changed_there : {X : Type 0} (p : X → Bool) (f h : X → X) (xs : List X) (i : ℕ) → Some i ≡ position p xs
    → ((x : X) → slice_get xs i ≡ Some x → h x ≡ f x) → change_at i h xs ≡ change_first p f xs
changed_there p f h xs i here is =
    let found = at_place xs i (position-within p xs i (sym here)) in
    change_at-set h xs i found.0 found.1 ∙ ap (set xs i) (is found.0 found.1)
    ∙ sym (change_first-found p f xs i found.0 (sym here) found.1)

-- and one that changes nothing there leaves all as it was
pub kept_there : {X : Type 0} (h : X → X) (xs : List X) (i : ℕ) → i < length xs
    → ((x : X) → slice_get xs i ≡ Some x → h x ≡ x) → change_at i h xs ≡ xs
kept_there h xs i inside is =
    let found = at_place xs i inside in
    change_at-set h xs i found.0 found.1 ∙ ap (set xs i) (is found.0 found.1) ∙ set-same xs i found.0 found.1

pub kept_here : {X : Type 0} (p : X → Bool) (h : X → X) (xs : List X) (i : ℕ) → Some i ≡ position p xs
    → ((x : X) → slice_get xs i ≡ Some x → h x ≡ x) → change_at i h xs ≡ xs
kept_here p h xs i here is = kept_there h xs i (position-within p xs i (sym here)) is

-- no more items pass a test than there are
pub fewer : {X : Type 0} (p : X → Bool) (xs : List X) → length (filter p xs) ≤ length xs
fewer p xs = omega (arith, length-filter_both p (λ x. not (p x)) (λ x. refl) xs)

-- a table's change of the row of a session is the change of its member
pub by_session : (session : ℕ) (f : Member → Member) (members : List Member)
    → change_first (λ (member : Member). session == member.session) f members
    ≡ change_first (is_session session) f members
by_session session f [] = refl
by_session session f (m ∷ members) = λ j.
    cond (turned session m.session j) (f m ∷ members) (m ∷ by_session session f members j)

-- one more item
pub length-push : {X : Type 0} (xs : List X) (x : X) → length (xs ++ x ∷ []) ≡ suc (length xs)
length-push [] x = refl
length-push (y ∷ ys) x = ap suc (length-push ys x)
