-- What a search finds among games of which one comes or goes.
use Rattle.std.proofs.Common.{◌≡◌, ◌<◌, ℕ, Bool, true, false, not, cond, List, [], ◌∷◌, Option, None, Some, Bor, length, refl, sym, ap, subst, ◌∙◌, inl, inr}
use Rattle.std.specs.Prelude.{◌==◌, All}
use Rattle.std.specs.List.{filter, find, remove}
use Rattle.std.specs.Option.{is_none, option_copied}
use Rattle.std.proofs.lemmas.Bool.{eqb-true, eqb-false, or_parts}
use Rattle.std.proofs.lemmas.List.Elements.{All-nil, All-cons, All-head, All-tail}
use Rattle.lobby_shelf.specs.declared.shelved.Shelved.{Shelved}
use Rattle.lobby_shelf.specs.Numbers.{AreInOrder, RiseAbove, has_number, is_below, is_used, with_game, without_game}
use Rattle.lobby_shelf.proofs.Rising.{before_or_behind, remove-place, unused_on, with_game-behind, with_game-before}

skip : {X : Type 0} (b : Bool) (x : X) (r : Option X) → b ≡ false → cond b (Some x) r ≡ r
skip b x r e = ap (λ (t : Bool). cond t (Some x) r) e

take_it : {X : Type 0} (b : Bool) (x : X) (r : Option X) → b ≡ true → cond b (Some x) r ≡ Some x
take_it b x r e = ap (λ (t : Bool). cond t (Some x) r) e

-- a game that isn't looked for comes
pub find-with_other : (q : Shelved → Bool) (new : Shelved) (low : ℕ) (games : List Shelved)
    → is_used games new.number ≡ false → RiseAbove low games
    → q new ≡ false → find q (with_game new games) ≡ find q games
find-with_other q new low [] unused rise other = skip (q new) new None other
find-with_other q new low (row ∷ games) unused rise other =
    elim (before_or_behind row games new.number unused) [
      | inl h ↦ ap (find q) (with_game-behind new row games h)
          ∙ ap (λ (r : Option Shelved). cond (q row) (Some row) r)
          (find-with_other q new row.number games (unused_on row games new.number unused) rise.2 other)
      | inr h ↦
          ap (find q) (with_game-before new row games (h, rise.1, rise.2))
          ∙ skip (q new) new (find q (row ∷ games)) other
    ]

-- the game that is looked for comes, where no other one is
pub find-with_new : (q : Shelved → Bool) (new : Shelved) (low : ℕ) (games : List Shelved)
    → is_used games new.number ≡ false → RiseAbove low games
    → q new ≡ true → All (λ row. q row ≡ false) games → find q (with_game new games) ≡ Some new
find-with_new q new low [] unused rise this none = take_it (q new) new None this
find-with_new q new low (row ∷ games) unused rise this none =
    elim (before_or_behind row games new.number unused) [
      | inl h ↦ ap (find q) (with_game-behind new row games h)
          ∙ skip (q row) row (find q (with_game new games)) (All-head (λ z. q z ≡ false) row games none)
          ∙ find-with_new q new row.number games (unused_on row games new.number unused) rise.2 this
          (All-tail (λ z. q z ≡ false) row games none)
      | inr h ↦
          ap (find q) (with_game-before new row games (h, rise.1, rise.2))
          ∙ take_it (q new) new (find q (row ∷ games)) this
    ]

-- a game that isn't looked for goes
pub find-without_other : (q : Shelved → Bool) (number : ℕ) (games : List Shelved)
    → All (λ row. row.number ≡ number → q row ≡ false) games → find q (without_game number games) ≡ find q games
find-without_other q number [] other = refl
find-without_other q number (row ∷ games) other =
    let P : Shelved → Type 0 = λ z. z.number ≡ number → q z ≡ false in
    let rest = find-without_other q number games (All-tail P row games other) in
    elim (row.number == number)
    as (λ t.
    (row.number == number) ≡ t
    → find q (cond (not t) (row ∷ without_game number games) (without_game number games)) ≡ find q (row ∷ games)) [
      | true ↦ λ same.
          rest ∙ sym (skip (q row) row (find q games) (All-head P row games other (eqb-true row.number number same)))
      | false ↦ λ _. ap (λ (r : Option Shelved). cond (q row) (Some row) r) rest
    ] refl

-- the game that is looked for goes
pub find-without_this : (q : Shelved → Bool) (number : ℕ) (games : List Shelved)
    → All (λ row. (row.number ≡ number → ⊥) → q row ≡ false) games → find q (without_game number games) ≡ None
find-without_this q number [] only = refl
find-without_this q number (row ∷ games) only =
    let P : Shelved → Type 0 = λ z. (z.number ≡ number → ⊥) → q z ≡ false in
    let rest = find-without_this q number games (All-tail P row games only) in
    elim (row.number == number)
    as (λ t.
    (row.number == number) ≡ t
    → find q (cond (not t) (row ∷ without_game number games) (without_game number games)) ≡ None) [
      | true ↦ λ _. rest
      | false ↦ λ differ.
          skip (q row) row (find q (without_game number games))
          (All-head P row games only (eqb-false row.number number differ))
          ∙ rest
    ] refl

-- no game has a number that isn't used
pub unused-all : (number : ℕ) (games : List Shelved) → is_used games number ≡ false
    → All (λ row. row.number ≡ number → ⊥) games
unused-all number [] unused = All-nil (λ row. row.number ≡ number → ⊥)
unused-all number (row ∷ games) unused =
    let both = or_parts (row.number == number) (is_used games number) unused in
    All-cons (λ z. z.number ≡ number → ⊥) row games (eqb-false row.number number both.0)
    (unused-all number games both.1)

-- a search that lent nothing found nothing
pub none_lent : (lent : Option (Bor Shelved)) (found : Option Shelved) → option_copied lent ≡ found
    → is_none lent ≡ true → found ≡ None
none_lent None found e none = sym e
none_lent (Some row) found e none = absurd (let bad : false ≡ true = none in cc)

-- and where one lent a game, the one at the place of its number goes
pub removed_at : (games : List Shelved) (n place : ℕ) (lent : Option (Bor Shelved)) → AreInOrder games
    → option_copied lent ≡ find (has_number n) games
    → is_none lent ≡ false → place ≡ length (filter (is_below n) games)
    → (place < length games) × (remove games place ≡ without_game n games)
removed_at games n place None rise found some at = absurd (let bad : true ≡ false = some in cc)
removed_at games n place (Some row) rise found some at =
    subst (λ (k : ℕ). (k < length games) × (remove games k ≡ without_game n games)) (sym at)
    (remove-place n 0 games row.now rise (sym found))
