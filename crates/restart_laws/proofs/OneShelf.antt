-- Two lists of games in the order of their numbers that have the same game under each number are one.
use Rattle.std.proofs.Common.{◌≡◌, ℕ, ◌^◌, ◌<◌, ◌≤◌, ◌⊎◌, inl, inr, cond, List, [], ◌∷◌, Option, None, Some, refl, sym, ap, subst, ◌∙◌, arith}
use Rattle.std.specs.List.{find}
use Rattle.std.proofs.lemmas.Bool.{eq-eqb, ne_eqb}
use Rattle.game_records.specs.declared.stored_game.StoredGame.{StoredGame}
use Rattle.lobby_shelf.specs.Numbers.{RiseAbove, row_game, has_number, stored_game}
use Rattle.lobby_shelf.specs.declared.shelved.Shelved.{Shelved}

-- a game that is found first, and one that is no other's
here : (row : Shelved) (games : List Shelved) (number : ℕ) → row.number ≡ number
    → stored_game (row ∷ games) number ≡ Some row.game
here row games number same =
    ap (λ t. row_game (cond t (Some row) (find (has_number number) games))) (eq-eqb row.number number same)

there : (row : Shelved) (games : List Shelved) (number : ℕ) → (row.number ≡ number → ⊥)
    → stored_game (row ∷ games) number ≡ stored_game games number
there row games number other =
    ap (λ t. row_game (cond t (Some row) (find (has_number number) games))) (ne_eqb row.number number other)

-- none has a number that lies below them all
none_below : (low : ℕ) (games : List Shelved) (number : ℕ) → RiseAbove low games → number ≤ low
    → stored_game games number ≡ None
none_below low [] number rise below = refl
none_below low (row ∷ games) number rise below =
    let less = rise.0 in
    there row games number (λ same. omega (arith, same, less, below))
    ∙ none_below row.number games number rise.2 (omega (arith, less, below))

abbrev HaveSame : List Shelved → List Shelved → Type 0
HaveSame games rows = (number : ℕ) → number < 2 ^ 64 → stored_game games number ≡ stored_game rows number

-- the first of a list is missing where all of the other have greater numbers
missing : (row : Shelved) (games : List Shelved) (found : Option StoredGame)
    → stored_game (row ∷ games) row.number ≡ found → found ≡ None → ⊥
missing row games found is none = let bad = sym (here row games row.number refl) ∙ is ∙ none in absurd cc

order : (m n : ℕ) → (m < n) ⊎ ((m ≡ n) ⊎ (n < m))
order m n = grind arith

abbrev row_of : ℕ → StoredGame → Shelved
row_of number game = record { number = number; game = game }

same_row : (one other : Shelved) → one.number ≡ other.number → one.game ≡ other.game → one ≡ other
same_row one other number game = ap (λ (n : ℕ). row_of n one.game) number ∙ ap (row_of other.number) game

same_rest : (one other : Shelved) (games rows : List Shelved) → one.number ≡ other.number → RiseAbove one.number games
    → RiseAbove other.number rows
    → HaveSame (one ∷ games) (other ∷ rows) → HaveSame games rows
same_rest one other games rows same rise rise_too h number fits =
    elim (order one.number number) [
      | inl above ↦
          sym (there one games number (λ e. omega (arith, e, above))) ∙ h number fits
          ∙ there other rows number (λ e. omega (arith, e, above, same))
      | inr rest ↦
          none_below one.number games number rise (not_above rest)
          ∙ sym (none_below other.number rows number rise_too (subst (λ (n : ℕ). number ≤ n) same (not_above rest)))
    ]
  where
    not_above : (one.number ≡ number) ⊎ (number < one.number) → number ≤ one.number
    not_above (inl e) = omega (arith, e)
    not_above (inr less) = omega (arith, less)

pub same_games : (low : ℕ) (games rows : List Shelved) → RiseAbove low games → RiseAbove low rows → HaveSame games rows
    → games ≡ rows
same_games low [] [] rise rise_too h = refl
same_games low [] (row ∷ rows) rise rise_too h =
    absurd (missing row rows (stored_game [] row.number) (sym (h row.number rise_too.1)) refl)
same_games low (row ∷ games) [] rise rise_too h =
    absurd (missing row games (stored_game [] row.number) (h row.number rise.1) refl)
same_games low (one ∷ games) (other ∷ rows) rise rise_too h =
    elim (order one.number other.number) [
      | inl less ↦
          absurd (missing one games (stored_game (other ∷ rows) one.number) (h one.number rise.1)
          (not_there one other rows less rise_too.2))
      | inr (inr less) ↦
          absurd (missing other rows (stored_game (one ∷ games) other.number) (sym (h other.number rise_too.1))
          (not_there other one games less rise.2))
      | inr (inl same) ↦
          let game : Some one.game ≡ Some other.game =
          sym (here one games one.number refl) ∙ h one.number rise.1 ∙ here other rows one.number (sym same) in
          let first : one ≡ other = same_row one other same (let e : one.game ≡ other.game = cc in e) in
          let rest : games ≡ rows =
          same_games one.number games rows rise.2 (subst (λ (n : ℕ). RiseAbove n rows) (sym same) rise_too.2)
          (same_rest one other games rows same rise.2 rise_too.2 h) in
          ap (λ (r : Shelved). r ∷ games) first ∙ ap (λ (l : List Shelved). other ∷ l) rest
    ]
  where
    not_there : (one other : Shelved) (rows : List Shelved) → one.number < other.number → RiseAbove other.number rows
        → stored_game (other ∷ rows) one.number ≡ None
    not_there one other rows less rise =
        there other rows one.number (λ e. omega (arith, e, less))
        ∙ none_below other.number rows one.number rise (omega (arith, less))
