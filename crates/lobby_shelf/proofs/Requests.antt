-- Requests of which none stands twice: some go, and one comes; and whether the games that they are for are there.
use Rattle.std.proofs.Common.{◌≡◌, ℕ, Bool, true, false, not, cond, List, [], ◌∷◌, ◌++◌, refl, sym, ap, subst, ◌∙◌, inl, inr}
use Rattle.std.specs.Prelude.{◌==◌, ◌&&◌, ◌||◌}
use Rattle.std.specs.List.{filter, list_any}
use Rattle.std.proofs.lemmas.Bool.{eqb-true, ne_eqb, or_from, or_parts}
use Rattle.std.proofs.lemmas.List.Folds.{list_any-append}
use Rattle.lobby_shelf.specs.declared.request.Request.{Request}
use Rattle.lobby_shelf.specs.declared.shelved.Shelved.{Shelved}
use Rattle.lobby_shelf.specs.Facts.{AreOnce}
use Rattle.lobby_shelf.specs.Numbers.{RiseAbove, has_number, is_used, with_game, without_game}
use Rattle.lobby_shelf.specs.Shelf.{is_request}
use Rattle.lobby_shelf.proofs.Rising.{with_game-behind, with_game-before, unused_on, before_or_behind}
pub use Rattle.collections.proofs.Numbers.{turned}
use Rattle.collections.proofs.Tests.{list_any-filter}

is_request-turned : (one other : Request) → is_request one.by one.game other ≡ is_request other.by other.game one
is_request-turned one other =
    ap (λ (t : Bool). t && (other.game == one.game)) (turned other.by one.by)
    ∙ ap (λ (t : Bool). (one.by == other.by) && t) (turned other.game one.game)

kept : (t : Bool) (x : Request) (rest : List Request) → list_any (is_request x.by x.game) rest ≡ false → AreOnce rest
    → AreOnce (cond t (x ∷ rest) rest)
kept true x rest none more = (none, more)
kept false x rest none more = more

pub AreOnce-filter : (p : Request → Bool) (xs : List Request) → AreOnce xs → AreOnce (filter p xs)
AreOnce-filter p [] once = tt
AreOnce-filter p (x ∷ xs) once =
    kept (p x) x (filter p xs) (list_any-filter (is_request x.by x.game) p xs once.0) (AreOnce-filter p xs once.1)

pub AreOnce-push : (xs : List Request) (new : Request) → list_any (is_request new.by new.game) xs ≡ false → AreOnce xs
    → AreOnce (xs ++ new ∷ [])
AreOnce-push [] new none once = (refl, tt)
AreOnce-push (x ∷ xs) new none once =
    let both = or_parts (is_request new.by new.game x) (list_any (is_request new.by new.game) xs) none in
    let apart : is_request x.by x.game new ≡ false = is_request-turned x new ∙ both.0 in (
      list_any-append (is_request x.by x.game) xs (new ∷ [])
          ∙ or_from (list_any (is_request x.by x.game) xs) (list_any (is_request x.by x.game) (new ∷ [])) once.0
          (or_from (is_request x.by x.game new) false apart refl),
      AreOnce-push xs new both.1 once.1,
    )

-- a game that is there is still there when another one comes
used_later : (row : Shelved) (games more : List Shelved) (n : ℕ) → (is_used games n ≡ true → is_used more n ≡ true)
    → is_used (row ∷ games) n ≡ true → is_used (row ∷ more) n ≡ true
used_later row games more n step there =
    elim (row.number == n) as (λ t. t || is_used games n ≡ true → t || is_used more n ≡ true) [
      | true ↦ λ _. refl
      | false ↦ λ h. step h
    ] there

used_behind : (new : Shelved) (games : List Shelved) (n : ℕ) → is_used games n ≡ true → is_used (new ∷ games) n ≡ true
used_behind new games n there =
    elim (new.number == n) as (λ t. t || is_used games n ≡ true) [ true ↦ refl | false ↦ there ]

pub is_used-with : (new : Shelved) (low : ℕ) (games : List Shelved) (n : ℕ) → is_used games new.number ≡ false
    → RiseAbove low games
    → is_used games n ≡ true → is_used (with_game new games) n ≡ true
is_used-with new low [] n unused rise there = let bad : false ≡ true = there in cc
is_used-with new low (row ∷ games) n unused rise there =
    elim (before_or_behind row games new.number unused) [
      | inl h ↦ subst (λ zs. is_used zs n ≡ true) (sym (with_game-behind new row games h))
          (used_later row games (with_game new games) n
          (λ k. is_used-with new row.number games n (unused_on row games new.number unused) rise.2 k) there)
      | inr h ↦ subst (λ zs. is_used zs n ≡ true) (sym (with_game-before new row games (h, rise.1, rise.2)))
          (used_behind new (row ∷ games) n there)
    ]

-- and when another one goes
used_kept : (row : Shelved) (games more : List Shelved) (number n : ℕ) → (n ≡ number → ⊥)
    → (is_used games n ≡ true → is_used more n ≡ true)
    → is_used (row ∷ games) n ≡ true → is_used (cond (not (has_number number row)) (row ∷ more) more) n ≡ true
used_kept row games more number n other step there =
    elim (row.number == number)
    as (λ t. (row.number == number) ≡ t → is_used (cond (not t) (row ∷ more) more) n ≡ true) [
      | true ↦ λ same.
          let differ : (row.number == n) ≡ false =
          ne_eqb row.number n (λ e. other (sym e ∙ eqb-true row.number number same)) in
          step (sym (ap (λ (t : Bool). t || is_used games n) differ) ∙ there)
      | false ↦ λ _. used_later row games more n step there
    ] refl

pub is_used-without : (number : ℕ) (games : List Shelved) (n : ℕ) → (n ≡ number → ⊥) → is_used games n ≡ true
    → is_used (without_game number games) n ≡ true
is_used-without number [] n other there = there
is_used-without number (row ∷ games) n other there =
    used_kept row games (without_game number games) number n other (λ k. is_used-without number games n other k) there
