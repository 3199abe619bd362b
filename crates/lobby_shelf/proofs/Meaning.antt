-- What the changes of a shelf mean: which games are found, which orders are left, and which requests stand.
use Rattle.std.proofs.Common.{◌≡◌, ℕ, zero, suc, ◌<◌, ◌≤◌, Bool, true, false, not, cond, List, [], ◌∷◌, ◌++◌, Option, None, Some, length, get_or, refl, sym, ap, subst, ◌∙◌, inl, inr, arith}
use Rattle.std.specs.Prelude.{◌==◌, ◌&&◌, ◌||◌, nat_le, nat_lt, All, Contains, IfNone, IfSome}
use Rattle.std.specs.List.{filter, find, list_any}
use Rattle.std.proofs.lemmas.Bool.{cases_lt, eqb-true, eq-eqb, ne_eqb, leb-true, ltb-true, le-leb, lt-leb, lt-ltb, le-ltb, or_right, not_from_true, not_from_false, and_parts}
use Rattle.std.proofs.lemmas.List.Elements.{All-nil, All-cons, All-weaker, filter_passes}
use Rattle.std.proofs.lemmas.List.Folds.{list_any-append}
use Rattle.lobby_shelf.specs.declared.order.Order.{Order}
use Rattle.lobby_shelf.specs.declared.request.Request.{Request}
use Rattle.lobby_shelf.specs.declared.shelved.Shelved.{Shelved}
use Rattle.lobby_shelf.specs.Facts.{IsShelf, OrdersRise}
use Rattle.lobby_shelf.specs.Laws.{FindsLeast, GamesAreFound, RequestsStand, SavedAreFirst}
use Rattle.lobby_shelf.specs.Numbers.{RiseAbove, row_game, has_number}
use Rattle.lobby_shelf.specs.Players.{IsLeastOf, is_of_both, least_of}
use Rattle.lobby_shelf.specs.Shelf.{ShelfState, asks, is_request, saved, with_request}
use Rattle.lobby_shelf.specs.Wanted.{told_up_to}
use Rattle.lobby_shelf.proofs.Finding.{find-with_new, find-with_other, find-without_other, find-without_this, unused-all}
use Rattle.lobby_shelf.proofs.Rising.{next_number-least, rises_at}
use Rattle.std.proofs.lemmas.Map.Views.{any-filter_same}

pub games-found : (shelf : ShelfState) → IsShelf shelf → GamesAreFound shelf
games-found shelf is = record {
  put = λ number game unused.
      ap row_game
      (find-with_new (has_number number) (record { number = number; game = game }) 0 shelf.games unused is.numbers
      (eq-eqb number number refl)
      (All-weaker (λ row. row.number ≡ number → ⊥) (λ row. has_number number row ≡ false)
      (λ row differs. ne_eqb row.number number differs)
      shelf.games (unused-all number shelf.games unused)));
  others_put = λ number other game unused differs.
      ap row_game (find-with_other (has_number other) (record { number = number; game = game }) 0 shelf.games
      unused is.numbers (ne_eqb number other (λ e. differs (sym e))));
  gone = λ number. ap row_game (find-without_this (has_number number) number shelf.games
      (λ k d h. λ differs. ne_eqb (get_or shelf.games k d).number number differs));
  others_gone = λ number other differs. ap row_game (find-without_other (has_number other) number shelf.games
      (λ k d h. λ same. ne_eqb (get_or shelf.games k d).number other (λ e. differs (sym e ∙ same))));
  number = next_number-least shelf.games is.numbers;
}

-- what a search finds passes, stands in the row, and is the first of all that pass
record IsFirst (p : Shelved → Bool) (games : List Shelved) (row : Shelved) : Type 0 where
  stored : Contains games row
  passes : p row ≡ true
  least : (another : Shelved) → Contains games another → p another ≡ true → row.number ≤ another.number

here : (p : Shelved → Bool) (low : ℕ) (row : Shelved) (games : List Shelved) → RiseAbove low (row ∷ games)
    → p row ≡ true → IsFirst p (row ∷ games) row
here p low row games rise passes = record {
  stored = (0, omega arith, refl);
  passes = passes;
  least = λ another there passing. at another there.0 there.1 there.2;
}
  where
    at : (another : Shelved) (k : ℕ) → k < length (row ∷ games) → get_or (row ∷ games) k another ≡ another
        → row.number ≤ another.number
    at another zero h e = let same = ap (λ (x : Shelved). x.number) e in omega (arith, same)
    at another (suc k) h e =
        let above = rises_at row.number games k another rise.2 (omega arith) in
        let same = ap (λ (x : Shelved). x.number) e in
        omega (arith, above, same)

later : (p : Shelved → Bool) (row found : Shelved) (games : List Shelved) → p row ≡ false → IsFirst p games found
    → IsFirst p (row ∷ games) found
later p row found games fails first = record {
  stored = (suc first.stored.0, omega (arith, first.stored.1), first.stored.2);
  passes = first.passes;
  least = λ another there passing. at another there.0 there.1 there.2 passing;
}
  where
    at : (another : Shelved) (k : ℕ) → k < length (row ∷ games) → get_or (row ∷ games) k another ≡ another
        → p another ≡ true → found.number ≤ another.number
    at another zero h e passing = let bad : false ≡ true = sym fails ∙ ap p e ∙ passing in cc
    at another (suc k) h e passing = first.least another (k, omega arith, e) passing

FindsFirst : (p : Shelved → Bool) (games : List Shelved) → Option Shelved → Type 0
FindsFirst p games None = All (λ row. p row ≡ false) games
FindsFirst p games (Some row) = IsFirst p games row

found_first : (p : Shelved → Bool) (low : ℕ) (games : List Shelved) → RiseAbove low games
    → FindsFirst p games (find p games)
unfolding FindsFirst
found_first p low [] rise = All-nil (λ row. p row ≡ false)
found_first p low (row ∷ games) rise =
    elim (p row) as (λ t. p row ≡ t → FindsFirst p (row ∷ games) (cond t (Some row) (find p games))) [
      | true ↦ λ passes. here p low row games rise passes
      | false ↦ λ fails. on (find p games) fails (found_first p row.number games rise.2)
    ] refl
  where
    on : (r : Option Shelved) → p row ≡ false → FindsFirst p games r → FindsFirst p (row ∷ games) r
    on None fails none = All-cons (λ z. p z ≡ false) row games fails none
    on (Some found) fails first = later p row found games fails first

pub least-found : (shelf : ShelfState) (one other : List ℕ) → IsShelf shelf → FindsLeast shelf one other
unfolding FindsFirst
least-found shelf one other is =
    let p : Shelved → Bool = is_of_both one other in
    of (find p shelf.games) (found_first p 0 shelf.games is.numbers) refl
  where
    of : (r : Option Shelved) → FindsFirst (is_of_both one other) shelf.games r → least_of shelf.games one other ≡ r
        → FindsLeast shelf one other
    of None none e = record {
      found = subst (λ r. IfSome r (IsLeastOf shelf.games one other)) (sym e) tt;
      none = subst (λ r. IfNone r (All (λ row. is_of_both one other row ≡ false) shelf.games)) (sym e) none;
    }
    of (Some row) first e = record {
      found = subst (λ r. IfSome r (IsLeastOf shelf.games one other)) (sym e)
          (record { stored = first.stored; both = first.passes; least = first.least });
      none = subst (λ r. IfNone r (All (λ row. is_of_both one other row ≡ false) shelf.games)) (sym e) tt;
    }

-- orders above a number are all kept, and none of them is told
none_told : (upto low made : ℕ) (orders : List Order) → upto ≤ low → OrdersRise low made orders
    → (filter (λ order. nat_le order.number upto) orders ≡ [])
    × (filter (λ order. nat_lt upto order.number) orders ≡ orders)
none_told upto low made [] h rise = (refl, refl)
none_told upto low made (order ∷ orders) h rise =
    let above = rise.0 in
    let rest = none_told upto order.number made orders (omega (arith, above, h)) rise.1 in
    let told = filter (λ (order : Order). nat_le order.number upto) orders in
    let left = filter (λ (order : Order). nat_lt upto order.number) orders in (
      ap (λ t. cond t (order ∷ told) told) (lt-leb order.number upto (omega (arith, above, h))) ∙ rest.0,
      ap (λ t. cond t (order ∷ left) left) (lt-ltb upto order.number (omega (arith, above, h)))
          ∙ ap (λ zs. order ∷ zs) rest.1,
    )

told_first : (upto low made : ℕ) (orders : List Order) → OrdersRise low made orders
    → orders ≡ filter (λ order. nat_le order.number upto) orders ++ filter (λ order. nat_lt upto order.number) orders
told_first upto low made [] rise = refl
told_first upto low made (order ∷ orders) rise =
    let told = filter (λ (order : Order). nat_le order.number upto) orders in
    let left = filter (λ (order : Order). nat_lt upto order.number) orders in
    elim (cases_lt upto order.number) [
      | inl h ↦
          let none = none_told upto upto made (order ∷ orders) (omega arith) (h, rise.1) in
          sym (ap (λ zs. zs ++ filter (λ (order : Order). nat_lt upto order.number) (order ∷ orders)) none.0 ∙ none.1)
      | inr h ↦
          let stays : filter (λ (order : Order). nat_le order.number upto) (order ∷ orders) ≡ order ∷ told =
          ap (λ t. cond t (order ∷ told) told) (le-leb order.number upto h) in
          let goes : filter (λ (order : Order). nat_lt upto order.number) (order ∷ orders) ≡ left =
          ap (λ t. cond t (order ∷ left) left) (le-ltb upto order.number h) in
          sym (ap (λ zs. zs ++ filter (λ (order : Order). nat_lt upto order.number) (order ∷ orders)) stays
          ∙ ap (λ zs. order ∷ told ++ zs) goes
          ∙ ap (λ zs. order ∷ zs) (sym (told_first upto order.number made orders rise.1)))
    ]

pub saved-first : (shelf : ShelfState) → IsShelf shelf → SavedAreFirst shelf
saved-first shelf is = record {
  first = λ upto. told_first upto 0 shelf.made shelf.orders is.orders;
  told = λ upto. All-weaker (λ (order : Order). nat_le order.number upto ≡ true) (λ order. order.number ≤ upto)
      (λ order h. leb-true order.number upto h) (told_up_to shelf upto)
      (filter_passes (λ order. nat_le order.number upto) shelf.orders);
  later = λ upto. All-weaker (λ (order : Order). nat_lt upto order.number ≡ true) (λ order. upto < order.number)
      (λ order h. ltb-true upto order.number h) (saved shelf upto).orders
      (filter_passes (λ order. nat_lt upto order.number) shelf.orders);
}

or_none : (a b : Bool) → b ≡ false → a || b ≡ a
or_none true b h = refl
or_none false b h = h

is_request-itself : (by game : ℕ) → is_request by game (record { by = by; game = game }) ≡ true
is_request-itself by game = ap (λ t. t && (game == game)) (eq-eqb by by refl) ∙ eq-eqb game game refl

is_request-other : (by game other number : ℕ) → (other ≡ by → number ≡ game → ⊥)
    → is_request other number (record { by = by; game = game }) ≡ false
is_request-other by game other number differs =
    elim (by == other) as (λ t. (by == other) ≡ t → t && (game == number) ≡ false) [
      | true ↦ λ same. ne_eqb game number (λ e. differs (sym (eqb-true by other same)) (sym e))
      | false ↦ λ _. refl
    ] refl

pub requests-stand : (shelf : ShelfState) → RequestsStand shelf
requests-stand shelf = record {
  put = λ by game.
      let new : Request = record { by = by; game = game } in
      elim (asks shelf by game)
      as (λ t. asks shelf by game ≡ t → list_any (is_request by game) (with_request t shelf.requests new) ≡ true) [
        | true ↦ λ there. there
        | false ↦ λ _. list_any-append (is_request by game) shelf.requests (new ∷ [])
            ∙ or_right (list_any (is_request by game) shelf.requests) (list_any (is_request by game) (new ∷ []))
            (ap (λ t. t || false) (is_request-itself by game))
      ] refl;
  others_put = λ by game other number differs.
      let new : Request = record { by = by; game = game } in
      elim (asks shelf by game)
      as (λ t. list_any (is_request other number) (with_request t shelf.requests new) ≡ asks shelf other number) [
        | true ↦ refl
        | false ↦ list_any-append (is_request other number) shelf.requests (new ∷ [])
            ∙ or_none (list_any (is_request other number) shelf.requests)
            (list_any (is_request other number) (new ∷ []))
            (ap (λ t. t || false) (is_request-other by game other number differs))
      ];
  off = λ by number. any-filter_same (is_request by number) (λ request. not (request.game == number)) false
      (λ request h. not_from_true (request.game == number) (and_parts (request.by == by) (request.game == number) h).1)
      shelf.requests;
  others_off = λ by number other differs.
      any-filter_same (is_request by other) (λ request. not (request.game == number)) true
      (λ request h. not_from_false (request.game == number)
      (ne_eqb request.game number
      (λ e.
      differs (sym (eqb-true request.game other (and_parts (request.by == by) (request.game == other) h).1) ∙ e))))
      shelf.requests;
  gone = λ by game. any-filter_same (is_request by game) (λ request. not (request.by == by)) false
      (λ request h. not_from_true (request.by == by) (and_parts (request.by == by) (request.game == game) h).0)
      shelf.requests;
  others_gone = λ by other game differs.
      any-filter_same (is_request other game) (λ request. not (request.by == by)) true
      (λ request h. not_from_false (request.by == by)
      (ne_eqb request.by by
      (λ e.
      differs (sym (eqb-true request.by other (and_parts (request.by == other) (request.game == game) h).0) ∙ e))))
      shelf.requests;
}
