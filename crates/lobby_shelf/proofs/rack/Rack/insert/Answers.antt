use Rattle.std.proofs.Common.{◌≡◌, ℕ, ◌+◌, ◌<◌, ◌≤◌, ◌++◌, ◌∷◌, true, false, cond, Result, Ok, Err, List, length, drop, map, sym, ap, subst, ◌∙◌, arith, rules}
use Rattle.std.specs.List.{filter, insert}
use Rattle.std.specs.Result.{IsOk, is_ok}
use Rattle.std.specs.Vec.{vec_len}
use Rattle.lobby_shelf.specs.declared.marks.PlayerMarks.{PlayerMarks}
use Rattle.lobby_shelf.specs.declared.shelved.Shelved.{Shelved}
use Rattle.lobby_shelf.specs.Numbers.{is_below, is_used, AreInOrder, with_game}
use Rattle.lobby_shelf.specs.Shelf.{most_stored}
use Rattle.std.proofs.lemmas.List.{length-map}
use Rattle.lobby_shelf.specs.Marks.{marks_of, marks_row}
use Rattle.lobby_shelf.proofs.Marked.{insert-map}
use Rattle.lobby_shelf.proofs.Rising.{RiseAbove-with, take-place, drop-place}
use Rattle.lobby_shelf.proofs.rack.Rack.insert.Goals as goal

-- a game put at the place of its number
at_place : (games : List Shelved) (new : Shelved) (place : ℕ) → AreInOrder games → is_used games new.number ≡ false
    → place ≡ length (filter (is_below new.number) games) → insert games place new ≡ with_game new games
at_place games new place rise unused is =
    ap (λ k. insert games k new) is
    ∙ ap (λ zs. zs ++ new ∷ drop (length (filter (is_below new.number) games)) games)
    (take-place new.number 0 games rise)
    ∙ ap (λ zs. filter (is_below new.number) games ++ new ∷ zs) (drop-place new.number 0 games unused rise)

went_in : {E X : Type 0} (r : Result (Unit {0}) E) (xs ys zs : List X) → IsOk r → zs ≡ cond (is_ok r) xs ys → zs ≡ xs
went_in (Ok v) xs ys zs ok is = is
went_in (Err e) xs ys zs ok is = let bad : false ≡ true = ok in cc

grown : {E : Type 0} (r : Result (Unit {0}) E) (n m : ℕ) → n < most_stored → m ≡ cond (is_ok r) (n + 1) n
    → m ≤ most_stored
grown (Ok v) n m short is = omega (arith, short, is)
grown (Err e) n m short is = omega (arith, short, is)

pub returns : goal.returns
returns c =
    let new : Shelved = record { number = c.args.number; game = c.args.game } in
    let len : length c.self.inside.games.items ≡ vec_len c.self.inside.games = search rules in
    let short : length c.self.inside.games.items < most_stored =
    subst (λ (l : List Shelved). length l < most_stored) (sym c.self.view_is) c.requires.room in
    let room = c.self.invariant.room in
    let ok = c.insert-room.ensures.succeeds (omega (arith, len, room, short)) in
    let unused = subst (λ (l : List Shelved). is_used l c.args.number ≡ false) (sym c.self.view_is) c.requires.unused in
    went_in c.insert-room.result _ _ _ ok c.insert-room.ensures.items
    ∙ at_place c.self.inside.games.items new c.place-place.result c.self.invariant.order unused
    (c.place-place.ensures.place
    ∙ ap (λ (l : List Shelved). length (filter (is_below c.args.number) l)) (sym c.self.view_is))
    ∙ ap (with_game new) c.self.view_is

pub invariant_of-self : goal.invariant_of-self
invariant_of-self c =
    let new : Shelved = record { number = c.args.number; game = c.args.game } in
    let len : length c.self.inside.games.items ≡ vec_len c.self.inside.games = search rules in
    let short : length c.self.inside.games.items < most_stored =
    subst (λ (l : List Shelved). length l < most_stored) (sym c.self.view_is) c.requires.room in
    let room = c.self.invariant.room in
    let more = c.insert-room.ensures.capacity in
    let unused = subst (λ (l : List Shelved). is_used l c.args.number ≡ false) (sym c.self.view_is) c.requires.unused in
    let positive : 0 < c.args.number = c.requires.positive in
    let fits = c.ranges.number.fits in
    let place = c.place-place.result in
    let marks_len : vec_len c.self.inside.marks ≡ length c.self.inside.marks.items = search rules in
    let marked =
    marks_len ∙ ap (λ (l : List PlayerMarks). length l) c.self.invariant.marks
    ∙ length-map c.self.inside.games.items marks_row in
    let beside = c.self.invariant.marks_room in
    let ok = c.insert-room.ensures.succeeds (omega (arith, len, room, short)) in
    let marks_ok = c.insert-room-2.ensures.succeeds (omega (arith, marked, beside, short)) in
    let put = went_in c.insert-room.result _ _ _ ok c.insert-room.ensures.items in
    let beside_more = c.insert-room-2.ensures.capacity in
    record {
      within =
          grown c.insert-room.result (vec_len c.self.inside.games) _ (omega (arith, len, short))
          c.insert-room.ensures.len;
      room = omega (arith, room, more);
      order = subst AreInOrder (sym (returns c ∙ ap (with_game new) (sym c.self.view_is)))
          (RiseAbove-with new 0 c.self.inside.games.items positive fits unused c.self.invariant.order);
      marks = went_in c.insert-room-2.result _ _ _ marks_ok c.insert-room-2.ensures.items
          ∙ ap (λ l. insert l place c.of-marks.result) c.self.invariant.marks
          ∙ ap (λ m. insert (map marks_row c.self.inside.games.items) place m)
          (c.of-marks.ensures ∙ ap marks_of c.as_slice.ensures)
          ∙ insert-map marks_row c.self.inside.games.items place new
          ∙ ap (map marks_row) (sym put);
      marks_within =
          grown c.insert-room-2.result (vec_len c.self.inside.marks) _ (omega (arith, marked, short))
          c.insert-room-2.ensures.len;
      marks_room = omega (arith, beside, beside_more);
    }
