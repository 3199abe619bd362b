use Rattle.std.proofs.Common.{◌≡◌, ◌≤◌, ℕ, not, List, length, map, sym, ap, subst, ◌∙◌, arith, rules}
use Rattle.std.specs.List.{filter, find, remove}
use Rattle.std.specs.Vec.{vec_len}
use Rattle.lobby_shelf.specs.declared.marks.PlayerMarks.{PlayerMarks}
use Rattle.lobby_shelf.specs.declared.shelved.Shelved.{Shelved}
use Rattle.lobby_shelf.specs.Numbers.{AreInOrder, has_number, is_below, without_game}
use Rattle.lobby_shelf.specs.Shelf.{most_stored}
use Rattle.std.proofs.lemmas.List.{length-map}
use Rattle.lobby_shelf.specs.Marks.{marks_row}
use Rattle.lobby_shelf.proofs.Marked.{remove-map}
use Rattle.lobby_shelf.proofs.Finding.{none_lent, removed_at}
use Rattle.lobby_shelf.proofs.Rising.{RiseAbove-filter}
use Rattle.collections.proofs.Rising.{all-left}
use Rattle.lobby_shelf.proofs.rack.Rack.remove.Goals as goal

pub returns-then-is_none : goal.returns-then-is_none
returns-then-is_none c =
    sym (all-left (has_number c.args.number) c.args.self.now
    (none_lent c.get.result _ c.get.ensures (ap not (c.is_none.ensures ∙ ap not c.if-is_none.true))))

pub remove-requires : goal.remove-requires
remove-requires c =
    let games = c.self.inside.games.items in
    let n = c.args.number in
    let len : length games ≡ vec_len c.self.inside.games = search rules in
    let at : c.place-place.result ≡ length (filter (is_below n) games) =
    c.place-place.ensures.place ∙ ap (λ (l : List Shelved). length (filter (is_below n) l)) (sym c.self.view_is) in
    let found = c.get.ensures ∙ ap (find (has_number n)) (sym c.self.view_is) in
    let within =
    (removed_at games n c.place-place.result c.get.result c.self.invariant.order found
    (ap not (c.is_none.ensures ∙ ap not c.if-is_none.false)) at).0 in
    omega (arith, len, within)

pub remove-requires-2 : goal.remove-requires-2
remove-requires-2 c =
    let games = c.self.inside.games.items in
    let n = c.args.number in
    let marks_len : vec_len c.self.inside.marks ≡ length c.self.inside.marks.items = search rules in
    let marked =
    marks_len ∙ ap (λ (l : List PlayerMarks). length l) c.self.invariant.marks ∙ length-map games marks_row in
    let at : c.place-place.result ≡ length (filter (is_below n) games) =
    c.place-place.ensures.place ∙ ap (λ (l : List Shelved). length (filter (is_below n) l)) (sym c.self.view_is) in
    let found = c.get.ensures ∙ ap (find (has_number n)) (sym c.self.view_is) in
    let within =
    (removed_at games n c.place-place.result c.get.result c.self.invariant.order found
    (ap not (c.is_none.ensures ∙ ap not c.if-is_none.false)) at).0 in
    omega (arith, marked, within)

pub returns : goal.returns
returns c =
    let games = c.self.inside.games.items in
    let n = c.args.number in
    let at : c.place-place.result ≡ length (filter (is_below n) games) =
    c.place-place.ensures.place ∙ ap (λ (l : List Shelved). length (filter (is_below n) l)) (sym c.self.view_is) in
    let found = c.get.ensures ∙ ap (find (has_number n)) (sym c.self.view_is) in
    c.remove.ensures.items
    ∙ (removed_at games n c.place-place.result c.get.result c.self.invariant.order found
    (ap not (c.is_none.ensures ∙ ap not c.if-is_none.false)) at).1
    ∙ ap (without_game n) c.self.view_is

pub invariant_of-self : goal.invariant_of-self
invariant_of-self c =
    let games = c.self.inside.games.items in
    let n = c.args.number in
    let at : c.place-place.result ≡ length (filter (is_below n) games) =
    c.place-place.ensures.place ∙ ap (λ (l : List Shelved). length (filter (is_below n) l)) (sym c.self.view_is) in
    let found = c.get.ensures ∙ ap (find (has_number n)) (sym c.self.view_is) in
    let gone = c.remove.ensures.items
    ∙ (removed_at games n c.place-place.result c.get.result c.self.invariant.order found
    (ap not (c.is_none.ensures ∙ ap not c.if-is_none.false)) at).1 in
    let shorter = c.remove.ensures.len in
    let within = c.self.invariant.within in
    let fewer = c.remove-2.ensures.len in
    let marks_within = c.self.invariant.marks_within in
    record {
      within = omega (arith, shorter, within);
      room = subst (λ (n : ℕ). most_stored ≤ n) (sym c.remove.ensures.capacity) c.self.invariant.room;
      order =
          subst AreInOrder (sym gone) (RiseAbove-filter (λ row. not (has_number n row)) 0 games c.self.invariant.order);
      marks = c.remove-2.ensures.items
          ∙ ap (λ l. remove l c.place-place.result) c.self.invariant.marks
          ∙ remove-map marks_row games c.place-place.result
          ∙ ap (map marks_row) (sym c.remove.ensures.items);
      marks_within = omega (arith, fewer, marks_within);
      marks_room = subst (λ (n : ℕ). most_stored ≤ n) (sym c.remove-2.ensures.capacity) c.self.invariant.marks_room;
    }
