use Rattle.std.proofs.Common.{◌≡◌, Bool, true, false, cond, List, [], ◌∷◌, Option, None, Some, Bor, sym, ap, subst, ◌∙◌}
use Rattle.std.specs.Prelude.{All, IfSome, option_copied}
use Rattle.std.specs.List.{find}
use Rattle.std.proofs.lemmas.List.Elements.{All-head, All-tail}
use Rattle.game_records.specs.Replays.{Replays}
use Rattle.lobby_shelf.specs.declared.shelved.Shelved.{Shelved}
use Rattle.std.specs.Map.Iter.{TakesFirst}
use Rattle.lobby_shelf.specs.Players.{is_of_both, least_of}
use Rattle.lobby_shelf.specs.Shelf.{ShelfState}
use Rattle.lobby_shelf.proofs.Marked.{All-few, first-found}
use Rattle.lobby_shelf.proofs.game_shelf.GameShelf.least_of.Goals as goal

-- what was found in a row has what each game has
found_has : (P : Shelved → Type 0) (p : Shelved → Bool) (games : List Shelved) (row : Shelved) → All P games
    → find p games ≡ Some row → P row
found_has P p [] row all e = cc
found_has P p (first ∷ games) row all e =
    elim (p first) as (λ b. cond b (Some first) (find p games) ≡ Some row → P row) [
      | true ↦ λ here. (let same : first ≡ row = cc in subst P same (All-head P first games all))
      | false ↦ λ later. found_has P p games row (All-tail P first games all) later
    ] e

lent_has : (P : Shelved → Type 0) (p : Shelved → Bool) (games : List Shelved) (r : Option (Bor Shelved)) → All P games
    → option_copied r ≡ find p games
    → IfSome r (λ row. P row.now)
lent_has P p games None all e = tt
lent_has P p games (Some row) all e = found_has P p games row.now all (sym e)

pub all-requires : goal.all-requires
all-requires c = All-few c.self.inside.games c.self.invariant.replay

pub returns-clause-row : goal.returns-clause-row
returns-clause-row c =
    first-found (is_of_both c.args.one c.args.other) c.self.inside.games c.next.new.self c.next.result
    (subst (λ (l : List Shelved). TakesFirst (λ (row : Bor Shelved). row.now) l c.next.result c.next.new.self)
    c.all.ensures c.next.ensures.steps)
    ∙ ap (λ (s : ShelfState). least_of s.games c.args.one c.args.other) c.self.view_is

pub returns-clause-replays : goal.returns-clause-replays
returns-clause-replays c =
    let all =
    subst (λ (s : ShelfState). All (λ row. Replays row.game) s.games) c.self.view_is c.self.invariant.replay in
    lent_has (λ row. Replays row.game) (is_of_both c.args.one c.args.other) c.args.self.now.games c.next.result all
    (returns-clause-row c)
