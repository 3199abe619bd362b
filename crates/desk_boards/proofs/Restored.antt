-- The boards of a game that is resumed are those with which it was left.
use Rattle.std.proofs.Common.{◌≡◌, ℕ, suc, List, [], ◌∷◌, map, length, Option, Some, None, refl, sym, ap, ◌∙◌}
use Rattle.std.specs.Prelude.{IfSome, slice_get}
use Rattle.std.specs.List.{AllByRecursion}
use Rattle.chess_model.specs.declared.variant.Terms.{Terms}
use Rattle.game_board.specs.Board.{Board}
use Rattle.game_records.specs.declared.stored_game.Half.{Half}
use Rattle.game_records.specs.Bounds.{IsHalf}
use Rattle.game_records.specs.Replays.{without_charges}
use Rattle.desk_boards.specs.Halves.{halves_of, list_on}
use Rattle.desk_boards.specs.Laws.{AreOf, IsFreshlyPut}
use Rattle.desk_boards.specs.Replaying.{replayed, resumed_at}
use Rattle.desk_boards.specs.Sound.{AreSoundBoards}
use Rattle.desk_boards.proofs.BoardLists.{All-at}
use Rattle.desk_boards.proofs.Pairs.{number_at}
use Rattle.desk_boards.proofs.Replayed.{replayed_at, replayed_exactly, replayed_fresh, some_is}
use Rattle.desk_boards.proofs.SoundHalves.{all_of, each_of}
use Rattle.std.proofs.lemmas.Option.{same_Some}

pub replayed_boards : (t : Terms) (halves : List Half) (moment : ℕ) → AllByRecursion (IsHalf t.variant) halves
    → IfSome (replayed t halves moment) (AreOf t halves moment)
replayed_boards t halves moment each = found (replayed t halves moment) refl
  where
    found : (o : Option (List Board)) → replayed t halves moment ≡ o → IfSome o (AreOf t halves moment)
    found None e = tt
    found (Some boards) e =
        let at = replayed_at t halves moment boards each e in
        record { sound = at.sound; made = at.made; fresh = replayed_fresh t halves moment boards each e }

-- lists that are as long, where each item of one is what the function makes of that of the other
pointwise : (change : Board → Board) (new old : List Board)
    → map (λ (b : Board). b.number) new ≡ map (λ (b : Board). b.number) old →
    ((k : ℕ) (c b : Board) → slice_get new k ≡ Some c → slice_get old k ≡ Some b → c ≡ change b) → new ≡ map change old
pointwise change [] [] e h = refl
pointwise change [] (b ∷ old) e h = absurd cc
pointwise change (c ∷ new) [] e h = absurd cc
pointwise change (c ∷ new) (b ∷ old) e h =
    let first : c ≡ change b = h 0 c b refl refl in
    let rest : new ≡ map change old = pointwise change new old (cc) (λ k x y f g. h (suc k) x y f g) in
    λ i. first i ∷ rest i

same_at : (t : Terms) (moment : ℕ) (new old : List Board) → AreOf t (halves_of old) moment new → AreSoundBoards t old
    → (k : ℕ) (c b : Board) →
    slice_get new k ≡ Some c → slice_get old k ≡ Some b → c ≡ resumed_at moment b
same_at t moment new old of s k c b here there =
    let numbers : c.number ≡ b.number =
    same_Some c.number b.number
    (sym (number_at t.variant new k c of.sound.numbers here) ∙ number_at t.variant old k b s.numbers there) in
    let terms : c.terms ≡ b.terms =
    All-at (λ (x : Board). x.terms ≡ t) new k c of.sound.terms here
    ∙ sym (All-at (λ (x : Board). x.terms ≡ t) old k b s.terms there) in
    let list : c.list ≡ b.list =
    sym (All-at (λ (x : Board). list_on x.number (halves_of new) ≡ x.list) new k c (each_of t new of.sound) here)
    ∙ (λ i. list_on (numbers i) (of.made i))
    ∙ All-at (λ (x : Board). list_on x.number (halves_of old) ≡ x.list) old k b (each_of t old s) there in
    let all : c.all ≡ b.all =
    sym (All-at (λ (x : Board). without_charges (halves_of new) ≡ x.all) new k c (all_of t new of.sound) here)
    ∙ ap without_charges of.made
    ∙ All-at (λ (x : Board). without_charges (halves_of old) ≡ x.all) old k b (all_of t old s) there in
    let fresh = All-at (IsFreshlyPut moment) new k c of.fresh here in
    let played : c.played ≡ length b.list = fresh.played ∙ ap length list in
    let resumed : c.resumed ≡ length b.list = fresh.resumed ∙ ap length list in
    λ i. record {
      number = numbers i;
      terms = terms i;
      list = list i;
      begin = fresh.begin i;
      kept = fresh.kept i;
      played = played i;
      resumed = resumed i;
      all = all i;
    }

pub restored_is : (t : Terms) (boards : List Board) (moment : ℕ) → AreSoundBoards t boards
    → replayed t (halves_of boards) moment ≡ Some (map (resumed_at moment) boards)
restored_is t boards moment s =
    let found =
    some_is (replayed t (halves_of boards) moment)
    ((replayed_exactly t (halves_of boards) moment s.halves).1 s.played) in
    let at = replayed_at t (halves_of boards) moment found.0 s.halves found.1 in
    let of : AreOf t (halves_of boards) moment found.0 =
    record {
      sound = at.sound;
      made = at.made;
      fresh = replayed_fresh t (halves_of boards) moment found.0 s.halves found.1;
    } in
    found.1
    ∙ ap Some
    (pointwise (resumed_at moment) found.0 boards (at.sound.numbers ∙ sym s.numbers)
    (same_at t moment found.0 boards of s))

pub ruleset boards_replayed = (replayed_exactly, replayed_boards, restored_is)
