-- What is kept of a sound game replays.
use Rattle.std.proofs.Common.{◌≡◌, ◌≢◌, false, ℕ, ◌*◌, List, [], ◌∷◌, map, length, refl, ap, subst, ◌∙◌}
use Rattle.std.proofs.lemmas.List.{length-map}
use Rattle.std.proofs.lemmas.Slice.Eq.{bytes_eq-Decides}
use Rattle.std.specs.Prelude.{bytes_eq}
use Rattle.std.specs.List.{AllByRecursion, IsDistinct}
use Rattle.chess_model.specs.declared.variant.Terms.{Terms}
use Rattle.chess_model.specs.declared.variant.Variant.{Variant}
use Rattle.chess_model.specs.declared.variant.Variant.TheVariants.{Chess, Crazyhouse, Bughouse, Fischer}
use Rattle.fics_words.specs.Handle.{key_of}
use Rattle.fics_words.specs.declared.player.Player.{Player}
use Rattle.fics_words.specs.Seats.{seat_list}
use Rattle.game_records.specs.declared.stored_game.Half.{Half}
use Rattle.game_records.specs.Bounds.{seats}
use Rattle.game_records.specs.Replays.{AreFour, CanBePlayed, MayCome, Replays}
use Rattle.desk_boards.specs.Boards.{board_numbers}
use Rattle.desk_boards.specs.Halves.{halves_of}
use Rattle.linked_desk.specs.Desk.{GameState}
use Rattle.linked_desk.specs.Seating.{AllDiffer, NoneIs, uncoloured}
use Rattle.linked_desk.specs.Shelve.{names_seated, stored_of}
use Rattle.linked_desk.specs.Sound.{IsSoundGame}
use Rattle.desk_boards.proofs.SoundHalves.{bounds_of}
use Rattle.std.proofs.lemmas.Bool.{false_from_ne_true}

as_many : (v : Variant) → 2 * length (board_numbers v) ≡ seats v
as_many Chess = refl
as_many Crazyhouse = refl
as_many (Fischer number) = refl
as_many Bughouse = refl

-- no two names are the same
differ : (x y : List ℕ) → x ≢ y → bytes_eq x y ≡ false
differ x y e = false_from_ne_true (bytes_eq x y) (λ same. e ((bytes_eq-Decides x y).0 same))

apart : (x : List ℕ) (ys : List (List ℕ)) → NoneIs x ys → AllByRecursion (λ y. bytes_eq x y ≡ false) ys
apart x [] h = tt
apart x (y ∷ ys) h = (differ x y h.0, apart x ys h.1)

distinct : (xs : List (List ℕ)) → AllDiffer xs → IsDistinct bytes_eq xs
unfolding IsDistinct
distinct [] h = tt
distinct (x ∷ xs) h = (apart x xs h.0, distinct xs h.1)

pub four : (v : Variant) (names : List (List ℕ)) → AllDiffer (map key_of names) → AreFour v names
four Chess names h = tt
four Crazyhouse names h = tt
four (Fischer number) names h = tt
four Bughouse names h = distinct (map key_of names) h

pub keys_in : (players : List Player)
    → map (λ (p : Player). key_of p.name) players ≡ map key_of (map (λ (p : Player). p.name) players)
keys_in [] = refl
keys_in (p ∷ players) = ap (λ xs. key_of p.name ∷ xs) (keys_in players)

-- a colour that somebody asked for has no part in what may be played
without_colour : (t : Terms) (halves : List Half) → CanBePlayed t halves → CanBePlayed (uncoloured t) halves
without_colour t halves played = record {
  each = λ before after h e.
      let may : MayCome t before h = played.each before after h e in
      record {
        follows =
            record {
              going = may.follows.going;
              room = may.follows.room;
              allowed = may.follows.allowed;
              charged = may.follows.charged;
            };
        other = may.other;
      };
}

pub shelved_replays : (g : GameState) → IsSoundGame g → Replays (stored_of g)
shelved_replays g s = record {
  spelled = record {
    terms = s.seated.fit;
    players = length-map (seat_list g.seats) (λ (p : Player). p.name) ∙ s.seated.pairs ∙ as_many g.terms.variant;
    halves = bounds_of g.terms g.boards s.boards;
  };
  players = four g.terms.variant (names_seated g.seats) (subst AllDiffer (keys_in (seat_list g.seats)) s.seated.names);
  played = without_colour g.terms (halves_of g.boards) s.boards.played;
}
