-- What a plan of a game asks of its desk: players who are apart, and as many as the variant has.
use Rattle.std.proofs.Common.{◌≡◌, ◌≢◌, ℕ, ◌<◌, ◌*◌, suc, List, [], ◌∷◌, length, map, slice_index_or, refl, arith, Option, None, Some}
use Rattle.std.specs.List.{AllPairs}
use Rattle.chess_model.specs.declared.variant.Terms.{Terms}
use Rattle.chess_model.specs.declared.variant.Variant.{Variant}
use Rattle.chess_model.specs.declared.variant.Variant.TheVariants.{Chess, Crazyhouse, Bughouse, Fischer}
use Rattle.fics_words.specs.declared.seats.Opponents.{Opponents}
use Rattle.fics_words.specs.declared.seats.Seats.{Seats}
use Rattle.fics_words.specs.Handle.{key_of}
use Rattle.fics_words.specs.Seats.{seat_list}
use Rattle.desk_boards.specs.Boards.{board_numbers}
use Rattle.linked_desk.specs.Seating.{AllDiffer, MayPlay, NoneIs}
use Rattle.lobby_state.specs.Planned.{ArePlayersApart, FitsVariant}
use Rattle.lobby_state.specs.Terms.{AreTerms}

none_is : {X Y : Type 0} (f : X → Y) (x : X) (xs : List X)
    → ((j : ℕ) (d : X) → j < length xs → f x ≢ f (slice_index_or xs j d)) → NoneIs (f x) (map f xs)
none_is f x [] h = tt
none_is f x (y ∷ ys) h = (h 0 y (omega arith), none_is f x ys (λ j d l. h (suc j) d (omega (arith, l))))

-- items of which no two have the same mark have marks that all differ
pub all_differ : {X Y : Type 0} (f : X → Y) (xs : List X) → AllPairs (λ one another. f one ≢ f another) xs
    → AllDiffer (map f xs)
all_differ f [] h = tt
all_differ f (x ∷ xs) h = (
  none_is f x xs (λ j d l. h 0 (suc j) d (omega arith) (omega (arith, l))),
  all_differ f xs (λ i j d before l. h (suc i) (suc j) d (omega (arith, before)) (omega (arith, l))),
)

-- two players sit at each board of the variant
pub pairs_for : (variant : Variant) (first : Opponents) (second : Option Opponents)
    → FitsVariant variant (record { first = first; second = second })
    → length (seat_list (record { first = first; second = second })) ≡ 2 * length (board_numbers variant)
pairs_for Chess first None fits = refl
pairs_for Chess first (Some more) fits = cc
pairs_for Crazyhouse first None fits = refl
pairs_for Crazyhouse first (Some more) fits = cc
pairs_for (Fischer number) first None fits = refl
pairs_for (Fischer number) first (Some more) fits = cc
pairs_for Bughouse first None fits = cc
pairs_for Bughouse first (Some more) fits = refl

-- these players may play on these terms
pub may_play : (terms : Terms) (seats : Seats) → AreTerms terms → ArePlayersApart seats
    → FitsVariant terms.variant seats
    → MayPlay terms seats
may_play terms seats bounded apart fits = record {
  pairs = pairs_for terms.variant seats.first seats.second fits;
  names = all_differ (λ p. key_of p.name) (seat_list seats) apart.handles;
  fit = record { minutes = bounded.minutes; increment = bounded.increment; array = bounded.numbered; colour = refl };
}
