-- Half-moves that can be laid one after another: first ones of them, one more, and those of a stored game.
use Rattle.std.proofs.Common.{◌≡◌, ℕ, List, [], ◌∷◌, ◌++◌, take, drop, suc, inl, inr, sym, subst, arith}
use Rattle.std.specs.List.{AllByRecursion}
use Rattle.std.proofs.lemmas.List.{take-take, take-append-le, take_at}
use Rattle.std.proofs.lemmas.Option.{slice_get_within}
use Rattle.chess_model.specs.declared.variant.Terms.{Terms}
use Rattle.game_board.proofs.LastPlayed.{at_or_last}
use Rattle.game_records.specs.declared.stored_game.Half.{Half}
use Rattle.game_records.specs.Bounds.{IsHalf}
use Rattle.game_records.specs.Replays.{CanBePlayed}
use Rattle.examine_board.specs.Laid.{CanBeLaid, MayLie}
use Rattle.examine_board.proofs.Boards.{made_is}
use Rattle.examine_board.proofs.Lists.{around, at_place, slice_get-take}

-- the first of them
pub CanBeLaid-take : (t : Terms) (halves : List Half) (k : ℕ) → CanBeLaid t halves → CanBeLaid t (take k halves)
CanBeLaid-take t halves k laid = record {
  each = λ point h e.
      let there = slice_get-take k halves point h e in
      subst (λ (before : List Half). MayLie t before h) (sym (take-take point k halves (omega (arith, there.0))))
      (laid.each point h there.1);
}

-- one more
pub CanBeLaid-more : (t : Terms) (halves : List Half) (h : Half) → CanBeLaid t halves → MayLie t halves h
    → CanBeLaid t (halves ++ h ∷ [])
CanBeLaid-more t halves h laid lies = record {
  each = λ point g e.
      elim (at_or_last halves h g point e) [
        | inl there ↦
            let low = slice_get_within halves point g there in
            subst (λ (before : List Half). MayLie t before g)
            (sym (take-append-le point halves (h ∷ []) (omega (arith, low)))) (laid.each point g there)
        | inr last ↦
            let all : halves ≡ take point (halves ++ h ∷ []) = sym (take_at halves (h ∷ []) point (sym last.0)) in
            subst (λ (before : List Half). MayLie t before g) all (subst (MayLie t halves) last.1 lies)
      ];
}

-- those that can be played
pub CanBeLaid-played : (t : Terms) (halves : List Half) → AllByRecursion (IsHalf t.variant) halves
    → CanBePlayed t halves → CanBeLaid t halves
CanBeLaid-played t halves halves_are played = record {
  each = λ point h e.
      let comes = played.each (take point halves) (drop (suc point) halves) h (around point halves h e) in
      let half = at_place (IsHalf t.variant) halves point h halves_are e in
      record {
        first = half.first;
        last = half.last;
        allowed = comes.follows.allowed;
        room =
            let seen = made_is h.board (take point halves) in let few = comes.follows.room in omega (arith, seen, few);
        charge = half.charge;
      };
}
