-- The state that computes is the one that the words of the rules give.
use Rattle.std.proofs.Common.{◌≡◌, ℕ, ◌⊎◌, inl, inr, [], ◌∷◌, map, Bool, true, false, ◌||◌, not, is_none, None, slice_set, refl, sym, ◌∙◌}
use Rattle.std.specs.Bool.{Decides}
use Rattle.std.specs.List.{list_any, flat_map}
use Rattle.std.proofs.lemmas.Bool.{or_left, or_right}
use Rattle.std.proofs.lemmas.Bool.Decides.{Decides-and, Decides-or, Decides-like, not_from_Decides}
use Rattle.chess_model.specs.declared.man.Kind.TheVariants.{Knight}
use Rattle.chess_model.specs.declared.moves.Move.{Move}
use Rattle.chess_model.specs.declared.moves.Move.TheVariants.{Plain, Castle, Drop}
use Rattle.chess_model.specs.declared.variant.Variant.{Variant}
use Rattle.chess_model.specs.declared.variant.Variant.TheVariants.{Chess, Crazyhouse, Bughouse, Fischer}
use Rattle.chess_model.specs.Placement.{man_at, unpromoted}
use Rattle.chess_model.specs.Attacked.{IsKingSafe}
use Rattle.chess_model.specs.Position.{Position}
use Rattle.chess_model.specs.Allowed.{Allowed}
use Rattle.chess_model.specs.Tests as test
use Rattle.chess_model.specs.AllMoves.{board_moves, drop_moves, moves_from, promotions}
use Rattle.chess_model.specs.Result.{can_move, can_drop_any, shields, has_answer, state_of, result, IsOnBoard, Shields, HasAnswer, IsState}
use Rattle.chess_model.specs.Laws.{StatesAreTold}
use Rattle.chess_model.proofs.TestsDecide.{Decides-none, Decides-king_safe, Decides-allowed}
use Rattle.chess_model.proofs.Among.{Among, list_any-some, list_any-from, Among-appended, Among-flat_mapped, Among-mapped, Decides-some_below}
use Rattle.chess_model.proofs.MovesListed.{on_board, from_hand}

-- what is listed as a plain move or castling is one
is_on_board : (m : Move) → Among m board_moves → IsOnBoard m
unfolding board_moves
is_on_board (Plain a b promo) h = tt
is_on_board (Castle long) h = tt
is_on_board (Drop k to) h =
    elim (Among-appended (flat_map moves_from test.squares) (Castle false ∷ Castle true ∷ []) (Drop k to) h) [
      | inl plain ↦
          let t = Among-flat_mapped moves_from test.squares (Drop k to) plain in
          let u = Among-flat_mapped (λ b. map (Plain t.0 b) promotions) test.squares (Drop k to) t.2 in
          let w = Among-mapped (Plain t.0 u.0) promotions (Drop k to) u.2 in
          absurd (let e : Drop k to ≡ Plain t.0 u.0 w.0 = w.2 in cc)
      | inr castling ↦ elim castling [
        | inl e ↦ absurd (let f : Drop k to ≡ Castle false = e in cc)
        | inr rest ↦ elim rest [ inl e ↦ absurd (let f : Drop k to ≡ Castle true = e in cc) | inr e ↦ absurd e ]
      ]
    ]

Decides-can_move : (p : Position) → Decides (can_move p) ((m : Move) × IsOnBoard m × Allowed p m)
Decides-can_move p = (
  λ e.
      let t = list_any-some (test.is_allowed p) board_moves e in
      (t.0, is_on_board t.0 t.1, (Decides-allowed p t.0).0 t.2),
  λ t. list_any-from (test.is_allowed p) board_moves t.0 (on_board p t.0 t.1 t.2.move) ((Decides-allowed p t.0).1 t.2),
)

-- some half-move of either sort is allowed
any_move : (p : Position) → Decides (can_move p || can_drop_any p) ((m : Move) × Allowed p m)
any_move p = (
  λ e. elim (either (can_move p) (can_drop_any p) e) [
    | inl h ↦ let t = (Decides-can_move p).0 h in (t.0, t.2)
    | inr h ↦ let t = list_any-some (test.is_allowed p) drop_moves h in (t.0, (Decides-allowed p t.0).0 t.2)
  ],
  λ t. found t.0 t.1,
)
  where
    either : (x y : Bool) → (x || y) ≡ true → (x ≡ true) ⊎ (y ≡ true)
    either true y h = inl refl
    either false y h = inr h

    found : (m : Move) → Allowed p m → (can_move p || can_drop_any p) ≡ true
    found (Plain a b promo) h = or_left (can_move p) (can_drop_any p) ((Decides-can_move p).1 (Plain a b promo, tt, h))
    found (Castle long) h = or_left (can_move p) (can_drop_any p) ((Decides-can_move p).1 (Castle long, tt, h))
    found (Drop k to) h =
        or_right (can_move p) (can_drop_any p)
        (list_any-from (test.is_allowed p) drop_moves (Drop k to) (from_hand p k to h.move)
        ((Decides-allowed p (Drop k to)).1 h))

Decides-shields : (p : Position) (s : ℕ) →
    Decides (shields p s)
    ((man_at p.men s ≡ None) × IsKingSafe (slice_set p.men s (unpromoted p.to_move Knight)) p.to_move)
Decides-shields p s =
    let shielded = slice_set p.men s (unpromoted p.to_move Knight) in
    Decides-and (is_none (man_at p.men s)) (test.is_king_safe shielded p.to_move)
    (Decides-none (man_at p.men s)) (Decides-king_safe shielded p.to_move)

any_shield : (p : Position) → Decides (list_any (shields p) test.squares) ((s : ℕ) × Shields p s)
any_shield p =
    Decides-like (list_any (shields p) test.squares)
    (λ t. (t.0, record { square = t.1; free = t.2.0; shielded = t.2.1 }))
    (λ t. (t.0, t.1.square, (t.1.free, t.1.shielded)))
    (Decides-some_below (shields p)
    (λ s. (man_at p.men s ≡ None) × IsKingSafe (slice_set p.men s (unpromoted p.to_move Knight)) p.to_move)
    (Decides-shields p) 64)

Decides-answer : (v : Variant) (p : Position) → Decides (has_answer v p) (HasAnswer v p)
Decides-answer Chess p = any_move p
Decides-answer (Fischer number) p = any_move p
Decides-answer Crazyhouse p = any_move p
Decides-answer Bughouse p =
    Decides-or (can_move p) (list_any (shields p) test.squares) (Decides-can_move p) (any_shield p)

-- the state by the variant, for the facts that the two tests decide
pub state_is_told : (v : Variant) (p : Position) → p.variant ≡ v → (safe answered : Bool)
    → Decides safe (IsKingSafe p.men p.to_move) →
    Decides answered (HasAnswer p.variant p) → IsState p (state_of v (not safe) answered)
state_is_told v p e true true s a = (s.0 refl, inl (a.0 refl))
state_is_told v p e false true s a = (not_from_Decides false s refl, a.0 refl)
state_is_told v p e false false s a = (not_from_Decides false s refl, not_from_Decides false a refl)
state_is_told Chess p e true false s a = (s.0 refl, not_from_Decides false a refl, λ f. let g = sym e ∙ f in cc)
state_is_told (Fischer number) p e true false s a =
    (s.0 refl, not_from_Decides false a refl, λ f. let g = sym e ∙ f in cc)
state_is_told Crazyhouse p e true false s a = (s.0 refl, not_from_Decides false a refl, λ f. let g = sym e ∙ f in cc)
state_is_told Bughouse p e true false s a = (s.0 refl, inr e)

pub state_told : StatesAreTold
unfolding result
state_told p =
    state_is_told p.variant p refl (test.is_king_safe p.men p.to_move) (has_answer p.variant p)
    (Decides-king_safe p.men p.to_move) (Decides-answer p.variant p)
