-- What the definition of a value gives in each case, and that a game that has ended has no moves.
use Rattle.std.proofs.Common.{arith, ◌≡◌, ◌≢◌, ℕ, ℤ, zero, suc, ◌<◌, Bool, true, false, cond, List, [], ◌∷◌, ◌++◌, map, Some, None, refl, sym, ap, ◌∙◌, inl, inr, length}
use Rattle.std.specs.Prelude.{unwrap_or}
use Rattle.std.specs.Bool.{Decides}
use Rattle.std.specs.List.{filter, find}
use Rattle.std.specs.Ordering.{int_eq}
use Rattle.chess_model.specs.declared.moves.Move.{Move}
use Rattle.chess_model.specs.declared.states.State.{State}
use Rattle.chess_model.specs.declared.states.State.TheVariants.{Safe, Check, Mate, Stalemate}
use Rattle.chess_model.specs.declared.variant.Variant.{Variant}
use Rattle.chess_model.specs.declared.variant.Variant.TheVariants.{Bughouse}
use Rattle.chess_model.specs.Position.{Position}
use Rattle.chess_model.specs.Allowed.{Allowed}
use Rattle.chess_model.specs.Tests.{is_allowed}
use Rattle.chess_model.specs.AllMoves.{board_moves, drop_moves, allowed_moves}
use Rattle.chess_model.specs.Result.{result, is_end, HasAnswer, IsState}
use Rattle.chess_model.proofs.Among.{Among}
use Rattle.chess_model.proofs.MovesListed.{Among-allowed}
use Rattle.chess_model.proofs.StatesTold.{state_told}
use Rattle.chess_model.proofs.TestsDecide.{Decides-allowed}
use Rattle.house_bot.specs.Value.{balance, greatest, end_value, value, move_value, best_move}
use Rattle.house_bot.specs.Searching.{SearchGoesOn}

-- the value where the game has ended
pub value-ended : (d : ℕ) (p : Position) (worth : ℤ) → Some worth ≡ end_value (result p) d → worth ≡ value d p
unfolding value
value-ended zero p worth e = ap (λ o. unwrap_or o (balance p)) e
value-ended (suc d) p worth e = ap (λ o. unwrap_or o (greatest (map (move_value d p) (allowed_moves p)))) e

-- and where no half-move is left to look at
pub value-zero : (p : Position) → None ≡ end_value (result p) 0 → balance p ≡ value 0 p
unfolding value
value-zero p e = ap (λ o. unwrap_or o (balance p)) e

value-suc : (e : ℕ) (p : Position) → None ≡ end_value (result p) (suc e)
    → value (suc e) p ≡ greatest (map (move_value e p) (allowed_moves p))
unfolding value
value-suc e p none = sym (ap (λ o. unwrap_or o (greatest (map (move_value e p) (allowed_moves p)))) none)

going : (s : State) (d : ℕ) → None ≡ end_value s d → is_end s ≡ false
going Mate d e = absurd (let never : None ≡ end_value Mate d = e in cc)
going Stalemate d e = absurd (let never : None ≡ end_value Stalemate d = e in cc)
going Check d e = refl
going Safe d e = refl

pub goes_on : (d : ℕ) (p : Position) → 0 < d → None ≡ end_value (result p) d → SearchGoesOn d p
goes_on d p left none = record {
  left = left;
  goes = going (result p) d none;
  best = λ e same.
      ap (λ n. value n p) (sym same) ∙ value-suc e p (none ∙ ap (end_value (result p)) (sym same));
}

pub ended : (s : State) (d : ℕ) (worth : ℤ) → Some worth ≡ end_value s d → is_end s ≡ true
ended Mate d worth e = refl
ended Stalemate d worth e = refl
ended Check d worth e = absurd (let no : Some worth ≡ None = e in cc)
ended Safe d worth e = absurd (let no : Some worth ≡ None = e in cc)

none_passes : {A : Type 0} (t : A → Bool) (xs : List A) → ((x : A) → t x ≡ false) → filter t xs ≡ []
none_passes t [] h = refl
none_passes t (x ∷ xs) h = ap (λ b. cond b (x ∷ filter t xs) (filter t xs)) (h x) ∙ none_passes t xs h

refused : (b : Bool) (P : Type 0) → Decides b P → ¬ P → b ≡ false
refused true P d never = absurd (never (d.0 refl))
refused false P d never = refl

no_answer : (v : Variant) (p : Position) → v ≢ Bughouse → ¬ HasAnswer v p → (m : Move) → ¬ Allowed p m
no_answer Bughouse p other none m allowed = absurd (other refl)
no_answer _ p other none m allowed = none (m, allowed)

no_moves : (p : Position) → p.variant ≢ Bughouse → ¬ HasAnswer p.variant p → allowed_moves p ≡ []
unfolding allowed_moves
no_moves p other none =
    none_passes (is_allowed p) (board_moves ++ drop_moves)
    (λ m. refused (is_allowed p m) (Allowed p m) (Decides-allowed p m) (no_answer p.variant p other none m))

stuck : (p : Position) (s : State) → p.variant ≢ Bughouse → IsState p s → is_end s ≡ true → allowed_moves p ≡ []
stuck p Mate other h e = no_moves p other h.1
stuck p Stalemate other h e = no_moves p other h.1
stuck p Check other h e = absurd (let no : false ≡ true = e in cc)
stuck p Safe other h e = absurd (let no : false ≡ true = e in cc)

-- a game that has ended, but in bughouse, has no moves
pub ended_has_no_moves : (p : Position) → p.variant ≢ Bughouse → is_end (result p) ≡ true → allowed_moves p ≡ []
ended_has_no_moves p other e = stuck p (result p) other (state_told p) e

answered : (p : Position) (s : State) → p.variant ≢ Bughouse → IsState p s → is_end s ≡ false → HasAnswer p.variant p
answered p Mate other h e = absurd (let never : true ≡ false = e in cc)
answered p Stalemate other h e = absurd (let never : true ≡ false = e in cc)
answered p Check other h e = h.1
answered p Safe other h e = elim h.1 [ inl answer ↦ answer | inr waits ↦ absurd (other waits) ]

some_move : (v : Variant) (p : Position) → v ≢ Bughouse → HasAnswer v p → (m : Move) × Allowed p m
some_move Bughouse p other h = absurd (other refl)
some_move _ p other h = h

some_among : (m : Move) (ms : List Move) → Among m ms → 0 < length ms
some_among m [] a = absurd a
some_among m (x ∷ ms) a = omega arith

-- and one that goes on has some
pub has_moves : (p : Position) → p.variant ≢ Bughouse → is_end (result p) ≡ false → 0 < length (allowed_moves p)
has_moves p other e =
    let t = some_move p.variant p other (answered p (result p) other (state_told p) e) in
    some_among t.0 (allowed_moves p) (Among-allowed p t.0 t.1)

-- with no half-move to look at, or with no allowed one, there is no best move
pub best_move-zero : (p : Position) → best_move 0 p ≡ None
unfolding best_move
best_move-zero p = refl

pub best_move-none : (d : ℕ) (p : Position) → allowed_moves p ≡ [] → best_move d p ≡ None
unfolding best_move
best_move-none zero p e = refl
best_move-none (suc d) p e = ap (find (λ m. int_eq (move_value d p m) (value (suc d) p))) e

pub best_move-suc : (d e : ℕ) (p : Position) → suc e ≡ d
    → best_move d p ≡ find (λ m. int_eq (move_value e p m) (value d p)) (allowed_moves p)
unfolding best_move
best_move-suc zero e p same = absurd (omega (arith, same))
best_move-suc (suc d) e p same =
    let equal : d ≡ e = omega (arith, same) in
    ap (λ n. find (λ m. int_eq (move_value n p m) (value (suc d) p)) (allowed_moves p)) equal
