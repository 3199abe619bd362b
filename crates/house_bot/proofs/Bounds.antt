-- No value is as great as the bounds between which values are looked for.
use Rattle.std.proofs.Common.{arith, ◌≡◌, ◌≢◌, ℕ, ℤ, zero, suc, pos, neg_ℤ, ◌+◌, ◌*◌, ◌≤◌, ◌-ℤ◌, ◌≤ℤ◌, Bool, true, false, cond, List, [], ◌∷◌, ◌++◌, map, fold, length, Option, Some, None, refl, ◌∙◌}
use Rattle.std.specs.Prelude.{unwrap_or}
use Rattle.std.specs.Int.{int_max}
use Rattle.std.specs.List.{filter}
use Rattle.std.proofs.lemmas.Int.{ints, clamps}
use Rattle.std.proofs.lemmas.List.Sums.{sum_by-cons}
use Rattle.chess_model.specs.declared.man.Colour.{Colour}
use Rattle.chess_model.specs.declared.man.Colour.TheVariants.{White, Black}
use Rattle.chess_model.specs.declared.man.Kind.{Kind}
use Rattle.chess_model.specs.declared.man.Kind.TheVariants.{Pawn, Knight, Bishop, Rook, Queen, King}
use Rattle.chess_model.specs.declared.man.Man.{Man}
use Rattle.chess_model.specs.declared.moves.Move.{Move}
use Rattle.chess_model.specs.declared.hand.Hand.{Hand}
use Rattle.chess_model.specs.declared.states.State.{State}
use Rattle.chess_model.specs.declared.states.State.TheVariants.{Safe, Check, Mate, Stalemate}
use Rattle.chess_model.specs.declared.variant.Variant.{Variant}
use Rattle.chess_model.specs.declared.variant.Variant.TheVariants.{Crazyhouse, Bughouse}
use Rattle.chess_model.specs.Men.{same_colour}
use Rattle.chess_model.specs.Placement.{Placement, opposite}
use Rattle.chess_model.specs.Material.{worth_of, square_worth, material_of}
use Rattle.chess_model.specs.Census.{men_on, men_in, all_men}
use Rattle.chess_model.specs.Position.{Position, hand_of_side}
use Rattle.chess_model.specs.Allowed.{Allowed}
use Rattle.chess_model.specs.Next.{next}
use Rattle.chess_model.specs.Tests.{is_allowed}
use Rattle.chess_model.specs.AllMoves.{board_moves, drop_moves, allowed_moves}
use Rattle.chess_model.specs.Result.{result}
use Rattle.chess_model.proofs.NoMoreMen.{one_if, all_men-next, length-place_after}
use Rattle.chess_model.proofs.TestsDecide.{Decides-allowed}
use Rattle.house_bot.specs.Value.{hand_material, material, balance, greatest, end_value, value, move_value}

-- far within the widest window
pub record IsWithin (z : ℤ) : Type 0 where
  pub least : neg_ℤ (pos 150000) ≤ℤ z
  pub most : z ≤ℤ pos 150000

-- a position of two sets in which no man comes from elsewhere
pub record IsTwoSets (p : Position) : Type 0 where
  pub variant : p.variant ≢ Bughouse
  pub squares : length p.men ≡ 64
  pub men : all_men p ≤ 32

IsTwoSets-next : (p : Position) (m : Move) → IsTwoSets p → Allowed p m → IsTwoSets (next p m)
IsTwoSets-next p m h allowed = record {
  variant = h.variant;
  squares = length-place_after p.variant p.men p.to_move m ∙ h.squares;
  men = let less = all_men-next p m h.squares allowed in omega (arith, less, h.men);
}

worth_of-le : (same : Bool) (k : Kind) → cond same (worth_of k) 0 ≤ 9
worth_of-le true Pawn = omega arith
worth_of-le true Knight = omega arith
worth_of-le true Bishop = omega arith
worth_of-le true Rook = omega arith
worth_of-le true Queen = omega arith
worth_of-le true King = omega arith
worth_of-le false k = omega arith

square_worth-le : (c : Colour) (man : Option Man) → square_worth c man ≤ 9 * one_if man
square_worth-le c None = omega arith
square_worth-le c (Some m) = let most = worth_of-le (same_colour m.colour c) m.kind in omega (arith, most)

material_of-le : (c : Colour) (P : Placement) → material_of c P ≤ 9 * men_on P
material_of-le c [] = omega arith
material_of-le c (man ∷ P) =
    let here = square_worth-le c man in
    let rest = material_of-le c P in
    omega (arith, here, rest, sum_by-cons (square_worth c) man P, sum_by-cons one_if man P)

hand_material-le : (v : Variant) (h : Hand) → hand_material v h ≤ 9 * men_in h
hand_material-le Crazyhouse h = omega arith
hand_material-le _ h = omega arith

hand_of_side-le : (p : Position) (c : Colour) → men_in (hand_of_side p c) ≤ men_in p.white + men_in p.black
hand_of_side-le p White = omega arith
hand_of_side-le p Black = omega arith

material-le : (p : Position) (c : Colour) → all_men p ≤ 32 → material p c ≤ 288
material-le p c h =
    let board = material_of-le c p.men in
    let hand = hand_material-le p.variant (hand_of_side p c) in
    let side = hand_of_side-le p c in
    omega (arith, h, board, hand, side)

difference_within : (a b : ℕ) → a ≤ 288 → b ≤ 288 → IsWithin (pos a -ℤ pos b)
difference_within a b ha hb = record { least = omega (arith, ints); most = omega (arith, ints) }

balance_within : (p : Position) → all_men p ≤ 32 → IsWithin (balance p)
balance_within p h =
    difference_within (material p p.to_move) (material p (opposite p.to_move)) (material-le p p.to_move h)
    (material-le p (opposite p.to_move) h)

neg_within : (z : ℤ) → IsWithin z → IsWithin (neg_ℤ z)
neg_within z h = record { least = omega (arith, ints, h.most); most = omega (arith, ints, h.least) }

max_within : (a b : ℤ) → IsWithin a → IsWithin b → IsWithin (int_max a b)
max_within a b h k =
    record { least = omega (arith, ints, clamps, h.least); most = omega (arith, ints, clamps, h.most, k.most) }

-- the greatest of a bound and of what those are worth that pass a test
fold_kept : (f : Move → ℤ) (t : Move → Bool) (a : ℤ) (x : Move) (xs : List Move) (b : Bool) → t x ≡ b →
    ((m : Move) → t m ≡ true → IsWithin (f m)) → IsWithin a →
    ((c : ℤ) → IsWithin c → IsWithin (fold int_max c (map f (filter t xs)))) →
    IsWithin (fold int_max a (map f (cond b (x ∷ filter t xs) (filter t xs))))
fold_kept f t a x xs true is each h rest = rest (int_max a (f x)) (max_within a (f x) h (each x is))
fold_kept f t a x xs false is each h rest = rest a h

fold_within : (f : Move → ℤ) (t : Move → Bool) (a : ℤ) (xs : List Move) → ((m : Move) → t m ≡ true → IsWithin (f m))
    → IsWithin a →
    IsWithin (fold int_max a (map f (filter t xs)))
fold_within f t a [] each h = h
fold_within f t a (x ∷ xs) each h = fold_kept f t a x xs (t x) refl each h (λ c k. fold_within f t c xs each k)

greatest_kept : (f : Move → ℤ) (t : Move → Bool) (x : Move) (xs : List Move) (b : Bool) → t x ≡ b →
    ((m : Move) → t m ≡ true → IsWithin (f m)) → IsWithin (greatest (map f (filter t xs))) →
    IsWithin (greatest (map f (cond b (x ∷ filter t xs) (filter t xs))))
greatest_kept f t x xs true is each rest = fold_within f t (f x) xs each (each x is)
greatest_kept f t x xs false is each rest = rest

greatest_within : (f : Move → ℤ) (t : Move → Bool) (xs : List Move) → ((m : Move) → t m ≡ true → IsWithin (f m)) →
    IsWithin (greatest (map f (filter t xs)))
greatest_within f t [] each = record { least = omega (arith, ints); most = omega (arith, ints) }
greatest_within f t (x ∷ xs) each = greatest_kept f t x xs (t x) refl each (greatest_within f t xs each)

end_within : (s : State) (d : ℕ) (z : ℤ) → d ≤ 255 → IsWithin z → IsWithin (unwrap_or (end_value s d) z)
end_within Mate d z h k = mate_within d h
  where
    mate_within : (n : ℕ) → n ≤ 255 → IsWithin (neg_ℤ (pos (100000 + n)))
    mate_within n less = record { least = omega (arith, ints); most = omega (arith, ints) }
end_within Stalemate d z h k = record { least = omega (arith, ints); most = omega (arith, ints) }
end_within Check d z h k = k
end_within Safe d z h k = k

pub value_within : (d : ℕ) (p : Position) → d ≤ 255 → IsTwoSets p → IsWithin (value d p)
unfolding value allowed_moves
value_within zero p small h = end_within (result p) zero (balance p) small (balance_within p h.men)
value_within (suc d) p small h =
    end_within (result p) (suc d) (greatest (map (move_value d p) (allowed_moves p))) small
    (greatest_within (move_value d p) (is_allowed p) (board_moves ++ drop_moves) (λ m ok.
    neg_within (value d (next p m))
    (value_within d (next p m) (omega (arith, small)) (IsTwoSets-next p m h ((Decides-allowed p m).0 ok)))))

-- what an allowed move is worth is within too
pub move_within : (d : ℕ) (p : Position) (m : Move) → d ≤ 255 → IsTwoSets p → Allowed p m → IsWithin (move_value d p m)
move_within d p m small h allowed =
    neg_within (value d (next p m)) (value_within d (next p m) small (IsTwoSets-next p m h allowed))
