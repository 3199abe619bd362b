-- The whole list of allowed half-moves from its parts.
use Rattle.std.proofs.Common.{◌≡◌, ℕ, List, [], ◌∷◌, ◌++◌, map, true, false, refl, sym, ap, ◌∙◌, append_assoc}
use Rattle.std.specs.List.{filter, flat_map, range_with_len}
use Rattle.std.proofs.lemmas.List.{append-nil}
use Rattle.std.proofs.lemmas.List.Concat.{flat_map_single}
use Rattle.std.proofs.lemmas.List.Elements.{filter-append}
use Rattle.chess_model.specs.declared.man.Kind.{Kind}
use Rattle.chess_model.specs.declared.man.Kind.TheVariants.{Pawn, Knight, Bishop, Rook, Queen}
use Rattle.chess_model.specs.declared.moves.Move.{Move}
use Rattle.chess_model.specs.declared.moves.Move.TheVariants.{Castle, Drop}
use Rattle.chess_model.specs.Position.{Position}
use Rattle.chess_model.specs.Allowed.{HasDrops, IsMove}
use Rattle.chess_model.specs.Tests.{squares, is_allowed}
use Rattle.chess_model.specs.AllMoves.{moves_from, dropped_kinds, board_moves, drop_moves, allowed_moves}
use Rattle.variant_rules.specs.Listing.{plain_moves_below, drops_below, drops_listed, if_allowed}
use Rattle.variant_rules.proofs.PartLemmas.{if_allowed-none, drops-start}

-- the drops below n, kind by kind

on-is : (p : Position) (k : Kind) (n : ℕ)
    → filter (is_allowed p) (map (Drop k) (range_with_len 0 n)) ≡ drops_below p k n
unfolding drops_below
on-is p k n = ap (filter (is_allowed p)) (sym (flat_map_single (Drop k) (range_with_len 0 n)))

drops-to : (p : Position) (n : ℕ) →
    filter (is_allowed p) (flat_map (λ k. map (Drop k) (range_with_len 0 n)) dropped_kinds) ≡
    drops_below p Pawn n
    ++ (drops_below p Knight n ++ (drops_below p Bishop n ++ (drops_below p Rook n ++ drops_below p Queen n)))
drops-to p n =
    let f = is_allowed p in
    let d : Kind → List Move = λ k. map (Drop k) (range_with_len 0 n) in
    filter-append f (d Pawn) (d Knight ++ (d Bishop ++ (d Rook ++ (d Queen ++ []))))
    ∙ (λ i. on-is p Pawn n i ++ filter-append f (d Knight) (d Bishop ++ (d Rook ++ (d Queen ++ []))) i)
    ∙ ap (λ x. drops_below p Pawn n ++ x) (
    (λ i. on-is p Knight n i ++ filter-append f (d Bishop) (d Rook ++ (d Queen ++ [])) i)
    ∙ ap (λ x. drops_below p Knight n ++ x) (
    (λ i. on-is p Bishop n i ++ filter-append f (d Rook) (d Queen ++ []) i)
    ∙ ap (λ x. drops_below p Bishop n ++ x)
    (λ i. on-is p Rook n i ++ (ap (filter f) (append-nil (d Queen)) ∙ on-is p Queen n) i)
    )
    )

all_drops : ℕ → List Move
all_drops n = flat_map (λ k. map (Drop k) (range_with_len 0 n)) dropped_kinds

all-is : drop_moves ≡ all_drops 64
unfolding drop_moves all_drops
all-is = refl

drops-all : (p : Position) (n : ℕ) →
    filter (is_allowed p) (all_drops n) ≡
    drops_below p Pawn n
    ++ (drops_below p Knight n ++ (drops_below p Bishop n ++ (drops_below p Rook n ++ drops_below p Queen n)))
unfolding all_drops
drops-all p n = drops-to p n

listed-is : (p : Position) →
    drops_below p Pawn 64
    ++ (drops_below p Knight 64 ++ (drops_below p Bishop 64 ++ (drops_below p Rook 64 ++ drops_below p Queen 64))) ≡
    drops_listed p
unfolding drops_listed
listed-is p = refl

drops-whole : (p : Position) → filter (is_allowed p) drop_moves ≡ drops_listed p
drops-whole p = ap (filter (is_allowed p)) all-is ∙ drops-all p 64 ∙ listed-is p

castles : (p : Position)
    → filter (is_allowed p) (Castle false ∷ Castle true ∷ [])
    ≡ if_allowed p (Castle false) ++ if_allowed p (Castle true)
unfolding if_allowed
castles p = filter-append (is_allowed p) (Castle false ∷ []) (Castle true ∷ [])

board-whole : (p : Position) →
    filter (is_allowed p) board_moves
    ≡ plain_moves_below p 64 ++ (if_allowed p (Castle false) ++ if_allowed p (Castle true))
unfolding board_moves plain_moves_below
board-whole p =
    filter-append (is_allowed p) (flat_map moves_from squares) (Castle false ∷ Castle true ∷ [])
    ∙ ap (λ x. filter (is_allowed p) (flat_map moves_from squares) ++ x) (castles p)

pub whole_list : (p : Position) →
    ((plain_moves_below p 64 ++ if_allowed p (Castle false)) ++ if_allowed p (Castle true)) ++ drops_listed p
    ≡ allowed_moves p
unfolding allowed_moves
whole_list p =
    sym (filter-append (is_allowed p) board_moves drop_moves
    ∙ (λ i. board-whole p i ++ drops-whole p i)
    ∙ ap (λ x. x ++ drops_listed p)
    (sym (append_assoc (plain_moves_below p 64) (if_allowed p (Castle false)) (if_allowed p (Castle true)))))

pub listed : (p : Position) (o0 o1 o2 o3 o4 : List Move) → o0 ≡ [] → o1 ≡ o0 ++ plain_moves_below p 64
    → o2 ≡ o1 ++ if_allowed p (Castle false) →
    o3 ≡ o2 ++ if_allowed p (Castle true) → o4 ≡ o3 ++ drops_listed p → o4 ≡ allowed_moves p
listed p o0 o1 o2 o3 o4 e0 e1 e2 e3 e4 =
    e4
    ∙ ap (λ x. x ++ drops_listed p)
    (e3 ∙ ap (λ x. x ++ if_allowed p (Castle true)) (e2 ∙ ap (λ x. x ++ if_allowed p (Castle false))
    (e1 ∙ ap (λ x. x ++ plain_moves_below p 64) e0))) ∙ whole_list p

-- no drops are listed where no kind is in hand, or the variant has none
pub no-drops-of : (p : Position) (k : Kind) → ((t : ℕ) → ¬ IsMove p (Drop k t)) → drops_below p k 64 ≡ []
no-drops-of p k none = drops-start p k 64 (λ t less. if_allowed-none p (Drop k t) (none t))

pub no-drops : (p : Position) → ¬ HasDrops p.variant → drops_listed p ≡ []
unfolding drops_listed
no-drops p none =
    let q = no-drops-of p Pawn (λ t move. none move.variant) in
    let r = no-drops-of p Knight (λ t move. none move.variant) in
    let s = no-drops-of p Bishop (λ t move. none move.variant) in
    let t = no-drops-of p Rook (λ t move. none move.variant) in
    let u = no-drops-of p Queen (λ t move. none move.variant) in
    λ i. q i ++ (r i ++ (s i ++ (t i ++ u i)))

-- what was appended four and five times

pub four-times : (o o1 o2 o3 o4 q r s t w : List Move) → o1 ≡ o ++ q → o2 ≡ o1 ++ r → o3 ≡ o2 ++ s → o4 ≡ o3 ++ t
    → w ≡ q ++ (r ++ (s ++ t)) →
    o4 ≡ o ++ w
four-times o o1 o2 o3 o4 q r s t w e1 e2 e3 e4 e =
    e4 ∙ ap (λ x. x ++ t) (e3 ∙ ap (λ x. x ++ s) (e2 ∙ ap (λ x. x ++ r) e1))
    ∙ append_assoc ((o ++ q) ++ r) s t ∙ append_assoc (o ++ q) r (s ++ t) ∙ append_assoc o q (r ++ (s ++ t))
    ∙ ap (λ x. o ++ x) (sym e)

pub five-times : (p : Position) (o o1 o2 o3 o4 o5 : List Move) → o1 ≡ o ++ drops_below p Pawn 64
    → o2 ≡ o1 ++ drops_below p Knight 64 →
    o3 ≡ o2 ++ drops_below p Bishop 64 → o4 ≡ o3 ++ drops_below p Rook 64 → o5 ≡ o4 ++ drops_below p Queen 64
    → o5 ≡ o ++ drops_listed p
unfolding drops_listed
five-times p o o1 o2 o3 o4 o5 e1 e2 e3 e4 e5 =
    let q = drops_below p Pawn 64 in
    let r = drops_below p Knight 64 in
    let s = drops_below p Bishop 64 in
    let t = drops_below p Rook 64 in
    let u = drops_below p Queen 64 in
    e5 ∙ ap (λ x. x ++ u) (four-times o o1 o2 o3 o4 q r s t (q ++ (r ++ (s ++ t))) e1 e2 e3 e4 refl)
    ∙ append_assoc o (q ++ (r ++ (s ++ t))) u
    ∙ ap (λ x. o ++ x)
    (append_assoc q (r ++ (s ++ t)) u
    ∙ ap (λ x. q ++ x) (append_assoc r (s ++ t) u ∙ ap (λ x. r ++ x) (append_assoc s t u)))
