-- A cell holds one item: put behind others, it is put behind them.
use Rattle.std.proofs.Common.{◌≡◌, ◌∷◌, ◌++◌, List, [], length, refl, ap, ◌∙◌, arith}
use Rattle.lobby_shelf.specs.declared.order.Order.{Order}
use Rattle.lobby_shelf.specs.declared.request.Request.{Request}
use Rattle.lobby_shelf.specs.Held.{held_order, held_request}

one_order : (cell : List Order) → length cell ≡ 1 → cell ≡ held_order cell ∷ []
one_order [] one = absurd (omega arith)
one_order (order ∷ []) one = refl
one_order (order ∷ another ∷ orders) one = absurd (omega arith)

one_request : (cell : List Request) → length cell ≡ 1 → cell ≡ held_request cell ∷ []
one_request [] one = absurd (omega arith)
one_request (request ∷ []) one = refl
one_request (request ∷ another ∷ requests) one = absurd (omega arith)

pub order_behind : (orders cell more : List Order) (order : Order) → length cell ≡ 1 → held_order cell ≡ order
    → more ≡ orders ++ cell
    → more ≡ orders ++ order ∷ []
order_behind orders cell more order one held is =
    is ∙ ap (λ zs. orders ++ zs) (one_order cell one) ∙ ap (λ z. orders ++ z ∷ []) held

pub request_behind : (requests cell more : List Request) (request : Request) → length cell ≡ 1
    → held_request cell ≡ request
    → more ≡ requests ++ cell → more ≡ requests ++ request ∷ []
request_behind requests cell more request one held is =
    is ∙ ap (λ zs. requests ++ zs) (one_request cell one) ∙ ap (λ z. requests ++ z ∷ []) held
