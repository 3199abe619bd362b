-- What a cell holds: the one item that stands in it.
use Rattle.std.specs.Prelude.{List, [], ◌∷◌, None}
use Rattle.lobby_shelf.specs.declared.order.Order.{Order}
use Rattle.lobby_shelf.specs.declared.request.Request.{Request}

abbrev pub held_order : List Order → Order
held_order [] = record { number = 0; key = []; bytes = None }
held_order (order ∷ orders) = order

abbrev pub held_request : List Request → Request
held_request [] = record { by = 0; game = 0 }
held_request (request ∷ requests) = request
