-- What a contract sees of a list that keeps room.
use Rattle.std.specs.Prelude.{ℕ, List, refl}
use Rattle.std.specs.Coded.{Coded, code_by, coded×, coded_list, coded_ℕ}

-- the items in order, and how many more can be pushed without taking memory
pub record ItemsWithRoom (T : Type 0) : Type 0 where
  pub items : List T
  pub room : ℕ

-- such a list is stored as the pair of its items and its room
abbrev pub items_with_room_code : {T : Type 0} → Coded T → Coded (ItemsWithRoom T)
items_with_room_code {T} code =
    code_by (List T × ℕ) (coded× (coded_list code) coded_ℕ) (λ s. (s.items, s.room))
    (λ p. record { items = p.0; room = p.1 }) (λ _. refl)
