-- Of members with distinct sessions one hears a line for its session: what a broadcast to it leaves.
use Rattle.std.proofs.Common.{◌≡◌, ℕ, true, false, not, cond, List, [], ◌∷◌, ◌++◌, map, eqb, refl, sym, ◌∙◌}
use Rattle.std.specs.Prelude.{◌==◌, ◌&&◌}
use Rattle.std.specs.List.{IsDistinct}
use Rattle.channel_feed.specs.Waiting.{is_full as are_full}
use Rattle.tables.specs.Rows.{change_first}
use Rattle.lobby_state.specs.declared.member.Member.{Member}
use Rattle.lobby_state.specs.Broadcast.{broadcast, hearing}
use Rattle.lobby_state.specs.Lobby.{is_session}
use Rattle.lobby_state.specs.Match.{member_with_line}
use Rattle.lobby_state.proofs.Seated.{one_changes, only}

-- who is named hears the line, if there is room for it
hears_it : (line : List ℕ) (m : Member)
    → cond (true && not (are_full m.waiting)) (member_with_line line m) m ≡ member_with_line line m
hears_it line m =
    elim (are_full m.waiting)
    as (λ t.
    cond (true && not t) (record m { waiting = cond t m.waiting (m.waiting ++ line ∷ []) }) m
    ≡ record m { waiting = cond t m.waiting (m.waiting ++ line ∷ []) }) [
      | true ↦ refl
      | false ↦ refl
    ]

pub one_hears : (session : ℕ) (line : List ℕ) (members : List Member)
    → IsDistinct eqb (map (λ (m : Member). m.session) members)
    → change_first (is_session session) (member_with_line line) members ≡ broadcast (is_session session) line members
one_hears session line members apart =
    one_changes session (member_with_line line) members apart ∙ (λ j. map (λ m. hears m j) members)
  where
    hears : (m : Member) → only session (member_with_line line) m ≡ hearing (is_session session) line m
    hears m =
        elim (m.session == session)
        as (λ t.
        cond t (member_with_line line m) m ≡ cond (t && not (are_full m.waiting)) (member_with_line line m) m) [
          | true ↦ sym (hears_it line m)
          | false ↦ refl
        ]
