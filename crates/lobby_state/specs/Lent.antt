-- What the members end as, where a part of one of them is lent.
use Rattle.std.specs.Prelude.{ℕ, List}
use Rattle.std.specs.Borrow.{Fml, Lends, MutBor}
use Rattle.channel_feed.specs.contracts.names.NameList.{the_row as name_list_row}
use Rattle.tables.specs.Rows.{change_at}
use Rattle.lobby_state.specs.contracts.inbox.Inbox.{the_row as inbox_row}
use Rattle.lobby_state.specs.contracts.members.Members.{the_row}
use Rattle.lobby_state.specs.declared.member.Member.{Member}

-- Each says: once the borrow ends, the member at the place has the last value written through it as that part, and
-- nothing else of it has changed, and no other member.
abbrev pub lends_waiting : MutBor (List Member) → ℕ → MutBor (List (List ℕ)) → Fml
lends_waiting members place waiting =
    Lends the_row inbox_row members waiting
    (λ last. change_at place (λ member. record member { waiting = last }) members.now)

abbrev pub lends_censor : MutBor (List Member) → ℕ → MutBor (List (List ℕ)) → Fml
lends_censor members place names =
    Lends the_row name_list_row members names
    (λ last. change_at place (λ member. record member { censor = last }) members.now)

abbrev pub lends_noplay : MutBor (List Member) → ℕ → MutBor (List (List ℕ)) → Fml
lends_noplay members place names =
    Lends the_row name_list_row members names
    (λ last. change_at place (λ member. record member { noplay = last }) members.now)
