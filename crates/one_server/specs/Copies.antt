-- What an act will answer, copied before the act is made. This server's own.
use Rattle.std.specs.Prelude.{◌≡◌, ℕ, List}
use Rattle.style12_writer.specs.declared.item.Item.{Item}
use Rattle.lobby_state.specs.declared.told.ReplyLists.{ReplyLists}
use Rattle.lobby_state.specs.Acts.{lobby_effect}
use Rattle.lobby_state.specs.Told.{lists_told}
use Rattle.linked_desk.specs.Acts.{desk_effect, items_told}
use Rattle.one_server.specs.declared.act.Act.{Act}
use Rattle.one_server.specs.declared.act.Act.TheVariants.{Lobby, Desk}
use Rattle.one_server.specs.declared.copies.Copies.{Copies}
use Rattle.one_server.specs.declared.part.Part.{Part}
use Rattle.one_server.specs.declared.part.Part.TheVariants.{Lobby as TheLobby, Desk as ADesk}
use Rattle.one_server.specs.declared.reply.Reply.{Reply}
use Rattle.one_server.specs.declared.reply.Reply.TheVariants as reply

-- the copies are of what the reply lists
abbrev pub AreOf : Copies → Reply → Type 0
AreOf copies (reply.Lobby answer) = copies.lists ≡ lists_told answer
AreOf copies (reply.Desk answer) = copies.items ≡ items_told answer
AreOf copies _ = Unit {0}

-- the lists are those that a lobby act will answer where it isn't refused
abbrev pub ListsFor : Part → ℕ → Act → ReplyLists → Type 0
ListsFor (TheLobby lobby) session (Lobby act) lists = lists ≡ lists_told (lobby_effect lobby session act).reply
ListsFor _ session _ lists = Unit {0}

-- and the items those that a desk act will, at whatever moment
abbrev pub ItemsFor : Part → ℕ → Act → List Item → Type 0
ItemsFor (ADesk desk) session (Desk number serial act) items =
    (moment : ℕ) → items ≡ items_told (desk_effect desk session moment serial act).reply
ItemsFor _ session _ items = Unit {0}
