-- The way that each command goes: what a session does for it. This server's own.
use Rattle.std.specs.Prelude.{None, Some, false, true}
use Rattle.std.specs.Option.{option_map}
use Rattle.command_words.specs.declared.command.Command.{Command}
use Rattle.command_words.specs.declared.command.Command.TheVariants as command
use Rattle.command_words.specs.declared.rows.Bare.TheVariants as bare
use Rattle.command_words.specs.declared.rows.ByName.TheVariants as by_name
use Rattle.command_words.specs.declared.rows.ByNumber.TheVariants as by_number
use Rattle.command_words.specs.declared.rows.MaybeByName.TheVariants as maybe
use Rattle.command_words.specs.declared.rows.OnChannel.TheVariants as on_channel
use Rattle.command_words.specs.declared.rows.WithText.TheVariants as with_text
use Rattle.fics_words.specs.Handle.{key_of}
use Rattle.linked_desk.specs.declared.acts.DeskAct.TheVariants as desk_act
use Rattle.lobby_state.specs.declared.acts.LobbyAct.TheVariants as lobby_act
use Rattle.lobby_state.specs.declared.acts.PairAct.TheVariants as pair_act
use Rattle.lobby_state.specs.declared.acts.name_list.WhichList.TheVariants.{Censor, Noplay}
use Rattle.offer_book.specs.declared.offer.Offer.TheVariants.{Draw, Abort, Adjourn, Takeback}
use Rattle.one_server.specs.declared.act.Act.TheVariants.{Lobby, Pair}
use Rattle.session_core.specs.declared.own_commands.OwnCommand.TheVariants as own
use Rattle.session_core.specs.declared.reaction.Reaction.TheVariants.{Accepting, Declining}
use Rattle.session_core.specs.declared.way.Way.{Way}
use Rattle.session_core.specs.declared.way.Way.TheVariants as way
use Rattle.sha2.specs.Sha256.{sha256}

-- the way of a command
abbrev pub way_of : Command → Way
way_of command.Nothing = way.Round
way_of (command.Move word) = way.Move word
way_of (command.Bare bare.Abort) = way.Desk (desk_act.Make Abort)
way_of (command.Bare bare.Adjourn) = way.Desk (desk_act.Make Adjourn)
way_of (command.Bare bare.Draw) = way.Desk (desk_act.Make Draw)
way_of (command.Bare bare.Flag) = way.Desk desk_act.Flag
way_of (command.Bare bare.Games) = way.Server (Lobby lobby_act.Games)
way_of (command.Bare bare.Pending) = way.Server (Lobby lobby_act.Pending)
way_of (command.Bare bare.Quit) = way.Leave
way_of (command.Bare bare.Refresh) = way.Desk desk_act.Show
way_of (command.Bare bare.Resign) = way.Desk desk_act.Resign
way_of (command.Bare bare.SimNext) = way.Server (Lobby lobby_act.SimNext)
way_of (command.Bare bare.SimOpen) = way.Server (Lobby lobby_act.SimOpen)
way_of (command.Bare bare.SimPrev) = way.Server (Lobby lobby_act.SimPrev)
way_of (command.Bare bare.Sought) = way.Server (Lobby lobby_act.Sought)
way_of (command.Bare bare.Stored) = way.Server (Lobby lobby_act.Stored)
way_of (command.Bare bare.Who) = way.Server (Lobby lobby_act.Who)
way_of (command.ByName by_name.AddCensor name) = way.Server (Lobby (lobby_act.List Censor (key_of name) true))
way_of (command.ByName by_name.AddNoplay name) = way.Server (Lobby (lobby_act.List Noplay (key_of name) true))
way_of (command.ByName by_name.DropCensor name) = way.Server (Lobby (lobby_act.List Censor (key_of name) false))
way_of (command.ByName by_name.DropNoplay name) = way.Server (Lobby (lobby_act.List Noplay (key_of name) false))
way_of (command.ByName by_name.GoBoard name) = way.Server (Lobby (lobby_act.GoBoard (key_of name)))
way_of (command.ByName by_name.Resume name) = way.Server (Pair (pair_act.Resume (key_of name)))
way_of (command.MaybeByName maybe.Accept None) = way.React Accepting
way_of (command.MaybeByName maybe.Accept (Some name)) = way.Server (Pair (pair_act.Accept (Some (key_of name))))
way_of (command.MaybeByName maybe.Decline None) = way.React Declining
way_of (command.MaybeByName maybe.Decline (Some name)) = way.Server (Lobby (lobby_act.Decline (Some (key_of name))))
way_of (command.MaybeByName maybe.Partner name) = way.Server (Lobby (lobby_act.Partner (option_map key_of name)))
way_of (command.MaybeByName maybe.Withdraw name) = way.Server (Lobby (lobby_act.Withdraw (option_map key_of name)))
way_of (command.WithText with_text.Kibitz text) = way.Remark text
way_of (command.WithText with_text.Ptell text) = way.Server (Lobby (lobby_act.Ptell text))
way_of (command.WithText with_text.Register password) = way.Server (Lobby (lobby_act.Register (sha256 password)))
way_of (command.WithText with_text.Shout text) = way.Server (Lobby (lobby_act.Shout text))
way_of (command.ByNumber by_number.Play number) = way.Server (Pair (pair_act.Play number))
way_of (command.ByNumber by_number.Unobserve number) = way.Unobserve number
way_of (command.OnChannel on_channel.Ask number) = way.Server (Lobby (lobby_act.InChannel number))
way_of (command.OnChannel on_channel.Join number) = way.Server (Lobby (lobby_act.Channel number true))
way_of (command.OnChannel on_channel.Leave number) = way.Server (Lobby (lobby_act.Channel number false))
way_of (command.Alias name text) = way.Own (own.Alias name text)
way_of (command.Match name terms) = way.Server (Lobby (lobby_act.Match (key_of name) terms))
way_of (command.ObserveGame number) = way.Observe (lobby_act.FindGame number)
way_of (command.ObservePlayer name) = way.Observe (lobby_act.Find (key_of name))
way_of (command.Seek terms) = way.Server (Lobby (lobby_act.Post terms))
way_of (command.Set which on) = way.Server (Lobby (lobby_act.Var which on))
way_of (command.Style style) = way.Own (own.Style style)
way_of (command.Takeback number) = way.Desk (desk_act.Make (Takeback number))
way_of (command.Tell name text) = way.Server (Lobby (lobby_act.Tell (key_of name) text))
way_of (command.TellChannel channel text) = way.Server (Lobby (lobby_act.TellChannel channel text))
way_of (command.Unalias name) = way.Own (own.Unalias name)
way_of (command.Unseek number) = way.Server (Lobby (lobby_act.Unpost number))
