use Rattle.std.proofs.Common.{◌≡◌, ℕ, List, sym, ap, subst, ◌∙◌}
use Rattle.channel_feed.specs.Waiting.{with_line as with_one_more}
use Rattle.lobby_shelf.specs.Shelf.{ShelfState}
use Rattle.lobby_shelf.specs.declared.request.Request.{Request}
use Rattle.tables.specs.Rows.{change_first}
use Rattle.lobby_state.specs.declared.member.Member.{Member}
use Rattle.lobby_state.specs.declared.reserve.Ready.TheVariants.{Asking}
use Rattle.lobby_state.specs.Lobby.{LobbyState, is_session, waiting_of}
use Rattle.lobby_state.specs.Match.{member_with_line}
use Rattle.lobby_state.specs.Reserve.{asking_for}
use Rattle.lobby_state.specs.Resumed.{ask_line, asked_of}
use Rattle.lobby_state.proofs.KeepsResumed.{lines-put}
use Rattle.lobby_state.proofs.roster.Roster.ask.Goals as goal

same_lines : (one other : Request) (lines more : List (List ℕ)) → Asking one lines ≡ Asking other more → lines ≡ more
same_lines one other lines more e = cc

pub returns : goal.returns
returns c =
    let inside = c.self.inside in
    let lobby : LobbyState = record {
      accounts = inside.accounts;
      members = inside.members;
      challenges = inside.challenges;
      seeks = inside.seeks;
      channels = inside.channels;
      partners = inside.partners;
      shelf = inside.shelf;
      games = inside.games;
      started = inside.started;
    } in
    let from = c.args.from in
    let to = c.args.to in
    let ready : c.args.ready ≡ asking_for lobby from to c.args.number =
    subst (λ (l : LobbyState). c.args.ready ≡ asking_for l from to c.args.number) (sym c.self.view_is) c.requires.is in
    let lines : c.in-Asking.lines ≡ with_one_more (ask_line lobby from) (waiting_of lobby to) =
    same_lines c.in-Asking.request (record {
      by = from;
      game = c.args.number;
    }) c.in-Asking.lines (with_one_more (ask_line lobby from) (waiting_of lobby to)) (sym c.in-Asking.is ∙ ready) in
    let told : c.put_lines.new.members
    ≡ change_first (is_session to) (member_with_line (ask_line lobby from)) lobby.members =
    c.put_lines.ensures ∙ lines-put (ask_line lobby from) c.in-Asking.lines (is_session to) lobby.members lines in
    ap (λ (members : List Member). record lobby { members = members; shelf = c.ask.new.self }) told
    ∙ ap
    (λ (shelf : ShelfState).
    record lobby
    { members = change_first (is_session to) (member_with_line (ask_line lobby from)) lobby.members; shelf = shelf })
    c.ask.ensures
    ∙ ap (λ (l : LobbyState). asked_of l from to c.args.number) c.self.view_is
