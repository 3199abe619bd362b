-- What a Shout and a Ptell make that are carried out.
use Rattle.std.proofs.Common.{◌≡◌, ℕ, Bool, true, false, cond, List, [], ◌∷◌, Option, None, Some, is_none, Ok, refl, sym, ap, subst, ◌∙◌, codes}
use Rattle.fics_words.specs.Effect.{Effect, Takes}
use Rattle.fics_words.specs.declared.refusal.Refusal.TheVariants.{NoPartner, NotIn, QueueFull}
use Rattle.lobby_state.specs.Broadcast.{broadcast, heard}
use Rattle.lobby_state.specs.declared.acts.LobbyReply.{LobbyReply}
use Rattle.lobby_state.specs.declared.acts.LobbyReply.TheVariants.{Told}
use Rattle.lobby_state.specs.declared.member.Member.{Member}
use Rattle.lobby_state.specs.Lobby.{LobbyState, is_session, member_of, partner_in}
use Rattle.lobby_state.specs.Ptell.{confided, is_partner_full, ptell_effect}
use Rattle.lobby_state.specs.Said.{spoken_line}
use Rattle.lobby_state.specs.Shout.{hears_shouts, shout_effect, shouted}

-- the act, by the member
abbrev shouting : LobbyState → ℕ → Option Member → List ℕ → Effect LobbyState LobbyReply
shouting lobby session own text = record {
  causes = (is_none own, NotIn) ∷ [];
  memory = true;
  reply = Told (heard (hears_shouts session) lobby.members);
  after = shouted lobby session own text;
}

-- a member that shouts, and so many hear it
pub shouts : (lobby new : LobbyState) (session count : ℕ) (text line : List ℕ) (caller : Member)
    → member_of lobby session ≡ Some caller
    → count ≡ heard (hears_shouts session) lobby.members → line ≡ text
    → new
    ≡ record lobby
    { members = broadcast (hears_shouts session) (spoken_line caller.name (codes " shouts: ") line) lobby.members }
    → Takes (shout_effect lobby session text) lobby new (Ok (Told count))
shouts lobby new session count text line caller own hearers same went =
    let here : Takes (shouting lobby session (Some caller) text) lobby new (Ok (Told count)) = (
      refl,
      ap (λ (n : ℕ). Told n) hearers,
      went ∙ ap (λ (l : List ℕ). shouted lobby session (Some caller) l) same,
    ) in
    subst (λ (member : Option Member). Takes (shouting lobby session member text) lobby new (Ok (Told count))) (sym own)
    here

-- the act, by the member and its partner
abbrev confiding : LobbyState → Option Member → Option ℕ → List ℕ → Effect LobbyState LobbyReply
confiding lobby own partner text = record {
  causes = (is_none own, NotIn) ∷ (is_none partner, NoPartner) ∷ (is_partner_full lobby partner, QueueFull) ∷ [];
  memory = true;
  reply = Told 1;
  after = confided lobby own partner text;
}

-- a member that tells its partner something
pub confides : (lobby new : LobbyState) (session partner : ℕ) (text line : List ℕ) (caller : Member)
    → member_of lobby session ≡ Some caller
    → partner_in lobby session ≡ Some partner → is_partner_full lobby (Some partner) ≡ false → line ≡ text
    → new
    ≡ record lobby {
      members =
          broadcast (is_session partner)
          (spoken_line caller.name (codes " (your partner) tells you: ") line) lobby.members;
    }
    → Takes (ptell_effect lobby session text) lobby new (Ok (Told 1))
confides lobby new session partner text line caller own other room same went =
    let here : Takes (confiding lobby (Some caller) (Some partner) text) lobby new (Ok (Told 1)) = (
      ap (λ (b : Bool). cond b (Some QueueFull) None) room,
      refl,
      went ∙ ap (λ (l : List ℕ). confided lobby (Some caller) (Some partner) l) same,
    ) in
    subst
    (λ (member : Option Member). Takes (confiding lobby member (partner_in lobby session) text) lobby new (Ok (Told 1)))
    (sym own)
    (subst (λ (p : Option ℕ). Takes (confiding lobby (Some caller) p text) lobby new (Ok (Told 1))) (sym other) here)
