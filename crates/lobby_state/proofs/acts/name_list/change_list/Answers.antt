use Rattle.std.proofs.Common.{sym, subst}
use Rattle.fics_words.specs.Effect.{Takes}
use Rattle.lobby_state.specs.declared.member.Member.{Member}
use Rattle.lobby_state.specs.declared.acts.name_list.WhichList.{WhichList}
use Rattle.lobby_state.specs.declared.acts.name_list.WhichList.TheVariants.{Censor, Noplay}
use Rattle.lobby_state.specs.NameList.{change_among}
use Rattle.tables.specs.Rows.{change_at}
use Rattle.lobby_state.proofs.Listing.{takes_nowhere, takes_there}
use Rattle.lobby_state.proofs.acts.name_list.change_list.Goals as goal

pub returns-in_default : goal.returns-in_default
returns-in_default c =
    takes_nowhere c.args.members.now c.args.session c.args.which c.args.name c.args.on (sym c.in_default.ensures)

pub returns-in-Censor : goal.returns-in-Censor
returns-in-Censor c =
    subst (λ (which : WhichList).
    Takes (change_among c.args.session which c.args.name c.args.on c.args.members.now) c.args.members.now
    (change_at c.in-Some.place (λ (m : Member). record m { censor = c.change_names.new.names }) c.args.members.now)
    c.change_names.result)
    (sym c.in-Censor.is)
    (takes_there c.args.members.now c.args.session Censor c.args.name c.args.on c.in-Some.place c.censor_mut.result.now
    c.change_names.new.names c.change_names.result
    c.in-Some.ensures c.censor_mut.ensures.value c.change_names.ensures)

pub returns-in-Noplay : goal.returns-in-Noplay
returns-in-Noplay c =
    subst (λ (which : WhichList).
    Takes (change_among c.args.session which c.args.name c.args.on c.args.members.now) c.args.members.now
    (change_at c.in-Some.place (λ (m : Member). record m { noplay = c.change_names-in-Noplay.new.names })
    c.args.members.now)
    c.change_names-in-Noplay.result)
    (sym c.in-Noplay.is)
    (takes_there c.args.members.now c.args.session Noplay c.args.name c.args.on c.in-Some.place c.noplay_mut.result.now
    c.change_names-in-Noplay.new.names c.change_names-in-Noplay.result
    c.in-Some.ensures c.noplay_mut.ensures.value c.change_names-in-Noplay.ensures)
