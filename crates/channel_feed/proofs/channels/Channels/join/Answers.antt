use Rattle.std.proofs.Common.{sym, ap, ◌∙◌}
use Rattle.std.specs.Prelude.{◌==◌, ◌&&◌}
use Rattle.std.specs.List.{list_any}
use Rattle.std.proofs.lemmas.Cmp.{nat_eq_equiv}
use Rattle.tables.proofs.Firsts.{find-absent}
use Rattle.channel_feed.specs.Channels.{is_in}
use Rattle.channel_feed.proofs.channels.Channels.join.Goals as goal

pub push-requires : goal.push-requires
push-requires c =
    let who = c.args.who in
    let channel = c.args.channel in
    find-absent (λ row. (who == row.who) && (channel == row.channel)) c.self.inside.rows
    ((λ j.
    list_any (λ row. nat_eq_equiv.symm who row.who j && nat_eq_equiv.symm channel row.channel j) c.self.inside.rows)
    ∙ ap (λ rows. is_in rows who channel) c.self.view_is ∙ sym c.has.ensures ∙ c.if-has.false)
