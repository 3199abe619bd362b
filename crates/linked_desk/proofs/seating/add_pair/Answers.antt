use Rattle.std.proofs.Common.{◌≡◌, false, sym, subst}
use Rattle.std.proofs.lemmas.Bool.{ne_eqb}
use Rattle.style12_writer.specs.declared.item.Item.{Item}
use Rattle.observer_feed.specs.Feed.{FeedState, is_viewer}
use Rattle.observer_feed.proofs.Keeping.{none-push}
use Rattle.linked_desk.specs.Seating.{from_start}
use Rattle.linked_desk.proofs.seating.add_pair.Goals as goal

pub begin-requires-2 : goal.begin-requires-2
begin-requires-2 c =
    let white = c.args.players.now.white in
    let black = c.args.players.now.black in
    subst (λ (f : FeedState Item). is_viewer f.viewers black.session ≡ false) (sym c.in_ok-begin.ensures.ok)
    (none-push c.args.feed.now.viewers (from_start white) black.session c.requires.black
    (ne_eqb white.session black.session c.requires.two))
