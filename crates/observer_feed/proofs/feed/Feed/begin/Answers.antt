use Rattle.std.proofs.Common.{◌≡◌, ℕ, false, [], ◌∷◌, ◌++◌, length, sym, subst, ap, ◌∙◌}
use Rattle.observer_feed.specs.declared.cursor.Cursor.{Cursor}
use Rattle.observer_feed.specs.Feed.{ArePlaces, FeedState, first_place, is_viewer}
use Rattle.observer_feed.proofs.Keeping.{places_begun}
use Rattle.observer_feed.proofs.feed.Feed.begin.Goals as goal

pub invariant_of-self-2 : goal.invariant_of-self-2
invariant_of-self-2 g c =
    let count = length c.self.inside.items.items in
    let viewers = c.self.inside.viewers in
    let last : ℕ → Cursor = λ n. record { session = c.args.session; seen = n } in
    let none : is_viewer viewers c.args.session ≡ false =
    subst (λ (f : FeedState g.row.T.Denot). is_viewer f.viewers c.args.session ≡ false) (sym c.self.view_is)
    c.requires in
    let seen : c.first_place-seen.result ≡ first_place c.args.told count =
    c.first_place-seen.ensures ∙ ap (first_place c.args.told) c.len.ensures in
    subst (ArePlaces count) (sym (c.in_ok-push.ensures.ok ∙ ap (λ n. viewers ++ last n ∷ []) seen))
    (places_begun count viewers c.args.session c.args.told none c.self.invariant)
