use Rattle.std.proofs.Common.{◌≡◌, ℕ, ◌<◌, take, get_or, arith, sym, ◌∙◌, ap, inl, inr}
use Rattle.std.specs.Prelude.{Any}
use Rattle.std.proofs.lemmas.Bool.{cases_lt}
use Rattle.std.proofs.lemmas.List.{length-take, get_or-take, get_or_read}
use Rattle.fics_words.specs.Handle.{key_of}
use Rattle.replay_core.proofs.Seats.{not_before}
use Rattle.replay_core.proofs.seat_line.are_different.Goals as goal

-- the name at the place is an earlier player's
pub returns-then-has_player : goal.returns-then-has_player
returns-then-has_player c =
    let names = c.args.names.now in
    let place = c.loop-place.place in
    let same = c.has_player.ensures.0 c.if-has_player.true in
    let before : same.0 < place = omega (arith, same.2, length-take place names) in
    let earlier : get_or names same.0 same.1 ≡ same.1 = sym (get_or-take place names same.0 same.1 before) ∙ same.3 in
    let later =
    get_or_read names place c.index-names-place.result c.loop-place-test.true c.index-names-place.is same.1 in (
      λ f. absurd cc,
      λ h. absurd (h same.0 place same.1 before c.loop-place-test.true (ap key_of earlier ∙ same.4 ∙ ap key_of later)),
    )

-- the name at the place is no earlier player's
pub loop-place-preserved : goal.loop-place-preserved
loop-place-preserved c one other d lt le e =
    let names = c.args.names.now in
    let place = c.loop-place.place in
    let key = key_of c.index-names-place.result in
    let none : Any (λ name. key_of name ≡ key) (take place names) → ⊥ = λ any.
    let yes = c.has_player.ensures.1 any in absurd cc in
    elim (cases_lt other place) [
      | inl before ↦ c.loop-place.invariant one other d lt before e
      | inr after ↦
          let at : other ≡ place = omega arith in
          let name =
          get_or_read names place c.index-names-place.result c.loop-place-test.true c.index-names-place.is d in
          let same : key_of (get_or names other d) ≡ key =
          ap (λ (k : ℕ). key_of (get_or names k d)) at ∙ sym (ap key_of name) in
          not_before names place key (omega arith) none one d (omega arith) (e ∙ same)
    ]
