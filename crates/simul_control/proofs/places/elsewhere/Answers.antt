use Rattle.std.proofs.Common.{sym, subst, ◌<◌, ◌∙◌}
use Rattle.simul_control.specs.declared.place.Place.{Place}
use Rattle.simul_control.proofs.Field.{filter_one_more, filter_one_less}
use Rattle.simul_control.proofs.places.elsewhere.Goals as goal
use Rattle.simul_control.proofs.places.elsewhere.Goals.{then-get-number, else-get-number}

pub loop-at-preserved : goal.loop-at-preserved
loop-at-preserved c =
    let nowhere : Place = record { desk = 0; serial = 0; seat = 0 } in
    let inside = subst (λ n. c.loop-at.at < n) c.len-at-end.ensures.count c.loop-at-test.true in
    let read = c.place-place.ensures nowhere in
    elim c.if-get-number.branch [
      | then-get-number w ↦
          w.kept-is
          ∙ filter_one_more c.args.places.now.giving c.args.desk c.args.places.now.rows c.loop-at.at nowhere
          c.place-place.result c.loop-at.kept w.add-room.new.self c.len-at-end.ensures.most inside read
          (λ same. w.if-get-number.true (c.get.ensures.value ∙ same ∙ sym c.get-number.ensures.value))
          c.loop-at.invariant w.add-room.ensures.after
      | else-get-number w ↦
          w.kept-is
          ∙ filter_one_less c.args.places.now.giving c.args.desk c.args.places.now.rows c.loop-at.at nowhere
          c.place-place.result c.loop-at.kept inside read
          (sym c.get.ensures.value ∙ w.if-get-number.false ∙ c.get-number.ensures.value) c.loop-at.invariant
    ]
