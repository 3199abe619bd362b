use Rattle.std.proofs.Common.{◌≡◌, ◌-◌, take, drop, length, sym, ap, ◌∙◌, take-append-drop, arith}
use Rattle.std.proofs.lemmas.List.{length-drop}
use Rattle.std.proofs.Math.Seq.{drop-length}
use Rattle.steward_core.proofs.saving.save_told.Goals as goal

pub returns-clause-saves : goal.returns-clause-saves
returns-clause-saves g c =
    let orders = c.args.orders.now in
    let count = c.carry_out-carried.result.count in
    record {
      carried = take count orders;
      left = drop count orders;
      outcome = c.carry_out-carried.result.end;
      said = c.tell_saved-told.result;
      all = sym (take-append-drop count orders);
      whole = λ done. ap (λ n. drop n orders) (c.carry_out-carried.ensures.all done) ∙ drop-length orders;
      only_whole = λ none.
          let short : length orders - count ≡ 0 = sym (length-drop count orders) ∙ ap length none in
          c.carry_out-carried.ensures.only_all (omega (arith, short, c.carry_out-carried.ensures.few));
      table = c.carry_out-carried.ensures.carried;
      called = c.carry_out-carried.ensures.calls;
      tells = c.tell_saved-told.ensures.told;
      ends = c.round_of.ensures;
    }
