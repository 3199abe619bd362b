use Rattle.std.proofs.Common.{◌≡◌, ◌++◌, ◌∷◌, [], ℕ, List, take, drop, get_or, suc, sym, ap, subst, ◌∙◌, arith, add-one}
use Rattle.std.proofs.lemmas.List.{take_all}
use Rattle.std.proofs.lemmas.Result.{err_from_is_err_and}
use Rattle.cmd_lines.specs.Progress.{Progress}
use Rattle.cmd_lines.proofs.Feeding.{AfterStop-more, front_at, whole_at}
use Rattle.cmd_lines.proofs.machine.Machine.feed_bytes.Goals as goal

pub returns-in_err-feed_byte : goal.returns-in_err-feed_byte
returns-in_err-feed_byte g c = λ start taken base p.
    let q = err_from_is_err_and c.from_residual.result c.from_residual.ensures.1 in
    let i = c.loop-byte.byte-index in
    let front = taken ++ take i c.args.piece.now in
    rw (q.1, q.2)
    (AfterStop-more (g.T.LineHandler.reached start) g.T.LineHandler.ending (front ++ get_or c.args.piece.now i 0 ∷ [])
    (drop (suc i) c.args.piece.now) (taken ++ c.args.piece.now) (base ++ c.feed_byte.new.out.items)
    c.in_err-feed_byte.field-0.0
    (whole_at taken c.args.piece.now i c.loop-byte-test.true)
    (c.in_err-feed_byte.ensures.fed start front base (c.loop-byte.invariant.fed start taken base p)))

pub loop-byte-preserved : goal.loop-byte-preserved
loop-byte-preserved g c = record {
  count = omega (arith, c.in_ok-feed_byte.ensures.count, c.loop-byte.invariant.count);
  fed = λ start taken base p.
      let i = c.loop-byte.byte-index in
      let piece = c.args.piece.now in
      let next =
      c.in_ok-feed_byte.ensures.fed start (taken ++ take i piece) base (c.loop-byte.invariant.fed start taken base p) in
      subst (λ (t : List ℕ).
      Progress (g.T.LineHandler.reached start) t c.feed_byte.new.self (base ++ c.feed_byte.new.out.items))
      (front_at taken piece i c.loop-byte-test.true ∙ ap (λ n. taken ++ take n piece) (sym (add-one i))) next;
}

pub returns : goal.returns
returns g c = λ start taken base p.
    let whole : taken ++ take c.loop-byte.byte-index c.args.piece.now ≡ taken ++ c.args.piece.now =
    ap (λ l. taken ++ l) (take_all c.loop-byte.byte-index c.args.piece.now c.loop-byte-test.false) in
    subst (λ (t : List ℕ). Progress (g.T.LineHandler.reached start) t c.loop-byte.self (base ++ c.loop-byte.out.items))
    whole (c.loop-byte.invariant.fed start taken base p)
