use Rattle.std.proofs.Common.{◌≡◌, length, rules, sym, ap, ◌∙◌, arith}
use Rattle.std.proofs.lemmas.Option.{slice_get_past}
use Rattle.fics_words.proofs.Ends.{length-lines_between}
use Rattle.fics_words.proofs.lines.Lines.get.Goals as goal

pub returns-then-place-len-clause-value : goal.returns-then-place-len-clause-value
returns-then-place-len-clause-value c =
    let long : c.len.result ≡ length c.self.inside.ends.items = search rules in
    let count : c.len.result ≡ length c.args.self.now =
    long ∙ sym (length-lines_between _ 0 _) ∙ ap length c.self.view_is in
    sym (slice_get_past c.args.self.now c.args.place (omega (arith, count, c.if-place-len.true)))
