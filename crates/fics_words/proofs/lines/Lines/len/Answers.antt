use Rattle.std.proofs.Common.{◌≡◌, rules, length, sym, ap, ◌∙◌}
use Rattle.fics_words.proofs.Ends.{length-lines_between}
use Rattle.fics_words.proofs.lines.Lines.len.Goals as goal

pub returns : goal.returns
returns c =
    let long : c.len.result ≡ length c.self.inside.ends.items = search rules in
    long ∙ sym (length-lines_between _ 0 _) ∙ ap length c.self.view_is
