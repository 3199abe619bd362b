use Rattle.std.proofs.Common.{◌≡◌, ℕ, rules, List, length, sym, ap, ◌∙◌}
use Rattle.std.specs.List.{flat_map}
use Rattle.fics_words.proofs.Ends.{flat_map-lines_between}
use Rattle.fics_words.proofs.lines.Lines.count_bytes.Goals as goal

pub returns : goal.returns
returns c =
    let long : c.len.result ≡ length c.self.inside.bytes.items = search rules in
    long ∙ ap length (sym (flat_map-lines_between _ 0 _ c.self.invariant))
    ∙ ap (λ lines. length (flat_map (λ (line : List ℕ). line) lines)) c.self.view_is
