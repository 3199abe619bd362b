use Rattle.std.proofs.Common.{◌≡◌, ◌+◌, ◌++◌, ◌∷◌, [], ℕ, List, length, rules, ap, ◌∙◌}
use Rattle.fics_words.proofs.Ends.{AreEnds-pushed, lines_between-pushed}
use Rattle.fics_words.proofs.lines.Lines.push.Goals as goal

pub invariant_of-self-2 : goal.invariant_of-self-2
invariant_of-self-2 c =
    let long : c.len.result ≡ length c.self.inside.bytes.items = search rules in
    let end = c.len.result + length c.args.line.now in
    AreEnds-pushed c.self.inside.bytes.items c.args.line.now c.self.inside.ends.items _ _ end c.self.invariant
    c.requires
    c.in_ok-extend_from_slice.ensures.items
    (c.push_reserved.ensures.items ∙ ap (λ (l : List ℕ). l ++ end ∷ []) c.reserve.ensures.items)
    (ap (λ (n : ℕ). n + length c.args.line.now) long)

pub returns-clause-ok : goal.returns-clause-ok
returns-clause-ok c =
    let long : c.len.result ≡ length c.self.inside.bytes.items = search rules in
    let end = c.len.result + length c.args.line.now in
    lines_between-pushed c.self.inside.bytes.items c.args.line.now c.self.inside.ends.items _ _ end c.self.invariant
    c.in_ok-extend_from_slice.ensures.items
    (c.push_reserved.ensures.items ∙ ap (λ (l : List ℕ). l ++ end ∷ []) c.reserve.ensures.items)
    (ap (λ (n : ℕ). n + length c.args.line.now) long)
    ∙ ap (λ (lines : List (List ℕ)). lines ++ c.args.line.now ∷ []) c.self.view_is
