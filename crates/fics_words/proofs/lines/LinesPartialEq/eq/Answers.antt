use Rattle.std.proofs.Common.{◌≡◌, ℕ, true, false, List, sym, ap, ◌∙◌}
use Rattle.std.specs.Prelude.{bytes_eq}
use Rattle.std.specs.Cmp.Lexicographic.{pointwise}
use Rattle.fics_words.specs.Lines.{lines_between}
use Rattle.fics_words.proofs.Ends.{both_same}
use Rattle.fics_words.proofs.lines.LinesPartialEq.eq.Goals as goal

pub returns-then-eq : goal.returns-then-eq
returns-then-eq c =
    let same : true ≡ bytes_eq c.self.inside.bytes.items c.other.inside.bytes.items =
    sym c.if-eq.true ∙ c.eq.ensures ∙ ap (λ (l : List ℕ). bytes_eq l c.as_slice-2.result.now) c.as_slice.ensures.value
    ∙ ap (bytes_eq c.self.inside.bytes.items) c.as_slice-2.ensures.value in
    let ends : c.eq-then-eq.result ≡ bytes_eq c.self.inside.ends.items c.other.inside.ends.items =
    c.eq-then-eq.ensures
    ∙ ap (λ (l : List ℕ). bytes_eq l c.as_slice-then-eq-2.result.now) c.as_slice-then-eq.ensures.value
    ∙ ap (bytes_eq c.self.inside.ends.items) c.as_slice-then-eq-2.ensures.value in
    both_same _ _ _ _ c.self.invariant c.other.invariant true c.eq-then-eq.result same ends
    ∙ ap
    (λ (l : List (List ℕ)). pointwise bytes_eq l (lines_between c.other.inside.bytes.items 0 c.other.inside.ends.items))
    c.self.view_is
    ∙ ap (pointwise bytes_eq c.args.self.now) c.other.view_is

pub returns-else-eq : goal.returns-else-eq
returns-else-eq c =
    let other : false ≡ bytes_eq c.self.inside.bytes.items c.other.inside.bytes.items =
    sym c.if-eq.false ∙ c.eq.ensures ∙ ap (λ (l : List ℕ). bytes_eq l c.as_slice-2.result.now) c.as_slice.ensures.value
    ∙ ap (bytes_eq c.self.inside.bytes.items) c.as_slice-2.ensures.value in
    c.if-eq.false
    ∙ both_same _ _ _ _ c.self.invariant c.other.invariant false _ other
    (λ _. bytes_eq c.self.inside.ends.items c.other.inside.ends.items)
    ∙ ap
    (λ (l : List (List ℕ)). pointwise bytes_eq l (lines_between c.other.inside.bytes.items 0 c.other.inside.ends.items))
    c.self.view_is
    ∙ ap (pointwise bytes_eq c.args.self.now) c.other.view_is
