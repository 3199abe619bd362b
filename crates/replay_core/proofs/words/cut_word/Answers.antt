use Rattle.std.proofs.Common.{◌+◌, ◌∷◌, ◌++◌, List, ℕ, take, sym, ap, ◌∙◌}
use Rattle.std.proofs.lemmas.List.{take_rest}
use Rattle.fics_words.specs.Blank.{blank}
use Rattle.replay_core.proofs.Cuts.{cut_at_first, word_of-none}
use Rattle.replay_core.proofs.words.cut_word.Goals as goal

pub returns-in_default-clause-none : goal.returns-in_default-clause-none
returns-in_default-clause-none c = word_of-none c.args.bytes.now (sym c.in_default.ensures.place)

pub returns-clause-parts : goal.returns-clause-parts
returns-clause-parts c =
    let bytes = c.args.bytes.now in
    let place = c.in-Some.place in
    let cut = cut_at_first bytes place (sym c.in-Some.ensures.place) in
    cut.0 ∙ ap (λ (rest : List ℕ). take place bytes ++ blank ∷ rest) (sym (take_rest bytes (place + 1)))

pub returns-clause-word : goal.returns-clause-word
returns-clause-word c = (cut_at_first c.args.bytes.now c.in-Some.place (sym c.in-Some.ensures.place)).1
