use Rattle.std.proofs.Common.{List, ℕ, drop, length, rules, sym, ap, ◌∙◌, arith}
use Rattle.std.specs.Prelude.{slice_index}
use Rattle.game_records.specs.Reading.{eight_in}
use Rattle.game_records.proofs.KeysBack.{key_length, key_first, key_number, is_key}
use Rattle.game_records.proofs.keys.game_number.Goals as goal

pub returns-then-key-ne-GAME_KEY-clause-none : goal.returns-then-key-ne-GAME_KEY-clause-none
returns-then-key-ne-GAME_KEY-clause-none c number h k e =
    let same = ap length e ∙ key_length number in omega arith

pub returns-then-first-ne-GAME-clause-none : goal.returns-then-first-ne-GAME-clause-none
returns-then-first-ne-GAME-clause-none c number h k e =
    let same = c.byte_at-first.ensures ∙ ap (λ (l : List ℕ). slice_index l 0) e ∙ key_first number in omega arith

pub returns-then-number-eq0-clause-none : goal.returns-then-number-eq0-clause-none
returns-then-number-eq0-clause-none c number h k e =
    let same =
    c.eight_in-number.ensures ∙ ap eight_in c.behind.ensures ∙ ap (λ (l : List ℕ). eight_in (drop 1 l)) e
    ∙ key_number number k in
    omega arith

pub returns-clause-value : goal.returns-clause-value
returns-clause-value c =
    is_key c.args.key.now c.eight_in-number.result (omega arith) (let e = sym c.byte_at-first.ensures in omega arith)
    (search rules)
    (c.eight_in-number.ensures ∙ ap eight_in c.behind.ensures)
