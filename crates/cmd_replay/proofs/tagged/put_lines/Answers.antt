use Rattle.std.proofs.Common.{◌≡◌, ◌∷◌, ◌++◌, ℕ, List, sym, ap, ◌∙◌}
use Rattle.std.proofs.lemmas.Result.{on_ok_weaker}
use Rattle.fics_words.specs.Pieces.{pieces}
use Rattle.cmd_lines.specs.Lines.{HasNoLineFeed}
use Rattle.cmd_replay.specs.Tagged.{shown, tagged_line, tagged_lines}
use Rattle.cmd_replay.proofs.Showing.{one_line_shown, last_shown}
use Rattle.cmd_replay.proofs.tagged.put_lines.Goals as goal

-- one line more was put
more : (session : ℕ) (out' out rest line after due : List ℕ) → out' ≡ out ++ tagged_line session line
    → rest ≡ line ++ 10 ∷ after → HasNoLineFeed line
    → out ++ tagged_lines session (shown (pieces rest)) ≡ due
    → out' ++ tagged_lines session (shown (pieces after)) ≡ due
more session out' out rest line after due put parts line_is kept =
    ap (λ (o : List ℕ). o ++ tagged_lines session (shown (pieces after))) put
    ∙ one_line_shown session out line after line_is
    ∙ ap (λ (r : List ℕ). out ++ tagged_lines session (shown (pieces r))) (sym parts)
    ∙ kept

pub loop-line-preserved : goal.loop-line-preserved
loop-line-preserved c =
    more c.args.session c.put_line.new.out.items c.loop-line.out.items c.loop-line.rest.now c.in-Some.line.now
    c.in-Some.after.now _ c.in_ok-put_line.ensures c.in-Some.ensures.parts c.in-Some.ensures.line c.loop-line.invariant

pub returns : goal.returns
returns c =
    let last =
    last_shown c.args.session c.loop-line.out.items c.loop-line.rest.now (sym c.is_empty.ensures ∙ c.if-is_empty.false)
    c.in_default.ensures.none in
    on_ok_weaker c.put_line-2.result (λ put. put ∙ last ∙ c.loop-line.invariant) c.put_line-2.ensures
