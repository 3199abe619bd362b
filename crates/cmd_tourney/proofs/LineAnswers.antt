-- The answer of a line, opened.
use Rattle.std.proofs.Common.{◌≡◌, ℕ, List, ap, Some, None, Ok, Err}
use Rattle.std.specs.Prelude.{OnOk, Result, option_map}
use Rattle.tourney_desk.specs.Tourney.{TourneyState}
use Rattle.cmd_tourney.specs.declared.line.TourneyLine.{TourneyLine}
use Rattle.cmd_tourney.specs.Lines.{tourney_line}
use Rattle.cmd_tourney.specs.Texts.{answer_line, line_done}

-- a line outside the grammar
pub answer_line-none : (t : TourneyState) (bytes : List ℕ) → tourney_line bytes ≡ None → answer_line t bytes ≡ None
unfolding answer_line
answer_line-none t bytes e = ap (option_map (line_done t)) e

-- any other
pub answer_line-some : (t : TourneyState) (bytes : List ℕ) (line : TourneyLine) → tourney_line bytes ≡ Some line
    → answer_line t bytes ≡ Some (line_done t line)
unfolding answer_line
answer_line-some t bytes line e = ap (option_map (line_done t)) e

-- a fact holds where a call ends well
pub on_ok : {A E : Type 0} (r : Result A E) (P : Type 0) → P → OnOk r P
on_ok (Ok x) P p = p
on_ok (Err e) P p = tt
