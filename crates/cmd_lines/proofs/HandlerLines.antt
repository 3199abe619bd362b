-- A run of a handler whose lines are all in the grammar isn't stopped at one.
use Rattle.std.proofs.Common.{◌≡◌, ℕ, true, false, Bool, List, [], ◌∷◌, ◌++◌, refl, sym, ap, subst, ◌∙◌, append_assoc, append-nil, Some, None}
use Rattle.std.specs.Prelude.{Option}
use Rattle.cmd_lines.specs.Handling.{Reaching, AreLinesOfRun, HasBadLine}
use Rattle.cmd_lines.specs.HandlerEnds.{AreStopped}
use Rattle.cmd_lines.specs.Lines.{lines_of, lines_come, whole_lines}
use Rattle.cmd_lines.proofs.Pieces.{Grows-lines_of}

-- a prefix of lines that a run has
pub front_reached : {S : Type 0} (reached : Reaching S) → AreLinesOfRun reached
    → (lines more : List (List ℕ)) (s : S) (due : List ℕ) → reached (lines ++ more) s due
    → (before : S) × (text : List ℕ) × reached lines before text
front_reached reached laws lines [] s due h =
    (s, due, subst (λ (l : List (List ℕ)). reached l s due) (append-nil lines) h)
front_reached reached laws lines (line ∷ more) s due h =
    let later =
    front_reached reached laws (lines ++ line ∷ []) more s due
    (subst (λ (l : List (List ℕ)). reached l s due) (sym (append_assoc lines (line ∷ []) more)) h) in
    laws.fronts lines line later.0 later.1 later.2

-- no line of a run is outside the grammar
pub no_bad_line : {S : Type 0} (reached : Reaching S) → AreLinesOfRun reached
    → (ending : List ℕ) (lines more : List (List ℕ)) (told : List ℕ) (s : S) (due : List ℕ)
    → HasBadLine reached ending lines told → reached (lines ++ more) s due → ⊥
no_bad_line reached laws ending lines more told s due bad h =
    let parts : lines ++ more ≡ (bad.before ++ bad.line ∷ []) ++ (bad.rest ++ more) =
    ap (λ l. l ++ more) bad.parts ∙ append_assoc bad.before (bad.line ∷ bad.rest) more
    ∙ sym (append_assoc bad.before (bad.line ∷ []) (bad.rest ++ more)) in
    let front =
    front_reached reached laws (bad.before ++ bad.line ∷ []) (bad.rest ++ more) s due
    (subst (λ (l : List (List ℕ)). reached l s due) parts h) in
    bad.bad front.0 front.1 front.2

-- an input whose lines a run has isn't stopped
pub never_stopped : {S : Type 0} (reached : Reaching S) → AreLinesOfRun reached
    → (ending text : List ℕ) (left' written written' : Option (List ℕ)) (s : S) (due : List ℕ)
    → reached (lines_of text) s due → AreStopped reached ending (Some text) left' written written' → ⊥
never_stopped reached laws ending text None written written' s due h stop = stop.came.0
never_stopped reached laws ending text (Some rest) written written' s due h stop =
    let grown = Grows-lines_of stop.taken rest in
    elim stop.ended as (λ t. stop.ended ≡ t → ⊥) [
      | true ↦ λ e.
          let whole : text ≡ stop.taken =
          stop.came.0 ∙ ap (λ l. stop.taken ++ l) (stop.came.1 e) ∙ append-nil stop.taken in
          let bad = subst (λ (t : Bool). HasBadLine reached ending (lines_come t stop.taken) stop.due) e stop.bad in
          let all = ap lines_of whole ∙ sym (append-nil (lines_of stop.taken)) in
          no_bad_line reached laws ending (lines_of stop.taken) [] stop.due s due bad
          (subst (λ (l : List (List ℕ)). reached l s due) all h)
      | false ↦ λ e.
          let bad = subst (λ (t : Bool). HasBadLine reached ending (lines_come t stop.taken) stop.due) e stop.bad in
          let all = ap lines_of stop.came.0 ∙ grown.is in
          no_bad_line reached laws ending (whole_lines stop.taken) grown.more stop.due s due bad
          (subst (λ (l : List (List ℕ)). reached l s due) all h)
    ] refl
