-- The text of a list, with lines and without.
use Rattle.std.proofs.Common.{◌≡◌, ℕ, ◌<◌, List, [], ◌∷◌, ◌++◌, length, codes, Result, Ok, Err, arith, append_assoc, ◌∙◌}
use Rattle.std.specs.Prelude.{OnOk}
use Rattle.memory.specs.declared.NoMemory.{NoMemory}
use Rattle.session_core.specs.Texts.{line_end, lines_text, list_text}

pub none_put : (result : Result (Unit {0}) NoMemory) (out out' : List ℕ) (lines : List (List ℕ)) → length lines ≡ 0
    → OnOk result (out' ≡ out ++ codes "none" ++ line_end) → OnOk result (out' ≡ out ++ list_text lines)
none_put (Ok u) out out' [] none put = put ∙ append_assoc out (codes "none") line_end
none_put (Ok u) out out' (line ∷ lines) none put = absurd (omega (arith, none))
none_put (Err e) out out' lines none put = tt

pub some_put : (result : Result (Unit {0}) NoMemory) (out out' : List ℕ) (lines : List (List ℕ)) → 0 < length lines
    → OnOk result (out' ≡ out ++ lines_text lines) → OnOk result (out' ≡ out ++ list_text lines)
some_put result out out' [] some put = absurd (omega (arith, some))
some_put result out out' (line ∷ lines) some put = put
