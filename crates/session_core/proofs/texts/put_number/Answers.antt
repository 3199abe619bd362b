use Rattle.std.proofs.Common.{◌≡◌, ℕ, List, ◌++◌, Ok, Err, Result, ap, sym, ◌∙◌}
use Rattle.std.specs.Prelude.{codes, decimal}
use Rattle.std.specs.Result.{OnOk}
use Rattle.std.proofs.lemmas.List.{append_assoc}
use Rattle.memory.specs.declared.NoMemory.{NoMemory}
use Rattle.session_core.specs.Texts.{line_end}
use Rattle.session_core.proofs.texts.put_number.Goals as goal

where_written : {P Q : Type 0} (result : Result (Unit {0}) NoMemory) → (P → Q) → OnOk result P → OnOk result Q
where_written (Ok u) f p = f p
where_written (Err e) f p = tt

-- one behind the other is one text
at_once : (out front number stop end : List ℕ)
    → ((out ++ front) ++ number) ++ (stop ++ end) ≡ out ++ (((front ++ number) ++ stop) ++ end)
at_once out front number stop end =
    ap (λ (x : List ℕ). x ++ (stop ++ end)) (append_assoc out front number)
    ∙ append_assoc out (front ++ number) (stop ++ end)
    ∙ ap (λ (x : List ℕ). out ++ x) (sym (append_assoc (front ++ number) stop end))

pub returns : goal.returns
returns c =
    let out : List ℕ = c.args.out.now.items in
    where_written c.put_count.result
    (λ e.
    e
    ∙ ap
    (λ n.
    ((out ++ codes "Your seek is ") ++ decimal n) ++ codes ".\n\r") c.from.ensures
    ∙ at_once out (codes "Your seek is ") (decimal c.args.number) (codes ".") line_end)
    c.put_count.ensures
