-- Which command a word names, by what the table's rows say, whatever the table.
use Rattle.std.proofs.Common.{◌≡◌, ℕ, ap, ◌∙◌, Option, Some, None, Result, Ok}
use Rattle.fics_words.specs.declared.refusal.Refusal.{Refusal}
use Rattle.command_words.specs.declared.rows.Takes.{Takes}
use Rattle.command_words.specs.Naming.{called_or, one_by_front}

-- a command of that name or short form stands before those whose names begin with the word
pub by_name : (found begun : Option Takes) (count : ℕ) (takes : Takes) → Some takes ≡ found
    → Ok takes ≡ called_or found (one_by_front count begun)
by_name found begun count takes is = ap (λ (o : Option Takes). called_or o (one_by_front count begun)) is

pub by_front : (found begun begun-is : Option Takes) (count count-is : ℕ) (result : Result Takes Refusal)
    → None ≡ found → count-is ≡ count → begun-is ≡ begun → result ≡ one_by_front count-is begun-is
    → result ≡ called_or found (one_by_front count begun)
by_front found begun begun-is count count-is result none c b is =
    is ∙ ap (λ (n : ℕ). one_by_front n begun-is) c ∙ ap (λ (o : Option Takes). one_by_front count o) b
    ∙ ap (λ (o : Option Takes). called_or o (one_by_front count begun)) none
