-- What the fields of a `MoveText` keep once a text has been copied over twelve zeros.
use Rattle.std.proofs.Common.{arith, ℕ, List, ◌++◌, length, drop, replicate, sym, subst, length-append, ◌∙◌}
use Rattle.std.proofs.Math.Seq.{take-append_seam, drop-append_seam}
use Rattle.std.proofs.lemmas.List.{drop-replicate}
use Rattle.chess_model.specs.MoveText.{IsMoveText}
use Rattle.chess_model.specs.MoveTextFields.{IsPadded}

pub IsPadded-copied : (text : List ℕ) → IsMoveText text →
    IsPadded (record { bytes = text ++ drop (length text) (replicate 12 0); len = length text })
IsPadded-copied text h = record {
  text =
      let P : List ℕ → Type 0 = λ t. IsMoveText t in
      subst P (sym (take-append_seam text (drop (length text) (replicate 12 0)))) h;
  whole = omega (arith, length-append text (drop (length text) (replicate 12 0)));
  rest = drop-append_seam text (drop (length text) (replicate 12 0)) ∙ drop-replicate (length text) 12 0;
}
