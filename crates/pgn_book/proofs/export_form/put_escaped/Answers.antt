use Rattle.std.proofs.Common.{ℕ, ◌++◌, List, take, get_or, sym, ap, ◌∙◌, append_assoc}
use Rattle.pgn_book.specs.Lexing.{escaped, escaped_byte}
use Rattle.pgn_book.proofs.Escapes.{escaped_more}
use Rattle.pgn_book.proofs.export_form.put_escaped.Goals as goal

pub loop-byte-preserved : goal.loop-byte-preserved
loop-byte-preserved c =
    let text : List ℕ = c.args.text.now in
    let old : List ℕ = c.args.out.now.items in
    let byte : List ℕ = escaped_byte (get_or text c.loop-byte.byte-index 0) in
    c.in_ok-put_byte.ensures ∙ ap (λ (l : List ℕ). l ++ byte) c.loop-byte.invariant
    ∙ append_assoc old (escaped (take c.loop-byte.byte-index text)) byte
    ∙ ap (λ (l : List ℕ). old ++ l) (sym (escaped_more text c.loop-byte.byte-index c.loop-byte-test.true))
