use Rattle.pgn_book.proofs.Walking.{word_by_name, word_by_sign}
use Rattle.pgn_book.proofs.bytes.is_word_byte.Goals as goal

pub returns-then-is_name_byte : goal.returns-then-is_name_byte
returns-then-is_name_byte c =
    word_by_name c.args.byte c.is_name_byte.result c.is_name_byte.ensures c.if-is_name_byte.true

pub returns-else-is_name_byte : goal.returns-else-is_name_byte
returns-else-is_name_byte c =
    word_by_sign c.args.byte c.is_name_byte.result c.is_among.result c.is_name_byte.ensures c.if-is_name_byte.false
    c.is_among.ensures
