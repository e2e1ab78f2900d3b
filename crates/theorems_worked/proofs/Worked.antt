-- The worked examples hold: one claim, by computation.
-- Assumes nothing.
use mathlib.Core.Path.{refl}
use Rattle.text_classes.specs.Classes.{wschar, token_start, literal_char, mll_char, basic_unescaped, mlb_unescaped, hexdig, unquoted_char}
use Rattle.text_classes.specs.Runs.{run, triple}
use Rattle.text_scalars.specs.Utf8.{encode_scalar}
use Rattle.decoder_rules.specs.Encodings.{choice_in, choice_by, mll_plain, mlb_plain, basic_invalid, mlb_invalid}
use Rattle.decoder_rules.specs.Pieces.{gives, notes}
use Rattle.decoder_rules.specs.Escapes.{letter_of, hex_value, hex_from, hex_piece, escape_piece}
use Rattle.decoder_rules.specs.Bodies.{literal_piece, ml_literal_piece, basic_piece, skips, escaped_nl, escaped_more, mlb_content, ml_basic_piece, key_piece}
use Rattle.decoder_rules.specs.Marks.{line_ends, newline_len, ml_start, ml_closed, trimmed, ml_end, ml_ends, key_ends}
use Rattle.decoder_rules.specs.Decoding.{bytes_of, errors_of}
use Rattle.lexer_scans.specs.Extents.{line_tail, up_to_two, ml_tail, newline_tail}
use Rattle.lexer.specs.Table.{kind_by, kind_of, extent, token_len}
use Rattle.lexer.specs.Tokens.{walk, tokens_from, start_of, tokens_of}
use Rattle.lexer.specs.Whole.{records_of}
use Rattle.theorems_worked.specs.Examples.{Hold, examples}

pub worked : Hold examples
unfolding wschar token_start line_tail triple up_to_two ml_tail newline_tail kind_by kind_of extent token_len walk tokens_from start_of tokens_of records_of literal_char mll_char basic_unescaped mlb_unescaped hexdig unquoted_char run encode_scalar choice_by choice_in mll_plain mlb_plain basic_invalid mlb_invalid gives notes letter_of hex_value hex_from hex_piece escape_piece literal_piece ml_literal_piece basic_piece skips escaped_nl escaped_more mlb_content ml_basic_piece key_piece line_ends newline_len ml_start ml_closed trimmed ml_end ml_ends key_ends bytes_of errors_of
worked = (refl, (refl, (refl, (refl, (refl, ((refl, refl), ((refl, refl), ((refl, refl), ((refl, refl), ((refl, refl), ((refl, refl), ((refl, refl), ((refl, refl), tt)))))))))))))
