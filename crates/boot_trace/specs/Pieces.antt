-- The word that each piece of a line stands for (own).
use Rattle.std.specs.Prelude.{ℕ, List, [], ◌∷◌, decimal, map}
use Rattle.hex.specs.Hex.{encode_lower}
use Rattle.pi_base.specs.WordText.{guid_text, hexadecimal}
use Rattle.boot_model.specs.Text.{expression_text}
use Rattle.boot_trace.specs.declared.piece.Piece.{Piece}
use Rattle.boot_trace.specs.declared.piece.Piece.TheVariants as P

-- the word of a piece
abbrev pub piece_text : Piece → List ℕ
piece_text (P.Text bytes) = bytes.now
piece_text (P.Number n) = decimal n
piece_text (P.Decimal n) = decimal n
piece_text (P.Hexadecimal n) = hexadecimal n
piece_text (P.Name guid) = guid_text guid
piece_text (P.Byte byte) = encode_lower (byte ∷ [])
piece_text (P.Bytes bytes) = encode_lower bytes.now
piece_text (P.Expression expression) = expression_text expression

-- the words of pieces
abbrev pub piece_texts : List Piece → List (List ℕ)
piece_texts pieces = map piece_text pieces
