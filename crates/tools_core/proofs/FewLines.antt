-- A text has no more lines than bytes.
use Rattle.std.proofs.Common.{◌≤◌, List, [], ◌∷◌, ◌++◌, length, flat_map, arith, length-append}
use Rattle.boot_io.specs.Line.{spaced}
use Rattle.boot_model.specs.declared.line.Line.{Line}
use Rattle.boot_model.specs.Text.{keyword, line_text, text_of, words}

pub few_lines : (lines : List Line) → length lines ≤ length (text_of lines)
few_lines [] = omega arith
few_lines (line ∷ rest) =
    let here = length-append (keyword line ++ flat_map spaced (words line)) (10 ∷ []) in
    let all = length-append (line_text line) (text_of rest) in
    let more = few_lines rest in
    omega (arith, here, all, more)
