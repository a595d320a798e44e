-- The text of lists of lines, list by list.
use Rattle.std.proofs.Common.{◌≡◌, List, [], ◌∷◌, ◌++◌, refl, ap, ◌∙◌, flat_map}
use Rattle.std.proofs.lemmas.Grind.{flat_map-append}
use Rattle.boot_model.specs.{declared.line.Line.Line, Text.line_text, Text.text_of}

-- item by item
pub text_of-flat_map : {X : Type 0} (lines : X → List Line) (xs : List X) → text_of (flat_map lines xs) ≡ flat_map (λ x. text_of (lines x)) xs
text_of-flat_map lines [] = refl
text_of-flat_map lines (x ∷ xs) = flat_map-append line_text (lines x) (flat_map lines xs) ∙ ap (λ t. text_of (lines x) ++ t) (text_of-flat_map lines xs)

pub text_of-append : (a b : List Line) → text_of (a ++ b) ≡ text_of a ++ text_of b
text_of-append a b = flat_map-append line_text a b
