-- The lines of a catalogue: of each module its own line, and of each of its parts the expression and the GUIDs that its script may install.
-- Own; the name is that of PI 1.8, volume 3, `EFI_SECTION_USER_INTERFACE`.
use Rattle.std.specs.Prelude.{◌≡◌, ℕ, ◌+◌, if◌then◌else◌, List, [], ◌∷◌, ◌++◌, codes, decimal, flat_map, Option, Some, None}
use Rattle.hex.specs.Hex.{encode_lower}
use Rattle.boot_io.specs.Line.{line_of}
use Rattle.pi_base.specs.{WordText.guid_text, Lists.EachPair, declared.phase.Phase.Phase}
use Rattle.pi_base.specs.declared.phase.Phase.TheVariants.{Pei, Dxe}
use Rattle.act_code.specs.declared.script.Script.{Script}
use Rattle.asm_text.specs.ExpressionText.{expression_text}
use Rattle.mod_catalog.specs.{declared.catalogue.Module.Module, declared.catalogue.Part.Part, declared.catalogue.PartExpr.PartExpr}
use Rattle.mod_catalog.specs.declared.catalogue.PartExpr.TheVariants.{Absent, Malformed, Held}
use Rattle.mod_catalog.specs.declared.catalogue.VolumeEntry.{VolumeEntry}
use Rattle.explain_text.specs.{Name.title_word, Title.IsTitle, Gives.given_in, Gives.gives_any, Words.word_of}
use Rattle.explain_text.specs.declared.keyword.Keyword.TheVariants as K

-- the word of a phase
unfoldable pub phase_text : Phase → List ℕ
phase_text Pei = codes "pei"
phase_text Dxe = codes "dxe"

-- an expression that can't be read, with the offset of the opcode that fails
abbrev pub malformed_text : ℕ → List ℕ
malformed_text at = codes "malformed@" ++ decimal at

-- the text of an expression
abbrev pub expr_text : PartExpr → List ℕ
expr_text Absent = codes "-"
expr_text (Malformed at) = malformed_text at
expr_text (Held expression) = expression_text expression

-- the line of a module with its name
abbrev pub module_line : ℕ → Module → Option (List ℕ) → List ℕ
module_line number m title = line_of (word_of K.Module) (decimal number ∷ decimal m.volume ∷ guid_text m.name ∷ encode_lower (m.kind ∷ []) ∷ title_word title ∷ [])

-- the line of a part's expression
abbrev pub expr_line : ℕ → Phase → PartExpr → List ℕ
expr_line number phase expr = line_of (word_of K.Expr) (decimal number ∷ phase_text phase ∷ expr_text expr ∷ [])

-- the line of a GUID that a part's script may install
abbrev pub gives_line : ℕ → Phase → List ℕ → List ℕ
gives_line number phase word = line_of (word_of K.Gives) (decimal number ∷ phase_text phase ∷ word ∷ [])

-- those of all that it names, and last one where it may install what it does not name
abbrev pub gives_lines : ℕ → Phase → Script → List ℕ
gives_lines number phase script =
    flat_map (λ guid. gives_line number phase (guid_text guid)) (given_in script) ++ (if gives_any script then gives_line number phase (word_of K.Any) else [])

-- the lines of a part
abbrev pub part_lines : ℕ → Phase → Option Part → List ℕ
part_lines number phase None = []
part_lines number phase (Some part) = expr_line number phase part.expr ++ gives_lines number phase part.script

-- the lines of a module
abbrev pub module_lines : ℕ → Module → Option (List ℕ) → List ℕ
module_lines number m title = module_line number m title ++ (part_lines number Pei m.pei ++ part_lines number Dxe m.dxe)

-- the lines of modules with their names; the first module has this number
abbrev pub catalog_lines : ℕ → List Module → List (Option (List ℕ)) → List ℕ
catalog_lines number [] titles = []
catalog_lines number (m ∷ ms) [] = []
catalog_lines number (m ∷ ms) (title ∷ titles) = module_lines number m title ++ catalog_lines (number + 1) ms titles

-- the text of a catalogue's modules, whose files lie in these images
abbrev pub IsCatalogText : List VolumeEntry → List (List ℕ) → List Module → List ℕ → Type 0
IsCatalogText volumes images modules text =
    (titles : List (Option (List ℕ))) × EachPair (IsTitle volumes images) modules titles × (text ≡ catalog_lines 0 modules titles)
