-- The first words of lines, and the words for phases, file systems and types (own).
use Rattle.std.specs.Prelude.{ℕ, nat_lt, bytes_eq, if◌then◌else◌, codes, List, [], ◌∷◌, Option, Some, None, option_and_then}
use Rattle.line_words.specs.Number.{number_of}
use Rattle.pi_base.specs.{declared.phase.Phase.Phase, declared.phase.Phase.TheVariants.Pei, declared.phase.Phase.TheVariants.Dxe}
use Rattle.fv_volume.specs.declared.file_type.TheConstants.{RAW, FREEFORM, SECURITY_CORE, PEI_CORE, DXE_CORE, PEIM, DRIVER, COMBINED_PEIM_DRIVER, APPLICATION, VOLUME_IMAGE, COMBINED_MM_DXE}
use Rattle.volume_text.specs.declared.keyword.Keyword.{Keyword}
use Rattle.volume_text.specs.declared.keyword.Keyword.TheVariants as keyword
use Rattle.fv_volume.specs.declared.build.file_system.FileSystem.{FileSystem}
use Rattle.fv_volume.specs.declared.build.file_system.FileSystem.TheVariants.{Ffs2, Ffs3}

abbrev pub plain_keyword_of : List ℕ → Option Keyword
plain_keyword_of word =
    if bytes_eq word (codes "guids") then Some keyword.Guids
    else if bytes_eq word (codes "raw") then Some keyword.Raw
    else if bytes_eq word (codes "section") then Some keyword.Section
    else if bytes_eq word (codes "ui") then Some keyword.Ui
    else if bytes_eq word (codes "body") then Some keyword.Body
    else if bytes_eq word (codes "block") then Some keyword.Block
    else if bytes_eq word (codes "end") then Some keyword.End
    else None

unfoldable pub keyword_of : List ℕ → Option Keyword
keyword_of word =
    if bytes_eq word (codes "volume") then Some keyword.Volume
    else if bytes_eq word (codes "name") then Some keyword.Name
    else if bytes_eq word (codes "file") then Some keyword.File
    else if bytes_eq word (codes "pad") then Some keyword.Pad
    else if bytes_eq word (codes "depex") then Some keyword.Depex
    else if bytes_eq word (codes "script") then Some keyword.Script
    else plain_keyword_of word

unfoldable pub phase_of : List ℕ → Option Phase
phase_of word = if bytes_eq word (codes "pei") then Some Pei else if bytes_eq word (codes "dxe") then Some Dxe else None

unfoldable pub system_of : List ℕ → Option FileSystem
system_of word = if bytes_eq word (codes "ffs2") then Some Ffs2 else if bytes_eq word (codes "ffs3") then Some Ffs3 else None

abbrev pub below_256 : ℕ → Option ℕ
below_256 n = if nat_lt n 256 then Some n else None

-- the byte that two hexadecimal digits spell
unfoldable pub byte_of : List ℕ → Option ℕ
byte_of (high ∷ low ∷ []) = option_and_then below_256 (number_of (48 ∷ (120 ∷ (high ∷ (low ∷ [])))))
byte_of _ = None

-- the type of a core or of an application, or one that two hexadecimal digits spell
unfoldable pub core_type_of : List ℕ → Option ℕ
core_type_of word =
    if bytes_eq word (codes "security-core") then Some SECURITY_CORE
    else if bytes_eq word (codes "pei-core") then Some PEI_CORE
    else if bytes_eq word (codes "dxe-core") then Some DXE_CORE
    else if bytes_eq word (codes "application") then Some APPLICATION
    else byte_of word

-- the type of a file
unfoldable pub file_type_of : List ℕ → Option ℕ
file_type_of word =
    if bytes_eq word (codes "raw") then Some RAW
    else if bytes_eq word (codes "freeform") then Some FREEFORM
    else if bytes_eq word (codes "peim") then Some PEIM
    else if bytes_eq word (codes "driver") then Some DRIVER
    else if bytes_eq word (codes "combined") then Some COMBINED_PEIM_DRIVER
    else if bytes_eq word (codes "volume-image") then Some VOLUME_IMAGE
    else if bytes_eq word (codes "mm-dxe") then Some COMBINED_MM_DXE
    else core_type_of word
