-- GUIDs as people write them (own): the usual text in either case, in braces or not, or one of seven names.
use Rattle.std.specs.Prelude.{ℕ, ◌-◌, ◌&&◌, ◌==◌, bytes_eq, nat_lt, if◌then◌else◌, List, length, take, drop, slice_index, Option, Some, option_map, codes}
use Rattle.pi_base.specs.{declared.guid.Guid.Guid, GuidText.guid_of_text}
use Rattle.pi_base.specs.declared.known_guid.TheConstants.{VOLUME_INFO_PPI, MEMORY_PPI, DXE_IPL_PPI}
use Rattle.fv_volume.specs.declared.volume_header.TheConstants.{FFS2, FFS3}
use Rattle.source_words.specs.declared.guid.TheConstants.{PEI_APRIORI, DXE_APRIORI}

-- the word without the braces round it
abbrev pub unbraced : List ℕ → List ℕ
unbraced word = if nat_lt 1 (length word) && ((slice_index word 0 == 123) && (slice_index word (length word - 1) == 125)) then take (length word - 2) (drop 1 word) else word

-- the GUID whose text a word is
abbrev pub guid_spelled : List ℕ → Option Guid
guid_spelled word = option_map (λ bytes. record { 0 = bytes }) (guid_of_text (unbraced word))

-- the GUID that a word names or spells
unfoldable pub guid_of : List ℕ → Option Guid
guid_of word =
    if bytes_eq word (codes "pei-apriori") then Some PEI_APRIORI
    else if bytes_eq word (codes "dxe-apriori") then Some DXE_APRIORI
    else if bytes_eq word (codes "volume-info-ppi") then Some VOLUME_INFO_PPI
    else if bytes_eq word (codes "memory-ppi") then Some MEMORY_PPI
    else if bytes_eq word (codes "dxe-ipl-ppi") then Some DXE_IPL_PPI
    else if bytes_eq word (codes "ffs2") then Some (record { 0 = FFS2 })
    else if bytes_eq word (codes "ffs3") then Some (record { 0 = FFS3 })
    else guid_spelled word
