-- A stream of sections: what is in it, or the first fault. (PI 1.8, volume 3, firmware file sections.)
use Rattle.std.specs.Prelude.{◌≡◌, ℕ, ◌+◌, ◌-◌, ◌*◌, ◌/◌, ◌<◌, ◌≤◌, List, [], ◌∷◌, length, Result, Ok, Err, All, AllPairs, if◌then◌else◌, nat_le}
use Rattle.fv_volume.specs.declared.sections.section_header.TheConstants.{HEADER_LEN}
use Rattle.fv_volume.specs.declared.sections.stream.TheConstants.{MOST_SECTIONS, ALIGNMENT}
use Rattle.fv_volume.specs.{declared.sections.section.Section.Section, declared.sections.fault.SecCause.SecCause}
use Rattle.fv_volume.specs.{declared.sections.fault.SecCause.TheVariants.TooMany, declared.sections.fault.SecFault.SecFault}
use Rattle.fv_volume.specs.SectionHeader.{section_at}

-- the least place from here on at which a section may begin
abbrev pub aligned : ℕ → ℕ
aligned n = (n + (ALIGNMENT - 1)) / ALIGNMENT * ALIGNMENT

-- the place after a section
abbrev pub place_after : Section → ℕ
place_after section = aligned (section.body_at + section.body_len)

-- the stream continues at a place if a header has room there, and ends otherwise
abbrev pub GoesOn : List ℕ → ℕ → Type 0
GoesOn bytes at = at + HEADER_LEN ≤ length bytes

-- sound sections are from one place to another
abbrev pub Leads : List ℕ → ℕ → List Section → ℕ → Type 0
Leads bytes from [] to = from ≡ to
Leads bytes from (section ∷ rest) to = GoesOn bytes from × (section_at bytes from ≡ Ok section) × Leads bytes (place_after section) rest to

-- the bytes are a stream of these sections
abbrev pub AreSections : List ℕ → List Section → Type 0
AreSections bytes sections = (end : ℕ) × Leads bytes 0 sections end × (length bytes < end + HEADER_LEN) × (length sections ≤ MOST_SECTIONS)

-- what is met at a place after so many sections
abbrev pub met_at : List ℕ → ℕ → ℕ → Result Section SecCause
met_at bytes count at = if nat_le MOST_SECTIONS count then Err TooMany else section_at bytes at

-- sound sections are before the fault, and the fault at its place
abbrev pub IsFirstFault : List ℕ → SecFault → Type 0
IsFirstFault bytes fault =
    (before : List Section) × Leads bytes 0 before fault.at × (length before ≤ MOST_SECTIONS)
    × GoesOn bytes fault.at × (met_at bytes (length before) fault.at ≡ Err fault.cause)

-- each section's body is inside the bytes
abbrev pub AreInside : List ℕ → List Section → Type 0
AreInside bytes sections = All (λ section. section.body_at + section.body_len ≤ length bytes) sections

-- each section's body is after those before it
abbrev pub AreInOrder : List Section → Type 0
AreInOrder sections = AllPairs (λ a b. a.body_at + a.body_len ≤ b.body_at) sections
