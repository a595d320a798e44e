-- A stream that goes on by one section, and where a sound section lies.
use Rattle.std.proofs.Common.{◌≡◌, ℕ, ◌+◌, ◌<◌, ◌≤◌, Bool, true, false, cond, List, [], ◌∷◌, ◌++◌, length, Option, Some, None, Result, Ok, Err, refl, arith, nat_le}
use Rattle.std.proofs.lemmas.Bool.Decides.{nat_tests}
use Rattle.fv_volume.specs.{declared.sections.section.Section.Section, declared.sections.section_header.SectionHeader.SectionHeader}
use Rattle.fv_volume.specs.declared.sections.fault.SecCause.{SecCause}
use Rattle.fv_volume.specs.SectionHeader.{header_at, section_of, section_at}
use Rattle.fv_volume.specs.Stream.{GoesOn, Leads, place_after, met_at}

-- one section more
pub leads_more : (bytes : List ℕ) (from : ℕ) (sections : List Section) (to : ℕ) (section : Section)
    → Leads bytes from sections to → GoesOn bytes to → section_at bytes to ≡ Ok section → Leads bytes from (sections ++ section ∷ []) (place_after section)
leads_more bytes from [] to section path on here = (rw path on, rw path here, refl)
leads_more bytes from (first ∷ rest) to section path on here = (path.0, path.1, leads_more bytes (place_after first) rest to section path.2 on here)

-- a choice that did not fail
pub passed : (b : Bool) (cause : SecCause) (other : Result Section SecCause) (section : Section) → cond b (Err cause) other ≡ Ok section → (b ≡ false) × (other ≡ Ok section)
passed true cause other section e = absurd cc
passed false cause other section e = (refl, e)

-- a section that is met is sound, and not one too many
pub met_ok : (bytes : List ℕ) (count at : ℕ) (section : Section) → met_at bytes count at ≡ Ok section → (count < 256) × (section_at bytes at ≡ Ok section)
met_ok bytes count at section e =
    let p = passed (nat_le 256 count) _ (section_at bytes at) section e in
    let few : count < 256 = grind (arith, nat_tests) in
    (few, p.1)

-- a section's header and body lie one after the other in the bytes
pub record Lies (bytes : List ℕ) (at : ℕ) (section : Section) : Type 0 where
  pub begins : at + 4 ≤ section.body_at
  pub ends : section.body_at + section.body_len ≤ length bytes

header_least : (bytes : List ℕ) (at : ℕ) (header : SectionHeader) → header_at bytes at ≡ Some header → 4 ≤ header.len
header_least bytes at header e = grind (arith, nat_tests)

lies_of : (bytes : List ℕ) (at : ℕ) (header : Option SectionHeader) (section : Section)
    → ((h : SectionHeader) → header ≡ Some h → 4 ≤ h.len) → section_of bytes at header ≡ Ok section → Lies bytes at section
lies_of bytes at None section least e = absurd cc
lies_of bytes at (Some h) section least e =
    let four : 4 ≤ h.len = least h refl in
    record { begins = grind (arith, nat_tests); ends = grind (arith, nat_tests) }

pub section_lies : (bytes : List ℕ) (at : ℕ) (section : Section) → section_at bytes at ≡ Ok section → Lies bytes at section
section_lies bytes at section e = lies_of bytes at (header_at bytes at) section (header_least bytes at) e
