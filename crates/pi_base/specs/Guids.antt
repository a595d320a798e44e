-- When two GUIDs are the same, and GUIDs in a run of bytes.
use Rattle.std.specs.Prelude.{ℕ, Bool, List, take, drop, bytes_eq}
use Rattle.pi_base.specs.declared.guid.Guid.{Guid}

-- whether their sixteen bytes are the same
abbrev pub same_guid : Guid → Guid → Bool
same_guid a b = bytes_eq a.0 b.0

-- the GUID whose sixteen bytes are at an offset
abbrev pub guid_at : List ℕ → ℕ → Guid
guid_at bytes at = record { 0 = take 16 (drop at bytes) }
