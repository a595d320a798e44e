-- A map that is ordered by its GUIDs' bytes is asked by the same GUIDs.
use Rattle.std.proofs.Common.{◌≡◌, Bool, List, cond, Some, sym, ◌∙◌, is_eq, nat_cmp}
use Rattle.std.proofs.lemmas.Map.Text.{is_eq-slice_cmp}
use Rattle.std.specs.{Map.lookup, Cmp.Lexicographic.slice_cmp}
use Rattle.pi_base.specs.{declared.guid.Guid.Guid, Guids.same_guid, GuidMap.value_of}

-- whether two GUIDs are neither before nor behind each other
abbrev pub is_level : Guid → Guid → Bool
is_level a b = is_eq (slice_cmp nat_cmp a.0 b.0)

pub lookup-is_level : {V : Type 0} (map : List (Guid × V)) (guid : Guid) → lookup (is_level guid) map ≡ value_of map guid
lookup-is_level map guid j = lookup (λ other. is_eq-slice_cmp guid.0 other.0 j) map

-- a write to such a map
pub is_put : {V : Type 0} (old new : List (Guid × V)) (guid : Guid) (value : V)
    → ((other : Guid) → lookup (is_level other) new ≡ cond (is_level guid other) (Some value) (lookup (is_level other) old))
    → (other : Guid) → value_of new other ≡ cond (same_guid guid other) (Some value) (value_of old other)
is_put old new guid value put other =
    sym (lookup-is_level new other) ∙ put other ∙ (λ j. cond (is_eq-slice_cmp guid.0 other.0 j) (Some value) (lookup-is_level old other j))
