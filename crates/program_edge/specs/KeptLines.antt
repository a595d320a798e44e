-- Lines of a boot that the words on standard error are made of (own).
use Rattle.std.specs.Prelude.{ℕ, Bool, ◌||◌, List, codes, nat_eq}
use Rattle.std.specs.List.{starts_with}

-- starts, discovered volumes, modules that wait, the service `memory`, and the hand-off
abbrev pub is_of_boot : List ℕ → Bool
is_of_boot line =
    starts_with nat_eq line (codes "pei start ") || starts_with nat_eq line (codes "dxe start ") || starts_with nat_eq line (codes "dxe volume ")
    || starts_with nat_eq line (codes "waiting ") || starts_with nat_eq line (codes "call memory ") || starts_with nat_eq line (codes "handoff ")
