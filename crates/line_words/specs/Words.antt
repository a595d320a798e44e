-- The words of a line (own). They are separated by one or more spaces, and no space is before the first or after the last.
use Rattle.std.specs.Prelude.{ℕ, Bool, ◌&&◌, ◌||◌, not, nat_lt, nat_le, ◌==◌, List, length, filter, slice_index, ◌-◌}
use Rattle.std.specs.List.{slice_split, list_all}

-- what is between the spaces of a line
abbrev pub words : List ℕ → List (List ℕ)
words line = filter (λ word. nat_lt 0 (length word)) (slice_split (λ byte. byte == 32) line)

-- a space is first or last
abbrev pub has_outer_space : List ℕ → Bool
has_outer_space line = slice_index line 0 == 32 || slice_index line (length line - 1) == 32

-- bytes from the space to the tilde alone, and a space neither first nor last
abbrev pub is_plain : List ℕ → Bool
is_plain line = list_all (λ byte. nat_le 0x20 byte && nat_le byte 0x7e) line && not (has_outer_space line)
