-- What is at the front of a text (own).
use Rattle.std.specs.Prelude.{ℕ, Bool, ◌&&◌, ◌==◌, if◌then◌else◌, List, length, take, drop, bytes_eq, nat_lt, Option, Some, None, option_map, option_and_then}
use Rattle.std.specs.List.{list_all}
use Rattle.pi_base.specs.{declared.guid.Guid.Guid, GuidText.guid_of_text, WordText.guid_text}

-- what follows a front, if the text begins with it
abbrev pub behind : List ℕ → List ℕ → Option (List ℕ)
behind front text = if bytes_eq (take (length front) text) front then Some (drop (length front) text) else None

-- sixteen bytes
abbrev pub is_guid : List ℕ → Bool
is_guid bytes = (length bytes == 16) && list_all (λ byte. nat_lt byte 256) bytes

-- the GUID of these bytes, if the word is its text
abbrev pub spelled_so : List ℕ → List ℕ → Option Guid
spelled_so word bytes = if is_guid bytes && bytes_eq (guid_text (record { 0 = bytes })) word then Some (record { 0 = bytes }) else None

-- the GUID whose text the word is
unfoldable pub guid_word : List ℕ → Option Guid
guid_word word = option_and_then (spelled_so word) (guid_of_text word)

-- the GUID whose text is at the front, and what follows it
unfoldable pub guid_front : List ℕ → Option (Guid × List ℕ)
guid_front text = if nat_lt (length text) 36 then None else option_map (λ guid. (guid, drop 36 text)) (guid_word (take 36 text))
