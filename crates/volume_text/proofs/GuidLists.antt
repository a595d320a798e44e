-- GUIDs to the end of a line, read one by one.
use Rattle.std.proofs.Common.{◌≡◌, ℕ, List, [], ◌∷◌, ◌++◌, Some, None, Result, Ok, Err, refl, sym, ap, append_assoc, append-nil}
use Rattle.pi_base.specs.declared.guid.Guid.{Guid}
use Rattle.source_words.specs.GuidWord.{guid_of}
use Rattle.volume_text.specs.{declared.fault.Cause.Cause, Reading.◌>>=◌, Bytes.guids_of}
use Rattle.volume_text.specs.declared.fault.Cause.TheVariants as cause

-- bytes in front of others
abbrev pub in_front : List ℕ → Result (List ℕ) Cause → Result (List ℕ) Cause
in_front list (Ok others) = Ok (list ++ others)
in_front list (Err e) = Err e

regrouped : (list guid : List ℕ) (others : Result (List ℕ) Cause) → in_front list (others >>= (λ xs. Ok (guid ++ xs))) ≡ in_front (list ++ guid) others
regrouped list guid (Ok xs) = ap Ok (sym (append_assoc list guid xs))
regrouped list guid (Err e) = refl

pub one_more : (list word : List ℕ) (others : List (List ℕ)) (guid : Guid) → guid_of word ≡ Some guid
    → in_front list (guids_of (word ∷ others)) ≡ in_front (list ++ guid.0) (guids_of others)
one_more list word others guid read = rw read (regrouped list guid.0 (guids_of others))

pub no_guid : (list word : List ℕ) (others : List (List ℕ)) → guid_of word ≡ None → in_front list (guids_of (word ∷ others)) ≡ Err cause.Guid
no_guid list word others read = rw read refl

pub all_read : (list : List ℕ) → in_front list (guids_of []) ≡ Ok list
all_read list = ap Ok (append-nil list)
