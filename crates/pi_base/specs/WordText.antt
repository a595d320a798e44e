-- Numbers, GUIDs and statuses as words (own).
use Rattle.std.specs.Prelude.{ℕ, false, List, ◌∷◌, codes}
use Rattle.std.specs.Fmt.{digits}
use Rattle.pi_base.specs.{declared.guid.Guid.Guid, declared.word.Word.Word}
use Rattle.pi_base.specs.declared.word.Word.TheVariants.{Success, InvalidParameter, NotFound, OutOfResources, NotAvailableYet, AlreadyStarted, AccessDenied}
use Rattle.pi_base.specs.GuidText.{hyphenated_text, lower, swap_fields}

-- a number in hexadecimal, with `0x` before it
abbrev pub hexadecimal : ℕ → List ℕ
hexadecimal n = 48 ∷ 120 ∷ digits 16 false n

-- a GUID's usual text, in lower case
abbrev pub guid_text : Guid → List ℕ
guid_text guid = hyphenated_text lower (swap_fields guid.0)

-- a status by its name
unfoldable pub word_text : Word → List ℕ
word_text Success = codes "Success"
word_text InvalidParameter = codes "InvalidParameter"
word_text NotFound = codes "NotFound"
word_text OutOfResources = codes "OutOfResources"
word_text NotAvailableYet = codes "NotAvailableYet"
word_text AlreadyStarted = codes "AlreadyStarted"
word_text AccessDenied = codes "AccessDenied"
