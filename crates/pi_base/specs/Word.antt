-- The statuses that boot services return, and their numbers in a script (own).
use Rattle.std.specs.Prelude.{ℕ}
use Rattle.pi_base.specs.declared.word.Word.{Word}
use Rattle.pi_base.specs.declared.word.Word.TheVariants.{Success, InvalidParameter, NotFound, OutOfResources, NotAvailableYet, AlreadyStarted, AccessDenied}

-- the number of a word
abbrev pub word_number : Word → ℕ
word_number Success = 0
word_number InvalidParameter = 1
word_number NotFound = 2
word_number OutOfResources = 3
word_number NotAvailableYet = 4
word_number AlreadyStarted = 5
word_number AccessDenied = 6
