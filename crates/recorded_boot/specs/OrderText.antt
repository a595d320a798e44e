-- The text of an order, and when a text is not one (own). Lines that are empty or begin with `#` are skipped, and nothing follows `stop`.
use Rattle.std.specs.Prelude.{◌≡◌, ◌⊎◌, ℕ, true, false, not, List, [], ◌∷◌, ◌++◌, map, filter, Option, Some, None, is_some, Result, Ok, Err}
use Rattle.std.specs.List.{enumerate_from}
use Rattle.line_words.specs.Line.{lines, is_passed_over}
use Rattle.recorded_boot.specs.declared.order.fault.OrderFault.{OrderFault}
use Rattle.recorded_boot.specs.declared.order.fault.OrderFault.TheVariants.{Bad, Memory}
use Rattle.recorded_boot.specs.{declared.order.line.Asked.Asked, declared.order.lines.StartOrder.StartOrder, LineText.asked_of}
use Rattle.recorded_boot.specs.declared.order.line.Asked.TheVariants as A

-- lines that are not skipped, each with its number, the first line having this one
abbrev pub numbered_from : ℕ → List (List ℕ) → List (ℕ × List ℕ)
numbered_from number lines = filter (λ line. not (is_passed_over line.1)) (enumerate_from number lines)

-- those of a text, numbered from one on
abbrev pub numbered : List ℕ → List (ℕ × List ℕ)
numbered text = numbered_from 1 (lines text)

-- what lines ask for
abbrev pub spelled : List (ℕ × List ℕ) → List (Option Asked)
spelled lines = map (λ line. asked_of line.0 line.1) lines

-- the stop is the last thing that an order asks for
abbrev pub last_asked : Option ℕ → List Asked
last_asked None = []
last_asked (Some line) = A.Stop line ∷ []

-- what an order asks for, from first to last
abbrev pub all_asked : StartOrder → List Asked
all_asked order = map (λ start. A.Start start) order.starts ++ last_asked order.stop

-- lines spell an order: each is one of the things that it asks for
abbrev pub AreLinesOf : StartOrder → List (ℕ × List ℕ) → Type 0
AreLinesOf order lines = spelled lines ≡ map (λ asked. Some asked) (all_asked order)

-- the order that a text spells
abbrev pub IsOrder : List ℕ → StartOrder → Type 0
IsOrder text order = AreLinesOf order (numbered text)

-- the first bad line: those before it spell an order, and it asks for nothing or is after the stop
pub record IsFirstBad (text : List ℕ) (number : ℕ) : Type 0 where
  pub before : List (ℕ × List ℕ)
  pub line : List ℕ
  pub behind : List (ℕ × List ℕ)
  pub are : numbered text ≡ before ++ (number, line) ∷ behind
  pub order : StartOrder
  pub spell : AreLinesOf order before
  pub bad : (asked_of number line ≡ None) ⊎ (is_some order.stop ≡ true)

-- the fault is that of the text's first bad line, unless memory runs out
abbrev pub IsOrderFault : List ℕ → OrderFault → Type 0
IsOrderFault text (Bad line) = IsFirstBad text line
IsOrderFault text Memory = Unit {0}

-- what taking a line with its number leaves: what was asked for with its own, if it is not skipped; or it is bad
abbrev pub TakesLine : StartOrder → ℕ → List ℕ → Result (Unit {0}) OrderFault → StartOrder → Type 0
TakesLine old number line (Ok _) new =
    map (λ asked. Some asked) (all_asked new) ≡ map (λ asked. Some asked) (all_asked old) ++ spelled (numbered_from number (line ∷ []))
TakesLine old number line (Err (Bad at)) new =
    (at ≡ number) × (is_passed_over line ≡ false) × ((asked_of number line ≡ None) ⊎ (is_some old.stop ≡ true))
TakesLine old number line (Err Memory) new = Unit {0}
