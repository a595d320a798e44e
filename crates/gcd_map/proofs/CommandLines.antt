-- The lines of a text of commands, one after another.
use Rattle.std.proofs.Common.{◌≡◌, ◌⊎◌, inl, inr, ℕ, zero, suc, ◌+◌, ◌-◌, ◌<◌, ◌≤◌, Bool, true, false, not, cond, List, [], ◌∷◌, ◌++◌, length, length-drop, map, take, drop, get_or, Option, Some, None, refl, sym, ap, ◌∙◌, subst, true≢false, arith, filter, Ok, Err, append-nil, take_all}
use Rattle.std.proofs.lemmas.Option.{same_Some, none-some}
use Rattle.std.proofs.lemmas.List.{map-append, drop_more, take_more}
use Rattle.line_words.specs.Line.{lines, is_passed_over}
use Rattle.gcd_map.specs.{declared.command.Command.Command, declared.commands.CommandFault.CommandFault}
use Rattle.gcd_map.specs.declared.commands.CommandFault.TheVariants.{Bad, Memory}
use Rattle.gcd_map.specs.CommandFaults.{IsCommandFault, TakesLine}
use Rattle.gcd_map.specs.CommandText.{command_of, spelled, AreCommands, IsBad, IsFirstBad}
use Rattle.gcd_map.proofs.Covers.{below_or}

abbrev somes : List Command → List (Option Command)
somes commands = map (λ command. Some command) commands

-- with one line more in front
pub spelled_first : (line : List ℕ) (lines : List (List ℕ)) → spelled (line ∷ lines) ≡ cond (is_passed_over line) (spelled lines) (command_of line ∷ spelled lines)
spelled_first line lines =
    elim (is_passed_over line) as (λ b. map command_of (cond (not b) (line ∷ filter (λ line. not (is_passed_over line)) lines) (filter (λ line. not (is_passed_over line)) lines))
    ≡ cond b (spelled lines) (command_of line ∷ spelled lines)) [
      | true ↦ refl
      | false ↦ refl
    ]

pub spelled_passed : (line : List ℕ) (lines : List (List ℕ)) → is_passed_over line ≡ true → spelled (line ∷ lines) ≡ spelled lines
spelled_passed line lines passed = spelled_first line lines ∙ rw passed refl

pub spelled_kept : (line : List ℕ) (lines : List (List ℕ)) (command : Option Command) → is_passed_over line ≡ false → command_of line ≡ command → spelled (line ∷ lines) ≡ command ∷ spelled lines
spelled_kept line lines command kept is = spelled_first line lines ∙ rw (kept, is) refl

front : (b : Bool) (o : Option Command) (xs ys : List (Option Command)) → cond b (xs ++ ys) (o ∷ xs ++ ys) ≡ cond b xs (o ∷ xs) ++ ys
front true o xs ys = refl
front false o xs ys = refl

-- behind other lines
pub spelled-append : (xs ys : List (List ℕ)) → spelled (xs ++ ys) ≡ spelled xs ++ spelled ys
spelled-append [] ys = refl
spelled-append (line ∷ xs) ys =
    let rest = spelled-append xs ys in
    spelled_first line (xs ++ ys) ∙ rw rest (front (is_passed_over line) (command_of line) (spelled xs) (spelled ys)) ∙ sym (ap (λ l. l ++ spelled ys) (spelled_first line xs))

-- what taking one line leaves
pub passed_line : (old : List Command) (number : ℕ) (line : List ℕ) → is_passed_over line ≡ true → TakesLine old number line (Ok tt) old
passed_line old number line passed =
    ((λ bad. true≢false (sym passed ∙ bad.0)), sym (ap (λ l. somes old ++ l) (spelled_passed line [] passed) ∙ append-nil (somes old)))

pub taken_line : (old new : List Command) (number : ℕ) (line : List ℕ) (command : Command) → is_passed_over line ≡ false → command_of line ≡ Some command
    → new ≡ old ++ command ∷ [] → TakesLine old number line (Ok tt) new
taken_line old new number line command kept is pushed = (
  (λ bad. none-some command (sym bad.1 ∙ is)),
  ap somes pushed ∙ map-append (λ command. Some command) old (command ∷ []) ∙ sym (ap (λ l. somes old ++ l) (spelled_kept line [] (Some command) kept is)),
)

head_same : (o p : Option Command) (xs ys : List (Option Command)) → o ∷ xs ≡ p ∷ ys → o ≡ p
head_same o p xs ys e = cc

tail_same : (o p : Option Command) (xs ys : List (Option Command)) → o ∷ xs ≡ p ∷ ys → xs ≡ ys
tail_same o p xs ys e = cc

pub somes_same : (a b : List Command) → somes a ≡ somes b → a ≡ b
somes_same [] [] e = refl
somes_same [] (y ∷ b) e = absurd (omega (arith, ap length e))
somes_same (x ∷ a) [] e = absurd (omega (arith, ap length e))
somes_same (x ∷ a) (y ∷ b) e =
    let head : x ≡ y = same_Some x y (head_same (Some x) (Some y) (somes a) (somes b) e) in
    let tail : a ≡ b = somes_same a b (tail_same (Some x) (Some y) (somes a) (somes b) e) in
    cc

-- no line of commands is bad
behind_command : (o : Option Command) (rest : List (Option Command)) (commands : List Command) → o ∷ rest ≡ somes commands → (more : List Command) × (command : Command) × (o ≡ Some command) × (rest ≡ somes more)
behind_command o rest [] e = absurd (omega (arith, ap length e))
behind_command o rest (command ∷ more) e = (more, command, head_same o (Some command) rest (somes more) e, tail_same o (Some command) rest (somes more) e)

line_test : (b : Bool) (o : Option Command) → (b ≡ true) ⊎ (((command : Command) × (b ≡ false) × (o ≡ Some command)) ⊎ ((b ≡ false) × (o ≡ None)))
line_test true o = inl refl
line_test false None = inr (inr (refl, refl))
line_test false (Some command) = inr (inl (command, refl, refl))

none_bad : (all : List (List ℕ)) (place : ℕ) (commands : List Command) → spelled all ≡ somes commands → place < length all → IsBad (get_or all place []) → ⊥
none_bad [] place commands e within bad = omega (arith, within)
none_bad (line ∷ all) zero commands e within bad =
    let first = behind_command None (spelled all) commands (sym (spelled_kept line all None bad.0 bad.1) ∙ e) in
    none-some first.1 first.2
none_bad (line ∷ all) (suc place) commands e within bad = elim (line_test (is_passed_over line) (command_of line)) [
  | inl passed ↦ none_bad all place commands (sym (spelled_passed line all passed) ∙ e) (omega (arith, within)) bad
  | inr kept ↦ elim kept [
    | inl h ↦
        let first = behind_command (Some h.0) (spelled all) commands (sym (spelled_kept line all (Some h.0) h.1 h.2) ∙ e) in
        none_bad all place first.0 first.3 (omega (arith, within)) bad
    | inr h ↦ none-some (behind_command None (spelled all) commands (sym (spelled_kept line all None h.0 h.1) ∙ e)).1 (behind_command None (spelled all) commands (sym (spelled_kept line all None h.0 h.1) ∙ e)).2
  ]
]

-- the first bad line of lines
pub record FirstBad (all : List (List ℕ)) : Type 0 where
  pub place : ℕ
  pub within : place < length all
  pub bad : IsBad (get_or all place [])
  pub first : (before : ℕ) → before < place → IsBad (get_or all before []) → ⊥

later : (line : List ℕ) (all : List (List ℕ)) (place : ℕ) → (IsBad line → ⊥) → ((before : ℕ) → before < place → IsBad (get_or all before []) → ⊥)
    → (before : ℕ) → before < suc place → IsBad (get_or (line ∷ all) before []) → ⊥
later line all place sound first zero less bad = sound bad
later line all place sound first (suc before) less bad = first before (omega (arith, less)) bad

one_later : (line : List ℕ) (all : List (List ℕ)) → (IsBad line → ⊥) → FirstBad all → FirstBad (line ∷ all)
one_later line all sound f = record { place = suc f.place; within = omega (arith, f.within); bad = f.bad; first = later line all f.place sound f.first }

some_lines : (all : List (List ℕ)) → ((commands : List Command) × (spelled all ≡ somes commands)) ⊎ FirstBad all
some_lines [] = inl ([], refl)
some_lines (line ∷ all) = elim (line_test (is_passed_over line) (command_of line)) [
  | inl passed ↦ elim (some_lines all) [
    | inl h ↦ inl (h.0, spelled_passed line all passed ∙ h.1)
    | inr f ↦ inr (one_later line all (λ bad. true≢false (sym passed ∙ bad.0)) f)
  ]
  | inr kept ↦ elim kept [
    | inr bad ↦ inr (record { place = 0; within = omega arith; bad = bad; first = λ before less. absurd (omega (arith, less)) })
    | inl command ↦ elim (some_lines all) [
      | inl h ↦ inl (command.0 ∷ h.0, spelled_kept line all (Some command.0) command.1 command.2 ∙ ap (λ l. Some command.0 ∷ l) h.1)
      | inr f ↦ inr (one_later line all (λ bad. none-some command.0 (sym bad.1 ∙ command.2)) f)
    ]
  ]
]

pub commands_same : (text : List ℕ) (a b : List Command) → AreCommands text a → AreCommands text b → a ≡ b
commands_same text a b p q = somes_same a b (sym p ∙ q)

pub bad_same : (text : List ℕ) (a b : ℕ) → IsFirstBad text a → IsFirstBad text b → a ≡ b
bad_same text a b p q = elim (below_or p.place q.place) [
  | inl less ↦ absurd (q.first p.place less p.bad)
  | inr h ↦ elim (below_or q.place p.place) [
    | inl less ↦ absurd (p.first q.place less q.bad)
    | inr k ↦ omega (arith, h, k, p.number_is, q.number_is)
  ]
]

pub apart : (text : List ℕ) (commands : List Command) (line : ℕ) → AreCommands text commands → IsFirstBad text line → ⊥
apart text commands line p q = none_bad (lines text) q.place commands p q.within q.bad

pub some_reading : (text : List ℕ) → ((commands : List Command) × AreCommands text commands) ⊎ ((line : ℕ) × IsFirstBad text line)
some_reading text = elim (some_lines (lines text)) [
  | inl h ↦ inl h
  | inr f ↦ inr (f.place + 1, record { place = f.place; within = f.within; number_is = refl; bad = f.bad; first = f.first })
]

-- the line at a place, by what is left from there on
pub record At (all : List (List ℕ)) (place : ℕ) (line : List ℕ) (rest : List (List ℕ)) : Type 0 where
  pub within : place < length all
  pub line_is : get_or all place [] ≡ line
  pub rest_is : drop (place + 1) all ≡ rest

pub at_is : (all : List (List ℕ)) (place : ℕ) (line : List ℕ) (rest : List (List ℕ)) → drop place all ≡ line ∷ rest → At all place line rest
at_is all place line rest left =
    let long : length all - place ≡ suc (length rest) = sym (length-drop place all) ∙ ap length left in
    let within : place < length all = omega arith in
    let more : get_or all place [] ∷ drop (place + 1) all ≡ line ∷ rest = sym (drop_more all place [] within) ∙ left in
    record { within = within; line_is = cc; rest_is = cc }

-- a line more is taken
pub spelled_more : (all : List (List ℕ)) (place : ℕ) (line : List ℕ) (rest : List (List ℕ)) (old new : List Command) → At all place line rest
    → spelled (take place all) ≡ somes old → somes new ≡ somes old ++ spelled (line ∷ []) → spelled (take (place + 1) all) ≡ somes new
spelled_more all place line rest old new at before more =
    ap spelled (take_more all place [] at.within ∙ ap (λ l. take place all ++ l ∷ []) at.line_is) ∙ spelled-append (take place all) (line ∷ []) ∙ ap (λ l. l ++ spelled (line ∷ [])) before ∙ sym more

-- nothing is left
pub ended : (all : List (List ℕ)) (count : ℕ) (rest : List ℕ) → drop count all ≡ lines rest → length rest ≡ 0 → count ≤ length all → take count all ≡ all
ended all count [] left none within =
    let long : length all - count ≡ 0 = sym (length-drop count all) ∙ ap length left in
    take_all count all (omega arith)
ended all count (x ∷ rest) left none within = absurd (omega (arith, none))

pub fault_at : (text : List ℕ) (place : ℕ) (line : List ℕ) (rest : List (List ℕ)) (old new : List Command) (fault : CommandFault) → At (lines text) place line rest
    → ((before : ℕ) → before < place → IsBad (get_or (lines text) before []) → ⊥) → TakesLine old (place + 1) line (Err fault) new → IsCommandFault text fault
fault_at text place line rest old new (Bad number) at sound takes =
    record { place = place; within = at.within; number_is = takes.0; bad = subst IsBad (sym at.line_is) takes.1; first = sound }
fault_at text place line rest old new Memory at sound takes = takes
