-- Going through the lines of a text, one by one.
use Rattle.std.proofs.Common.{◌≡◌, ℕ, ◌+◌, Bool, true, false, List, [], ◌∷◌, ◌++◌, length, Result, Ok, Err, refl, sym, ap, subst, ◌∙◌, append_assoc, arith, inl, inr, if◌then◌else◌, append-nil}
use Rattle.line_words.specs.Line.{lines}
use Rattle.volume_text.specs.{declared.fault.Fault.Fault, declared.step.State.State}
use Rattle.volume_text.specs.declared.step.State.TheVariants.{Begin, Done}
use Rattle.volume_text.specs.{declared.fault.TextFault.TextFault, Reading.StopsText, Step.Steps}
use Rattle.volume_text.specs.declared.fault.TextFault.TheVariants as text_fault
use Rattle.volume_text.specs.Text.{is_passed_over, counted, numbered, Goes, Leads, Moves, IsBadLine, IsEndCause, IsRefused}

same_Ok : {A E : Type 0} (x y : A) → ◌≡◌ {A = Result A E} (Ok x) (Ok y) → x ≡ y
same_Ok x y e = cc

no_Err : (fault : Fault) (state : State) → ◌≡◌ {A = Result State Fault} (Err fault) (Ok state) → ⊥
no_Err fault state e = absurd cc

-- this is open behind the lines before the rest
pub record Reached (text : List ℕ) (state : State) (number : ℕ) (rest : List ℕ) : Type 0 where
  pub before : List (ℕ × List ℕ)
  pub here : numbered text ≡ before ++ counted number (lines rest)
  pub goes : Goes Begin before state
  pub count : length (lines text) + 1 ≡ number + length (lines rest)

goes_more : (from : State) (before : List (ℕ × List ℕ)) (mid : State) (line : ℕ × List ℕ) (to : State)
    → Goes from before mid → Steps mid line.0 line.1 (Ok to) → Goes from (before ++ line ∷ []) to
goes_more from [] mid line to g s = (to, subst (λ (m : State). Steps m line.0 line.1 (Ok to)) (sym g) s, refl)
goes_more from (first ∷ before) mid line to g s = (g.0, g.1, goes_more g.0 before mid line to g.2 s)

pub at_first : (text : List ℕ) → Reached text Begin 1 text
at_first text = record { before = []; here = refl; goes = refl; count = omega arith }

counts : (number : ℕ) (line : List ℕ) (rest : List (List ℕ)) (test : Bool) → is_passed_over line ≡ test
    → counted number (line ∷ rest) ≡ (if test then counted (number + 1) rest else (number, line) ∷ counted (number + 1) rest)
counts number line rest test is = rw is refl

one_more : (number : ℕ) (text line : List ℕ) (all rest : List (List ℕ)) → all ≡ line ∷ rest → length (lines text) + 1 ≡ number + length all → length (lines text) + 1 ≡ number + 1 + length rest
one_more number text line all rest is count = let longer : length all ≡ length rest + 1 = ap length is ∙ omega arith in omega arith

-- a line is passed over
pub passed : (text rest line after : List ℕ) (state : State) (number : ℕ) → Reached text state number rest → lines rest ≡ line ∷ lines after → is_passed_over line ≡ true
    → Reached text state (number + 1) after
passed text rest line after state number r is over = record {
  before = r.before;
  here = r.here ∙ ap (λ ls. r.before ++ counted number ls) is ∙ ap (λ c. r.before ++ c) (counts number line (lines after) true over);
  goes = r.goes;
  count = one_more number text line (lines rest) (lines after) is r.count;
}

found : (text rest line after : List ℕ) (state : State) (number : ℕ) (r : Reached text state number rest) → lines rest ≡ line ∷ lines after → is_passed_over line ≡ false
    → numbered text ≡ r.before ++ (number, line) ∷ counted (number + 1) (lines after)
found text rest line after state number r is counts_too =
    r.here ∙ ap (λ ls. r.before ++ counted number ls) is ∙ ap (λ c. r.before ++ c) (counts number line (lines after) false counts_too)

-- a line more
pub stepped : (text rest line after : List ℕ) (state next : State) (number : ℕ) → Reached text state number rest → lines rest ≡ line ∷ lines after → is_passed_over line ≡ false
    → Steps state number line (Ok next) → Reached text next (number + 1) after
stepped text rest line after state next number r is counts_too step =
    let one : ℕ × List ℕ = (number, line) in
    record {
      before = r.before ++ one ∷ [];
      here = found text rest line after state number r is counts_too ∙ sym (append_assoc r.before (one ∷ []) (counted (number + 1) (lines after)));
      goes = goes_more Begin r.before state one next r.goes step;
      count = one_more number text line (lines rest) (lines after) is r.count;
    }

-- a line at fault
pub stopped : (text rest line after : List ℕ) (state : State) (number : ℕ) (fault : Fault) → Reached text state number rest → lines rest ≡ line ∷ lines after → is_passed_over line ≡ false
    → Steps state number line (Err fault) → IsBadLine text fault
stopped text rest line after state number fault r is counts_too step = record {
  before = r.before;
  line = (number, line);
  behind = counted (number + 1) (lines after);
  open_there = state;
  here = found text rest line after state number r is counts_too;
  goes = r.goes;
  wrong = step;
}

-- no line is left
pub at_last : (text rest : List ℕ) (state : State) (number : ℕ) → Reached text state number rest → rest ≡ [] → Goes Begin (numbered text) state
at_last text rest state number r none =
    let all : numbered text ≡ r.before = r.here ∙ ap (λ t. r.before ++ counted number (lines t)) none ∙ append-nil r.before in
    subst (λ (ls : List (ℕ × List ℕ)). Goes Begin ls state) (sym all) r.goes

pub count_last : (text rest : List ℕ) (state : State) (number : ℕ) → Reached text state number rest → rest ≡ [] → number ≡ length (lines text) + 1
count_last text rest state number r none = let empty : length (lines rest) ≡ 0 = ap (λ t. length (lines t)) none in omega (arith, r.count)

-- a line more, which may be passed over
pub moved : (text rest line after : List ℕ) (state next : State) (number : ℕ) → Reached text state number rest → lines rest ≡ line ∷ lines after → Moves state number line (Ok next)
    → Reached text next (number + 1) after
moved text rest line after state next number r is (inl over) =
    subst (λ (s : State). Reached text s (number + 1) after) (sym (same_Ok next state over.1)) (passed text rest line after state number r is over.0)
moved text rest line after state next number r is (inr counts_too) = stepped text rest line after state next number r is counts_too.0 counts_too.1

pub moved_not : (text rest line after : List ℕ) (state : State) (number : ℕ) (fault : Fault) → Reached text state number rest → lines rest ≡ line ∷ lines after → Moves state number line (Err fault)
    → IsBadLine text fault
moved_not text rest line after state number fault r is (inl over) = absurd (no_Err fault state over.1)
moved_not text rest line after state number fault r is (inr counts_too) = stopped text rest line after state number fault r is counts_too.0 counts_too.1

pub refused : (text rest line after : List ℕ) (state : State) (number : ℕ) (why : TextFault) → Reached text state number rest → lines rest ≡ line ∷ lines after → StopsText (Moves state number line) why
    → IsRefused text why
refused text rest line after state number text_fault.Memory r is t = tt
refused text rest line after state number (text_fault.Bad fault) r is t = inl (moved_not text rest line after state number fault r is t)

-- more lines have to come
pub cut_short : (text : List ℕ) (state : State) (fault : Fault) → Goes Begin (numbered text) state → fault.line ≡ length (lines text) + 1 → IsEndCause state fault.cause → IsRefused text (text_fault.Bad fault)
cut_short text state fault goes line wrong = inr (record { open_there = state; goes = goes; line = line; wrong = wrong })

-- the lines lead to the volume
pub leads : (text bytes : List ℕ) → Goes Begin (numbered text) (Done bytes) → Leads text bytes
leads text bytes goes = goes
