-- A text stands for one file, or has one first bad line.
use Rattle.std.proofs.Common.{◌≡◌, ◌⊎◌, inl, inr, ℕ, ◌+◌, List, [], ◌∷◌, length, Option, Some, None, refl, sym, ap, ◌∙◌, arith}
use Rattle.std.proofs.lemmas.Option.{same_Some, none-some}
use Rattle.line_words.specs.Line.{lines}
use Rattle.mp_core.specs.{declared.event.MpEvent.MpEvent, declared.file.MpFile.MpFile, LineText.head_of, LineText.event_of}
use Rattle.mp_core.specs.FileText.{numbered, spelled, first_without_event, first_bad, first_bad_by, AreLinesOf, IsMpFile, IsFirstBad}
use Rattle.mp_core.proofs.EventLines.{somes}

head_same : (a b : Option MpEvent) (xs ys : List (Option MpEvent)) → a ∷ xs ≡ b ∷ ys → a ≡ b
head_same a b xs ys e = cc

tail_same : (a b : Option MpEvent) (xs ys : List (Option MpEvent)) → a ∷ xs ≡ b ∷ ys → xs ≡ ys
tail_same a b xs ys e = cc

pub somes_same : (a b : List MpEvent) → somes a ≡ somes b → a ≡ b
somes_same [] [] e = refl
somes_same [] (y ∷ b) e = absurd (omega (arith, ap length e))
somes_same (x ∷ a) [] e = absurd (omega (arith, ap length e))
somes_same (x ∷ a) (y ∷ b) e =
    let head : x ≡ y = same_Some x y (head_same (Some x) (Some y) (somes a) (somes b) e) in
    let tail : a ≡ b = somes_same a b (tail_same (Some x) (Some y) (somes a) (somes b) e) in
    cc

-- the file of numbers and events
abbrev file_of : ℕ × ℕ × List MpEvent → MpFile
file_of t = record { processors = t.0; cells = t.1; events = t.2 }

heads_same : (a b : ℕ × ℕ) → Some a ≡ Some b → (a.0 ≡ b.0) × (a.1 ≡ b.1)
heads_same a b e = let same = same_Some a b e in (ap (λ p. p.0) same, ap (λ p. p.1) same)

file_same : (head : Option (ℕ × ℕ)) (rest : List (ℕ × List ℕ)) (a b : MpFile) → head ≡ Some (a.processors, a.cells) → head ≡ Some (b.processors, b.cells)
    → spelled a.processors a.cells rest ≡ somes a.events → spelled b.processors b.cells rest ≡ somes b.events → a ≡ b
file_same head rest a b p q r s =
    let same = heads_same (a.processors, a.cells) (b.processors, b.cells) (sym p ∙ q) in
    let processors : a.processors ≡ b.processors = same.0 in
    let cells : a.cells ≡ b.cells = same.1 in
    let spelling : spelled a.processors a.cells rest ≡ spelled b.processors b.cells rest =
    ap (λ n. spelled n a.cells rest) processors ∙ ap (λ c. spelled b.processors c rest) cells in
    let events : a.events ≡ b.events = somes_same a.events b.events (sym r ∙ spelling ∙ s) in
    let left : ℕ × ℕ × List MpEvent = (a.processors, a.cells, a.events) in
    let right : ℕ × ℕ × List MpEvent = (b.processors, b.cells, b.events) in
    let all : left ≡ right = cc in
    ap file_of all

lines_same : (lines : List (ℕ × List ℕ)) (a b : MpFile) → AreLinesOf a lines → AreLinesOf b lines → a ≡ b
lines_same [] a b p q = absurd p
lines_same (first ∷ rest) a b p q = file_same (head_of first.1) rest a b p.0 q.0 p.1 q.1

pub one_file : (text : List ℕ) (a b : MpFile) → IsMpFile text a → IsMpFile text b → a ≡ b
one_file text a b p q = lines_same (numbered text) a b p q

pub one_line : (text : List ℕ) (a b : ℕ) → IsFirstBad text a → IsFirstBad text b → a ≡ b
one_line text a b p q = same_Some a b (sym p ∙ q)

-- where lines spell events, there is none that spells no event
none_bad_by : (event : Option MpEvent) (line : ℕ × List ℕ) (processors cells : ℕ) (rest : List (ℕ × List ℕ)) (events : List MpEvent) (number : ℕ)
    → event_of processors cells line.1 ≡ event
    → ((later : List MpEvent) → spelled processors cells rest ≡ somes later → first_without_event processors cells rest ≡ Some number → ⊥)
    → event ∷ spelled processors cells rest ≡ somes events → first_without_event processors cells (line ∷ rest) ≡ Some number → ⊥
none_bad_by event line processors cells rest [] number is none e f = absurd (omega (arith, ap length e))
none_bad_by None line processors cells rest (x ∷ events) number is none e f = none-some x (head_same None (Some x) _ _ e)
none_bad_by (Some event) line processors cells rest (x ∷ events) number is none e f =
    none events (tail_same (Some event) (Some x) _ _ e) (rw is at f)

none_bad : (processors cells : ℕ) (lines : List (ℕ × List ℕ)) (events : List MpEvent) (number : ℕ)
    → spelled processors cells lines ≡ somes events → first_without_event processors cells lines ≡ Some number → ⊥
none_bad processors cells [] events number e f = none-some number f
none_bad processors cells (line ∷ rest) events number e f =
    none_bad_by (event_of processors cells line.1) line processors cells rest events number refl (λ later. none_bad processors cells rest later number) e f

lines_apart : (next : ℕ) (lines : List (ℕ × List ℕ)) (file : MpFile) (number : ℕ) → AreLinesOf file lines → first_bad next lines ≡ Some number → ⊥
lines_apart next [] file number p q = absurd p
lines_apart next (first ∷ rest) file number p q =
    none_bad file.processors file.cells rest file.events number p.1 (sym (ap (first_bad_by first.0 rest) p.0) ∙ q)

pub apart : (text : List ℕ) (file : MpFile) (number : ℕ) → IsMpFile text file → IsFirstBad text number → ⊥
apart text file number p q = lines_apart (length (lines text) + 1) (numbered text) file number p q

-- lines spell events, or there is a first that spells none
either_by : (event : Option MpEvent) (line : ℕ × List ℕ) (processors cells : ℕ) (rest : List (ℕ × List ℕ)) → event_of processors cells line.1 ≡ event
    → ((events : List MpEvent) × (spelled processors cells rest ≡ somes events)) ⊎ ((number : ℕ) × (first_without_event processors cells rest ≡ Some number))
    → ((events : List MpEvent) × (spelled processors cells (line ∷ rest) ≡ somes events)) ⊎ ((number : ℕ) × (first_without_event processors cells (line ∷ rest) ≡ Some number))
either_by None line processors cells rest is e = inr (line.0, rw is refl)
either_by (Some event) line processors cells rest is (inl e) = inl (event ∷ e.0, rw is (ap (λ l. Some event ∷ l) e.1))
either_by (Some event) line processors cells rest is (inr e) = inr (e.0, rw is e.1)

either : (processors cells : ℕ) (lines : List (ℕ × List ℕ))
    → ((events : List MpEvent) × (spelled processors cells lines ≡ somes events)) ⊎ ((number : ℕ) × (first_without_event processors cells lines ≡ Some number))
either processors cells [] = inl ([], refl)
either processors cells (line ∷ rest) = either_by (event_of processors cells line.1) line processors cells rest refl (either processors cells rest)

some_by : (next : ℕ) (first : ℕ × List ℕ) (rest : List (ℕ × List ℕ)) (head : Option (ℕ × ℕ)) → head_of first.1 ≡ head
    → ((file : MpFile) × AreLinesOf file (first ∷ rest)) ⊎ ((number : ℕ) × (first_bad next (first ∷ rest) ≡ Some number))
some_by next first rest None is = inr (first.0, ap (first_bad_by first.0 rest) is)
some_by next first rest (Some head) is = elim (either head.0 head.1 rest) [
  | inl e ↦ inl (file_of (head.0, head.1, e.0), (is, e.1))
  | inr e ↦ inr (e.0, ap (first_bad_by first.0 rest) is ∙ e.1)
]

some_lines : (next : ℕ) (lines : List (ℕ × List ℕ)) → ((file : MpFile) × AreLinesOf file lines) ⊎ ((number : ℕ) × (first_bad next lines ≡ Some number))
some_lines next [] = inr (next, refl)
some_lines next (first ∷ rest) = some_by next first rest (head_of first.1) refl

pub some_reading : (text : List ℕ) → ((file : MpFile) × IsMpFile text file) ⊎ ((number : ℕ) × IsFirstBad text number)
some_reading text = some_lines (length (lines text) + 1) (numbered text)
