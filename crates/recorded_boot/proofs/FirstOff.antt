-- The first line with which a text is no boot's any more, by where a boot was followed to.
use Rattle.std.proofs.Common.{◌≡◌, ◌≢◌, ◌≤◌, ◌<◌, ℕ, zero, suc, ◌+◌, Bool, true, false, cond, List, [], ◌∷◌, ◌++◌, length, refl, sym, ap, ◌∙◌, subst, arith, Option, Some, None, inl, inr, ◌⊎◌, option_map, eqb-true, append-nil, length-append}
use Rattle.std.proofs.{lemmas.Bool.cases_lt, lemmas.List.Sums.sum_by-append}
use Rattle.boot_io.specs.Faults.{IsPrefix}
use Rattle.boot_model.specs.{declared.line.Line.Line, Text.text_of}
use Rattle.recorded_boot.proofs.TextFronts.{prefix_then, shorter_front}
use Rattle.recorded_boot.specs.{Fronts.EndsLine, Fronts.IsOff, declared.trace.spelled.Spelled.Spelled, FollowingText.IsWhole}
use Rattle.recorded_boot.specs.Lines.{front_lines, feeds_in, is_feed}
use Rattle.recorded_boot.specs.Verdict.{BeginsBoot, IsFirstOff}

-- a front of a text, by how many lines it has
abbrev FrontOf : ℕ → List ℕ → List ℕ → Type 0
FrontOf n text front = IsPrefix front text × (feeds_in front ≡ n)

some_is : {A : Type 0} (a b : A) → Some a ≡ Some b → a ≡ b
some_is a b e = cc

mapped : (byte : ℕ) (o : Option (List ℕ)) (front : List ℕ) → option_map (λ front. byte ∷ front) o ≡ Some front → (rest : List ℕ) × (o ≡ Some rest) × (front ≡ byte ∷ rest)
mapped byte None front e = absurd (cc)
mapped byte (Some rest) front e = (rest, refl, cc)

feeds_append : (a b : List ℕ) → feeds_in (a ++ b) ≡ feeds_in a + feeds_in b
feeds_append a b = sum_by-append (λ x. cond (is_feed x) 1 0) a b

one_more : (byte : ℕ) (tail : List ℕ) → is_feed byte ≡ true → feeds_in (byte ∷ tail) ≡ feeds_in tail + 1
one_more byte tail is = let more = feeds_append (byte ∷ []) tail in let one : ◌≡◌ {A = ℕ} (cond (is_feed byte) 1 0) 1 = ap (λ b. cond b 1 0) is in omega (arith, more, one)

no_more : (byte : ℕ) (tail : List ℕ) → is_feed byte ≡ false → feeds_in (byte ∷ tail) ≡ feeds_in tail
no_more byte tail is = let more = feeds_append (byte ∷ []) tail in let none : ◌≡◌ {A = ℕ} (cond (is_feed byte) 1 0) 0 = ap (λ b. cond b 1 0) is in omega (arith, more, none)

-- what a front has whose first byte is this one
abbrev TailOf : ℕ → ℕ → List ℕ → List ℕ → Bool → Type 0
TailOf n byte rest front b = (tail : List ℕ) × (cond b (front_lines n rest) (front_lines (suc n) rest) ≡ Some tail) × (front ≡ byte ∷ tail)

by_byte : (n byte : ℕ) (rest front : List ℕ) (b : Bool) → ((tail : List ℕ) → front_lines n rest ≡ Some tail → FrontOf n rest tail) → ((tail : List ℕ) → front_lines (suc n) rest ≡ Some tail → FrontOf (suc n) rest tail)
    → is_feed byte ≡ b → TailOf n byte rest front b → FrontOf (suc n) (byte ∷ rest) front
by_byte n byte rest front true here other is t =
    let more = here t.0 t.1 in
    let counted = ap feeds_in t.2 ∙ one_more byte t.0 is in
    ((more.0.0, ap (λ xs. byte ∷ xs) more.0.1 ∙ ap (λ f. f ++ more.0.0) (sym t.2)), omega (arith, counted, more.1))
by_byte n byte rest front false here other is t =
    let more = other t.0 t.1 in
    ((more.0.0, ap (λ xs. byte ∷ xs) more.0.1 ∙ ap (λ f. f ++ more.0.0) (sym t.2)), ap feeds_in t.2 ∙ no_more byte t.0 is ∙ more.1)

-- a front of so many lines begins the text, and has so many line feeds
front_is : (n : ℕ) (text front : List ℕ) → front_lines n text ≡ Some front → FrontOf n text front
front_is zero text front e = let none : [] ≡ front = some_is [] front e in ((text, ap (λ f. f ++ text) none), sym (ap feeds_in none))
front_is (suc n) [] front e = absurd (cc)
front_is (suc n) (byte ∷ rest) front e = by_byte n byte rest front (is_feed byte) (λ tail t. front_is n rest tail t) (λ tail t. front_is (suc n) rest tail t) refl (mapped byte _ front e)

-- it ends with one
ends_one : (n byte : ℕ) (tail : List ℕ) → is_feed byte ≡ true → (n ≡ 0 → tail ≡ []) → ((k : ℕ) → n ≡ suc k → EndsLine tail) → EndsLine (byte ∷ tail)
ends_one zero byte tail is none more = let ten : byte ≡ 10 = eqb-true byte 10 is in ([], ap (λ t. byte ∷ t) (none refl) ∙ ap (λ b. b ∷ []) ten)
ends_one (suc n) byte tail is none more = let e = more n refl in (byte ∷ e.0, ap (λ xs. byte ∷ xs) e.1)

ends_by : (n byte : ℕ) (rest front : List ℕ) (b : Bool) → ((k : ℕ) (tail : List ℕ) → front_lines (suc k) rest ≡ Some tail → EndsLine tail) → is_feed byte ≡ b → TailOf n byte rest front b → EndsLine front
ends_by n byte rest front true each is t =
    subst EndsLine (sym t.2) (ends_one n byte t.0 is (λ z. sym (some_is [] t.0 (ap (λ k. front_lines k rest) (sym z) ∙ t.1))) (λ k e. each k t.0 (ap (λ n. front_lines n rest) (sym e) ∙ t.1)))
ends_by n byte rest front false each is t = let more = each n t.0 t.1 in (byte ∷ more.0, t.2 ∙ ap (λ xs. byte ∷ xs) more.1)

ends_line : (n : ℕ) (text front : List ℕ) → front_lines (suc n) text ≡ Some front → EndsLine front
ends_line n [] front e = absurd (cc)
ends_line n (byte ∷ rest) front e = ends_by n byte rest front (is_feed byte) (λ k tail t. ends_line k rest tail t) refl (mapped byte _ front e)

-- so many lines as a front has are the text's
abbrev ThereOf : ℕ → List ℕ → List ℕ → Type 0
ThereOf n front rest = (lines : List ℕ) × (front_lines n (front ++ rest) ≡ Some lines) × IsPrefix lines front

there_by : (n byte : ℕ) (front rest : List ℕ) (b : Bool) → (n ≤ feeds_in front → ThereOf n front rest) → (suc n ≤ feeds_in front → ThereOf (suc n) front rest) → is_feed byte ≡ b → suc n ≤ feeds_in (byte ∷ front)
    → (lines : List ℕ) × (option_map (λ front. byte ∷ front) (cond b (front_lines n (front ++ rest)) (front_lines (suc n) (front ++ rest))) ≡ Some lines) × IsPrefix lines (byte ∷ front)
there_by n byte front rest true here other is le =
    let one = one_more byte front is in
    let more = here (omega (arith, le, one)) in
    (byte ∷ more.0, ap (option_map (λ front. byte ∷ front)) more.1, (more.2.0, ap (λ xs. byte ∷ xs) more.2.1))
there_by n byte front rest false here other is le =
    let none = no_more byte front is in
    let more = other (omega (arith, le, none)) in
    (byte ∷ more.0, ap (option_map (λ front. byte ∷ front)) more.1, (more.2.0, ap (λ xs. byte ∷ xs) more.2.1))

front_there : (n : ℕ) (front rest : List ℕ) → n ≤ feeds_in front → ThereOf n front rest
front_there zero front rest le = ([], refl, (front, refl))
front_there (suc n) [] rest le = absurd (omega (arith, le))
front_there (suc n) (byte ∷ front) rest le = there_by n byte front rest (is_feed byte) (λ h. front_there n front rest h) (λ h. front_there (suc n) front rest h) refl le

-- of two fronts of a text the one with fewer line feeds is shorter
longer_front : (met front text : List ℕ) → IsPrefix met text → IsPrefix front text → feeds_in met < feeds_in front → (length front ≤ length met) ⊎ (length met < length front) → length met < length front
longer_front met front text p q less (inr lt) = lt
longer_front met front text p q less (inl le) =
    let within = shorter_front front met text q p le in
    let counted = ap feeds_in within.1 ∙ feeds_append front within.0 in
    absurd (omega (arith, less, counted))

either_way : (a b : ℕ) → (a ≤ b) ⊎ (b < a)
either_way a b = elim (cases_lt b a) [ inl lt ↦ inr lt | inr ge ↦ inl ge ]

-- each line up to a place is a boot's, where the text up to the place is
met_begins : (Lines : List Line → Type 0) (text met : List ℕ) → IsPrefix met text → (lines : List Line) → Lines lines → IsPrefix met (text_of lines) → (count : ℕ) → count < 1 + feeds_in met → BeginsBoot Lines text count
met_begins Lines text met p lines boots begins count less =
    let front = front_there count met p.0 (omega (arith, less)) in
    record {
      front = front.0;
      is = ap (front_lines count) p.1 ∙ front.1;
      lines = lines;
      boots = boots;
      begins = prefix_then front.0 met (text_of lines) front.2 begins;
    }

-- a text that is off at some place is so from the line on in which that place is
pub off_at_its_line : (Lines : List Line → Type 0) (text met : List ℕ) → IsPrefix met text → IsOff Lines text met → IsFirstOff Lines text (1 + feeds_in met)
off_at_its_line Lines text met p off = record {
  some = omega arith;
  no_boot = λ is. off.other is.0 is.1 (sym is.2);
  off = λ b.
      let front = front_is (1 + feeds_in met) text b.front b.is in
      let longer = longer_front met b.front text p front.0 (omega (arith, front.1)) (either_way (length b.front) (length met)) in
      let next : suc (feeds_in met) ≡ 1 + feeds_in met = omega arith in
      off.parted b.lines b.front b.boots front.0 (ends_line (feeds_in met) text b.front (ap (λ n. front_lines n text) next ∙ b.is)) longer b.begins;
  first = λ count some less. met_begins Lines text met p off.begins.0 off.begins.1 off.begins.2 count less;
}

-- and so is a text that goes on behind a whole boot
pub off_behind_the_whole : (Lines : List Line → Type 0) (text met : List ℕ) (s : Spelled) → IsPrefix met text → met ≢ text → IsWhole Lines text met s → IsFirstOff Lines text (1 + feeds_in met)
off_behind_the_whole Lines text met s p other whole = record {
  some = omega arith;
  no_boot = λ is.
      let begins : IsPrefix met (text_of is.0) = (p.0, sym is.2 ∙ p.1) in
      other (sym (whole.only is.0 is.1 begins) ∙ sym is.2);
  off = λ b.
      let front = front_is (1 + feeds_in met) text b.front b.is in
      let longer = longer_front met b.front text p front.0 (omega (arith, front.1)) (either_way (length b.front) (length met)) in
      let within = shorter_front met b.front text p front.0 (omega (arith, longer)) in
      let same = whole.only b.lines b.boots (prefix_then met b.front (text_of b.lines) within b.begins) in
      let long = ap length b.begins.1 ∙ length-append b.front b.begins.0 in
      let size = ap length same in
      omega (arith, longer, long, size);
  first = λ count some less. met_begins Lines text met p whole.lines whole.boots ([], sym whole.is ∙ sym (append-nil met)) count less;
}
