-- What a text tells that a boot is held against.
use Rattle.std.proofs.Common.{◌≡◌, ◌≤◌, ◌<◌, ℕ, zero, suc, ◌+◌, List, [], ◌∷◌, ◌++◌, length, refl, sym, ap, ◌∙◌, subst, append_assoc, arith, true, false, Option, Some, None, take, drop, inl, inr, ◌⊎◌, ◌≢◌, IfSome, is_some, nat_lt, slice_get, option_to_list, append-nil, length-append, length-take-le, take-append-drop}
use Rattle.std.proofs.lemmas.Bool.Decides.{nat_tests}
use Rattle.std.specs.Io.KnownBytes.{Appends}
use Rattle.boot_io.specs.{Faults.IsPrefix, Sink.AppendsPart}
use Rattle.boot_model.specs.{declared.line.Line.Line, Text.text_of}
use Rattle.recorded_boot.specs.declared.trace.spelled.Spelled.{Spelled}
use Rattle.recorded_boot.specs.Fronts.{EndsLine, IsOff, Tracks}
use Rattle.recorded_boot.specs.Putting.{AllPrint, HasParted, IsOffHere, PartsByLine}
use Rattle.recorded_boot.specs.Spelled.{GoesOn, IsHeld, IsRight, left, marked, met, spoken, told, whole}
use Rattle.recorded_boot.proofs.TextFronts.{byte_behind, has_line_behind, prefix_then, same_behind, shorter_front}

-- two texts with what stands behind them
marked_apart : (xs ys a b : List ℕ) → marked xs ++ a ≡ marked ys ++ b → (xs ≡ ys) × (a ≡ b)
marked_apart [] [] a b e = (refl, cc)
marked_apart [] (y ∷ ys) a b e = let first : 0 ≡ y + 1 = cc in absurd (omega (arith, first))
marked_apart (x ∷ xs) [] a b e = let first : x + 1 ≡ 0 = cc in absurd (omega (arith, first))
marked_apart (x ∷ xs) (y ∷ ys) a b e =
    let first : x + 1 ≡ y + 1 = cc in
    let same : x ≡ y = omega (arith, first) in
    let tail : marked xs ++ a ≡ marked ys ++ b = cc in
    let rest = marked_apart xs ys a b tail in
    (rw (same, rest.0) refl, rest.1)

-- the text stays, and what was put is told
pub record HasTold (old new : Spelled) (part : List ℕ) : Type 0 where
  pub whole_is : whole new ≡ whole old
  pub told_is : told new ≡ told old ++ part

pub has_told : (old new : Spelled) (part : List ℕ) → Appends (Some (spoken old)) (Some (spoken new)) part → HasTold old new part
has_told old new part f =
    let both = marked_apart (whole new) (whole old) (told new) (told old ++ part) (f ∙ append_assoc (marked (whole old)) (told old) part) in
    record { whole_is = both.0; told_is = both.1 }

-- without a fault what was told is what was met
none_wrong : (wrong : Option ℕ) (faults : ℕ) → is_some wrong ≡ nat_lt 0 faults → faults ≡ 0 → wrong ≡ None
none_wrong None faults h e = refl
none_wrong (Some byte) faults h e = let none : true ≡ false = h ∙ ap (nat_lt 0) e in absurd (cc)

pub told_right : (s : Spelled) → IsRight s → told s ≡ met s
told_right s right = ap (λ w. met s ++ option_to_list w) (none_wrong s.wrong s.faults s.counted right) ∙ append-nil (met s)

pub goes_on : (old new : Spelled) (bytes : List ℕ) → Appends (Some (spoken old)) (Some (spoken new)) bytes → IsRight old → IsRight new → GoesOn old new bytes
goes_on old new bytes f was is =
    let h = has_told old new bytes f in
    record { whole_is = h.whole_is; met_is = sym (told_right new is) ∙ h.told_is ∙ ap (λ t. t ++ bytes) (told_right old was) }

-- the byte that is wrong
some_wrong : (wrong : Option ℕ) (faults : ℕ) → is_some wrong ≡ nat_lt 0 faults → (faults ≡ 0 → ⊥) → (byte : ℕ) × (wrong ≡ Some byte)
some_wrong (Some byte) faults h not = (byte, refl)
some_wrong None zero h not = absurd (not refl)
some_wrong None (suc n) h not = let less : nat_lt 0 (suc n) ≡ true = grind (arith, nat_tests) in let none : false ≡ true = h ∙ less in absurd (cc)

-- with it what was told is no front of the text
pub record IsWrong (s : Spelled) : Type 0 where
  pub byte : ℕ
  pub told_is : told s ≡ met s ++ byte ∷ []
  pub apart : IsPrefix (told s) (whole s) → ⊥

pub is_wrong : (s : Spelled) → (IsRight s → ⊥) → IsWrong s
is_wrong s not =
    let some = some_wrong s.wrong s.faults s.counted not in
    let is : told s ≡ met s ++ some.0 ∷ [] = ap (λ w. met s ++ option_to_list w) some.1 in
    record {
      byte = some.0;
      told_is = is;
      apart = λ p.
          let long : length (take s.at s.text.now) ≡ s.at = length-take-le s.at s.text.now s.within in
          let text : s.text.now ≡ (take s.at s.text.now ++ some.0 ∷ []) ++ p.0 = p.1 ∙ ap (λ t. t ++ p.0) is in
          let there : slice_get s.text.now s.at ≡ Some some.0 = ap (slice_get s.text.now) (sym long) ∙ ap (λ t. slice_get t (length (take s.at s.text.now))) text ∙ byte_behind (take s.at s.text.now) p.0 some.0 in
          let wrong : IfSome (Some some.0) (λ byte. slice_get s.text.now s.at ≢ Some byte) = subst (λ w. IfSome w (λ byte. slice_get s.text.now s.at ≢ Some byte)) some.1 s.apart in
          wrong there;
    }

pub met_begins : (s : Spelled) → IsPrefix (met s) (whole s)
met_begins s = (drop s.at s.text.now, sym (take-append-drop s.at s.text.now))

at_least : (printed part told met text : List ℕ) → told ≡ printed ++ part → length told ≡ length met + 1 → IsPrefix printed text → (IsPrefix told text → ⊥) → length printed ≤ length met
at_least printed [] told met text is long there apart = let same : told ≡ printed = is ∙ append-nil printed in absurd (apart (subst (λ t. IsPrefix t text) (sym same) there))
at_least printed (p ∷ ps) told met text is long there apart =
    let all : length told ≡ length printed + length (p ∷ ps) = ap length is ∙ length-append printed (p ∷ ps) in omega (arith, all, long)

pub failed : (old new : Spelled) (text printed bytes : List ℕ) → IsHeld old text printed → (IsRight new → ⊥) → AppendsPart (Some (spoken old)) (Some (spoken new)) bytes → HasParted new text printed bytes
failed old new text printed bytes held wrong part =
    let h = has_told old new part.0 part.2 in
    let w = is_wrong new wrong in
    let same : whole new ≡ text = h.whole_is ∙ held.whole_is in
    let told_is : told new ≡ printed ++ part.0 = h.told_is ∙ ap (λ t. t ++ part.0) (told_right old held.right ∙ held.met_is) in
    let long : length (told new) ≡ length (met new) + 1 = ap length w.told_is ∙ length-append (met new) (w.byte ∷ []) in
    let apart : IsPrefix (told new) text → ⊥ = λ p. w.apart (subst (λ t. IsPrefix (told new) t) (sym same) p) in
    let there : IsPrefix printed text = subst (λ t. IsPrefix t text) held.met_is (subst (λ t. IsPrefix (met old) t) held.whole_is (met_begins old)) in
    record {
      whole_is = same;
      begins = (w.byte ∷ [], w.told_is);
      told_long = long;
      told_begins = (part.1.0, ap (λ b. printed ++ b) part.1.1 ∙ sym (append_assoc printed part.0 part.1.0) ∙ ap (λ t. t ++ part.1.0) (sym told_is));
      apart = apart;
      printed_there = there;
      longer = at_least printed part.0 (told new) (met new) text told_is long there apart;
    }

-- a boot that goes on as the text does by whole lines goes on by no line that is not the text's
pub not_parted : (text printed : List ℕ) (lines : List Line) (front : List ℕ) → PartsByLine text printed lines → IsPrefix printed front → IsPrefix front text → EndsLine front → length printed < length front → IsPrefix front (text_of lines) → ⊥
not_parted text printed lines front o first there ends longer prints =
    o.other (prefix_then (printed ++ (o.line ++ 10 ∷ [])) front text (has_line_behind printed o.line front (text_of lines) o.lacks first prints o.prints ends longer) there)

-- so no boot goes on as the text does
none_goes_on : (new : Spelled) (text printed bytes : List ℕ) (lines : List Line) (front : List ℕ) → HasParted new text printed bytes → IsPrefix (printed ++ bytes) (text_of lines) ⊎ PartsByLine text printed lines
    → IsPrefix front text → EndsLine front → length (met new) < length front → IsPrefix front (text_of lines) → ⊥
none_goes_on new text printed bytes lines front f (inl p) there ends longer prints =
    let told_there = prefix_then (told new) (printed ++ bytes) (text_of lines) f.told_begins p in
    let long = f.told_long in
    f.apart (prefix_then (told new) front text (shorter_front (told new) front (text_of lines) told_there prints (omega (arith, long, longer))) there)
none_goes_on new text printed bytes lines front f (inr o) there ends longer prints =
    let least = f.longer in
    let more : length printed < length front = omega (arith, least, longer) in
    not_parted text printed lines front o (shorter_front printed front text f.printed_there there (omega (arith, more))) there ends more prints

none_is : (new : Spelled) (text printed bytes : List ℕ) (lines : List Line) → HasParted new text printed bytes → IsPrefix (printed ++ bytes) (text_of lines) ⊎ PartsByLine text printed lines → text_of lines ≡ text → ⊥
none_is new text printed bytes lines f (inl p) e =
    let told_there = prefix_then (told new) (printed ++ bytes) (text_of lines) f.told_begins p in f.apart (subst (λ t. IsPrefix (told new) t) e told_there)
none_is new text printed bytes lines f (inr o) e = o.other (subst (λ t. IsPrefix (printed ++ (o.line ++ 10 ∷ [])) t) e o.prints)

-- where all boots from here print these bytes next, the text is off
pub off : (Start Here : List Line → Type 0) (new : Spelled) (text printed bytes : List ℕ) → HasParted new text printed bytes → Tracks Start Here printed → AllPrint Here text printed bytes → IsOffHere Start text new
off Start Here new text printed bytes f tracks all =
    let lines = all.some.0 in
    let here = all.some.1 in
    let least = f.longer in
    let parts : IsOff Start text (met new) = record {
      begins = (lines, tracks.back lines here, prefix_then (met new) (told new) (text_of lines) f.begins (prefix_then (told new) (printed ++ bytes) (text_of lines) f.told_begins all.some.2));
      parted = λ other front start there ends longer prints.
          let printed_in = shorter_front printed front text f.printed_there there (omega (arith, least, longer)) in
          none_goes_on new text printed bytes other front f (all.each other (tracks.on other start (prefix_then printed front (text_of other) printed_in prints))) there ends longer prints;
      other = λ same start e. none_is new text printed bytes same f (all.each same (tracks.on same start (subst (λ t. IsPrefix printed t) (sym e) f.printed_there))) e;
    } in
    record { whole_is = f.whole_is; off = parts }

-- more was met, and of the boots from here those that print it go on
pub tracks_on : (Start Here Later : List Line → Type 0) (printed more : List ℕ) → Tracks Start Here printed → ((lines : List Line) → Later lines → Here lines)
    → ((lines : List Line) → Here lines → IsPrefix (printed ++ more) (text_of lines) → Later lines) → Tracks Start Later (printed ++ more)
tracks_on Start Here Later printed more tracks back on = record {
  back = λ lines later. tracks.back lines (back lines later);
  on = λ lines start begins. on lines (tracks.on lines start (prefix_then printed (printed ++ more) (text_of lines) (more, refl) begins)) begins;
}

pub held_on : (old new : Spelled) (text printed more : List ℕ) → IsHeld old text printed → GoesOn old new more → IsRight new → IsHeld new text (printed ++ more)
held_on old new text printed more held goes right = record {
  whole_is = goes.whole_is ∙ held.whole_is;
  met_is = goes.met_is ∙ ap (λ t. t ++ more) held.met_is;
  right = right;
}

-- what was met stands in the text
pub held_begins : (s : Spelled) (text printed : List ℕ) → IsHeld s text printed → IsPrefix printed text
held_begins s text printed held = subst (λ t. IsPrefix t text) held.met_is (subst (λ t. IsPrefix (met s) t) held.whole_is (met_begins s))

-- and what follows it in the text is left
pub held_left : (s : Spelled) (text printed more : List ℕ) → IsHeld s text printed → IsPrefix (printed ++ more) text → IsPrefix more (left s)
held_left s text printed more held there =
    let all : printed ++ left s ≡ printed ++ (more ++ there.0) =
    ap (λ t. t ++ left s) (sym held.met_is) ∙ take-append-drop s.at s.text.now ∙ held.whole_is ∙ there.1 ∙ append_assoc printed more there.0 in
    (there.0, same_behind printed (left s) (more ++ there.0) all)
