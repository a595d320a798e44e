-- The next line of a text, as it is read.
use Rattle.std.proofs.Common.{◌≡◌, ℕ, Bool, true, false, ◌&&◌, None, Some, List, [], ◌∷◌, ◌++◌, refl, sym, ap, ◌∙◌, subst, not}
use Rattle.std.specs.List.{list_all}
use Rattle.boot_io.specs.Faults.{IsPrefix}
use Rattle.pi_base.specs.{declared.guid.Guid.Guid, declared.phase.Phase.Phase}
use Rattle.pi_base.specs.declared.phase.Phase.TheVariants.{Pei, Dxe}
use Rattle.boot_model.specs.{declared.licence.Licence.Licence, declared.line.Line.Line, Text.line_text}
use Rattle.recorded_boot.specs.{StartLine.phase_start, Starts.start_of}
use Rattle.recorded_boot.specs.Lines.{BeginsWithLine, Lacks, is_feed}
use Rattle.trace_reader.specs.Readable.{IsLineOf, IsReadable}
use Rattle.line_words.proofs.LineFeeds.{same_line}
use Rattle.trace_reader.proofs.LineBodies.{body_lacks, line_then}
use Rattle.recorded_boot.proofs.Lines.{body}

-- a line feed is there
lacks_none : (front rest : List ℕ) → Lacks (front ++ 10 ∷ rest) → ⊥
lacks_none [] rest lacks = let e : (not (is_feed 10) && list_all (λ byte. not (is_feed byte)) rest) ≡ false = refl in cc
lacks_none (x ∷ xs) rest lacks = lacks_none xs rest (second (not (is_feed x)) _ lacks)
  where
    second : (a b : Bool) → (a && b) ≡ true → b ≡ true
    second true b e = e
    second false b e = absurd (cc)

pub line_there : (line : Line) (rest : List ℕ) → IsPrefix (line_text line) rest → Lacks rest → ⊥
line_there line rest begins lacks = lacks_none (body line) begins.0 (subst Lacks (begins.1 ∙ line_then line begins.0) lacks)

-- the bytes of the next line are the line's
pub line_of_next : (line : Line) (rest bytes : List ℕ) → IsReadable line → IsPrefix (line_text line) rest → BeginsWithLine rest bytes → IsLineOf bytes line
line_of_next line rest bytes readable begins next =
    (readable, same_line bytes (body line) next.rest begins.0 next.lacks (body_lacks line readable) (sym next.is ∙ begins.1 ∙ line_then line begins.0))

-- and what is read is the line
pub line_is : ((a b : Line) → IsReadable a → IsReadable b → line_text a ≡ line_text b → a ≡ b) → (line found : Line) (bytes : List ℕ) → IsLineOf bytes line → IsLineOf bytes found → found ≡ line
line_is one line found bytes is read = one found line read.0 is.0 (ap (λ b. b ++ 10 ∷ []) (sym read.1 ∙ is.1))

pub nothing_there : {A : Type 0} (a : A) → None ≡ Some a → ⊥
nothing_there a e = cc

pub same_pair : {A B : Type 0} (p q : A × B) → Some p ≡ Some q → (p.0 ≡ q.0) × (p.1 ≡ q.1)
same_pair p q e = let same : p ≡ q = cc in (ap (λ x. x.0) same, ap (λ x. x.1) same)

-- and the start of which it tells
pub start_told : (phase : Phase) (volume : ℕ) (name : Guid) (licence : Licence) → start_of (phase_start phase volume name licence) ≡ Some (record { phase = phase; volume = volume; name = name })
start_told Pei volume name licence = refl
start_told Dxe volume name licence = refl
