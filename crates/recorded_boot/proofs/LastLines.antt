-- The last lines of a boot against a text.
use Rattle.std.proofs.Common.{◌≡◌, ℕ, List, [], ◌++◌, refl, sym, ◌∙◌, inl, Some, append-nil}
use Rattle.boot_io.specs.{Faults.IsPrefix, Sink.AppendsPart}
use Rattle.boot_model.specs.{declared.line.Line.Line, Text.text_of}
use Rattle.recorded_boot.specs.{declared.trace.spelled.Spelled.Spelled, Fronts.Tracks, Putting.AllPrint, Putting.IsOffHere}
use Rattle.recorded_boot.specs.Spelled.{IsHeld, IsRight, met, spoken}
use Rattle.recorded_boot.proofs.{TextFronts.prefix_then, Telling.failed, Telling.off}
use Rattle.recorded_boot.specs.FollowingText.{IsLast, IsWhole}

-- the whole boot was met
pub whole_by : (Lines : List Line → Type 0) (s : Spelled) (text printed last : List ℕ) → IsHeld s text (printed ++ last) → IsLast Lines printed last → IsWhole Lines text (met s) s
whole_by Lines s text printed last held is =
    let all : met s ≡ text_of is.all = held.met_is ∙ sym is.text_is in
    record {
      held = record { whole_is = held.whole_is; met_is = refl; right = held.right };
      lines = is.all;
      boots = is.boots;
      is = all;
      only = λ others boots begins.
          let more : IsPrefix printed (text_of others) = prefix_then printed (met s) (text_of others) (last, held.met_is) begins in
          is.only others boots more ∙ sym all;
    }

-- a part of them was, and the text is off
pub off_by : (Lines : List Line → Type 0) (old new : Spelled) (text printed last : List ℕ) → IsHeld old text printed → IsLast Lines printed last → (IsRight new → ⊥)
    → AppendsPart (Some (spoken old)) (Some (spoken new)) last → IsOffHere Lines text new
off_by Lines old new text printed last held is wrong part =
    let Here : List Line → Type 0 = λ lines. Lines lines × IsPrefix printed (text_of lines) in
    let tracks : Tracks Lines Here printed = record { back = λ lines here. here.0; on = λ lines boots begins. (boots, begins) } in
    let prints : (lines : List Line) → Lines lines → IsPrefix printed (text_of lines) → IsPrefix (printed ++ last) (text_of lines) = λ lines boots begins.
    ([], is.only lines boots begins ∙ is.text_is ∙ sym (append-nil (printed ++ last))) in
    let first : IsPrefix printed (text_of is.all) = (last, is.text_is) in
    let all : AllPrint Here text printed last = record {
      some = (is.all, (is.boots, first), prints is.all is.boots first);
      each = λ lines here. inl (prints lines here.0 here.1);
    } in
    off Lines Here new text printed last (failed old new text printed last held wrong part) tracks all
