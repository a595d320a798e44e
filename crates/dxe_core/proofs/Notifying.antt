-- The first notification of a sweep's protocol, from the first place of one.
use Rattle.std.proofs.Common.{◌≡◌, ℕ, zero, suc, ◌<◌, ◌≤◌, ◌+◌, ◌-◌, Bool, true, false, cond, List, Option, Some, None, refl, sym, ap, ◌∙◌, arith, inl, inr, find, option_map, slice_get, option_and_then}
use Rattle.std.proofs.lemmas.Bool.Decides.{eqb_tells}
use Rattle.pi_base.specs.Lists.{numbers}
use Rattle.guid_lists.specs.Places.{IsFirstFrom}
use Rattle.boot_model.specs.{declared.driver.ProtocolNote.ProtocolNote, declared.driver.ProtocolSweep.ProtocolSweep, DxeMachine.DxeMachine}
use Rattle.boot_model.specs.DxeStep.{next_note}
use Rattle.dxe_core.specs.Notes.{is_note}

none_in : (t : ℕ → Bool) (from c : ℕ) → ((k : ℕ) → from ≤ k → k < from + c → t k ≡ false) → find t (numbers from c) ≡ None
none_in t from zero none = refl
none_in t from (suc c) none =
    ap (λ b. cond b (Some from) (find t (numbers (from + 1) c))) (none from (omega arith) (omega arith)) ∙ none_in t (from + 1) c (λ k low high. none k (omega (arith, low)) (omega (arith, high)))

one_in : (t : ℕ → Bool) (from c p : ℕ) → from ≤ p → p < from + c → t p ≡ true → ((k : ℕ) → from ≤ k → k < p → t k ≡ false) → find t (numbers from c) ≡ Some p
one_in t from zero p low high is none = absurd (omega (arith, low, high))
one_in t from (suc c) p low high is none = elim (eqb_tells p from) [
  | inl here ↦ let e = here.1 in ap (λ b. cond b (Some from) (find t (numbers (from + 1) c))) (ap t (sym e) ∙ is) ∙ ap Some (sym e)
  | inr apart ↦
      let far = apart.1 in
      let less : from < p = omega (arith, low, far) in
      ap (λ b. cond b (Some from) (find t (numbers (from + 1) c))) (none from (omega arith) less)
      ∙ one_in t (from + 1) c p (omega (arith, less)) (omega (arith, high)) is (λ k at below. none k (omega (arith, at)) below)
]

abbrev told_at : List ProtocolNote → ProtocolSweep → Option ℕ → Option (ProtocolNote × ProtocolSweep)
told_at notes sweep place = option_and_then (λ place. option_map (λ note. (note, record sweep { note_at = place + 1 })) (slice_get notes place)) place

told_is : (m : DxeMachine) (notes : List ProtocolNote) (sweep : ProtocolSweep) (place : Option ℕ) → m.notes ≡ notes
    → find (is_note notes sweep.guid) (numbers sweep.note_at (sweep.note_to - sweep.note_at)) ≡ place → told_at notes sweep place ≡ next_note m sweep
told_is m notes sweep place e is =
    ap (told_at notes sweep) (sym is) ∙ ap (λ ns. told_at ns sweep (find (is_note ns sweep.guid) (numbers sweep.note_at (sweep.note_to - sweep.note_at)))) (sym e)

-- it is the one
pub told : (m : DxeMachine) (notes : List ProtocolNote) (sweep : ProtocolSweep) (place : ℕ) (note : ProtocolNote) → m.notes ≡ notes
    → IsFirstFrom (is_note notes sweep.guid) 0 sweep.note_at (Some place) → place < sweep.note_to → Some note ≡ slice_get notes place
    → Some (note, record sweep { note_at = place + 1 }) ≡ next_note m sweep
told m notes sweep place note same first less found =
    let on = first.1 in
    ap (option_map (λ note. (note, record sweep { note_at = place + 1 }))) found
    ∙ told_is m notes sweep (Some place) same
    (one_in (is_note notes sweep.guid) sweep.note_at (sweep.note_to - sweep.note_at) place on (omega (arith, on, less)) first.2 (λ k low high. first.3 k (omega arith) low high))

-- none is left
pub told_none : (m : DxeMachine) (notes : List ProtocolNote) (sweep : ProtocolSweep) → m.notes ≡ notes
    → IsFirstFrom (is_note notes sweep.guid) 0 sweep.note_at None → None ≡ next_note m sweep
told_none m notes sweep same none =
    told_is m notes sweep None same (none_in (is_note notes sweep.guid) sweep.note_at (sweep.note_to - sweep.note_at) (λ k low high. none k (omega arith) low))

pub told_late : (m : DxeMachine) (notes : List ProtocolNote) (sweep : ProtocolSweep) (place : ℕ) → m.notes ≡ notes
    → IsFirstFrom (is_note notes sweep.guid) 0 sweep.note_at (Some place) → sweep.note_to ≤ place → None ≡ next_note m sweep
told_late m notes sweep place same first late =
    told_is m notes sweep None same
    (none_in (is_note notes sweep.guid) sweep.note_at (sweep.note_to - sweep.note_at) (λ k low high. first.3 k (omega arith) low (omega (arith, high, late, low))))
