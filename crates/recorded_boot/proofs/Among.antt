-- A start among those of lines of an order.
use Rattle.std.proofs.Common.{◌≡◌, ◌==◌, Bool, true, false, true≢false, ◌&&◌, ◌||◌, List, [], ◌∷◌, ◌++◌, refl, sym, ap, ◌∙◌, inl, inr, ◌⊎◌}
use Rattle.std.proofs.lemmas.Cmp.{nat_list_eq_equiv}
use Rattle.pi_base.specs.Guids.{same_guid}
use Rattle.recorded_boot.specs.{declared.order.line.AskedStart.AskedStart, declared.order.line.Start.Start, Against.IsAmong}
use Rattle.recorded_boot.specs.{ByOrder.starts_of, Finding.is_among_asked, Finding.same_start}
use Rattle.recorded_boot.proofs.Along.{nat_self, phase_self, same_starts}

same_self : (start : Start) → same_start start start ≡ true
same_self start =
    ap (λ b. b && (start.volume == start.volume && same_guid start.name start.name)) (phase_self start.phase) ∙ ap (λ b. b && same_guid start.name start.name) (nat_self start.volume)
    ∙ nat_list_eq_equiv.refl start.name.0

or_tells : (a b : Bool) → (a || b) ≡ true → (a ≡ true) ⊎ (b ≡ true)
or_tells true b e = inl refl
or_tells false b e = inr e

or_none : (a b : Bool) → (a || b) ≡ false → (a ≡ false) × (b ≡ false)
or_none true b e = cc
or_none false b e = (refl, e)

pub is_among : (start : Start) (made : List AskedStart) → is_among_asked start made ≡ true → IsAmong start (starts_of made)
is_among start [] e = cc
is_among start (asked ∷ made) e = elim (or_tells (same_start start asked.start) (is_among_asked start made) e) [
  | inl same ↦ ([], starts_of made, ap (λ s. s ∷ starts_of made) (sym (same_starts start asked.start same)))
  | inr later ↦ let rest = is_among start made later in (asked.start ∷ rest.0, rest.1, ap (λ xs. asked.start ∷ xs) rest.2)
]

no_start : (start : Start) (before behind : List Start) → [] ≡ before ++ start ∷ behind → ⊥
no_start start [] behind e = cc
no_start start (s ∷ before) behind e = cc

pub not_among : (start : Start) (made : List AskedStart) → is_among_asked start made ≡ false → IsAmong start (starts_of made) → ⊥
not_among start [] e among = no_start start among.0 among.1 among.2
not_among start (asked ∷ made) e among = by among.0 among.2 (or_none (same_start start asked.start) (is_among_asked start made) e) (not_among start made)
  where
    by : (before : List Start) → asked.start ∷ starts_of made ≡ before ++ start ∷ among.1 → (same_start start asked.start ≡ false) × (is_among_asked start made ≡ false)
        → (is_among_asked start made ≡ false → IsAmong start (starts_of made) → ⊥) → ⊥
    by [] is none rest = let same : asked.start ≡ start = cc in true≢false (sym (same_self start) ∙ ap (same_start start) (sym same) ∙ none.0)
    by (s ∷ before) is none rest = let on : starts_of made ≡ before ++ start ∷ among.1 = cc in rest none.1 (before, among.1, on)
