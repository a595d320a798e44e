-- All bytes are sections or have a first fault, and not both.
use Rattle.std.proofs.Common.{◌≡◌, ℕ, zero, suc, false, ◌+◌, ◌-◌, ◌<◌, ◌≤◌, List, [], ◌∷◌, ◌++◌, length, Result, Ok, Err, refl, sym, ap, ◌∙◌, arith, subst, inl, inr, ◌⊎◌, length-append, nat_le}
use Rattle.std.proofs.{lemmas.Bool.cases_lt, lemmas.Bool.Decides.nat_tests}
use Rattle.fv_volume.specs.{declared.sections.section.Section.Section, declared.sections.fault.SecCause.SecCause}
use Rattle.fv_volume.specs.{declared.sections.fault.SecFault.SecFault, SectionHeader.section_at}
use Rattle.fv_volume.specs.Stream.{GoesOn, Leads, place_after, met_at, AreSections, IsFirstFault}
use Rattle.fv_volume.proofs.Streams.{leads_more, met_ok, section_lies}

-- no sound section follows, or none has room
abbrev pub Stops : List ℕ → ℕ → ℕ → ℕ → Type 0
Stops bytes room count at = GoesOn bytes at → (section : Section) → section_at bytes at ≡ Ok section → count < room → ⊥

same_ok : (a b : Section) (r : Result Section SecCause) → r ≡ Ok a → r ≡ Ok b → a ≡ b
same_ok a b r p q = let e : ◌≡◌ {A = Result Section SecCause} (Ok a) (Ok b) = sym p ∙ q in cc

-- two streams that stop are one
pub one_leads : (bytes : List ℕ) (from : ℕ) (v w : List Section) (x y room : ℕ)
    → Leads bytes from v x → Leads bytes from w y → length v ≤ room → length w ≤ room → Stops bytes room (length v) x → Stops bytes room (length w) y → (v ≡ w) × (x ≡ y)
one_leads bytes from [] [] x y room p q m n stop_x stop_y = (refl, sym p ∙ q)
one_leads bytes from [] (b ∷ w) x y room p q m n stop_x stop_y = absurd (stop_x (rw (← p) q.0) b (rw (← p) q.1) (omega arith))
one_leads bytes from (a ∷ v) [] x y room p q m n stop_x stop_y = absurd (stop_y (rw (← q) p.0) a (rw (← q) p.1) (omega arith))
one_leads bytes from (a ∷ v) (b ∷ w) x y room p q m n stop_x stop_y =
    let same : a ≡ b = same_ok a b (section_at bytes from) p.1 q.1 in
    let P : Section → Type 0 = λ s. Leads bytes (place_after s) w y in
    let rest = one_leads bytes (place_after a) v w x y (room - 1) p.2 (subst P (sym same) q.2) (omega arith) (omega arith)
    (λ on s here few. stop_x on s here (omega (arith, few))) (λ on s here few. stop_y on s here (omega (arith, few))) in
    let tail = rest.0 in
    (cc, rest.1)

-- a stream that has ended stops
pub end_stops : (bytes : List ℕ) (count at : ℕ) → length bytes < at + 4 → Stops bytes 256 count at
end_stops bytes count at ends = λ on section here few. absurd (omega (arith, on, ends))

-- a stream stops at a fault
pub fault_stops : (bytes : List ℕ) (count at : ℕ) (cause : SecCause) → met_at bytes count at ≡ Err cause → Stops bytes 256 count at
fault_stops bytes count at cause e = λ on section here few.
    let open_ : nat_le 256 count ≡ false = grind (arith, nat_tests) in
    let met : met_at bytes count at ≡ Ok section = rw (open_) here in
    let both : ◌≡◌ {A = Result Section SecCause} (Err cause) (Ok section) = sym e ∙ met in
    absurd cc

pub fault_made : (f g : SecFault) → f.at ≡ g.at → f.cause ≡ g.cause → f ≡ g
fault_made f g p q =
    let of : ℕ × SecCause → SecFault = λ x. record { at = x.0; cause = x.1 } in
    let same : ◌≡◌ {A = ℕ × SecCause} (f.at, f.cause) (g.at, g.cause) = cc in
    ap of same

which : (r : Result Section SecCause) → ((section : Section) × (r ≡ Ok section)) ⊎ ((cause : SecCause) × (r ≡ Err cause))
which (Ok section) = inl (section, refl)
which (Err cause) = inr (cause, refl)

-- from each sound beginning on there are sections or a fault
pub some_reading : (fuel : ℕ) (bytes : List ℕ) (at : ℕ) (before : List Section) → length bytes ≤ at + fuel → Leads bytes 0 before at → length before ≤ 256
    → ((sections : List Section) × AreSections bytes sections) ⊎ ((fault : SecFault) × IsFirstFault bytes fault)
some_reading zero bytes at before left path few = inl (before, (at, path, omega arith, few))
some_reading (suc fuel) bytes at before left path few =
    elim (cases_lt (length bytes) (at + 4)) [
      | inl ends ↦ inl (before, (at, path, ends, few))
      | inr on ↦ elim (which (met_at bytes (length before) at)) [
        | inl met ↦
            let sound = met_ok bytes (length before) at met.0 met.1 in
            let lies = section_lies bytes at met.0 sound.1 in
            let more : length (before ++ met.0 ∷ []) ≤ 256 = omega (arith, length-append before (met.0 ∷ []), sound.0) in
            some_reading fuel bytes (place_after met.0) (before ++ met.0 ∷ []) (omega (arith, lies.begins)) (leads_more bytes 0 before at met.0 path on sound.1) more
        | inr met ↦ inr (record { at = at; cause = met.0 }, (before, path, few, on, met.1))
      ]
    ]
