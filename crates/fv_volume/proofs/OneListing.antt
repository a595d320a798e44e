-- Behind sound headers there is a listing or a fault of the search, and not both.
use Rattle.std.proofs.Common.{◌≡◌, ℕ, zero, suc, ◌+◌, ◌-◌, ◌≤◌, ◌⊎◌, Bool, true, false, List, [], ◌∷◌, ◌++◌, length, Result, Ok, Err, refl, sym, ap, ◌∙◌, arith, subst, inl, inr, length-append, nat_le}
use Rattle.std.proofs.{lemmas.Bool.Decides.nat_tests, lemmas.List.Concat.flat_map-cons}
use Rattle.fv_volume.specs.{declared.item.Item.Item, declared.item.ItemKind.ItemKind, declared.file.FfsFile.FfsFile}
use Rattle.fv_volume.specs.declared.item.ItemKind.TheVariants.{Dead, Skipped, Pad, Listed}
use Rattle.fv_volume.specs.{declared.frame.Frame.Frame, declared.volume_header.Format.Format, declared.fault.VolCause.VolCause}
use Rattle.fv_volume.specs.{declared.fault.VolFault.VolFault, Frame.aligned, Item.item_at, Item.listed_of}
use Rattle.fv_volume.specs.Search.{ends_at, Leads, files_of, counted, counted_or_cause, met_at, IsListing, IsSearchFault}
use Rattle.fv_volume.proofs.Items.{has_room}
use Rattle.fv_volume.proofs.Searches.{leads_more, files_more, step}

-- no sound item follows, or its file would be one too many
abbrev pub Stops : List ℕ → Format → ℕ → ℕ → ℕ → Type 0
Stops image format room count at =
    ends_at image format at ≡ false → (item : Item) → item_at image format at ≡ Ok item → count + length (listed_of item.kind) ≤ room → ⊥

same_ok : (a b : Item) (r : Result Item VolCause) → r ≡ Ok a → r ≡ Ok b → a ≡ b
same_ok a b r p q = let e : ◌≡◌ {A = Result Item VolCause} (Ok a) (Ok b) = sym p ∙ q in cc

files_cons : (item : Item) (items : List Item) → length (files_of (item ∷ items)) ≡ length (listed_of item.kind) + length (files_of items)
files_cons item items = ap length (flat_map-cons (λ i. listed_of i.kind) item items) ∙ length-append (listed_of item.kind) (files_of items)

-- two searches that stop are one
pub one_leads : (image : List ℕ) (format : Format) (from : ℕ) (v w : List Item) (x y room : ℕ)
    → Leads image format from v x → Leads image format from w y → length (files_of v) ≤ room → length (files_of w) ≤ room
    → Stops image format room (length (files_of v)) x → Stops image format room (length (files_of w)) y → (v ≡ w) × (x ≡ y)
one_leads image format from [] [] x y room p q m n stop_x stop_y = (refl, sym p ∙ q)
one_leads image format from [] (b ∷ w) x y room p q m n stop_x stop_y =
    absurd (stop_x (rw (← p) q.0) b (rw (← p) q.1) (omega (arith, files_cons b w, n)))
one_leads image format from (a ∷ v) [] x y room p q m n stop_x stop_y =
    absurd (stop_y (rw (← q) p.0) a (rw (← q) p.1) (omega (arith, files_cons a v, m)))
one_leads image format from (a ∷ v) (b ∷ w) x y room p q m n stop_x stop_y =
    let same : a ≡ b = same_ok a b (item_at image format from) p.1 q.1 in
    let P : Item → Type 0 = λ i. Leads image format (aligned i.end) w y in
    let listed : length (listed_of a.kind) ≡ length (listed_of b.kind) = ap (λ i. length (listed_of i.kind)) same in
    let left = room - length (listed_of a.kind) in
    let rest = one_leads image format (aligned a.end) v w x y left p.2 (subst P (sym same) q.2)
    (omega (arith, files_cons a v, m)) (omega (arith, files_cons b w, n, listed))
    (λ on i here few. stop_x on i here (omega (arith, few, files_cons a v, m)))
    (λ on i here few. stop_y on i here (omega (arith, few, files_cons b w, n, listed))) in
    let tail = rest.0 in
    (cc, rest.1)

-- a search that has ended stops
pub end_stops : (image : List ℕ) (format : Format) (count at : ℕ) → ends_at image format at ≡ true → Stops image format 16384 count at
end_stops image format count at ends = λ on item here few.
    let both : true ≡ false = sym ends ∙ on in absurd cc

passes : (count : ℕ) (item : Item) (kind : ItemKind) → count + length (listed_of kind) ≤ 16384 → counted count item kind ≡ Ok item
passes count item (Listed file) few =
    let below : nat_le 16384 count ≡ false = grind (arith, nat_tests) in
    rw below refl
passes count item Dead few = refl
passes count item Skipped few = refl
passes count item Pad few = refl

-- a search stops at a fault
pub fault_stops : (image : List ℕ) (format : Format) (count at : ℕ) (cause : VolCause) → met_at image format count at ≡ Err cause → Stops image format 16384 count at
fault_stops image format count at cause e = λ on item here few.
    let met : met_at image format count at ≡ Ok item = ap (counted_or_cause count) here ∙ passes count item item.kind few in
    let both : ◌≡◌ {A = Result Item VolCause} (Err cause) (Ok item) = sym e ∙ met in
    absurd cc

which : (r : Result Item VolCause) → ((item : Item) × (r ≡ Ok item)) ⊎ ((cause : VolCause) × (r ≡ Err cause))
which (Ok item) = inl (item, refl)
which (Err cause) = inr (cause, refl)

is_end : (b : Bool) → (b ≡ true) ⊎ (b ≡ false)
is_end true = inl refl
is_end false = inr refl

-- from each sound beginning on there is a listing or a fault
pub some_search : (fuel : ℕ) (image : List ℕ) (frame : Frame) (at : ℕ) (before : List Item) → length image ≤ at + fuel
    → Leads image frame.format frame.start before at → length (files_of before) ≤ 16384
    → ((files : List FfsFile) × IsListing image frame files) ⊎ ((fault : VolFault) × IsSearchFault image frame fault)
some_search zero image frame at before left path few =
    elim (is_end (ends_at image frame.format at)) [
      | inl ends ↦ inl (files_of before, (before, at, path, ends, refl, few))
      | inr on ↦ absurd (omega (arith, has_room image frame.format at on))
    ]
some_search (suc fuel) image frame at before left path few =
    elim (is_end (ends_at image frame.format at)) [
      | inl ends ↦ inl (files_of before, (before, at, path, ends, refl, few))
      | inr on ↦ elim (which (met_at image frame.format (length (files_of before)) at)) [
        | inl met ↦
            let item = met.0 in
            let s = step image frame.format (length (files_of before)) at item on few met.1 in
            let more : length (files_of (before ++ item ∷ [])) ≤ 16384 = omega (arith, ap length (files_more before item), length-append (files_of before) (listed_of item.kind), s.few) in
            some_search fuel image frame (aligned item.end) (before ++ item ∷ []) (omega (arith, s.lies.begins))
            (leads_more image frame.format frame.start before at item path on s.sound) more
        | inr met ↦ inr (record { at = at; cause = met.0 }, (before, path, few, on, met.1))
      ]
    ]
