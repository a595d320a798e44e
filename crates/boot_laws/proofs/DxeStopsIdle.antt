-- DXE stops only where nothing is scheduled and no driver of a discovered volume that has not started may start.
use Rattle.std.proofs.Common.{◌≡◌, ℕ, zero, suc, ◌==◌, Bool, true, false, not, ◌&&◌, ◌||◌, cond, List, [], ◌∷◌, ◌++◌, Option, Some, None, refl, ap, ◌∙◌, length, find, flat_map}
use Rattle.std.specs.List.{list_any}
use Rattle.pi_base.specs.Lists.{Each}
use Rattle.mod_catalog.specs.{declared.catalogue.Catalog.Catalog, Parts.has_number}
use Rattle.boot_model.specs.{declared.driver.Scheduled.Scheduled, DxeMachine.DxeMachine, DriverLicence.DxeStopsIdle}
use Rattle.boot_model.specs.DxeChoice.{discovered_order, is_scheduled, is_waiting, queue_from, waiting, group_within, befores, afters, schedule_of, group_scheduled, first_eligible, is_eligible_driver}
use Rattle.boot_model.proofs.{ListFacts.each_at, Distinct.neither}
use Rattle.boot_laws.proofs.{PeiOrders.has_filtered, DxeCases.stops_from, EachDriver.order_has}

no_queue : (queue group : List Scheduled) → queue_from queue group ≡ [] → (queue ≡ []) × (group ≡ [])
no_queue [] group h = (refl, h)
no_queue (first ∷ rest) group h = cc

-- a list with an item in the middle is not empty
not_empty : (catalog : Catalog) (left right : List ℕ) (x : ℕ) → schedule_of catalog (left ++ x ∷ right) ≡ [] → ⊥
not_empty catalog [] right x h = cc
not_empty catalog (y ∷ left) right x h = cc

no_group : (catalog : Catalog) (m : DxeMachine) (deep number : ℕ) → schedule_of catalog (group_within catalog m deep number) ≡ [] → ⊥
no_group catalog m zero number h = not_empty catalog [] [] number h
no_group catalog m (suc deep) number h =
    not_empty catalog (flat_map (group_within catalog m deep) (befores catalog m number)) (flat_map (group_within catalog m deep) (afters catalog m number)) number h

no_eligible : (catalog : Catalog) (m : DxeMachine) (found : Option ℕ) → group_scheduled catalog m found ≡ [] → found ≡ None
no_eligible catalog m None h = refl
no_eligible catalog m (Some number) h = absurd (no_group catalog m (length (waiting catalog m)) number h)

none_on : (b later : Bool) (x : ℕ) (rest : Option ℕ) → (rest ≡ None → later ≡ false) → cond b (Some x) rest ≡ None → (b || later) ≡ false
none_on true later x rest f h = cc
none_on false later x rest f h = f h

none_found : (p : ℕ → Bool) (xs : List ℕ) → find p xs ≡ None → list_any p xs ≡ false
none_found p [] h = refl
none_found p (x ∷ xs) h = none_on (p x) (list_any p xs) x (find p xs) (none_found p xs) h

-- what no item passes each item fails
none_passes : (p : ℕ → Bool) (xs : List ℕ) → list_any p xs ≡ false → Each (λ x. p x ≡ false) xs
none_passes p [] h = tt
none_passes p (x ∷ xs) h = let both = neither (p x) (list_any p xs) h in (both.0, none_passes p xs both.1)

-- where nothing is scheduled, what has not started waits
waits : (m : DxeMachine) (number : ℕ) → m.scheduled ≡ [] → has_number m.started number ≡ false → is_waiting m number ≡ true
waits m number empty new =
    let none : is_scheduled m number ≡ false = ap (λ queue. list_any (λ next. next.module_number == number) queue) empty in
    ap (λ b. not b && not (has_number m.started number)) none ∙ ap not new

pub stops_idle : (catalog : Catalog) (m : DxeMachine) → DxeStopsIdle catalog m
stops_idle catalog m stops =
    let both = no_queue m.scheduled (group_scheduled catalog m (first_eligible catalog m)) (stops_from catalog m m.frames stops) in
    let none = none_found (is_eligible_driver catalog m) (waiting catalog m) (no_eligible catalog m (first_eligible catalog m) both.1) in
    record {
      scheduled = both.0;
      waits = λ number is new.
          each_at (λ n. is_eligible_driver catalog m n ≡ false) (waiting catalog m) number (none_passes (is_eligible_driver catalog m) (waiting catalog m) none)
          (has_filtered (is_waiting m) (discovered_order catalog m) number (waits m number both.0 new) (order_has catalog m number is));
    }
