-- A draft with one entry more.
use Rattle.std.proofs.Common.{◌≡◌, ℕ, List, [], ◌∷◌, ◌++◌, Option, Some, None, refl, ap, ◌∙◌, filter_map, append-nil}
use Rattle.std.proofs.lemmas.List.Elements.{filter_map-append}
use Rattle.boot_plan.specs.{declared.draft.Draft.Draft, Draft.Keeps}
use Rattle.boot_plan.specs.Entry.{Entry, Temp, Ram, Volume, Fuel, Pages}
use Rattle.boot_plan.specs.Said.{Said, temps, rams, fuels, pages, temp_in, ram_in, volume_in, fuel_in, pages_in}

abbrev pub at_line : ℕ → Entry ℕ → Said
at_line line entry = record { line = line; entry = entry }

-- a statement of another kind adds nothing
same : {X : Type 0} (of : Said → Option X) (before : List Said) (s : Said) (kept : List X) → of s ≡ None → filter_map of before ≡ kept → filter_map of (before ++ s ∷ []) ≡ kept
same of before s kept none h = rw (filter_map-append of before (s ∷ []), none) (append-nil (filter_map of before) ∙ h)

more : {X : Type 0} (of : Said → Option X) (before : List Said) (s : Said) (kept : List X) (x : X) → of s ≡ Some x → filter_map of before ≡ kept → filter_map of (before ++ s ∷ []) ≡ kept ++ x ∷ []
more of before s kept x some h = rw (filter_map-append of before (s ∷ []), some) (ap (λ l. l ++ x ∷ []) h)

pub keeps_temp : (before : List Said) (d : Draft) (line base size : ℕ) → Keeps before d → temps before ≡ []
    → Keeps (before ++ at_line line (Temp base size) ∷ []) (record d { temp = Some (record { line = line; base = base; size = size }) })
keeps_temp before d line base size k first = let s = at_line line (Temp base size) in record {
  temp = more (λ s. temp_in s.line s.entry) before s [] _ refl first;
  ram = same (λ s. ram_in s.line s.entry) before s _ refl k.ram;
  volumes = same (λ s. volume_in s.entry) before s _ refl k.volumes;
  fuel = same (λ s. fuel_in s.line s.entry) before s _ refl k.fuel;
  pages = same (λ s. pages_in s.line s.entry) before s _ refl k.pages;
}

pub keeps_ram : (before : List Said) (d : Draft) (line base size : ℕ) → Keeps before d → rams before ≡ []
    → Keeps (before ++ at_line line (Ram base size) ∷ []) (record d { ram = Some (record { line = line; base = base; size = size }) })
keeps_ram before d line base size k first = let s = at_line line (Ram base size) in record {
  temp = same (λ s. temp_in s.line s.entry) before s _ refl k.temp;
  ram = more (λ s. ram_in s.line s.entry) before s [] _ refl first;
  volumes = same (λ s. volume_in s.entry) before s _ refl k.volumes;
  fuel = same (λ s. fuel_in s.line s.entry) before s _ refl k.fuel;
  pages = same (λ s. pages_in s.line s.entry) before s _ refl k.pages;
}

pub keeps_volume : (before : List Said) (d : Draft) (line base : ℕ) (name : List ℕ) → Keeps before d
    → Keeps (before ++ at_line line (Volume base name) ∷ []) (record d { volumes = d.volumes ++ record { base = base; name = name } ∷ [] })
keeps_volume before d line base name k = let s = at_line line (Volume base name) in record {
  temp = same (λ s. temp_in s.line s.entry) before s _ refl k.temp;
  ram = same (λ s. ram_in s.line s.entry) before s _ refl k.ram;
  volumes = more (λ s. volume_in s.entry) before s d.volumes _ refl k.volumes;
  fuel = same (λ s. fuel_in s.line s.entry) before s _ refl k.fuel;
  pages = same (λ s. pages_in s.line s.entry) before s _ refl k.pages;
}

pub keeps_fuel : (before : List Said) (d : Draft) (line count : ℕ) → Keeps before d → fuels before ≡ []
    → Keeps (before ++ at_line line (Fuel count) ∷ []) (record d { fuel = Some (record { line = line; value = count }) })
keeps_fuel before d line count k first = let s = at_line line (Fuel count) in record {
  temp = same (λ s. temp_in s.line s.entry) before s _ refl k.temp;
  ram = same (λ s. ram_in s.line s.entry) before s _ refl k.ram;
  volumes = same (λ s. volume_in s.entry) before s _ refl k.volumes;
  fuel = more (λ s. fuel_in s.line s.entry) before s [] _ refl first;
  pages = same (λ s. pages_in s.line s.entry) before s _ refl k.pages;
}

pub keeps_pages : (before : List Said) (d : Draft) (line size : ℕ) → Keeps before d → pages before ≡ []
    → Keeps (before ++ at_line line (Pages size) ∷ []) (record d { pages = Some (record { line = line; value = size }) })
keeps_pages before d line size k first = let s = at_line line (Pages size) in record {
  temp = same (λ s. temp_in s.line s.entry) before s _ refl k.temp;
  ram = same (λ s. ram_in s.line s.entry) before s _ refl k.ram;
  volumes = same (λ s. volume_in s.entry) before s _ refl k.volumes;
  fuel = same (λ s. fuel_in s.line s.entry) before s _ refl k.fuel;
  pages = more (λ s. pages_in s.line s.entry) before s [] _ refl first;
}
