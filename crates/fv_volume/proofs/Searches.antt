-- A search that goes on by one item.
use Rattle.std.proofs.Common.{◌≡◌, ℕ, ◌+◌, ◌<◌, ◌≤◌, Bool, true, false, cond, List, [], ◌∷◌, ◌++◌, length, Result, Ok, Err, refl, ap, ◌∙◌, arith, subst, append-nil, nat_le}
use Rattle.std.proofs.{lemmas.Bool.Decides.nat_tests, lemmas.Grind.flat_map-append}
use Rattle.fv_volume.specs.{declared.item.Item.Item, declared.item.ItemKind.ItemKind, declared.volume_header.Format.Format}
use Rattle.fv_volume.specs.declared.item.ItemKind.TheVariants.{Dead, Skipped, Pad, Listed}
use Rattle.fv_volume.specs.{declared.fault.VolCause.VolCause, declared.fault.VolCause.TheVariants.TooManyFiles, Frame.aligned}
use Rattle.fv_volume.specs.Item.{item_at, listed_of}
use Rattle.fv_volume.specs.Search.{ends_at, Leads, files_of, counted, counted_or_cause, met_at}
use Rattle.fv_volume.proofs.Items.{Lies, item_lies}

-- one item more
pub leads_more : (image : List ℕ) (format : Format) (from : ℕ) (items : List Item) (to : ℕ) (item : Item)
    → Leads image format from items to → ends_at image format to ≡ false → item_at image format to ≡ Ok item
    → Leads image format from (items ++ item ∷ []) (aligned item.end)
leads_more image format from [] to item path on here = (rw path on, rw path here, refl)
leads_more image format from (first ∷ rest) to item path on here = (path.0, path.1, leads_more image format (aligned first.end) rest to item path.2 on here)

-- the listed files of one item more
pub files_more : (items : List Item) (item : Item) → files_of (items ++ item ∷ []) ≡ files_of items ++ listed_of item.kind
files_more items item =
    flat_map-append (λ i. listed_of i.kind) items (item ∷ []) ∙ ap (λ xs. files_of items ++ xs) (append-nil (listed_of item.kind))

same : (a b : Item) → ◌≡◌ {A = Result Item VolCause} (Ok a) (Ok b) → a ≡ b
same a b e = cc

-- an item that is met is sound, and its file not one too many
record Met (count : ℕ) (found : Result Item VolCause) (item : Item) : Type 0 where
  pub sound : found ≡ Ok item
  pub few : count + length (listed_of item.kind) ≤ 16384

few_listed : (count : ℕ) (full : Bool) (item met : Item) → cond full (Err TooManyFiles) (Ok item) ≡ Ok met → (full ≡ false) × (item ≡ met)
few_listed count true item met e = absurd cc
few_listed count false item met e = (refl, same item met e)

by_kind : (count : ℕ) (item met : Item) (kind : ItemKind) → count ≤ 16384 → counted count item kind ≡ Ok met → (item ≡ met) × (count + length (listed_of kind) ≤ 16384)
by_kind count item met (Listed file) few e =
    let p = few_listed count (nat_le 16384 count) item met e in
    let open_ = p.0 in
    let below : count < 16384 = grind (arith, nat_tests) in
    (p.1, omega arith)
by_kind count item met Dead few e = (same item met e, omega arith)
by_kind count item met Skipped few e = (same item met e, omega arith)
by_kind count item met Pad few e = (same item met e, omega arith)

by_result : (count : ℕ) (found : Result Item VolCause) (met : Item) → count ≤ 16384 → counted_or_cause count found ≡ Ok met → Met count found met
by_result count (Err cause) met few e = absurd cc
by_result count (Ok item) met few e =
    let p = by_kind count item met item.kind few e in
    let one = p.0 in
    subst (λ i. Met count (Ok item) i) p.0 (record { sound = refl; few = p.1 })

pub met_ok : (image : List ℕ) (format : Format) (count at : ℕ) (item : Item) → count ≤ 16384 → met_at image format count at ≡ Ok item
    → (item_at image format at ≡ Ok item) × (count + length (listed_of item.kind) ≤ 16384)
met_ok image format count at item few e =
    let m = by_result count (item_at image format at) item few e in
    (m.sound, m.few)

-- what an item that is met says
pub record Step (image : List ℕ) (format : Format) (count at : ℕ) (item : Item) : Type 0 where
  pub sound : item_at image format at ≡ Ok item
  pub few : count + length (listed_of item.kind) ≤ 16384
  pub lies : Lies image at item

pub step : (image : List ℕ) (format : Format) (count at : ℕ) (item : Item) → ends_at image format at ≡ false → count ≤ 16384 → met_at image format count at ≡ Ok item
    → Step image format count at item
step image format count at item on few e =
    let m = met_ok image format count at item few e in
    record { sound = m.0; few = m.1; lies = item_lies image format at item on m.0 }
