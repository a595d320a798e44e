-- The first pair of two lists that fires, and how the pairs that are left go on.
use Rattle.std.proofs.Common.{◌≡◌, ℕ, zero, suc, ◌+◌, ◌-◌, ◌≤◌, ◌<◌, Bool, true, false, cond, List, [], ◌∷◌, ◌++◌, length, arith, sym, refl, ap, ◌∙◌, Option, Some, None, nat_le, map, flat_map, slice_get, slice_index_or, is_some}
use Rattle.std.specs.Option.{option_or}
use Rattle.std.proofs.lemmas.Bool.Decides.{nat_tests}
use Rattle.store_model.specs.{declared.store_handle.Sweep.Sweep, declared.store_handle.Firing.Firing, declared.state.Entry.Entry}
use Rattle.pi_base.specs.{Guids.same_guid, Lists.numbers}
use Rattle.store_model.specs.{Service.Descriptor.guid_at, StoreState.StoreState}
use Rattle.store_laws.specs.Sweeps.{SweepsGoOn, standing}
use Rattle.store_model.specs.Service.Sweep.{first_firing, firing_at, have_one_guid, places_at, pairs_left, pairs_with, firing_of}

found_on : (s : StoreState) (sweep : Sweep) (pair : ℕ × ℕ) (places : Option (ℕ × ℕ)) → places_at s pair ≡ places → have_one_guid s places ≡ true
    → (later : Option (Firing × Sweep)) → option_or (firing_at s sweep pair) later ≡ firing_at s sweep pair
found_on s sweep pair None e h later = cc
found_on s sweep pair (Some places) e h later = rw e refl

one_more : (s : StoreState) (sweep : Sweep) (pair : ℕ × ℕ) (b : Bool) → have_one_guid s (places_at s pair) ≡ b → (then later all : Option (Firing × Sweep)) → all ≡ option_or then later
    → cond b (firing_at s sweep pair) all ≡ option_or (cond b (firing_at s sweep pair) then) later
one_more s sweep pair true h then later all e = sym (found_on s sweep pair (places_at s pair) refl h later)
one_more s sweep pair false h then later all e = e

pub firing_of_both : (s : StoreState) (sweep : Sweep) (xs ys : List (ℕ × ℕ)) → first_firing s sweep (xs ++ ys) ≡ option_or (first_firing s sweep xs) (first_firing s sweep ys)
firing_of_both s sweep [] ys = refl
firing_of_both s sweep (pair ∷ xs) ys =
    one_more s sweep pair (have_one_guid s (places_at s pair)) refl (first_firing s sweep xs) (first_firing s sweep ys) (first_firing s sweep (xs ++ ys)) (firing_of_both s sweep xs ys)

later_pairs : (sweep : Sweep) (ppi left : ℕ) (b : Bool) → nat_le sweep.ppi_to (ppi + 1) ≡ b → left ≡ sweep.ppi_to - ppi - 1
    → flat_map (pairs_with sweep sweep.note_from) (numbers (ppi + 1) left)
    ≡ cond b [] (pairs_with sweep sweep.note_from (ppi + 1) ++ flat_map (pairs_with sweep sweep.note_from) (numbers (ppi + 1 + 1) (sweep.ppi_to - (ppi + 1) - 1)))
later_pairs sweep ppi zero true h e = refl
later_pairs sweep ppi (suc left) true h e = absurd (let le : sweep.ppi_to ≤ ppi + 1 = grind (arith, nat_tests, h) in omega (arith, le, e))
later_pairs sweep ppi zero false h e = absurd (let le : ppi + 1 < sweep.ppi_to = grind (arith, nat_tests, h) in omega (arith, le, e))
later_pairs sweep ppi (suc left) false h e =
    let one : left ≡ sweep.ppi_to - (ppi + 1) - 1 = omega (arith, e) in
    ap (λ n. pairs_with sweep sweep.note_from (ppi + 1) ++ flat_map (pairs_with sweep sweep.note_from) (numbers (ppi + 1 + 1) n)) one

pub pairs_go_on : (sweep : Sweep) (ppi from : ℕ) → ppi < sweep.ppi_to
    → pairs_left (standing sweep ppi from) ≡ pairs_with sweep from ppi ++ pairs_left (standing sweep (ppi + 1) sweep.note_from)
pairs_go_on sweep ppi from below =
    let here : nat_le sweep.ppi_to ppi ≡ false = grind (arith, nat_tests) in
    rw here (ap (λ rest. pairs_with sweep from ppi ++ rest) (later_pairs sweep ppi (sweep.ppi_to - ppi - 1) (nat_le sweep.ppi_to (ppi + 1)) refl refl))

pub none_left : (s : StoreState) (sweep : Sweep) (ppi from : ℕ) → sweep.ppi_to ≤ ppi → first_firing s sweep (pairs_left (standing sweep ppi from)) ≡ None
none_left s sweep ppi from le = let here : nat_le sweep.ppi_to ppi ≡ true = grind (arith, nat_tests) in rw here refl

-- the pairs of one PPI go on with the next callback
pub pair_more : (sweep : Sweep) (ppi from : ℕ) → from < sweep.note_to → pairs_with sweep from ppi ≡ (ppi, from) ∷ pairs_with sweep (from + 1) ppi
pair_more sweep ppi from below =
    let left : sweep.note_to - from ≡ suc (sweep.note_to - (from + 1)) = omega (arith, below) in
    let with : ℕ → ℕ × ℕ = λ note. (ppi, note) in
    ap (λ n. map with (numbers from n)) left

-- the item with a number
pub got : {A : Type 0} (xs : List A) (i : ℕ) (x : A) → i < length xs → x ≡ slice_index_or xs i x → slice_get xs i ≡ Some x
got [] i x le e = absurd (omega (arith, le))
got (y ∷ ys) zero x le e = ap Some (sym e)
got (y ∷ ys) (suc i) x le e = got ys i x (omega (arith, le)) e

-- a pair whose GUIDs differ is passed over, and what fires at another
pub misses : (s : StoreState) (sweep : Sweep) (ppi note : ℕ) (p n : Entry) → slice_get s.ppis ppi ≡ Some p → slice_get s.callbacks note ≡ Some n
    → same_guid (guid_at s p.descriptor) (guid_at s n.descriptor) ≡ false → (rest : List (ℕ × ℕ)) → first_firing s sweep ((ppi, note) ∷ rest) ≡ first_firing s sweep rest
misses s sweep ppi note p n e f differ rest = rw e (rw f (rw differ refl))

pub fires_at : (s : StoreState) (sweep : Sweep) (ppi note : ℕ) (p n : Entry) → slice_get s.ppis ppi ≡ Some p → slice_get s.callbacks note ≡ Some n
    → firing_at s sweep (ppi, note) ≡ Some (firing_of s p.descriptor n.descriptor, record sweep { ppi_at = ppi; note_at = note + 1 })
fires_at s sweep ppi note p n e f = rw e (rw f refl)

first_is : (a b : Option (Firing × Sweep)) → is_some a ≡ true → option_or a b ≡ a
first_is None b h = cc
first_is (Some a) b h = refl

pub found_here : (s : StoreState) (sweep : Sweep) (ppi from : ℕ) (all : Option (Firing × Sweep)) (pair : ℕ × ℕ) → ppi < sweep.ppi_to
    → first_firing s sweep (pairs_left (standing sweep ppi from)) ≡ all → first_firing s sweep (pairs_with sweep from ppi) ≡ firing_at s sweep pair
    → is_some (firing_at s sweep pair) ≡ true → all ≡ firing_at s sweep pair
found_here s sweep ppi from all pair below e here fires =
    let both = ap (first_firing s sweep) (pairs_go_on sweep ppi from below) ∙ firing_of_both s sweep (pairs_with sweep from ppi) (pairs_left (standing sweep (ppi + 1) sweep.note_from)) in
    let later = first_firing s sweep (pairs_left (standing sweep (ppi + 1) sweep.note_from)) in
    sym e ∙ both ∙ ap (λ a. option_or a later) here ∙ first_is (firing_at s sweep pair) later fires

pub none_here : (s : StoreState) (sweep : Sweep) (ppi from : ℕ) (all : Option (Firing × Sweep)) → ppi < sweep.ppi_to
    → first_firing s sweep (pairs_left (standing sweep ppi from)) ≡ all → first_firing s sweep (pairs_with sweep from ppi) ≡ None
    → first_firing s sweep (pairs_left (standing sweep (ppi + 1) sweep.note_from)) ≡ all
none_here s sweep ppi from all below e here =
    let both = ap (first_firing s sweep) (pairs_go_on sweep ppi from below) ∙ firing_of_both s sweep (pairs_with sweep from ppi) (pairs_left (standing sweep (ppi + 1) sweep.note_from)) in
    let later = first_firing s sweep (pairs_left (standing sweep (ppi + 1) sweep.note_from)) in
    sym (ap (λ a. option_or a later) here) ∙ sym both ∙ e

pub all_go_on : SweepsGoOn
all_go_on = record { both = firing_of_both; next_ppi = pairs_go_on; next_note = pair_more; none_left = none_left }
