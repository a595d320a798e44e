-- Flags that are set and taken back, and blocks that are passed over.
use Rattle.std.proofs.Common.{◌≡◌, ℕ, zero, suc, ◌+◌, ◌*◌, ◌/◌, ◌≤◌, ◌<◌, Bool, true, false, ◌||◌, ◌&&◌, List, [], ◌∷◌, length, arith, ap, refl, subst, ◌∙◌, Option, Some, None, inl, inr, slice_set, replicate, IfNone}
use Rattle.std.proofs.lemmas.Bool.Decides.{leb_tells}
use Rattle.wait_index.specs.PlaceFlags.{flag, count, either, AreMarked, IsFirst}

pub flag_here : (flags : List Bool) (place : ℕ) (set : Bool) → place < length flags → flag (slice_set flags place set) place ≡ set
flag_here [] place set less = absurd (omega (arith, less))
flag_here (f ∷ flags) zero set less = refl
flag_here (f ∷ flags) (suc place) set less = flag_here flags place set (omega (arith, less))

pub flag_other : (flags : List Bool) (place : ℕ) (set : Bool) (other : ℕ) → ¬ (place ≡ other) → flag (slice_set flags place set) other ≡ flag flags other
flag_other [] place set other apart = refl
flag_other (f ∷ flags) zero set zero apart = absurd (apart refl)
flag_other (f ∷ flags) zero set (suc other) apart = refl
flag_other (f ∷ flags) (suc place) set zero apart = refl
flag_other (f ∷ flags) (suc place) set (suc other) apart = flag_other flags place set other (λ e. apart (ap suc e))

pub count_set : (flags : List Bool) (place : ℕ) → count (slice_set flags place true) ≤ count flags + 1
count_set [] place = omega arith
count_set (true ∷ flags) zero = omega arith
count_set (false ∷ flags) zero = omega arith
count_set (f ∷ flags) (suc place) = omega (arith, count_set flags place)

pub count_cleared : (flags : List Bool) (place : ℕ) → count (slice_set flags place false) ≤ count flags
count_cleared [] place = omega arith
count_cleared (true ∷ flags) zero = omega arith
count_cleared (false ∷ flags) zero = omega arith
count_cleared (f ∷ flags) (suc place) = omega (arith, count_cleared flags place)

pub count_less : (flags : List Bool) (place : ℕ) → flag flags place ≡ true → count (slice_set flags place false) + 1 ≡ count flags
count_less [] place set = let no : false ≡ true = set in absurd (cc)
count_less (true ∷ flags) zero set = omega arith
count_less (false ∷ flags) zero set = let no : false ≡ true = set in absurd (cc)
count_less (f ∷ flags) (suc place) set = omega (arith, count_less flags place set)

-- where no flag is set they count nothing
pub count_none : (flags : List Bool) → ((place : ℕ) → flag flags place ≡ false) → count flags ≡ 0
count_none [] none = refl
count_none (true ∷ flags) none = let no : true ≡ false = none 0 in absurd (cc)
count_none (false ∷ flags) none = omega (arith, count_none flags (λ place. none (suc place)))

-- a flag behind the end is not set
pub flag_behind : (flags : List Bool) (place : ℕ) → length flags ≤ place → flag flags place ≡ false
flag_behind [] place le = refl
flag_behind (f ∷ flags) zero le = absurd (omega (arith, le))
flag_behind (f ∷ flags) (suc place) le = flag_behind flags place (omega (arith, le))

not_true : (b : Bool) → (b ≡ true → ⊥) → b ≡ false
not_true true h = absurd (h refl)
not_true false h = refl

-- in an empty block no flag is set
pub unset_in : (flags blocks : List Bool) (block place : ℕ) → AreMarked flags blocks → flag blocks block ≡ false → place / 64 ≡ block → flag flags place ≡ false
unset_in flags blocks block place marked none here = not_true (flag flags place) (λ set.
    let there : flag blocks (place / 64) ≡ true = marked place set in
    let now : flag blocks block ≡ true = subst (λ n. flag blocks n ≡ true) here there in
    cc)

or_false : (a both b : Bool) → (a || (both && b)) ≡ false → (a ≡ false) × ((both && b) ≡ false)
or_false true both b h = absurd (cc)
or_false false both b h = (refl, h)

and_none : (both b c : Bool) → (both && b) ≡ false → (b ≡ false → c ≡ false) → (both && c) ≡ false
and_none true b c h f = f h
and_none false b c h f = refl

pub unset_in_either : (both : Bool) (flags blocks more more_blocks : List Bool) (block place : ℕ) → AreMarked flags blocks → AreMarked more more_blocks → either both blocks more_blocks block ≡ false
    → place / 64 ≡ block → either both flags more place ≡ false
unset_in_either both flags blocks more more_blocks block place marked more_marked none here =
    let parts = or_false (flag blocks block) both (flag more_blocks block) none in
    let one : flag flags place ≡ false = unset_in flags blocks block place marked parts.0 here in
    let two : (both && flag more place) ≡ false = and_none both (flag more_blocks block) (flag more place) parts.1 (λ e. unset_in more more_blocks block place more_marked e here) in
    ap (λ a. a || (both && flag more place)) one ∙ two

pub either_behind : (both : Bool) (flags more : List Bool) (place : ℕ) → length more ≡ length flags → length flags ≤ place → either both flags more place ≡ false
either_behind both flags more place same le =
    let two : (both && flag more place) ≡ false = and_none both false (flag more place) (elim both as (λ b. (b && false) ≡ false) [ true ↦ refl | false ↦ refl ]) (λ e. flag_behind more place (omega (arith, same, le))) in
    ap (λ a. a || (both && flag more place)) (flag_behind flags place le) ∙ two

-- none of the set comes before the end of an empty block, a place more, or the end of the flags
pub none_in_block : (both : Bool) (flags blocks more more_blocks : List Bool) (from at : ℕ) → AreMarked flags blocks → AreMarked more more_blocks → either both blocks more_blocks (at / 64) ≡ false
    → ((place : ℕ) → from ≤ place → place < at → either both flags more place ≡ false) → (place : ℕ) → from ≤ place → place < (at / 64 + 1) * 64 → either both flags more place ≡ false
none_in_block both flags blocks more more_blocks from at marked more_marked none before place le less = elim (leb_tells at place) [
  | inl here ↦ unset_in_either both flags blocks more more_blocks (at / 64) place marked more_marked none (omega (arith, here.1, less))
  | inr past ↦ before place le past.1
]

pub none_more : (test : ℕ → Bool) (from at : ℕ) → ((place : ℕ) → from ≤ place → place < at → test place ≡ false) → test at ≡ false → (place : ℕ) → from ≤ place → place < at + 1 → test place ≡ false
none_more test from at before here place le less = elim (leb_tells at place) [
  | inl on ↦ let same : at ≡ place = omega (arith, on.1, less) in subst (λ n. test n ≡ false) same here
  | inr past ↦ before place le past.1
]

pub none_at_end : (both : Bool) (flags more : List Bool) (from at : ℕ) → length more ≡ length flags → length flags ≤ at
    → ((place : ℕ) → from ≤ place → place < at → either both flags more place ≡ false) → (place : ℕ) → from ≤ place → either both flags more place ≡ false
none_at_end both flags more from at same end before place le = elim (leb_tells at place) [
  | inl on ↦ either_behind both flags more place same (omega (arith, on.1, end))
  | inr past ↦ before place le past.1
]

pub none_set : (n place : ℕ) → flag (replicate n false) place ≡ false
none_set zero place = refl
none_set (suc n) zero = refl
none_set (suc n) (suc place) = none_set n place

-- where no flag from the front on is set, none is
pub none_left : (flags : List Bool) (from : ℕ) (first : Option ℕ) → IsFirst (either false flags flags) from first → from ≡ 0 → IfNone first (count flags ≡ 0)
none_left flags from (Some place) is front = tt
none_left flags from None is front = count_none flags (λ place. (or_false (flag flags place) false (flag flags place) (is place (omega (arith, front)))).0)

-- after the first place from one on was taken out, none comes before it, where none came before the one
pub none_before : (old new : ℕ → Bool) (from first : ℕ) → ((place : ℕ) → place < from → old place ≡ false) → ((place : ℕ) → from ≤ place → place < first → old place ≡ false)
    → ((other : ℕ) → ¬ (first ≡ other) → new other ≡ old other) → (place : ℕ) → place < first → new place ≡ false
none_before old new from first before between others place less = others place (λ e. absurd (omega (arith, e, less))) ∙ elim (leb_tells from place) [
  | inl on ↦ between place on.1 less
  | inr past ↦ before place past.1
]

-- where none comes before a place, and none from it on, none is set
pub none_at_all : (flags : List Bool) (from : ℕ) → ((place : ℕ) → place < from → flag flags place ≡ false) → ((place : ℕ) → from ≤ place → flag flags place ≡ false) → count flags ≡ 0
none_at_all flags from before behind = count_none flags (λ place. elim (leb_tells from place) [
  | inl on ↦ behind place on.1
  | inr past ↦ before place past.1
])
